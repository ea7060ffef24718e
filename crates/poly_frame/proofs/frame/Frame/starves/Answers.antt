use Rattle.std.proofs.Common.{[], ap, not, nat_lt, ◌&&◌, ◌++◌, ◌∙◌, ◌∷◌, ◌≡◌}
use Rattle.poly_tiling.specs.Lists.{mem, tally}
use Rattle.poly_tiling.specs.Puzzle.{has_item}
use Rattle.poly_atom.specs.declared.atom.Atom.TheVariants.{Has}
use Rattle.poly_frame.specs.Open.{least_with_base, ruled_out}
use Rattle.poly_frame.specs.Walk.{Walk}
use Rattle.poly_frame.proofs.Starved.{without_arms}
use Rattle.poly_frame.proofs.frame.Frame.starves.Goals as goal

pub returns-clause-value : goal.returns-clause-value
returns-clause-value c =
    let w = c.args.self.now in
    let i = c.args.item in
    let A = w.atoms ++ Has c.args.placement ∷ [] in
    let n : c.count_allowed.result ≡ tally (λ p. has_item w.scene p i && not (ruled_out w.scene A p) && not (mem [] p)) w.scene.live =
    c.count_allowed.ensures.value ∙ ap (λ (x : Walk). tally (λ p. has_item x.scene p i && not (ruled_out x.scene x.atoms p)) x.scene.live) c.pick.ensures ∙ without_arms w.scene A i w.scene.live in
    let m : c.least.result ≡ least_with_base w.scene A i = c.least.ensures ∙ ap (λ (x : Walk). least_with_base x.scene x.atoms i) c.pick.ensures in
    ap (λ k. nat_lt k c.least.result) n ∙ ap (λ k. nat_lt (tally (λ p. has_item w.scene p i && not (ruled_out w.scene A p) && not (mem [] p)) w.scene.live) k) m
