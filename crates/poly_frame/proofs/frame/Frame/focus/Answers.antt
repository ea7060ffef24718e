use Rattle.std.proofs.Common.{List, [], ap, arith, length, reverse, subst, sym, ℕ, ◌<◌, ◌≡◌, ◌∙◌, ◌∷◌}
use Rattle.poly_atom.specs.Hopeless.{base}
use Rattle.poly_frame.specs.Frames.{IsFrame}
use Rattle.poly_frame.specs.Walk.{Walk}
use Rattle.std.proofs.lemmas.List.{reverse-append}
use Rattle.poly_tiling.specs.Puzzle.{View}
use Rattle.poly_atom.specs.declared.atom.Atom.{Atom}
use Rattle.poly_frame.specs.Layers.{LayerShows, PileShows}
use Rattle.poly_frame.specs.declared.frame.layers.Layer.{Layer}
use Rattle.poly_frame.specs.Matrices.{matrix_of}
use Rattle.poly_frame.specs.declared.frame.node.Stand.{Stand}
use Rattle.poly_frame.specs.declared.frame.steps.Steps.{Steps}
use Rattle.poly_frame.proofs.Layers.{pile_focus}
use Rattle.poly_frame.proofs.Stepped.{kept_at}
use Rattle.poly_frame.proofs.frame.Frame.focus.Goals as goal

pub invariant_of-self-2 : goal.invariant_of-self-2
invariant_of-self-2 c =
    let f = c.self.inside in
    let F = c.self.invariant in
    let at = f.stand in
    let l = c.in_ok-narrow.narrow in
    let shows : LayerShows at.view.now f.trail.items l =
    subst (λ (v : View). LayerShows v f.trail.items l) c.node-node.ensures.view (subst (λ (A : List Atom). LayerShows c.node-node.result.view.now A l) (c.node-node.ensures.trail ∙ c.deref.ensures.value) c.in_ok-narrow.ensures.layer) in
    let wide = c.exchange-wide.result in
    let old = c.self.inside.under.items in
    let below : LayerShows at.view.now f.trail.items wide =
    subst (λ (x : Layer). LayerShows at.view.now f.trail.items x) (sym c.exchange-wide.ensures.layer) (record { levels = F.levels; room = F.room }) in
    let low : wide.base < length f.trail.items = omega (arith, c.if-self-len.false, c.len.ensures, f.trail.ok.0, ap (λ (x : Layer). x.base) c.exchange-wide.ensures.layer) in
    let last : reverse c.push_reserved.new.self.items ≡ wide ∷ reverse old = ap reverse c.push_reserved.ensures.items ∙ reverse-append c.reserve.new.self.items (wide ∷ []) ∙ ap (λ ls. wide ∷ reverse ls) c.reserve.ensures.items in
    let here : l.base ≡ length f.trail.items = c.in_ok-narrow.ensures.here ∙ ap length (c.node-node.ensures.trail ∙ c.deref.ensures.value) in
    let pile = pile_focus at.view.now f.trail.items at.given wide (reverse old) low below (subst (λ (n : ℕ). PileShows at.view.now f.trail.items at.given n (reverse old)) (sym (ap (λ (x : Layer). x.base) c.exchange-wide.ensures.layer)) F.pile) in
    let under = c.push_reserved.new.self in
    subst (λ (s : Stand). IsFrame s.view.now f.trail s.given f.members f.sizes f.consistent f.options (matrix_of s.columns) s.table c.exchange-wide.new.steps s.base under.items s.alive.items) (sym c.exchange-wide.ensures.stand)
    (subst (λ (s : Steps). IsFrame at.view.now f.trail at.given f.members f.sizes f.consistent f.options (matrix_of l.columns) l.table s l.base under.items at.alive.items) (sym c.exchange-wide.ensures.steps) (record {
      lists = F.lists;
      grown = F.grown;
      right = F.right;
      changes = F.changes;
      levels = shows.levels;
      room = shows.room;
      pile = subst (λ (ls : List Layer). PileShows at.view.now f.trail.items at.given l.base ls) (sym last) (subst (λ (n : ℕ). PileShows at.view.now f.trail.items at.given n (wide ∷ reverse old)) (sym here) pile);
      lives = F.lives;
    }))

-- more room for layers changes nothing that the frame keeps
pub invariant_of-self : goal.invariant_of-self
invariant_of-self c =
    let f = c.self.inside in
    let at = f.stand in
    subst (λ (ls : List Layer). IsFrame at.view.now f.trail at.given f.members f.sizes f.consistent f.options (matrix_of at.columns) at.table f.steps at.base ls at.alive.items) (sym c.reserve.ensures.items) c.self.invariant

pub invariant_of-self-in_err-reserve-2 : goal.invariant_of-self-in_err-reserve-2
invariant_of-self-in_err-reserve-2 c =
    let f = c.self.inside in
    let at = f.stand in
    subst (λ (ls : List Layer). IsFrame at.view.now f.trail at.given f.members f.sizes f.consistent f.options (matrix_of at.columns) at.table f.steps at.base ls at.alive.items) (sym c.reserve.ensures.items) c.self.invariant

pub invariant_of-self-in_err-narrow : goal.invariant_of-self-in_err-narrow
invariant_of-self-in_err-narrow c =
    let f = c.self.inside in
    let at = f.stand in
    subst (λ (ls : List Layer). IsFrame at.view.now f.trail at.given f.members f.sizes f.consistent f.options (matrix_of at.columns) at.table f.steps at.base ls at.alive.items) (sym c.reserve.ensures.items) c.self.invariant

pub narrow_layer-requires-clause-kept : goal.narrow_layer-requires-clause-kept
narrow_layer-requires-clause-kept c =
    let f = c.self.inside in
    let at = f.stand in
    let n = c.node-node.result in
    let e = c.node-node.ensures in
    kept_at at.view.now n.view.now f.trail.items n.trail.now at.base n.base (matrix_of at.columns) n.matrix.now at.table n.table.now f.steps e.view (e.trail ∙ c.deref.ensures.value) e.base e.matrix e.table c.self.invariant.levels

pub narrow_layer-requires-clause-members : goal.narrow_layer-requires-clause-members
narrow_layer-requires-clause-members c =
    let f = c.self.inside in
    let n = c.node-node.result in
    let e = c.node-node.ensures in
    c.deref-2.ensures.value ∙ c.self.invariant.lists.base ∙ ap (λ (v : View). base v f.trail.items) (sym e.view) ∙ ap (λ (A : List Atom). base n.view.now A) (sym (e.trail ∙ c.deref.ensures.value))

pub narrow_layer-requires-clause-few : goal.narrow_layer-requires-clause-few
narrow_layer-requires-clause-few c = omega (arith, c.deref-2.type_inv)

pub push_reserved-requires : goal.push_reserved-requires
push_reserved-requires c = omega (arith, c.in_ok-reserve.ensures.ok)

pub returns-in_err-reserve-clause-same : goal.returns-in_err-reserve-clause-same
returns-in_err-reserve-clause-same c = c.self.view_is

pub returns-in_err-reserve-2-clause-same : goal.returns-in_err-reserve-2-clause-same
returns-in_err-reserve-2-clause-same c = c.self.view_is

pub returns-in_err-narrow-clause-same : goal.returns-in_err-narrow-clause-same
returns-in_err-narrow-clause-same c = c.self.view_is

pub returns-clause-same : goal.returns-clause-same
returns-clause-same c = ap (λ (s : Stand). let x : Walk = record { scene = s.view.now; atoms = c.self.inside.trail.items; given = s.given } in x) c.exchange-wide.ensures.stand ∙ c.self.view_is
