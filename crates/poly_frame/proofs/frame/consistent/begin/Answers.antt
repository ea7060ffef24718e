use Rattle.std.proofs.Common.{List, ap, not, subst, sym, true, ℕ, ◌&&◌, ◌∙◌, ◌≡◌}
use Rattle.std.specs.List.{list_all, list_any}
use Rattle.poly_tiling.specs.Lists.{mem}
use Rattle.poly_tiling.specs.declared.bound.Bound.{Bound}
use Rattle.poly_atom.specs.Hopeless.{base, lacks}
use Rattle.poly_frame.specs.FrameConsistent.{AllFit}
use Rattle.poly_frame.specs.FrameTable.{HaveShows}
use Rattle.poly_frame.proofs.FrameConsistent.{all_kept, consistent_fits, consistent_one}
use Rattle.poly_frame.proofs.frame.consistent.begin.Goals as goal

pub returns-then-are_kept : goal.returns-then-are_kept
returns-then-are_kept c =
    let v = c.args.view.now in
    let A = c.args.atoms.now in
    let kept = λ (ns : List ℕ) (p : ℕ). mem ns p && not (list_any (λ a. lacks a p) A) in
    let fit = subst (λ (bs : List Bound). AllFit bs c.args.mosts.now c.args.have.now) c.items.ensures.value (c.all_fit.ensures c.if-all_fit.true) in
    let have = subst (λ (xs : List ℕ). HaveShows v xs c.args.have.now) c.requires.base c.requires.have in
    let all : list_all (kept v.live) (base v A) ≡ true = ap (λ xs. list_all (kept v.live) xs) (sym c.requires.base) ∙ all_kept c.args.part.now.numbers.items v.live (λ p. not (list_any (λ a. lacks a p) A)) c.requires.part.live c.args.members.now (sym c.are_kept.ensures ∙ c.if-are_kept.true) in
    consistent_one v A (consistent_fits v A c.args.mosts.now c.args.have.now c.items.ensures.well c.requires.mosts have fit all)
