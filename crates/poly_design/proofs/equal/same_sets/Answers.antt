use Rattle.std.proofs.Common.{rules, sym, ◌∙◌, ◌≡◌}
use Rattle.std.proofs.lemmas.Slice.Eq.{slice_eq-Decides}
use Rattle.poly_shape.proofs.Flood.{cells_decide}
use Rattle.poly_design.proofs.equal.same_sets.Goals as goal

pub returns : goal.returns
returns c =
    let a : c.as_slice.result.now ≡ c.args.a.now = search rules in
    let b : c.as_slice-2.result.now ≡ c.args.b.now = search rules in
    let d = slice_eq-Decides cells_decide c.as_slice.result.now c.as_slice-2.result.now c.eq.result c.eq.ensures in
    (λ t. sym a ∙ d.0 t ∙ b, λ e. d.1 (a ∙ e ∙ sym b))
