use Rattle.std.proofs.Common.{sym, ◌∙◌}
use Rattle.std.proofs.lemmas.Bool.{true≢false}
use Rattle.poly_design.proofs.Same.{placement_itself, placement_same}
use Rattle.poly_tiling.proofs.Shown.{conflict_from, conflict_shares}
use Rattle.poly_tiling.proofs.conflicts.conflict.Goals as goal

pub returns-then-eq : goal.returns-then-eq
returns-then-eq c =
    let same = placement_same c.args.a.now c.args.b.now (sym c.if-eq.ensures) in
    (λ e. absurd (true≢false (sym e)), λ k. absurd (k.differ same))

pub returns : goal.returns
returns c = (
  λ e. conflict_from c.args.a.now c.args.b.now
      (λ same. true≢false (sym (placement_itself c.args.a.now c.args.b.now same) ∙ sym c.if-eq.ensures))
      (sym c.meets.ensures ∙ e),
  λ k. c.meets.ensures ∙ conflict_shares c.args.a.now c.args.b.now k,
)
