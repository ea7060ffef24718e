use Rattle.std.proofs.Common.{◌≡◌, ◌-◌, ◌++◌, [], take, drop, arith, length, refl, ◌∙◌, ap, append-nil}
use Rattle.std.proofs.Math.Seq.{take-add}
use Rattle.std.proofs.lemmas.List.{take-append-drop}
use Rattle.std.proofs.lemmas.Slice.{between_to_end}
use Rattle.poly_cli.proofs.Known.{appends_more, appends_keeps}
use Rattle.poly_cli.proofs.writing.write_bytes.Goals as goal

pub returns-in-Ok-eq0 : goal.returns-in-Ok-eq0
returns-in-Ok-eq0 g c =
    let at = c.loop-at.at in
    let bytes = c.args.bytes.now in
    let none : c.in-Ok-eq0.field-0 ≡ 0 = omega arith in (
      refl,
      take at bytes ++ [],
      drop at bytes,
      appends_more _ _ _ _ _ c.loop-at.invariant.1 (rw none at c.in-Ok-eq0.ensures.bytes),
      ap (λ z. z ++ drop at bytes) (append-nil (take at bytes)) ∙ take-append-drop at bytes,
    )

pub returns-in-Err : goal.returns-in-Err
returns-in-Err g c =
    let at = c.loop-at.at in
    let bytes = c.args.bytes.now in (
      refl,
      take at bytes,
      drop at bytes,
      appends_keeps _ _ _ _ c.loop-at.invariant.1 c.in-Err.ensures.bytes,
      take-append-drop at bytes,
    )

pub loop-at-preserved : goal.loop-at-preserved
loop-at-preserved g c =
    let whole : take (length c.args.bytes.now - c.loop-at.at) (drop c.loop-at.at c.args.bytes.now) ≡ drop c.loop-at.at c.args.bytes.now = between_to_end c.args.bytes.now c.loop-at.at (length c.args.bytes.now) (omega arith) in (
      omega (arith, c.in-Ok.ensures.bound),
      rw (take-add c.loop-at.at c.in-Ok.n c.args.bytes.now, ← whole) (appends_more _ _ _ _ _ c.loop-at.invariant.1 c.in-Ok.ensures.bytes),
    )
