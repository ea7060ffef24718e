use Rattle.std.proofs.Common.{List, ap, arith, get_or, inl, inr, length, ℕ, ◌-◌, ◌<◌, ◌∙◌, ◌≡◌, ◌≤◌}
use Rattle.std.proofs.lemmas.Bool.{cases_eq}
use Rattle.poly_frame.proofs.frame.table.end_of.Goals as goal

-- if the entries from n on are 0, and the one before them too, all from n - 1 on are 0
quiet_more : (xs : List ℕ) (n : ℕ) → get_or xs (n - 1) 0 ≡ 0 → ((b : ℕ) → n ≤ b → b < length xs → get_or xs b 0 ≡ 0) → (b : ℕ) → n - 1 ≤ b → b < length xs → get_or xs b 0 ≡ 0
quiet_more xs n e h b l m = elim (cases_eq b (n - 1)) [
  | inl s ↦ ap (λ k. get_or xs k 0) s ∙ e
  | inr d ↦ h b (omega (arith, l, d)) m
]

pub returns-then-n-gt0 : goal.returns-then-n-gt0
returns-then-n-gt0 c = λ b l h. c.loop-end.invariant.quiet b l h

pub returns : goal.returns
returns c = λ b l h. c.loop-end.invariant.quiet b (omega (arith, c.loop-end-test.false)) h

pub loop-end-preserved : goal.loop-end-preserved
loop-end-preserved c = record {
  low = omega (arith, c.loop-end.invariant.low);
  quiet = quiet_more c.args.leasts.now c.loop-end.end (omega (arith, c.if-n-gt0.false)) c.loop-end.invariant.quiet;
}
