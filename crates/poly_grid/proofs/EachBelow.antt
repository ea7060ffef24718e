-- A fact about each number below a bound, as one tuple, which the prover's tactic `search` can prove at once.
use Rattle.std.proofs.Common.{ℕ, zero, suc, ◌<◌, arith, below_more}

abbrev pub EachBelow : (ℕ → Type 0) → ℕ → Type 0
EachBelow P zero = Unit {0}
EachBelow P (suc n) = EachBelow P n × P n

pub at_below : (P : ℕ → Type 0) (n : ℕ) → EachBelow P n → (k : ℕ) → k < n → P k
at_below P zero each k lt = absurd (omega arith)
at_below P (suc n) each k lt = below_more P n (at_below P n each.0) each.1 k (omega arith)

-- a tuple of such tuples gives `P j k` for any `j` below `m` and any `k` below `n`
pub at_both_below : (P : ℕ → ℕ → Type 0) (m n : ℕ) → EachBelow (λ j. EachBelow (P j) n) m → (j k : ℕ) → j < m → k < n → P j k
at_both_below P m n each j k a b = at_below (P j) n (at_below (λ i. EachBelow (P i) n) m each j a) k b
