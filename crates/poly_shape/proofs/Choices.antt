-- If each number below n has an element of a list that belongs to no other number, the list has at least n elements.
use Rattle.std.proofs.Common.{◌≡◌, ℕ, zero, suc, ◌+◌, ◌-◌, ◌<◌, ◌≤◌, List, length, get_or, inl, inr, ap, sym, subst, ◌∙◌, arith}
use Rattle.std.proofs.lemmas.Bool.{cases_lt}
use Rattle.std.proofs.lemmas.List.Edits.{length-remove, get_or-remove_below, get_or-remove_above}
use Rattle.std.proofs.lemmas.List.{get_or_default}
use Rattle.std.specs.List.{Contains, remove}

module _ {Y : Type 0} where
  contains_remove : (ys : List Y) (i k : ℕ) (y : Y) → i < length ys → k < length ys → (k ≡ i → ⊥) → get_or ys k y ≡ y → Contains (remove ys i) y
  contains_remove ys i k y li lk other e =
      let len = length-remove ys i li in
      elim (cases_lt k i) [
        | inl below ↦ (k, omega (arith, len), get_or-remove_below ys i y k below li ∙ e)
        | inr from ↦
            let back : k - 1 + 1 ≡ k = omega arith in
            (k - 1, omega (arith, len), get_or-remove_above ys i y (k - 1) (omega arith) li ∙ ap (λ j. get_or ys j y) back ∙ e)
      ]

  pub length-choices : (R : ℕ → Y → Type 0) → ((j k : ℕ) (y : Y) → R j y → R k y → j ≡ k) → (n : ℕ) (ys : List Y)
      → ((k : ℕ) → k < n → (y : Y) × Contains ys y × R k y) → n ≤ length ys
  length-choices R one zero ys each = omega arith
  length-choices R one (suc n) ys each =
      let last = each n (omega arith) in
      let i = last.1.0 in
      let li : i < length ys = last.1.1 in
      let rest : (k : ℕ) → k < n → (y : Y) × Contains (remove ys i) y × R k y = λ k lt.
      let o = each k (omega arith) in
      let other : o.1.0 ≡ i → ⊥ = λ same.
      let at : o.0 ≡ last.0 = sym o.1.2 ∙ ap (λ j. get_or ys j o.0) same ∙ get_or_default ys i o.0 last.0 li ∙ last.1.2 in
      let e = one k n last.0 (subst (R k) at o.2) last.2 in
      omega (arith, e) in
      (o.0, contains_remove ys i o.1.0 o.0 li o.1.1 other o.1.2, o.2) in
      let le = length-choices R one n (remove ys i) rest in
      let len = length-remove ys i li in
      omega (arith, le, len)
