-- A test that answers with one flag after the other keeps the elements whose flags are true.
use Rattle.std.proofs.Common.{Bool, List, [], ap, arith, drop, false, get_or, length, sym, ℕ, ◌+◌, ◌<◌, ◌∙◌, ◌∷◌, ◌≡◌}
use Rattle.std.proofs.lemmas.List.{drop_all, drop_more}
use Rattle.std.specs.List.Retain.{ReturnsInTurn}

pub told_flags : {X F : Type 0} (T : F → X → Bool → F → Type 0) (I : F → ℕ → Type 0) (flags : List Bool) →
    ((g : F) (x : X) (b : Bool) (g' : F) (k : ℕ) → I g k → k < length flags → T g x b g' → (b ≡ get_or flags k false) × I g' (k + 1)) →
    (g : F) (k : ℕ) (bs : List Bool) (xs : List X) (q : F) → I g k → length bs ≡ length xs → k + length xs ≡ length flags → ReturnsInTurn T g bs xs q → bs ≡ drop k flags
told_flags T I flags turn g k [] [] q i l m t = sym (drop_all k flags (omega (arith, m)))
told_flags T I flags turn g k [] (x ∷ xs) q i l m t = absurd (omega (arith, l))
told_flags T I flags turn g k (b ∷ bs) [] q i l m t = absurd (omega (arith, l))
told_flags T I flags turn g k (b ∷ bs) (x ∷ xs) q i l m t =
    let one = turn g x b t.0 k i (omega (arith, m)) t.1 in
    let rest = told_flags T I flags turn t.0 (k + 1) bs xs q one.1 (omega (arith, l)) (omega (arith, m)) t.2 in
    ap {B = List Bool} (λ c. c ∷ bs) one.0 ∙ ap {B = List Bool} (λ cs. get_or flags k false ∷ cs) rest ∙ sym (drop_more flags k false (omega (arith, m)))
