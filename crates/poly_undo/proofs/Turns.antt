-- Lemmas on the definitions of `specs/Steps.antt`.
use Rattle.std.proofs.Common.{◌≡◌, ◌+◌, ◌-◌, ◌∷◌, ◌++◌, ◌<◌, ◌≤◌, ◌∙◌, [], ap, arith, drop, inl, inr, length, length-drop, refl, reverse, sym, take, List, Option, Some, ℕ}
use Rattle.std.proofs.lemmas.Bool.{cases_lt}
use Rattle.std.proofs.lemmas.List.{length-reverse, length_push, reverse-append, same_from_push, take-append-drop, take-append-le, take_all, take_more}
use Rattle.std.proofs.lemmas.Option.{get_or_from_slice_get, slice_get_within}
use Rattle.poly_undo.specs.declared.step.Step.{Step}
use Rattle.poly_undo.specs.Steps.{Moves, newest, next_of}

module _ {X : Type 0} where
  -- the next step, if there is one, is the last element of the list
  pub next_of_ends : (xs : List X) (x : X) → next_of xs ≡ Some x → xs ≡ take (length xs - 1) xs ++ x ∷ []
  next_of_ends xs x e =
      let i : ℕ = length xs - 1 in
      let within : i < length xs = slice_get_within xs i x e in
      sym (take_all (i + 1) xs (omega arith)) ∙ take_more xs i x within ∙ ap (λ y. take i xs ++ y ∷ []) (get_or_from_slice_get xs i x x e)

  -- `newest` drops nothing from a list of at most 256 elements
  pub newest_whole : (xs : List X) → length xs ≤ 256 → newest xs ≡ xs
  newest_whole xs few = let none : length xs - 256 ≡ 0 = omega arith in rw none refl

  -- if two lists have at most 256 steps together, one has room for a step that comes from the other, so no step is dropped
  pub newest_moved : (to from left : List X) (s t : X) → length to + length from ≤ 256 → from ≡ left ++ s ∷ [] → newest (to ++ t ∷ []) ≡ to ++ t ∷ []
  newest_moved to from left s t few e =
      newest_whole (to ++ t ∷ []) (omega (arith, length_push to t, length_push left s, ap length e))

  -- `newest` of a list, reversed, is the first 256 elements of the reversed list, or all of them if there are fewer
  pub newest_reversed : (xs : List X) → reverse (newest xs) ≡ take 256 (reverse xs)
  newest_reversed xs =
      let k : ℕ = length xs - 256 in
      let parts : reverse xs ≡ reverse (drop k xs) ++ reverse (take k xs) = ap reverse (sym (take-append-drop k xs)) ∙ reverse-append (take k xs) (drop k xs) in
      elim (cases_lt 256 (length xs)) [
        | inl many ↦
            let long : length (reverse (drop k xs)) ≡ 256 = omega (arith, length-reverse (drop k xs), length-drop k xs, many) in
            sym (ap (take 256) parts ∙ take-append-le 256 (reverse (drop k xs)) (reverse (take k xs)) (omega (arith, long)) ∙ take_all 256 (reverse (drop k xs)) (omega (arith, long)))
        | inr few ↦ ap reverse (newest_whole xs few) ∙ sym (take_all 256 (reverse xs) (omega (arith, length-reverse xs, few)))
      ]

-- the step that moves is the next step of its list
pub step_from_next : {C K : Type 0} (from to left made : List (Step C K)) (kept stood : Option K) (s : Step C K) (m : Moves from to left made kept stood) → next_of from ≡ Some s → m.step ≡ s
step_from_next from to left made kept stood s m e =
    (same_from_push left (take (length from - 1) from) m.step s (sym m.taken ∙ next_of_ends from s e)).1
