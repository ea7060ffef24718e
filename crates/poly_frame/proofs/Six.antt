-- The first six entries of a list.
use Rattle.std.proofs.Common.{Bool, List, [], ap, arith, false, get_or, length, not, refl, sym, true, take, drop, ℕ, ◌&&◌, ◌||◌, ◌∙◌, ◌∷◌, ◌≡◌, ◌≤◌}
use Rattle.std.specs.List.{list_any}
use Rattle.std.proofs.lemmas.List.{take-append-drop}
use Rattle.poly_tiling.proofs.Lists.{any_append}

or_last : (y : Bool) → (y || false) ≡ y
or_last true = refl
or_last false = refl

pub any_six : (f : ℕ → Bool) (xs : List ℕ) → 6 ≤ length xs → list_any f (take 6 xs) ≡ (f (get_or xs 0 0) || (f (get_or xs 1 0) || (f (get_or xs 2 0) || (f (get_or xs 3 0) || (f (get_or xs 4 0) || f (get_or xs 5 0))))))
any_six f [] h = absurd (omega arith)
any_six f (a ∷ []) h = absurd (omega (arith, h))
any_six f (a ∷ b ∷ []) h = absurd (omega (arith, h))
any_six f (a ∷ b ∷ c ∷ []) h = absurd (omega (arith, h))
any_six f (a ∷ b ∷ c ∷ d ∷ []) h = absurd (omega (arith, h))
any_six f (a ∷ b ∷ c ∷ d ∷ e ∷ []) h = absurd (omega (arith, h))
any_six f (a ∷ b ∷ c ∷ d ∷ e ∷ g ∷ xs) h = ap (λ y. f a || (f b || (f c || (f d || (f e || y))))) (or_last (f g))

pub or_six : (a b c d e f a2 b2 c2 d2 e2 f2 : Bool) → a ≡ a2 → b ≡ b2 → c ≡ c2 → d ≡ d2 → e ≡ e2 → f ≡ f2 → (a || (b || (c || (d || (e || f))))) ≡ (a2 || (b2 || (c2 || (d2 || (e2 || f2)))))
or_six a b c d e f a2 b2 c2 d2 e2 f2 p q r s t u =
    ap (λ x. x || (b || (c || (d || (e || f))))) p ∙ ap (λ x. a2 || (x || (c || (d || (e || f))))) q ∙ ap (λ x. a2 || (b2 || (x || (d || (e || f))))) r
    ∙ ap (λ x. a2 || (b2 || (c2 || (x || (e || f))))) s ∙ ap (λ x. a2 || (b2 || (c2 || (d2 || (x || f))))) t ∙ ap (λ x. a2 || (b2 || (c2 || (d2 || (e2 || x))))) u

and_both : (a b c : Bool) → ((a && not b) && not c) ≡ (a && not (b || c))
and_both true true c = refl
and_both true false c = refl
and_both false b c = refl

-- if a row lacks what the first entries have, and then what the others have, it lacks what any has
pub any_parts : (f : ℕ → Bool) (xs : List ℕ) (n : ℕ) (old mid new : Bool) → mid ≡ (old && not (list_any f (take n xs))) → new ≡ (mid && not (list_any f (drop n xs))) → new ≡ (old && not (list_any f xs))
any_parts f xs n old mid new e g =
    g ∙ ap (λ y. y && not (list_any f (drop n xs))) e ∙ and_both old (list_any f (take n xs)) (list_any f (drop n xs))
    ∙ ap (λ y. old && not y) (sym (any_append f (take n xs) (drop n xs))) ∙ ap (λ ys. old && not (list_any f ys)) (take-append-drop n xs)
