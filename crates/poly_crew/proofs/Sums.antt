-- Sums over the hints of a list, and over the views of a lane.
use Rattle.std.proofs.Common.{◌≡◌, ◌≢◌, ◌≤◌, ℕ, zero, suc, ◌+◌, ◌++◌, List, [], ◌∷◌, length, refl, sym, ap, set, arith}
use mathlib.Core.Option.{some, some-ne-none, some-injective}
use lib.ListN.{get_elem?}
use Rattle.poly_crew.specs.declared.rule.HandleView.{HandleView}
use Rattle.poly_crew.specs.Hints.{weigh}
use Rattle.poly_crew.specs.Rule.{total}

pub weigh-append : (h : ℕ → ℕ) (xs ys : List ℕ) → weigh h (xs ++ ys) ≡ weigh h xs + weigh h ys
weigh-append h [] ys = omega arith
weigh-append h (x ∷ xs) ys = let e = weigh-append h xs ys in omega arith

pub weigh-ones : (xs : List ℕ) → weigh (λ _. 1) xs ≡ length xs
weigh-ones [] = refl
weigh-ones (x ∷ xs) = let e = weigh-ones xs in omega arith

pub total-set : (f : HandleView → ℕ) (views : List HandleView) (port : ℕ) (v w : HandleView) → get_elem? views port ≡ some v → total f (set views port w) + f v ≡ total f views + f w
total-set f [] port v w at = absurd (some-ne-none v (sym at))
total-set f (u ∷ us) zero v w at = let e : f u ≡ f v = ap f (some-injective u v at) in omega arith
total-set f (u ∷ us) (suc port) v w at = let e = total-set f us port v w at in omega arith

pub total-push : (f : HandleView → ℕ) (views : List HandleView) (v : HandleView) → total f (views ++ v ∷ []) ≡ total f views + f v
total-push f [] v = omega arith
total-push f (u ∷ us) v = let e = total-push f us v in omega arith

pub total_has : (f : HandleView → ℕ) (views : List HandleView) (port : ℕ) (v : HandleView) → get_elem? views port ≡ some v → f v ≤ total f views
total_has f [] port v at = absurd (some-ne-none v (sym at))
total_has f (u ∷ us) zero v at = let e : f u ≡ f v = ap f (some-injective u v at) in omega arith
total_has f (u ∷ us) (suc port) v at = let e = total_has f us port v at in omega arith

total_none : (f : HandleView → ℕ) (views : List HandleView) → ((by : ℕ) (u : HandleView) → get_elem? views by ≡ some u → f u ≡ 0) → total f views ≡ 0
total_none f [] none = refl
total_none f (u ∷ us) none = let here = none 0 u refl in let e = total_none f us (λ by w at. none (suc by) w at) in omega arith

-- if `f` is 0 for all other views, the total is what `f` is for this one
pub total_lone : (f : HandleView → ℕ) (views : List HandleView) (port : ℕ) (v : HandleView) → get_elem? views port ≡ some v
    → ((by : ℕ) (u : HandleView) → by ≢ port → get_elem? views by ≡ some u → f u ≡ 0) → total f views ≡ f v
total_lone f [] port v at others = absurd (some-ne-none v (sym at))
total_lone f (u ∷ us) zero v at others =
    let e : f u ≡ f v = ap f (some-injective u v at) in
    let none = total_none f us (λ by w there. others (suc by) w (λ is. omega arith) there) in
    omega arith
total_lone f (u ∷ us) (suc port) v at others =
    let here = others 0 u (λ is. omega arith) refl in
    let e = total_lone f us port v at (λ by w apart there. others (suc by) w (λ is. apart (omega arith)) there) in
    omega arith
