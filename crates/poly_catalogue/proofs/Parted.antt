-- Lists that have each tiling once, and their two parts: what passes a test, and what doesn't.
use Rattle.std.proofs.Common.{Bool, List, [], ap, arith, false, filter, not, refl, subst, sym, true, ℕ, ◌&&◌, ◌++◌, ◌||◌, ◌+◌, ◌<◌, ◌∷◌, ◌≡◌, ◌≤◌}
use Rattle.std.proofs.lemmas.Bool.{or_left, true_from_ne_false}
use Rattle.std.specs.List.{list_all}
use Rattle.poly_tiling.specs.Lister.{HasEachOnce}
use Rattle.poly_tiling.specs.Lists.{one, same_list, tally}
use Rattle.poly_tiling.specs.Puzzle.{View, is_tiling}
use Rattle.poly_tiling.proofs.Ascending.{same_list_is, same_list_self}
use Rattle.poly_tiling.proofs.Lists.{all_from, all_in, same_truth, tally_append}
use Rattle.poly_tiling.proofs.Named.{tally_same_in}
use Rattle.poly_design.specs.Layout.{Layout}
use Rattle.poly_place.specs.declared.delta.Delta.{Delta}
use Rattle.poly_place.specs.Delta.{IsPlanFor}
use Rattle.poly_place.specs.Right.{IsRight}
use Rattle.poly_catalogue.specs.Listed.{AreOfEither, AreOnce, AreSame}
use Rattle.poly_catalogue.proofs.Planned.{plans_lead_lem}
use Rattle.poly_catalogue.proofs.Sums.{filtered, kept_same, some_in}

one_true : (b : Bool) → 0 < one b → b ≡ true
one_true true h = refl
one_true false h = absurd (omega arith)

-- if a list has each tiling that passes once and no other, all of its tilings pass
pub all_pass : (p : List ℕ → Bool) (a : List (List ℕ)) → ((T : List ℕ) → tally (same_list T) a ≡ one (p T)) → list_all p a ≡ true
all_pass p a h = all_from p a (λ T i. one_true (p T) (omega (arith, h T, some_in (same_list T) a T i (same_list_self T))))

one_low : (b : Bool) → one b ≤ 1
one_low true = omega arith
one_low false = omega arith

pub each_once : (p : List ℕ → Bool) (a : List (List ℕ)) → ((T : List ℕ) → tally (same_list T) a ≡ one (p T)) → AreOnce a
each_once p a h T = omega (arith, h T, one_low (p T))

pub each_tiling : (v : View) (a : List (List ℕ)) → HasEachOnce v a → list_all (is_tiling v) a ≡ true
each_tiling v a h = all_pass (is_tiling v) a h

turned : (T U : List ℕ) → same_list U T ≡ same_list T U
turned T U = same_truth (same_list U T) (same_list T U)
    (λ h. subst (λ z. same_list T z ≡ true) (sym (same_list_is U T h)) (same_list_self T))
    (λ h. subst (λ z. same_list U z ≡ true) (sym (same_list_is T U h)) (same_list_self U))

-- how often a list has a tiling doesn't depend on the order of the arguments of `same_list`
pub turned_tally : (T : List ℕ) (a : List (List ℕ)) → tally (same_list T) a ≡ tally (λ U. same_list U T) a
turned_tally T a = tally_same_in (same_list T) (λ U. same_list U T) a (λ U i. sym (turned T U))

not_and : (b : Bool) → one (not b && b) ≡ 0
not_and true = refl
not_and false = refl

no_other : (p : List ℕ → Bool) (a : List (List ℕ)) → tally (λ T. not (p T) && p T) a ≡ 0
no_other p [] = refl
no_other p (T ∷ a) = omega (arith, not_and (p T), no_other p a)

-- all that is kept passes
pub kept_all : (p : List ℕ → Bool) (a b : List (List ℕ)) → AreSame b (filter p a) → list_all p b ≡ true
kept_all p a b s = let k = kept_same p a b s in all_from p b (λ T i. true_from_ne_false (p T) (λ e. let o = some_in (λ U. not (p U)) b T i (ap not e) in omega (arith, o, k (λ U. not (p U)), no_other p a)))

both_parts : (b c : Bool) → one (b && c) + one (b && not c) ≡ one b
both_parts true true = refl
both_parts true false = refl
both_parts false c = refl

split : (f p : List ℕ → Bool) (a : List (List ℕ)) → tally (λ T. f T && p T) a + tally (λ T. f T && not (p T)) a ≡ tally f a
split f p [] = refl
split f p (T ∷ a) = omega (arith, both_parts (f T) (p T), split f p a)

-- if a list has no tiling twice, neither has what is kept of the list, followed by what isn't kept
pub parted_once : (p : List ℕ → Bool) (a b : List (List ℕ)) → AreSame b (filter p a) → AreOnce a → AreOnce (b ++ filter (λ T. not (p T)) a)
parted_once p a b s once T =
    let k = kept_same p a b s in
    let g = filter (λ U. not (p U)) a in
    omega (arith, tally_append (same_list T) b g, k (same_list T), filtered (same_list T) (λ U. not (p U)) a, split (same_list T) p a, once T)

-- if the listed tilings are tilings of the view that a plan was made from, they satisfy `AreOfEither` for the plan's view
pub of_plan : (t v : View) (before after : Layout) (x : Delta) (a : List (List ℕ)) → IsRight t before → IsPlanFor t before after v x → list_all (is_tiling t) a ≡ true → AreOfEither v x a
of_plan t v before after x a right plan listed = record {
  before = t;
  leads = plans_lead_lem t v before after x right plan;
  either = all_from (λ T. is_tiling t T || is_tiling v T) a (λ T i. or_left (is_tiling t T) (is_tiling v T) (all_in (is_tiling t) a listed T i));
}
