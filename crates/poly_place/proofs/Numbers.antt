-- Numbers that are found, assigned one after another, and removed again.
use Rattle.std.proofs.Common.{Bool, if◌then◌else◌, List, Option, Some, [], ap, arith, false, get_or, inl, inr, length, map, position, refl, slice_get, subst, suc, sym, take, true, zero, ℕ, ◌&&◌, ◌++◌, ◌+◌, ◌<◌, ◌^◌, ◌∙◌, ◌∷◌, ◌≡◌, ◌≢◌, ◌≤◌, nat_eq, append_assoc}
use mathlib.Core.Bool.{true≢false}
use Rattle.std.specs.Cmp.Lexicographic.{pointwise}
use Rattle.std.specs.List.{AllPairs, Contains, list_any}
use Rattle.std.proofs.lemmas.List.{append-nil, get_or-take, length-append, length-take, map-append, map_more, take_all}
use Rattle.std.proofs.lemmas.List.Elements.{Contains-append_left, Contains-append_cases, Contains-get_or, Contains-push_cases}
use Rattle.std.proofs.lemmas.List.Quantifiers.{all_pairs_push, position-Some}
use Rattle.std.proofs.lemmas.Option.{slice_get-get_or}
use Rattle.std.specs.declared.cmp.Ordering.TheVariants.{Less}
use Rattle.poly_shape.specs.Order.{IsAscending, spot_eq}
use Rattle.poly_design.specs.PlacementOrder.{placement_cmp}
use Rattle.poly_design.specs.declared.placement.Placement.{Placement}
use Rattle.poly_design.proofs.Same.{placement_itself, placement_same}
use Rattle.poly_tiling.proofs.Contained.{contains_in, in_contains}
use Rattle.poly_tiling.proofs.Lists.{any_from, any_in, slice_get_front}
use Rattle.poly_place.specs.Interned.{AreNumbered, AreNumbersOf, AreTooMany, Gives, GoesOn, GoesOnWith}

-- the test by which a key is found
abbrev pub same : Placement → Placement → Bool
same p k = pointwise nat_eq p.name k.name && pointwise spot_eq p.cells k.cells

pub number_names : (ks : List Placement) (p : Placement) (n : ℕ) → position (same p) ks ≡ Some n → slice_get ks n ≡ Some p
number_names ks p n e = let h = position-Some (same p) ks n p e in slice_get-get_or ks n p h.0 ∙ ap Some (sym (placement_same p (get_or ks n p) h.1))

pub stored_names : (ks : List Placement) (p : Placement) (n : ℕ) → (k : Placement) × (slice_get ks n ≡ Some k) × (same p k ≡ true) → slice_get ks n ≡ Some p
stored_names ks p n (k, at, e) = at ∙ ap Some (sym (placement_same p k e))

pub has_number : (ks : List Placement) (p : Placement) → Contains ks p → list_any (same p) ks ≡ true
has_number ks p here = any_from (same p) ks p (contains_in ks p here) (placement_itself p p refl)

pub number_has : (ks : List Placement) (p : Placement) → list_any (same p) ks ≡ true → Contains ks p
number_has ks p h = let r = any_in (same p) ks h in subst (Contains ks) (sym (placement_same p r.0 r.2)) (in_contains ks r.0 r.1)

pub no_number : (ks : List Placement) (p : Placement) → list_any (same p) ks ≡ false → Contains ks p → ⊥
no_number ks p h here = absurd (true≢false (sym (has_number ks p here) ∙ h))

pub without_number : (ks : List Placement) (p : Placement) → (Contains ks p → ⊥) → list_any (same p) ks ≡ false
without_number ks p lacks = by (list_any (same p) ks) refl
  where
    by : (b : Bool) → list_any (same p) ks ≡ b → list_any (same p) ks ≡ false
    by true e = absurd (lacks (number_has ks p e))
    by false e = e

pub inserted : (ks now : List Placement) (p : Placement) → now ≡ (if list_any (same p) ks then ks else ks ++ p ∷ []) → (Contains ks p → ⊥) → now ≡ ks ++ p ∷ []
inserted ks now p e lacks = e ∙ ap (λ b. if b then ks else ks ++ p ∷ []) (without_number ks p lacks)

pub numbered_push : (ks : List Placement) (p : Placement) → AreNumbered ks → (Contains ks p → ⊥) → length ks < 2 ^ 32 → AreNumbered (ks ++ p ∷ [])
numbered_push ks p ok lacks low = record {
  apart = all_pairs_push (λ x y. x ≢ y) ks p ok.apart (λ k d l e. lacks (subst (Contains ks) e (Contains-get_or ks k d l)));
  few = omega (arith, length-append ks (p ∷ []));
}

-- ---- numbers and the placements that they name

pub first_named : (all ps : List Placement) (n : ℕ) (ns : List ℕ) (p : Placement) → AreNumbersOf all (n ∷ ns) (p ∷ ps) → slice_get all n ≡ Some p
first_named all ps n ns p e = cc

pub rest_named : (all ps : List Placement) (n : ℕ) (ns : List ℕ) (p : Placement) → AreNumbersOf all (n ∷ ns) (p ∷ ps) → AreNumbersOf all ns ps
rest_named all ps n ns p e = cc

pub low_named : (all : List Placement) (n : ℕ) (p : Placement) → slice_get all n ≡ Some p → n < length all
low_named [] n p e = cc
low_named (x ∷ xs) zero p e = omega arith
low_named (x ∷ xs) (suc n) p e = omega (arith, low_named xs n p e)

-- a number that names a placement keeps naming it when more placements are appended
pub named_on : (all more : List Placement) (ns : List ℕ) (ps : List Placement) → AreNumbersOf all ns ps → AreNumbersOf (all ++ more) ns ps
named_on all more [] [] e = refl
named_on all more [] (p ∷ ps) e = cc
named_on all more (n ∷ ns) [] e = cc
named_on all more (n ∷ ns) (p ∷ ps) e =
    let first = first_named all ps n ns p e in
    let head : slice_get (all ++ more) n ≡ Some p = slice_get_front all more n (low_named all n p first) ∙ first in
    let rest = named_on all more ns ps (rest_named all ps n ns p e) in
    λ i. head i ∷ rest i

-- ---- assigning numbers

-- the first `done` placements have their numbers
pub record IsPartWay (old placements now : List Placement) (done : ℕ) (numbers : List ℕ) : Type 0 where
  pub more : List Placement
  pub appended : now ≡ old ++ more
  pub lacked : (p : Placement) → Contains more p → (Contains old p → ⊥) × Contains (take done placements) p
  pub ordered : IsAscending placement_cmp placements → IsAscending placement_cmp more
  pub few : length more ≤ length (take done placements)
  pub names : AreNumbersOf now numbers (take done placements)

pub begins : (old placements : List Placement) (numbers : List ℕ) → numbers ≡ [] → IsPartWay old placements old 0 numbers
begins old placements numbers none = record {
  more = [];
  appended = sym (append-nil old);
  lacked = λ p h. absurd (omega (arith, h.1));
  ordered = λ _ i j d l m. absurd (omega arith);
  few = omega arith;
  names = ap (λ ns. map (λ n. slice_get old n) ns) none;
}

contains_take : {X : Type 0} (xs : List X) (n m : ℕ) (x : X) → n ≤ m → Contains (take n xs) x → Contains (take m xs) x
contains_take xs n m x le (k, lt, e) =
    let a = length-take n xs in
    let b = length-take m xs in
    (k, omega (arith, a, b, lt), get_or-take m xs k x (omega (arith, a, lt)) ∙ sym (get_or-take n xs k x (omega (arith, a, lt))) ∙ e)

contains_of_take : {X : Type 0} (xs : List X) (n : ℕ) (x : X) → Contains (take n xs) x → Contains xs x
contains_of_take xs n x (k, lt, e) = let a = length-take n xs in (k, omega (arith, a, lt), sym (get_or-take n xs k x (omega (arith, a, lt))) ∙ e)

contains_next : {X : Type 0} (xs : List X) (i : ℕ) (x : X) → i < length xs → x ≡ get_or xs i x → Contains (take (i + 1) xs) x
contains_next xs i x lt is = (i, omega (arith, length-take (i + 1) xs), get_or-take (i + 1) xs i x (omega arith) ∙ sym is)

pub get_or_any : {X : Type 0} (xs : List X) (i : ℕ) (d e : X) → i < length xs → get_or xs i d ≡ get_or xs i e
get_or_any xs i d e lt = let a = slice_get-get_or xs i d lt in let b = slice_get-get_or xs i e lt in cc

below_later : (ps : List Placement) (i : ℕ) (p q : Placement) → IsAscending placement_cmp ps → i < length ps → p ≡ get_or ps i p → Contains (take i ps) q → placement_cmp q p ≡ Less
below_later ps i p q up lt is (m, low, e) =
    let a = length-take i ps in
    let before : m < i = omega (arith, a, low) in
    let here : get_or ps m q ≡ q = sym (get_or-take i ps m q before) ∙ e in
    let there : get_or ps i q ≡ p = get_or_any ps i q p lt ∙ sym is in
    subst (λ z. placement_cmp z p ≡ Less) here (subst (λ z. placement_cmp (get_or ps m q) z ≡ Less) there (up m i q before lt))

names_push : (all ps : List Placement) (i : ℕ) (ns : List ℕ) (p : Placement) (n : ℕ) (ns' : List ℕ) → AreNumbersOf all ns (take i ps) → i < length ps → p ≡ get_or ps i p →
    slice_get all n ≡ Some p → ns' ≡ ns ++ n ∷ [] → AreNumbersOf all ns' (take (i + 1) ps)
names_push all ps i ns p n ns' h lt is at pushed =
    let f : ℕ → Option Placement = λ m. slice_get all m in
    let some : Placement → Option Placement = λ q. Some q in
    ap (λ l. map f l) pushed ∙ map-append f ns (n ∷ []) ∙ ap (λ l. l ++ f n ∷ []) h ∙ ap (λ o. map some (take i ps) ++ o ∷ []) (at ∙ ap some is) ∙ sym (map_more some ps i p lt)

-- one more placement has its number
pub goes_on : (old ps now : List Placement) (i : ℕ) (ns : List ℕ) (p : Placement) (now' : List Placement) (n : ℕ) (ns' : List ℕ) → IsPartWay old ps now i ns → i < length ps → p ≡ get_or ps i p →
    Gives now p now' → slice_get now' n ≡ Some p → ns' ≡ ns ++ n ∷ [] → IsPartWay old ps now' (i + 1) ns'
goes_on old ps now i ns p now' n ns' w lt is (inl e) at pushed = record {
  more = w.more;
  appended = e ∙ w.appended;
  lacked = λ q h. let r = w.lacked q h in (r.0, contains_take ps i (i + 1) q (omega arith) r.1);
  ordered = w.ordered;
  few = omega (arith, w.few, length-take i ps, length-take (i + 1) ps);
  names = names_push now' ps i ns p n ns' (subst (λ all. AreNumbersOf all ns (take i ps)) (sym e) w.names) lt is at pushed;
}
goes_on old ps now i ns p now' n ns' w lt is (inr e) at pushed = record {
  more = w.more ++ p ∷ [];
  appended = e.1 ∙ ap (λ l. l ++ p ∷ []) w.appended ∙ append_assoc old w.more (p ∷ []);
  lacked = λ q h. elim (Contains-push_cases w.more p q h) [
    | inl there ↦ let r = w.lacked q there in (r.0, contains_take ps i (i + 1) q (omega arith) r.1)
    | inr same ↦ (
      λ o. e.0 (subst (Contains now) (sym same) (subst (λ l. Contains l q) (sym w.appended) (Contains-append_left old w.more q o))),
      subst (Contains (take (i + 1) ps)) same (contains_next ps i p lt is),
    )
  ];
  ordered = λ up. all_pairs_push (λ a b. placement_cmp a b ≡ Less) w.more p (w.ordered up)
      (λ k d l. below_later ps i p (get_or w.more k d) up lt is (w.lacked (get_or w.more k d) (Contains-get_or w.more k d l)).1);
  few = omega (arith, w.few, length-append w.more (p ∷ []), length-take i ps, length-take (i + 1) ps, lt);
  names = names_push now' ps i ns p n ns' (subst (λ all. AreNumbersOf all ns (take i ps)) (sym e.1) (named_on now (p ∷ []) ns (take i ps) w.names)) lt is at pushed;
}

-- all placements have their numbers
pub all_given : (old ps now : List Placement) (i : ℕ) (ns : List ℕ) → IsPartWay old ps now i ns → length ps ≤ i → AreNumbersOf now ns ps × GoesOnWith old ps now
all_given old ps now i ns w le =
    let whole : take i ps ≡ ps = take_all i ps le in (
      w.names ∙ ap (λ (l : List Placement). map (λ p. Some p) l) whole,
      record {
        more = w.more;
        appended = w.appended;
        lacked = λ p h. let r = w.lacked p h in (r.0, subst (λ l. Contains l p) whole r.1);
        ordered = w.ordered;
        few = subst (λ (l : List Placement). length w.more ≤ length l) whole w.few;
      },
    )

pub take_front : {X : Type 0} (xs ys : List X) → take (length xs) (xs ++ ys) ≡ xs
take_front [] ys = refl
take_front (x ∷ xs) ys = ap (λ l. x ∷ l) (take_front xs ys)

pub too_many : (old ps now : List Placement) (i : ℕ) (ns : List ℕ) (p : Placement) → AreNumbered now → IsPartWay old ps now i ns → i < length ps → p ≡ get_or ps i p →
    length now ≡ 2 ^ 32 → (Contains now p → ⊥) → AreTooMany old ps
too_many old ps now i ns p ok w lt is full lacks = record {
  all = now ++ p ∷ [];
  apart = all_pairs_push (λ x y. x ≢ y) now p ok.apart (λ k d l e. lacks (subst (Contains now) e (Contains-get_or now k d l)));
  among = λ q h. elim (Contains-push_cases now p q h) [
    | inl there ↦ elim (Contains-append_cases old w.more q (subst (λ l. Contains l q) w.appended there)) [
      | inl o ↦ inl o
      | inr m ↦ inr (contains_of_take ps i q (w.lacked q m).1)
    ]
    | inr same ↦ inr (subst (Contains ps) same (i, lt, sym is))
  ];
  many = omega (arith, length-append now (p ∷ []), full);
  sum = omega (arith, ap length w.appended, length-append old w.more, w.few, length-take i ps, full, lt);
}

pub goes_none : (old new : List Placement) → new ≡ old → GoesOn old new
goes_none old new e = record { more = []; appended = e ∙ sym (append-nil old); apart = λ h. subst (λ (l : List Placement). AllPairs (λ x y. x ≢ y) l) (sym e) h }

pub goes_by : (old ps new : List Placement) → GoesOnWith old ps new → AreNumbered new → GoesOn old new
goes_by old ps new g ok = record { more = g.more; appended = g.appended; apart = λ h. ok.apart }

pub goes_twice : (old between new : List Placement) → GoesOn old between → GoesOn between new → GoesOn old new
goes_twice old between new a b = record {
  more = a.more ++ b.more;
  appended = b.appended ∙ ap (λ l. l ++ b.more) a.appended ∙ append_assoc old a.more b.more;
  apart = λ h. b.apart (a.apart h);
}
