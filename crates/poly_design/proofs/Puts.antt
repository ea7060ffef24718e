-- What the maps of a design are after one entry was put in or taken out.
use Rattle.std.proofs.Common.{◌≡◌, ◌∙◌, zero, suc, ◌+◌, ◌≤◌, ◌⊎◌, inl, inr, cond, List, [], ◌∷◌, length, Some, None, refl, sym, ap, subst, arith, true, false}
use Rattle.std.specs.declared.cmp.Ordering.{Ordering}
use Rattle.std.specs.declared.cmp.Ordering.TheVariants.{Less, Equal, Greater}
use Rattle.std.specs.Ordering.{is_eq, match_ordering, ordering_reverse}
use Rattle.std.specs.Cmp.{IsTotalOrder}
use Rattle.std.specs.List.{All, Contains}
use Rattle.std.specs.Map.{keys_of, lookup, remove_entry}
use Rattle.std.specs.BTreeMap.{insert_entry, is_at}
use Rattle.std.proofs.lemmas.List.Elements.{All-cons}
use Rattle.std.proofs.lemmas.List.Kept.{AllPairs-cons}
use Rattle.std.proofs.lemmas.Map.Views.{All-keys-insert_entry, All-map-remove_entry}
use Rattle.poly_shape.specs.Order.{IsAscending}
use Rattle.poly_design.proofs.Sets.{first, first_or_later, later}

module _ {K X : Type 0} {R : K → K → Ordering} (o : IsTotalOrder R) where
  above_all : (e : K × X) (es : List (K × X)) → IsAscending R (keys_of (e ∷ es)) → All (λ y. R e.0 y ≡ Less) (keys_of es)
  above_all e es up k d lt = up zero (suc k) d (omega arith) (omega arith)

  tail_up : (e : K × X) (es : List (K × X)) → IsAscending R (keys_of (e ∷ es)) → IsAscending R (keys_of es)
  tail_up e es up i j d lt le = up (suc i) (suc j) d (omega arith) (omega arith)

  pub put_ascending : (es : List (K × X)) (k : K) (v : X) → IsAscending R (keys_of es) → IsAscending R (keys_of (insert_entry R es k v))
  put_ascending [] k v up = λ i j d lt le. absurd (omega arith)
  put_ascending (e ∷ es) k v up = (elim (R k e.0) as (λ r. R k e.0 ≡ r → IsAscending R (keys_of (match_ordering r ((k, v) ∷ e ∷ es) ((e.0, v) ∷ es) (e ∷ insert_entry R es k v)))) [
    | Less ↦ λ is. AllPairs-cons (λ a b. R a b ≡ Less) k (keys_of (e ∷ es))
        (All-cons (λ y. R k y ≡ Less) e.0 (keys_of es) is (λ i d lt. o.trans k e.0 _ is (above_all e es up i d lt))) up
    | Equal ↦ λ is. up
    | Greater ↦ λ is. AllPairs-cons (λ a b. R a b ≡ Less) e.0 (keys_of (insert_entry R es k v))
        (All-keys-insert_entry R k v (λ y. R e.0 y ≡ Less) es (above_all e es up) (o.antisymm e.0 k ∙ ap ordering_reverse is))
        (put_ascending es k v (tail_up e es up))
  ]) refl

  pub take_ascending : (es : List (K × X)) (k : K) → IsAscending R (keys_of es) → IsAscending R (keys_of (remove_entry (is_at (R k)) es))
  take_ascending [] k up = up
  take_ascending (e ∷ es) k up = elim (is_eq (R k e.0)) as (λ b. IsAscending R (keys_of (cond b es (e ∷ remove_entry (is_at (R k)) es)))) [
    | true ↦ tail_up e es up
    | false ↦ AllPairs-cons (λ a b. R a b ≡ Less) e.0 (keys_of (remove_entry (is_at (R k)) es))
        (All-map-remove_entry (is_at (R k)) (λ p. p.0) (λ y. R e.0 y ≡ Less) es (above_all e es up))
        (take_ascending es k (tail_up e es up))
  ]

  pub length_put : (es : List (K × X)) (k : K) (v : X) → length (insert_entry R es k v) ≤ length es + 1
  length_put [] k v = omega arith
  length_put (e ∷ es) k v = elim (R k e.0) as (λ r. length (match_ordering r ((k, v) ∷ e ∷ es) ((e.0, v) ∷ es) (e ∷ insert_entry R es k v)) ≤ length (e ∷ es) + 1) [
    | Less ↦ omega arith
    | Equal ↦ omega arith
    | Greater ↦ omega (arith, length_put es k v)
  ]

  -- a new key adds an entry
  pub length_new : (es : List (K × X)) (k : K) (v : X) → lookup (is_at (R k)) es ≡ None → length (insert_entry R es k v) ≡ length es + 1
  length_new [] k v none = refl
  length_new (e ∷ es) k v none = (elim (R k e.0) as (λ r. R k e.0 ≡ r → length (match_ordering r ((k, v) ∷ e ∷ es) ((e.0, v) ∷ es) (e ∷ insert_entry R es k v)) ≡ length (e ∷ es) + 1) [
    | Less ↦ λ is. omega arith
    | Equal ↦ λ is. let found : Some e.1 ≡ None = sym (ap (λ r. cond (is_eq r) (Some e.1) (lookup (is_at (R k)) es)) is) ∙ none in absurd (cc)
    | Greater ↦ λ is.
        let rest : lookup (is_at (R k)) es ≡ None = sym (ap (λ r. cond (is_eq r) (Some e.1) (lookup (is_at (R k)) es)) is) ∙ none in
        omega (arith, length_new es k v rest)
  ]) refl

  -- below the first key, nothing is found
  none_below : (k : K) (e : K × X) (es : List (K × X)) → IsAscending R (keys_of (e ∷ es)) → R k e.0 ≡ Less → lookup (is_at (R k)) (e ∷ es) ≡ None
  none_below k e [] up lt = ap (λ r. cond (is_eq r) (Some e.1) None) lt
  none_below k e (f ∷ es) up lt =
      ap (λ r. cond (is_eq r) (Some e.1) (lookup (is_at (R k)) (f ∷ es))) lt
      ∙ none_below k f es (tail_up e (f ∷ es) up) (o.trans k e.0 f.0 lt (up zero (suc zero) k (omega arith) (omega arith)))

  -- a key that is there already adds no entry
  pub length_known : (es : List (K × X)) (k : K) (v w : X) → IsAscending R (keys_of es) → lookup (is_at (R k)) es ≡ Some w → length (insert_entry R es k v) ≡ length es
  length_known [] k v w up found = absurd (cc)
  length_known (e ∷ es) k v w up found = (elim (R k e.0) as (λ r. R k e.0 ≡ r → length (match_ordering r ((k, v) ∷ e ∷ es) ((e.0, v) ∷ es) (e ∷ insert_entry R es k v)) ≡ length (e ∷ es)) [
    | Less ↦ λ is. let none : None ≡ Some w = sym (none_below k e es up is) ∙ found in absurd (cc)
    | Equal ↦ λ is. refl
    | Greater ↦ λ is.
        let rest : lookup (is_at (R k)) es ≡ Some w = sym (ap (λ r. cond (is_eq r) (Some e.1) (lookup (is_at (R k)) es)) is) ∙ found in
        let len = length_known es k v w (tail_up e es up) rest in omega (arith, len)
  ]) refl

  pub length_take : (es : List (K × X)) (k : K) → length (remove_entry (is_at (R k)) es) ≤ length es
  length_take [] k = omega arith
  length_take (e ∷ es) k = elim (is_eq (R k e.0)) as (λ b. length (cond b es (e ∷ remove_entry (is_at (R k)) es)) ≤ length (e ∷ es)) [
    | true ↦ omega arith
    | false ↦ omega (arith, length_take es k)
  ]

  -- after an entry is put in, each entry is that one or was there before
  pub put_cases : ((x y : K) → R x y ≡ Equal → x ≡ y) → (es : List (K × X)) (k : K) (v : X) (p : K × X) → Contains (insert_entry R es k v) p → ((k, v) ≡ p) ⊎ Contains es p
  put_cases exact [] k v p here = elim (first_or_later (k, v) [] p here) [ inl none ↦ inr none | inr is ↦ inl is ]
  put_cases exact (e ∷ es) k v p here = (elim (R k e.0) as (λ r. R k e.0 ≡ r → Contains (match_ordering r ((k, v) ∷ e ∷ es) ((e.0, v) ∷ es) (e ∷ insert_entry R es k v)) p → ((k, v) ≡ p) ⊎ Contains (e ∷ es) p) [
    | Less ↦ λ is h. elim (first_or_later (k, v) (e ∷ es) p h) [ inl there ↦ inr there | inr eq ↦ inl eq ]
    | Equal ↦ λ is h. elim (first_or_later (e.0, v) es p h) [
      | inl there ↦ inr (later e es p there)
      | inr eq ↦ let key : k ≡ e.0 = exact k e.0 is in inl ((λ i. (key i, v)) ∙ eq)
    ]
    | Greater ↦ λ is h. elim (first_or_later e (insert_entry R es k v) p h) [
      | inl there ↦ elim (put_cases exact es k v p there) [ inl eq ↦ inl eq | inr old ↦ inr (later e es p old) ]
      | inr eq ↦ inr (subst (Contains (e ∷ es)) eq (first e es))
    ]
  ]) refl here

  pub take_cases : (es : List (K × X)) (k : K) (p : K × X) → Contains (remove_entry (is_at (R k)) es) p → Contains es p
  take_cases [] k p here = here
  take_cases (e ∷ es) k p here = (elim (is_eq (R k e.0)) as (λ b. Contains (cond b es (e ∷ remove_entry (is_at (R k)) es)) p → Contains (e ∷ es) p) [
    | true ↦ λ h. later e es p h
    | false ↦ λ h. elim (first_or_later e (remove_entry (is_at (R k)) es) p h) [
      | inl there ↦ later e es p (take_cases es k p there)
      | inr eq ↦ subst (Contains (e ∷ es)) eq (first e es)
    ]
  ]) here
