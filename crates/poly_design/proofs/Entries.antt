-- Entries in the order of their keys: what is found after one is put in or taken out, and the way back.
use Rattle.std.proofs.Common.{◌≡◌, ◌∙◌, ◌+◌, ℕ, zero, suc, cond, length, List, [], ◌∷◌, ◌++◌, append_assoc, Some, None, refl, sym, ap, subst, arith}
use Rattle.std.specs.declared.cmp.Ordering.{Ordering}
use Rattle.std.specs.declared.cmp.Ordering.TheVariants.{Less, Equal, Greater}
use Rattle.std.specs.Ordering.{is_eq, match_ordering, ordering_reverse}
use Rattle.std.specs.Cmp.{IsTotalOrder, tied_itself}
use Rattle.std.specs.Map.{keys_of, lookup, remove_entry}
use Rattle.std.specs.BTreeMap.{insert_entry, is_at}
use Rattle.std.specs.BTreeSet.{insert_key}
use Rattle.std.specs.Set.{remove_key}
use Rattle.std.specs.List.{Contains, insert, remove}
use Rattle.std.proofs.lemmas.List.{get_or_default}
use Rattle.std.proofs.lemmas.List.Elements.{Contains-append_right}
use Rattle.poly_shape.specs.Order.{IsAscending}
use Rattle.poly_design.specs.Listed.{HasAt, IsGapFor}
use Rattle.poly_design.proofs.Sets.{contains_map}

module _ {K X : Type 0} {R : K → K → Ordering} (o : IsTotalOrder R) where
  tail_up : (e : K × X) (es : List (K × X)) → IsAscending R (keys_of (e ∷ es)) → IsAscending R (keys_of es)
  tail_up e es up i j d lt le = up (suc i) (suc j) d (omega arith) (omega arith)

  -- below the first key, nothing is found
  none_below : (k : K) (e : K × X) (es : List (K × X)) → IsAscending R (keys_of (e ∷ es)) → R k e.0 ≡ Less → lookup (is_at (R k)) (e ∷ es) ≡ None
  none_below k e [] up lt = ap (λ r. cond (is_eq r) (Some e.1) None) lt
  none_below k e (f ∷ es) up lt =
      ap (λ r. cond (is_eq r) (Some e.1) (lookup (is_at (R k)) (f ∷ es))) lt
      ∙ none_below k f es (tail_up e (f ∷ es) up) (o.trans k e.0 f.0 lt (up zero (suc zero) k (omega arith) (omega arith)))

  -- a key that ties with the first key is below the second, so it is not found in the rest
  above_head : (k : K) (e : K × X) (f : K × X) (es : List (K × X)) → IsAscending R (keys_of (e ∷ f ∷ es)) → R k e.0 ≡ Equal → R k f.0 ≡ Less
  above_head k e f es up is = o.congr k e.0 f.0 is ∙ up zero (suc zero) k (omega arith) (omega arith)

  none_above : (k : K) (e : K × X) (es : List (K × X)) → IsAscending R (keys_of (e ∷ es)) → R k e.0 ≡ Equal → lookup (is_at (R k)) es ≡ None
  none_above k e [] up is = refl
  none_above k e (f ∷ es) up is = none_below k f es (tail_up e (f ∷ es) up) (above_head k e f es up is)

  put_above : (k : K) (v : X) (e : K × X) (es : List (K × X)) → IsAscending R (keys_of (e ∷ es)) → R k e.0 ≡ Equal → insert_entry R es k v ≡ (k, v) ∷ es
  put_above k v e [] up is = refl
  put_above k v e (f ∷ es) up is = ap (λ r. match_ordering r ((k, v) ∷ f ∷ es) ((f.0, v) ∷ es) (f ∷ insert_entry R es k v)) (above_head k e f es up is)

  -- what is put in is found
  pub lookup_put : (es : List (K × X)) (k : K) (v : X) → lookup (is_at (R k)) (insert_entry R es k v) ≡ Some v
  lookup_put [] k v = ap (λ r. cond (is_eq r) (Some v) None) (tied_itself o k)
  lookup_put (e ∷ es) k v = (elim (R k e.0) as (λ r. R k e.0 ≡ r → lookup (is_at (R k)) (match_ordering r ((k, v) ∷ e ∷ es) ((e.0, v) ∷ es) (e ∷ insert_entry R es k v)) ≡ Some v) [
    | Less ↦ λ is. ap (λ r. cond (is_eq r) (Some v) (lookup (is_at (R k)) (e ∷ es))) (tied_itself o k)
    | Equal ↦ λ is. ap (λ r. cond (is_eq r) (Some v) (lookup (is_at (R k)) es)) is
    | Greater ↦ λ is. ap (λ r. cond (is_eq r) (Some e.1) (lookup (is_at (R k)) (insert_entry R es k v))) is ∙ lookup_put es k v
  ]) refl

  -- what is taken out is not found
  pub lookup_taken : (es : List (K × X)) (k : K) → IsAscending R (keys_of es) → lookup (is_at (R k)) (remove_entry (is_at (R k)) es) ≡ None
  lookup_taken [] k up = refl
  lookup_taken (e ∷ es) k up = (elim (R k e.0) as (λ r. R k e.0 ≡ r → lookup (is_at (R k)) (cond (is_eq r) es (e ∷ remove_entry (is_at (R k)) es)) ≡ None) [
    | Less ↦ λ is. ap (λ r. cond (is_eq r) (Some e.1) (lookup (is_at (R k)) (remove_entry (is_at (R k)) es))) is ∙ lookup_taken es k (tail_up e es up)
    | Equal ↦ λ is. none_above k e es up is
    | Greater ↦ λ is. ap (λ r. cond (is_eq r) (Some e.1) (lookup (is_at (R k)) (remove_entry (is_at (R k)) es))) is ∙ lookup_taken es k (tail_up e es up)
  ]) refl

  -- replacing a value and then putting the old value back restores the entries
  pub put_put : (es : List (K × X)) (k : K) (v w : X) → IsAscending R (keys_of es) → lookup (is_at (R k)) es ≡ Some w → insert_entry R (insert_entry R es k v) k w ≡ es
  put_put [] k v w up found = absurd (cc)
  put_put (e ∷ es) k v w up found = (elim (R k e.0) as (λ r. R k e.0 ≡ r → insert_entry R (match_ordering r ((k, v) ∷ e ∷ es) ((e.0, v) ∷ es) (e ∷ insert_entry R es k v)) k w ≡ e ∷ es) [
    | Less ↦ λ is. let none : None ≡ Some w = sym (none_below k e es up is) ∙ found in absurd (cc)
    | Equal ↦ λ is.
        let same : Some e.1 ≡ Some w = sym (ap (λ r. cond (is_eq r) (Some e.1) (lookup (is_at (R k)) es)) is) ∙ found in
        let value : w ≡ e.1 = cc in
        ap (λ r. match_ordering r ((k, w) ∷ (e.0, v) ∷ es) ((e.0, w) ∷ es) ((e.0, v) ∷ insert_entry R es k w)) is ∙ ap (λ u. (e.0, u) ∷ es) value
    | Greater ↦ λ is.
        let later : lookup (is_at (R k)) es ≡ Some w = sym (ap (λ r. cond (is_eq r) (Some e.1) (lookup (is_at (R k)) es)) is) ∙ found in
        ap (λ r. match_ordering r ((k, w) ∷ e ∷ insert_entry R es k v) ((e.0, w) ∷ insert_entry R es k v) (e ∷ insert_entry R (insert_entry R es k v) k w)) is
        ∙ ap (λ l. e ∷ l) (put_put es k v w (tail_up e es up) later)
  ]) refl

  -- putting in a key that no entry has and then taking it out restores the entries
  pub put_taken : (es : List (K × X)) (k : K) (v : X) → lookup (is_at (R k)) es ≡ None → remove_entry (is_at (R k)) (insert_entry R es k v) ≡ es
  put_taken [] k v none = ap (λ r. cond (is_eq r) [] ((k, v) ∷ [])) (tied_itself o k)
  put_taken (e ∷ es) k v none = (elim (R k e.0) as (λ r. R k e.0 ≡ r → remove_entry (is_at (R k)) (match_ordering r ((k, v) ∷ e ∷ es) ((e.0, v) ∷ es) (e ∷ insert_entry R es k v)) ≡ e ∷ es) [
    | Less ↦ λ is. ap (λ r. cond (is_eq r) (e ∷ es) ((k, v) ∷ remove_entry (is_at (R k)) (e ∷ es))) (tied_itself o k)
    | Equal ↦ λ is. let found : Some e.1 ≡ None = sym (ap (λ r. cond (is_eq r) (Some e.1) (lookup (is_at (R k)) es)) is) ∙ none in absurd (cc)
    | Greater ↦ λ is.
        let later : lookup (is_at (R k)) es ≡ None = sym (ap (λ r. cond (is_eq r) (Some e.1) (lookup (is_at (R k)) es)) is) ∙ none in
        ap (λ r. cond (is_eq r) (insert_entry R es k v) (e ∷ remove_entry (is_at (R k)) (insert_entry R es k v))) is ∙ ap (λ l. e ∷ l) (put_taken es k v later)
  ]) refl

  -- taking out an entry and then putting it back restores the entries
  pub taken_put : ((x y : K) → R x y ≡ Equal → x ≡ y) → (es : List (K × X)) (k : K) (w : X) → IsAscending R (keys_of es) → lookup (is_at (R k)) es ≡ Some w → insert_entry R (remove_entry (is_at (R k)) es) k w ≡ es
  taken_put exact [] k w up found = absurd (cc)
  taken_put exact (e ∷ es) k w up found = (elim (R k e.0) as (λ r. R k e.0 ≡ r → insert_entry R (cond (is_eq r) es (e ∷ remove_entry (is_at (R k)) es)) k w ≡ e ∷ es) [
    | Less ↦ λ is. let none : None ≡ Some w = sym (none_below k e es up is) ∙ found in absurd (cc)
    | Equal ↦ λ is.
        let same : Some e.1 ≡ Some w = sym (ap (λ r. cond (is_eq r) (Some e.1) (lookup (is_at (R k)) es)) is) ∙ found in
        let value : w ≡ e.1 = cc in
        let key : k ≡ e.0 = exact k e.0 is in
        put_above k w e es up is ∙ (λ i. (key i, value i) ∷ es)
    | Greater ↦ λ is.
        let later : lookup (is_at (R k)) es ≡ Some w = sym (ap (λ r. cond (is_eq r) (Some e.1) (lookup (is_at (R k)) es)) is) ∙ found in
        ap (λ r. match_ordering r ((k, w) ∷ e ∷ remove_entry (is_at (R k)) es) ((e.0, w) ∷ remove_entry (is_at (R k)) es) (e ∷ insert_entry R (remove_entry (is_at (R k)) es) k w)) is
        ∙ ap (λ l. e ∷ l) (taken_put exact es k w (tail_up e es up) later)
  ]) refl

  -- taking out a key that no entry has changes nothing
  pub none_taken : (es : List (K × X)) (k : K) → lookup (is_at (R k)) es ≡ None → remove_entry (is_at (R k)) es ≡ es
  none_taken [] k none = refl
  none_taken (e ∷ es) k none = (elim (R k e.0) as (λ r. R k e.0 ≡ r → cond (is_eq r) es (e ∷ remove_entry (is_at (R k)) es) ≡ e ∷ es) [
    | Less ↦ λ is. ap (λ l. e ∷ l) (none_taken es k (sym (ap (λ r. cond (is_eq r) (Some e.1) (lookup (is_at (R k)) es)) is) ∙ none))
    | Equal ↦ λ is. let found : Some e.1 ≡ None = sym (ap (λ r. cond (is_eq r) (Some e.1) (lookup (is_at (R k)) es)) is) ∙ none in absurd (cc)
    | Greater ↦ λ is. ap (λ l. e ∷ l) (none_taken es k (sym (ap (λ r. cond (is_eq r) (Some e.1) (lookup (is_at (R k)) es)) is) ∙ none))
  ]) refl

  -- an entry that is inserted above all keys is at the end
  pub put_last : (es rest : List (K × X)) (k : K) (v : X) → IsAscending R (keys_of (es ++ (k, v) ∷ rest)) → insert_entry R es k v ≡ es ++ (k, v) ∷ []
  put_last [] rest k v up = refl
  put_last (e ∷ es) rest k v up =
      let here : Contains (keys_of (es ++ (k, v) ∷ rest)) k = contains_map (λ (p : K × X). p.0) (es ++ (k, v) ∷ rest) (k, v) (Contains-append_right es ((k, v) ∷ rest) (k, v) (zero, omega arith, refl)) in
      let below : R e.0 k ≡ Less = subst (λ y. R e.0 y ≡ Less) here.2 (up zero (suc here.0) k (omega arith) (omega (arith, here.1))) in
      let above : R k e.0 ≡ Greater = o.antisymm k e.0 ∙ ap ordering_reverse below in
      ap (λ r. match_ordering r ((k, v) ∷ e ∷ es) ((e.0, v) ∷ es) (e ∷ insert_entry R es k v)) above
      ∙ ap (λ l. e ∷ l) (put_last es rest k v (tail_up e (es ++ (k, v) ∷ rest) up))

  -- the copy followed by the rest is still the list of all entries after the first entry of the rest moves to the copy
  pub copied_more : (entries copy copy' rest rest' : List (K × X)) (k : K) (v : X) → IsAscending R (keys_of entries) → copy ++ rest ≡ entries → rest ≡ (k, v) ∷ rest' → copy' ≡ insert_entry R copy k v → copy' ++ rest' ≡ entries
  copied_more entries copy copy' rest rest' k v up before next is =
      let whole : copy ++ (k, v) ∷ rest' ≡ entries = ap (λ r. copy ++ r) (sym next) ∙ before in
      ap (λ l. l ++ rest') (is ∙ put_last copy rest' k v (subst (λ l. IsAscending R (keys_of l)) (sym whole) up)) ∙ append_assoc copy ((k, v) ∷ []) rest' ∙ whole

-- ---- keys alone
module _ {K : Type 0} {R : K → K → Ordering} (o : IsTotalOrder R) where
  turned_less : (a b : K) → R a b ≡ Less → R b a ≡ Greater
  turned_less a b e = o.antisymm b a ∙ ap ordering_reverse e

  turned_greater : (a b : K) → R a b ≡ Greater → R b a ≡ Less
  turned_greater a b e = o.antisymm b a ∙ ap ordering_reverse e

  pub insert_at_gap : (list : List K) (at : ℕ) (x : K) → IsGapFor R x list at → insert list at x ≡ insert_key R list x
  insert_at_gap [] zero x gap = refl
  insert_at_gap [] (suc at) x gap = absurd (omega (arith, gap.within))
  insert_at_gap (y ∷ ys) zero x gap =
      sym (ap (λ r. match_ordering r (x ∷ y ∷ ys) (y ∷ ys) (y ∷ insert_key R ys x)) (turned_greater y x (gap.above zero x (omega arith) (omega arith))))
  insert_at_gap (y ∷ ys) (suc at) x gap =
      let rest : IsGapFor R x ys at = record {
        within = omega (arith, gap.within);
        below = λ k d low lt. gap.below (suc k) d (omega arith) (omega arith);
        above = λ k d low lt. gap.above (suc k) d (omega arith) (omega arith);
      } in
      ap (λ l. y ∷ l) (insert_at_gap ys at x rest)
      ∙ sym (ap (λ r. match_ordering r (x ∷ y ∷ ys) (y ∷ ys) (y ∷ insert_key R ys x)) (turned_less y x (gap.below zero x (omega arith) (omega arith))))

  later_above : (y : K) (ys : List K) (at : ℕ) (x : K) → IsAscending R (y ∷ ys) → HasAt (y ∷ ys) (suc at) x → R x y ≡ Greater
  later_above y ys at x up here = turned_less y x (subst (λ v. R y v ≡ Less) (here.is x) (up zero (suc at) x (omega arith) here.within))

  tail_at : (y : K) (ys : List K) (at : ℕ) (x : K) → HasAt (y ∷ ys) (suc at) x → HasAt ys at x
  tail_at y ys at x here = record { within = omega (arith, here.within); is = λ d. here.is d }

  tail_keys : (y : K) (ys : List K) → IsAscending R (y ∷ ys) → IsAscending R ys
  tail_keys y ys up i j d lt le = up (suc i) (suc j) d (omega arith) (omega arith)

  pub insert_present : (list : List K) (at : ℕ) (x : K) → IsAscending R list → HasAt list at x → list ≡ insert_key R list x
  insert_present [] at x up here = absurd (omega (arith, here.within))
  insert_present (y ∷ ys) zero x up here =
      let is : R x y ≡ Equal = ap (R x) (here.is x) ∙ tied_itself o x in
      sym (ap (λ r. match_ordering r (x ∷ y ∷ ys) (y ∷ ys) (y ∷ insert_key R ys x)) is)
  insert_present (y ∷ ys) (suc at) x up here =
      ap (λ l. y ∷ l) (insert_present ys at x (tail_keys y ys up) (tail_at y ys at x here))
      ∙ sym (ap (λ r. match_ordering r (x ∷ y ∷ ys) (y ∷ ys) (y ∷ insert_key R ys x)) (later_above y ys at x up here))

  pub remove_present : (list : List K) (at : ℕ) (x : K) → IsAscending R list → HasAt list at x → remove list at ≡ remove_key (is_at (R x)) list
  remove_present [] at x up here = absurd (omega (arith, here.within))
  remove_present (y ∷ ys) zero x up here =
      let is : R x y ≡ Equal = ap (R x) (here.is x) ∙ tied_itself o x in
      sym (ap (λ r. cond (is_eq r) ys (y ∷ remove_key (is_at (R x)) ys)) is)
  remove_present (y ∷ ys) (suc at) x up here =
      ap (λ l. y ∷ l) (remove_present ys at x (tail_keys y ys up) (tail_at y ys at x here))
      ∙ sym (ap (λ r. cond (is_eq r) ys (y ∷ remove_key (is_at (R x)) ys)) (later_above y ys at x up here))

  pub remove_at_gap : (list : List K) (at : ℕ) (x : K) → IsGapFor R x list at → list ≡ remove_key (is_at (R x)) list
  remove_at_gap [] at x gap = refl
  remove_at_gap (y ∷ ys) zero x gap =
      let rest : IsGapFor R x ys zero = record {
        within = omega arith;
        below = λ k d low lt. absurd (omega arith);
        above = λ k d low lt. gap.above (suc k) d (omega arith) (omega arith);
      } in
      ap (λ l. y ∷ l) (remove_at_gap ys zero x rest)
      ∙ sym (ap (λ r. cond (is_eq r) ys (y ∷ remove_key (is_at (R x)) ys)) (turned_greater y x (gap.above zero x (omega arith) (omega arith))))
  remove_at_gap (y ∷ ys) (suc at) x gap =
      let rest : IsGapFor R x ys at = record {
        within = omega (arith, gap.within);
        below = λ k d low lt. gap.below (suc k) d (omega arith) (omega arith);
        above = λ k d low lt. gap.above (suc k) d (omega arith) (omega arith);
      } in
      ap (λ l. y ∷ l) (remove_at_gap ys at x rest)
      ∙ sym (ap (λ r. cond (is_eq r) ys (y ∷ remove_key (is_at (R x)) ys)) (turned_less y x (gap.below zero x (omega arith) (omega arith))))

  -- the list has a key that was put in
  pub inserted_in : ((x y : K) → R x y ≡ Equal → x ≡ y) → (list : List K) (x : K) → Contains (insert_key R list x) x
  inserted_in exact [] x = (zero, omega arith, refl)
  inserted_in exact (y ∷ ys) x = (elim (R x y) as (λ r. R x y ≡ r → Contains (match_ordering r (x ∷ y ∷ ys) (y ∷ ys) (y ∷ insert_key R ys x)) x) [
    | Less ↦ λ is. (zero, omega arith, refl)
    | Equal ↦ λ is. (zero, omega arith, sym (exact x y is))
    | Greater ↦ λ is. let rest = inserted_in exact ys x in (suc rest.0, omega (arith, rest.1), rest.2)
  ]) refl

  pub insert_contained : (list : List K) (x : K) → IsAscending R list → Contains list x → list ≡ insert_key R list x
  insert_contained list x up here = insert_present list here.0 x up (record { within = here.1; is = λ d. get_or_default list here.0 d x here.1 ∙ here.2 })

  pub remove_absent : ((x y : K) → R x y ≡ Equal → x ≡ y) → (list : List K) (x : K) → (Contains list x → ⊥) → list ≡ remove_key (is_at (R x)) list
  remove_absent exact [] x lacks = refl
  remove_absent exact (y ∷ ys) x lacks = (elim (R x y) as (λ r. R x y ≡ r → y ∷ ys ≡ cond (is_eq r) ys (y ∷ remove_key (is_at (R x)) ys)) [
    | Less ↦ λ is. ap (λ l. y ∷ l) (remove_absent exact ys x (λ h. lacks (suc h.0, omega (arith, h.1), h.2)))
    | Equal ↦ λ is. absurd (lacks (zero, omega arith, sym (exact x y is)))
    | Greater ↦ λ is. ap (λ l. y ∷ l) (remove_absent exact ys x (λ h. lacks (suc h.0, omega (arith, h.1), h.2)))
  ]) refl

  -- taking out a key of the list leaves a shorter list
  pub removed_shorter : (list : List K) (x : K) → Contains list x → length list ≡ length (remove_key (is_at (R x)) list) + 1
  removed_shorter [] x here = absurd (omega (arith, here.1))
  removed_shorter (y ∷ ys) x (zero, lt, e) =
      let is : R x y ≡ Equal = ap (R x) e ∙ tied_itself o x in
      let len = ap (λ r. length (cond (is_eq r) ys (y ∷ remove_key (is_at (R x)) ys))) is in
      omega (arith, len)
  removed_shorter (y ∷ ys) x (suc k, lt, e) =
      let rest = removed_shorter ys x (k, omega (arith, lt), e) in
      elim (R x y) as (λ r. length (y ∷ ys) ≡ length (cond (is_eq r) ys (y ∷ remove_key (is_at (R x)) ys)) + 1) [
        | Less ↦ omega (arith, rest)
        | Equal ↦ omega arith
        | Greater ↦ omega (arith, rest)
      ]
