-- The placements that a change leaves as they are: those of other pieces, and those that don't cover the cell.
use Rattle.std.proofs.Common.{◌≡◌, ◌≢◌, ◌∙◌, ℕ, ◌+◌, ◌≤◌, ◌↔◌, inl, inr, false, cond, List, [], ◌∷◌, length, Option, Some, None, refl, sym, ap, subst, arith}
use Rattle.std.specs.Prelude.{unwrap_or}
use Rattle.std.specs.declared.cmp.Ordering.{Ordering}
use Rattle.std.specs.declared.cmp.Ordering.TheVariants.{Less, Equal, Greater}
use Rattle.std.specs.Ordering.{is_eq, match_ordering, ordering_then}
use Rattle.std.specs.Cmp.{eq_by_cmp_equiv}
use Rattle.std.specs.Cmp.Lexicographic.{nat_list_cmp_total}
use Rattle.std.specs.List.{Contains}
use Rattle.std.specs.Map.{keys_of, lookup, remove_entry}
use Rattle.std.specs.BTreeMap.{insert_entry, is_at}
use Rattle.std.proofs.lemmas.Map.Lookups.{exact_bytes}
use Rattle.std.proofs.lemmas.Map.Views.{lookup-from_Contains}
use Rattle.poly_grid.specs.Spot.{Spot}
use Rattle.poly_shape.specs.Order.{IsAscending, spot_total, cells_cmp}
use Rattle.poly_shape.proofs.Ascending.{same_spot, same_cells}
use Rattle.poly_design.specs.Name.{name_cmp}
use Rattle.poly_design.specs.declared.mode.Mode.{Mode}
use Rattle.poly_design.specs.declared.mode.Mode.TheVariants.{Required, Optional, Blocked}
use Rattle.poly_design.specs.declared.spec.Spec.{Spec}
use Rattle.poly_design.specs.declared.placement.Placement.{Placement}
use Rattle.poly_design.specs.declared.change.Change.TheVariants.{Cell, Piece}
use Rattle.poly_design.specs.PlacementOrder.{placement_cmp, placement_total}
use Rattle.poly_design.specs.Layout.{Layout, mode_at, mode_of, spec_of}
use Rattle.poly_design.specs.Listed.{IsCount, IsListOf}
use Rattle.poly_design.specs.Placements.{FewPlacements, IsOfPiece, IsPlace, IsPlacement, IsUnblocked}
use Rattle.poly_design.specs.Limits.{IsDesign, NoneBlocked}
use Rattle.poly_design.specs.Changes.{changed, set_mode, set_spec}
use Rattle.poly_design.proofs.Sets.{distinct_keys, first, first_or_later, lacks_nil, later, listed_same}
use Rattle.poly_design.proofs.Counts.{recounted, same_or_apart, in_or_out}
use Rattle.poly_design.proofs.Rows.{few_from_list, placement_of_exactly}
use Rattle.poly_design.proofs.Puts.{put_ascending, put_cases, take_ascending, take_cases}
use Rattle.poly_design.proofs.Restored.{mode_stands, spec_stands}
use Rattle.poly_design.proofs.Accepted.{fewer}

-- ---- entries of other keys
still : {X : Type 0} (x : X) (xs ys : List X) (y : X) → (Contains xs y → Contains ys y) → Contains (x ∷ xs) y → Contains (x ∷ ys) y
still x xs ys y kept here = elim (first_or_later x xs y here) [ inl there ↦ later x ys y (kept there) | inr eq ↦ subst (Contains (x ∷ ys)) eq (first x ys) ]

apart : {K : Type 0} {R : K → K → Ordering} → ((x y : K) → R x y ≡ Equal → x ≡ y) → (q k : K) → (q ≡ k → ⊥) → is_eq (R q k) ≡ false
apart {K} {R} same q k other = (elim (R q k) as (λ r. R q k ≡ r → is_eq r ≡ false) [
  | Less ↦ λ is. refl
  | Equal ↦ λ is. absurd (other (same q k is))
  | Greater ↦ λ is. refl
]) refl

module _ {K X : Type 0} {R : K → K → Ordering} (same : (x y : K) → R x y ≡ Equal → x ≡ y) where
  put_keeps : (es : List (K × X)) (k : K) (v : X) (p : K × X) → (p.0 ≡ k → ⊥) → Contains es p → Contains (insert_entry R es k v) p
  put_keeps [] k v p other here = absurd (lacks_nil p here)
  put_keeps (e ∷ es) k v p other here = (elim (R k e.0) as (λ r. R k e.0 ≡ r → Contains (match_ordering r ((k, v) ∷ e ∷ es) ((e.0, v) ∷ es) (e ∷ insert_entry R es k v)) p) [
    | Less ↦ λ is. later (k, v) (e ∷ es) p here
    | Equal ↦ λ is. elim (first_or_later e es p here) [
      | inl there ↦ later (e.0, v) es p there
      | inr eq ↦ absurd (other (sym (ap (λ (q : K × X). q.0) eq) ∙ sym (same k e.0 is)))
    ]
    | Greater ↦ λ is. elim (first_or_later e es p here) [
      | inl there ↦ later e (insert_entry R es k v) p (put_keeps es k v p other there)
      | inr eq ↦ subst (Contains (e ∷ insert_entry R es k v)) eq (first e (insert_entry R es k v))
    ]
  ]) refl

  take_keeps : (es : List (K × X)) (k : K) (p : K × X) → (p.0 ≡ k → ⊥) → Contains es p → Contains (remove_entry (is_at (R k)) es) p
  take_keeps [] k p other here = here
  take_keeps (e ∷ es) k p other here = (elim (R k e.0) as (λ r. R k e.0 ≡ r → Contains (cond (is_eq r) es (e ∷ remove_entry (is_at (R k)) es)) p) [
    | Less ↦ λ is. still e es (remove_entry (is_at (R k)) es) p (take_keeps es k p other) here
    | Equal ↦ λ is. elim (first_or_later e es p here) [
      | inl there ↦ there
      | inr eq ↦ absurd (other (sym (ap (λ (q : K × X). q.0) eq) ∙ sym (same k e.0 is)))
    ]
    | Greater ↦ λ is. still e es (remove_entry (is_at (R k)) es) p (take_keeps es k p other) here
  ]) refl

  pub put_elsewhere : (es : List (K × X)) (k q : K) (v : X) → (q ≡ k → ⊥) → lookup (is_at (R q)) (insert_entry R es k v) ≡ lookup (is_at (R q)) es
  put_elsewhere [] k q v other = ap (λ b. cond b (Some v) None) (apart same q k other)
  put_elsewhere (e ∷ es) k q v other = (elim (R k e.0) as (λ r. R k e.0 ≡ r → lookup (is_at (R q)) (match_ordering r ((k, v) ∷ e ∷ es) ((e.0, v) ∷ es) (e ∷ insert_entry R es k v)) ≡ lookup (is_at (R q)) (e ∷ es)) [
    | Less ↦ λ is. ap (λ b. cond b (Some v) (lookup (is_at (R q)) (e ∷ es))) (apart same q k other)
    | Equal ↦ λ is.
        let key : is_eq (R q e.0) ≡ false = apart same q e.0 (λ eq. other (eq ∙ sym (same k e.0 is))) in
        ap (λ b. cond b (Some v) (lookup (is_at (R q)) es)) key ∙ sym (ap (λ b. cond b (Some e.1) (lookup (is_at (R q)) es)) key)
    | Greater ↦ λ is. ap (λ l. cond (is_eq (R q e.0)) (Some e.1) l) (put_elsewhere es k q v other)
  ]) refl

  pub taken_elsewhere : (es : List (K × X)) (k q : K) → (q ≡ k → ⊥) → lookup (is_at (R q)) (remove_entry (is_at (R k)) es) ≡ lookup (is_at (R q)) es
  taken_elsewhere [] k q other = refl
  taken_elsewhere (e ∷ es) k q other = (elim (R k e.0) as (λ r. R k e.0 ≡ r → lookup (is_at (R q)) (cond (is_eq r) es (e ∷ remove_entry (is_at (R k)) es)) ≡ lookup (is_at (R q)) (e ∷ es)) [
    | Less ↦ λ is. ap (λ l. cond (is_eq (R q e.0)) (Some e.1) l) (taken_elsewhere es k q other)
    | Equal ↦ λ is. sym (ap (λ b. cond b (Some e.1) (lookup (is_at (R q)) es)) (apart same q e.0 (λ eq. other (eq ∙ sym (same k e.0 is)))))
    | Greater ↦ λ is. ap (λ l. cond (is_eq (R q e.0)) (Some e.1) l) (taken_elsewhere es k q other)
  ]) refl

both_equal : (p q : Ordering) → ordering_then p q ≡ Equal → (p ≡ Equal) × (q ≡ Equal)
both_equal Less q e = (e, absurd (cc))
both_equal Equal q e = (refl, e)
both_equal Greater q e = (e, absurd (cc))

-- placements that tie are equal
pub same_placement : (a b : Placement) → placement_cmp a b ≡ Equal → a ≡ b
same_placement a b e =
    let both = both_equal (name_cmp a.name b.name) (cells_cmp a.cells b.cells) e in
    let names : a.name ≡ b.name = exact_bytes a.name b.name both.0 in
    let cells : a.cells ≡ b.cells = same_cells a.cells b.cells both.1 in
    λ i. record { name = names i; cells = cells i }

-- ---- a piece that is changed
spec_elsewhere : (pieces : List (List ℕ × Spec)) (name : List ℕ) (after : Option Spec) (n : List ℕ) (s : Spec) → (n ≡ name → ⊥) → Contains pieces (n, s) ↔ Contains (set_spec pieces name after) (n, s)
spec_elsewhere pieces name None n s other = (take_keeps exact_bytes pieces name (n, s) other, take_cases nat_list_cmp_total pieces name (n, s))
spec_elsewhere pieces name (Some t) n s other = (
  put_keeps exact_bytes pieces name t (n, s) other,
  λ h. elim (put_cases nat_list_cmp_total exact_bytes pieces name t (n, s) h) [
    | inl eq ↦ absurd (other (sym (ap (λ (v : List ℕ × Spec). v.0) eq)))
    | inr old ↦ old
  ],
)

piece_outside : (d : Layout) (name : List ℕ) (before after : Option Spec) (p : Placement) → (p.name ≡ name → ⊥) → IsPlacement d p ↔ IsPlacement (changed d (Piece name before after)) p
piece_outside d name before after p other = (
  λ h. record { spec = h.spec; has = (spec_elsewhere d.pieces name after p.name h.spec other).0 h.has; place = h.place },
  λ h. record { spec = h.spec; has = (spec_elsewhere d.pieces name after p.name h.spec other).1 h.has; place = h.place },
)

specs_ascend : (pieces : List (List ℕ × Spec)) (name : List ℕ) (after : Option Spec) → IsAscending name_cmp (keys_of pieces) → IsAscending name_cmp (keys_of (set_spec pieces name after))
specs_ascend pieces name None up = take_ascending nat_list_cmp_total pieces name up
specs_ascend pieces name (Some s) up = put_ascending nat_list_cmp_total pieces name s up

pub of_some : (F : Spot → Type 0) (name : List ℕ) (o : Option Spec) (s : Spec) → o ≡ Some s → (p : Placement) → ((p.name ≡ name) × IsPlace F s p.cells) ↔ IsOfPiece F name o p
of_some F name o s is p = (
  λ h. (h.0, (s, is, h.1)),
  λ h.
      let both : Some h.1.0 ≡ Some s = sym h.1.1 ∙ is in
      let same : h.1.0 ≡ s = cc in
      (h.0, subst (λ (v : Spec). IsPlace F v p.cells) same h.1.2),
)

of_piece_exactly : (d : Layout) (name : List ℕ) → NoneBlocked d.cells → IsAscending name_cmp (keys_of d.pieces) → (p : Placement) → IsOfPiece (Contains (keys_of d.cells)) name (spec_of d name) p ↔ (IsPlacement d p × (p.name ≡ name))
of_piece_exactly d name none up p = (
  λ h. (placement_of_exactly d name h.1.0 none up h.1.1 p).0 (h.0, h.1.2),
  λ h.
      let entry : Contains d.pieces (name, h.0.spec) = subst (λ n. Contains d.pieces (n, h.0.spec)) h.1 h.0.has in
      let found : spec_of d name ≡ Some h.0.spec = lookup-from_Contains (eq_by_cmp_equiv nat_list_cmp_total) name h.0.spec d.pieces (distinct_keys name_cmp (keys_of d.pieces) up) entry in
      let there = (placement_of_exactly d name h.0.spec none up found p).1 h in
      (there.0, (h.0.spec, found, there.1)),
)

pub piece_listed : (d : Layout) (name : List ℕ) (list : List Placement) → IsDesign d → IsListOf placement_cmp (IsOfPiece (Contains (keys_of d.cells)) name (spec_of d name)) list
    → IsListOf placement_cmp (λ p. IsPlacement d p × (p.name ≡ name)) list
piece_listed d name list is listed = listed_same (IsOfPiece (Contains (keys_of d.cells)) name (spec_of d name)) (λ p. IsPlacement d p × (p.name ≡ name)) list listed (of_piece_exactly d name is.unblocked is.pieces_ascend)

pub piece_recounted : (d : Layout) (name : List ℕ) (before after : Option Spec) (n m : ℕ) (old new : List Placement) → IsDesign d → IsCount placement_cmp (IsPlacement d) n
    → IsListOf placement_cmp (IsOfPiece (Contains (keys_of d.cells)) name (spec_of d name)) old → IsListOf placement_cmp (IsOfPiece (Contains (keys_of d.cells)) name after) new → m + length old ≡ n + length new
    → IsCount placement_cmp (IsPlacement (changed d (Piece name before after))) m
piece_recounted d name before after n m old new is count gone come sum =
    let e : Layout = changed d (Piece name before after) in
    let stands : spec_of e name ≡ after = spec_stands d.pieces name after is.pieces_ascend in
    recounted placement_total same_placement (IsPlacement d) (IsPlacement e) (λ p. p.name ≡ name) n m old new
    (λ p. same_or_apart nat_list_cmp_total exact_bytes p.name name)
    (piece_outside d name before after)
    count
    (piece_listed d name old is gone)
    (listed_same (IsOfPiece (Contains (keys_of d.cells)) name after) (λ p. IsPlacement e p × (p.name ≡ name)) new come
    (subst (λ (o : Option Spec). (p : Placement) → IsOfPiece (Contains (keys_of d.cells)) name o p ↔ (IsPlacement e p × (p.name ≡ name))) stands (of_piece_exactly e name is.unblocked (specs_ascend d.pieces name after is.pieces_ascend))))
    sum

-- ---- a cell that is changed
pub mode_elsewhere : (cells : List (Spot × Mode)) (c x : Spot) (mode : Mode) → (x ≡ c → ⊥) → mode_at (set_mode cells c mode) x ≡ mode_at cells x
mode_elsewhere cells c x Required other = ap (λ r. unwrap_or r Blocked) (put_elsewhere same_spot cells c x Required other)
mode_elsewhere cells c x Optional other = ap (λ r. unwrap_or r Blocked) (put_elsewhere same_spot cells c x Optional other)
mode_elsewhere cells c x Blocked other = ap (λ r. unwrap_or r Blocked) (taken_elsewhere same_spot cells c x other)

pub place_freed : (F G : Spot → Type 0) (spec : Spec) (k : List Spot) → ((c : Spot) → Contains k c → F c → G c) → IsPlace F spec k → IsPlace G spec k
place_freed F G spec k freed p = record {
  turn = p.turn;
  image = p.image;
  right = p.right;
  down = p.down;
  known = p.known;
  turned = p.turned;
  lies = record { in_range = p.lies.in_range; moved = p.lies.moved; free = λ c here. freed c here (p.lies.free c here); allowed = p.lies.allowed };
}

cell_outside : (d : Layout) (c : Spot) (before mode : Mode) (p : Placement) → (Contains p.cells c → ⊥) → IsPlacement d p ↔ IsPlacement (changed d (Cell c before mode)) p
cell_outside d c before mode p lacks =
    let e : Layout = changed d (Cell c before mode) in
    let elsewhere : (x : Spot) → Contains p.cells x → mode_of e x ≡ mode_of d x = λ x here. mode_elsewhere d.cells c x mode (λ eq. lacks (subst (Contains p.cells) eq here)) in (
      λ h. record { spec = h.spec; has = h.has; place = place_freed (IsUnblocked d) (IsUnblocked e) h.spec p.cells (λ x here free is. free (sym (elsewhere x here) ∙ is)) h.place },
      λ h. record { spec = h.spec; has = h.has; place = place_freed (IsUnblocked e) (IsUnblocked d) h.spec p.cells (λ x here free is. free (elsewhere x here ∙ is)) h.place },
    )

pub cell_recounted : (d : Layout) (c : Spot) (before mode : Mode) (n m : ℕ) (old new : List Placement) → IsCount placement_cmp (IsPlacement d) n
    → IsListOf placement_cmp (λ p. IsPlacement d p × Contains p.cells c) old → IsListOf placement_cmp (λ p. IsPlacement (changed d (Cell c before mode)) p × Contains p.cells c) new → m + length old ≡ n + length new
    → IsCount placement_cmp (IsPlacement (changed d (Cell c before mode))) m
cell_recounted d c before mode n m old new count gone come sum =
    recounted placement_total same_placement (IsPlacement d) (IsPlacement (changed d (Cell c before mode))) (λ p. Contains p.cells c) n m old new
    (λ p. in_or_out spot_total same_spot p.cells c)
    (cell_outside d c before mode)
    count gone come sum

-- if both modes are blocked or neither is, the same cells are unblocked before and after
same_freedom : (d : Layout) (c : Spot) (before mode : Mode) → IsDesign d → (mode_of d c ≢ Blocked) ↔ (mode ≢ Blocked) → (x : Spot) → IsUnblocked d x ↔ IsUnblocked (changed d (Cell c before mode)) x
same_freedom d c before mode is alike x =
    let stands : mode_at (set_mode d.cells c mode) c ≡ mode = mode_stands d.cells c mode is.cells_ascend in
    elim (same_or_apart spot_total same_spot x c) [
      | inl eq ↦ (
        λ free e. alike.0 (λ b. free (ap (mode_of d) eq ∙ b)) (sym stands ∙ sym (ap (mode_at (set_mode d.cells c mode)) eq) ∙ e),
        λ free e. alike.1 (λ b. free (ap (mode_at (set_mode d.cells c mode)) eq ∙ stands ∙ b)) (sym (ap (mode_of d) eq) ∙ e),
      )
      | inr other ↦
          let elsewhere = mode_elsewhere d.cells c x mode other in
          (λ free e. free (sym elsewhere ∙ e), λ free e. free (elsewhere ∙ e))
    ]

placed_alike : (d : Layout) (c : Spot) (before mode : Mode) → IsDesign d → (mode_of d c ≢ Blocked) ↔ (mode ≢ Blocked) → (p : Placement) → IsPlacement d p ↔ IsPlacement (changed d (Cell c before mode)) p
placed_alike d c before mode is alike p =
    let e : Layout = changed d (Cell c before mode) in (
      λ h. record { spec = h.spec; has = h.has; place = place_freed (IsUnblocked d) (IsUnblocked e) h.spec p.cells (λ x here. (same_freedom d c before mode is alike x).0) h.place },
      λ h. record { spec = h.spec; has = h.has; place = place_freed (IsUnblocked e) (IsUnblocked d) h.spec p.cells (λ x here. (same_freedom d c before mode is alike x).1) h.place },
    )

pub cell_kept : (d : Layout) (c : Spot) (before mode : Mode) (n : ℕ) → IsDesign d → (mode_of d c ≢ Blocked) ↔ (mode ≢ Blocked) → IsCount placement_cmp (IsPlacement d) n
    → IsCount placement_cmp (IsPlacement (changed d (Cell c before mode))) n
cell_kept d c before mode n is alike count = record {
  list = count.list;
  listed = listed_same (IsPlacement d) (IsPlacement (changed d (Cell c before mode))) count.list count.listed (placed_alike d c before mode is alike);
  whole = count.whole;
}

-- blocking a cell only takes placements away
pub few_blocked : (d : Layout) (c : Spot) (before : Mode) → IsDesign d → FewPlacements (changed d (Cell c before Blocked))
few_blocked d c before is = fewer d (changed d (Cell c before Blocked)) is.few_placements
    (λ p h. record { spec = h.spec; has = h.has; place = place_freed (IsUnblocked (changed d (Cell c before Blocked))) (IsUnblocked d) h.spec p.cells (λ x here. free x) h.place })
  where
    free : (x : Spot) → IsUnblocked (changed d (Cell c before Blocked)) x → IsUnblocked d x
    free x kept = elim (same_or_apart spot_total same_spot x c) [
      | inl eq ↦ absurd (kept (ap (mode_at (set_mode d.cells c Blocked)) eq ∙ mode_stands d.cells c Blocked is.cells_ascend))
      | inr other ↦ λ is_blocked. kept (mode_elsewhere d.cells c x Blocked other ∙ is_blocked)
    ]

-- ---- the count and the limit
pub few_counted : (d : Layout) (n : ℕ) → IsCount placement_cmp (IsPlacement d) n → n ≤ 20000 → FewPlacements d
few_counted d n count few = few_from_list d count.list count.listed (omega (arith, count.whole, few))

pub counted_few : (d : Layout) (n : ℕ) → IsCount placement_cmp (IsPlacement d) n → FewPlacements d → n ≤ 20000
counted_few d n count few = let le = few count.list count.listed.ascending (λ p here. (count.listed.exact p).0 here) in omega (arith, le, count.whole)

pub count_none : (d : Layout) → d.pieces ≡ [] → IsCount placement_cmp (IsPlacement d) 0
count_none d none = record {
  list = [];
  listed = record {
    ascending = λ i j x lt le. absurd (omega arith);
    exact = λ p. (λ h. absurd (lacks_nil p h), λ h. absurd (lacks_nil (p.name, h.spec) (subst (λ l. Contains l (p.name, h.spec)) none h.has)));
  };
  whole = refl;
}
