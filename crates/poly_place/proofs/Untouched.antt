-- If a change doesn't touch a placement, the design after the change has the placement exactly if the design before has it.
use Rattle.std.proofs.Common.{Bool, List, None, Option, Some, [], ap, cond, false, inl, inr, refl, subst, sym, true, ℕ, ◌∙◌, ◌∷◌, ◌≡◌, ◌≢◌}
use Rattle.std.specs.Prelude.{nat_eq}
use Rattle.std.specs.List.{Contains, list_any}
use Rattle.std.specs.Map.{lookup, remove_entry}
use Rattle.std.specs.BTreeMap.{insert_entry, is_at}
use Rattle.std.specs.Cmp.Lexicographic.{bytes_decides, nat_list_cmp_total, nat_list_eq_equiv, pointwise}
use Rattle.std.specs.Cmp.{tied_itself}
use Rattle.std.specs.FinMap.{nat_cmp-IsAntisymmetric, slice_cmp-IsAntisymmetric}
use Rattle.std.specs.Ordering.{is_eq, match_ordering}
use Rattle.std.specs.declared.cmp.Ordering.{Ordering}
use Rattle.std.specs.declared.cmp.Ordering.TheVariants.{Equal, Greater, Less}
use Rattle.std.proofs.lemmas.Bool.{both_ways}
use Rattle.poly_grid.specs.Spot.{Spot}
use Rattle.poly_shape.specs.Order.{spot_eq, spot_equiv}
use Rattle.poly_design.proofs.Outside.{mode_elsewhere, place_freed}
use Rattle.poly_design.specs.Changes.{changed, set_spec}
use Rattle.poly_design.specs.Layout.{Layout, spec_of}
use Rattle.poly_design.specs.Listed.{IsListOf}
use Rattle.poly_design.specs.PlacementOrder.{placement_cmp}
use Rattle.poly_design.specs.Name.{name_cmp}
use Rattle.poly_design.specs.Placements.{IsPlacement, IsUnblocked}
use Rattle.poly_design.specs.declared.change.Change.{Change}
use Rattle.poly_design.specs.declared.change.Change.TheVariants.{Cell, Piece}
use Rattle.poly_design.specs.declared.placement.Placement.{Placement}
use Rattle.poly_design.specs.declared.spec.Spec.{Spec}
use Rattle.poly_tiling.proofs.Contained.{contains_in, in_contains, pairs_none}
use Rattle.poly_tiling.proofs.Lists.{In, any_from, any_in}
use Rattle.poly_tiling.proofs.Tilings.{same_spot_is}
use Rattle.poly_place.specs.Touched.{touches}

-- ---- entries of other keys

module _ {K X : Type 0} {R : K → K → Ordering} (exact : (x y : K) → R x y ≡ Equal → x ≡ y) where
  in_put_at : (e : K × X) (es : List (K × X)) (k : K) (v : X) (f : K × X) → f.0 ≢ k → (In f (insert_entry R es k v) → In f es) → (r : Ordering) → R k e.0 ≡ r →
      In f (match_ordering r ((k, v) ∷ e ∷ es) ((e.0, v) ∷ es) (e ∷ insert_entry R es k v)) → In f (e ∷ es)
  in_put_at e es k v f d ih Less is (inl s) = absurd (d (sym (ap (λ x. x.0) s)))
  in_put_at e es k v f d ih Less is (inr i) = i
  in_put_at e es k v f d ih Equal is (inl s) = absurd (d (sym (ap (λ x. x.0) s) ∙ sym (exact k e.0 is)))
  in_put_at e es k v f d ih Equal is (inr i) = inr i
  in_put_at e es k v f d ih Greater is (inl s) = inl s
  in_put_at e es k v f d ih Greater is (inr i) = inr (ih i)

  pub in_put : (es : List (K × X)) (k : K) (v : X) (f : K × X) → f.0 ≢ k → In f (insert_entry R es k v) → In f es
  in_put [] k v f d (inl s) = absurd (d (sym (ap (λ x. x.0) s)))
  in_put [] k v f d (inr i) = absurd i
  in_put (e ∷ es) k v f d i = in_put_at e es k v f d (in_put es k v f d) (R k e.0) refl i

  put_in_at : (e : K × X) (es : List (K × X)) (k : K) (v : X) (f : K × X) → f.0 ≢ k → (In f es → In f (insert_entry R es k v)) → (r : Ordering) → R k e.0 ≡ r →
      In f (e ∷ es) → In f (match_ordering r ((k, v) ∷ e ∷ es) ((e.0, v) ∷ es) (e ∷ insert_entry R es k v))
  put_in_at e es k v f d ih Less is i = inr i
  put_in_at e es k v f d ih Equal is (inl s) = absurd (d (sym (ap (λ x. x.0) s) ∙ sym (exact k e.0 is)))
  put_in_at e es k v f d ih Equal is (inr i) = inr i
  put_in_at e es k v f d ih Greater is (inl s) = inl s
  put_in_at e es k v f d ih Greater is (inr i) = inr (ih i)

  pub put_in : (es : List (K × X)) (k : K) (v : X) (f : K × X) → f.0 ≢ k → In f es → In f (insert_entry R es k v)
  put_in [] k v f d i = absurd i
  put_in (e ∷ es) k v f d i = put_in_at e es k v f d (put_in es k v f d) (R k e.0) refl i

  in_taken_at : (e : K × X) (es : List (K × X)) (k : K) (f : K × X) → (In f (remove_entry (is_at (R k)) es) → In f es) → (b : Bool) → In f (cond b es (e ∷ remove_entry (is_at (R k)) es)) → In f (e ∷ es)
  in_taken_at e es k f ih true i = inr i
  in_taken_at e es k f ih false (inl s) = inl s
  in_taken_at e es k f ih false (inr i) = inr (ih i)

  pub in_taken : (es : List (K × X)) (k : K) (f : K × X) → In f (remove_entry (is_at (R k)) es) → In f es
  in_taken [] k f i = absurd i
  in_taken (e ∷ es) k f i = in_taken_at e es k f (in_taken es k f) (is_eq (R k e.0)) i

  taken_in_at : (e : K × X) (es : List (K × X)) (k : K) (f : K × X) → f.0 ≢ k → (In f es → In f (remove_entry (is_at (R k)) es)) → (r : Ordering) → R k e.0 ≡ r → In f (e ∷ es) → In f (cond (is_eq r) es (e ∷ remove_entry (is_at (R k)) es))
  taken_in_at e es k f d ih Less is (inl s) = inl s
  taken_in_at e es k f d ih Less is (inr i) = inr (ih i)
  taken_in_at e es k f d ih Equal is (inl s) = absurd (d (sym (ap (λ x. x.0) s) ∙ sym (exact k e.0 is)))
  taken_in_at e es k f d ih Equal is (inr i) = i
  taken_in_at e es k f d ih Greater is (inl s) = inl s
  taken_in_at e es k f d ih Greater is (inr i) = inr (ih i)

  pub taken_in : (es : List (K × X)) (k : K) (f : K × X) → f.0 ≢ k → In f es → In f (remove_entry (is_at (R k)) es)
  taken_in [] k f d i = absurd i
  taken_in (e ∷ es) k f d i = taken_in_at e es k f d (taken_in es k f d) (R k e.0) refl i

-- ---- cells

apart_cell : (c : Spot) (p : Placement) → list_any (λ k. spot_eq k c) p.cells ≡ false → (k : Spot) → Contains p.cells k → k ≢ c
apart_cell c p h k i e = both_ways (list_any (λ k. spot_eq k c) p.cells) h (any_from (λ k. spot_eq k c) p.cells k (contains_in p.cells k i) (subst (λ z. spot_eq k z ≡ true) e (spot_equiv.refl k)))

-- ---- pieces

pub exact_name : (x y : List ℕ) → name_cmp x y ≡ Equal → x ≡ y
exact_name x y e = slice_cmp-IsAntisymmetric nat_cmp-IsAntisymmetric x y e

pub spec_from : (pieces : List (List ℕ × Spec)) (name : List ℕ) (after : Option Spec) (e : List ℕ × Spec) → e.0 ≢ name → In e (set_spec pieces name after) → In e pieces
spec_from pieces name None e d i = in_taken exact_name pieces name e i
spec_from pieces name (Some s) e d i = in_put exact_name pieces name s e d i

spec_to : (pieces : List (List ℕ × Spec)) (name : List ℕ) (after : Option Spec) (e : List ℕ × Spec) → e.0 ≢ name → In e pieces → In e (set_spec pieces name after)
spec_to pieces name None e d i = taken_in exact_name pieces name e d i
spec_to pieces name (Some s) e d i = put_in exact_name pieces name s e d i

apart_name : (name : List ℕ) (p : Placement) → pointwise nat_eq p.name name ≡ false → p.name ≢ name
apart_name name p h e = both_ways (pointwise nat_eq p.name name) h (subst (λ z. pointwise nat_eq p.name z ≡ true) e (nat_list_eq_equiv.refl p.name))

pub untouched_stays : (d : Layout) (x : Change) (p : Placement) → touches x p ≡ false → IsPlacement d p → IsPlacement (changed d x) p
untouched_stays d (Cell c before after) p h is = record {
  spec = is.spec;
  has = is.has;
  place = place_freed (IsUnblocked d) (IsUnblocked (changed d (Cell c before after))) is.spec p.cells (λ k i free e. free (sym (mode_elsewhere d.cells c k after (apart_cell c p h k i)) ∙ e)) is.place;
}
untouched_stays d (Piece name before after) p h is = record {
  spec = is.spec;
  has = in_contains (set_spec d.pieces name after) (p.name, is.spec) (spec_to d.pieces name after (p.name, is.spec) (apart_name name p h) (contains_in d.pieces (p.name, is.spec) is.has));
  place = is.place;
}

pub untouched_was : (d : Layout) (x : Change) (p : Placement) → touches x p ≡ false → IsPlacement (changed d x) p → IsPlacement d p
untouched_was d (Cell c before after) p h is = record {
  spec = is.spec;
  has = is.has;
  place = place_freed (IsUnblocked (changed d (Cell c before after))) (IsUnblocked d) is.spec p.cells (λ k i free e. free (mode_elsewhere d.cells c k after (apart_cell c p h k i) ∙ e)) is.place;
}
untouched_was d (Piece name before after) p h is = record {
  spec = is.spec;
  has = in_contains d.pieces (p.name, is.spec) (spec_from d.pieces name after (p.name, is.spec) (apart_name name p h) (contains_in (set_spec d.pieces name after) (p.name, is.spec) is.has));
  place = is.place;
}

-- ---- what is found anew

covered : (c : Spot) (p : Placement) → list_any (λ k. spot_eq k c) p.cells ≡ true → Contains p.cells c
covered c p h = let r = any_in (λ k. spot_eq k c) p.cells h in in_contains p.cells c (subst (λ z. In z p.cells) (same_spot_is r.0 c r.2) r.1)

covers : (c : Spot) (p : Placement) → Contains p.cells c → list_any (λ k. spot_eq k c) p.cells ≡ true
covers c p i = any_from (λ k. spot_eq k c) p.cells c (contains_in p.cells c i) (spot_equiv.refl c)

pub listed_on : (d : Layout) (c : Spot) (list : List Placement) → IsListOf placement_cmp (λ p. IsPlacement d p × Contains p.cells c) list → IsListOf placement_cmp (λ p. IsPlacement d p × (list_any (λ k. spot_eq k c) p.cells ≡ true)) list
listed_on d c list is = record {
  ascending = is.ascending;
  exact = λ p. (λ h. let r = (is.exact p).0 h in (r.0, covers c p r.1), λ h. (is.exact p).1 (h.0, covered c p h.1));
}

pub listed_of : (d : Layout) (name : List ℕ) (list : List Placement) → IsListOf placement_cmp (λ p. IsPlacement d p × (p.name ≡ name)) list → IsListOf placement_cmp (λ p. IsPlacement d p × (pointwise nat_eq p.name name ≡ true)) list
listed_of d name list is = record {
  ascending = is.ascending;
  exact = λ p. (
    λ h. let r = (is.exact p).0 h in (r.0, subst (λ z. pointwise nat_eq p.name z ≡ true) r.1 (nat_list_eq_equiv.refl p.name)),
    λ h. (is.exact p).1 (h.0, (bytes_decides p.name name).0 h.1),
  );
}

not_found_at : (e : List ℕ × Spec) (es : List (List ℕ × Spec)) (name : List ℕ) (s : Spec) → (In (name, s) es → lookup (is_at (name_cmp name)) es ≡ None → ⊥) → (b : Bool) → is_eq (name_cmp name e.0) ≡ b →
    In (name, s) (e ∷ es) → cond b (Some e.1) (lookup (is_at (name_cmp name)) es) ≡ None → ⊥
not_found_at e es name s ih true is i none = cc
not_found_at e es name s ih false is (inl same) none =
    let here : is_eq (name_cmp name e.0) ≡ true = ap (λ z. is_eq (name_cmp name z)) (ap (λ x. x.0) same) ∙ ap is_eq (tied_itself nat_list_cmp_total name) in
    both_ways (is_eq (name_cmp name e.0)) is here
not_found_at e es name s ih false is (inr i) none = ih i none

not_found : (es : List (List ℕ × Spec)) (name : List ℕ) (s : Spec) → In (name, s) es → lookup (is_at (name_cmp name)) es ≡ None → ⊥
not_found [] name s i none = absurd i
not_found (e ∷ es) name s i none = not_found_at e es name s (not_found es name s) (is_eq (name_cmp name e.0)) refl i none

-- a piece that the design doesn't have has no placements
pub listed_none : (d : Layout) (name : List ℕ) (list : List Placement) → spec_of d name ≡ None → list ≡ [] → IsListOf placement_cmp (λ p. IsPlacement d p × (pointwise nat_eq p.name name ≡ true)) list
listed_none d name list none is = rw is (record {
  ascending = pairs_none (λ a b. placement_cmp a b ≡ Less);
  exact = λ p. (
    λ h. absurd (contains_in [] p h),
    λ h. absurd (not_found d.pieces name h.0.spec (subst (λ z. In (z, h.0.spec) d.pieces) ((bytes_decides p.name name).0 h.1) (contains_in d.pieces (p.name, h.0.spec) h.0.has)) none),
  );
})
