-- The placements of pieces, listed one piece after another.
use Rattle.std.proofs.Common.{◌≡◌, ◌≢◌, true, ◌∙◌, ℕ, zero, ◌-◌, ◌≤◌, ◌⊎◌, ◌↔◌, List, [], ◌∷◌, ◌++◌, length, get_or, map, Option, Some, None, Result, Ok, Err, Vec, Global, refl, sym, ap, subst, inl, inr, arith, append_assoc}
use Rattle.std.proofs.lemmas.List.{append-nil, length-map, length-append, get_or-map, get_or_append_left, get_or-append_right}
use Rattle.std.proofs.lemmas.List.Elements.{Contains-append_left, Contains-append_right, Contains-append_cases, Contains-push, Contains-push_cases}
use Rattle.std.proofs.lemmas.Map.Views.{tells_apart, lookup-from_Contains, Contains-from_lookup, Contains-keys_from_lookup, IsSome-lookup_from_Contains}
use Rattle.std.proofs.lemmas.Map.Lookups.{exact_bytes}
use mathlib.Core.Bool.{true≢false}
use Rattle.std.specs.Prelude.{IfOk, IfErr, IsSome, unwrap_or}
use Rattle.std.specs.declared.cmp.Ordering.TheVariants.{Less, Equal}
use Rattle.std.specs.Ordering.{ordering_then, eq_by_cmp}
use Rattle.std.specs.Cmp.{eq_by_cmp_equiv, tied_itself}
use Rattle.std.specs.Cmp.Lexicographic.{nat_list_cmp_total}
use Rattle.std.specs.List.{Contains}
use Rattle.std.specs.Map.{keys_of, lookup}
use Rattle.std.specs.BTreeMap.{is_at}
use Rattle.poly_grid.specs.Spot.{Spot}
use Rattle.poly_grid.specs.declared.grid.Grid.{Grid}
use Rattle.poly_grid.specs.declared.refusal.Refusal.{Refusal}
use Rattle.poly_grid.specs.declared.refusal.Refusal.TheVariants.{Memory, TooManyPlacements}
use Rattle.poly_shape.specs.Order.{IsAscending, spot_cmp, spot_total, cells_cmp}
use Rattle.poly_shape.proofs.Ascending.{same_spot, length-part}
use Rattle.poly_design.specs.Name.{name_cmp}
use Rattle.poly_design.specs.declared.mode.Mode.{Mode}
use Rattle.poly_design.specs.declared.mode.Mode.TheVariants.{Blocked}
use Rattle.poly_design.specs.declared.spec.Spec.{Spec}
use Rattle.poly_design.specs.declared.placement.Placement.{Placement}
use Rattle.poly_design.specs.Listed.{IsListOf}
use Rattle.poly_design.specs.PlacementOrder.{placement_cmp, placement_total}
use Rattle.poly_design.specs.Layout.{Layout, mode_at}
use Rattle.poly_design.specs.Placements.{IsPlace, IsPlacement, IsUnblocked, FewPlacements}
use Rattle.poly_design.specs.Limits.{NoneBlocked}
use Rattle.poly_design.proofs.Sets.{contains_map, contains_map_from, ascending_append, distinct_keys, lacks_nil, listed_same}
use Rattle.poly_design.proofs.Shifts.{place_weaker}

-- the placement of a name on cells
abbrev pub named : List ℕ → List Spot → Placement
named name k = record { name = name; cells = k }

-- some entry has the placement's name, and P says that its piece can lie on the placement's cells
abbrev pub IsOfEntry : (Spec → List Spot → Type 0) → List (List ℕ × Spec) → Placement → Type 0
IsOfEntry P entries p = (s : Spec) × Contains entries (p.name, s) × P s p.cells

-- the list has the placements of the entries before the rest
pub record IsListedSoFar (P : Spec → List Spot → Type 0) (entries rest : List (List ℕ × Spec)) (list : List Placement) : Type 0 where
  pub done : List (List ℕ × Spec)
  pub split : done ++ rest ≡ entries
  pub listed : IsListOf placement_cmp (IsOfEntry P done) list

name_itself : (n : List ℕ) → name_cmp n n ≡ Equal
name_itself n = tied_itself nat_list_cmp_total n

same_name_cmp : (n : List ℕ) (a b : List Spot) → placement_cmp (named n a) (named n b) ≡ cells_cmp a b
same_name_cmp n a b = ap (λ o. ordering_then o (cells_cmp a b)) (name_itself n)

named_ascending : (n : List ℕ) (found : List (List Spot)) → IsAscending cells_cmp found → IsAscending placement_cmp (map (named n) found)
named_ascending n found up i j d lt le =
    let len = length-map found (named n) in
    rw (get_or-map (named n) found i d.cells d (omega (arith, len)), get_or-map (named n) found j d.cells d (omega (arith, len)))
    (same_name_cmp n (get_or found i d.cells) (get_or found j d.cells) ∙ up i j d.cells lt (omega (arith, len)))

-- an earlier entry's name is below a later one's
earlier_below : (done rest : List (List ℕ × Spec)) (n m : List ℕ) (s t : Spec) → IsAscending name_cmp (keys_of (done ++ (n, s) ∷ rest)) → Contains done (m, t) → name_cmp m n ≡ Less
earlier_below done rest n m s t up (k, lt, e) =
    let all = done ++ (n, s) ∷ rest in
    let key : List ℕ × Spec → List ℕ = λ p. p.0 in
    let len = length-append done ((n, s) ∷ rest) in
    let klen = length-map all key in
    let first : get_or (keys_of all) k n ≡ m = get_or-map key all k (m, t) n (omega (arith, len)) ∙ ap key (get_or_append_left done ((n, s) ∷ rest) (m, t) k lt ∙ e) in
    let zeroth : length done - length done ≡ 0 = omega arith in
    let second : get_or (keys_of all) (length done) n ≡ n =
    get_or-map key all (length done) (n, s) n (omega (arith, len))
    ∙ ap key (get_or-append_right done ((n, s) ∷ rest) (length done) (length done) (n, s) refl (omega arith) ∙ ap (λ i. get_or ((n, s) ∷ rest) i (n, s)) zeroth) in
    subst (λ x. name_cmp x n ≡ Less) first (subst (λ x. name_cmp (get_or (keys_of all) k n) x ≡ Less) second (up k (length done) n lt (omega (arith, len, klen))))

pub start : (P : Spec → List Spot → Type 0) (entries : List (List ℕ × Spec)) → IsListedSoFar P entries entries []
start P entries = record {
  done = [];
  split = refl;
  listed = record {
    ascending = λ i j d lt le. absurd (omega arith);
    exact = λ p. (λ h. absurd (lacks_nil p h), λ h. absurd (lacks_nil (p.name, h.0) h.1));
  };
}

pub more : (P : Spec → List Spot → Type 0) (entries rest rest' : List (List ℕ × Spec)) (list list' : List Placement) (n : List ℕ) (s : Spec) (found : List (List Spot))
    → IsAscending name_cmp (keys_of entries) → IsListedSoFar P entries rest list → rest ≡ (n, s) ∷ rest' → IsListOf cells_cmp (P s) found → list' ≡ list ++ map (named n) found
    → IsListedSoFar P entries rest' list'
more P entries rest rest' list list' n s found up old is of appended = record {
  done = old.done ++ (n, s) ∷ [];
  split = append_assoc old.done ((n, s) ∷ []) rest' ∙ rw (← is) old.split;
  listed = record {
    ascending = subst (IsAscending placement_cmp) (sym appended) (ascending_append placement_cmp list (map (named n) found) old.listed.ascending (named_ascending n found of.ascending) between);
    exact = λ p. (
      λ h. elim (Contains-append_cases list (map (named n) found) p (subst (λ l. Contains l p) appended h)) [
        | inl before ↦ let o = (old.listed.exact p).0 before in (o.0, Contains-append_left old.done ((n, s) ∷ []) (p.name, o.0) o.1, o.2)
        | inr now ↦
            let k = contains_map_from (named n) found p now in
            (s, subst (λ (v : Placement). Contains (old.done ++ (n, s) ∷ []) (v.name, s)) k.2 (Contains-push old.done (n, s)), subst (λ (v : Placement). P s v.cells) k.2 ((of.exact k.0).0 k.1))
      ],
      λ h. subst (λ l. Contains l p) (sym appended) (elim (Contains-push_cases old.done (n, s) (p.name, h.0) h.1) [
        | inl before ↦ Contains-append_left list (map (named n) found) p ((old.listed.exact p).1 (h.0, before, h.2))
        | inr e ↦
            let en : n ≡ p.name = ap (λ (v : List ℕ × Spec). v.0) e in
            let es : s ≡ h.0 = ap (λ (v : List ℕ × Spec). v.1) e in
            let here : Contains found p.cells = (of.exact p.cells).1 (subst (λ v. P v p.cells) (sym es) h.2) in
            let same : named n p.cells ≡ p = λ i. record { name = en i; cells = p.cells } in
            Contains-append_right list (map (named n) found) p (subst (Contains (map (named n) found)) same (contains_map (named n) found p.cells here))
      ]),
    );
  };
}
  where
    whole : IsAscending name_cmp (keys_of (old.done ++ (n, s) ∷ rest'))
    whole = rw (← is, old.split) up

    between : (x y : Placement) → Contains list x → Contains (map (named n) found) y → placement_cmp x y ≡ Less
    between x y hx hy =
        let o = (old.listed.exact x).0 hx in
        let k = contains_map_from (named n) found y hy in
        let below = earlier_below old.done rest' n x.name s o.0 whole o.1 in
        subst (λ (v : Placement). placement_cmp x v ≡ Less) k.2 (ap (λ r. ordering_then r (cells_cmp x.cells k.0)) below)

pub whole_list : (P : Spec → List Spot → Type 0) (entries rest : List (List ℕ × Spec)) (list : List Placement) → IsListedSoFar P entries rest list → rest ≡ [] → IsListOf placement_cmp (IsOfEntry P entries) list
whole_list P entries rest list so is =
    let e : so.done ≡ entries = sym (append-nil so.done) ∙ rw (← is) so.split in
    subst (λ l. IsListOf placement_cmp (IsOfEntry P l) list) e so.listed

-- each placement listed so far belongs to an entry
pub listed_of : (P : Spec → List Spot → Type 0) (entries rest : List (List ℕ × Spec)) (list : List Placement) → IsListedSoFar P entries rest list → (p : Placement) → Contains list p → IsOfEntry P entries p
listed_of P entries rest list so p here =
    let o = (so.listed.exact p).0 here in
    (o.0, subst (λ l. Contains l (p.name, o.0)) so.split (Contains-append_left so.done rest (p.name, o.0) o.1), o.2)

found_unblocked : (r : Option Mode) → ((m : Mode) → r ≡ Some m → m ≢ Blocked) → IsSome r → unwrap_or r Blocked ≢ Blocked
found_unblocked None none some = absurd (true≢false (sym some))
found_unblocked (Some m) none some = none m refl

unblocked_found : (r : Option Mode) → unwrap_or r Blocked ≢ Blocked → IsSome r
unblocked_found None h = absurd (h refl)
unblocked_found (Some m) h = refl

same_key : (x y : Spot) → eq_by_cmp spot_cmp x y ≡ true → x ≡ y
same_key = tells_apart same_spot

-- a cell is among the keys exactly if it is not blocked
pub unblocked_exactly : (cells : List (Spot × Mode)) → NoneBlocked cells → (c : Spot) → Contains (keys_of cells) c ↔ (mode_at cells c ≢ Blocked)
unblocked_exactly cells none c = (
  λ h. found_unblocked (lookup (is_at (spot_cmp c)) cells) (λ m e. none c m (Contains-from_lookup same_key c m cells e)) (IsSome-lookup_from_Contains (eq_by_cmp_equiv spot_total) c cells h),
  λ u. Contains-keys_from_lookup same_key c cells (unblocked_found (lookup (is_at (spot_cmp c)) cells) u),
)

pub placement_exactly : (grid : Grid) (cells : List (Spot × Mode)) (pieces : List (List ℕ × Spec)) → NoneBlocked cells → (p : Placement)
    → IsOfEntry (IsPlace (Contains (keys_of cells))) pieces p ↔ IsPlacement (record { grid = grid; cells = cells; pieces = pieces }) p
placement_exactly grid cells pieces none p =
    let d : Layout = record { grid = grid; cells = cells; pieces = pieces } in (
      λ h. record { spec = h.0; has = h.1; place = place_weaker (Contains (keys_of cells)) (IsUnblocked d) (λ c. (unblocked_exactly cells none c).0) h.0 p.cells h.2 },
      λ h. (h.spec, h.has, place_weaker (IsUnblocked d) (Contains (keys_of cells)) (λ c. (unblocked_exactly cells none c).1) h.spec p.cells h.place),
    )

pub placement_on_exactly : (grid : Grid) (cells : List (Spot × Mode)) (pieces : List (List ℕ × Spec)) (cell : Spot) → NoneBlocked cells → (p : Placement)
    → IsOfEntry (λ s k. IsPlace (Contains (keys_of cells)) s k × Contains k cell) pieces p ↔ (IsPlacement (record { grid = grid; cells = cells; pieces = pieces }) p × Contains p.cells cell)
placement_on_exactly grid cells pieces cell none p = (
  λ h. ((placement_exactly grid cells pieces none p).0 (h.0, h.1, h.2.0), h.2.1),
  λ h. let o = (placement_exactly grid cells pieces none p).1 h.0 in (o.0, o.1, (o.2, h.1)),
)

-- nothing lies on a blocked cell
pub none_on_blocked : (grid : Grid) (cells : List (Spot × Mode)) (pieces : List (List ℕ × Spec)) (cell : Spot) → lookup (is_at (spot_cmp cell)) cells ≡ None
    → IsListOf placement_cmp (λ p. IsPlacement (record { grid = grid; cells = cells; pieces = pieces }) p × Contains p.cells cell) []
none_on_blocked grid cells pieces cell none = record {
  ascending = λ i j d lt le. absurd (omega arith);
  exact = λ p. (λ h. absurd (lacks_nil p h), λ h. absurd (h.0.place.lies.free cell h.1 (ap (λ r. unwrap_or r Blocked) none)));
}

-- if `found` lists the sets of cells that satisfy Q, `list` lists the placements named n whose cells satisfy Q
pub named_listed : (n : List ℕ) (Q : List Spot → Type 0) (found : List (List Spot)) (list : List Placement) → IsListOf cells_cmp Q found → list ≡ [] ++ map (named n) found
    → IsListOf placement_cmp (λ p. (p.name ≡ n) × Q p.cells) list
named_listed n Q found list of is = subst (IsListOf placement_cmp (λ p. (p.name ≡ n) × Q p.cells)) (sym is) (record {
  ascending = named_ascending n found of.ascending;
  exact = λ p. (
    λ h. let k = contains_map_from (named n) found p h in
        (ap (λ (v : Placement). v.name) (sym k.2), subst (λ (v : Placement). Q v.cells) k.2 ((of.exact k.0).0 k.1)),
    λ h.
        let same : named n p.cells ≡ p = λ i. record { name = sym h.0 i; cells = p.cells } in
        subst (Contains (map (named n) found)) same (contains_map (named n) found p.cells ((of.exact p.cells).1 h.1)),
  );
})

-- a placement with the name of a piece is one of the design exactly if the piece can lie on the placement's cells
pub placement_of_exactly : (d : Layout) (name : List ℕ) (spec : Spec) → NoneBlocked d.cells → IsAscending name_cmp (keys_of d.pieces) → lookup (is_at (name_cmp name)) d.pieces ≡ Some spec → (p : Placement)
    → ((p.name ≡ name) × IsPlace (Contains (keys_of d.cells)) spec p.cells) ↔ (IsPlacement d p × (p.name ≡ name))
placement_of_exactly d name spec none up has p = (
  λ h.
      let entry : Contains d.pieces (p.name, spec) = subst (λ n. Contains d.pieces (n, spec)) (sym h.0) (Contains-from_lookup same_name name spec d.pieces has) in
      ((placement_exactly d.grid d.cells d.pieces none p).0 (spec, entry, h.1), h.0),
  λ h.
      let o = (placement_exactly d.grid d.cells d.pieces none p).1 h.0 in
      let entry : Contains d.pieces (name, o.0) = subst (λ n. Contains d.pieces (n, o.0)) h.1 o.1 in
      let found : Some o.0 ≡ Some spec = sym (lookup-from_Contains (eq_by_cmp_equiv nat_list_cmp_total) name o.0 d.pieces (distinct_keys name_cmp (keys_of d.pieces) up) entry) ∙ has in
      let same : o.0 ≡ spec = cc in
      (h.1, subst (λ s. IsPlace (Contains (keys_of d.cells)) s p.cells) same o.2),
)
  where
    same_name : (x y : List ℕ) → eq_by_cmp name_cmp x y ≡ true → x ≡ y
    same_name = tells_apart exact_bytes

-- if a list of all placements has at most 20,000, so has every list of different placements
pub few_from_list : (d : Layout) (list : List Placement) → IsListOf placement_cmp (IsPlacement d) list → length list ≤ 20000 → FewPlacements d
few_from_list d list of few ys up members =
    let le = length-part placement_total ys list up of.ascending (λ v h. (of.exact v).1 (members v h)) in
    omega (arith, le, few)

-- a design without pieces has no placements
pub few_without_pieces : (d : Layout) → d.pieces ≡ [] → FewPlacements d
few_without_pieces d none [] up members = omega arith
few_without_pieces d none (p ∷ ps) up members =
    let m = members p (zero, omega arith, refl) in
    absurd (lacks_nil (p.name, m.spec) (subst (λ l. Contains l (p.name, m.spec)) none m.has))

-- within the limit, the only refusal is `Memory`
pub only_memory : {T : Type 0} (d : Layout) (r : Result T Refusal) → IfErr r (λ e. (e ≡ Memory) ⊎ ((e ≡ TooManyPlacements) × (FewPlacements d → ⊥))) → FewPlacements d → IfErr r (λ e. e ≡ Memory)
only_memory d (Ok t) why few = tt
only_memory d (Err e) why few = elim why [ inl is ↦ is | inr many ↦ absurd (many.1 few) ]

pub listed_ok : (P Q : Placement → Type 0) (r : Result (Vec Placement Global) Refusal) → IfOk r (λ list. IsListOf placement_cmp P list.items) → ((p : Placement) → P p ↔ Q p) → IfOk r (λ list. IsListOf placement_cmp Q list.items)
listed_ok P Q (Ok list) is same = listed_same P Q list.items is same
listed_ok P Q (Err e) is same = tt
