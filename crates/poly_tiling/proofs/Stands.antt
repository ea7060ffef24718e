-- Lists of numbers that name lists of placements.
use Rattle.std.proofs.Common.{List, Some, [], add-one, ap, append_assoc, arith, length, length-append, map, refl, slice_get, subst, suc, sym, true, zero, ℕ, ◌++◌, ◌+◌, ◌∙◌, ◌∷◌, ◌≡◌}
use Rattle.std.proofs.lemmas.Bool.{and_from}
use Rattle.std.specs.List.{list_all, range_with_len}
use Rattle.std.specs.Ordering.{is_lt}
use Rattle.std.specs.declared.cmp.Ordering.TheVariants.{Less}
use Rattle.poly_shape.specs.Order.{IsAscending}
use Rattle.poly_design.specs.PlacementOrder.{placement_cmp}
use Rattle.poly_design.specs.declared.placement.Placement.{Placement}
use Rattle.poly_tiling.specs.Puzzle.{View}
use Rattle.poly_tiling.specs.Names.{below, in_order}
use Rattle.poly_tiling.specs.Shows.{StandFor}
use Rattle.poly_tiling.proofs.Lists.{In, all_from, in_map, map_in, slice_get_front}
use Rattle.poly_tiling.proofs.Contained.{get_low, pairs_head, pairs_rest}

range_suc : (a n : ℕ) → range_with_len a (suc n) ≡ range_with_len a n ++ (a + n) ∷ []
range_suc a zero = let e : a ≡ a + zero = omega arith in ap (λ x. x ∷ []) e
range_suc a (suc n) =
    let e : (a + 1) + n ≡ a + suc n = omega arith in
    ap (λ l. a ∷ l) (range_suc (a + 1) n ∙ ap (λ x. range_with_len (a + 1) n ++ x ∷ []) e)

pub range_more : (a n : ℕ) → range_with_len a (n + 1) ≡ range_with_len a n ++ (a + n) ∷ []
range_more a n = ap (λ m. range_with_len a m) (add-one n) ∙ range_suc a n

-- a placement keeps its number when more placements follow
pub get_stays : (ps more : List Placement) (n : ℕ) (x : Placement) → slice_get ps n ≡ Some x → slice_get (ps ++ more) n ≡ Some x
get_stays ps more n x e = slice_get_front ps more n (get_low ps n x e) ∙ e

pub stands_more : (ps more : List Placement) (ns : List ℕ) (xs : List Placement) → StandFor ps ns xs → StandFor (ps ++ more) ns xs
stands_more ps more [] xs e = e
stands_more ps more (n ∷ ns) [] e = cc
stands_more ps more (n ∷ ns) (x ∷ xs) e =
    let here : slice_get ps n ≡ Some x = cc in
    let rest : StandFor ps ns xs = cc in
    ap (λ o. o ∷ map (λ n. slice_get (ps ++ more) n) ns) (get_stays ps more n x here) ∙ ap (λ os. Some x ∷ os) (stands_more ps more ns xs rest)

pub stands_push : (ps : List Placement) (ns : List ℕ) (xs : List Placement) (n : ℕ) (x : Placement) → StandFor ps ns xs → slice_get ps n ≡ Some x → StandFor ps (ns ++ n ∷ []) (xs ++ x ∷ [])
stands_push ps [] [] n x e h = ap (λ o. o ∷ []) h
stands_push ps [] (y ∷ xs) n x e h = cc
stands_push ps (m ∷ ns) [] n x e h = cc
stands_push ps (m ∷ ns) (y ∷ xs) n x e h =
    let here : slice_get ps m ≡ Some y = cc in
    let rest : StandFor ps ns xs = cc in
    ap (λ o. o ∷ map (λ n. slice_get ps n) (ns ++ n ∷ [])) here ∙ ap (λ os. Some y ∷ os) (stands_push ps ns xs n x rest h)

pub get_past : (pre : List Placement) (x : Placement) (xs : List Placement) → slice_get (pre ++ x ∷ xs) (length pre) ≡ Some x
get_past [] x xs = refl
get_past (p ∷ pre) x xs = get_past pre x xs

range_stands : (pre xs more : List Placement) → StandFor (pre ++ (xs ++ more)) (range_with_len (length pre) (length xs)) xs
range_stands pre [] more = refl
range_stands pre (x ∷ xs) more =
    let long : length (pre ++ x ∷ []) ≡ length pre + 1 = length-append pre (x ∷ []) in
    let whole : (pre ++ x ∷ []) ++ (xs ++ more) ≡ pre ++ (x ∷ (xs ++ more)) = append_assoc pre (x ∷ []) (xs ++ more) in
    let rest : StandFor (pre ++ (x ∷ (xs ++ more))) (range_with_len (length pre + 1) (length xs)) xs =
    subst (λ l. StandFor l (range_with_len (length pre + 1) (length xs)) xs) whole (subst (λ n. StandFor ((pre ++ x ∷ []) ++ (xs ++ more)) (range_with_len n (length xs)) xs) long (range_stands (pre ++ x ∷ []) xs more)) in
    ap (λ o. o ∷ map (λ n. slice_get (pre ++ (x ∷ (xs ++ more))) n) (range_with_len (length pre + 1) (length xs))) (get_past pre x (xs ++ more)) ∙ ap (λ os. Some x ∷ os) rest

pub first_stand : (xs more : List Placement) → StandFor (xs ++ more) (range_with_len 0 (length xs)) xs
first_stand xs more = range_stands [] xs more

pub stands_at : (ps : List Placement) (ns : List ℕ) (xs : List Placement) → StandFor ps ns xs → (n : ℕ) → In n ns → (x : Placement) × In x xs × (slice_get ps n ≡ Some x)
stands_at ps ns xs e n i =
    let r = map_in (λ x. Some x) xs (slice_get ps n) (subst (λ os. In (slice_get ps n) os) e (in_map (λ p. slice_get ps p) ns n i)) in (r.0, r.1, sym r.2)

pub at_stands : (ps : List Placement) (ns : List ℕ) (xs : List Placement) → StandFor ps ns xs → (x : Placement) → In x xs → (n : ℕ) × In n ns × (slice_get ps n ≡ Some x)
at_stands ps ns xs e x i = map_in (λ p. slice_get ps p) ns (Some x) (subst (λ os. In (Some x) os) (sym e) (in_map (λ x. Some x) xs x i))

-- if x is before each of xs, a number of x is below the numbers of xs; so numbers that name ascending placements are in order
stand_below : (v : View) (n : ℕ) (x : Placement) (ns : List ℕ) (xs : List Placement) → slice_get v.placements n ≡ Some x → StandFor v.placements ns xs → ((y : Placement) → In y xs → placement_cmp x y ≡ Less) → list_all (λ q. below v n q) ns ≡ true
stand_below v n x ns xs e s up = all_from (λ q. below v n q) ns (λ q i.
    let y = stands_at v.placements ns xs s q i in
    rw (e, y.2) (ap is_lt (up y.0 y.1)))

pub stand_up : (v : View) (ns : List ℕ) (xs : List Placement) → StandFor v.placements ns xs → IsAscending placement_cmp xs → in_order v ns ≡ true
stand_up v [] xs s up = refl
stand_up v (n ∷ ns) [] s up = cc
stand_up v (n ∷ ns) (x ∷ xs) s up =
    let here : slice_get v.placements n ≡ Some x = cc in
    let rest : StandFor v.placements ns xs = cc in
    and_from _ _ (stand_below v n x ns xs here rest (λ y i. pairs_head (λ x y. placement_cmp x y ≡ Less) x xs up y i)) (stand_up v ns xs rest (pairs_rest (λ x y. placement_cmp x y ≡ Less) x xs up))
