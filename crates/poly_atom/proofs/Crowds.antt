-- A list that asks for more different placements than the view has items is hopeless: if no two placements
-- share a cell, each has an item of its own. A placement's own item is its first cell or, if it covers no cell, its piece.
use Rattle.std.proofs.Common.{Bool, List, None, Option, Some, [], ap, arith, eqb, false, get_or, inl, inr, length, map, not, refl, slice_get, subst, sym, take, true, ℕ, ◌++◌, ◌+◌, ◌&&◌, ◌<◌, ◌||◌, ◌∙◌, ◌∷◌, ◌≡◌, ◌≤◌, ◌⊎◌}
use Rattle.std.proofs.lemmas.Bool.{both_ways, cases_Bool, eqb-false, eqb-true, false_from_ne_true, not-false, or_parts, true≢false}
use Rattle.std.proofs.lemmas.List.{append-nil, take-append-drop, take_more}
use Rattle.std.specs.List.{list_all, list_any}
use Rattle.std.specs.Prelude.{drop, nat_lt}
use Rattle.std.specs.Cmp.Lexicographic.{bytes_decides}
use Rattle.poly_grid.specs.Spot.{Spot}
use Rattle.poly_design.specs.declared.placement.Placement.{Placement}
use Rattle.poly_tiling.specs.declared.bound.Bound.{Bound}
use Rattle.poly_tiling.specs.declared.item.Item.{Item}
use Rattle.poly_tiling.specs.declared.item.Item.TheVariants.{Cell, Piece}
use Rattle.poly_tiling.specs.Lists.{ascending, distinct, mem, one, put, put_all, tally}
use Rattle.poly_tiling.specs.Names.{WellNamed}
use Rattle.poly_tiling.specs.Puzzle.{View, conflicts, count, is_piece, items, items_of, most, same_item}
use Rattle.poly_tiling.proofs.Ascending.{ascending_same, distinct_rest, in_put_all_left, in_put_self, in_put, not_head, put_all_in, put_all_up, put_in, put_up}
use Rattle.poly_tiling.proofs.Contained.{in_contains}
use Rattle.poly_tiling.proofs.Counts.{ascending_distinct, tally_within}
use Rattle.poly_tiling.proofs.Lists.{In, all_in, any_from, in_append_cases, in_append_left, in_append_right, mem_in, tally_none}
use Rattle.poly_tiling.proofs.Shown.{conflicts_from, live_given, same_number}
use Rattle.poly_tiling.proofs.Tilings.{same_item_is, same_spot_is}
use Rattle.poly_atom.specs.declared.atom.Atom.{Atom}
use Rattle.poly_atom.specs.declared.atom.Atom.TheVariants.{AtLeast, AtMost, Has, Lacks}
use Rattle.poly_atom.specs.Counted.{asked_count}
use Rattle.poly_atom.specs.Hopeless.{asked, bad, base, hopeless, lacks}
use Rattle.poly_atom.proofs.Asked.{asked_append}
use Rattle.poly_atom.proofs.Bases.{asked_in, in_base_has}
use Rattle.poly_atom.proofs.Counted.{mem_put_all, or_no, put_tally}

-- ---- if each host has at most one guest, there are no more guests than hosts

tally_every : (f : ℕ → Bool) (xs : List ℕ) → ((x : ℕ) → In x xs → f x ≡ true) → tally f xs ≡ length xs
tally_every f [] h = refl
tally_every f (x ∷ xs) h = omega (arith, ap one (h x (inl refl)), tally_every f xs (λ y i. h y (inr i)))

one_or : (a b : Bool) → one (a || b) ≤ one a + one b
one_or true b = omega arith
one_or false b = omega arith

tally_or : (f g : ℕ → Bool) (xs : List ℕ) → tally (λ x. f x || g x) xs ≤ tally f xs + tally g xs
tally_or f g [] = omega arith
tally_or f g (x ∷ xs) = omega (arith, one_or (f x) (g x), tally_or f g xs)

at_most_one : (f : ℕ → Bool) (xs : List ℕ) → distinct xs ≡ true → ((x y : ℕ) → In x xs → In y xs → f x ≡ true → f y ≡ true → x ≡ y) → tally f xs ≤ 1
at_most_one f [] d single = omega arith
at_most_one f (x ∷ xs) d single = elim (cases_Bool (f x)) [
  | inl e ↦
      let none = tally_none f xs (λ y i. false_from_ne_true (f y) (λ k. not_head x xs d (subst (λ z. In z xs) (sym (single x y (inl refl) (inr i) e k)) i))) in
      omega (arith, ap one e, none)
  | inr n ↦ omega (arith, ap one n, at_most_one f xs (distinct_rest x xs d) (λ y z i j. single y z (inr i) (inr j)))
]

hosts : {Y : Type 0} (at : Y → ℕ → Bool) (ys : List Y) (xs : List ℕ) → distinct xs ≡ true → ((y : Y) (p q : ℕ) → In p xs → In q xs → at y p ≡ true → at y q ≡ true → p ≡ q) →
    tally (λ p. list_any (λ y. at y p) ys) xs ≤ length ys
hosts at [] xs d single = omega (arith, tally_none (λ p. false) xs (λ p i. refl))
hosts at (y ∷ ys) xs d single = omega (arith, tally_or (at y) (λ p. list_any (λ z. at z p) ys) xs, at_most_one (at y) xs d (single y), hosts at ys xs d single)

-- ---- an item for each placement

abbrev first_item : List ℕ → List Spot → Item
first_item name [] = Piece name
first_item name (c ∷ cs) = Cell c

abbrev leads_of : Bound → Option Placement → Bool
leads_of b None = false
leads_of b (Some x) = same_item b.item (first_item x.name x.cells)

-- the bound's item is the placement's own item
abbrev leads : View → Bound → ℕ → Bool
leads v b p = leads_of b (slice_get v.placements p)

-- if two placements have the same own item, they are equal or share a cell
shares : (m n : List ℕ) (cs ds : List Spot) → same_item (first_item m cs) (first_item n ds) ≡ true → ((m ≡ n) × (cs ≡ ds)) ⊎ ((c : Spot) × In c cs × In c ds)
shares m n [] [] h = inl ((bytes_decides m n).0 h, refl)
shares m n [] (d ∷ ds) h = absurd (true≢false (sym h))
shares m n (c ∷ cs) [] h = absurd (true≢false (sym h))
shares m n (c ∷ cs) (d ∷ ds) h = inr (c, inl refl, inl (sym (same_spot_is c d h)))

leads_one : (v : View) → WellNamed v → (b : Bound) (p q : ℕ) → In p v.live → In q v.live → conflicts v p q ≡ false → leads v b p ≡ true → leads v b q ≡ true → p ≡ q
leads_one v w b p q i j free hp hq =
    let x = live_given v w p i in
    let y = live_given v w q j in
    let kp : same_item b.item (first_item x.0.name x.0.cells) ≡ true = sym (ap (λ o. leads_of b o) x.1) ∙ hp in
    let kq : same_item b.item (first_item y.0.name y.0.cells) ≡ true = sym (ap (λ o. leads_of b o) y.1) ∙ hq in
    let both : same_item (first_item x.0.name x.0.cells) (first_item y.0.name y.0.cells) ≡ true =
    subst (λ k. same_item k (first_item y.0.name y.0.cells) ≡ true) (same_item_is b.item (first_item x.0.name x.0.cells) kp) kq in
    let one_number : x.0 ≡ y.0 → p ≡ q = λ same. same_number v w p q x.0 x.1 (y.1 ∙ ap (λ (z : Placement). Some z) (sym same)) in
    elim (shares x.0.name y.0.name x.0.cells y.0.cells both) [
      | inl e ↦ one_number (λ k. record { name = e.0 k; cells = e.1 k })
      | inr c ↦ elim (cases_Bool (eqb p q)) [
        | inl e ↦ eqb-true p q e
        | inr n ↦ absurd (both_ways (conflicts v p q) free
            (conflicts_from v p q x.0 y.0 x.1 y.1 (record {
              differ = λ same. eqb-false p q n (one_number same);
              shared = c.0;
              in_first = in_contains x.0.cells c.0 c.1;
              in_second = in_contains y.0.cells c.0 c.2;
            })))
      ]
    ]

leads_in_at : (v : View) (p : ℕ) (o : Option Placement) → slice_get v.placements p ≡ o → (x : Placement) → o ≡ Some x → list_all (λ i. list_any (λ b. same_item b.item i) v.bounds) (items_of o) ≡ true →
    list_any (λ b. same_item b.item (first_item x.name x.cells)) v.bounds ≡ true
leads_in_at v p o is x named listed = here x.name x.cells (sym (ap (λ u. list_all (λ i. list_any (λ b. same_item b.item i) v.bounds) (items_of u)) named) ∙ listed)
  where
    here : (m : List ℕ) (cs : List Spot) → list_all (λ i. list_any (λ b. same_item b.item i) v.bounds) (Piece m ∷ map (λ c. Cell c) cs) ≡ true → list_any (λ b. same_item b.item (first_item m cs)) v.bounds ≡ true
    here m [] h = all_in (λ i. list_any (λ b. same_item b.item i) v.bounds) (Piece m ∷ []) h (Piece m) (inl refl)
    here m (c ∷ cs) h = all_in (λ i. list_any (λ b. same_item b.item i) v.bounds) (Piece m ∷ (Cell c ∷ map (λ c. Cell c) cs)) h (Cell c) (inr (inl refl))

leads_in : (v : View) → WellNamed v → (p : ℕ) → In p v.live → list_any (λ b. leads v b p) v.bounds ≡ true
leads_in v w p i =
    let x = live_given v w p i in
    let listed = all_in (λ p. list_all (λ i. list_any (λ b. same_item b.item i) v.bounds) (items v p)) v.live w.listed p i in
    ap (λ o. list_any (λ b. leads_of b o) v.bounds) x.1 ∙ leads_in_at v p (slice_get v.placements p) refl x.0 x.1 listed

-- ---- more placements than items

-- the placement is in the design, and in conflict with no placement that is asked for
record IsFine (v : View) (A : List Atom) (p : ℕ) : Type 0 where
  live : In p v.live
  apart : (q : ℕ) → In (Has q) A → conflicts v p q ≡ false

fine : (v : View) (A : List Atom) (p : ℕ) → bad v A (Has p) ≡ false → IsFine v A p
fine v A p h =
    let third = or_parts (not (mem v.live p) || list_any (λ a. lacks a p) A || list_any (λ q. conflicts v p q) (base v A)) (list_any (λ i. is_piece i && nat_lt (most v i) (count v (base v A) i)) (items v p)) h in
    let second = or_parts (not (mem v.live p) || list_any (λ a. lacks a p) A) (list_any (λ q. conflicts v p q) (base v A)) third.0 in
    let first = or_parts (not (mem v.live p)) (list_any (λ a. lacks a p) A) second.0 in
    record {
      live = mem_in v.live p (not-false (mem v.live p) first.0);
      apart = λ q i. false_from_ne_true (conflicts v p q) (λ e. both_ways (list_any (λ q. conflicts v p q) (base v A)) second.1 (any_from (λ q. conflicts v p q) (base v A) q (in_base_has v A q i) e));
    }

asked_up : (A : List Atom) → ascending (put_all (asked A) []) ≡ true
asked_up A = put_all_up (asked A) [] refl

asked_once : (A : List Atom) → distinct (put_all (asked A) []) ≡ true
asked_once A = ascending_distinct (put_all (asked A) []) (asked_up A)

in_asked_all : (A : List Atom) (p : ℕ) → In p (put_all (asked A) []) → In p (asked A)
in_asked_all A p i = elim (put_all_in (asked A) [] p i) [ inl j ↦ j | inr k ↦ absurd k ]

fewer : (v : View) (A : List Atom) → WellNamed v → ((p : ℕ) → In (Has p) A → IsFine v A p) → asked_count A ≤ length v.bounds
fewer v A w free =
    let all = put_all (asked A) [] in
    let has : (p : ℕ) → In p all → In (Has p) A = λ p i. asked_in A p (in_asked_all A p i) in
    let few = hosts (λ b p. leads v b p) v.bounds all (asked_once A)
    (λ b p q i j. leads_one v w b p q (free p (has p i)).live (free q (has q j)).live ((free p (has p i)).apart q (has q j))) in
    let every = tally_every (λ p. list_any (λ b. leads v b p) v.bounds) all (λ p i. leads_in v w p (free p (has p i)).live) in
    omega (arith, few, every)

pub crowded : (v : View) (A : List Atom) → WellNamed v → length v.bounds < asked_count A → hopeless v A ≡ true
crowded v A w more = elim (cases_Bool (hopeless v A)) [
  | inl e ↦ e
  | inr n ↦
      let few = fewer v A w (λ p i. fine v A p (false_from_ne_true (bad v A (Has p)) (λ e. both_ways (hopeless v A) n (any_from (λ a. bad v A a) A (Has p) i e)))) in
      absurd (omega (arith, few, more))
]

-- ---- counting what is asked for

length_put : (p : ℕ) (qs : List ℕ) → ascending qs ≡ true → length (put p qs) ≡ one (not (mem qs p)) + length qs
length_put p qs up =
    let whole = tally_every (λ q. true) (put p qs) (λ q i. refl) in
    let part = tally_every (λ q. true) qs (λ q i. refl) in
    omega (arith, whole, part, put_tally (λ q. true) p qs up)

put_last : (ps : List ℕ) (p : ℕ) → put_all (ps ++ p ∷ []) [] ≡ put p (put_all ps [])
put_last ps p = ascending_same (put_all (ps ++ p ∷ []) []) (put p (put_all ps [])) (put_all_up (ps ++ p ∷ []) [] refl) (put_up p (put_all ps []) (put_all_up ps [] refl))
    (λ x i. elim (put_all_in (ps ++ p ∷ []) [] x i) [
      | inl j ↦ elim (in_append_cases x ps (p ∷ []) j) [
        | inl k ↦ in_put p (put_all ps []) x (in_put_all_left ps [] x k)
        | inr (inl e) ↦ subst (λ z. In z (put p (put_all ps []))) e (in_put_self p (put_all ps []))
        | inr (inr k) ↦ absurd k
      ]
      | inr k ↦ absurd k
    ])
    (λ x i. elim (put_in p (put_all ps []) x i) [
      | inl e ↦ in_put_all_left (ps ++ p ∷ []) [] x (in_append_right x ps (p ∷ []) (inl e))
      | inr j ↦ elim (put_all_in ps [] x j) [ inl k ↦ in_put_all_left (ps ++ p ∷ []) [] x (in_append_left x ps (p ∷ []) k) | inr k ↦ absurd k ]
    ])

and_yes : (b : Bool) → (b && true) ≡ b
and_yes true = refl
and_yes false = refl

no_more : (A : List Atom) (a : Atom) → asked (a ∷ []) ≡ [] → asked_count (A ++ a ∷ []) ≡ asked_count A
no_more A a none = ap (λ ps. length (put_all ps [])) (asked_append A (a ∷ []) ∙ ap (λ ps. asked A ++ ps) none ∙ append-nil (asked A))

same_all : (D A : List Atom) → ((p : ℕ) → mem (asked D) p ≡ mem (asked A) p) → (ps : List ℕ) → list_all (λ p. mem (asked D) p) ps ≡ list_all (λ p. mem (asked A) p) ps
same_all D A h [] = refl
same_all D A h (p ∷ ps) = ap (λ b. b && list_all (λ p. mem (asked D) p) ps) (h p) ∙ ap (λ b. mem (asked A) p && b) (same_all D A h ps)

-- one more atom raises the count by one if it asks for a placement that no atom of the list asks for, else by nothing
asked_more : (A : List Atom) (a : Atom) → asked_count (A ++ a ∷ []) ≡ asked_count A + one (not (list_all (λ p. mem (asked A) p) (asked (a ∷ []))))
asked_more A (Has p) =
    let same : mem (put_all (asked A) []) p ≡ mem (asked A) p = mem_put_all (asked A) [] p ∙ or_no (mem (asked A) p) in
    let longer = ap (λ ps. length (put_all ps [])) (asked_append A (Has p ∷ [])) ∙ ap length (put_last (asked A) p) ∙ length_put p (put_all (asked A) []) (asked_up A) in
    omega (arith, longer, ap (λ b. one (not b)) same, ap (λ b. one (not b)) (and_yes (mem (asked A) p)))
asked_more A (Lacks p) = omega (arith, no_more A (Lacks p) refl)
asked_more A (AtLeast i n) = omega (arith, no_more A (AtLeast i n) refl)
asked_more A (AtMost i n) = omega (arith, no_more A (AtMost i n) refl)

pub counted_more : (A : List Atom) (i : ℕ) (d a : Atom) (D : List Atom) → i < length A → a ≡ get_or A i d → ((p : ℕ) → mem (asked D) p ≡ mem (asked (take i A)) p) →
    asked_count (take (i + 1) A) ≡ asked_count (take i A) + one (not (list_all (λ p. mem (asked D) p) (asked (a ∷ []))))
counted_more A i d a D l is h =
    ap asked_count (take_more A i d l ∙ ap (λ z. take i A ++ z ∷ []) (sym is)) ∙ asked_more (take i A) a
    ∙ ap (λ b. asked_count (take i A) + one (not b)) (sym (same_all D (take i A) h (asked (a ∷ []))))

pub counted_all : (A : List Atom) (i : ℕ) → asked_count (take i A) ≤ asked_count A
counted_all A i =
    let whole = tally_every (λ q. true) (put_all (asked A) []) (λ q j. refl) in
    let part = tally_every (λ q. true) (put_all (asked (take i A)) []) (λ q j. refl) in
    let few = tally_within (λ q. true) (λ q. true) (put_all (asked (take i A)) []) (put_all (asked A) []) (asked_once (take i A))
    (λ p j e. (in_put_all_left (asked A) [] p (front p (in_asked_all (take i A) p j)), refl)) in
    omega (arith, whole, part, few)
  where
    front : (p : ℕ) → In p (asked (take i A)) → In p (asked A)
    front p j = subst (λ ps. In p ps) (sym (asked_append (take i A) (drop i A)) ∙ ap asked (take-append-drop i A)) (in_append_left p (asked (take i A)) (asked (drop i A)) j)
