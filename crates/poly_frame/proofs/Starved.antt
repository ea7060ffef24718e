-- What the rows say about an item that is starved once a placement is taken.
use Rattle.std.proofs.Common.{◌≡◌, ℕ, ◌+◌, ◌-◌, ◌*◌, ◌/◌, ◌%◌, ◌<◌, ◌≤◌, Bool, true, false, not, ◌&&◌, eqb, leb, List, [], ◌∷◌, ◌++◌, inl, inr, refl, sym, ap, subst, ◌∙◌, arith, length, get_or}
use Rattle.std.specs.Int.{bit_at}
use Rattle.std.specs.List.{list_all, list_any}
use Rattle.std.proofs.lemmas.Bool.{and_from, and_parts, both_ways, false_from_ne_true, le-leb, leb-true, lt-ltb, ne_eqb, not_from_false, not-true, true≢false}
use Rattle.poly_tiling.specs.Lists.{mem, one, put, tally}
use Rattle.poly_tiling.specs.declared.item.Item.{Item}
use Rattle.poly_tiling.specs.Puzzle.{View, count, has_item, items}
use Rattle.poly_tiling.proofs.Ascending.{in_put_self, put_in}
use Rattle.poly_tiling.proofs.Lists.{In, all_in, any_from, any_in, in_mem, mem_in}
use Rattle.poly_atom.specs.declared.atom.Atom.{Atom}
use Rattle.poly_atom.specs.declared.atom.Atom.TheVariants.{Has}
use Rattle.poly_atom.specs.Hopeless.{base}
use Rattle.poly_frame.specs.Open.{arms_fit, least_at, least_with_base, open_in, ruled_out, most_at}
use Rattle.poly_frame.specs.Bits.{has_bit}
use Rattle.poly_frame.specs.FrameItems.{Noted, item_of}
use Rattle.poly_frame.specs.FrameTable.{limit_at}
use Rattle.poly_frame.specs.FrameSteps.{Kept}
use Rattle.poly_frame.specs.Matrices.{bit_index, column_items}
use Rattle.poly_frame.proofs.Matrices.{column_shows}
use Rattle.poly_frame.specs.declared.frame.matrix.Matrix.{Matrix}
use Rattle.poly_frame.specs.declared.frame.steps.Mark.{Mark}
use Rattle.poly_frame.specs.declared.frame.table.Table.{Table}
use Rattle.poly_frame.proofs.FrameQueries.{open_first, top_row}
use Rattle.poly_frame.proofs.FramePicks.{has_in, limit_cases, low_in, one_true, open_base, pick_open, shuts, times_some}
use Rattle.poly_frame.proofs.FrameSteps.{least_pick, index_in, top_have, top_level}
use Rattle.poly_frame.proofs.Steps.{base_pick}
use Rattle.poly_frame.proofs.Words.{in_word}

right_of : (p q : Bool) → p ≡ true → (p && not q) ≡ false → q ≡ true
right_of true true h e = refl
right_of true false h e = absurd (true≢false e)
right_of false q h e = absurd (true≢false (sym h))

-- `left` has the open numbers that have none of the items at the indices, and none of these has the item at b: so each open
-- number that has the item at b has one of the items at the indices
pub shut_without : (live left rows limits have indices : List ℕ) (w at b : ℕ) → ((x : ℕ) → x < 64 * w → has_bit left x ≡ (has_bit live (64 * at + x) && not (list_any (λ c. has_bit rows (bit_index w c x)) indices))) →
    ((k t : ℕ) → k < length left → t < 64 → eqb (bit_at (get_or left k 0) t) 1 ≡ true → eqb (bit_at (get_or rows (w * b + k) 0) t) 1 ≡ false) → length left ≡ w → list_all (λ c. leb (get_or limits c 0 - 1) (get_or have c 0)) indices ≡ true →
    (k u : ℕ) → k < w → u < 64 → eqb (bit_at (get_or live (at + k) 0) u) 1 ≡ true → eqb (bit_at (get_or rows (w * b + k) 0) u) 1 ≡ true →
    list_any (λ c. leb (get_or limits c 0 - 1) (get_or have c 0) && eqb (bit_at (get_or rows (w * c + k) 0) u) 1) indices ≡ true
shut_without live left rows limits have indices w at b without none len last k u m l up row =
    let x = 64 * k + u in
    let word : x / 64 ≡ k = omega arith in
    let bit : x % 64 ≡ u = omega arith in
    let told : (ws : List ℕ) (from : ℕ) → has_bit ws (64 * from + x) ≡ eqb (bit_at (get_or ws (from + k) 0) u) 1 =
    λ ws from. in_word ws from x ∙ ap (λ n. eqb (bit_at (get_or ws (from + n) 0) (x % 64)) 1) word ∙ ap (λ n. eqb (bit_at (get_or ws (from + k) 0) n) 1) bit in
    let first : 64 * 0 + x ≡ x = omega arith in
    let zero : 0 + k ≡ k = omega arith in
    let gone : has_bit left x ≡ false =
    ap (λ n. has_bit left n) (sym first) ∙ told left 0 ∙ ap (λ n. eqb (bit_at (get_or left n 0) u) 1) zero
    ∙ false_from_ne_true _ (λ z. both_ways (eqb (bit_at (get_or rows (w * b + k) 0) u) 1) (none k u (omega (arith, m, len)) l z) row) in
    let some = right_of (has_bit live (64 * at + x)) (list_any (λ c. has_bit rows (bit_index w c x)) indices) (told live at ∙ up) (sym (without x (omega (arith, m, l))) ∙ gone) in
    let r = any_in (λ c. has_bit rows (bit_index w c x)) indices some in
    any_from (λ c. leb (get_or limits c 0 - 1) (get_or have c 0) && eqb (bit_at (get_or rows (w * c + k) 0) u) 1) indices r.0 r.1
    (and_from _ _ (all_in (λ c. leb (get_or limits c 0 - 1) (get_or have c 0)) indices last r.0 r.1) (sym (told rows (w * r.0)) ∙ r.2))

none_pass : (f : ℕ → Bool) (xs : List ℕ) → ((q : ℕ) → In q xs → f q ≡ false) → tally f xs ≡ 0
none_pass f [] h = refl
none_pass f (x ∷ xs) h = omega (arith, ap one (h x (inl refl)), none_pass f xs (λ q i. h q (inr i)))

none_counted : (f : ℕ → Bool) (xs : List ℕ) (q : ℕ) → tally f xs ≡ 0 → In q xs → f q ≡ true → ⊥
none_counted f [] q e i h = i
none_counted f (x ∷ xs) q e (inl s) h = absurd (omega (arith, e, ap one (ap f s ∙ h)))
none_counted f (x ∷ xs) q e (inr i) h = none_counted f xs q (omega (arith, e)) i h

module _ (v : View) (A : List Atom) (first : ℕ) (matrix : Matrix) (t : Table) (live have raised : List ℕ) (marks : List Mark) (K : Kept v A first matrix t live have raised marks) where
  -- if one more member fills an item of p, taking p shuts what has that item
  shut_by : (p q c : ℕ) (indices : List ℕ) → Noted v.bounds (items v p) indices → In c indices → leb (get_or t.limits.items c 0 - 1) (get_or have c 0) ≡ true → has_item v q (item_of v c) ≡ true → list_any (λ i. has_item v q i && shuts v A i) (items v p) ≡ true
  shut_by p q c indices noted k less has =
      let l = low_in (length v.bounds) indices c noted.low k in
      let mine : has_item v p (item_of v c) ≡ true = one_true _ (omega (arith, times_some indices c k, noted.once c l)) in
      let most : get_or t.limits.items c 0 ≡ limit_at (item_of v c) (most_at v A (item_of v c)) = K.table.limits c l ∙ ap (λ u. limit_at (item_of v c) u) (sym ((top_level v A first matrix t live have raised marks K).mosts (item_of v c))) in
      let few = leb-true (get_or t.limits.items c 0 - 1) (get_or have c 0) less in
      let full : limit_at (item_of v c) (most_at v A (item_of v c)) ≤ count v (base v A) (item_of v c) + 1 = omega (arith, most, few, top_have v A first matrix t live have raised marks K c l) in
      any_from (λ i. has_item v q i && shuts v A i) (items v p) (item_of v c) (has_in v p (item_of v c) mine)
      (and_from _ _ has (sym (limit_cases (item_of v c) (most_at v A (item_of v c)) (count v (base v A) (item_of v c) + 1)) ∙ le-leb _ _ full))

  module _ (b j at : ℕ) (e : at ≡ length live - matrix.width) (l : b < length v.bounds) (h : j < length matrix.numbers.items)
      (opened : has_bit live (64 * at + j) ≡ true) (without : has_bit matrix.rows.items (64 * (matrix.width * b) + j) ≡ false) (none : get_or have b 0 ≡ 0)
      (shut : (k u : ℕ) → k < matrix.width → u < 64 → eqb (bit_at (get_or live (at + k) 0) u) 1 ≡ true → eqb (bit_at (get_or matrix.rows.items (matrix.width * b + k) 0) u) 1 ≡ true →
      list_any (λ c. leb (get_or t.limits.items c 0 - 1) (get_or have c 0) && eqb (bit_at (get_or matrix.rows.items (matrix.width * c + k) 0) u) 1) (column_items matrix.lists matrix.homes.items j) ≡ true) where
    abbrev p : ℕ
    p = get_or matrix.numbers.items j 0

    open_then : open_in v A p ≡ true
    open_then = sym (top_row v A first matrix t live have raised marks K at j e h) ∙ opened

    lacking : has_item v p (item_of v b) ≡ false
    lacking = sym (K.table.matrix.rows b j l h) ∙ without

    -- taking p shuts each open number that has the item
    shut_at : (x : ℕ) → x < length matrix.numbers.items → open_in v A (get_or matrix.numbers.items x 0) ≡ true → has_item v (get_or matrix.numbers.items x 0) (item_of v b) ≡ true →
        list_any (λ i. has_item v (get_or matrix.numbers.items x 0) i && shuts v A i) (items v p) ≡ true
    shut_at x m o i =
        let rows = matrix.rows.items in
        let w = matrix.width in
        let up : eqb (bit_at (get_or live (at + x / 64) 0) (x % 64)) 1 ≡ true = sym (in_word live at x) ∙ top_row v A first matrix t live have raised marks K at x e m ∙ o in
        let row : eqb (bit_at (get_or rows (w * b + x / 64) 0) (x % 64)) 1 ≡ true = sym (in_word rows (w * b) x) ∙ K.table.matrix.rows b x l m ∙ i in
        let word : x / 64 < w = omega (arith, m, K.table.matrix.wide) in
        let low : x % 64 < 64 = omega arith in
        let noted = (column_shows v matrix.numbers.items matrix.homes.items matrix.lists K.table.matrix.lists j h).noted in
        let indices = column_items matrix.lists matrix.homes.items j in
        let r = any_in (λ c. leb (get_or t.limits.items c 0 - 1) (get_or have c 0) && eqb (bit_at (get_or rows (w * c + x / 64) 0) (x % 64)) 1) indices (shut (x / 64) (x % 64) word low up row) in
        let both = and_parts (leb (get_or t.limits.items r.0 0 - 1) (get_or have r.0 0)) _ r.2 in
        let c = low_in (length v.bounds) indices r.0 noted.low r.1 in
        shut_by p (get_or matrix.numbers.items x 0) r.0 indices noted r.1 both.0 (sym (K.table.matrix.rows r.0 x c m) ∙ in_word rows (w * r.0) x ∙ both.1)

    -- no placement of the design that has the item is open once p is taken
    closed : (q : ℕ) → mem v.live q ≡ true → has_item v q (item_of v b) ≡ true → open_in v (A ++ Has p ∷ []) q ≡ false
    closed q m i = false_from_ne_true _ (λ o.
        let out = open_base v (A ++ Has p ∷ []) q o in
        let other : eqb p q ≡ false = ne_eqb p q (λ s. both_ways (mem (base v (A ++ Has p ∷ [])) q) out (in_mem _ q (subst (λ xs. In q xs) (sym (base_pick v A p)) (subst (λ y. In y (put p (base v A))) s (in_put_self p (base v A)))))) in
        let both = and_parts (open_in v A q) _ (sym (pick_open v A p q (open_base v A p open_then) other) ∙ o) in
        let x = index_in matrix.numbers.items q (open_first v A first matrix t live have raised marks K q m both.0) in
        let yes = shut_at x.0 x.1 (ap (λ y. open_in v A y) x.2 ∙ both.0) (ap (λ y. has_item v y (item_of v b)) x.2 ∙ i) in
        both_ways (list_any (λ i. has_item v q i && shuts v A i) (items v p)) (not-true _ both.1) (subst (λ y. list_any (λ i. has_item v y i && shuts v A i) (items v p) ≡ true) x.2 yes))

    -- no placement that has the item is in the base once p is taken
    unheld : (q : ℕ) → has_item v q (item_of v b) ≡ true → mem (base v (A ++ Has p ∷ [])) q ≡ false
    unheld q i = false_from_ne_true _ (λ m. elim (put_in p (base v A) q (subst (λ xs. In q xs) (base_pick v A p) (mem_in _ q m))) [
      | inl s ↦ both_ways (has_item v p (item_of v b)) lacking (subst (λ y. has_item v y (item_of v b) ≡ true) (sym s) i)
      | inr k ↦ none_counted (λ x. has_item v x (item_of v b)) (base v A) q (sym (top_have v A first matrix t live have raised marks K b l) ∙ none) k i
    ])

    pub starved_fits : 0 < get_or t.leasts.items b 0 → arms_fit v (A ++ Has p ∷ []) (item_of v b) [] ≡ true
    starved_fits some =
        let A2 = A ++ Has p ∷ [] in
        let least_there : least_at v A2 (item_of v b) ≡ get_or t.leasts.items b 0 = least_pick v A p (item_of v b) ∙ (top_level v A first matrix t live have raised marks K).leasts (item_of v b) ∙ sym (K.table.leasts b l) in
        let none' = none_pass (λ q. has_item v q (item_of v b) && not (ruled_out v A2 q) && not (mem [] q)) v.live gone in
        lt-ltb _ (least_with_base v A2 (item_of v b)) (omega (arith, least_there, some, none'))
      where
        and_three : (x y z : Bool) → (x && y && z) ≡ true → (x ≡ true) × (y ≡ true)
        and_three true true z h = (refl, refl)
        and_three true false z h = absurd (both_ways false refl h)
        and_three false y z h = absurd (both_ways false refl h)

        gone : (q : ℕ) → In q v.live → (has_item v q (item_of v b) && not (ruled_out v (A ++ Has p ∷ []) q) && not (mem [] q)) ≡ false
        gone q k = false_from_ne_true _ (λ y.
            let three = and_three (has_item v q (item_of v b)) (not (ruled_out v (A ++ Has p ∷ []) q)) (not (mem [] q)) y in
            both_ways (open_in v (A ++ Has p ∷ []) q) (closed q (in_mem v.live q k) three.0) (and_from _ _ (not_from_false _ (unheld q three.0)) three.1))

and_true : (a b : Bool) → (a && b) ≡ (a && b && true)
and_true true true = refl
and_true true false = refl
and_true false b = refl

-- if there are no arms, leaving the arms out doesn't change the count
pub without_arms : (v : View) (A : List Atom) (i : Item) (xs : List ℕ) → tally (λ p. has_item v p i && not (ruled_out v A p)) xs ≡ tally (λ p. has_item v p i && not (ruled_out v A p) && not (mem [] p)) xs
without_arms v A i [] = refl
without_arms v A i (x ∷ xs) = omega (arith, ap one (and_true (has_item v x i) (not (ruled_out v A x))), without_arms v A i xs)
