-- The table of a frame.
use Rattle.std.proofs.Common.{◌≡◌, ℕ, zero, suc, ◌+◌, ◌<◌, ◌≤◌, Bool, true, false, cond, List, [], ◌∷◌, inl, inr, refl, sym, ap, subst, ◌∙◌, arith, leb, leb-true, map, length, get_or, take, drop}
use Rattle.std.proofs.Math.ListN.{set}
use Rattle.std.specs.List.{filter, list_all}
use Rattle.std.proofs.lemmas.Bool.{and_parts, both_ways, false_from_ne_true, cases_Bool, cases_eq, cond-false}
use Rattle.std.proofs.lemmas.List.{take_more, get_or-set_other, get_or-set_same}
use Rattle.poly_tiling.specs.declared.bound.Bound.{Bound}
use Rattle.poly_tiling.specs.declared.item.Item.{Item}
use Rattle.poly_tiling.specs.Lists.{one, tally}
use Rattle.poly_tiling.specs.Names.{items_ascend}
use Rattle.poly_tiling.specs.Puzzle.{View, bound_in, count, has_item, items, same_item}
use Rattle.poly_tiling.proofs.Lists.{tally_append}
use Rattle.poly_tiling.proofs.Tilings.{same_item_is, same_item_self}
use Rattle.poly_atom.specs.declared.atom.Atom.{Atom}
use Rattle.poly_atom.specs.declared.atom.Atom.TheVariants.{Has, Lacks, AtLeast, AtMost}
use Rattle.poly_frame.specs.Open.{least_at, most_at}
use Rattle.poly_frame.specs.Plain.{most_by, least_by}
use Rattle.poly_frame.specs.FrameItems.{Noted, item_at, item_of, no_bound, times}
use Rattle.poly_frame.specs.FrameTable.{LeastsShow, HaveShows, MostsShow}
use Rattle.poly_frame.proofs.FrameItems.{item_once}

-- the bounds of the item at an index
pub bound_at : (bs : List Bound) (b : ℕ) (f : Bound → ℕ) → items_ascend bs ≡ true → b < length bs → bound_in bs (item_at bs b) f ≡ f (get_or bs b no_bound)
bound_at [] b f up h = absurd (omega arith)
bound_at (x ∷ bs) zero f up h = ap (λ t. cond t (f x) (bound_in bs x.item f)) (same_item_self x.item)
bound_at (x ∷ bs) (suc b) f up h =
    cond-false (same_item x.item (item_at bs b)) (f x) (bound_in bs (item_at bs b) f) (false_from_ne_true _ (λ e. apart (item_once (x ∷ bs) zero (suc b) up (omega arith) h (same_item_is _ _ e))))
    ∙ bound_at bs b f (and_parts _ (items_ascend bs) up).1 (omega arith)
  where
    apart : zero ≡ suc b → ⊥
    apart e = absurd (omega arith)

pub map_at : (f : Bound → ℕ) (bs : List Bound) (b : ℕ) → b < length bs → get_or (map f bs) b 0 ≡ f (get_or bs b no_bound)
map_at f [] b h = absurd (omega arith)
map_at f (x ∷ bs) zero h = refl
map_at f (x ∷ bs) (suc b) h = map_at f bs b (omega arith)

pub map_len : (f : Bound → ℕ) (bs : List Bound) → length (map f bs) ≡ length bs
map_len f [] = refl
map_len f (x ∷ bs) = ap suc (map_len f bs)

pub most_by_is : (v : View) (a : Atom) (A : List Atom) (i : Item) → most_at v (a ∷ A) i ≡ most_by a i (most_at v A i)
most_by_is v (Has p) A i = refl
most_by_is v (Lacks p) A i = refl
most_by_is v (AtLeast j n) A i = refl
most_by_is v (AtMost j n) A i = refl

pub least_by_is : (v : View) (a : Atom) (A : List Atom) (i : Item) → least_at v (a ∷ A) i ≡ least_by a i (least_at v A i)
least_by_is v (Has p) A i = refl
least_by_is v (Lacks p) A i = refl
least_by_is v (AtLeast j n) A i = refl
least_by_is v (AtMost j n) A i = refl

drop_end : (A : List Atom) → drop (length A) A ≡ []
drop_end [] = refl
drop_end (a ∷ A) = drop_end A

pub mosts_start : (v : View) (A : List Atom) (us : List ℕ) → items_ascend v.bounds ≡ true → us ≡ map (λ b. b.most) v.bounds → MostsShow v (drop (length A) A) us
mosts_start v A us up e b h = ap (λ xs. get_or xs b 0) e ∙ map_at (λ b. b.most) v.bounds b h ∙ sym (ap (λ B. most_at v B (item_of v b)) (drop_end A) ∙ bound_at v.bounds b (λ b. b.most) up h)

pub leasts_start : (v : View) (A : List Atom) (us : List ℕ) → items_ascend v.bounds ≡ true → us ≡ map (λ b. b.least) v.bounds → LeastsShow v (drop (length A) A) us
leasts_start v A us up e b h = ap (λ xs. get_or xs b 0) e ∙ map_at (λ b. b.least) v.bounds b h ∙ sym (ap (λ B. least_at v B (item_of v b)) (drop_end A) ∙ bound_at v.bounds b (λ b. b.least) up h)

-- writing at the index of an item changes the entry of that item alone
module _ (bs : List Bound) (us : List ℕ) (a x : ℕ) (i : Item) (up : items_ascend bs ≡ true) (len : length us ≡ length bs) (w : (a < length bs) × (same_item (item_at bs a) i ≡ true)) where
  pub written : (f : ℕ → ℕ) → x ≡ f (get_or us a 0) → (b : ℕ) → b < length bs → get_or (set us a x) b 0 ≡ cond (same_item i (item_at bs b)) (f (get_or us b 0)) (get_or us b 0)
  written f e b h = elim (cases_eq a b) [
    | inl s ↦
        let same : same_item i (item_at bs b) ≡ true = subst (λ n. same_item i (item_at bs n) ≡ true) s (subst (λ j. same_item j (item_at bs a) ≡ true) (same_item_is _ _ w.1) (same_item_self (item_at bs a))) in
        let inside : a < length us = omega (arith, w.0) in
        ap (λ m. get_or (set us a x) m 0) (sym s) ∙ (rw get_or-set_same e) ∙ ap (λ m. f (get_or us m 0)) s ∙ sym (ap (λ t. cond t (f (get_or us b 0)) (get_or us b 0)) same)
    | inr n ↦
        let other : same_item i (item_at bs b) ≡ false = false_from_ne_true _ (λ t. n (item_once bs a b up w.0 h (same_item_is _ _ w.1 ∙ same_item_is _ _ t))) in
        let apart : b ≡ a → ⊥ = λ t. n (sym t) in
        (rw get_or-set_other refl) ∙ sym (ap (λ t. cond t (f (get_or us b 0)) (get_or us b 0)) other)
  ]

pub nowhere : (bs : List Bound) (i : Item) (f : ℕ → ℕ) (us : List ℕ) → ((b : ℕ) → b < length bs → same_item (item_at bs b) i ≡ false) → (b : ℕ) → b < length bs → get_or us b 0 ≡ cond (same_item i (item_at bs b)) (f (get_or us b 0)) (get_or us b 0)
nowhere bs i f us n b h = sym (cond-false (same_item i (item_at bs b)) (f (get_or us b 0)) (get_or us b 0) (false_from_ne_true _ (λ e. both_ways _ (n b h) (subst (λ j. same_item j i ≡ true) (same_item_is _ _ e) (same_item_self i)))))

-- the atoms from index k on are atom k and those after it
drop_more : (A : List Atom) (k : ℕ) (d : Atom) → k < length A → drop k A ≡ get_or A k d ∷ drop (k + 1) A
drop_more [] k d h = absurd (omega arith)
drop_more (a ∷ A) zero d h = refl
drop_more (a ∷ A) (suc k) d h = let e : suc k + 1 ≡ suc (k + 1) = omega arith in drop_more A k d (omega arith) ∙ ap (λ n. get_or A k d ∷ drop n (a ∷ A)) (sym e)

pub mosts_more : (v : View) (A : List Atom) (k : ℕ) (a : Atom) (us new : List ℕ) → k < length A → get_or A k a ≡ a → MostsShow v (drop (k + 1) A) us → ((b : ℕ) → b < length v.bounds → get_or new b 0 ≡ most_by a (item_of v b) (get_or us b 0)) → MostsShow v (drop k A) new
mosts_more v A k a us new h e shown step b l = step b l ∙ ap (λ n. most_by a (item_of v b) n) (shown b l) ∙ sym (ap (λ B. most_at v B (item_of v b)) (drop_more A k a h ∙ ap (λ x. x ∷ drop (k + 1) A) e) ∙ most_by_is v a (drop (k + 1) A) (item_of v b))

pub leasts_more : (v : View) (A : List Atom) (k : ℕ) (a : Atom) (us new : List ℕ) → k < length A → get_or A k a ≡ a → LeastsShow v (drop (k + 1) A) us → ((b : ℕ) → b < length v.bounds → get_or new b 0 ≡ least_by a (item_of v b) (get_or us b 0)) → LeastsShow v (drop k A) new
leasts_more v A k a us new h e shown step b l = step b l ∙ ap (λ n. least_by a (item_of v b) n) (shown b l) ∙ sym (ap (λ B. least_at v B (item_of v b)) (drop_more A k a h ∙ ap (λ x. x ∷ drop (k + 1) A) e) ∙ least_by_is v a (drop (k + 1) A) (item_of v b))

-- raising the counts at the items of member k counts one more member
pub counted_more : (v : View) (T : List ℕ) (k : ℕ) (have new indices : List ℕ) → k < length T → HaveShows v (take k T) have → Noted v.bounds (items v (get_or T k 0)) indices → ((b : ℕ) → b < length v.bounds → get_or new b 0 ≡ get_or have b 0 + times indices b) → HaveShows v (take (k + 1) T) new
counted_more v T k have new indices h shown noted step b l =
    step b l ∙ omega (arith, shown b l, noted.once b l, tally_append (λ p. has_item v p (item_of v b)) (take k T) (get_or T k 0 ∷ [])) ∙ sym (ap (λ xs. count v xs (item_of v b)) (take_more T k 0 h))

tally_le : {X : Type 0} (f : X → Bool) (xs : List X) → tally f xs ≤ length xs
tally_le f [] = omega arith
tally_le f (x ∷ xs) = let r = tally_le f xs in elim (cases_Bool (f x)) [ inl e ↦ omega (arith, ap one e) | inr e ↦ omega (arith, ap one e) ]

pub count_le : (v : View) (T : List ℕ) (i : Item) → count v T i ≤ length T
count_le v T i = tally_le (λ p. has_item v p i) T

pub length_take_le : (k : ℕ) (xs : List ℕ) → length (take k xs) ≤ length xs
length_take_le zero xs = omega arith
length_take_le (suc k) [] = omega arith
length_take_le (suc k) (x ∷ xs) = omega (arith, length_take_le k xs)

pub filter_len : (f : ℕ → Bool) (xs : List ℕ) → length (filter f xs) ≤ length xs
filter_len f [] = omega arith
filter_len f (x ∷ xs) = let r = filter_len f xs in elim (f x) as (λ b. length (cond b (x ∷ filter f xs) (filter f xs)) ≤ length (x ∷ xs)) [ true ↦ omega arith | false ↦ omega arith ]

pub each_one : (xs : List ℕ) (b : ℕ) → list_all (λ n. leb n 1) xs ≡ true → b < length xs → get_or xs b 0 ≤ 1
each_one [] b h l = absurd (omega arith)
each_one (x ∷ xs) zero h l = leb-true x 1 (and_parts (leb x 1) (list_all (λ n. leb n 1) xs) h).0
each_one (x ∷ xs) (suc b) h l = each_one xs b (and_parts (leb x 1) (list_all (λ n. leb n 1) xs) h).1 (omega arith)
