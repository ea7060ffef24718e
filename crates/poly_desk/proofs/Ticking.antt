-- Receipts that are ticked off one after the other.
use Rattle.std.proofs.Common.{Bool, List, Vec, [], ap, arith, drop, false, inl, inr, length, refl, slice_index_or, sym, take, true, ℕ, ◌++◌, ◌+◌, ◌<◌, ◌||◌, ◌∙◌, ◌∷◌, ◌≡◌, ◌≤◌, ◌⊎◌}
use Rattle.std.proofs.lemmas.Bool.{cases_lt}
use Rattle.std.proofs.lemmas.List.{append-nil, append_assoc, drop_more, get_or_append_left, get_or_at, length_push, take-append-drop, take-append-le, take_at, take_more}
use Rattle.std.proofs.lemmas.List.Concat.{flat_map-append}
use Rattle.std.proofs.lemmas.List.Elements.{All-push}
use Rattle.std.proofs.lemmas.List.Folds.{list_any-append}
use Rattle.std.specs.Global.{Global}
use Rattle.poly_grid.specs.declared.refusal.Refusal.{Refusal}
use Rattle.poly_grid.specs.declared.refusal.Refusal.TheVariants.{Unsettled}
use Rattle.poly_book.specs.States.{State}
use Rattle.poly_desk.specs.Receipts.{IsBadReceipt, IsRightReceipt, all_of, entries, is_taken, place_of, same_place}
use Rattle.poly_desk.specs.Ticks.{Taken, flag_of}
use Rattle.poly_desk.specs.declared.marks.Marks.{Marks}
use Rattle.poly_desk.specs.declared.receipt.Receipt.{Receipt}

or_false : (b : Bool) → (b || false) ≡ b
or_false true = refl
or_false false = refl

taken_push : (rs : List Receipt) (r q : Receipt) → is_taken (rs ++ r ∷ []) q ≡ (is_taken rs q || same_place r q)
taken_push rs r q = list_any-append (λ x. same_place x q) rs (r ∷ []) ∙ ap (λ b. is_taken rs q || b) (or_false (same_place r q))

-- if the flag of a right receipt was down, and then this flag is raised and no other changes, the receipt is taken like those
-- before it
pub taken_more : (b : State) (m n : Marks) (rs : List Receipt) (r : Receipt) → Taken b m rs → IsRightReceipt b r → flag_of m r ≡ false →
    ((q : Receipt) → flag_of n q ≡ (flag_of m q || same_place r q)) → Taken b n (rs ++ r ∷ [])
taken_more b m n rs r t s first up = record {
  receipts = record { right = All-push (IsRightReceipt b) rs r t.receipts.right s; distinct = λ k d l. distinct k d l (cases_lt k (length rs)) };
  ticked = λ q. up q ∙ ap (λ x. x || same_place r q) (t.ticked q) ∙ sym (taken_push rs r q);
}
  where
    distinct : (k : ℕ) (d : Receipt) → k < length (rs ++ r ∷ []) → (k < length rs) ⊎ (length rs ≤ k) → is_taken (take k (rs ++ r ∷ [])) (slice_index_or (rs ++ r ∷ []) k d) ≡ false
    distinct k d l (inl h) =
        ap (λ z. is_taken z (slice_index_or (rs ++ r ∷ []) k d)) (take-append-le k rs (r ∷ []) (omega (arith, h))) ∙ ap (λ x. is_taken (take k rs) x) (get_or_append_left rs (r ∷ []) d k h)
        ∙ t.receipts.distinct k d h
    distinct k d l (inr h) =
        let same : length rs ≡ k = omega (arith, l, h, length_push rs r) in
        ap (λ z. is_taken z (slice_index_or (rs ++ r ∷ []) k d)) (take_at rs (r ∷ []) k same) ∙ ap (λ x. is_taken rs x) (get_or_at rs r [] d k same) ∙ sym (t.ticked r) ∙ first

-- a receipt that isn't right, or whose flag is up already, is the one that the refusal names
pub bad_here : (b : State) (m : Marks) (before after : List Receipt) (r : Receipt) (e : Refusal) → Taken b m before →
    ((e ≡ Unsettled (place_of r) (entries b r)) × (¬ IsRightReceipt b r)) ⊎ ((e ≡ Unsettled (place_of r) 2) × IsRightReceipt b r × (flag_of m r ≡ true)) → IsBadReceipt b (before ++ r ∷ after) e
bad_here b m before after r e t (inl h) = (before, r, after, refl, inl h)
bad_here b m before after r e t (inr h) = (before, r, after, refl, inr (h.0, h.1, sym (t.ticked r) ∙ h.2))

cut_at : {X : Type 0} (xs : List X) (i : ℕ) (x : X) → i < length xs → x ≡ slice_index_or xs i x → xs ≡ take i xs ++ x ∷ drop (i + 1) xs
cut_at xs i x h e = sym (take-append-drop i xs) ∙ ap (λ z. take i xs ++ z) (drop_more xs i x h ∙ ap (λ y. y ∷ drop (i + 1) xs) (sym e))

more_at : {X : Type 0} (xs : List X) (i : ℕ) (x : X) → i < length xs → x ≡ slice_index_or xs i x → take (i + 1) xs ≡ take i xs ++ x ∷ []
more_at xs i x h e = take_more xs i x h ∙ ap (λ y. take i xs ++ y ∷ []) (sym e)

-- the middle one of three lists is split at its element `i`
pub split_at : {X : Type 0} (rs xs more : List X) (i : ℕ) (x : X) → i < length xs → x ≡ slice_index_or xs i x → (rs ++ xs) ++ more ≡ (rs ++ take i xs) ++ x ∷ (drop (i + 1) xs ++ more)
split_at rs xs more i x h e =
    ap (λ z. (rs ++ z) ++ more) (cut_at xs i x h e) ∙ ap (λ z. z ++ more) (sym (append_assoc rs (take i xs) (x ∷ drop (i + 1) xs))) ∙ append_assoc (rs ++ take i xs) (x ∷ drop (i + 1) xs) more

pub push_at : {X : Type 0} (rs xs : List X) (i : ℕ) (x : X) → i < length xs → x ≡ slice_index_or xs i x → (rs ++ take i xs) ++ x ∷ [] ≡ rs ++ take (i + 1) xs
push_at rs xs i x h e = append_assoc rs (take i xs) (x ∷ []) ∙ ap (λ z. rs ++ z) (sym (more_at xs i x h e))

-- the receipts of the first `i + 1` lists are those of the first `i` and then those of list `i`
pub all_push : (lists : List (Vec Receipt Global)) (i : ℕ) (v : Vec Receipt Global) → i < length lists → v ≡ slice_index_or lists i v → all_of (take i lists) ++ v.items ≡ all_of (take (i + 1) lists)
all_push lists i v h e =
    sym (ap (λ z. all_of z) (more_at lists i v h e) ∙ flat_map-append (λ w. w.items) (take i lists) (v ∷ []) ∙ ap (λ z. all_of (take i lists) ++ z) (append-nil v.items))

-- all receipts are those of the lists before list `i`, those of list `i`, and those of the lists after it
pub all_split : (lists : List (Vec Receipt Global)) (i : ℕ) (v : Vec Receipt Global) → i < length lists → v ≡ slice_index_or lists i v → (all_of (take i lists) ++ v.items) ++ all_of (drop (i + 1) lists) ≡ all_of lists
all_split lists i v h e =
    sym (ap (λ z. all_of z) (cut_at lists i v h e) ∙ flat_map-append (λ w. w.items) (take i lists) (v ∷ drop (i + 1) lists) ∙ sym (append_assoc (all_of (take i lists)) v.items (all_of (drop (i + 1) lists))))
