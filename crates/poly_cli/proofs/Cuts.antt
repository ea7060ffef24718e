-- How a line goes on, byte by byte, until a line feed ends it.
use Rattle.std.proofs.Common.{◌≡◌, ◌+◌, ◌-◌, ◌<◌, ◌≤◌, ◌==◌, ◌++◌, Bool, true, false, List, [], ◌∷◌, ℕ, zero, suc, refl, sym, ◌∙◌, ap, take, drop, length, get_or, arith, rules, if◌then◌else◌}
use Rattle.std.proofs.lemmas.List.{append_assoc, append-nil, length-take, take_more, take-append-drop, drop-take, drop-drop}
use Rattle.poly_cli.specs.Cutting.{open_line, whole_lines}
use Rattle.poly_cli.specs.Buffered.{kept, EndsLine, EndsNone}

pub open_append : (b xs ys : List ℕ) → open_line b (xs ++ ys) ≡ open_line (open_line b xs) ys
open_append b [] ys = refl
open_append b (x ∷ xs) ys = go (x == 10) (open_append [] xs ys) (open_append (b ++ x ∷ []) xs ys)
  where
    go : (t : Bool) → open_line [] (xs ++ ys) ≡ open_line (open_line [] xs) ys → open_line (b ++ x ∷ []) (xs ++ ys) ≡ open_line (open_line (b ++ x ∷ []) xs) ys
        → (if t then open_line [] (xs ++ ys) else open_line (b ++ x ∷ []) (xs ++ ys)) ≡ open_line (if t then open_line [] xs else open_line (b ++ x ∷ []) xs) ys
    go true e f = e
    go false e f = f

pub whole_append : (b xs ys : List ℕ) → whole_lines b (xs ++ ys) ≡ whole_lines b xs ++ whole_lines (open_line b xs) ys
whole_append b [] ys = refl
whole_append b (x ∷ xs) ys = go (x == 10) (whole_append [] xs ys) (whole_append (b ++ x ∷ []) xs ys)
  where
    go : (t : Bool) → whole_lines [] (xs ++ ys) ≡ whole_lines [] xs ++ whole_lines (open_line [] xs) ys
        → whole_lines (b ++ x ∷ []) (xs ++ ys) ≡ whole_lines (b ++ x ∷ []) xs ++ whole_lines (open_line (b ++ x ∷ []) xs) ys
        → (if t then b ∷ whole_lines [] (xs ++ ys) else whole_lines (b ++ x ∷ []) (xs ++ ys))
        ≡ (if t then b ∷ whole_lines [] xs else whole_lines (b ++ x ∷ []) xs) ++ whole_lines (if t then open_line [] xs else open_line (b ++ x ∷ []) xs) ys
    go true e f = ap (λ z. b ∷ z) e
    go false e f = f

pub take_short : (n : ℕ) (b : List ℕ) (x : ℕ) → length (take n b) < n → take n b ++ x ∷ [] ≡ take n (b ++ x ∷ [])
take_short zero b x h = absurd (omega (arith, h))
take_short (suc zero) [] x h = refl
take_short (suc (suc n)) [] x h = refl
take_short (suc n) (y ∷ b) x h = ap (λ z. y ∷ z) (take_short n b x (omega (arith, h)))

pub take_long : (n : ℕ) (b : List ℕ) (x : ℕ) → n ≤ length (take n b) → take n b ≡ take n (b ++ x ∷ [])
take_long zero b x h = refl
take_long (suc n) [] x h = absurd (omega (arith, h))
take_long (suc n) (y ∷ b) x h = ap (λ z. y ∷ z) (take_long n b x (omega (arith, h)))

differs_is : (x : ℕ) → (x ≡ 10 → ⊥) → (x == 10) ≡ false
differs_is x h = search (rules, h)

-- one more byte that isn't a line feed ends no line
pub goes_on : (limit i : ℕ) (begun bytes line new : List ℕ) → i < length bytes → (get_or bytes i 0 ≡ 10 → ⊥) → EndsNone limit begun (take i bytes) line
    → ((b : List ℕ) → line ≡ kept limit b → new ≡ kept limit (b ++ get_or bytes i 0 ∷ [])) → EndsNone limit begun (take (i + 1) bytes) new
goes_on limit i begun bytes line new lt differs e step =
    let x = get_or bytes i 0 in
    let other : (x == 10) ≡ false = differs_is x differs in
    let whole : whole_lines begun (take i bytes ++ x ∷ []) ≡ [] = whole_append begun (take i bytes) (x ∷ []) ∙ rw (e.whole, other) refl in
    let begins : open_line begun (take i bytes ++ x ∷ []) ≡ open_line begun (take i bytes) ++ x ∷ [] = open_append begun (take i bytes) (x ∷ []) ∙ rw other refl in
    record { whole = rw (take_more bytes i 0 lt) whole; line = rw (take_more bytes i 0 lt, begins) (step (open_line begun (take i bytes)) e.line) }

-- a line feed ends the line
pub comes_to_end : (limit i : ℕ) (begun bytes line : List ℕ) → i < length bytes → get_or bytes i 0 ≡ 10 → EndsNone limit begun (take i bytes) line → EndsLine limit begun (take (i + 1) bytes) line
comes_to_end limit i begun bytes line lt feeds e =
    let x = get_or bytes i 0 in
    let feed : (x == 10) ≡ true = rw feeds refl in
    let whole : whole_lines begun (take i bytes ++ x ∷ []) ≡ open_line begun (take i bytes) ∷ [] = whole_append begun (take i bytes) (x ∷ []) ∙ rw (e.whole, feed) refl in
    let begins : open_line begun (take i bytes ++ x ∷ []) ≡ [] = open_append begun (take i bytes) (x ∷ []) ∙ rw feed refl in
    record { bytes = open_line begun (take i bytes); whole = rw (take_more bytes i 0 lt) whole; after = rw (take_more bytes i 0 lt) begins; line = e.line }

-- the bytes ahead are the first `n` of them, followed by those that are ahead once these are cut
pub ahead_parts : (n start end : ℕ) (xs : List ℕ) → start + n ≤ end → take (end - start) (drop start xs) ≡ take n (take (end - start) (drop start xs)) ++ take (end - (start + n)) (drop (start + n) xs)
ahead_parts n start end xs le =
    let m = end - (start + n) in
    let k : end - start ≡ n + m = omega arith in
    let later : drop n (take (end - start) (drop start xs)) ≡ take m (drop (start + n) xs) = rw (k, drop-take n m (drop start xs)) (ap (take m) (drop-drop n start xs)) in
    sym (take-append-drop n (take (end - start) (drop start xs))) ∙ ap (λ z. take n (take (end - start) (drop start xs)) ++ z) later

pub ahead_found : (n start end : ℕ) (xs ys : List ℕ) → ys ≡ xs → start ≤ end → n ≤ length (take (end - start) (drop start ys)) → take (end - start) (drop start xs) ≡ take n (take (end - start) (drop start ys)) ++ take (end - (start + n)) (drop (start + n) xs)
ahead_found n start end xs ys same order le =
    let few : length (take (end - start) (drop start ys)) ≤ end - start = search (rules, length-take) in
    rw same (ahead_parts n start end xs (omega (arith, le, few, order)))

pub ahead_past : (start end : ℕ) (xs ys : List ℕ) → ys ≡ xs → take (end - start) (drop start xs) ≡ take (end - start) (drop start ys) ++ take (end - end) (drop end xs)
ahead_past start end xs ys same = let z : end - end ≡ 0 = omega arith in rw (same, z) (sym (append-nil (take (end - start) (drop start xs))))

pub ahead_none : (end : ℕ) (xs : List ℕ) → ◌≡◌ {A = List ℕ} (take (end - end) (drop end xs)) []
ahead_none end xs = let z : end - end ≡ 0 = omega arith in rw z refl

take_nothing : (n : ℕ) → ◌≡◌ {A = List ℕ} [] (take n [])
take_nothing zero = refl
take_nothing (suc n) = refl

pub nothing_yet : (limit : ℕ) → EndsNone limit [] [] []
nothing_yet limit = record { whole = refl; line = take_nothing (limit + 1) }

pub then_line : (limit : ℕ) (a p t u : List ℕ) → EndsNone limit [] a t → EndsLine limit (open_line [] a) p u → EndsLine limit [] (a ++ p) u
then_line limit a p t u e l = record {
  bytes = l.bytes;
  whole = whole_append [] a p ∙ rw e.whole l.whole;
  after = open_append [] a p ∙ l.after;
  line = l.line;
}

pub then_none : (limit : ℕ) (a p t u : List ℕ) → EndsNone limit [] a t → EndsNone limit (open_line [] a) p u → EndsNone limit [] (a ++ p) u
then_none limit a p t u e l = record {
  whole = whole_append [] a p ∙ rw e.whole l.whole;
  line = l.line ∙ ap (kept limit) (sym (open_append [] a p));
}

-- if the bytes that were read are those that were cut and then those ahead, this stays so when `p` is cut too
pub parts_cut : (before taken a p rest now : List ℕ) → before ++ taken ≡ a ++ now → now ≡ p ++ rest → before ++ taken ≡ (a ++ p) ++ rest
parts_cut before taken a p rest now e f = e ∙ ap (λ z. a ++ z) f ∙ sym (append_assoc a p rest)

pub parts_read : (before taken more a now : List ℕ) → before ++ taken ≡ a ++ now → now ≡ [] → before ++ (taken ++ more) ≡ a ++ more
parts_read before taken more a now e none = sym (append_assoc before taken more) ∙ ap (λ z. z ++ more) (e ∙ ap (λ z. a ++ z) none ∙ append-nil a)
