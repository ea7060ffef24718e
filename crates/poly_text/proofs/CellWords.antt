-- What a loop reads from words, one after another, and cells that it keeps while there is room.
use Rattle.std.proofs.Common.{◌≡◌, ◌+◌, ◌<◌, ◌≤◌, ℕ, Bor, List, [], ◌∷◌, ◌++◌, length, map, min, take, drop, get_or, set, Result, Ok, Err, refl, sym, ap, ◌∙◌, arith, append_assoc, append-nil, length-append}
use Rattle.std.proofs.lemmas.List.{at_drop_all, at_drop_more, take-append-le, take_all, take_more_set}
use Rattle.poly_grid.specs.Spot.{Spot}
use Rattle.poly_grid.specs.declared.refusal.Refusal.{Refusal}
use Rattle.poly_text.specs.Gives.{◌>>=◌}
use Rattle.poly_text.specs.Words.{read_each}

abbrev pub texts : List (Bor (List ℕ)) → List (List ℕ)
texts words = map (λ w. w.now) words

-- what was read, and then what the rest is read as
abbrev pub onto : {A : Type 0} → List A → Result (List A) Refusal → Result (List A) Refusal
onto done rest = rest >>= λ xs. Ok (done ++ xs)

regroup : {A : Type 0} (done : List A) (x : A) (rest : Result (List A) Refusal) → onto done (rest >>= λ xs. Ok (x ∷ xs)) ≡ onto (done ++ x ∷ []) rest
regroup done x (Err e) = refl
regroup done x (Ok xs) = ap Ok (sym (append_assoc done (x ∷ []) xs))

-- reading one more word doesn't change the total
pub each_step : {A : Type 0} (f : List ℕ → Result A Refusal) (words : List (Bor (List ℕ))) (i : ℕ) (d : Bor (List ℕ)) (done : List A) (x : A) (total : Result (List A) Refusal) → i < length words
    → f (get_or words i d).now ≡ Ok x → onto done (read_each f (texts (drop i words))) ≡ total → onto (done ++ x ∷ []) (read_each f (texts (drop (i + 1) words))) ≡ total
each_step f words i d done x total lt is so_far =
    let here : read_each f (texts (drop i words)) ≡ (read_each f (texts (drop (i + 1) words)) >>= λ xs. Ok (x ∷ xs)) = ap (read_each f) (at_drop_more texts words i d lt) ∙ rw is refl in
    sym (regroup done x (read_each f (texts (drop (i + 1) words)))) ∙ ap (onto done) (sym here) ∙ so_far

pub each_stop : {A : Type 0} (f : List ℕ → Result A Refusal) (words : List (Bor (List ℕ))) (i : ℕ) (d : Bor (List ℕ)) (done : List A) (e : Refusal) (total : Result (List A) Refusal) → i < length words
    → f (get_or words i d).now ≡ Err e → onto done (read_each f (texts (drop i words))) ≡ total → total ≡ Err e
each_stop f words i d done e total lt is so_far =
    let here : read_each f (texts (drop i words)) ≡ Err e = ap (read_each f) (at_drop_more texts words i d lt) ∙ rw is refl in
    sym so_far ∙ ap (onto done) here

pub each_end : {A : Type 0} (f : List ℕ → Result A Refusal) (words : List (Bor (List ℕ))) (i : ℕ) (done : List A) (total : Result (List A) Refusal) → length words ≤ i
    → onto done (read_each f (texts (drop i words))) ≡ total → total ≡ Ok done
each_end f words i done total le so_far = sym so_far ∙ at_drop_all (λ ws. onto done (read_each f (texts ws))) words i le ∙ ap Ok (append-nil done)

-- before the first word, the total is what all words are read as
pub each_begin : {A : Type 0} (rest : Result (List A) Refusal) → onto [] rest ≡ rest
each_begin (Err e) = refl
each_begin (Ok xs) = refl

-- if there is room for one more cell, it is kept
pub kept_more : (room new done : List Spot) (count : ℕ) (c : Spot) → count < length room → new ≡ set room count c → length new ≡ length room → count ≡ min (length done) (length room)
    → take count room ≡ take (length room) done → take (count + 1) new ≡ take (length new) (done ++ c ∷ [])
kept_more room new done count c lt is same counted kept =
    let few : length done ≡ count = omega (arith, counted, lt) in
    let all : take (length room) done ≡ done = take_all (length room) done (omega (arith, few, lt)) in
    let whole : take (length room) (done ++ c ∷ []) ≡ done ++ c ∷ [] = take_all (length room) (done ++ c ∷ []) (omega (arith, few, lt, length-append done (c ∷ []))) in
    ap (take (count + 1)) is ∙ take_more_set room count c lt ∙ ap (λ z. z ++ c ∷ []) (kept ∙ all) ∙ sym whole ∙ ap (λ k. take k (done ++ c ∷ [])) (sym same)

-- if there is no room for one more cell, the kept cells stay the same
pub kept_same : (room done : List Spot) (count : ℕ) (c : Spot) → length room ≤ count → count ≡ min (length done) (length room) → take count room ≡ take (length room) done
    → take count room ≡ take (length room) (done ++ c ∷ [])
kept_same room done count c full counted kept = kept ∙ sym (take-append-le (length room) done (c ∷ []) (omega (arith, full, counted)))
