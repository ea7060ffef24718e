-- A run that goes on, line by line.
use Rattle.std.proofs.Common.{◌≡◌, ◌+◌, ◌-◌, ◌<◌, ◌≤◌, ◌++◌, List, [], ◌∷◌, ℕ, map, refl, sym, ◌∙◌, ap, subst, append_assoc, append-nil, Option, take, suc, zero, length, arith}
use Rattle.std.proofs.lemmas.List.{length-take, map-append, take_all, take_at}
use Rattle.std.proofs.Math.Seq.{take-append-add, take-nil}
use Rattle.poly_cli.specs.Cutting.{open_line, whole_lines, lines_before, lines_of, last_lines, ended, unended}
use Rattle.poly_cli.specs.Buffered.{kept, EndsNone}
use Rattle.poly_cli.specs.Runs.{Runs}
use Rattle.poly_cli.proofs.Cuts.{open_append, whole_append}

pub before_more : (limit : ℕ) (done piece : List ℕ) → open_line [] done ≡ [] → lines_before limit (done ++ piece) ≡ lines_before limit done ++ lines_before limit piece
before_more limit done piece e = ap (map (ended limit)) (whole_append [] done piece ∙ rw e refl) ∙ map-append (ended limit) (whole_lines [] done) (whole_lines [] piece)

pub open_more : (done piece : List ℕ) → open_line [] done ≡ [] → open_line [] (done ++ piece) ≡ open_line [] piece
open_more done piece e = open_append [] done piece ∙ rw e refl

pub lines_more : (limit : ℕ) (a b : List ℕ) → open_line [] a ≡ [] → lines_of limit (a ++ b) ≡ lines_before limit a ++ lines_of limit b
lines_more limit a b e =
    ap (λ z. z ++ last_lines limit (open_line [] (a ++ b))) (before_more limit a b e) ∙ ap (λ z. (lines_before limit a ++ lines_before limit b) ++ last_lines limit z) (open_more a b e)
    ∙ append_assoc (lines_before limit a) (lines_before limit b) (last_lines limit (open_line [] b))

-- a piece that ends no line adds no whole line
pub lines_none : (limit : ℕ) (done piece : List ℕ) → open_line [] done ≡ [] → whole_lines [] piece ≡ [] → lines_before limit (done ++ piece) ≡ lines_before limit done
lines_none limit done piece e none = before_more limit done piece e ∙ rw none (append-nil (lines_before limit done))

last_is : (limit : ℕ) (l : List ℕ) → (l ≡ [] → ⊥) → last_lines limit l ≡ unended limit l ∷ []
last_is limit [] some = absurd (some refl)
last_is limit (x ∷ xs) some = refl

pub none_text : (limit : ℕ) (piece text : List ℕ) → EndsNone limit [] piece text → text ≡ [] → open_line [] piece ≡ []
none_text limit piece text e none = go (open_line [] piece) (sym e.line ∙ none)
  where
    go : (l : List ℕ) → take (limit + 1) l ≡ [] → l ≡ []
    go [] h = refl
    go (x ∷ xs) h =
        let k : length (take (limit + 1) (x ∷ xs)) ≡ 0 = ap length h in
        absurd (omega (arith, length-take (limit + 1) (x ∷ xs), k))

pub some_text : (limit : ℕ) (piece text : List ℕ) → EndsNone limit [] piece text → (text ≡ [] → ⊥) → open_line [] piece ≡ [] → ⊥
some_text limit piece text e some none = some (e.line ∙ ap (kept limit) none ∙ take-nil (limit + 1))

-- the first n elements of two joined lists, if the first list has at most n
pub take_front : {X : Type 0} (n : ℕ) (xs ys : List X) → length xs ≤ n → take n (xs ++ ys) ≡ xs ++ take (n - length xs) ys
take_front {X} n xs ys le = let e : n ≡ length xs + (n - length xs) = omega (arith, le) in subst (λ m. take m (xs ++ ys) ≡ xs ++ take (n - length xs) ys) (sym e) (take-append-add xs ys (n - length xs))

-- if `over` is empty while bytes may still come, the bytes within the limit are exactly `heard`
pub take_heard : (n left : ℕ) (heard over : List ℕ) → left + length heard ≡ n → (0 < left → over ≡ []) → take n (heard ++ over) ≡ heard
take_heard n zero heard over e none = take_at heard over n (omega (arith, e))
take_heard n (suc k) heard over e none = rw (none (omega arith), append-nil heard) (take_all n heard (omega (arith, e)))

module _ {S : Type 0} (Says : S → Option (List ℕ) → List ℕ → S → Type 0) where
  -- the run so far goes on with any run from here
  abbrev pub Goes : ℕ → S → S → List ℕ → List ℕ → Type 0
  Goes limit start now done out = (lines : List (Option (List ℕ))) (o : List ℕ) → Runs Says now lines o → Runs Says start (lines_before limit done ++ lines) (out ++ o)

  pub goes_first : (limit : ℕ) (s : S) → Goes limit s s [] []
  goes_first limit s lines o r = r

  pub goes_line : (limit : ℕ) (start now next : S) (done piece out first bytes : List ℕ) (said : Option (List ℕ)) → open_line [] done ≡ [] → whole_lines [] piece ≡ bytes ∷ [] → said ≡ ended limit bytes
      → Says now said first next → Goes limit start now done out → Goes limit start next (done ++ piece) (out ++ first)
  goes_line limit start now next done piece out first bytes said e whole is says goes lines o r =
      let here : lines_before limit (done ++ piece) ++ lines ≡ lines_before limit done ++ (said ∷ lines) = ap (λ z. z ++ lines) (before_more limit done piece e ∙ rw (whole, is) refl) ∙ append_assoc (lines_before limit done) (said ∷ []) lines in
      rw (here, append_assoc out first o) (goes (said ∷ lines) (first ++ o) (first, o, next, says, r, refl))

  -- the run up to here
  pub goes_now : (limit : ℕ) (start now : S) (done out : List ℕ) → Goes limit start now done out → Runs Says start (lines_before limit done) out
  goes_now limit start now done out goes = subst (λ l. Runs Says start l out) (append-nil (lines_before limit done)) (subst (λ o. Runs Says start (lines_before limit done ++ []) o) (append-nil out) (goes [] [] refl))

  pub at_last : (limit : ℕ) (start now next : S) (done piece out first : List ℕ) (said : Option (List ℕ)) → open_line [] done ≡ [] → whole_lines [] piece ≡ [] → (open_line [] piece ≡ [] → ⊥) → said ≡ unended limit (open_line [] piece)
      → Says now said first next → Goes limit start now done out → Runs Says start (lines_of limit (done ++ piece)) (out ++ first)
  at_last limit start now next done piece out first said e none some is says goes =
      rw (lines_none limit done piece e none, open_more done piece e, last_is limit (open_line [] piece) some, ← is) (goes (said ∷ []) first (first, [], next, says, refl, sym (append-nil first)))
