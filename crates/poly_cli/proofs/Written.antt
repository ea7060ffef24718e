-- Output that is written in parts.
use Rattle.std.proofs.Common.{◌≡◌, ◌+◌, ◌<◌, ◌++◌, ◌∷◌, [], ℕ, List, map, sym, ◌∙◌, ap, subst, append_assoc, append-nil, take, drop, length, get_or, Result, Ok, Err, Option}
use Rattle.std.specs.Io.KnownBytes.{Appends}
use Rattle.std.specs.List.{flat_map}
use Rattle.std.proofs.lemmas.List.{map-append, take-append-drop, take_more}
use Rattle.std.proofs.lemmas.List.Concat.{flat_map-append}
use Rattle.poly_tiling.specs.Puzzle.{View}
use Rattle.poly_tiling.specs.TilingOrder.{placed}
use Rattle.poly_cli.specs.declared.writing.Fault.{Fault}
use Rattle.poly_text.specs.Replies.{tiling_text, tilings_text}
use Rattle.poly_cli.specs.Runs.{Writes}
use Rattle.poly_cli.specs.Questions.{list_text}
use Rattle.poly_cli.proofs.Known.{appends_more}

module _ (old mid new : Option (List ℕ)) (before x : List ℕ) (a : Appends old mid before) where
  -- after the earlier parts, the result of writing the last part is the result of writing all
  pub writes_last : (r : Result (Unit {0}) Fault) (out : List ℕ) → Writes r mid new x → before ++ x ≡ out → Writes r old new out
  writes_last (Ok u) out w e = subst (λ z. Appends old new z) e (appends_more old mid new before x a w)
  writes_last (Err f) out w e = (w.0, before ++ w.1, w.2, appends_more old mid new before w.1 a w.3, append_assoc before w.1 w.2 ∙ ap (λ z. before ++ z) w.4 ∙ e)

  -- if writing a part fails, so does writing all, whatever is to come after the part
  pub writes_part : (f : Fault) (out rest : List ℕ) → Writes (Err f) mid new x → before ++ (x ++ rest) ≡ out → Writes (Err f) old new out
  writes_part f out rest w e = (
    w.0,
    before ++ w.1,
    w.2 ++ rest,
    appends_more old mid new before w.1 a w.3,
    append_assoc before w.1 (w.2 ++ rest) ∙ ap (λ z. before ++ z) (sym (append_assoc w.1 w.2 rest) ∙ ap (λ z. z ++ rest) w.4) ∙ e,
  )

-- the lines of the first `i` tilings
abbrev pub lines_to : View → List (List ℕ) → ℕ → List ℕ
lines_to v all i = flat_map tiling_text (map (placed v) (take i all))

pub lines_more : (v : View) (all : List (List ℕ)) (i : ℕ) (T : List ℕ) → i < length all → T ≡ get_or all i [] → lines_to v all (i + 1) ≡ lines_to v all i ++ tiling_text (placed v T)
lines_more v all i T lt is =
    ap (λ z. flat_map tiling_text (map (placed v) z)) (take_more all i [] lt ∙ ap (λ U. take i all ++ U ∷ []) (sym is)) ∙ ap (flat_map tiling_text) (map-append (placed v) (take i all) (T ∷ []))
    ∙ flat_map-append tiling_text (map (placed v) (take i all)) (placed v T ∷ []) ∙ ap (λ z. lines_to v all i ++ z) (append-nil (tiling_text (placed v T)))

-- what is left of a listing after the tiling at `i`
pub lines_left : (v : View) (all : List (List ℕ)) (i : ℕ) (T : List ℕ) → i < length all → T ≡ get_or all i [] →
    (rest : List ℕ) × (lines_to v all i ++ (tiling_text (placed v T) ++ rest) ≡ list_text (map (placed v) all))
lines_left v all i T lt is =
    let tail = flat_map tiling_text (map (placed v) (drop (i + 1) all)) in
    let end = tilings_text (length (map (placed v) all)) in
    let parts : flat_map tiling_text (map (placed v) all) ≡ (lines_to v all i ++ tiling_text (placed v T)) ++ tail
    = ap (λ z. flat_map tiling_text (map (placed v) z)) (sym (take-append-drop (i + 1) all)) ∙ ap (flat_map tiling_text) (map-append (placed v) (take (i + 1) all) (drop (i + 1) all))
    ∙ flat_map-append tiling_text (map (placed v) (take (i + 1) all)) (map (placed v) (drop (i + 1) all)) ∙ ap (λ z. z ++ tail) (lines_more v all i T lt is) in
    (tail ++ end, sym (ap (λ z. z ++ end) parts ∙ append_assoc (lines_to v all i ++ tiling_text (placed v T)) tail end ∙ append_assoc (lines_to v all i) (tiling_text (placed v T)) (tail ++ end)))

-- the text of the element at `i` comes after the texts of the first `i` elements
pub flat_next : {X : Type 0} (f : X → List ℕ) (xs : List X) (i : ℕ) (d : X) → i < length xs → flat_map f (take (i + 1) xs) ≡ flat_map f (take i xs) ++ f (get_or xs i d)
flat_next f xs i d lt = ap (flat_map f) (take_more xs i d lt) ∙ flat_map-append f (take i xs) (get_or xs i d ∷ []) ∙ ap (λ z. flat_map f (take i xs) ++ z) (append-nil (f (get_or xs i d)))

-- the texts that are left after the element at `i`
pub flat_left : {X : Type 0} (f : X → List ℕ) (xs : List X) (i : ℕ) (d : X) → i < length xs → (rest : List ℕ) × (flat_map f (take i xs) ++ (f (get_or xs i d) ++ rest) ≡ flat_map f xs)
flat_left f xs i d lt =
    let tail = flat_map f (drop (i + 1) xs) in (
      tail,
      sym (append_assoc (flat_map f (take i xs)) (f (get_or xs i d)) tail) ∙ ap (λ z. z ++ tail) (sym (flat_next f xs i d lt)) ∙ sym (flat_map-append f (take (i + 1) xs) (drop (i + 1) xs)) ∙ ap (flat_map f) (take-append-drop (i + 1) xs),
    )

-- if writing the first part fails, so does writing all
pub first_part : (f : Fault) (old new : Option (List ℕ)) (x rest : List ℕ) → Writes (Err f) old new x → Writes (Err f) old new (x ++ rest)
first_part f old new x rest w = (w.0, w.1, w.2 ++ rest, w.3, sym (append_assoc w.1 w.2 rest) ∙ ap (λ z. z ++ rest) w.4)
