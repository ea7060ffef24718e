-- The placements that the numbers of a tiling name, collected one after another.
use Rattle.std.proofs.Common.{◌≡◌, ◌+◌, ◌<◌, ◌≤◌, ◌++◌, ◌∷◌, [], ℕ, List, None, Some, refl, sym, ◌∙◌, ap, arith, take, drop, length, get_or, slice_get, append-nil}
use Rattle.std.proofs.lemmas.List.{take_more, take-append-drop}
use Rattle.std.proofs.lemmas.List.Elements.{filter_map-append}
use Rattle.std.proofs.lemmas.List.Sums.{sum_by-append}
use Rattle.poly_design.specs.declared.placement.Placement.{Placement}
use Rattle.poly_tiling.specs.Puzzle.{View}
use Rattle.poly_tiling.specs.Shows.{names}
use Rattle.poly_text.specs.Replies.{covered}

pub covered_append : (ps qs : List Placement) → covered (ps ++ qs) ≡ covered ps + covered qs
covered_append ps qs = sum_by-append (λ p. length p.cells) ps qs

named_append : (v : View) (S T : List ℕ) → names v (S ++ T) ≡ names v S ++ names v T
named_append v S T = filter_map-append (λ n. slice_get v.placements n) S T

up_to : (T : List ℕ) (i n : ℕ) → i < length T → n ≡ get_or T i 0 → take (i + 1) T ≡ take i T ++ n ∷ []
up_to T i n lt is = take_more T i 0 lt ∙ ap (λ m. take i T ++ m ∷ []) (sym is)

named_one : (v : View) (n : ℕ) (p : Placement) → slice_get v.placements n ≡ Some p → names v (n ∷ []) ≡ p ∷ []
named_one v n p e = rw e refl

named_none : (v : View) (n : ℕ) → slice_get v.placements n ≡ None → names v (n ∷ []) ≡ []
named_none v n e = rw e refl

-- if the next number names a placement, that placement is collected
pub names_more : (v : View) (T : List ℕ) (i n : ℕ) (p : Placement) → i < length T → n ≡ get_or T i 0 → slice_get v.placements n ≡ Some p → names v (take (i + 1) T) ≡ names v (take i T) ++ p ∷ []
names_more v T i n p lt is e = ap (names v) (up_to T i n lt is) ∙ named_append v (take i T) (n ∷ []) ∙ ap (λ z. names v (take i T) ++ z) (named_one v n p e)

-- if the next number names nothing, nothing is collected
pub names_same : (v : View) (T : List ℕ) (i n : ℕ) → i < length T → n ≡ get_or T i 0 → slice_get v.placements n ≡ None → names v (take (i + 1) T) ≡ names v (take i T)
names_same v T i n lt is e = ap (names v) (up_to T i n lt is) ∙ named_append v (take i T) (n ∷ []) ∙ ap (λ z. names v (take i T) ++ z) (named_none v n e) ∙ append-nil (names v (take i T))

-- the placements collected so far and the next one have at most as many cells as all placements that the numbers name
pub names_short : (v : View) (T : List ℕ) (i n : ℕ) (p : Placement) → i < length T → n ≡ get_or T i 0 → slice_get v.placements n ≡ Some p → covered (names v (take i T)) + length p.cells ≤ covered (names v T)
names_short v T i n p lt is e =
    let whole : names v T ≡ (names v (take i T) ++ p ∷ []) ++ names v (drop (i + 1) T)
    = ap (names v) (sym (take-append-drop (i + 1) T)) ∙ named_append v (take (i + 1) T) (drop (i + 1) T) ∙ ap (λ z. z ++ names v (drop (i + 1) T)) (names_more v T i n p lt is e) in
    omega (arith, ap covered whole, covered_append (names v (take i T) ++ p ∷ []) (names v (drop (i + 1) T)), covered_append (names v (take i T)) (p ∷ []))
