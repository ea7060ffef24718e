-- How long the parts of a reply line are, and how the text of cells grows.
use Rattle.std.proofs.Common.{◌≡◌, ℕ, zero, suc, ◌+◌, ◌^◌, ◌<◌, ◌≤◌, List, [], ◌∷◌, ◌++◌, length, take, get_or, sym, ap, ◌∙◌, arith, append_assoc, append-nil}
use Rattle.std.specs.Fmt.{decimal}
use Rattle.std.specs.List.{flat_map, fold}
use Rattle.std.proofs.lemmas.Fmt.{length-decimal-le}
use Rattle.std.proofs.lemmas.List.{take_more}
use Rattle.std.proofs.lemmas.List.Concat.{flat_map-append}
use Rattle.poly_grid.specs.Spot.{Spot}
use Rattle.poly_design.specs.declared.placement.Placement.{Placement}
use Rattle.poly_text.specs.Replies.{cell_text, cells_text, covered}

pub number_short : (n : ℕ) → n < 2 ^ 64 → length (decimal n) ≤ 20
number_short n lt = let below : n < 10 ^ 20 = omega (arith, lt) in search (length-decimal-le, below, lt, arith)

pub coordinate_short : (n : ℕ) → n < 64 → length (decimal n) ≤ 2
coordinate_short n lt = let below : n < 10 ^ 2 = omega (arith, lt) in let fits : n < 2 ^ 64 = omega (arith, lt) in search (length-decimal-le, below, fits, arith)

join_more : (first : Spot) (cells : List Spot) (c : Spot) → cells_text ((first ∷ cells) ++ c ∷ []) ≡ cells_text (first ∷ cells) ++ 47 ∷ cell_text c
join_more first cells c = ap (λ z. cell_text first ++ z) (flat_map-append (λ d. 47 ∷ cell_text d) cells (c ∷ []) ∙ ap (λ z. flat_map (λ d. 47 ∷ cell_text d) cells ++ z) (append-nil (47 ∷ cell_text c))) ∙ sym (append_assoc (cell_text first) (flat_map (λ d. 47 ∷ cell_text d) cells) (47 ∷ cell_text c))

-- the text of the first cell alone is its `cell_text`
pub cells_first : (cells : List Spot) (c : Spot) → 0 < length cells → c ≡ get_or cells 0 c → cells_text (take 1 cells) ≡ cell_text c
cells_first [] c lt is = absurd (omega (arith, lt))
cells_first (d ∷ cells) c lt is = append-nil (cell_text d) ∙ ap cell_text (sym is)

next_of : (i : ℕ) (cells : List Spot) (c : Spot) → 0 < i → 0 < length cells → cells_text (take i cells ++ c ∷ []) ≡ cells_text (take i cells) ++ 47 ∷ cell_text c
next_of zero cells c above some = absurd (omega (arith, above))
next_of (suc i) [] c above some = absurd (omega (arith, some))
next_of (suc i) (d ∷ cells) c above some = join_more d (take i cells) c

-- each further cell adds a slash and its `cell_text`
pub cells_next : (i : ℕ) (cells : List Spot) (c : Spot) → 0 < i → i < length cells → c ≡ get_or cells i c → cells_text (take (i + 1) cells) ≡ cells_text (take i cells) ++ 47 ∷ cell_text c
cells_next i cells c above lt is =
    let more : take (i + 1) cells ≡ take i cells ++ c ∷ [] = take_more cells i c lt ∙ ap (λ z. take i cells ++ z ∷ []) (sym is) in
    rw more (next_of i cells c above (omega arith))

counted_from : (ps : List Placement) (n : ℕ) → fold (λ a p. a + length p.cells) n ps ≡ n + fold (λ a p. a + length p.cells) 0 ps
counted_from [] n = omega arith
counted_from (p ∷ ps) n = omega (arith, counted_from ps (n + length p.cells), counted_from ps (0 + length p.cells))

-- a placement and the placements before it have together at most as many cells as all placements have
pub covered_at : (i : ℕ) (ps : List Placement) (p : Placement) → i < length ps → p ≡ get_or ps i p → covered (take i ps) + length p.cells ≤ covered ps
covered_at i [] p lt is = absurd (omega (arith, lt))
covered_at zero (q ∷ ps) p lt is = rw is (omega (arith, counted_from ps (0 + length q.cells)))
covered_at (suc i) (q ∷ ps) p lt is = omega (arith, counted_from ps (0 + length q.cells), counted_from (take i ps) (0 + length q.cells), covered_at i ps p (omega (arith, lt)) is)

pub text_first : (i : ℕ) (cells : List Spot) (c : Spot) (old so_far mid new : List ℕ) → i ≡ 0 → i < length cells → c ≡ get_or cells i c
    → so_far ≡ old ++ cells_text (take i cells) → mid ≡ so_far → new ≡ mid ++ cell_text c → new ≡ old ++ cells_text (take (i + 1) cells)
text_first (suc i) cells c old so_far mid new zeroth lt is before same after = absurd (omega (arith, zeroth))
text_first zero cells c old so_far mid new zeroth lt is before same after =
    after ∙ ap (λ z. z ++ cell_text c) (same ∙ before ∙ append-nil old) ∙ ap (λ z. old ++ z) (sym (cells_first cells c lt is))

pub text_next : (i : ℕ) (cells : List Spot) (c : Spot) (old so_far mid new : List ℕ) → 0 < i → i < length cells → c ≡ get_or cells i c
    → so_far ≡ old ++ cells_text (take i cells) → mid ≡ so_far ++ 47 ∷ [] → new ≡ mid ++ cell_text c → new ≡ old ++ cells_text (take (i + 1) cells)
text_next i cells c old so_far mid new above lt is before same after =
    after ∙ ap (λ z. z ++ cell_text c) (same ∙ ap (λ z. z ++ 47 ∷ []) before) ∙ append_assoc (old ++ cells_text (take i cells)) (47 ∷ []) (cell_text c) ∙ append_assoc old (cells_text (take i cells)) (47 ∷ cell_text c)
    ∙ ap (λ z. old ++ z) (sym (cells_next i cells c above lt is))
