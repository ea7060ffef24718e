use Rattle.std.proofs.Common.{◌≡◌, ℕ, ◌+◌, ◌<◌, List, [], ◌∷◌, ◌++◌, length, get_or, take, fold, ap, sym, ◌∙◌, arith}
use Rattle.std.proofs.lemmas.List.{take_more, take_all, flat_map_more}
use Rattle.std.proofs.lemmas.List.Sums.{fold-append}
use Rattle.std.specs.List.{flat_map}
use Rattle.poly_grid.specs.Spot.{Spot}
use Rattle.poly_shape.specs.Order.{spot_writes}
use Rattle.poly_shape.proofs.cells.CellsHash.hash.Goals as goal

written_more : {S : Type 0} (write : S → List ℕ → S) (s : S) (xs : List Spot) (i : ℕ) (a : Spot) → i < length xs → a ≡ get_or xs i a
    → write (write (fold write s (flat_map spot_writes (take i xs))) (a.y ∷ [])) (a.x ∷ []) ≡ fold write s (flat_map spot_writes (take (i + 1) xs))
written_more write s xs i a lt is =
    let front : take (i + 1) xs ≡ take i xs ++ a ∷ [] = take_more xs i a lt ∙ ap (λ v. take i xs ++ v ∷ []) (sym is) in
    let writes : flat_map spot_writes (take i xs) ++ spot_writes a ≡ flat_map spot_writes (take i xs ++ a ∷ []) = flat_map_more spot_writes [] (take i xs) a in
    sym (fold-append write s (flat_map spot_writes (take i xs)) (spot_writes a)) ∙ ap (fold write s) (writes ∙ ap (flat_map spot_writes) (sym front))

pub loop-cell-preserved : goal.loop-cell-preserved
loop-cell-preserved g c =
    let more = written_more g.H.Hasher.write c.write_usize.new.self c.as_slice-cells.result.now c.loop-cell.cell-index c.cell-item.result c.loop-cell-test.true c.cell-item.is in
    let row = c.y.ensures.value in
    let column = c.x.ensures.value in
    cc

pub returns : goal.returns
returns g c =
    let end : c.loop-cell.cell-index ≡ length c.as_slice-cells.result.now = omega arith in
    let whole = take_all c.loop-cell.cell-index c.as_slice-cells.result.now (omega arith) in
    let same = c.as_slice-cells.ensures.value in
    cc
