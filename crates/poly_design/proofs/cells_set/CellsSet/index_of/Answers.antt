use Rattle.std.proofs.Common.{◌≡◌, List, Result, Ok, Err, ℕ, length}
use Rattle.std.specs.Prelude.{IfOk, IfErr}
use Rattle.std.specs.List.{HoldsAt}
use Rattle.std.specs.declared.cmp.Ordering.TheVariants.{Equal}
use Rattle.std.specs.List.Sorted.{IsSearchInRange, IsBinarySearchResult}
use Rattle.poly_grid.specs.Spot.{Spot}
use Rattle.poly_shape.specs.Order.{IsAscending, cells_cmp, cells_total}
use Rattle.poly_shape.proofs.Ascending.{searchable, same_cells}
use Rattle.poly_design.specs.Listed.{HasAt, IsGapFor}
use Rattle.poly_design.proofs.cells_set.CellsSet.index_of.Goals as goal

found : (list : List (List Spot)) (cells : List Spot) (r : Result ℕ ℕ) → IsSearchInRange r (length list) → IfOk r (HoldsAt (λ y. cells_cmp y cells ≡ Equal) list) → IfOk r (λ at. HasAt list at cells)
found list cells (Ok at) within here = record { within = within; is = λ d. same_cells _ _ (here d) }
found list cells (Err at) within here = tt

gap : (list : List (List Spot)) (cells : List Spot) (r : Result ℕ ℕ) → IsAscending cells_cmp list → IsSearchInRange r (length list) → IsBinarySearchResult (λ y. cells_cmp y cells) list r → IfErr r (λ at. IsGapFor cells_cmp cells list at)
gap list cells (Ok at) up within position = tt
gap list cells (Err at) up within position = let parts = position (searchable cells_total list cells up) in record { within = within; below = parts.0; above = parts.1 }

pub returns : goal.returns
returns c =
    let position = rw c.deref.ensures.value at c.binary_search.ensures.position in
    let bound = rw c.deref.ensures.value at c.binary_search.ensures.bound in
    let here = rw c.deref.ensures.value at c.binary_search.ensures.ok in
    rw (← c.self.view_is) (record {
      found = found c.self.inside.list.items c.args.cells.now _ bound here;
      gap = gap c.self.inside.list.items c.args.cells.now _ c.self.invariant bound position;
      ascending = c.self.invariant;
    })
