-- What a change stores for its way back.
use Rattle.std.specs.List.{filter}
use Rattle.std.specs.Prelude.{List, None, Option, Some, [], cond, length, map, nat_le, not, suc, zero, ℕ, ◌*◌, ◌+◌, ◌∷◌}
use Rattle.poly_design.specs.declared.change.Change.{Change}
use Rattle.poly_tiling.specs.Puzzle.{View, is_tiling}
use Rattle.poly_atom.specs.Guards.{guards}
use Rattle.poly_tasks.specs.Tasks.{atoms_of}
use Rattle.poly_book.specs.States.{State}
use Rattle.poly_tasks.specs.Stored.{Stored, Way}
use Rattle.poly_book.specs.declared.prepare.TheConstants.{MAX_SHELF}

abbrev pub newest : {X : Type 0} → ℕ → List X → List X
newest zero xs = []
newest (suc n) [] = []
newest (suc n) (x ∷ xs) = x ∷ newest n xs

-- what the change from the state to a view stores for its way back, if that is kept
abbrev pub shelf_of : State → View → Option Stored
shelf_of s w = cond (nat_le (length s.pending * length (guards w s.view)) MAX_SHELF)
    (Some (record { taken = filter (λ T. not (is_tiling w T)) s.listed; frozen = map (λ t. atoms_of t) s.pending })) None

-- the way back of a change from the state to a view
abbrev pub way_back : State → Change → View → Way
way_back s x w = record { change = x; made = length s.steps + 1; shelf = shelf_of s w }
