-- What a look ahead finds.
use Rattle.std.specs.Prelude.{List, [], length, not, true, ℕ, ◌&&◌, ◌*◌, ◌++◌, ◌+◌, ◌-◌, ◌<◌, ◌∷◌, ◌≡◌}
use Rattle.std.specs.List.{list_any}
use Rattle.poly_tiling.specs.Lists.{mem}
use Rattle.poly_atom.specs.declared.atom.Atom.TheVariants.{Has}
use Rattle.poly_frame.specs.Bits.{has_bit}
use Rattle.poly_frame.specs.FrameSteps.{HasRoom, StepsKeep}
use Rattle.poly_frame.specs.Matrices.{bit_index, column_items}
use Rattle.poly_frame.specs.Open.{arms_fit, open_in}
use Rattle.poly_frame.specs.declared.frame.ahead.Attempt.{Attempt}
use Rattle.poly_frame.specs.declared.frame.ahead.Attempt.TheVariants.{Starved, Taken, Unknown}
use Rattle.poly_frame.specs.declared.frame.matrix.Matrix.{Matrix}
use Rattle.poly_frame.specs.declared.frame.node.Node.{Node}
use Rattle.poly_frame.specs.declared.frame.steps.Steps.{Steps}

-- the row has the bits of the last row of `live`, without those of the columns that share an item with column j
abbrev pub RowWithout : Matrix → List ℕ → ℕ → List ℕ → Type 0
RowWithout m live j row = (x : ℕ) → x < 64 * m.width → has_bit row x ≡ (has_bit live (64 * (length live - m.width) + x) && not (list_any (λ c. has_bit m.rows.items (bit_index m.width c x)) (column_items m.lists m.homes.items j)))

-- what became of the steps and the placement
abbrev pub AttemptShows : Node → ℕ → Steps → Steps → Attempt → Type 0
AttemptShows n p s s2 Unknown = s2 ≡ s
AttemptShows n p s s2 (Starved i) = (s2 ≡ s) × (arms_fit n.view.now (n.trail.now ++ Has p ∷ []) i [] ≡ true)
AttemptShows n p s s2 Taken = (mem n.view.now.live p ≡ true) × (open_in n.view.now n.trail.now p ≡ true) × StepsKeep n.view.now (n.trail.now ++ Has p ∷ []) n.base n.matrix.now n.table.now s2 × HasRoom n.matrix.now s2
