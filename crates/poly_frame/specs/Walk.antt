-- What contracts see of a frame: a view, and the atoms on the trail.
use Rattle.std.specs.Prelude.{ℕ, Bool, ◌&&◌, List, [], ◌∷◌, ◌++◌, take, nat_lt, length, ◌-◌}
use Rattle.poly_tiling.specs.declared.item.Item.{Item}
use Rattle.poly_atom.specs.declared.atom.Atom.{Atom}
use Rattle.poly_tiling.specs.Lists.{tally}
use Rattle.poly_tiling.specs.Puzzle.{View, has_item, count}
use Rattle.poly_atom.specs.Hopeless.{base}
use Rattle.poly_frame.specs.Open.{least_at, open_in}

-- of the atoms, the first `given` are those that the frame began with, and the others are the steps that were not undone
pub record Walk : Type 0 where
  pub scene : View
  pub atoms : List Atom
  pub given : ℕ

abbrev pub with_step : Walk → Atom → Walk
with_step w a = record w { atoms = w.atoms ++ a ∷ [] }

abbrev pub backtrack_to : Walk → ℕ → Walk
backtrack_to w n = record w { atoms = take n w.atoms }

-- the last step is undone
abbrev pub step_back : Walk → Walk
step_back w = backtrack_to w (length w.atoms - 1)

-- an item that the base doesn't cover often enough
abbrev pub is_due : Walk → Item → Bool
is_due w i = nat_lt (count w.scene (base w.scene w.atoms) i) (least_at w.scene w.atoms i)

abbrev pub is_open : Walk → ℕ → Bool
is_open w p = open_in w.scene w.atoms p

-- an open placement that has the item
abbrev pub is_option : Walk → Item → ℕ → Bool
is_option w i p = is_open w p && has_item w.scene p i

-- how many placements of the design are open
abbrev pub open_count : View → List Atom → ℕ
open_count v A = tally (λ p. open_in v A p) v.live
