-- What a change stores for its way back.
use Rattle.std.specs.Prelude.{List, Option, ℕ}
use Rattle.poly_design.specs.declared.change.Change.{Change}
use Rattle.poly_atom.specs.declared.atom.Atom.{Atom}

-- what a change stores: the listed tilings that it takes away, and the atoms of the tasks that were pending
pub record Stored : Type 0 where
  pub taken : List (List ℕ)
  pub frozen : List (List Atom)

-- a change that can be undone or redone, the number of the step that put it among these, and what that step stored, if that
-- was kept
pub record Way : Type 0 where
  pub change : Change
  pub made : ℕ
  pub shelf : Option Stored
