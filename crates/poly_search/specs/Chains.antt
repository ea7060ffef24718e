-- A chain of Splits: the arms of a Branch one after another, and a tree for the tilings without the arms' placements.
use Rattle.std.specs.Prelude.{◌≡◌, ℕ, ◌+◌, ◌≤◌, true, map, List, ◌++◌, length}
use Rattle.poly_atom.specs.declared.atom.Atom.{Atom}
use Rattle.poly_atom.specs.declared.atom.Atom.TheVariants.{Lacks}
use Rattle.poly_tiling.specs.Puzzle.{View}
use Rattle.poly_report.specs.Trees.{Plan, Splits, Arms, NoArms, OneArm, heads}
use Rattle.poly_report.specs.Holds.{holds}
use Rattle.poly_report.specs.Leaves.{rests}
use Rattle.poly_report.specs.Sizes.{deep, all_fewer}

abbrev pub chain : Arms → Plan → Plan
chain NoArms end = end
chain (OneArm p t arms) end = Splits p t (chain arms end)

-- the tree holds, is no deeper than `depth`, and each of its rests has fewer open placements than the atoms
pub record Serves (v : View) (A : List Atom) (depth : ℕ) (t : Plan) : Type 0 where
  pub right : holds v A t ≡ true
  pub low : deep t ≤ depth
  pub less : all_fewer v A (rests v A t) ≡ true

-- what the tree at the end of a chain must satisfy, if the arms of the chain have the placements `ps`
pub record Ends (v : View) (A : List Atom) (depth : ℕ) (ps : List ℕ) (end : Plan) : Type 0 where
  pub right : holds v (A ++ map (λ q. Lacks q) ps) end ≡ true
  pub low : deep end + length ps ≤ depth
  pub less : all_fewer v A (rests v (A ++ map (λ q. Lacks q) ps) end) ≡ true

-- with each end that satisfies `Ends`, the chain over the arms satisfies `Serves`
abbrev pub Chains : View → List Atom → ℕ → Arms → Type 0
Chains v A depth arms = (end : Plan) → Ends v A depth (heads arms) end → Serves v A depth (chain arms end)
