-- What a walk over a tree gathers on its way.
use Rattle.std.specs.Prelude.{Bool, List, Vec, [], cond, map, true, ℕ, ◌++◌, ◌||◌, ◌∷◌, ◌≡◌}
use Rattle.std.specs.Global.{Global}
use Rattle.poly_tiling.specs.Puzzle.{View}
use Rattle.poly_atom.specs.declared.atom.Atom.{Atom}
use Rattle.poly_atom.specs.declared.atom.Atom.TheVariants.{Has}
use Rattle.poly_report.specs.Trees.{Plan}
use Rattle.poly_frame.specs.Open.{dead}
use Rattle.poly_report.specs.Holds.{holds}
use Rattle.poly_report.specs.Leaves.{rests, tilings}
use Rattle.poly_report.specs.Paths.{paths}

-- vectors as lists
abbrev pub lists : {X : Type 0} → List (Vec X Global) → List (List X)
lists xs = map (λ v. v.items) xs

-- whether a tree holds once a placement is taken, and the leaves that the tree then has; under a dead placement, any tree
-- counts as one that holds and has no leaves
abbrev pub taken_holds : View → List Atom → ℕ → Plan → Bool
taken_holds v A p t = dead v A p || holds v (A ++ Has p ∷ []) t

abbrev pub taken_tilings : View → List Atom → ℕ → Plan → List (List ℕ)
taken_tilings v A p t = cond (dead v A p) [] (tilings v (A ++ Has p ∷ []) t)

abbrev pub taken_paths : ℕ → View → List Atom → ℕ → Plan → List (List Atom)
taken_paths g v A p t = cond (dead v A p) [] (paths g v (A ++ Has p ∷ []) t)

-- the leaves of a tree that holds
pub record IsCutUp (v : View) (A : List Atom) (t : Plan) (found : List (List ℕ)) (left : List (List Atom)) : Type 0 where
  pub right : holds v A t ≡ true
  pub tilings : found ≡ tilings v A t
  pub rests : left ≡ rests v A t
