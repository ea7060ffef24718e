-- What is proved of trees.
use Rattle.std.specs.List.{list_all}
use Rattle.std.specs.Prelude.{List, true, ℕ, ◌++◌, ◌+◌, ◌≡◌}
use Rattle.poly_tiling.specs.Lists.{one, same_list, tally}
use Rattle.poly_tiling.specs.Puzzle.{View, is_tiling}
use Rattle.poly_tiling.specs.Names.{Names, WellNamed}
use Rattle.poly_atom.specs.declared.atom.Atom.{Atom}
use Rattle.poly_atom.specs.Atoms.{in_family, meets_all}
use Rattle.poly_atom.specs.Guards.{guards}
use Rattle.poly_report.specs.Trees.{Plan}
use Rattle.poly_report.specs.Holds.{holds}
use Rattle.poly_report.specs.Leaves.{rests, tilings}
use Rattle.poly_report.specs.Opened.{as_hopeless, opened}

-- If a tree holds, each tiling of its family is either listed by the tree exactly once or in the family of exactly one
-- rest, never both. A tiling of the design outside the family is neither listed nor in the family of a rest.
abbrev pub TreesShareOut : Type 0
TreesShareOut = (v : View) (A : List Atom) (t : Plan) (T : List ℕ) → is_tiling v T ≡ true → holds v A t ≡ true →
    tally (λ U. same_list U T) (tilings v A t) + tally (λ B. meets_all v T B) (rests v A t) ≡ one (meets_all v T A)

-- The tilings of a tree are members of its family.
abbrev pub TreeTilingsBelong : Type 0
TreeTilingsBelong = (v : View) (A : List Atom) (t : Plan) → list_all (λ T. in_family v A T) (tilings v A t) ≡ true

-- A tree that holds for some atoms holds, after a change of the design, for these atoms followed by the guards of the change.
abbrev pub TreesKeepHolding : Type 0
TreesKeepHolding = (old new : View) (A : List Atom) (t : Plan) → WellNamed old → WellNamed new → Names old new → holds old A t ≡ true →
    holds new (A ++ guards old new) t ≡ true

-- If a tree takes and leaves only open placements of the design, each of its rests is hopeless exactly if the atoms are.
abbrev pub OpenPathsAddNothingHopeless : Type 0
OpenPathsAddNothingHopeless = (v : View) (A : List Atom) (t : Plan) → opened v A t ≡ true → as_hopeless v A (rests v A t) ≡ true
