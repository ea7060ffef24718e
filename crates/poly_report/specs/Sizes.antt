-- How large a tree is, and trees whose rests have fewer open placements than the atoms that the trees are for.
use Rattle.std.specs.Prelude.{ℕ, ◌+◌, ◌≡◌, ◌≤◌, Bool, true, false, ◌&&◌, ◌||◌, max, nat_lt, nat_le, List, []}
use Rattle.std.specs.List.{list_all}
use Rattle.poly_atom.specs.declared.atom.Atom.{Atom}
use Rattle.poly_tiling.specs.Puzzle.{View}
use Rattle.poly_report.specs.Trees.{Plan, Rests, Finds, Branches, Splits, Arms, NoArms, OneArm}
use Rattle.poly_report.specs.Holds.{holds, arms_hold}
use Rattle.poly_report.specs.Leaves.{rests, arms_rests}
use Rattle.poly_report.specs.declared.size.TheConstants.{DEPTH, NODES}
use Rattle.poly_frame.specs.Walk.{open_count}

abbrev mutual
  pub total : Plan → ℕ
  total Rests = 1
  total Finds = 1
  total (Branches i arms) = arms_total arms + 1
  total (Splits q taken left) = total taken + total left + 1

  pub arms_total : Arms → ℕ
  arms_total NoArms = 0
  arms_total (OneArm p t arms) = total t + arms_total arms

-- how many nodes aren't Rest
abbrev mutual
  pub inner : Plan → ℕ
  inner Rests = 0
  inner Finds = 1
  inner (Branches i arms) = arms_inner arms + 1
  inner (Splits q taken left) = inner taken + inner left + 1

  pub arms_inner : Arms → ℕ
  arms_inner NoArms = 0
  arms_inner (OneArm p t arms) = inner t + arms_inner arms

-- the depth of a tree; a tree of one node has depth 1
abbrev mutual
  pub deep : Plan → ℕ
  deep Rests = 1
  deep Finds = 1
  deep (Branches i arms) = arms_deep arms + 1
  deep (Splits q taken left) = max (deep taken) (deep left) + 1

  pub arms_deep : Arms → ℕ
  arms_deep NoArms = 0
  arms_deep (OneArm p t arms) = max (deep t) (arms_deep arms)

abbrev pub is_rest : Plan → Bool
is_rest Rests = true
is_rest Finds = false
is_rest (Branches i arms) = false
is_rest (Splits q taken left) = false

-- with each of the lists of atoms, fewer placements of the design are open than with `A`
abbrev pub all_fewer : View → List Atom → List (List Atom) → Bool
all_fewer v A Bs = list_all (λ B. nat_lt (open_count v B) (open_count v A)) Bs

-- a tree grown for the atoms: it holds, is no deeper than `depth`, and is Rest or has only rests with fewer open placements
pub record Grown (v : View) (A : List Atom) (depth : ℕ) (t : Plan) : Type 0 where
  pub right : holds v A t ≡ true
  pub low : deep t ≤ depth
  pub less : (is_rest t || all_fewer v A (rests v A t)) ≡ true

-- arms grown for the atoms: their trees hold and are no deeper than `depth`, and all their rests have fewer open placements
pub record ArmsGrown (v : View) (A : List Atom) (depth : ℕ) (arms : Arms) : Type 0 where
  pub right : arms_hold v A [] arms ≡ true
  pub low : arms_deep arms ≤ depth
  pub less : all_fewer v A (arms_rests v A [] arms) ≡ true

abbrev pub fits : Plan → Bool
fits t = nat_le (total t) NODES && nat_le (deep t) DEPTH
