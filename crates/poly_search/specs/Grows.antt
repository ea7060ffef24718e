-- What the growth of a tree adds: the nodes of the tree, and its leaves.
use Rattle.std.specs.Prelude.{◌≡◌, ℕ, ◌+◌, ◌++◌, ◌≤◌, List, [], true}
use Rattle.poly_atom.specs.declared.atom.Atom.{Atom}
use Rattle.poly_report.specs.Trees.{Arms, NoArms, OneArm, Plan}
use Rattle.poly_report.specs.Leaves.{arms_tilings, tilings}
use Rattle.poly_report.specs.Opened.{arms_opened, opened}
use Rattle.poly_report.specs.Paths.{arms_paths, paths}
use Rattle.poly_report.specs.Sizes.{ArmsGrown, Grown, arms_inner, arms_total, inner, total}
use Rattle.poly_frame.specs.Walk.{Walk}
use Rattle.poly_search.specs.declared.growth.Growth.{Growth}

-- how many nodes may still be made, how many of them that aren't Rest, and the leaves so far: the tilings, and the paths of the
-- rests
pub record Stand : Type 0 where
  pub nodes : ℕ
  pub inner : ℕ
  pub found : List (List ℕ)
  pub left : List (List Atom)

abbrev pub stand_of : Growth → Stand
stand_of g = record { nodes = g.nodes; inner = g.inner; found = g.gathered.tilings.items; left = g.gathered.paths }

-- the plan is grown for the atoms of the walk, on open placements alone; its nodes are used up, and its leaves are added
pub record Grows (w : Walk) (depth : ℕ) (old new : Stand) (t : Plan) : Type 0 where
  pub grown : Grown w.scene w.atoms depth t
  pub opened : opened w.scene w.atoms t ≡ true
  pub nodes : new.nodes + total t ≡ old.nodes
  pub inner : new.inner + inner t ≤ old.inner
  pub tilings : new.found ≡ old.found ++ tilings w.scene w.atoms t
  pub paths : new.left ≡ old.left ++ paths w.given w.scene w.atoms t

-- one more arm at the end
abbrev pub snoc : Arms → ℕ → Plan → Arms
snoc NoArms p t = OneArm p t NoArms
snoc (OneArm q u arms) p t = OneArm q u (snoc arms p t)

-- the same of the arms of a Branch
pub record ArmsGrow (w : Walk) (depth : ℕ) (old new : Stand) (arms : Arms) : Type 0 where
  pub grown : ArmsGrown w.scene w.atoms depth arms
  pub opened : arms_opened w.scene w.atoms [] arms ≡ true
  pub nodes : new.nodes + arms_total arms ≡ old.nodes
  pub inner : new.inner + arms_inner arms ≤ old.inner
  pub tilings : new.found ≡ old.found ++ arms_tilings w.scene w.atoms [] arms
  pub paths : new.left ≡ old.left ++ arms_paths w.given w.scene w.atoms [] arms
