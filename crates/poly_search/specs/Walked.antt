-- A walk over the options of an item, and what it returns.
use Rattle.std.specs.Prelude.{◌≡◌, ℕ, ◌+◌, ◌++◌, ◌-◌, ◌<◌, ◌≤◌, ◌∷◌, Bool, List, [], cond, drop, length, map, nat_lt, take, true}
use Rattle.poly_atom.specs.declared.atom.Atom.{Atom}
use Rattle.poly_atom.specs.declared.atom.Atom.TheVariants.{Lacks}
use Rattle.poly_report.specs.Trees.{Arms, heads}
use Rattle.poly_report.specs.Sizes.{arms_total}
use Rattle.poly_frame.specs.Walk.{Walk, backtrack_to}
use Rattle.poly_search.specs.Chains.{Chains}
use Rattle.poly_search.specs.Grows.{ArmsGrow, Stand}

-- the walk after some placements are left out
abbrev pub past : Walk → List ℕ → Walk
past w ps = record w { atoms = w.atoms ++ map (λ q. Lacks q) ps }

-- The first `n` options were walked, and these are their arms; if there are more options, the walk now leaves out the first
-- `n`. `held` nodes that aren't Rest are held back for a chain over the arms, if the walk may stop early.
pub record Walks (w now : Walk) (depth kept : ℕ) (chained : Bool) (options : List ℕ) (old new : Stand) (held n : ℕ) (arms : Arms) : Type 0 where
  pub path : n < length options → now ≡ past w (take n options)
  pub front : backtrack_to now (length w.atoms) ≡ w
  pub names : heads arms ≡ take n options
  pub grows : ArmsGrow w (depth - 1) old (record new { inner = new.inner + held }) arms
  pub counted : n ≤ arms_total arms
  pub room : kept + length options ≤ new.nodes + n
  pub linked : chained ≡ true → Chains w.scene w.atoms depth arms
  pub short : chained ≡ true → length options + 2 ≤ depth
  pub few : held ≤ n

-- what is true of a walk that stopped early: there is an arm, and a chain over the arms fits into the budget and the depth
pub record CanChain (w : Walk) (depth kept nodes held n : ℕ) (arms : Arms) : Type 0 where
  pub some : 1 ≤ n
  pub paid : n ≤ held + 1
  pub room : kept + n ≤ nodes
  pub shallow : n < depth
  pub linked : Chains w.scene w.atoms depth arms

-- the path of the rest for the options that weren't walked, if there are any: the tilings that have none of the first `n`
abbrev pub left_over : Walk → List ℕ → ℕ → List (List Atom)
left_over w options n = cond (nat_lt n (length options)) (drop w.given (past w (take n options)).atoms ∷ []) []

-- The walk ended after `n` options, and these are their arms. The leaves of the arms are added, then the rest for the options
-- that weren't walked.
pub record Walked (w : Walk) (depth kept : ℕ) (options : List ℕ) (old new : Stand) (held n : ℕ) (arms : Arms) : Type 0 where
  pub left : List (List Atom)
  pub few : n ≤ length options
  pub names : heads arms ≡ take n options
  pub grows : ArmsGrow w (depth - 1) old (record new { inner = new.inner + held; left = left }) arms
  pub rest : new.left ≡ left ++ left_over w options n
  pub room : kept + length options ≤ new.nodes + n
  pub early : n < length options → CanChain w depth kept new.nodes held n arms
