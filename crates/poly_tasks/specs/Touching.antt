-- Which pending tasks a change can make hopeless by their own atoms: those with an own atom that the change touches.
use Rattle.std.specs.List.{filter, list_any}
use Rattle.std.specs.Prelude.{Bool, List, MatchOption, [], false, slice_index_or, take, true, ◌∷◌, ◌≡◌, ⊤}
use Rattle.poly_design.specs.Changes.{changed}
use Rattle.poly_design.specs.declared.change.Change.{Change}
use Rattle.poly_tiling.specs.Puzzle.{View}
use Rattle.poly_place.specs.Between.{IsChangeOf}
use Rattle.poly_place.specs.declared.delta.Delta.{Delta}
use Rattle.poly_atom.specs.declared.atom.Atom.{Atom}
use Rattle.poly_atom.specs.declared.atom.Atom.TheVariants.{AtLeast, AtMost, Has, Lacks}
use Rattle.poly_atom.specs.Hopeless.{hopeless}
use Rattle.poly_atom.specs.Newly.{touched}
use Rattle.poly_tasks.specs.declared.survey.Survey.{Survey}
use Rattle.poly_tasks.specs.declared.task.Own.{Own}
use Rattle.poly_tasks.specs.declared.task.Pending.{Pending}
use Rattle.poly_tasks.specs.declared.touch.Touch.{Touch}
use Rattle.poly_tasks.specs.declared.untouched.Untouched.{Untouched}
use Rattle.poly_tasks.specs.Judged.{IsLead, IsSpoiler}
use Rattle.poly_tasks.specs.Meaning.{own_of}
use Rattle.poly_tasks.specs.Spots.{IsSpots}

-- the change `y` leads from the view `v` to the view `w`, with the differences `x`
abbrev pub IsMadeBy : View → View → Delta → Change → Type 0
IsMadeBy v w x y = (c : IsChangeOf v w x) × (c.after ≡ changed c.before y)

abbrev pub touches : Touch → Atom → Bool
touches t a = touched t.view.now t.delta.now t.item a

-- the change touches an own atom of each task whose own atoms are hopeless after it
abbrev pub AreTouched : Touch → List (List Atom) → List Pending → Type 0
AreTouched t log [] = Unit {0}
AreTouched t log (p ∷ ps) = (hopeless t.view.now (own_of log p.own) ≡ true → list_any (touches t) (own_of log p.own) ≡ true) × AreTouched t log ps

-- the atom is a Has, or the change touches it
abbrev pub matters : Touch → Atom → Bool
matters t (Has p) = true
matters t (Lacks p) = touches t (Lacks p)
matters t (AtLeast i n) = touches t (AtLeast i n)
matters t (AtMost i n) = touches t (AtMost i n)

-- the own atoms are hopeless after the change only if those that matter are
abbrev pub IsTold : Touch → List (List Atom) → Own → Type 0
IsTold t log o = hopeless t.view.now (own_of log o) ≡ true → hopeless t.view.now (filter (matters t) (own_of log o)) ≡ true

abbrev pub AreTold : Touch → List (List Atom) → List Pending → Type 0
AreTold t log [] = Unit {0}
AreTold t log (p ∷ ps) = IsTold t log p.own × AreTold t log ps

-- the change touches none of these first guards of the edition
abbrev pub AreUntouched : Touch → List (List Atom) → Untouched → Type 0
AreUntouched t log u = list_any (λ a. touches t a) (take u.count (slice_index_or log u.edition [])) ≡ false

-- what is known before a task is judged: the first guards of an edition that the change doesn't touch, a guard that is hopeless
-- alone, where the log lacks some placements, and the `Lacks` that the guards of an edition begin with
pub record IsSurvey (t : Touch) (log : List (List Atom)) (s : Survey) : Type 0 where
  pub untouched : AreUntouched t log s.untouched
  pub spoiler : MatchOption s.spoiler ⊤ (λ g. IsSpoiler t.view.now log g)
  pub spots : IsSpots log s.spots
  pub lead : IsLead log s.lead
