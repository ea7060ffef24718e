-- Which tasks the maps have noted under which atoms.
use Rattle.std.specs.Arc.{arc_value}
use Rattle.std.specs.BTreeMap.{is_at}
use Rattle.std.specs.List.{list_all, list_any}
use Rattle.std.specs.Map.{lookup}
use Rattle.std.specs.Option.{unwrap_or}
use Rattle.std.specs.Ordering.{nat_cmp}
use Rattle.std.specs.Prelude.{Bool, List, [], length, nat_le, nat_lt, slice_index_or, take, true, ℕ, ◌&&◌, ◌*◌, ◌+◌, ◌-◌, ◌==◌, ◌||◌, ◌≡◌, ◌≤◌}
use Rattle.poly_tiling.specs.declared.item.Item.{Item}
use Rattle.poly_tiling.specs.declared.item.Item.TheVariants.{Cell, Piece}
use Rattle.poly_atom.specs.declared.atom.Atom.{Atom}
use Rattle.poly_atom.specs.declared.atom.Atom.TheVariants.{AtLeast, AtMost, Has, Lacks}
use Rattle.poly_tasks.specs.declared.maps.TheConstants.{FIRST_NAME}
use Rattle.poly_tasks.specs.declared.maps.NotedBase.{NotedBase}
use Rattle.poly_tasks.specs.declared.maps.Maps.{Maps}
use Rattle.poly_tasks.specs.declared.maps.Prefix.{Prefix}
use Rattle.poly_tasks.specs.declared.maps.Run.{Run}
use Rattle.poly_tasks.specs.declared.maps.Runs.{Runs}
use Rattle.poly_tasks.specs.declared.placed.PlacedRow.{PlacedRow}
use Rattle.poly_tasks.specs.declared.rows.Span.{Span}
use Rattle.poly_tasks.specs.declared.task.Own.{Own}
use Rattle.poly_tasks.specs.declared.task.Own.TheVariants.{Crossed, Listed, Stair as OfStair}
use Rattle.poly_tasks.specs.declared.task.Pending.{Pending}
use Rattle.poly_tasks.specs.Meaning.{base_of, own_of}
use Rattle.poly_grid.specs.declared.cell.TheConstants.{SIDE}

abbrev pub key_of_name : List ℕ → ℕ
key_of_name n = FIRST_NAME + slice_index_or n (length n - 1) 0

-- the key of an item; pieces whose names end with the same byte share one
abbrev pub key_of : Item → ℕ
key_of (Cell c) = c.y * SIDE + c.x
key_of (Piece n) = key_of_name n

abbrev pub in_span : Span → ℕ → Bool
in_span s n = nat_le s.from n && nat_le n s.to

-- the rows by their keys, as the entries of a map
abbrev pub Rows : Type 0
Rows = List (ℕ × List Span)

-- the row that `get` finds for the key, or an empty one if there is none
abbrev pub row_at : Rows → ℕ → List Span
row_at rows k = unwrap_or (lookup (is_at (nat_cmp k)) rows) []

-- the row of the key has the number
abbrev pub spanned : Rows → ℕ → ℕ → Bool
spanned rows k n = list_any (λ s. in_span s n) (row_at rows k)

abbrev pub AreWider : Rows → Rows → Type 0
AreWider old new = (k n : ℕ) → spanned old k n ≡ true → spanned new k n ≡ true

-- the row has the placement and the number
abbrev pub is_placed : ℕ → ℕ → PlacedRow → Bool
is_placed p n r = (r.placement == p) && list_any (λ s. in_span s n) r.row

-- a row of the placement has the number
abbrev pub placed : List PlacedRow → ℕ → ℕ → Bool
placed rows p n = list_any (λ r. is_placed p n r) rows

abbrev pub ArePlacedWider : List PlacedRow → List PlacedRow → Type 0
ArePlacedWider old new = (p n : ℕ) → placed old p n ≡ true → placed new p n ≡ true

-- the task with the number is noted under the atom; each task counts as noted under each `Lacks`
abbrev pub under : Maps → Atom → ℕ → Bool
under m (Has p) n = placed m.has.rows.items p n
under m (Lacks p) n = true
under m (AtLeast i k) n = spanned m.at_least.entries (key_of i) n
under m (AtMost i k) n = spanned m.at_most.entries (key_of i) n

-- what is noted in the first maps is noted in the second
abbrev pub IsWider : Maps → Maps → Type 0
IsWider old new = (a : Atom) (n : ℕ) → under old a n ≡ true → under new a n ≡ true

-- the atoms of the base that the own atoms begin with, if there is one
abbrev pub below : List (List Atom) → Own → List Atom
below log (Listed v i) = []
below log (OfStair s) = []
below log (Crossed b s) = base_of log (arc_value b)

-- each of the base's atoms is noted for all tasks of the span
abbrev pub IsNotedBase : Maps → NotedBase → Type 0
IsNotedBase m b = (n : ℕ) → in_span b.span n ≡ true → list_all (λ a. under m a n) b.others.items ≡ true

-- each task is noted under each of its own atoms
abbrev pub AreNoted : Maps → List (List Atom) → List Pending → Type 0
AreNoted m log ps = list_all (λ p. list_all (λ a. under m a p.number) (own_of log p.own)) ps ≡ true

-- each task whose number is below b is noted under each of its own atoms
abbrev pub AreNotedBelow : ℕ → Maps → List (List Atom) → List Pending → Type 0
AreNotedBelow b m log ps = list_all (λ p. nat_le b p.number || list_all (λ a. under m a p.number) (own_of log p.own)) ps ≡ true

-- each of the edition's first `f.count` guards is noted for all tasks of the span
abbrev pub IsPrefix : Maps → List (List Atom) → Prefix → Type 0
IsPrefix m log f = (n : ℕ) → in_span f.span n ≡ true → list_all (λ a. under m a n) (take f.count (slice_index_or log f.edition [])) ≡ true

-- the run of an atom that begins with the number
abbrev pub run_from : ℕ → Atom → Run
run_from n a = record { atom = a; first = n }

-- if the run has begun by the number, the number is noted under the run's atom
abbrev pub has_run : Maps → ℕ → Run → Bool
has_run m n r = nat_lt n r.first || under m r.atom n

-- each of the runs is noted from its first number to the last one
abbrev pub AreRunsNoted : Maps → ℕ → List Run → Type 0
AreRunsNoted m last rs = (n : ℕ) → n ≤ last → list_all (λ r. has_run m n r) rs ≡ true

-- the second maps have all that the first ones have, and each of the runs
abbrev pub Completes : Maps → Runs → Maps → Type 0
Completes m r m2 = IsWider m m2 × AreRunsNoted m2 r.last r.begun.items

-- what completes the second maps and runs completes the first ones
abbrev pub KeepsRuns : Maps → Runs → Maps → Runs → Type 0
KeepsRuns m r m2 r2 = (m3 : Maps) → Completes m2 r2 m3 → Completes m r m3

-- once the runs are noted, the number is noted under each of the atoms
abbrev pub WillHave : Maps → Runs → ℕ → List Atom → Type 0
WillHave m r n A = (m2 : Maps) → Completes m r m2 → list_all (λ a. under m2 a n) A ≡ true

-- once the runs are noted, each task is noted under each of its own atoms
abbrev pub WillBeNoted : Maps → Runs → List (List Atom) → List Pending → Type 0
WillBeNoted m r log ps = (m2 : Maps) → Completes m r m2 → AreNoted m2 log ps

-- a pending task has the number
abbrev pub is_pending : List Pending → ℕ → Bool
is_pending ps n = list_any (λ p. p.number == n) ps

-- a pending task's number is in the span
abbrev pub has_pending : List Pending → Span → Bool
has_pending ps s = list_any (λ p. in_span s p.number) ps

-- a row that has the number of a pending task keeps the number
abbrev pub AreKept : List Pending → Rows → Rows → Type 0
AreKept ps old new = (k n : ℕ) → is_pending ps n ≡ true → spanned old k n ≡ true → spanned new k n ≡ true

-- a row of a placement that has the number of a pending task keeps the number
abbrev pub ArePlacedStill : List Pending → List PlacedRow → List PlacedRow → Type 0
ArePlacedStill ps old new = (p n : ℕ) → is_pending ps n ≡ true → placed old p n ≡ true → placed new p n ≡ true

-- what is noted for the pending tasks stays noted
abbrev pub KeepsPending : List Pending → Maps → Maps → Type 0
KeepsPending ps old new = (a : Atom) (n : ℕ) → is_pending ps n ≡ true → under old a n ≡ true → under new a n ≡ true
