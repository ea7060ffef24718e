-- What the parts of a design keep when an entry is put in.
use Rattle.std.proofs.Common.{◌≡◌, ◌≢◌, ℕ, List, [], get_or}
use Rattle.std.specs.List.{All, Contains}
use Rattle.std.specs.Map.{values_of}
use Rattle.std.specs.BTreeMap.{insert_entry}
use Rattle.std.proofs.lemmas.List.Elements.{All-contains, All-map, Contains-get_or}
use Rattle.std.proofs.lemmas.Map.Views.{All-values-insert_entry}
use Rattle.poly_grid.specs.declared.grid.Grid.{Grid}
use Rattle.poly_grid.specs.Spot.{Spot}
use Rattle.poly_shape.specs.Order.{spot_cmp}
use Rattle.poly_design.specs.Name.{name_cmp}
use Rattle.poly_design.specs.declared.mode.Mode.{Mode}
use Rattle.poly_design.specs.declared.mode.Mode.TheVariants.{Blocked}
use Rattle.poly_design.specs.declared.spec.Spec.{Spec}
use Rattle.poly_design.specs.Limits.{AreOfGrid, NoneBlocked}
use Rattle.poly_design.proofs.Sets.{contains_map, lacks_nil}

-- what holds of each entry's value holds of each value
pub values_all : {K X : Type 0} (P : X → Type 0) (entries : List (K × X)) → ((k : K) (x : X) → Contains entries (k, x) → P x) → All P (values_of entries)
values_all P entries each = All-map P (λ e. e.1) entries (λ i d lt. each (get_or entries i d).0 (get_or entries i d).1 (Contains-get_or entries i d lt))

pub value_of_entry : {K X : Type 0} (P : X → Type 0) (entries : List (K × X)) → All P (values_of entries) → (k : K) (x : X) → Contains entries (k, x) → P x
value_of_entry P entries all k x here = All-contains P (values_of entries) x all (contains_map (λ e. e.1) entries (k, x) here)

pub none_blocked_empty : NoneBlocked []
none_blocked_empty c m here = absurd (lacks_nil (c, m) here)

pub none_blocked_insert : (cells : List (Spot × Mode)) (c : Spot) (m : Mode) → NoneBlocked cells → m ≢ Blocked → NoneBlocked (insert_entry spot_cmp cells c m)
none_blocked_insert cells c m none free =
    let P : Mode → Type 0 = λ v. v ≢ Blocked in
    value_of_entry P (insert_entry spot_cmp cells c m) (All-values-insert_entry spot_cmp c m P cells (values_all P cells none) free)

pub of_grid_empty : (grid : Grid) → AreOfGrid grid []
of_grid_empty grid name spec here = absurd (lacks_nil (name, spec) here)

pub of_grid_insert : (grid : Grid) (pieces : List (List ℕ × Spec)) (name : List ℕ) (spec : Spec) → AreOfGrid grid pieces → spec.shape.grid ≡ grid → AreOfGrid grid (insert_entry name_cmp pieces name spec)
of_grid_insert grid pieces name spec all is =
    let P : Spec → Type 0 = λ s. s.shape.grid ≡ grid in
    value_of_entry P (insert_entry name_cmp pieces name spec) (All-values-insert_entry name_cmp name spec P pieces (values_all P pieces all) is)
