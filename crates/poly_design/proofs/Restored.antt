-- The inverse of a change undoes it.
use Rattle.std.proofs.Common.{◌≡◌, ◌∙◌, ℕ, true, List, Option, Some, None, refl, sym, ap, subst}
use Rattle.std.specs.Prelude.{unwrap_or}
use Rattle.std.specs.Map.{keys_of, lookup}
use Rattle.std.specs.BTreeMap.{is_at}
use Rattle.std.specs.Cmp.Lexicographic.{nat_list_cmp_total}
use Rattle.std.specs.Ordering.{eq_by_cmp}
use Rattle.std.proofs.lemmas.Map.Lookups.{exact_bytes}
use Rattle.std.proofs.lemmas.Map.Views.{Contains-from_lookup, tells_apart}
use Rattle.poly_grid.specs.Spot.{Spot}
use Rattle.poly_shape.specs.Order.{IsAscending, spot_cmp, spot_total}
use Rattle.poly_shape.proofs.Ascending.{same_spot}
use Rattle.poly_design.specs.Name.{name_cmp}
use Rattle.poly_design.specs.declared.mode.Mode.{Mode}
use Rattle.poly_design.specs.declared.mode.Mode.TheVariants.{Required, Optional, Blocked}
use Rattle.poly_design.specs.declared.spec.Spec.{Spec}
use Rattle.poly_design.specs.declared.change.Change.{Change}
use Rattle.poly_design.specs.declared.change.Change.TheVariants.{Cell, Piece}
use Rattle.poly_design.specs.Layout.{Layout, mode_at}
use Rattle.poly_design.specs.Limits.{IsDesign, NoneBlocked}
use Rattle.poly_design.specs.Changes.{HasBefore, changed, inverse_of, set_mode, set_spec}
use Rattle.poly_design.specs.declared.edit.Edit.{Edit}
use Rattle.poly_design.specs.declared.edit.Edit.TheVariants as edit
use Rattle.poly_design.specs.Edits.{IsAccepted, change_of}
use Rattle.poly_design.proofs.Entries.{lookup_put, lookup_taken, put_put, put_taken, taken_put, none_taken}

-- ---- pieces
pub spec_stands : (pieces : List (List ℕ × Spec)) (name : List ℕ) (after : Option Spec) → IsAscending name_cmp (keys_of pieces) → lookup (is_at (name_cmp name)) (set_spec pieces name after) ≡ after
spec_stands pieces name None up = lookup_taken nat_list_cmp_total pieces name up
spec_stands pieces name (Some s) up = lookup_put nat_list_cmp_total pieces name s

pub spec_restored : (pieces : List (List ℕ × Spec)) (name : List ℕ) (before after : Option Spec) → IsAscending name_cmp (keys_of pieces) → lookup (is_at (name_cmp name)) pieces ≡ before
    → set_spec (set_spec pieces name after) name before ≡ pieces
spec_restored pieces name None None up is = ap (λ l. set_spec l name None) (none_taken nat_list_cmp_total pieces name is) ∙ none_taken nat_list_cmp_total pieces name is
spec_restored pieces name None (Some s) up is = put_taken nat_list_cmp_total pieces name s is
spec_restored pieces name (Some b) None up is = taken_put nat_list_cmp_total exact_bytes pieces name b up is
spec_restored pieces name (Some b) (Some s) up is = put_put nat_list_cmp_total pieces name s b up is

-- ---- cells
pub mode_stands : (cells : List (Spot × Mode)) (c : Spot) (after : Mode) → IsAscending spot_cmp (keys_of cells) → mode_at (set_mode cells c after) c ≡ after
mode_stands cells c Required up = ap (λ r. unwrap_or r Blocked) (lookup_put spot_total cells c Required)
mode_stands cells c Optional up = ap (λ r. unwrap_or r Blocked) (lookup_put spot_total cells c Optional)
mode_stands cells c Blocked up = ap (λ r. unwrap_or r Blocked) (lookup_taken spot_total cells c up)

-- what is found is not blocked, so a blocked cell is not found
blocked_none : (r : Option Mode) → ((m : Mode) → r ≡ Some m → m ≡ Blocked → ⊥) → unwrap_or r Blocked ≡ Blocked → r ≡ None
blocked_none None none is = refl
blocked_none (Some m) none is = absurd (none m refl is)

found_some : (r : Option Mode) (m : Mode) → (Blocked ≡ m → ⊥) → unwrap_or r Blocked ≡ m → r ≡ Some m
found_some None m free is = absurd (free is)
found_some (Some n) m free is = ap Some is

same_key : (x y : Spot) → eq_by_cmp spot_cmp x y ≡ true → x ≡ y
same_key = tells_apart same_spot

missing : (cells : List (Spot × Mode)) (c : Spot) → NoneBlocked cells → mode_at cells c ≡ Blocked → lookup (is_at (spot_cmp c)) cells ≡ None
missing cells c none is = blocked_none (lookup (is_at (spot_cmp c)) cells) (λ m e. none c m (Contains-from_lookup same_key c m cells e)) is

pub mode_restored : (cells : List (Spot × Mode)) (c : Spot) (before after : Mode) → IsAscending spot_cmp (keys_of cells) → NoneBlocked cells → mode_at cells c ≡ before → set_mode (set_mode cells c after) c before ≡ cells
mode_restored cells c Blocked Required up none is = put_taken spot_total cells c Required (missing cells c none is)
mode_restored cells c Blocked Optional up none is = put_taken spot_total cells c Optional (missing cells c none is)
mode_restored cells c Blocked Blocked up none is =
    let lacks = missing cells c none is in
    ap (λ l. set_mode l c Blocked) (none_taken spot_total cells c lacks) ∙ none_taken spot_total cells c lacks
mode_restored cells c Required Required up none is = put_put spot_total cells c Required Required up (found_some (lookup (is_at (spot_cmp c)) cells) Required (λ e. cc) is)
mode_restored cells c Required Optional up none is = put_put spot_total cells c Optional Required up (found_some (lookup (is_at (spot_cmp c)) cells) Required (λ e. cc) is)
mode_restored cells c Required Blocked up none is = taken_put spot_total same_spot cells c Required up (found_some (lookup (is_at (spot_cmp c)) cells) Required (λ e. cc) is)
mode_restored cells c Optional Required up none is = put_put spot_total cells c Required Optional up (found_some (lookup (is_at (spot_cmp c)) cells) Optional (λ e. cc) is)
mode_restored cells c Optional Optional up none is = put_put spot_total cells c Optional Optional up (found_some (lookup (is_at (spot_cmp c)) cells) Optional (λ e. cc) is)
mode_restored cells c Optional Blocked up none is = taken_put spot_total same_spot cells c Optional up (found_some (lookup (is_at (spot_cmp c)) cells) Optional (λ e. cc) is)

pub restored : (d : Layout) (change : Change) → IsDesign d → HasBefore d change → changed (changed d change) (inverse_of change) ≡ d
restored d (Cell c before after) is has = λ i. record { grid = d.grid; cells = mode_restored d.cells c before after is.cells_ascend is.unblocked has i; pieces = d.pieces }
restored d (Piece name before after) is has = λ i. record { grid = d.grid; cells = d.cells; pieces = spec_restored d.pieces name before after is.pieces_ascend has i }

pub stands : (d : Layout) (change : Change) → IsDesign d → HasBefore (changed d change) (inverse_of change)
stands d (Cell c before after) is = mode_stands d.cells c after is.cells_ascend
stands d (Piece name before after) is = spec_stands d.pieces name after is.pieces_ascend

-- the change that an edit asks for starts from what the design holds
pub asked_before : (d : Layout) (e : Edit) → HasBefore d (change_of d e)
asked_before d (edit.Add name shape need mirror) = refl
asked_before d (edit.Drop name) = refl
asked_before d (edit.Need name need) = refl
asked_before d (edit.Copies name copies) = refl
asked_before d (edit.Mirror name mirror) = refl
asked_before d (edit.Cell cell mode) = refl
asked_before d (edit.Pin name cells) = refl
asked_before d (edit.Unpin name) = refl
asked_before d (edit.Forbid name cells) = refl
asked_before d (edit.Allow name cells) = refl

pub accepted_before : (d : Layout) (e : Edit) (step : Change) → IsAccepted d e step → HasBefore d step
accepted_before d e step accepted = subst (HasBefore d) (sym accepted.is) (asked_before d e)
