-- The design after an accepted edit.
use Rattle.std.proofs.Common.{◌≡◌, ◌∙◌, ℕ, ◌<◌, ◌≤◌, ◌⊎◌, ◌↔◌, inl, inr, Bool, true, false, List, [], ◌∷◌, length, Option, Some, None, Result, Ok, Err, IfOk, refl, sym, ap, subst, arith}
use mathlib.Core.Bool.{true≢false}
use Rattle.std.specs.Prelude.{IsTrue, is_some}
use Rattle.std.specs.Ordering.{eq_by_cmp}
use Rattle.std.specs.Cmp.Lexicographic.{nat_list_cmp_total}
use Rattle.std.specs.List.{Contains}
use Rattle.std.specs.Map.{keys_of, lookup}
use Rattle.std.specs.BTreeMap.{insert_entry, is_at}
use Rattle.std.proofs.lemmas.Map.Lookups.{exact_bytes}
use Rattle.std.proofs.lemmas.Map.Views.{Contains-from_lookup, tells_apart}
use Rattle.poly_grid.specs.Spot.{Spot}
use Rattle.poly_grid.specs.declared.refusal.Refusal.{Refusal}
use Rattle.poly_grid.specs.declared.refusal.Refusal.TheVariants.{Memory, NoChange, NoSuchPiece, TooManyPlacements}
use Rattle.poly_shape.specs.Figure.{Figure}
use Rattle.poly_shape.specs.Order.{IsAscending, spot_cmp, spot_total}
use Rattle.poly_design.specs.Name.{name_cmp}
use Rattle.poly_design.specs.declared.mode.Mode.{Mode}
use Rattle.poly_design.specs.declared.mode.Mode.TheVariants.{Required, Optional, Blocked}
use Rattle.poly_design.specs.declared.need.Need.{Need}
use Rattle.poly_design.specs.declared.spec.Spec.{Spec}
use Rattle.poly_design.specs.declared.placement.Placement.{Placement}
use Rattle.poly_design.specs.declared.change.Change.{Change}
use Rattle.poly_design.specs.declared.change.Change.TheVariants.{Cell, Piece}
use Rattle.poly_design.specs.Bounds.{Bounds}
use Rattle.poly_design.specs.Layout.{Layout, mode_of, spec_of}
use Rattle.poly_design.specs.Placements.{IsPlace, IsPlacement, IsUnblocked, FewPlacements}
use Rattle.poly_design.specs.Limits.{IsDesign, NoneBlocked}
use Rattle.poly_design.specs.Changes.{changed, set_mode}
use Rattle.poly_design.specs.declared.edit.Edit.{Edit}
use Rattle.poly_design.specs.declared.edit.Edit.TheVariants as edit
use Rattle.poly_design.specs.Edits.{IsAccepted, IsFirst, IsIdle, IsRefused, NoneHolds, causes, change_by, change_of, new_spec, replaced}
use Rattle.poly_design.proofs.PartsKept.{none_blocked_insert, of_grid_insert}
use Rattle.poly_design.proofs.Puts.{put_ascending, take_ascending, length_known, length_new, length_put, length_take, put_cases, take_cases}

same_name : (x y : List ℕ) → eq_by_cmp name_cmp x y ≡ true → x ≡ y
same_name = tells_apart exact_bytes

-- ---- designs after a change
pub after_spec : (d : Layout) (name : List ℕ) (before : Option Spec) (s : Spec) → IsDesign d → length (insert_entry name_cmp d.pieces name s) ≤ 64 → s.shape.grid ≡ d.grid
    → FewPlacements (changed d (Piece name before (Some s))) → IsDesign (changed d (Piece name before (Some s)))
after_spec d name before s is room grid few = record {
  cells_ascend = is.cells_ascend;
  few_cells = is.few_cells;
  unblocked = is.unblocked;
  pieces_ascend = put_ascending nat_list_cmp_total d.pieces name s is.pieces_ascend;
  few_pieces = room;
  of_grid = of_grid_insert d.grid d.pieces name s is.of_grid grid;
  few_placements = few;
}

pub after_none : (d : Layout) (name : List ℕ) (before : Option Spec) → IsDesign d → FewPlacements (changed d (Piece name before None)) → IsDesign (changed d (Piece name before None))
after_none d name before is few = record {
  cells_ascend = is.cells_ascend;
  few_cells = is.few_cells;
  unblocked = is.unblocked;
  pieces_ascend = take_ascending nat_list_cmp_total d.pieces name is.pieces_ascend;
  few_pieces = let le = length_take nat_list_cmp_total d.pieces name in omega (arith, le, is.few_pieces);
  of_grid = λ n s here. is.of_grid n s (take_cases nat_list_cmp_total d.pieces name (n, s) here);
  few_placements = few;
}

modes_ascend : (cells : List (Spot × Mode)) (c : Spot) (mode : Mode) → IsAscending spot_cmp (keys_of cells) → IsAscending spot_cmp (keys_of (set_mode cells c mode))
modes_ascend cells c Required up = put_ascending spot_total cells c Required up
modes_ascend cells c Optional up = put_ascending spot_total cells c Optional up
modes_ascend cells c Blocked up = take_ascending spot_total cells c up

pub modes_unblocked : (cells : List (Spot × Mode)) (c : Spot) (mode : Mode) → NoneBlocked cells → NoneBlocked (set_mode cells c mode)
modes_unblocked cells c Required none = none_blocked_insert cells c Required none (λ e. cc)
modes_unblocked cells c Optional none = none_blocked_insert cells c Optional none (λ e. cc)
modes_unblocked cells c Blocked none = λ v m here. none v m (take_cases spot_total cells c (v, m) here)

pub after_mode : (d : Layout) (c : Spot) (before mode : Mode) → IsDesign d → length (set_mode d.cells c mode) ≤ 256 → FewPlacements (changed d (Cell c before mode)) → IsDesign (changed d (Cell c before mode))
after_mode d c before mode is room few = record {
  cells_ascend = modes_ascend d.cells c mode is.cells_ascend;
  few_cells = room;
  unblocked = modes_unblocked d.cells c mode is.unblocked;
  pieces_ascend = is.pieces_ascend;
  few_pieces = is.few_pieces;
  of_grid = is.of_grid;
  few_placements = few;
}

-- ---- fewer placements
pub fewer : (d e : Layout) → FewPlacements d → ((p : Placement) → IsPlacement e p → IsPlacement d p) → FewPlacements e
fewer d e few part ys up members = few ys up (λ p here. part p (members p here))

pub few_without : (d : Layout) (name : List ℕ) (before : Option Spec) → FewPlacements d → FewPlacements (changed d (Piece name before None))
few_without d name before few = fewer d (changed d (Piece name before None)) few
    (λ p pl. record { spec = pl.spec; has = take_cases nat_list_cmp_total d.pieces name (p.name, pl.spec) pl.has; place = pl.place })

pub few_with : (d : Layout) (name : List ℕ) (before : Option Spec) (s t : Spec) → FewPlacements d → spec_of d name ≡ Some s
    → ((k : List Spot) → IsPlace (IsUnblocked d) t k → IsPlace (IsUnblocked d) s k) → FewPlacements (changed d (Piece name before (Some t)))
few_with d name before s t few found part = fewer d (changed d (Piece name before (Some t))) few
    (λ p pl. elim (put_cases nat_list_cmp_total exact_bytes d.pieces name t (p.name, pl.spec) pl.has) [
      | inl eq ↦
          let en : name ≡ p.name = ap (λ (v : List ℕ × Spec). v.0) eq in
          let es : t ≡ pl.spec = ap (λ (v : List ℕ × Spec). v.1) eq in
          let entry : Contains d.pieces (name, s) = Contains-from_lookup same_name name s d.pieces found in
          record {
            spec = s;
            has = subst (λ (n : List ℕ). Contains d.pieces (n, s)) en entry;
            place = part p.cells (subst (λ (v : Spec). IsPlace (IsUnblocked d) v p.cells) (sym es) pl.place);
          }
      | inr old ↦ record { spec = pl.spec; has = old; place = pl.place }
    ])

pub place_with_copies : (F : Spot → Type 0) (s : Spec) (copies : Bounds) (k : List Spot) → IsPlace F (record s { copies = copies }) k → IsPlace F s k
place_with_copies F s copies k p = record { turn = p.turn; image = p.image; right = p.right; down = p.down; known = p.known; turned = p.turned; lies = p.lies }

pub place_with_pin : (F : Spot → Type 0) (s : Spec) (pin : Option (List Spot)) (k : List Spot) → IsPlace F (record s { pin = pin }) k → IsPlace F s k
place_with_pin F s pin k p = record { turn = p.turn; image = p.image; right = p.right; down = p.down; known = p.known; turned = p.turned; lies = p.lies }

pub place_with_forbidden : (F : Spot → Type 0) (s : Spec) (forbidden : List (List Spot)) → ((k : List Spot) → Contains s.forbidden k → Contains forbidden k) → (k : List Spot) → IsPlace F (record s { forbidden = forbidden }) k → IsPlace F s k
place_with_forbidden F s forbidden more k p = record {
  turn = p.turn;
  image = p.image;
  right = p.right;
  down = p.down;
  known = p.known;
  turned = p.turned;
  lies = record { in_range = p.lies.in_range; moved = p.lies.moved; free = p.lies.free; allowed = λ h. p.lies.allowed (more k h) };
}

-- ---- edits of a piece that the design has
pub is_change_by : (d : Layout) (name : List ℕ) (f : Spec → Spec) (s : Spec) → spec_of d name ≡ Some s → Piece name (Some s) (Some (f s)) ≡ change_by d name f
is_change_by d name f s found = ap (λ o. Piece name o (replaced f o)) (sym found)

pub is_there : (d : Layout) (name : List ℕ) (s : Spec) → spec_of d name ≡ Some s → spec_of d name ≡ None → ⊥
is_there d name s found none = let e : Some s ≡ None = sym found ∙ none in cc

pub is_idle : (d : Layout) (name : List ℕ) (f : Spec → Spec) (s : Spec) → spec_of d name ≡ Some s → s ≡ f s → IsIdle (change_by d name f)
is_idle d name f s found same = found ∙ ap Some same ∙ sym (ap (replaced f) found)

pub not_idle : (d : Layout) (name : List ℕ) (f : Spec → Spec) (s : Spec) → spec_of d name ≡ Some s → (s ≡ f s → ⊥) → IsIdle (change_by d name f) → ⊥
not_idle d name f s found other idle =
    let e : Some s ≡ Some (f s) = sym found ∙ idle ∙ ap (replaced f) found in
    let same : s ≡ f s = cc in
    other same

pub design_by : (d : Layout) (name : List ℕ) (f : Spec → Spec) (s : Spec) → IsDesign d → spec_of d name ≡ Some s → (f s).shape ≡ s.shape
    → FewPlacements (changed d (Piece name (Some s) (Some (f s)))) → IsDesign (changed d (Piece name (Some s) (Some (f s))))
design_by d name f s is found shape few =
    let entry : Contains d.pieces (name, s) = Contains-from_lookup same_name name s d.pieces found in
    let len = length_known nat_list_cmp_total d.pieces name (f s) s is.pieces_ascend found in
    after_spec d name (Some s) (f s) is (omega (arith, len, is.few_pieces)) (ap (λ v. v.grid) shape ∙ is.of_grid name s entry) few

pub few_here : (d : Layout) (name : List ℕ) (f : Spec → Spec) (s after : Spec) → spec_of d name ≡ Some s → after ≡ f s
    → FewPlacements (changed d (Piece name (Some s) (Some after))) → FewPlacements (changed d (change_by d name f))
few_here d name f s after found same few =
    subst (λ (v : Change). FewPlacements (changed d v)) (is_change_by d name f s found) (subst (λ (v : Spec). FewPlacements (changed d (Piece name (Some s) (Some v)))) same few)

pub few_there : (d : Layout) (name : List ℕ) (f : Spec → Spec) (s after : Spec) → spec_of d name ≡ Some s → after ≡ f s
    → FewPlacements (changed d (change_by d name f)) → FewPlacements (changed d (Piece name (Some s) (Some after)))
few_there d name f s after found same few =
    subst (λ (v : Spec). FewPlacements (changed d (Piece name (Some s) (Some v)))) (sym same) (subst (λ (v : Change). FewPlacements (changed d v)) (sym (is_change_by d name f s found)) few)

pub accept : (d : Layout) (e : Edit) (name : List ℕ) (f : Spec → Spec) (s after : Spec) (r : Result Change Refusal) → IsDesign d → spec_of d name ≡ Some s → change_by d name f ≡ change_of d e → after ≡ f s
    → IfOk r (λ change. change ≡ Piece name (Some s) (Some after)) → NoneHolds (causes d e) → (f s).shape ≡ s.shape → FewPlacements (changed d (change_by d name f)) → IfOk r (λ change. IsAccepted d e change)
accept d e name f s after (Ok change) is found asked same made free shape few =
    let step : change ≡ Piece name (Some s) (Some (f s)) = made ∙ ap (λ v. Piece name (Some s) (Some v)) same in
    let there : FewPlacements (changed d (Piece name (Some s) (Some (f s)))) = few_there d name f s (f s) found refl few in
    record {
      is = step ∙ is_change_by d name f s found ∙ asked;
      free = free;
      design = subst (λ (v : Change). IsDesign (changed d v)) (sym step) (design_by d name f s is found shape there);
    }
accept d e name f s after (Err why) is found asked same made free shape few = tt

pub accept_drop : (d : Layout) (name : List ℕ) (s before : Spec) → IsDesign d → spec_of d name ≡ Some s → before ≡ s → IsAccepted d (edit.Drop name) (Piece name (Some before) None)
accept_drop d name s before is found eb = record {
  is = (λ i. Piece name (Some (eb i)) None) ∙ ap (λ o. Piece name o None) (sym found);
  free = (is_there d name s found, tt);
  design = after_none d name (Some before) is (few_without d name (Some before) is.few_placements);
}

-- ---- new pieces
pub none_if : {T : Type 0} (r : Option T) → false ≡ is_some r → r ≡ None
none_if None e = refl
none_if (Some t) e = absurd (true≢false (sym e))

pub some_if : {T : Type 0} (r : Option T) → true ≡ is_some r → (t : T) × (r ≡ Some t)
some_if None e = absurd (true≢false e)
some_if (Some t) e = (t, refl)

pub no_room : (d : Layout) (name : List ℕ) (s : Spec) → spec_of d name ≡ None → 64 ≤ length d.pieces → 64 < length (insert_entry name_cmp d.pieces name s)
no_room d name s none full = let len = length_new nat_list_cmp_total d.pieces name s none in omega (arith, len, full)

pub accept_add : (d : Layout) (name : List ℕ) (shape : Figure) (need : Need) (mirror : Bool) (s : Spec) → IsDesign d → spec_of d name ≡ None → shape.grid ≡ d.grid → length d.pieces < 64
    → s ≡ new_spec shape need mirror → FewPlacements (changed d (Piece name None (Some s))) → IsAccepted d (edit.Add name shape need mirror) (Piece name None (Some s))
accept_add d name shape need mirror s is none grid room same few =
    let step : Piece name None (Some s) ≡ change_of d (edit.Add name shape need mirror) = (λ i. Piece name None (Some (same i))) ∙ ap (λ o. Piece name o (Some (new_spec shape need mirror))) (sym none) in
    let there : FewPlacements (changed d (change_of d (edit.Add name shape need mirror))) = subst (λ (v : Change). FewPlacements (changed d v)) step few in
    let len = length_new nat_list_cmp_total d.pieces name (new_spec shape need mirror) none in
    let slen = length_new nat_list_cmp_total d.pieces name s none in
    record {
      is = step;
      free = (λ taken. taken none, (λ bad. bad grid, (λ many. omega (arith, len, room, many), (λ no. no there, tt))));
      design = after_spec d name None s is (omega (arith, slen, room)) (ap (λ v. v.shape.grid) same ∙ grid) few;
    }

pub refuse_add : (d : Layout) (name : List ℕ) (shape : Figure) (need : Need) (mirror : Bool) (s : Spec) (e : Refusal) → spec_of d name ≡ None → shape.grid ≡ d.grid → length d.pieces < 64
    → s ≡ new_spec shape need mirror → (e ≡ Memory) ⊎ ((e ≡ TooManyPlacements) × (FewPlacements (changed d (Piece name None (Some s))) → ⊥)) → (e ≡ Memory) ⊎ IsRefused d (edit.Add name shape need mirror) e
refuse_add d name shape need mirror s e none grid room same why = elim why [
  | inl memory ↦ inl memory
  | inr many ↦
      let step : Piece name None (Some s) ≡ change_of d (edit.Add name shape need mirror) = (λ i. Piece name None (Some (same i))) ∙ ap (λ o. Piece name o (Some (new_spec shape need mirror))) (sym none) in
      let len = length_new nat_list_cmp_total d.pieces name (new_spec shape need mirror) none in
      inr (inr (λ taken. taken none, inr (λ bad. bad grid, inr (λ over. omega (arith, len, room, over), inl (many.0, λ few. many.1 (subst (λ (v : Change). FewPlacements (changed d v)) (sym step) few))))))
]

-- ---- cells
pub room_known : (d : Layout) (c : Spot) (mode m : Mode) → IsDesign d → lookup (is_at (spot_cmp c)) d.cells ≡ Some m → length (set_mode d.cells c mode) ≤ 256
room_known d c Required m is found = let len = length_known spot_total d.cells c Required m is.cells_ascend found in omega (arith, len, is.few_cells)
room_known d c Optional m is found = let len = length_known spot_total d.cells c Optional m is.cells_ascend found in omega (arith, len, is.few_cells)
room_known d c Blocked m is found = let len = length_take spot_total d.cells c in omega (arith, len, is.few_cells)

pub room_left : (d : Layout) (c : Spot) (mode : Mode) → length d.cells < 256 → length (set_mode d.cells c mode) ≤ 256
room_left d c Required left = let len = length_put spot_total d.cells c Required in omega (arith, len, left)
room_left d c Optional left = let len = length_put spot_total d.cells c Optional in omega (arith, len, left)
room_left d c Blocked left = let len = length_take spot_total d.cells c in omega (arith, len, left)

pub room_blocked : (d : Layout) (c : Spot) (mode : Mode) → IsDesign d → mode ≡ Blocked → length (set_mode d.cells c mode) ≤ 256
room_blocked d c mode is e = subst (λ m. length (set_mode d.cells c m) ≤ 256) (sym e) (let len = length_take spot_total d.cells c in omega (arith, len, is.few_cells))

pub room_none : (d : Layout) (c : Spot) (mode : Mode) → (mode ≡ Blocked → ⊥) → lookup (is_at (spot_cmp c)) d.cells ≡ None → 256 ≤ length d.cells → length (set_mode d.cells c mode) ≤ 256 → ⊥
room_none d c Required free none full le = let len = length_new spot_total d.cells c Required none in omega (arith, len, full, le)
room_none d c Optional free none full le = let len = length_new spot_total d.cells c Optional none in omega (arith, len, full, le)
room_none d c Blocked free none full le = free refl

pub room_last : (d : Layout) (c : Spot) (mode : Mode) (r : Bool) → IsTrue r ↔ (mode ≡ Blocked) → IsDesign d → lookup (is_at (spot_cmp c)) d.cells ≡ None → 256 ≤ length d.cells
    → IsTrue r ↔ (length (set_mode d.cells c mode) ≤ 256)
room_last d c mode true says is none full = (λ t. room_blocked d c mode is (says.0 t), λ _. refl)
room_last d c mode false says is none full = (λ t. absurd (true≢false (sym t)), λ le. absurd (room_none d c mode (λ e. true≢false (sym (says.1 e))) none full le))

pub accept_cell : (d : Layout) (c : Spot) (before mode : Mode) → IsDesign d → before ≡ mode_of d c → (before ≡ mode → ⊥) → length (set_mode d.cells c mode) ≤ 256
    → FewPlacements (changed d (Cell c before mode)) → IsAccepted d (edit.Cell c mode) (Cell c before mode)
accept_cell d c before mode is same other room few = record {
  is = ap (λ b. Cell c b mode) same;
  free = (λ idle. other (same ∙ idle), (λ many. omega (arith, room, many), (λ no. no (subst (λ b. FewPlacements (changed d (Cell c b mode))) same few), tt)));
  design = after_mode d c before mode is room few;
}

pub refuse_cell : (d : Layout) (c : Spot) (before mode : Mode) (e : Refusal) → before ≡ mode_of d c → (before ≡ mode → ⊥) → length (set_mode d.cells c mode) ≤ 256
    → (e ≡ Memory) ⊎ ((e ≡ TooManyPlacements) × (FewPlacements (changed d (Cell c before mode)) → ⊥)) → (e ≡ Memory) ⊎ IsRefused d (edit.Cell c mode) e
refuse_cell d c before mode e same other room why = elim why [
  | inl memory ↦ inl memory
  | inr many ↦ inr (inr (λ idle. other (same ∙ idle), inr (λ over. omega (arith, room, over), inl (many.0, λ few. many.1 (subst (λ b. FewPlacements (changed d (Cell c b mode))) (sym same) few)))))
]

-- ---- placements that may be too many
pub refuse_many : (d : Layout) (name : List ℕ) (f : Spec → Spec) (s after : Spec) (e : Refusal) → spec_of d name ≡ Some s → (s ≡ f s → ⊥) → after ≡ f s
    → (e ≡ Memory) ⊎ ((e ≡ TooManyPlacements) × (FewPlacements (changed d (Piece name (Some s) (Some after))) → ⊥))
    → (e ≡ Memory) ⊎ IsFirst ((NoSuchPiece, spec_of d name ≡ None) ∷ (NoChange, IsIdle (change_by d name f)) ∷ (TooManyPlacements, ¬ FewPlacements (changed d (change_by d name f))) ∷ []) e
refuse_many d name f s after e found other same why = elim why [
  | inl memory ↦ inl memory
  | inr many ↦ inr (inr (is_there d name s found, inr (not_idle d name f s found other, inl (many.0, λ few. many.1 (few_there d name f s after found same few)))))
]
