-- Where an orientation can lie, found by moving one of its cells onto a given cell.
use Rattle.std.proofs.Common.{◌≡◌, ◌∙◌, ℕ, ◌<◌, ◌↔◌, List, [], length, get_or, refl, sym, ap, subst, arith}
use Rattle.std.specs.List.{All, Contains}
use Rattle.std.proofs.lemmas.List.{get_or_default}
use Rattle.std.proofs.lemmas.List.Elements.{All-contains, Contains-get_or}
use Rattle.poly_grid.specs.Spot.{Spot}
use Rattle.poly_shape.specs.Moves.{moved_by, spot_moved}
use Rattle.poly_shape.specs.Shape.{AreOrientations}
use Rattle.poly_design.specs.declared.spec.Spec.{Spec}
use Rattle.poly_design.specs.Placements.{IsMovedTo, IsPlace}
use Rattle.poly_design.specs.Moved.{IsShift, IsShifted, IsSomewhere, LandsOn}
use Rattle.poly_design.proofs.Sets.{contains_map, contains_map_from}

module _ (F : Spot → Type 0) (forbidden : List (List Spot)) where
  -- only one shift moves `from` onto `to`
  pub shifted_by : (image : List Spot) (from to : Spot) (right down : ℕ) → IsShift right down from to → (k : List Spot) → IsShifted F forbidden image from to k → IsMovedTo F forbidden image right down k
  shifted_by image from to right down shift k s =
      let er : s.right ≡ right = omega (arith, s.shift.x, shift.x) in
      let ed : s.down ≡ down = omega (arith, s.shift.y, shift.y) in
      subst (λ r. IsMovedTo F forbidden image r down k) er (subst (λ d. IsMovedTo F forbidden image s.right d k) ed s.lies)

  -- a cell of the image, moved, is one of the cells
  pub moved_in : (image : List Spot) (right down : ℕ) (k : List Spot) (c : Spot) → IsMovedTo F forbidden image right down k → Contains image c → Contains k (spot_moved right down c)
  moved_in image right down k c lies here = subst (λ l. Contains l (spot_moved right down c)) (sym lies.moved) (contains_map (spot_moved right down) image c here)

  pub moved_from : (image : List Spot) (right down : ℕ) (k : List Spot) (c : Spot) → IsMovedTo F forbidden image right down k → Contains k c → (b : Spot) × Contains image b × (spot_moved right down b ≡ c)
  moved_from image right down k c lies here = contains_map_from (spot_moved right down) image c (subst (λ l. Contains l c) lies.moved here)

  -- the positions where the image can lie with `first` on a cell of the board are all positions where it can lie
  pub somewhere_by_first : (board image : List Spot) (first d : Spot) → ((c : Spot) → F c → Contains board c) → Contains image first → (k : List Spot)
      → ((i : ℕ) × (i < length board) × IsShifted F forbidden image first (get_or board i d) k) ↔ IsSomewhere F forbidden image k
  somewhere_by_first board image first d free here k = (
    λ h. record { right = h.2.right; down = h.2.down; lies = h.2.lies },
    λ s.
        let to = spot_moved s.right s.down first in
        let at = free to (s.lies.free to (moved_in image s.right s.down k first s.lies here)) in
        let e : to ≡ get_or board at.0 d = sym at.2 ∙ get_or_default board at.0 to d at.1 in
        let shift : IsShift s.right s.down first to = record { x = refl; y = refl } in
        (at.0, at.1, record { right = s.right; down = s.down; shift = subst (IsShift s.right s.down first) e shift; lies = s.lies }),
  )

  -- the positions where the image can lie with one of its cells on `cell` are those where it can lie and cover `cell`
  pub somewhere_on : (image : List Spot) (cell d : Spot) (k : List Spot)
      → ((i : ℕ) × (i < length image) × IsShifted F forbidden image (get_or image i d) cell k) ↔ (IsSomewhere F forbidden image k × Contains k cell)
  somewhere_on image cell d k = (
    λ h.
        let from = get_or image h.0 d in
        let is : spot_moved h.2.right h.2.down from ≡ cell = λ j. record { x = h.2.shift.x j; y = h.2.shift.y j } in (
          record { right = h.2.right; down = h.2.down; lies = h.2.lies },
          subst (Contains k) is (moved_in image h.2.right h.2.down k from h.2.lies (Contains-get_or image h.0 d h.1)),
        ),
    λ h.
        let s = h.0 in
        let b = moved_from image s.right s.down k cell s.lies h.1 in
        let e : b.0 ≡ get_or image b.1.0 d = sym b.1.2 ∙ get_or_default image b.1.0 b.0 d b.1.1 in
        let shift : IsShift s.right s.down b.0 cell = record { x = ap (λ (v : Spot). v.x) b.2; y = ap (λ (v : Spot). v.y) b.2 } in
        (b.1.0, b.1.1, record { right = s.right; down = s.down; shift = subst (λ v. IsShift s.right s.down v cell) e shift; lies = s.lies }),
  )

-- if an image lies on the board, each of its cells lands on the board
pub lands : (board : List Spot) (forbidden : List (List Spot)) (image : List Spot) (right down : ℕ) (k : List Spot) → IsMovedTo (Contains board) forbidden image right down k → All (LandsOn board right down) image
lands board forbidden image right down k lies i d lt =
    let c = get_or image i d in
    let here = Contains-get_or image i d lt in
    let range = lies.in_range c here in
    record { in_width = range.0; in_height = range.1; on = lies.free (spot_moved right down c) (moved_in (Contains board) forbidden image right down k c lies here) }

pub lies_from : (board : List Spot) (forbidden : List (List Spot)) (image : List Spot) (right down : ℕ) (k : List Spot) → All (LandsOn board right down) image
    → k ≡ moved_by right down image → (Contains forbidden k → ⊥) → IsMovedTo (Contains board) forbidden image right down k
lies_from board forbidden image right down k land is allowed = record {
  in_range = λ c here. let l = All-contains (LandsOn board right down) image c land here in (l.in_width, l.in_height);
  moved = is;
  free = λ c here. let b = contains_map_from (spot_moved right down) image c (subst (λ l. Contains l c) is here) in subst (Contains board) b.2 (All-contains (LandsOn board right down) image b.0 land b.1).on;
  allowed = allowed;
}

-- a piece can lie on cells exactly if one of its orientations can
pub place_by_orientation : (F : Spot → Type 0) (spec : Spec) (list : List (List Spot)) → AreOrientations spec.shape spec.mirror list → (k : List Spot)
    → ((i : ℕ) × (i < length list) × IsSomewhere F spec.forbidden (get_or list i []) k) ↔ IsPlace F spec k
place_by_orientation F spec list are k = (
  λ h.
      let o = are.only (get_or list h.0 []) (Contains-get_or list h.0 [] h.1) in
      record { turn = o.0; image = get_or list h.0 []; right = h.2.right; down = h.2.down; known = o.1; turned = o.2; lies = h.2.lies },
  λ p.
      let at = are.all p.turn p.image p.known p.turned in
      let e : p.image ≡ get_or list at.0 [] = sym at.2 ∙ get_or_default list at.0 p.image [] at.1 in
      let here : IsSomewhere F spec.forbidden p.image k = record { right = p.right; down = p.down; lies = p.lies } in
      (at.0, at.1, subst (λ o. IsSomewhere F spec.forbidden o k) e here),
)

pub place_by_orientation_on : (F : Spot → Type 0) (spec : Spec) (cell : Spot) (list : List (List Spot)) → AreOrientations spec.shape spec.mirror list → (k : List Spot)
    → ((i : ℕ) × (i < length list) × (IsSomewhere F spec.forbidden (get_or list i []) k × Contains k cell)) ↔ (IsPlace F spec k × Contains k cell)
place_by_orientation_on F spec cell list are k = (
  λ h. ((place_by_orientation F spec list are k).0 (h.0, h.1, h.2.0), h.2.1),
  λ p. let at = (place_by_orientation F spec list are k).1 p.0 in (at.0, at.1, (at.2, p.1)),
)

pub place_weaker : (F G : Spot → Type 0) → ((c : Spot) → F c → G c) → (spec : Spec) (k : List Spot) → IsPlace F spec k → IsPlace G spec k
place_weaker F G weaker spec k p = record {
  turn = p.turn;
  image = p.image;
  right = p.right;
  down = p.down;
  known = p.known;
  turned = p.turned;
  lies = record { in_range = p.lies.in_range; moved = p.lies.moved; free = λ c here. weaker c (p.lies.free c here); allowed = p.lies.allowed };
}
