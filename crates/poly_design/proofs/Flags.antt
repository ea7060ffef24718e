-- Flags of cells, one raised after another.
use Rattle.std.proofs.Common.{◌≡◌, ◌∙◌, ℕ, ◌+◌, ◌*◌, ◌<◌, ◌↔◌, Bool, true, false, List, [], ◌∷◌, ◌++◌, length, get_or, set, replicate, sym, ap, subst, inl, inr, arith}
use mathlib.Core.Bool.{true≢false}
use Rattle.std.specs.Prelude.{IsTrue}
use Rattle.std.specs.List.{Contains}
use Rattle.std.proofs.lemmas.Bool.{cases_lt, cases_eq}
use Rattle.std.proofs.lemmas.List.{get_or-set_same, get_or-set_other, get_or-replicate, get_or_past, get_or_read, length-replicate, length-set}
use Rattle.std.proofs.lemmas.List.Elements.{Contains-append_left, Contains-push, Contains-push_cases}
use Rattle.poly_grid.specs.Spot.{Spot}
use Rattle.poly_shape.specs.Moves.{spot_moved}
use Rattle.poly_design.specs.Moved.{LandsOn}
use Rattle.poly_design.specs.Unblocked.{AreFlagsOf, flag_of}
use Rattle.poly_design.proofs.Sets.{lacks_nil}

all_lowered : (n i : ℕ) → get_or (replicate n false) i false ≡ true → ⊥
all_lowered n i up = elim (cases_lt i n) [
  | inl below ↦ true≢false (sym up ∙ get_or-replicate n i false false below)
  | inr past ↦ true≢false (sym up ∙ get_or_past (replicate n false) i false (omega (arith, length-replicate n false)))
]

pub flags_none : (flags : List Bool) (n : ℕ) → flags ≡ replicate n false → n ≡ 64 * 64 → AreFlagsOf [] flags
flags_none flags n is all = record {
  whole = ap length is ∙ length-replicate n false ∙ all;
  in_range = λ c here. absurd (lacks_nil c here);
  exact = λ c lx ly. (λ up. absurd (all_lowered n _ (subst (λ l. flag_of l c ≡ true) is up)), λ here. absurd (lacks_nil c here));
}

pub flags_more : (cells : List Spot) (flags : List Bool) (cell : Spot) (i : ℕ) → AreFlagsOf cells flags → cell.x < 64 → cell.y < 64 → i ≡ 64 * cell.y + cell.x → AreFlagsOf (cells ++ cell ∷ []) (set flags i true)
flags_more cells flags cell i old lx ly at = record {
  whole = length-set flags i true ∙ old.whole;
  in_range = λ c here. elim (Contains-push_cases cells cell c here) [ inl there ↦ old.in_range c there | inr is ↦ subst (λ (v : Spot). (v.x < 64) × (v.y < 64)) is (lx, ly) ];
  exact = λ c mx my. elim (cases_eq (64 * c.y + c.x) i) [
    | inl same ↦
        let ex : cell.x ≡ c.x = omega arith in
        let ey : cell.y ≡ c.y = omega arith in
        let is : cell ≡ c = λ j. record { x = ex j; y = ey j } in
        let below : i < length flags = omega (arith, old.whole) in
        (λ _. subst (Contains (cells ++ cell ∷ [])) is (Contains-push cells cell), λ _. ap (λ j. get_or (set flags i true) j false) same ∙ get_or-set_same flags i true false below)
    | inr other ↦
        let e : flag_of (set flags i true) c ≡ flag_of flags c = get_or-set_other flags i (64 * c.y + c.x) true false other in (
          λ up. Contains-append_left cells (cell ∷ []) c ((old.exact c mx my).0 (sym e ∙ up)),
          λ here. elim (Contains-push_cases cells cell c here) [
            | inl there ↦ e ∙ (old.exact c mx my).1 there
            | inr is ↦ absurd (other (sym (at ∙ ap (λ (v : Spot). 64 * v.y + v.x) is)))
          ],
        )
  ];
}

-- the flag at a moved cell says whether the cell lands on the board
pub flag_says : (cells : List Spot) (flags : List Bool) (right down : ℕ) (c : Spot) (i : ℕ) (b : Bool) → AreFlagsOf cells flags → c.x + right < 64 → c.y + down < 64
    → i ≡ 64 * (c.y + down) + (c.x + right) → b ≡ get_or flags i b → IsTrue b ↔ LandsOn cells right down c
flag_says cells flags right down c i b are lx ly at is =
    let below : i < length flags = omega (arith, are.whole) in
    let e : flag_of flags (spot_moved right down c) ≡ b = ap (λ j. get_or flags j false) (sym at) ∙ sym (get_or_read flags i b below is false) in (
      λ up. record { in_width = lx; in_height = ly; on = (are.exact (spot_moved right down c) lx ly).0 (e ∙ up) },
      λ h. sym e ∙ (are.exact (spot_moved right down c) lx ly).1 h.on,
    )
