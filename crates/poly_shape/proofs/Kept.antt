-- How a list of cells is kept in an array.
use Rattle.std.proofs.Common.{◌≡◌, ℕ, ◌+◌, ◌-◌, ◌≤◌, List, ◌∷◌, ◌++◌, length, set, take, drop, replicate, ap, ◌∙◌, arith, rules}
use Rattle.std.proofs.lemmas.List.{places, same_lists, get_or-set_same, take_at, drop-replicate}
use Rattle.std.proofs.lemmas.Bool.{cases_eq}
use borrow.Rule.Slice.PartMut.{put_mid}
use Rattle.poly_grid.specs.Spot.{Spot}
use Rattle.poly_shape.specs.Cells.{IsCells, IsWellKept}

pub placed : {X : Type 0} (f b r : List X) (c : X) → length f + 1 + length b ≤ length r →
    set (put_mid (length f + 1) (length f + 1 + length b - (length f + 1)) (f ++ drop (length f) r) b) (length f) c
    ≡ (f ++ c ∷ b) ++ drop (length f + 1 + length b) r
placed f b r c fits = same_lists _ _ (search (rules, places)) (λ k d h. grind (arith, places, get_or-set_same, cases_eq k (length f)))

pub well_kept : (l room : List Spot) (n : ℕ) → length l ≡ n → IsCells l → room ≡ l ++ drop n (replicate 16 (record { x = 0; y = 0 })) → IsWellKept (record { cells = room; len = n })
well_kept l room n len ok is =
    let front : take n room ≡ l = ap (take n) is ∙ take_at l _ n len in
    record {
      full = ap length front ∙ len;
      padding = rw (front, len, is) (ap (λ t. l ++ t) (drop-replicate n 16 _));
      cells = rw front ok;
    }
