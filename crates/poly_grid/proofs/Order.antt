-- Cells are ordered by row, then by column.
use Rattle.std.proofs.Common.{◌≡◌, ◌<◌, ◌≤◌, ◌↔◌, inl, inr, refl, ap, arith}
use Rattle.std.specs.declared.cmp.Ordering.{Ordering}
use Rattle.std.specs.declared.cmp.Ordering.TheVariants.{Less, Equal, Greater}
use Rattle.std.specs.Cmp.{ranks}
use Rattle.std.specs.Ordering.{MatchOrdering, nat_cmp, ordering_then}
use Rattle.poly_grid.specs.Spot.{Spot}
use Rattle.poly_grid.specs.Laws.{IsBefore, CellsGoByRow}

not_before : (a b : Spot) → b.y ≤ a.y → (a.y ≡ b.y → b.x ≤ a.x) → IsBefore a b → ⊥
not_before a b row column (inl h) = omega arith
not_before a b row column (inr h) = omega (arith, column h.0)

-- the order of a and b, given the results of comparing their rows and their columns
by_answers : (row column : Ordering) (a b : Spot)
    → MatchOrdering row (a.y < b.y) (a.y ≡ b.y) (b.y < a.y) → MatchOrdering column (a.x < b.x) (a.x ≡ b.x) (b.x < a.x)
    → ((ordering_then row column ≡ Less) ↔ IsBefore a b) × ((ordering_then row column ≡ Equal) ↔ (a ≡ b))
by_answers Less column a b r c = ((λ _. inl r, λ _. refl), (λ e. cc, λ e. absurd (omega (arith, ap (λ (s : Spot). s.y) e))))
by_answers Equal Less a b r c = ((λ _. inr (r, c), λ _. refl), (λ e. cc, λ e. absurd (omega (arith, ap (λ (s : Spot). s.x) e))))
by_answers Equal Equal a b r c =
    ((λ e. cc, λ h. absurd (not_before a b (omega arith) (λ _. omega arith) h)), (λ _ i. record { x = c i; y = r i }, λ _. refl))
by_answers Equal Greater a b r c =
    ((λ e. cc, λ h. absurd (not_before a b (omega arith) (λ _. omega arith) h)), (λ e. cc, λ e. absurd (omega (arith, ap (λ (s : Spot). s.x) e))))
by_answers Greater column a b r c =
    ((λ e. cc, λ h. absurd (not_before a b (omega arith) (λ _. omega arith) h)), (λ e. cc, λ e. absurd (omega (arith, ap (λ (s : Spot). s.y) e))))

pub cells_go_by_row : CellsGoByRow
cells_go_by_row a b = by_answers (nat_cmp a.y b.y) (nat_cmp a.x b.x) a b (ranks a.y b.y) (ranks a.x b.x)
