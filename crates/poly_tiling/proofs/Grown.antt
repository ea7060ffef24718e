-- Assigning new numbers doesn't change whether a list is a tiling.
use Rattle.std.proofs.Common.{List, [], ap, append_assoc, arith, eqb, not, refl, slice_get, subst, sym, ℕ, ◌&&◌, ◌++◌, ◌∙◌, ◌≡◌}
use Rattle.std.proofs.lemmas.List.{append-nil}
use Rattle.poly_tiling.specs.declared.bound.Bound.{Bound}
use Rattle.poly_tiling.specs.declared.item.Item.{Item}
use Rattle.poly_tiling.specs.Puzzle.{View, bound_in, conflicts, share_cell}
use Rattle.poly_tiling.specs.Names.{Grown, Names, WellNamed}
use Rattle.poly_tiling.specs.Laws.{NumbersMayGrow}
use Rattle.poly_tiling.proofs.Lists.{In, same_truth}
use Rattle.poly_tiling.proofs.Tilings.{IsTiling, parts, whole}
use Rattle.poly_tiling.proofs.Named.{named, old_count}

-- a view that has grown has the same bounds
pub grown_bound : (v w : View) → Grown v w → (i : Item) (f : Bound → ℕ) → bound_in w.bounds i f ≡ bound_in v.bounds i f
grown_bound v w g i f = ap (λ bs. bound_in bs i f) g.2

conflict_same : (v w : View) → WellNamed v → Names v w → (p q : ℕ) → In p v.live → In q v.live → conflicts w p q ≡ conflicts v p q
conflict_same v w wn n p q i j = ap (λ o. not (eqb p q) && share_cell o (slice_get w.placements q)) (named v w wn n p i) ∙ ap (λ o. not (eqb p q) && share_cell (slice_get v.placements p) o) (named v w wn n q j)

up : (v w : View) (T : List ℕ) → WellNamed v → Grown v w → IsTiling v T → IsTiling w T
up v w T wn g t = record {
  up = t.up;
  placed = λ p i. subst (λ xs. In p xs) (sym g.1) (t.placed p i);
  apart = λ p q i j. conflict_same v w wn g.0 p q (t.placed p i) (t.placed q j) ∙ t.apart p q i j;
  enough = λ i. omega (arith, grown_bound v w g i (λ b. b.least), old_count v w T wn g.0 t.placed i, t.enough i);
  few = λ i. omega (arith, grown_bound v w g i (λ b. b.most), old_count v w T wn g.0 t.placed i, t.few i);
  pinned = λ p i. t.pinned p (subst (λ xs. In p xs) g.3 i);
}

down : (v w : View) (T : List ℕ) → WellNamed v → Grown v w → IsTiling w T → IsTiling v T
down v w T wn g t =
    let placed : (p : ℕ) → In p T → In p v.live = λ p i. subst (λ xs. In p xs) g.1 (t.placed p i) in
    record {
      up = t.up;
      placed = placed;
      apart = λ p q i j. sym (conflict_same v w wn g.0 p q (placed p i) (placed q j)) ∙ t.apart p q i j;
      enough = λ i. omega (arith, grown_bound v w g i (λ b. b.least), old_count v w T wn g.0 placed i, t.enough i);
      few = λ i. omega (arith, grown_bound v w g i (λ b. b.most), old_count v w T wn g.0 placed i, t.few i);
      pinned = λ p i. t.pinned p (subst (λ xs. In p xs) (sym g.3) i);
    }

pub numbers_may_grow_lem : NumbersMayGrow
numbers_may_grow_lem v w T wn g = same_truth _ _ (λ t. whole v T (down v w T wn g (parts w T t))) (λ t. whole w T (up v w T wn g (parts v T t)))

-- a view that grows twice has grown
pub names_on : (u v w : View) → Names u v → Names v w → Names u w
names_on u v w a b = (a.0 ++ b.0, b.1 ∙ ap (λ xs. xs ++ b.0) a.1 ∙ append_assoc u.placements a.0 b.0)

pub grown_on : (u v w : View) → Grown u v → Grown v w → Grown u w
grown_on u v w a b = (names_on u v w a.0 b.0, b.1 ∙ a.1, b.2 ∙ a.2, b.3 ∙ a.3)

pub grown_self : (v : View) → Grown v v
grown_self v = (([], sym (append-nil v.placements)), refl, refl, refl)
