-- Atoms that can be negated: the number of the negation is from 0 to 255.
use Rattle.std.proofs.Common.{Bool, List, [], arith, cond, drop, false, inl, inr, refl, suc, take, true, zero, ℕ, ◌&&◌, ◌++◌, ◌∷◌, ◌≡◌, ◌≤◌}
use Rattle.std.proofs.lemmas.Bool.{and_parts, leb-true}
use Rattle.std.specs.List.{list_all}
use Rattle.std.specs.Prelude.{nat_le}
use Rattle.poly_tiling.specs.declared.bound.Bound.{Bound}
use Rattle.poly_tiling.specs.declared.item.Item.{Item}
use Rattle.poly_tiling.specs.Puzzle.{View, bound_in, most, same_item}
use Rattle.poly_tiling.specs.Names.{WellNamed}
use Rattle.poly_tiling.proofs.Lists.{In}
use Rattle.poly_atom.specs.declared.atom.Atom.{Atom}
use Rattle.poly_atom.specs.declared.atom.Atom.TheVariants.{AtLeast, AtMost, Has, Lacks}
use Rattle.poly_atom.specs.Atoms.{AllSmall, IsSmall}
use Rattle.poly_atom.specs.Guards.{guards}
use Rattle.poly_atom.proofs.GuardKinds.{IsGuard, guard_is}

pub AllSmall-append : (A B : List Atom) → AllSmall A → AllSmall B → AllSmall (A ++ B)
AllSmall-append [] B a b = b
AllSmall-append (x ∷ A) B a b = (a.0, AllSmall-append A B a.1 b)

pub AllSmall-take : (n : ℕ) (A : List Atom) → AllSmall A → AllSmall (take n A)
AllSmall-take zero A a = tt
AllSmall-take (suc n) [] a = a
AllSmall-take (suc n) (x ∷ A) a = (a.0, AllSmall-take n A a.1)

pub AllSmall-drop : (n : ℕ) (A : List Atom) → AllSmall A → AllSmall (drop n A)
AllSmall-drop zero A a = a
AllSmall-drop (suc n) [] a = a
AllSmall-drop (suc n) (x ∷ A) a = AllSmall-drop n A a.1

pub small_from : (A : List Atom) → ((a : Atom) → In a A → IsSmall a) → AllSmall A
small_from [] h = tt
small_from (a ∷ A) h = (h a (inl refl), small_from A (λ b i. h b (inr i)))

low_at : (b : Bound) (bs : List Bound) (i : Item) (t : Bool) → b.most ≤ 16 → bound_in bs i (λ c. c.most) ≤ 16 → cond t b.most (bound_in bs i (λ c. c.most)) ≤ 16
low_at b bs i true h r = h
low_at b bs i false h r = r

bounds_low : (bs : List Bound) (i : Item) → list_all (λ b. nat_le b.least b.most && nat_le b.most 16) bs ≡ true → bound_in bs i (λ b. b.most) ≤ 16
bounds_low [] i h = omega arith
bounds_low (b ∷ bs) i h =
    let hs = and_parts (nat_le b.least b.most && nat_le b.most 16) (list_all (λ c. nat_le c.least c.most && nat_le c.most 16) bs) h in
    low_at b bs i (same_item b.item i) (leb-true b.most 16 (and_parts (nat_le b.least b.most) (nat_le b.most 16) hs.0).1) (bounds_low bs i hs.1)

-- the most of an item is at most 16
pub most_low : (v : View) → WellNamed v → (i : Item) → most v i ≤ 16
most_low v w i = bounds_low v.bounds i w.small

guard_small : (old new : View) → WellNamed old → (a : Atom) → IsGuard old new a → IsSmall a
guard_small old new w (Has p) g = tt
guard_small old new w (Lacks p) g = tt
guard_small old new w (AtLeast i n) g = g.1
guard_small old new w (AtMost i n) g = omega (arith, g.0, most_low old w i)

-- each guard of a change can be negated
pub guards_small : (old new : View) → WellNamed old → AllSmall (guards old new)
guards_small old new w = small_from (guards old new) (λ a i. guard_small old new w a (guard_is old new a i))
