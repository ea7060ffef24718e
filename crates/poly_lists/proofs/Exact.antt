-- `==` on atoms is true exactly if the atoms are the same.
use Rattle.std.proofs.Common.{eqb, refl, subst, sym, true, ◌≡◌}
use Rattle.std.proofs.lemmas.Bool.{and_from, and_parts, eq-eqb, eqb-true, true≢false}
use Rattle.std.specs.Prelude.{Decides}
use Rattle.poly_tiling.specs.contracts.item.ItemPartialEq.TheImpl.{eq-value as item_eq}
use Rattle.poly_tiling.specs.declared.item.Item.{Item}
use Rattle.poly_tiling.specs.declared.item.Item.TheVariants.{Cell, Piece}
use Rattle.poly_tiling.proofs.Tilings.{same_item_is, same_item_self}
use Rattle.poly_atom.specs.contracts.atom.AtomPartialEq.TheImpl.{eq-value as atom_eq}
use Rattle.poly_atom.specs.declared.atom.Atom.{Atom}
use Rattle.poly_atom.specs.declared.atom.Atom.TheVariants.{AtLeast, AtMost, Has, Lacks}

item_same : (i j : Item) → item_eq.it i j ≡ true → i ≡ j
item_same (Cell c) (Cell d) h = same_item_is (Cell c) (Cell d) h
item_same (Cell c) (Piece n) h = absurd (true≢false (sym h))
item_same (Piece m) (Cell d) h = absurd (true≢false (sym h))
item_same (Piece m) (Piece n) h = same_item_is (Piece m) (Piece n) h

item_self : (i : Item) → item_eq.it i i ≡ true
item_self (Cell c) = same_item_self (Cell c)
item_self (Piece n) = same_item_self (Piece n)

atom_same : (a b : Atom) → atom_eq.it a b ≡ true → a ≡ b
atom_same (Has p) (Has q) h = let e = eqb-true p q h in λ k. Has (e k)
atom_same (Has p) (Lacks q) h = absurd (true≢false (sym h))
atom_same (Has p) (AtLeast j n) h = absurd (true≢false (sym h))
atom_same (Has p) (AtMost j n) h = absurd (true≢false (sym h))
atom_same (Lacks p) (Has q) h = absurd (true≢false (sym h))
atom_same (Lacks p) (Lacks q) h = let e = eqb-true p q h in λ k. Lacks (e k)
atom_same (Lacks p) (AtLeast j n) h = absurd (true≢false (sym h))
atom_same (Lacks p) (AtMost j n) h = absurd (true≢false (sym h))
atom_same (AtLeast i m) (Has q) h = absurd (true≢false (sym h))
atom_same (AtLeast i m) (Lacks q) h = absurd (true≢false (sym h))
atom_same (AtLeast i m) (AtLeast j n) h =
    let both = and_parts (item_eq.it i j) (eqb m n) h in
    let item = item_same i j both.0 in
    let number = eqb-true m n both.1 in
    λ k. AtLeast (item k) (number k)
atom_same (AtLeast i m) (AtMost j n) h = absurd (true≢false (sym h))
atom_same (AtMost i m) (Has q) h = absurd (true≢false (sym h))
atom_same (AtMost i m) (Lacks q) h = absurd (true≢false (sym h))
atom_same (AtMost i m) (AtLeast j n) h = absurd (true≢false (sym h))
atom_same (AtMost i m) (AtMost j n) h =
    let both = and_parts (item_eq.it i j) (eqb m n) h in
    let item = item_same i j both.0 in
    let number = eqb-true m n both.1 in
    λ k. AtMost (item k) (number k)

atom_self : (a : Atom) → atom_eq.it a a ≡ true
atom_self (Has p) = eq-eqb p p refl
atom_self (Lacks p) = eq-eqb p p refl
atom_self (AtLeast i m) = and_from (item_eq.it i i) (eqb m m) (item_self i) (eq-eqb m m refl)
atom_self (AtMost i m) = and_from (item_eq.it i i) (eqb m m) (item_self i) (eq-eqb m m refl)

pub atom_decides : (a b : Atom) → Decides (atom_eq.it a b) (a ≡ b)
atom_decides a b = (atom_same a b, λ e. subst (λ x. atom_eq.it a x ≡ true) e (atom_self a))
