-- An atom and its negation.
use Rattle.std.proofs.Common.{ap, arith, refl, ◌+◌, ◌-◌, ◌≡◌}
use Rattle.std.proofs.lemmas.Bool.{ltb-true}
use Rattle.poly_atom.specs.declared.atom.Atom.TheVariants.{AtLeast, AtMost, Has, Lacks}
use Rattle.poly_atom.specs.Laws.{NegationIsOpposite, NegationIsUndone}
use Rattle.poly_atom.proofs.Stairs.{meets-negated}

pub negation_is_undone_lem : NegationIsUndone
negation_is_undone_lem (Has p) h = refl
negation_is_undone_lem (Lacks p) h = refl
negation_is_undone_lem (AtLeast i n) h = let l = ltb-true 0 n h in let e : (n - 1) + 1 ≡ n = omega arith in ap (λ m. AtLeast i m) e
negation_is_undone_lem (AtMost i n) h = let e : (n + 1) - 1 ≡ n = omega arith in ap (λ m. AtMost i m) e

pub negation_is_opposite_lem : NegationIsOpposite
negation_is_opposite_lem v T a h = meets-negated v T a h
