use Rattle.std.specs.Arc.{arc_value}
use Rattle.std.proofs.Common.{List, refl, subst, sym, ◌++◌, ◌≡◌}
use Rattle.poly_atom.specs.declared.atom.Atom.{Atom}
use Rattle.poly_atom.specs.Logs.{IsStairOf, stair_of}
use Rattle.poly_tasks.specs.Meaning.{IsOwn, base_of, own_of}
use Rattle.poly_tasks.proofs.spoilt.last_stair.Goals as goal

pub returns-in-Crossed : goal.returns-in-Crossed
returns-in-Crossed c = λ log h.
    let s = c.in-Crossed.stair in
    subst (λ o. IsOwn log o → IsStairOf log s × ((base : List Atom) × (own_of log o ≡ base ++ stair_of log s))) (sym c.in-Crossed.is) (λ k. (k.1, (base_of log (arc_value c.in-Crossed.field-0), refl))) h
