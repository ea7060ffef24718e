-- When a list is a stair, or all atoms of a task.
use Rattle.std.proofs.Common.{List, [], arith, get_or, length, sym, take, ℕ, ◌++◌, ◌+◌, ◌<◌, ◌∙◌, ◌∷◌, ◌≡◌}
use Rattle.std.proofs.lemmas.List.{take_all, take_more}
use Rattle.poly_atom.specs.declared.atom.Atom.{Atom}
use Rattle.poly_atom.specs.Atoms.{negated}
use Rattle.poly_atom.specs.Stairs.{stairs}
use Rattle.poly_atom.proofs.Walks.{stairs_at}

-- the guards before the one at the index, and then the negation of that one
pub stair_by : (gs A : List Atom) (j : ℕ) (d a : Atom) → j < length gs → length A ≡ j + 1 → take j A ≡ take j gs → get_or A j a ≡ negated (get_or gs j d) → A ≡ get_or (stairs gs) j []
stair_by gs A j d a l n same last =
    sym (take_all (j + 1) A (omega (arith, n))) ∙ take_more A j a (omega (arith, n)) ∙ (λ i. same i ++ last i ∷ []) ∙ sym (stairs_at gs j d l)
