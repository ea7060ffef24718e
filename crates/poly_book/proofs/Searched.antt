-- What a search found, for a task at an index.
use Rattle.std.proofs.Common.{List, Some, [], ap, arith, false, get_or, length, refl, subst, sym, true, ℕ, ◌∙◌, ◌∷◌, ◌≡◌}
use Rattle.std.specs.List.{position_from}
use Rattle.std.specs.Prelude.{◌==◌}
use Rattle.poly_tiling.specs.Puzzle.{View}
use Rattle.poly_atom.specs.declared.atom.Atom.{Atom}
use Rattle.poly_atom.specs.Hopeless.{hopeless}
use Rattle.poly_report.specs.Gather.{IsCutUp}
use Rattle.poly_report.specs.Leaves.{rests}
use Rattle.poly_report.specs.Opened.{opened}
use Rattle.poly_report.specs.Trees.{Plan}
use Rattle.poly_book.specs.declared.parts.Parts.{Parts}
use Rattle.poly_tasks.specs.declared.task.Pending.{Pending}
use Rattle.poly_book.specs.Findings.{HasAtoms, IsFound}
use Rattle.poly_book.specs.Keeps.{state_of}
use Rattle.poly_tasks.specs.Meaning.{task_of}
use Rattle.poly_book.specs.Reports.{AreLeaves}
use Rattle.poly_tasks.specs.Tasks.{AreHopeful, atoms_of}
use Rattle.poly_book.proofs.Hoping.{rests_hopeful}
use Rattle.poly_tasks.proofs.Indices.{at_find, first_at}

pub found_leaves : (p : Parts) (k index : ℕ) (v : View) (A : List Atom) (tree : Plan) (ts : List (List ℕ)) (rs : List (List Atom)) → v ≡ p.scene → IsFound v A tree ts rs →
    position_from (λ q. q.number == k) 0 p.tasks.items ≡ Some index → HasAtoms (state_of p).pending k A → AreLeaves p k index tree ts rs
found_leaves p k index v A tree ts rs same h first has = record {
  task = has.0;
  first = first;
  there = has.1;
  small = h.small;
  cut = subst (λ w. IsCutUp w (atoms_of has.0) tree ts rs) same (subst (λ B. IsCutUp v B tree ts rs) has.2 h.cut);
}

-- if A are all the task's atoms, the pending task has the atoms A
pub has_atoms_if : (p : Parts) (k index : ℕ) (x : Pending) (A : List Atom) → position_from (λ q. q.number == k) 0 p.tasks.items ≡ Some index → x ≡ get_or p.tasks.items index x → A ≡ atoms_of (task_of p.log x) → HasAtoms (state_of p).pending k A
has_atoms_if p k index x A first is atoms =
    let ps = p.tasks.items in
    (task_of p.log x, at_find k p.log ps index x (first_at k ps index first) ∙ ap (λ y. Some (task_of p.log y)) (sym is), atoms)

-- none of the lists that a search of the task's atoms left is hopeless, unless these atoms are
pub found_hopeful : (v w : View) (A : List Atom) (tree : Plan) (ts : List (List ℕ)) (rs : List (List Atom)) → v ≡ w → IsFound v A tree ts rs → hopeless w A ≡ false → AreHopeful w rs
found_hopeful v w A tree ts rs same h fine =
    let free : opened w A tree ≡ true = subst (λ u. opened u A tree ≡ true) same h.free in
    let left : rs ≡ rests w A tree = subst (λ u. rs ≡ rests u A tree) same h.cut.rests in
    subst (λ L. AreHopeful w L) (sym left) (rests_hopeful w A tree free fine)

-- without lists, none is hopeless
pub none_hopeful : (v : View) (rs : List (List Atom)) → length rs ≡ 0 → AreHopeful v rs
none_hopeful v [] h = refl
none_hopeful v (r ∷ rs) h = absurd (omega (arith, h))
