-- If no pending task is hopeless by its own atoms before an event, or lacks a placement that these ask for, the same is true after it.
use Rattle.std.proofs.Common.{Bool, List, None, Option, Some, [], map, refl, subst, sym, true, ℕ, ◌++◌, ◌+◌, ◌∙◌, ◌∷◌, ◌≡◌}
use Rattle.std.proofs.lemmas.Bool.{and_from, and_parts, cond_both}
use Rattle.std.specs.List.{filter, list_all}
use Rattle.std.specs.Prelude.{not, ◌&&◌, ◌==◌}
use Rattle.poly_tiling.specs.Puzzle.{View}
use Rattle.poly_tiling.proofs.Lists.{all_append}
use Rattle.poly_atom.specs.declared.atom.Atom.{Atom}
use Rattle.poly_atom.specs.Guards.{guards}
use Rattle.poly_atom.specs.Hopeless.{hopeless}
use Rattle.poly_atom.specs.Stairs.{stairs}
use Rattle.poly_report.specs.Holds.{holds}
use Rattle.poly_report.specs.Leaves.{rests}
use Rattle.poly_report.specs.Sizes.{fits}
use Rattle.poly_report.specs.Trees.{Plan}
use Rattle.poly_book.specs.Events.{Edit, Event, Redo, Report, Undo, cut, handed_in, redone, step, undone}
use Rattle.poly_book.specs.Partition.{Becomes}
use Rattle.poly_tasks.specs.Shelves.{openings}
use Rattle.poly_book.specs.States.{State}
use Rattle.poly_tasks.specs.Stored.{Stored, Way}
use Rattle.poly_tasks.specs.Tasks.{AreAlive, AreSparing, Task, atoms_of, drop_task, find_task, hopeful, lay, tasks_from}
use Rattle.poly_tasks.proofs.Sparing.{all_filter, cut_sparing, moved_sparing}

from_alive : (v : View) (n : ℕ) (As : List (List Atom)) → list_all (λ A. not (hopeless v A)) As ≡ true → AreAlive v (tasks_from n As)
from_alive v n [] h = refl
from_alive v n (A ∷ As) h =
    let hs = and_parts (not (hopeless v A)) (list_all (λ B. not (hopeless v B)) As) h in
    and_from (not (hopeless v A)) (list_all (λ t. not (hopeless v t.own)) (tasks_from (n + 1) As)) hs.0 (from_alive v (n + 1) As hs.1)

fresh_alive : (v : View) (n : ℕ) (As : List (List Atom)) → AreAlive v (tasks_from n (hopeful v As))
fresh_alive v n As = from_alive v n (hopeful v As) (all_filter (λ A. not (hopeless v A)) As)

append_alive : (v : View) (ts us : List Task) → AreAlive v ts → AreAlive v us → AreAlive v (ts ++ us)
append_alive v ts us h k = let f : Task → Bool = λ t. not (hopeless v t.own) in all_append f ts us ∙ and_from (list_all f ts) (list_all f us) h k

drop_alive : (v : View) (k : ℕ) (ts : List Task) → AreAlive v ts → AreAlive v (drop_task k ts)
drop_alive v k [] h = refl
drop_alive v k (t ∷ ts) h =
    let f : Task → Bool = λ u. not (hopeless v u.own) in
    let hs = and_parts (f t) (list_all f ts) h in
    cond_both (t.number == k) ts (t ∷ drop_task k ts) (λ us. AreAlive v us) (λ e. hs.1) (λ e. and_from (f t) (list_all f (drop_task k ts)) hs.0 (drop_alive v k ts hs.1))

abbrev pub Lives : State → Type 0
Lives s = AreAlive s.view s.pending × AreSparing s.pending

moved_lives : (s : State) (w : View) (h : Option Stored) → Lives s →
    (AreAlive w (filter (λ t. not (hopeless w t.own)) (map (λ t. lay (guards s.view w) t) s.pending) ++ tasks_from s.next (hopeful w (openings h (stairs (guards s.view w))))))
    × AreSparing (filter (λ t. not (hopeless w t.own)) (map (λ t. lay (guards s.view w) t) s.pending) ++ tasks_from s.next (hopeful w (openings h (stairs (guards s.view w)))))
moved_lives s w h lives =
    let f : Task → Bool = λ t. not (hopeless w t.own) in
    let all = map (λ t. lay (guards s.view w) t) s.pending in
    let opened = openings h (stairs (guards s.view w)) in
    (append_alive w (filter f all) (tasks_from s.next (hopeful w opened)) (all_filter f all) (fresh_alive w s.next opened), moved_sparing s.view w s.next s.pending opened lives.0 lives.1)

undone_lives : (s : State) (w : View) (ways : List Way) → Lives s → Lives (undone s w ways)
undone_lives s w [] h = h
undone_lives s w (b ∷ ways) h = moved_lives s w b.shelf h

redone_lives : (s : State) (w : View) (ways : List Way) → Lives s → Lives (redone s w ways)
redone_lives s w [] h = h
redone_lives s w (b ∷ ways) h = moved_lives s w b.shelf h

cut_lives : (s : State) (k : ℕ) (t : Task) (tree : Plan) → Lives s → Lives (cut s k t tree)
cut_lives s k t tree h =
    let opened = rests s.view (atoms_of t) tree in
    (append_alive s.view (drop_task k s.pending) (tasks_from s.next (hopeful s.view opened)) (drop_alive s.view k s.pending h.0) (fresh_alive s.view s.next opened), cut_sparing s.view k s.next s.pending opened h.1)

handed_lives : (s : State) (k : ℕ) (o : Option Task) (tree : Plan) → Lives s → Lives (handed_in s k o tree)
handed_lives s k None tree h = h
handed_lives s k (Some t) tree h = cond_both (fits tree && holds s.view (atoms_of t) tree) (cut s k t tree) s (λ z. Lives z) (λ e. cut_lives s k t tree h) (λ e. h)

step_lives : (s : State) (e : Event) → Lives s → Lives (step s e)
step_lives s (Edit x w) h = moved_lives s w None h
step_lives s (Undo w) h = undone_lives s w s.back h
step_lives s (Redo w) h = redone_lives s w s.forth h
step_lives s (Report k tree) h = handed_lives s k (find_task k s.pending) tree h

pub becomes_lives : (s t : State) (e : Event) → Becomes (step s e) t → Lives s → Lives t
becomes_lives s t e b h = subst (λ z. Lives z) (sym b.same) (step_lives s e h)
