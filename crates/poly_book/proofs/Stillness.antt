-- `StaysQuiet` holds of an opening state, and an event keeps it.
use Rattle.std.proofs.Common.{List, None, Option, Some, [], inl, inr, not, refl, subst, sym, true, ℕ, ◌&&◌, ◌++◌, ◌≡◌}
use Rattle.std.proofs.lemmas.Bool.{cond_both, true≢false}
use Rattle.poly_design.specs.Layout.{Layout}
use Rattle.poly_tiling.specs.Puzzle.{View}
use Rattle.poly_tiling.proofs.Lists.{filter_in, in_append_cases, in_append_left, in_map, map_in}
use Rattle.poly_atom.specs.Hopeless.{hopeless}
use Rattle.poly_report.specs.Trees.{Plan}
use Rattle.poly_report.specs.Sizes.{fits}
use Rattle.poly_report.specs.Holds.{holds}
use Rattle.poly_report.specs.Leaves.{rests}
use Rattle.poly_tasks.specs.Tasks.{Task, atoms_of, drop_task, find_task, hopeful, tasks_from}
use Rattle.poly_book.specs.States.{State, opening}
use Rattle.poly_book.specs.Events.{Edit, Event, Goes, Redo, Report, Undo, cut, handed_in, step}
use Rattle.poly_book.specs.Partition.{Becomes}
use Rattle.poly_book.specs.Trails.{Led, Consistent, Trail, trailed}
use Rattle.poly_book.specs.Quiet.{HopelessAlong, StaysQuiet, hopeless_along, owns, stands}
use Rattle.poly_tasks.proofs.Numbered.{drop_in, found_in}
use Rattle.poly_report.proofs.OpenPaths.{rest_has}
use Rattle.poly_book.proofs.Along.{along_at, along_for, along_more}
use Rattle.poly_book.proofs.Coming.{tasks_in}
use Rattle.poly_book.proofs.Turning.{edited_stays_quiet, redone_stays_quiet, undone_stays_quiet}

cut_hopeless : (m : ℕ) (s : State) (k : ℕ) (t : Task) (tree : Plan) (ways : List Led) → find_task k s.pending ≡ Some t → stands m ways ≡ true → HopelessAlong m ways (owns s.pending) → HopelessAlong m ways (owns (cut s k t tree).pending)
cut_hopeless m s k t tree ways found y d =
    let opened = hopeful s.view (rests s.view (atoms_of t) tree) in
    along_for m ways (owns s.pending) (owns (cut s k t tree).pending) d (λ A i.
    let u = map_in (λ t. t.own) (drop_task k s.pending ++ tasks_from s.next opened) A i in
    subst (λ B. hopeless_along m ways B ≡ true) u.2 (elim (in_append_cases u.0 (drop_task k s.pending) (tasks_from s.next opened) u.1) [
      | inl j ↦ along_at m ways (owns s.pending) d y u.0.own (in_map (λ t. t.own) s.pending u.0 (drop_in k s.pending u.0 j))
      | inr j ↦
          let r = (filter_in (λ A. not (hopeless s.view A)) (rests s.view (atoms_of t) tree) u.0.own (tasks_in s.next opened u.0 j)).0 in
          along_more m ways t.own u.0.own (λ a x. rest_has s.view tree (atoms_of t) u.0.own r a (in_append_left a t.own t.laid x))
          (along_at m ways (owns s.pending) d y t.own (in_map (λ t. t.own) s.pending t (found_in k s.pending t found).0))
    ]))

handed_stays_quiet : (s : State) (t : Trail) (k : ℕ) (tree : Plan) (o : Option Task) → find_task k s.pending ≡ o → StaysQuiet s t → StaysQuiet (handed_in s k o tree) t
handed_stays_quiet s t k tree None e p = p
handed_stays_quiet s t k tree (Some u) e p = cond_both (fits tree && holds s.view (atoms_of u) tree) (cut s k u tree) s (λ z. StaysQuiet z t)
    (λ h. record {
      back_falls = p.back_falls;
      forth_falls = p.forth_falls;
      back_hopeless = λ m q y. cut_hopeless m s k u tree t.back e y (p.back_hopeless m q y);
      forth_hopeless = λ m q y. cut_hopeless m s k u tree t.forth e y (p.forth_hopeless m q y);
    })
    (λ h. p)

pub step_stays_quiet : (s : State) (e : Event) (t : Trail) → Goes s e → Consistent s t → StaysQuiet s t → StaysQuiet (step s e) (trailed s e t)
step_stays_quiet s (Edit x w) t g p k = edited_stays_quiet s t x w k
step_stays_quiet s (Undo w) t g p k = undone_stays_quiet s t w s.back t.back p k p.back_follows p.served p.back_named g k.back_falls k.back_hopeless
step_stays_quiet s (Redo w) t g p k = redone_stays_quiet s t w s.forth t.forth p k p.forth_follows p.led p.forth_named g k.forth_falls k.forth_hopeless
step_stays_quiet s (Report j tree) t g p k = handed_stays_quiet s t j tree (find_task j s.pending) refl k

pub opening_stays_quiet : (d : Layout) (v : View) → StaysQuiet (opening d v) (record { back = []; forth = [] })
opening_stays_quiet d v = record { back_falls = tt; forth_falls = tt; back_hopeless = λ m q h. absurd (true≢false (sym h)); forth_hopeless = λ m q h. absurd (true≢false (sym h)) }

relisted_stays_quiet : (s : State) (L : List (List ℕ)) (t : Trail) → StaysQuiet s t → StaysQuiet (record s { listed = L }) t
relisted_stays_quiet s L t p = record { back_falls = p.back_falls; forth_falls = p.forth_falls; back_hopeless = p.back_hopeless; forth_hopeless = p.forth_hopeless }

pub becomes_stays_quiet : (s z : State) (t : Trail) → Becomes s z → StaysQuiet s t → StaysQuiet z t
becomes_stays_quiet s z t k p = subst (λ y. StaysQuiet y t) (sym k.same) (relisted_stays_quiet s z.listed t p)
