use Rattle.std.proofs.Common.{Bool, List, [], ap, drop, length, map, refl, slice_index_or, subst, sym, take, ◌++◌, ◌-◌, ◌∙◌, ◌≡◌}
use Rattle.std.proofs.lemmas.List.{take_rest}
use Rattle.std.specs.List.{list_all}
use Rattle.poly_atom.specs.declared.atom.Atom.{Atom}
use Rattle.poly_tasks.specs.declared.maps.Run.{Run}
use Rattle.poly_tasks.specs.Mapped.{AreRunsNoted, run_from, under}
use Rattle.poly_tasks.proofs.Mapping.{all_others}
use Rattle.poly_tasks.proofs.Spanning.{runs_kept, runs_own}
use Rattle.poly_tasks.proofs.maps.Maps.note_listed.Goals as goal
use Rattle.poly_tasks.proofs.maps.Maps.note_listed.Goals.{After-runs-1}

-- the runs that go on, and those that begin
runs_are : (c : After-runs-1) → c.begin_runs.new.runs.items ≡ take c.going_on-count.result c.args.runs.now.begun.items ++ map (run_from c.args.number) (drop c.going_on-count.result c.read_others.new.buffer.items)
runs_are c =
    let k = c.going_on-count.result in
    let begin : List Atom → List Run = map (run_from c.args.number) in
    let others = c.deref-2.result.now in
    c.in_ok-begin_runs.ensures.ok
    ∙ ap {B = List Run} (λ rs. rs ++ begin (take (length others - k) (drop k others))) c.truncate.ensures.items
    ∙ ap {B = List Run} (λ A. take k c.args.runs.now.begun.items ++ begin A) (take_rest others k ∙ ap (drop k) c.deref-2.ensures.value)

pub returns-clause-runs : goal.returns-clause-runs
returns-clause-runs c = λ m3 done.
    let m2 = c.note_runs.new.self in
    let r = c.args.runs.now in
    let k = c.going_on-count.result in
    let n = c.args.number in
    let ended = subst (AreRunsNoted m2 r.last) (take_rest c.deref.result.now k ∙ ap (drop k) c.deref.ensures.value) c.in_ok-note_runs.ensures.ok in
    let begun = subst (AreRunsNoted m3 n) (runs_are c) done.1 in (
      (λ a n h. done.0 a n (c.note_runs.ensures.wider a n h)),
      runs_kept m2 m3 r.last n k r.begun.items (map (run_from n) (drop k c.read_others.new.buffer.items)) done.0 c.going_on-count.ensures.late ended begun,
    )

pub returns-clause-ok : goal.returns-clause-ok
returns-clause-ok c = λ m3 done.
    let k = c.going_on-count.result in
    let n = c.args.number in
    let A = slice_index_or c.args.lists.now c.args.index [] in
    let f : Atom → Bool = λ a. under m3 a n in
    all_others f A (λ p. refl)
    (ap (list_all f) (sym c.in_ok-read_others.ensures.ok)
    ∙ runs_own m3 n k c.args.runs.now.begun.items c.read_others.new.buffer.items c.going_on-count.ensures.same c.going_on-count.ensures.firsts (subst (AreRunsNoted m3 n) (runs_are c) done.1))
