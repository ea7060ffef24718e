use Rattle.std.specs.Arc.{arc_value}
use Rattle.std.proofs.Common.{Bool, [], ap, slice_index_or, subst, sym, take, true, ◌++◌, ◌∙◌, ◌≡◌}
use Rattle.std.proofs.lemmas.Bool.{and_from}
use Rattle.std.specs.List.{list_all}
use Rattle.std.specs.Prelude.{OnOk}
use Rattle.poly_tiling.proofs.Lists.{all_append}
use Rattle.poly_atom.specs.declared.atom.Atom.{Atom}
use Rattle.poly_atom.specs.Logs.{stair_of}
use Rattle.poly_tasks.specs.Mapped.{IsPrefix, KeepsRuns, WillHave, below, under}
use Rattle.poly_tasks.specs.Meaning.{base_of, own_of}
use Rattle.poly_tasks.proofs.Mapping.{on_ok_all, on_ok_then, wide_atoms}
use Rattle.poly_tasks.proofs.Spanning.{runs_stay, will_have}
use Rattle.poly_tasks.proofs.maps.Maps.note_task.Goals as goal

pub returns-in-Listed-clause-prefix : goal.returns-in-Listed-clause-prefix
returns-in-Listed-clause-prefix c =
    let f = c.args.prefix.now in
    let log = c.args.log.now in
    let m = c.note_listed.new.self in
    let kept : IsPrefix m log f = λ n h. wide_atoms c.args.self.now m n (take f.count (slice_index_or log f.edition [])) c.note_listed.ensures.wider (c.requires.prefix n h) in
    on_ok_all c.note_listed.result (IsPrefix m log f) kept

pub returns-in-Listed-clause-ok : goal.returns-in-Listed-clause-ok
returns-in-Listed-clause-ok c =
    let log = c.args.log.now in
    subst (λ o. OnOk c.note_listed.result (WillHave c.note_listed.new.self c.note_listed.new.runs c.args.number (own_of log o))) (sym c.in-Listed.is) c.note_listed.ensures.ok

pub returns-in-Stair-clause-runs : goal.returns-in-Stair-clause-runs
returns-in-Stair-clause-runs c =
    let r = c.args.runs.now in
    let m = c.note_stair.new.self in
    on_ok_all c.note_stair.result (KeepsRuns c.args.self.now r m r) (runs_stay c.args.self.now m r c.note_stair.ensures.wider)

pub returns-in-Stair-clause-ok : goal.returns-in-Stair-clause-ok
returns-in-Stair-clause-ok c =
    let log = c.args.log.now in
    let m = c.note_stair.new.self in
    let r = c.args.runs.now in
    let k = c.args.number in
    on_ok_then c.note_stair.result (list_all (λ a. under m a k) (stair_of log c.in-Stair.stair) ≡ true) (WillHave m r k (own_of log c.args.own.now))
    (λ e. subst (λ o. WillHave m r k (own_of log o)) (sym c.in-Stair.is) (will_have m r k (stair_of log c.in-Stair.stair) e))
    c.note_stair.ensures.ok

pub returns-in-Crossed-clause-runs : goal.returns-in-Crossed-clause-runs
returns-in-Crossed-clause-runs c =
    let r = c.args.runs.now in
    let m = c.note_stair-in-Crossed.new.self in
    on_ok_all c.note_stair-in-Crossed.result (KeepsRuns c.args.self.now r m r) (runs_stay c.args.self.now m r c.note_stair-in-Crossed.ensures.wider)

pub returns-in-Crossed-clause-ok : goal.returns-in-Crossed-clause-ok
returns-in-Crossed-clause-ok c =
    let k = c.args.number in
    let log = c.args.log.now in
    let own = c.args.own.now in
    let base = base_of log (arc_value c.in-Crossed.field-0) in
    let stair = stair_of log c.in-Crossed.stair in
    let m = c.note_stair-in-Crossed.new.self in
    let f : Atom → Bool = λ a. under m a k in
    let is : own_of log own ≡ base ++ stair = ap (λ o. own_of log o) c.in-Crossed.is in
    let first = wide_atoms c.args.self.now m k base c.note_stair-in-Crossed.ensures.wider (subst (λ o. list_all (λ a. under c.args.self.now a k) (below log o) ≡ true) c.in-Crossed.is c.requires.base) in
    let r = c.args.runs.now in
    on_ok_then c.note_stair-in-Crossed.result (list_all f stair ≡ true) (WillHave m r k (own_of log own))
    (λ e. will_have m r k (own_of log own) (ap (list_all f) is ∙ all_append f base stair ∙ and_from (list_all f base) (list_all f stair) first e))
    c.note_stair-in-Crossed.ensures.ok
