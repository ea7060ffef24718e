use Rattle.std.proofs.Common.{ap, arith, length, map, not, sym, ◌+◌, ◌∙◌, ◌≡◌}
use Rattle.std.proofs.lemmas.List.{length-map}
use Rattle.poly_atom.specs.Hopeless.{hopeless}
use Rattle.poly_book.specs.Events.{hopeless_endings}
use Rattle.poly_tasks.specs.Meaning.{own_of, tasks_of}
use Rattle.poly_book.proofs.next_tasks.next_tasks.Goals as goal

pub fresh_tasks-requires-clause-next : goal.fresh_tasks-requires-clause-next
fresh_tasks-requires-clause-next c = c.requires.keeps.few_tasks

pub fresh_tasks-requires-clause-edition : goal.fresh_tasks-requires-clause-edition
fresh_tasks-requires-clause-edition c = omega (arith, c.len-edition.ensures, c.requires.keeps.log_length, c.requires.keeps.few_steps)

pub fresh_tasks-requires-clause-log : goal.fresh_tasks-requires-clause-log
fresh_tasks-requires-clause-log c = sym c.len-edition.ensures

pub endings_of-requires : goal.endings_of-requires
endings_of-requires c =
    let log = c.args.parts.now.log in
    let ps = c.args.parts.now.tasks.items in
    ap length (c.deref-2.ensures.value ∙ c.in_ok-flags.ensures.ok) ∙ length-map ps (λ p. not (hopeless c.args.view.now (own_of log p.own))) ∙ ap length (sym c.deref.ensures.value)

pub overflow_add-edition : goal.overflow_add-edition
overflow_add-edition c = omega (arith, c.len-edition.ensures, c.requires.keeps.log_length, c.requires.keeps.few_steps)

pub returns-clause-ok : goal.returns-clause-ok
returns-clause-ok c =
    let w = c.args.view.now in
    let log = c.args.parts.now.log in
    let ps = c.args.parts.now.tasks.items in
    let n = c.args.parts.now.next in
    let count : c.len-edition.result ≡ length log = c.len-edition.ensures in
    let all : c.deref.result.now ≡ ps = c.deref.ensures.value in
    let flags : c.in_ok-flags.flags.items ≡ map (λ p. not (hopeless w (own_of log p.own))) ps = c.in_ok-flags.ensures.ok in
    let given : c.deref-2.result.now ≡ map (λ p. not (hopeless w (own_of log p.own))) c.deref.result.now = c.deref-2.ensures.value ∙ flags ∙ ap (λ qs. map (λ p. not (hopeless w (own_of log p.own))) qs) (sym all) in
    let ended : c.in_ok-ended.ended.items ≡ hopeless_endings w (c.len-edition.result + 1) (tasks_of log c.deref.result.now) = c.in_ok-ended.ensures.ok log w given in
    record {
      fresh_are = c.in_ok-fresh.ensures.ok;
      few = c.in_ok-fresh.ensures.few;
      flags_are = flags;
      ended_are = ended ∙ (λ i. hopeless_endings w (count i + 1) (tasks_of log (all i)));
    }
