use Rattle.std.proofs.Common.{arith}
use Rattle.poly_atom.proofs.Few.{few_pinned, few_unpinned}
use Rattle.poly_atom.proofs.Laid.{back_count, few_narrowed, few_needed, few_unneeded, few_widened, forth_count}
use Rattle.poly_atom.proofs.both.guard_counts.Goals as goal

pub overflow_add-forth-2 : goal.overflow_add-forth-2
overflow_add-forth-2 c =
    omega (arith, few_unneeded c.args.before.now c.args.after.now c.args.delta.now c.requires, few_widened c.args.before.now c.args.after.now c.args.delta.now c.requires, c.len.ensures, c.len-2.ensures, c.len-3.ensures)

pub overflow_add-forth-3 : goal.overflow_add-forth-3
overflow_add-forth-3 c =
    omega (arith, few_unneeded c.args.before.now c.args.after.now c.args.delta.now c.requires, few_widened c.args.before.now c.args.after.now c.args.delta.now c.requires, c.len.ensures, c.len-2.ensures, c.len-3.ensures, c.len-4.ensures, few_unpinned c.args.before.now c.args.after.now c.args.delta.now c.requires)

pub overflow_add-back-2 : goal.overflow_add-back-2
overflow_add-back-2 c =
    omega (arith, few_needed c.args.before.now c.args.after.now c.args.delta.now c.requires, few_narrowed c.args.before.now c.args.after.now c.args.delta.now c.requires, c.len-5.ensures, c.len-6.ensures, c.len-7.ensures)

pub overflow_add-back-3 : goal.overflow_add-back-3
overflow_add-back-3 c =
    omega (arith, few_needed c.args.before.now c.args.after.now c.args.delta.now c.requires, few_narrowed c.args.before.now c.args.after.now c.args.delta.now c.requires, c.len-5.ensures, c.len-6.ensures, c.len-7.ensures, c.len-8.ensures, few_pinned c.args.before.now c.args.after.now c.args.delta.now c.requires)

pub returns-clause-forth : goal.returns-clause-forth
returns-clause-forth c = omega (arith, forth_count c.args.before.now c.args.after.now c.args.delta.now c.requires, c.len.ensures, c.len-2.ensures, c.len-3.ensures, c.len-4.ensures)

pub returns-clause-back : goal.returns-clause-back
returns-clause-back c = omega (arith, back_count c.args.before.now c.args.after.now c.args.delta.now c.requires, c.len-5.ensures, c.len-6.ensures, c.len-7.ensures, c.len-8.ensures)
