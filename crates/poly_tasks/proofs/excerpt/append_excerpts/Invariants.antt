use Rattle.std.proofs.Common.{take, ◌++◌, ◌≡◌}
use Rattle.poly_tasks.specs.Meaning.{excerpts_of}
use Rattle.poly_tasks.proofs.excerpt.append_excerpts.Given as goal

abbrev pub invariant-loop-excerpt : goal.invariant-loop-excerpt
invariant-loop-excerpt l = l.buffer.items ≡ l.fn.buffer.items ++ excerpts_of l.log (take l.excerpt-index l.excerpts)
