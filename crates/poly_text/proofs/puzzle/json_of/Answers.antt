use Rattle.std.proofs.Common.{inr, sym, true≢false}
use Rattle.poly_text.proofs.Texts.{read_ok, read_err}
use Rattle.poly_text.proofs.puzzle.json_of.Goals as goal

pub returns-in-Ok : goal.returns-in-Ok
returns-in-Ok c = read_ok c.args.line.now _ c.in-Ok.ensures.ok.0 c.in-Ok.ensures.ok.1

pub returns-else-is_memory : goal.returns-else-is_memory
returns-else-is_memory c = inr (read_err c.args.line.now (λ u. c.in-Err.ensures.err (λ m. true≢false (sym (c.if-is_memory.ensures.1 m))) u))
