use Rattle.std.proofs.Common.{sym, ◌∙◌}
use Rattle.poly_text.proofs.CopiesWords.{copies_refused}
use Rattle.poly_text.proofs.command.edits.copies.Goals as goal

pub returns-in-Err : goal.returns-in-Err
returns-in-Err c =
    copies_refused c.args.words.now _ c.in_ok-name.name c.in-Err.refusal c.in-len3.len_at_least c.in-len3.len_below (sym c.name_of.ensures ∙ c.in_ok-name.ensures.ok_part) c.in-Err.ensures
