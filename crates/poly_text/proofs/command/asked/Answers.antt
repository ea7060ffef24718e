use Rattle.std.proofs.Common.{sym, ◌∙◌}
use Rattle.std.proofs.lemmas.Bool.{false≢true}
use Rattle.poly_text.proofs.Blank.{blank_asks, none_is_blank}
use Rattle.poly_text.proofs.command.asked.Goals as goal

pub returns-then-is_blank-clause-says : goal.returns-then-is_blank-clause-says
returns-then-is_blank-clause-says c = blank_asks c.args.grid c.args.line.now (sym c.is_blank.ensures ∙ c.if-is_blank.true)

pub returns-in_err-words-clause-blank : goal.returns-in_err-words-clause-blank
returns-in_err-words-clause-blank c none = absurd (false≢true (sym c.if-is_blank.false ∙ c.is_blank.ensures ∙ none_is_blank c.args.line.now none))

pub returns-clause-blank : goal.returns-clause-blank
returns-clause-blank c none = absurd (false≢true (sym c.if-is_blank.false ∙ c.is_blank.ensures ∙ none_is_blank c.args.line.now none))
