use Rattle.std.proofs.Common.{subst, sym, ◌++◌, ◌∙◌}
use Rattle.poly_tasks.specs.Meaning.{AreExcerpts, excerpts_of}
use Rattle.poly_tasks.proofs.base.Base.read.Goals as goal

pub append_excerpts-requires : goal.append_excerpts-requires
append_excerpts-requires c = subst (λ xs. AreExcerpts c.args.log.now xs) (sym c.deref.ensures.value) c.requires.excerpts

pub returns-clause-ok : goal.returns-clause-ok
returns-clause-ok c = c.in_ok-append_excerpts.ensures.ok ∙ (λ i. c.in_ok-read.ensures.ok i ++ excerpts_of c.args.log.now (c.deref.ensures.value i))
