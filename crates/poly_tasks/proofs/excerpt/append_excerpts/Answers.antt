use Rattle.std.proofs.Common.{ap, append_assoc, get_or, sym, take, ◌++◌, ◌∙◌}
use Rattle.poly_tasks.specs.declared.excerpt.Excerpt.TheVariants.{Guards}
use Rattle.poly_tasks.specs.Meaning.{excerpt_of, excerpts_of}
use Rattle.poly_tasks.proofs.Basing.{excerpt_at, excerpts_more}
use Rattle.poly_tasks.proofs.excerpt.append_excerpts.Goals as goal

pub append_to-requires : goal.append_to-requires
append_to-requires c = excerpt_at c.args.log.now c.args.excerpts.now c.loop-excerpt.excerpt-index (Guards 0 0) c.requires c.loop-excerpt-test.true

pub loop-excerpt-preserved : goal.loop-excerpt-preserved
loop-excerpt-preserved c =
    let log = c.args.log.now in
    let xs = c.args.excerpts.now in
    let i = c.loop-excerpt.excerpt-index in
    let x = get_or xs i (Guards 0 0) in
    let old = c.args.buffer.now.items in
    c.in_ok-append_to.ensures.ok ∙ ap (λ A. A ++ excerpt_of log x) c.loop-excerpt.invariant ∙ append_assoc old (excerpts_of log (take i xs)) (excerpt_of log x)
    ∙ ap (λ A. old ++ A) (sym (excerpts_more log xs i (Guards 0 0) c.loop-excerpt-test.true))
