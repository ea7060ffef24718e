use Rattle.std.proofs.Common.{[], ap, get_or, subst, sym, take, ◌++◌, ◌∙◌}
use Rattle.std.proofs.lemmas.List.{take_all}
use Rattle.std.specs.List.{filter}
use Rattle.poly_tasks.specs.declared.excerpt.Excerpt.TheVariants.{Guards}
use Rattle.poly_tasks.specs.Judged.{is_harmful}
use Rattle.poly_tasks.specs.Meaning.{AreExcerpts, excerpt_of, excerpts_of}
use Rattle.poly_tasks.proofs.Basing.{excerpt_at, excerpts_more}
use Rattle.poly_tasks.proofs.Spotting.{spotted_both}
use Rattle.poly_tasks.proofs.base.Base.append_harmful.Goals as goal

pub append_harmful-requires-clause-excerpt : goal.append_harmful-requires-clause-excerpt
append_harmful-requires-clause-excerpt c =
    let xs = c.deref-excerpt-items.result.now in
    excerpt_at c.args.log.now xs c.loop-excerpt.excerpt-index (Guards 0 0) (subst (λ ys. AreExcerpts c.args.log.now ys) (sym c.deref-excerpt-items.ensures.value) c.requires.base.excerpts) c.loop-excerpt-test.true

pub loop-excerpt-preserved : goal.loop-excerpt-preserved
loop-excerpt-preserved c =
    let log = c.args.log.now in
    let ps = c.args.spots.now.placements.items in
    let xs = c.deref-excerpt-items.result.now in
    let i = c.loop-excerpt.excerpt-index in
    let x = get_or xs i (Guards 0 0) in
    let first = c.args.atoms.now.items ++ filter (is_harmful ps) (get_or c.args.self.now.lists c.args.self.now.index []) in
    c.in_ok-append_harmful.ensures.ok ∙ ap (λ A. A ++ filter (is_harmful ps) (excerpt_of log x)) c.loop-excerpt.invariant
    ∙ spotted_both ps (excerpts_of log (take i xs)) (excerpt_of log x) first
    ∙ ap (λ A. first ++ filter (is_harmful ps) A) (sym (excerpts_more log xs i (Guards 0 0) c.loop-excerpt-test.true))

pub returns-clause-ok : goal.returns-clause-ok
returns-clause-ok c =
    let log = c.args.log.now in
    let ps = c.args.spots.now.placements.items in
    let xs = c.deref-excerpt-items.result.now in
    let list = get_or c.args.self.now.lists c.args.self.now.index [] in
    c.loop-excerpt.invariant
    ∙ spotted_both ps list (excerpts_of log (take c.loop-excerpt.excerpt-index xs)) c.args.atoms.now.items
    ∙ ap (λ ys. c.args.atoms.now.items ++ filter (is_harmful ps) (list ++ excerpts_of log ys)) (take_all c.loop-excerpt.excerpt-index xs c.loop-excerpt-test.false ∙ c.deref-excerpt-items.ensures.value)
