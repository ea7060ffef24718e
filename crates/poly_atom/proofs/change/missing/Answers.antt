use Rattle.std.proofs.Common.{ap, drop, eqb, get_or, not, sym, ◌++◌, ◌+◌, ◌∙◌}
use Rattle.std.specs.List.{filter}
use Rattle.std.proofs.lemmas.List.{get_or_default, map-id}
use Rattle.poly_tiling.specs.Lists.{mem}
use Rattle.poly_tiling.specs.Names.{below}
use Rattle.poly_atom.proofs.Merge.{is_missing, missing_on, walk, walk_done, walk_missing, walk_step}
use Rattle.poly_atom.proofs.change.missing.Goals as goal

pub loop-p-preserved : goal.loop-p-preserved
loop-p-preserved c =
    let x = get_or c.args.numbers.now c.loop-p.p-index 0 in
    record {
      inside = c.past-at.ensures.inside;
      walked =
          ap (λ ys. c.add_if.new.items.items ++ walk (below c.args.view.now) (λ p q. eqb p q) is_missing (λ p. p) (drop (c.loop-p.p-index + 1) c.args.numbers.now) ys) c.past-at.ensures.rest
          ∙ ap (λ t. c.add_if.new.items.items ++ t) (missing_on c.args.view.now c.args.numbers.now c.loop-p.p-index x (drop c.skip_numbers-here.result c.args.others.now) c.requires.numbers_up c.loop-p-test.true
          (get_or_default c.args.numbers.now c.loop-p.p-index 0 x c.loop-p-test.true))
          ∙ ap (λ out. out ++ walk (below c.args.view.now) (λ p q. eqb p q) is_missing (λ p. p) (drop (c.loop-p.p-index + 1) c.args.numbers.now) (drop c.skip_numbers-here.result c.args.others.now)) c.in_ok-add_if.ensures
          ∙ walk_step (below c.args.view.now) (λ p q. eqb p q) is_missing (λ p. p) c.args.numbers.now c.loop-p.p-index x (drop c.loop-p.at c.args.others.now) (drop c.skip_numbers-here.result c.args.others.now)
          c.loop-p.rest.items _ c.loop-p-test.true (get_or_default c.args.numbers.now c.loop-p.p-index 0 x c.loop-p-test.true) c.skip_numbers-here.ensures.rest (ap not c.stands_at-is_missing.ensures)
          ∙ c.loop-p.invariant.walked;
    }

pub returns : goal.returns
returns c =
    sym (walk_done (below c.args.view.now) (λ p q. eqb p q) is_missing (λ p. p) c.args.numbers.now c.loop-p.p-index (drop c.loop-p.at c.args.others.now) c.loop-p.rest.items c.loop-p-test.false)
    ∙ c.loop-p.invariant.walked
    ∙ walk_missing c.args.view.now (λ p. p) c.args.numbers.now c.args.others.now c.requires.numbers_up c.requires.others_up
    ∙ map-id (filter (λ p. not (mem c.args.others.now p)) c.args.numbers.now)
