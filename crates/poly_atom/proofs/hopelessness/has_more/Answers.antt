use Rattle.std.proofs.Common.{ap, arith, nat_lt, sym, ◌+◌, ◌<◌, ◌∙◌, ◌≡◌}
use Rattle.std.proofs.lemmas.Bool.{lt-ltb}
use Rattle.std.proofs.lemmas.List.{at_drop_all, take_rest}
use Rattle.poly_tiling.specs.Lists.{one}
use Rattle.poly_tiling.specs.Puzzle.{count}
use Rattle.poly_atom.specs.Counted.{extra}
use Rattle.poly_atom.specs.Hopeless.{base}
use Rattle.poly_atom.proofs.Counted.{count_base, extra_more}
use Rattle.poly_atom.proofs.hopelessness.has_more.Goals as goal
use Rattle.poly_atom.proofs.hopelessness.has_more.Goals.{else-adds_one, then-adds_one}

pub loop-i-preserved : goal.loop-i-preserved
loop-i-preserved c =
    let more = extra_more c.args.view.now c.args.atoms.now c.loop-i.i c.args.item.now c.index-atoms-i.result _ c.loop-i-test.true c.index-atoms-i.is (take_rest c.args.atoms.now (c.loop-i.i + 1)) in
    elim c.if-adds_one.branch [
      | then-adds_one w ↦ record {
        counted = omega (arith, more, ap one (sym c.adds_one.ensures ∙ w.if-adds_one.true), c.loop-i.invariant.counted, w.n-is);
        fits = omega (arith, c.loop-i.invariant.fits, w.n-is);
      }
      | else-adds_one w ↦ record {
        counted = omega (arith, more, ap one (sym c.adds_one.ensures ∙ w.if-adds_one.false), c.loop-i.invariant.counted, w.n-is);
        fits = omega (arith, c.loop-i.invariant.fits, w.n-is);
      }
    ]

pub returns : goal.returns
returns c =
    let whole : c.loop-i.n ≡ count c.args.view.now (base c.args.view.now c.args.atoms.now) c.args.item.now =
    omega (arith, c.loop-i.invariant.counted, at_drop_all (λ t. extra c.args.view.now t c.args.item.now) c.args.atoms.now c.loop-i.i c.loop-i-test.false, count_base c.args.view.now c.args.atoms.now c.args.item.now c.pins-pins.ensures.well) in
    ap (λ n. nat_lt c.args.most n) whole

pub returns-then-most-n : goal.returns-then-most-n
returns-then-most-n c =
    let more : c.args.most < count c.args.view.now (base c.args.view.now c.args.atoms.now) c.args.item.now =
    omega (arith, c.loop-i.invariant.counted, count_base c.args.view.now c.args.atoms.now c.args.item.now c.pins-pins.ensures.well, c.if-most-n.true) in
    sym (lt-ltb _ _ more)
