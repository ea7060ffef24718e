use Rattle.std.proofs.Common.{rules, subst}
use Rattle.std.proofs.lemmas.List.{take_all}
use Rattle.poly_cli.proofs.Cuts.{goes_on, comes_to_end}
use Rattle.poly_cli.specs.Buffered.{EndsNone}
use Rattle.poly_cli.proofs.lines.gather.Goals as goal

pub returns-then-byte-eq10-clause-gathered : goal.returns-then-byte-eq10-clause-gathered
returns-then-byte-eq10-clause-gathered c = λ begun is. comes_to_end c.args.limit c.loop-i.i begun c.args.bytes.now _ c.loop-i-test.true c.if-byte-eq10.true (c.loop-i.invariant.so_far begun is)

pub loop-i-preserved : goal.loop-i-preserved
loop-i-preserved c = record {
  room = search rules;
  so_far = λ begun is. goes_on c.args.limit c.loop-i.i begun c.args.bytes.now _ _ c.loop-i-test.true c.if-byte-eq10.false (c.loop-i.invariant.so_far begun is) c.keep.ensures.line;
}

pub returns-clause-gathered : goal.returns-clause-gathered
returns-clause-gathered c = λ begun is. subst (λ z. EndsNone c.args.limit begun z c.loop-i.line.items) (take_all c.loop-i.i c.args.bytes.now c.loop-i-test.false) (c.loop-i.invariant.so_far begun is)
