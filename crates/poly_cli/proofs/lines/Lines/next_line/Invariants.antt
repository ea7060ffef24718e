use Rattle.poly_cli.specs.Buffered.{IsReady}
use Rattle.poly_cli.proofs.Next.{SoFar}
use Rattle.poly_cli.proofs.lines.Lines.next_line.Given as goal

abbrev pub invariant-loop-self : goal.invariant-loop-self
invariant-loop-self g l = record {
  ready : IsReady l.self;
  so_far : SoFar l.fn.self l.self (g.R.Read.remaining l.fn.reader) (g.R.Read.remaining l.reader);
}

abbrev pub decreases-loop-self : goal.decreases-loop-self
decreases-loop-self g l = l.self.left
