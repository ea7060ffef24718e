use Rattle.std.proofs.Common.{rules, [], refl, append-nil}
use Rattle.poly_cli.specs.Cutting.{open_line}
use Rattle.poly_cli.proofs.Cuts.{nothing_yet}
use Rattle.poly_cli.proofs.Known.{consumes_none}
use Rattle.poly_cli.proofs.Next.{found_line, found_end, found_fault, reads_on}
use Rattle.poly_cli.proofs.lines.Lines.next_line.Goals as goal

pub returns-then-cut-clause-next : goal.returns-then-cut-clause-next
returns-then-cut-clause-next g c =
    let s = c.loop-self.invariant.so_far in
    let e = c.if-cut.ensures in
    let k = e.cut (open_line [] s.piece) s.none.line in
    found_line _ _ _ _ _ s k.0 k.1 e.left.0 e.left.1 k.2

pub returns-in-End-clause-next : goal.returns-in-End-clause-next
returns-in-End-clause-next g c =
    let s = c.loop-self.invariant.so_far in
    let e = c.if-cut.ensures in
    let k = e.cut (open_line [] s.piece) s.none.line in
    let r = c.in-End.ensures in
    found_end _ _ c.cut.new.self _ _ _ _ s k.0 k.1 e.left.0 e.left.1 k.2.0 k.2.1 r.line.0 r.line.1 r.read

pub returns-in-Fault-clause-next : goal.returns-in-Fault-clause-next
returns-in-Fault-clause-next g c =
    let s = c.loop-self.invariant.so_far in
    let e = c.if-cut.ensures in
    let k = e.cut (open_line [] s.piece) s.none.line in
    let r = c.in-Fault.ensures in
    found_fault _ _ c.cut.new.self _ _ _ _ s k.0 k.1 e.left.0 e.left.1 k.2.0 k.2.1 r.line.0 r.line.1 r.read

pub loop-self-preserved : goal.loop-self-preserved
loop-self-preserved g c =
    let s = c.loop-self.invariant.so_far in
    let e = c.if-cut.ensures in
    let k = e.cut (open_line [] s.piece) s.none.line in
    let r = c.in-Line.ensures in
    record {
      ready = r.ready;
      so_far = reads_on _ _ c.cut.new.self _ _ _ _ s k.0 k.1 e.left.0 e.left.1 k.2.0 k.2.1 r.line.0 r.line.1 r.read;
    }

pub loop-self-init : goal.loop-self-init
loop-self-init g c = record {
  ready = search rules;
  so_far = record {
    piece = [];
    taken = [];
    consumed = consumes_none _;
    counted = search rules;
    parts = append-nil _;
    limit = refl;
    none = rw c.clear.ensures.items (nothing_yet _);
  };
}
