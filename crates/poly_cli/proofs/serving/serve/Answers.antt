use Rattle.std.proofs.Common.{◌≡◌, ◌∙◌, Bor, List, ℕ, [], refl, sym, arith, true≢false, append-nil}
use Rattle.std.specs.Prelude.{option_map}
use Rattle.std.proofs.lemmas.Result.{err_from_is_err_and}
use Rattle.poly_cli.specs.declared.lines.Event.TheVariants.{Line, End, Fault}
use Rattle.poly_cli.specs.Slow.{Slow}
use Rattle.poly_cli.proofs.Known.{consumes_none, appends_none}
use Rattle.poly_cli.proofs.Going.{goes_first}
use Rattle.poly_cli.proofs.Grids.{same_grid}
use Rattle.poly_cli.proofs.Answered.{line_answered, fault_served, limit_served, end_served, last_line, line_unserved}
use Rattle.poly_cli.proofs.serving.serve.Goals as goal

pub loop-answered-init : goal.loop-answered-init
loop-answered-init g c = record {
  buffer = c.requires.buffer;
  ready = c.requires.ready;
  kept = c.requires.kept;
  grid = c.requires.grid;
  so_far = record {
    done = [];
    taken = [];
    out = [];
    consumed = consumes_none _;
    counted = search arith;
    parts = append-nil _;
    limit = refl;
    whole = refl;
    lines = refl;
    wrote = appends_none _;
    goes = goes_first (Slow g.E.Engine.failures) c.args.lines.now.limit (g.E.Engine.state c.args.engine.now);
  };
}

pub loop-answered-preserved : goal.loop-answered-preserved
loop-answered-preserved g c =
    let i = c.loop-answered.invariant in
    let n = c.in-Line.ensures in
    let r = c.in_ok-respond-in-Line.ensures in
    record {
      buffer = n.ready;
      ready = r.ready;
      kept = r.kept;
      grid = i.grid ∙ sym (same_grid g.E.Engine.failures (g.E.Engine.state c.loop-answered.engine) (option_map (λ (l : Bor (List ℕ)). l.now) c.ended.result) r.says.0 (g.E.Engine.state c.respond.new.engine) r.says.1);
      so_far = line_answered (Slow g.E.Engine.failures) _ _ _ _ _ _ _ _ _ _ _ i.so_far n.next n.limit _ c.ended.ensures _ r.says.0 _ r.says.1 r.says.2;
    }

pub returns-in_err-respond-in-Line-clause-run : goal.returns-in_err-respond-in-Line-clause-run
returns-in_err-respond-in-Line-clause-run g c =
    let p = err_from_is_err_and c.from_residual.result c.from_residual.ensures.1 in
    let i = c.loop-answered.invariant in
    let n = c.in-Line.ensures in
    let r = c.in_err-respond-in-Line.ensures in
    rw (p.1, p.2) (line_unserved (Slow g.E.Engine.failures) _ _ _ _ _ _ _ _ _ _ _ i.so_far n.next _ c.loop-answered-test.true n.limit _ c.ended.ensures _ r.says.0 _ _ r.says.1 r.says.2)

pub returns-in-Fault-clause-run : goal.returns-in-Fault-clause-run
returns-in-Fault-clause-run g c = fault_served (Slow g.E.Engine.failures) _ _ _ _ _ _ _ _ _ _ _ c.loop-answered.invariant.so_far c.in-Fault.ensures.next _ (omega arith)

pub returns-then-is_empty-clause-run : goal.returns-then-is_empty-clause-run
returns-then-is_empty-clause-run g c = end_served (Slow g.E.Engine.failures) _ _ _ _ _ _ _ _ _ _ _ c.loop-answered.invariant.so_far c.in-End.ensures.next _ (c.if-is_empty.ensures.0 refl) (omega arith)

pub returns-in-End-clause-run : goal.returns-in-End-clause-run
returns-in-End-clause-run g c =
    let n = c.in-End.ensures in
    let r = c.respond-in-End.ensures in
    last_line (Slow g.E.Engine.failures) _ _ _ _ _ _ _ _ _ _ _ c.loop-answered.invariant.so_far n.next _ c.loop-answered-test.true (λ e. true≢false (sym (c.if-is_empty.ensures.1 e))) n.limit _ c.unended.ensures _ r.says.0 r.says.1 _ _ r.says.2

pub returns-then-is_empty-2-clause-run : goal.returns-then-is_empty-2-clause-run
returns-then-is_empty-2-clause-run g c = end_served (Slow g.E.Engine.failures) _ _ _ _ _ _ _ _ _ _ _ c.loop-answered.invariant.so_far c.in-End-next_line.ensures.next _ (c.if-is_empty-2.ensures.0 refl) (c.loop-answered.auto.answered-end)

pub returns-else-is_empty-2-clause-run : goal.returns-else-is_empty-2-clause-run
returns-else-is_empty-2-clause-run g c =
    let whole : c.loop-answered.answered ≡ c.args.most = omega arith in
    rw whole at (limit_served (Slow g.E.Engine.failures) _ _ _ _ _ _ _ _ _ _ _ c.loop-answered.invariant.so_far End c.in-End-next_line.ensures.next)

pub returns-in-Line-next_line-clause-run : goal.returns-in-Line-next_line-clause-run
returns-in-Line-next_line-clause-run g c =
    let whole : c.loop-answered.answered ≡ c.args.most = omega arith in
    rw whole at (limit_served (Slow g.E.Engine.failures) _ _ _ _ _ _ _ _ _ _ _ c.loop-answered.invariant.so_far Line c.in-Line-next_line.ensures.next)

pub returns-in-Fault-next_line-clause-run : goal.returns-in-Fault-next_line-clause-run
returns-in-Fault-next_line-clause-run g c =
    let whole : c.loop-answered.answered ≡ c.args.most = omega arith in
    rw whole at (limit_served (Slow g.E.Engine.failures) _ _ _ _ _ _ _ _ _ _ _ c.loop-answered.invariant.so_far Fault c.in-Fault-next_line.ensures.next)
