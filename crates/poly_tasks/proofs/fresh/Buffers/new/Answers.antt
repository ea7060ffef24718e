use Rattle.poly_tasks.proofs.fresh.Buffers.new.Goals as goal

pub returns-clause-ready : goal.returns-clause-ready
returns-clause-ready c = λ log. record {
  none = c.in_ok-none.ensures.ok;
  harmed = c.in_ok-harmed.ensures.ok;
  laid = c.none.ensures c.args.view.now log;
  spots = c.none-2.ensures log;
  lead = c.none-3.ensures log;
}
