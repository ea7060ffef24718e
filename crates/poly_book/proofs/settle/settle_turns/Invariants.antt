use Rattle.poly_book.specs.Keeps.{Keeps, state_of}
use Rattle.poly_book.specs.Settled.{AreHopefulFrom, AreReported, Cuts}
use Rattle.poly_book.proofs.settle.settle_turns.Given as goal

abbrev pub invariant-loop-applied : goal.invariant-loop-applied
invariant-loop-applied l = record {
  keeps : Keeps l.parts;
  cuts : Cuts (state_of l.fn.parts) (state_of l.parts) l.applied;
  reports : AreReported l.fn.nodes l.applied (state_of l.fn.parts) (state_of l.parts);
  sure : AreHopefulFrom l.unsure (state_of l.parts);
}
