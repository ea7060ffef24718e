use Rattle.poly_frame.proofs.frame.room.prepare.Goals as goal

pub returns : goal.returns
returns c = record {
  kept = c.in_ok-begin_lists.ensures.kept;
  trail = c.in_ok-begin_lists.ensures.trail;
  sizes = c.in_ok-begin_lists.ensures.sizes;
  changes = c.in_ok-begin_lists.ensures.changes;
  len = c.in_ok-counted.ensures.len;
  row = c.in_ok-counted.ensures.row;
  consistent = c.in_ok-counted.ensures.consistent;
  have_len = c.in_ok-counted.ensures.have_len;
  have = c.in_ok-counted.ensures.have;
  table = c.in_ok-counted.ensures.table;
  why = tt;
}
