use Rattle.std.proofs.Common.{arith, ◌/◌}
use Rattle.poly_frame.proofs.FrameOpen.{begun_high, begun_low, begun_row, put_inside, put_past}
use Rattle.poly_frame.proofs.Words.{filled}
use Rattle.poly_frame.proofs.frame.opened.first_row.Goals as goal

pub loop-j-init : goal.loop-j-init
loop-j-init c =
    let a = c.args.n / 64 in
    let w = c.args.width in
    let x = c.ones.result in
    let full = filled a _ x c.clear.new.self.items c.resize.new.self.items c.clear.ensures.items c.clear.ensures.len c.in_ok-resize.ensures.items in
    let row = begun_row a w x _ c.resize.new.self.items c.resize-2.new.self.items full c.in_ok-resize.ensures.len (omega (arith, c.requires.wide)) c.in_ok-resize-2.ensures.items in
    record {
      len = omega (arith, c.in_ok-resize-2.ensures.len, c.resize-2.new.self.ok.0);
      inside = λ i h. begun_low a w x i c.resize-2.new.self.items row c.ones.ensures (omega (arith, h));
      past = λ i h l. begun_high a w x i c.resize-2.new.self.items row (omega (arith, h));
    }

pub loop-j-preserved : goal.loop-j-preserved
loop-j-preserved c =
    let inv = c.loop-j.invariant in
    let old = c.loop-j.row.items in
    let new = c.put_in.new.words.items in
    record {
      len = omega (arith, c.put_in.ensures.len, inv.len);
      inside = λ i h. put_inside old new c.loop-j.j i c.put_in.ensures.bits (λ b. inv.inside i b) h;
      past = λ i h l. put_past old new c.loop-j.j i c.put_in.ensures.bits (λ b. inv.past i b l) h;
    }
