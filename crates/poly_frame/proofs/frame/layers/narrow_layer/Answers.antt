use Rattle.std.proofs.Common.{Bool, ap, arith, length, refl, sym, ℕ, ◌<◌, ◌^◌, ◌∙◌, ◌≤◌}
use Rattle.std.proofs.lemmas.Bool.{and_parts}
use Rattle.poly_tiling.specs.Lists.{mem}
use Rattle.poly_atom.specs.Hopeless.{base}
use Rattle.poly_frame.specs.Open.{open_in}
use Rattle.poly_frame.proofs.FrameSteps.{top_have}
use Rattle.poly_frame.proofs.Layers.{table_here}
use Rattle.poly_frame.proofs.Walks.{mem_filter}
use Rattle.poly_frame.proofs.frame.layers.narrow_layer.Goals as goal

pub start_again-requires-clause-table : goal.start_again-requires-clause-table
start_again-requires-clause-table c =
    let n = c.args.node.now in
    let s = c.args.steps.now in
    let t = c.in-Ok-table_again.ensures in
    let few : length (base n.view.now n.trail.now) < 2 ^ 63 = omega (arith, ap length c.requires.members, c.requires.few) in
    table_here n.view.now n.trail.now n.base n.matrix.now c.in-Ok.matrix n.table.now c.table_again.new.copy s.live.items s.have.items s.raised.items s.marks.items n.view.now.bounds _ c.requires.kept c.in-Ok.ensures.part c.in-Ok.ensures.all few refl refl t.limits t.mosts t.leasts t.listed t.end t.alone

pub start_again-requires-clause-open : goal.start_again-requires-clause-open
start_again-requires-clause-open c = λ q m.
    let n = c.args.node.now in
    let ns = n.matrix.now.numbers.items in
    let f : ℕ → Bool = λ p. open_in n.view.now n.trail.now p in
    (and_parts (mem ns q) (f q) (sym (mem_filter f ns q) ∙ ap (λ xs. mem xs q) (sym c.in-Ok.ensures.numbers) ∙ m)).1

pub start_again-requires-clause-have : goal.start_again-requires-clause-have
start_again-requires-clause-have c = λ b h.
    let n = c.args.node.now in
    let s = c.args.steps.now in
    top_have n.view.now n.trail.now n.base n.matrix.now n.table.now s.live.items s.have.items s.raised.items s.marks.items c.requires.kept b h

pub start_again-requires-clause-len : goal.start_again-requires-clause-len
start_again-requires-clause-len c = c.requires.kept.have_len

pub returns-clause-layer : goal.returns-clause-layer
returns-clause-layer c = record {
  levels = c.in-Ok-start_again.ensures.kept;
  room = c.in-Ok-start_again.ensures.room;
}

pub returns-clause-here : goal.returns-clause-here
returns-clause-here c = refl

pub slice_bounds-later-count : goal.slice_bounds-later-count
slice_bounds-later-count c = c.requires.kept.low

pub slice_bounds-later-start : goal.slice_bounds-later-start
slice_bounds-later-start c = c.requires.kept.low

to_itself : (n : ℕ) → n ≤ n
to_itself n = omega arith

pub slice_bounds-later-end : goal.slice_bounds-later-end
slice_bounds-later-end c = to_itself (length c.args.node.now.trail.now)
