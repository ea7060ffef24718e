use Rattle.std.proofs.Common.{List, ap, arith, get_or, length, nat_lt, sym, true, ℕ, ◌<◌, ◌∙◌, ◌≡◌}
use Rattle.std.proofs.lemmas.List.{get_or_default}
use Rattle.poly_tiling.specs.declared.bound.Bound.{Bound}
use Rattle.poly_tiling.specs.Puzzle.{View, count}
use Rattle.poly_atom.specs.Hopeless.{base}
use Rattle.poly_atom.specs.declared.atom.Atom.{Atom}
use Rattle.poly_frame.specs.FrameItems.{no_bound}
use Rattle.poly_frame.specs.FrameSteps.{StepsKeep}
use Rattle.poly_frame.specs.Open.{least_at}
use Rattle.poly_frame.specs.declared.frame.matrix.Matrix.{Matrix}
use Rattle.poly_frame.specs.declared.frame.steps.Steps.{Steps}
use Rattle.poly_frame.specs.declared.frame.table.Table.{Table}
use Rattle.poly_frame.proofs.FrameQueries.{due_says}
use Rattle.poly_frame.proofs.frame.queries.listed_due.Goals as goal

-- the item at an index is due if its count is below its least
due_here : (v : View) (A : List Atom) (first : ℕ) (m : Matrix) (t : Table) (s : Steps) → StepsKeep v A first m t s → (b : ℕ) (bs : List Bound) (here : Bound) → bs ≡ v.bounds → b < length s.have.items → nat_lt (get_or s.have.items b 0) (get_or t.leasts.items b 0) ≡ true →
    nat_lt (count v (base v A) (get_or bs b here).item) (least_at v A (get_or bs b here).item) ≡ true
due_here v A first m t s K b bs here e l h =
    let low : b < length v.bounds = omega (arith, l, K.have_len) in
    ap (λ (bs : List Bound). nat_lt (count v (base v A) (get_or bs b here).item) (least_at v A (get_or bs b here).item)) e
    ∙ ap (λ (x : Bound). nat_lt (count v (base v A) x.item) (least_at v A x.item)) (sym (get_or_default v.bounds b no_bound here low))
    ∙ due_says v A first m t s.live.items s.have.items s.raised.items s.marks.items K b low ∙ h

pub returns-then-is_due_at : goal.returns-then-is_due_at
returns-then-is_due_at c =
    let n = c.args.node.now in
    let due = c.is_due_at.ensures c.if-is_due_at.true in
    due_here n.view.now n.trail.now n.base n.matrix.now n.table.now c.args.steps.now c.requires.kept c.in-Some.b c.items.result.now c.index-items-b.result c.items.ensures.value due.0 due.1

pub returns-in-Some-next_noted : goal.returns-in-Some-next_noted
returns-in-Some-next_noted c =
    let n = c.args.node.now in
    due_here n.view.now n.trail.now n.base n.matrix.now n.table.now c.args.steps.now c.requires.kept c.in-Some-next_noted.b c.items-in-Some-next_noted.result.now c.index-items-b-in-Some-next_noted.result c.items-in-Some-next_noted.ensures.value c.in-Some-next_noted.ensures.0 c.in-Some-next_noted.ensures.1
