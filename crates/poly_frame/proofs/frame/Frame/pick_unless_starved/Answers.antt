use Rattle.std.proofs.Common.{ap, arith, length, reverse, subst, sym, ◌+◌, ◌<◌, ◌∙◌, ◌≡◌}
use Rattle.poly_tiling.specs.Puzzle.{View}
use Rattle.poly_atom.specs.declared.atom.Atom.TheVariants.{Has}
use Rattle.poly_atom.specs.Hopeless.{base}
use Rattle.poly_frame.specs.FrameConsistent.{ConsistentShows}
use Rattle.poly_frame.specs.FrameMembers.{SizesShow}
use Rattle.poly_frame.specs.FrameSteps.{HasRoom}
use Rattle.poly_frame.specs.Frames.{IsFrame}
use Rattle.poly_frame.specs.Matrices.{matrix_of}
use Rattle.poly_frame.specs.Walk.{Walk}
use Rattle.poly_frame.specs.declared.frame.matrix.Matrix.{Matrix}
use Rattle.poly_frame.specs.declared.frame.steps.Steps.{Steps}
use Rattle.poly_frame.proofs.Layers.{pile_low}
use Rattle.poly_frame.proofs.Stepped.{frame_after, kept_at, shown_at, stepped_here}
use Rattle.poly_frame.proofs.frame.Frame.pick_unless_starved.Goals as goal

pub invariant_of-self-in-Taken : goal.invariant_of-self-in-Taken
invariant_of-self-in-Taken c =
    let f = c.self.inside in
    let at = f.stand in
    let n = c.node-node.result in
    let e = c.node-node.ensures in
    let a = Has c.args.placement in
    let members = c.pick-in-Taken.new.members in
    let sizes = c.pick-in-Taken.new.sizes in
    let consistent = c.taken-self-inside.result in
    let steps = c.try_pick.new.steps in
    let taken = c.in-Taken.ensures in
    let S = stepped_here at.view.now n.view.now f.trail.items n.trail.now at.given n.given at.base n.base (matrix_of at.columns) n.matrix.now at.table n.table.now a members.items sizes.items consistent steps e.view (e.trail ∙ c.deref.ensures.value) e.given e.base e.matrix e.table (record {
      kept = taken.2;
      room = taken.3;
      holds = c.pick-in-Taken.ensures.base;
      grown = c.pick-in-Taken.ensures.sizes;
      right = c.taken-self-inside.ensures;
    }) in
    frame_after at.view.now f.trail c.push_reserved.new.self at.given f.members members f.sizes sizes f.consistent consistent f.options (matrix_of at.columns) at.table f.steps steps at.base f.under.items a c.self.invariant S (subst (λ (w : Walk). length w.atoms < w.given + 4096) (sym c.self.view_is) c.requires) c.push_reserved.ensures.items c.push_reserved.ensures.capacity c.pick-in-Taken.ensures.room c.pick-in-Taken.ensures.space

pub try_pick-requires-clause-kept : goal.try_pick-requires-clause-kept
try_pick-requires-clause-kept c =
    let f = c.self.inside in
    let at = f.stand in
    let n = c.node-node.result in
    let e = c.node-node.ensures in
    kept_at at.view.now n.view.now f.trail.items n.trail.now at.base n.base (matrix_of at.columns) n.matrix.now at.table n.table.now f.steps e.view (e.trail ∙ c.deref.ensures.value) e.base e.matrix e.table c.self.invariant.levels

pub try_pick-requires-clause-room : goal.try_pick-requires-clause-room
try_pick-requires-clause-room c =
    let f = c.self.inside in
    let at = f.stand in
    let n = c.node-node.result in
    let e = c.node-node.ensures in
    subst (λ (m : Matrix). HasRoom m f.steps) (sym e.matrix) c.self.invariant.room

pub try_pick-requires-clause-few : goal.try_pick-requires-clause-few
try_pick-requires-clause-few c =
    let f = c.self.inside in
    let at = f.stand in
    let n = c.node-node.result in
    let e = c.node-node.ensures in
    omega (arith, pile_low at.view.now f.trail.items at.given at.base (reverse f.under.items) c.self.invariant.pile, subst (λ (w : Walk). length w.atoms < w.given + 4096) (sym c.self.view_is) c.requires, e.base, ap length (e.trail ∙ c.deref.ensures.value))

pub pick-requires-in-Taken-clause-base : goal.pick-requires-in-Taken-clause-base
pick-requires-in-Taken-clause-base c =
    let f = c.self.inside in
    let at = f.stand in
    let n = c.node-node.result in
    let e = c.node-node.ensures in
    shown_at (λ v A g. f.members.items ≡ base v A) at.view.now n.view.now f.trail.items n.trail.now at.given n.given e.view (e.trail ∙ c.deref.ensures.value) e.given c.self.invariant.lists.base

pub pick-requires-in-Taken-clause-sizes : goal.pick-requires-in-Taken-clause-sizes
pick-requires-in-Taken-clause-sizes c =
    let f = c.self.inside in
    let at = f.stand in
    let n = c.node-node.result in
    let e = c.node-node.ensures in
    shown_at (λ v A g. SizesShow v A g f.sizes.items) at.view.now n.view.now f.trail.items n.trail.now at.given n.given e.view (e.trail ∙ c.deref.ensures.value) e.given c.self.invariant.grown

pub pick-requires-in-Taken-clause-space : goal.pick-requires-in-Taken-clause-space
pick-requires-in-Taken-clause-space c =
    let f = c.self.inside in
    let at = f.stand in
    let n = c.node-node.result in
    let e = c.node-node.ensures in
    omega (arith, c.self.invariant.grown.steps, c.self.invariant.changes, f.sizes.ok.0, subst (λ (w : Walk). length w.atoms < w.given + 4096) (sym c.self.view_is) c.requires)

pub pick-requires-in-Taken-clause-room : goal.pick-requires-in-Taken-clause-room
pick-requires-in-Taken-clause-room c =
    let f = c.self.inside in
    let at = f.stand in
    let n = c.node-node.result in
    let e = c.node-node.ensures in
    omega (arith, c.self.invariant.lists.room, ap (λ (v : View). length v.pins) e.view, ap length (e.trail ∙ c.deref.ensures.value), subst (λ (w : Walk). length w.atoms < w.given + 4096) (sym c.self.view_is) c.requires)

pub taken-self-inside-requires-clause-shows : goal.taken-self-inside-requires-clause-shows
taken-self-inside-requires-clause-shows c =
    let f = c.self.inside in
    let at = f.stand in
    let n = c.node-node.result in
    let e = c.node-node.ensures in
    shown_at (λ v A g. ConsistentShows v A g f.consistent) at.view.now n.view.now f.trail.items n.trail.now at.given n.given e.view (e.trail ∙ c.deref.ensures.value) e.given c.self.invariant.right

pub taken-self-inside-requires-clause-low : goal.taken-self-inside-requires-clause-low
taken-self-inside-requires-clause-low c =
    let f = c.self.inside in
    let at = f.stand in
    let n = c.node-node.result in
    let e = c.node-node.ensures in
    omega (arith, c.self.invariant.lists.begun, f.trail.ok.0, e.given, ap length (e.trail ∙ c.deref.ensures.value))

pub taken-self-inside-requires-clause-members : goal.taken-self-inside-requires-clause-members
taken-self-inside-requires-clause-members c =
    let f = c.self.inside in
    let at = f.stand in
    let n = c.node-node.result in
    let e = c.node-node.ensures in
    c.deref-in-Taken.ensures.value ∙ (shown_at (λ v A g. f.members.items ≡ base v A) at.view.now n.view.now f.trail.items n.trail.now at.given n.given e.view (e.trail ∙ c.deref.ensures.value) e.given c.self.invariant.lists.base)

pub push_reserved-requires : goal.push_reserved-requires
push_reserved-requires c =
    let f = c.self.inside in
    let at = f.stand in
    let n = c.node-node.result in
    let e = c.node-node.ensures in
    omega (arith, c.self.invariant.lists.steps, f.trail.ok.0, subst (λ (w : Walk). length w.atoms < w.given + 4096) (sym c.self.view_is) c.requires)

pub taken-self-inside-requires-clause-opened : goal.taken-self-inside-requires-clause-opened
taken-self-inside-requires-clause-opened c = λ y. (c.in-Taken.ensures.0, c.in-Taken.ensures.1)

pub pick-requires : goal.pick-requires
pick-requires c = subst (λ (w : Walk). length w.atoms < w.given + 4096) (sym c.self.view_is) c.requires

pub invariant_of-self : goal.invariant_of-self
invariant_of-self c =
    let f = c.self.inside in
    let at = f.stand in
    let same : c.try_pick.new.steps ≡ f.steps = c.in-Starved.ensures.0 in
    subst (λ (s : Steps). IsFrame at.view.now f.trail at.given f.members f.sizes f.consistent f.options (matrix_of at.columns) at.table s at.base f.under.items at.alive.items) (sym same) c.self.invariant

pub invariant_of-self-in-Unknown : goal.invariant_of-self-in-Unknown
invariant_of-self-in-Unknown c =
    let f = c.self.inside in
    let at = f.stand in
    let same : c.try_pick.new.steps ≡ f.steps = c.in-Unknown.ensures in
    subst (λ (s : Steps). IsFrame at.view.now f.trail at.given f.members f.sizes f.consistent f.options (matrix_of at.columns) at.table s at.base f.under.items at.alive.items) (sym same) c.self.invariant
