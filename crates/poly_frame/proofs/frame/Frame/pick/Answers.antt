use Rattle.std.proofs.Common.{List, ap, arith, length, reverse, subst, sym, true, ◌+◌, ◌<◌, ◌∙◌, ◌≡◌}
use Rattle.poly_tiling.specs.Lists.{mem}
use Rattle.poly_tiling.specs.Puzzle.{View}
use Rattle.poly_atom.specs.declared.atom.Atom.{Atom}
use Rattle.poly_atom.specs.declared.atom.Atom.TheVariants.{Has}
use Rattle.poly_atom.specs.Hopeless.{base}
use Rattle.poly_frame.specs.FrameConsistent.{ConsistentShows}
use Rattle.poly_frame.specs.FrameMembers.{SizesShow}
use Rattle.poly_frame.specs.FrameSteps.{HasRoom}
use Rattle.poly_frame.specs.Matrices.{matrix_of}
use Rattle.poly_frame.specs.Open.{open_in}
use Rattle.poly_frame.specs.Walk.{Walk, with_step}
use Rattle.poly_frame.specs.declared.frame.matrix.Matrix.{Matrix}
use Rattle.poly_frame.proofs.Layers.{pile_low}
use Rattle.poly_frame.proofs.Stepped.{frame_after, kept_at, shown_at, stepped_here}
use Rattle.poly_frame.proofs.frame.Frame.pick.Goals as goal

pub invariant_of-self : goal.invariant_of-self
invariant_of-self c =
    let f = c.self.inside in
    let at = f.stand in
    let n = c.node-node.result in
    let e = c.node-node.ensures in
    let a = Has c.args.placement in
    let members = c.pick-2.new.members in
    let sizes = c.pick-2.new.sizes in
    let consistent = c.taken-self-inside.result in
    let steps = c.pick.new.steps in
    let S = stepped_here at.view.now n.view.now f.trail.items n.trail.now at.given n.given at.base n.base (matrix_of at.columns) n.matrix.now at.table n.table.now a members.items sizes.items consistent steps e.view (e.trail ∙ c.deref.ensures.value) e.given e.base e.matrix e.table (record {
      kept = c.pick.ensures.kept;
      room = c.pick.ensures.room;
      holds = c.pick-2.ensures.base;
      grown = c.pick-2.ensures.sizes;
      right = c.taken-self-inside.ensures;
    }) in
    frame_after at.view.now f.trail c.push_reserved.new.self at.given f.members members f.sizes sizes f.consistent consistent f.options (matrix_of at.columns) at.table f.steps steps at.base f.under.items a c.self.invariant S (subst (λ (w : Walk). length w.atoms < w.given + 4096) (sym c.self.view_is) c.requires) c.push_reserved.ensures.items c.push_reserved.ensures.capacity c.pick-2.ensures.room c.pick-2.ensures.space

pub pick-requires-clause-kept : goal.pick-requires-clause-kept
pick-requires-clause-kept c =
    let f = c.self.inside in
    let at = f.stand in
    let n = c.node-node.result in
    let e = c.node-node.ensures in
    kept_at at.view.now n.view.now f.trail.items n.trail.now at.base n.base (matrix_of at.columns) n.matrix.now at.table n.table.now f.steps e.view (e.trail ∙ c.deref.ensures.value) e.base e.matrix e.table c.self.invariant.levels

pub pick-requires-clause-room : goal.pick-requires-clause-room
pick-requires-clause-room c =
    let f = c.self.inside in
    let at = f.stand in
    let n = c.node-node.result in
    let e = c.node-node.ensures in
    subst (λ (m : Matrix). HasRoom m f.steps) (sym e.matrix) c.self.invariant.room

pub pick-requires-clause-few : goal.pick-requires-clause-few
pick-requires-clause-few c =
    let f = c.self.inside in
    let at = f.stand in
    let n = c.node-node.result in
    let e = c.node-node.ensures in
    omega (arith, pile_low at.view.now f.trail.items at.given at.base (reverse f.under.items) c.self.invariant.pile, subst (λ (w : Walk). length w.atoms < w.given + 4096) (sym c.self.view_is) c.requires, e.base, ap length (e.trail ∙ c.deref.ensures.value))

pub pick-requires-2-clause-base : goal.pick-requires-2-clause-base
pick-requires-2-clause-base c =
    let f = c.self.inside in
    let at = f.stand in
    let n = c.node-node.result in
    let e = c.node-node.ensures in
    shown_at (λ v A g. f.members.items ≡ base v A) at.view.now n.view.now f.trail.items n.trail.now at.given n.given e.view (e.trail ∙ c.deref.ensures.value) e.given c.self.invariant.lists.base

pub pick-requires-2-clause-sizes : goal.pick-requires-2-clause-sizes
pick-requires-2-clause-sizes c =
    let f = c.self.inside in
    let at = f.stand in
    let n = c.node-node.result in
    let e = c.node-node.ensures in
    shown_at (λ v A g. SizesShow v A g f.sizes.items) at.view.now n.view.now f.trail.items n.trail.now at.given n.given e.view (e.trail ∙ c.deref.ensures.value) e.given c.self.invariant.grown

pub pick-requires-2-clause-space : goal.pick-requires-2-clause-space
pick-requires-2-clause-space c =
    let f = c.self.inside in
    let at = f.stand in
    let n = c.node-node.result in
    let e = c.node-node.ensures in
    omega (arith, c.self.invariant.grown.steps, c.self.invariant.changes, f.sizes.ok.0, subst (λ (w : Walk). length w.atoms < w.given + 4096) (sym c.self.view_is) c.requires)

pub pick-requires-2-clause-room : goal.pick-requires-2-clause-room
pick-requires-2-clause-room c =
    let f = c.self.inside in
    let at = f.stand in
    let n = c.node-node.result in
    let e = c.node-node.ensures in
    omega (arith, c.self.invariant.lists.room, ap (λ (v : View). length v.pins) e.view, ap length (e.trail ∙ c.deref.ensures.value), subst (λ (w : Walk). length w.atoms < w.given + 4096) (sym c.self.view_is) c.requires)

pub taken-self-inside-requires-clause-shows : goal.taken-self-inside-requires-clause-shows
taken-self-inside-requires-clause-shows c =
    let f = c.self.inside in
    let at = f.stand in
    let n = c.node-node.result in
    let e = c.node-node.ensures in
    shown_at (λ v A g. ConsistentShows v A g f.consistent) at.view.now n.view.now f.trail.items n.trail.now at.given n.given e.view (e.trail ∙ c.deref.ensures.value) e.given c.self.invariant.right

pub taken-self-inside-requires-clause-low : goal.taken-self-inside-requires-clause-low
taken-self-inside-requires-clause-low c =
    let f = c.self.inside in
    let at = f.stand in
    let n = c.node-node.result in
    let e = c.node-node.ensures in
    omega (arith, c.self.invariant.lists.begun, f.trail.ok.0, e.given, ap length (e.trail ∙ c.deref.ensures.value))

pub taken-self-inside-requires-clause-members : goal.taken-self-inside-requires-clause-members
taken-self-inside-requires-clause-members c =
    let f = c.self.inside in
    let at = f.stand in
    let n = c.node-node.result in
    let e = c.node-node.ensures in
    c.deref-3.ensures.value ∙ (shown_at (λ v A g. f.members.items ≡ base v A) at.view.now n.view.now f.trail.items n.trail.now at.given n.given e.view (e.trail ∙ c.deref.ensures.value) e.given c.self.invariant.lists.base)

pub push_reserved-requires : goal.push_reserved-requires
push_reserved-requires c =
    let f = c.self.inside in
    let at = f.stand in
    let n = c.node-node.result in
    let e = c.node-node.ensures in
    omega (arith, c.self.invariant.lists.steps, f.trail.ok.0, subst (λ (w : Walk). length w.atoms < w.given + 4096) (sym c.self.view_is) c.requires)

pub pick-requires-clause-members : goal.pick-requires-clause-members
pick-requires-clause-members c =
    let f = c.self.inside in
    let at = f.stand in
    let n = c.node-node.result in
    let e = c.node-node.ensures in
    c.deref-2.ensures.value ∙ (shown_at (λ v A g. f.members.items ≡ base v A) at.view.now n.view.now f.trail.items n.trail.now at.given n.given e.view (e.trail ∙ c.deref.ensures.value) e.given c.self.invariant.lists.base)

pub taken-self-inside-requires-clause-opened : goal.taken-self-inside-requires-clause-opened
taken-self-inside-requires-clause-opened c =
    let f = c.self.inside in
    let at = f.stand in
    let n = c.node-node.result in
    let e = c.node-node.ensures in
    shown_at (λ v A g. c.stands_open-opened.result ≡ true → (mem v.live c.args.placement ≡ true) × (open_in v A c.args.placement ≡ true)) at.view.now n.view.now f.trail.items n.trail.now at.given n.given e.view (e.trail ∙ c.deref.ensures.value) e.given (subst (λ (w : Walk). c.stands_open-opened.result ≡ true → (mem w.scene.live c.args.placement ≡ true) × (open_in w.scene w.atoms c.args.placement ≡ true)) (sym c.self.view_is) c.stands_open-opened.ensures.open)

pub pick-requires-clause-opened : goal.pick-requires-clause-opened
pick-requires-clause-opened c =
    let f = c.self.inside in
    let at = f.stand in
    let n = c.node-node.result in
    let e = c.node-node.ensures in
    λ y. (shown_at (λ v A g. c.stands_open-opened.result ≡ true → (mem v.live c.args.placement ≡ true) × (open_in v A c.args.placement ≡ true)) at.view.now n.view.now f.trail.items n.trail.now at.given n.given e.view (e.trail ∙ c.deref.ensures.value) e.given (subst (λ (w : Walk). c.stands_open-opened.result ≡ true → (mem w.scene.live c.args.placement ≡ true) × (open_in w.scene w.atoms c.args.placement ≡ true)) (sym c.self.view_is) c.stands_open-opened.ensures.open) y).1

pub returns : goal.returns
returns c =
    let at = c.self.inside.stand in
    ap (λ (B : List Atom). let x : Walk = record { scene = at.view.now; atoms = B; given = at.given } in x) c.push_reserved.ensures.items ∙ ap (λ (w : Walk). with_step w (Has c.args.placement)) c.self.view_is
