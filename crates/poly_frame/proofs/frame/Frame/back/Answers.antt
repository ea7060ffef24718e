use Rattle.std.proofs.Common.{List, Vec, ap, arith, length, reverse, subst, sym, take, vec_capacity, ℕ, ◌-◌, ◌<◌, ◌∙◌, ◌≡◌}
use Rattle.std.proofs.lemmas.List.{length-take}
use Rattle.std.specs.Global.{Global}
use Rattle.poly_tiling.specs.Puzzle.{View}
use Rattle.poly_atom.specs.declared.atom.Atom.{Atom}
use Rattle.poly_atom.specs.Hopeless.{base}
use Rattle.poly_frame.specs.Alive.{AliveShows}
use Rattle.poly_frame.specs.FrameConsistent.{ConsistentShows}
use Rattle.poly_frame.specs.FrameMembers.{SizesShow}
use Rattle.poly_frame.specs.FrameSteps.{HasRoom, StepsKeep}
use Rattle.poly_frame.specs.Frames.{IsFrame}
use Rattle.poly_frame.specs.Layers.{PileShows}
use Rattle.poly_frame.specs.Matrices.{matrix_of}
use Rattle.poly_frame.specs.Walk.{Walk, step_back}
use Rattle.poly_frame.specs.declared.frame.layers.Layer.{Layer}
use Rattle.poly_frame.specs.declared.frame.matrix.Matrix.{Matrix}
use Rattle.poly_frame.specs.declared.frame.node.Stand.{Stand}
use Rattle.poly_frame.specs.declared.frame.steps.Steps.{Steps}
use Rattle.poly_frame.specs.declared.frame.table.Table.{Table}
use Rattle.poly_frame.proofs.Alive.{alive_less}
use Rattle.poly_frame.proofs.Layers.{pile_less}
use Rattle.poly_frame.proofs.Stepped.{kept_at, shown_at}
use Rattle.poly_frame.proofs.frame.Frame.back.Goals as goal

-- what is left at the node once the last of its atoms is undone
record Undone (v : View) (A : List Atom) (given first : ℕ) (m : Matrix) (t : Table) (members sizes : List ℕ) (consistent : ℕ) (s : Steps) : Type 0 where
  kept : StepsKeep v (take (length A - 1) A) first m t s
  room : HasRoom m s
  holds : members ≡ base v (take (length A - 1) A)
  grown : SizesShow v (take (length A - 1) A) given sizes
  right : ConsistentShows v (take (length A - 1) A) given consistent

undone_here : (v w : View) (A B : List Atom) (given g first f : ℕ) (m n : Matrix) (t u : Table) (members sizes : List ℕ) (consistent : ℕ) (s : Steps) → w ≡ v → B ≡ A → g ≡ given → f ≡ first → n ≡ m → u ≡ t →
    Undone w B g f n u members sizes consistent s → Undone v A given first m t members sizes consistent s
undone_here v w A B given g first f m n t u members sizes consistent s ev eA eg ef em et S =
    subst (λ x. Undone v A given first m x members sizes consistent s) et
    (subst (λ x. Undone v A given first x u members sizes consistent s) em
    (subst (λ x. Undone v A given x n u members sizes consistent s) ef
    (subst (λ x. Undone v A x f n u members sizes consistent s) eg
    (subst (λ x. Undone v x g f n u members sizes consistent s) eA
    (subst (λ x. Undone x B g f n u members sizes consistent s) ev S)))))

frame_undone : (v : View) (trail trail2 : Vec Atom Global) (given : ℕ) (members members2 sizes sizes2 : Vec ℕ Global) (consistent consistent2 : ℕ) (options : Vec ℕ Global) (m m2 : Matrix) (t t2 : Table) (s s2 : Steps) (first first2 : ℕ) (under under2 : List Layer) (alive : List ℕ) →
    IsFrame v trail given members sizes consistent options m t s first under alive → Undone v trail.items given first2 m2 t2 members2.items sizes2.items consistent2 s2 → PileShows v trail.items given first2 (reverse under2) → first2 < length trail.items → given < length trail.items →
    trail2.items ≡ take (length trail.items - 1) trail.items → vec_capacity trail2 ≡ vec_capacity trail → vec_capacity members2 ≡ vec_capacity members → vec_capacity sizes2 ≡ vec_capacity sizes →
    IsFrame v trail2 given members2 sizes2 consistent2 options m2 t2 s2 first2 under2 alive
frame_undone v trail trail2 given members members2 sizes sizes2 consistent consistent2 options m m2 t t2 s s2 first first2 under under2 alive F S pile below some items capacity room space =
    let n = length trail.items - 1 in
    let size : length trail2.items ≡ n = ap length items ∙ length-take n trail.items ∙ omega arith in
    record {
      lists = record {
        begun = omega (arith, some, size, trail2.ok.0);
        few = omega (arith, F.lists.few, size, trail.ok.0, trail2.ok.0);
        steps = omega (arith, F.lists.steps, capacity);
        base = subst (λ (B : List Atom). members2.items ≡ base v B) (sym items) S.holds;
        room = omega (arith, F.lists.room, room);
        answers = F.lists.answers;
      };
      grown = subst (λ (B : List Atom). SizesShow v B given sizes2.items) (sym items) S.grown;
      right = subst (λ (B : List Atom). ConsistentShows v B given consistent2) (sym items) S.right;
      changes = omega (arith, F.changes, space);
      levels = subst (λ (B : List Atom). StepsKeep v B first2 m2 t2 s2) (sym items) S.kept;
      room = S.room;
      pile = subst (λ (B : List Atom). PileShows v B given first2 (reverse under2)) (sym items) (pile_less v trail.items n given first2 (reverse under2) (omega (arith, below)) pile);
      lives = subst (λ (B : List Atom). AliveShows v B given alive) (sym items) (alive_less v trail.items n given alive (omega (arith, some)) F.lives);
    }

pub widen-requires-clause-levels : goal.widen-requires-clause-levels
widen-requires-clause-levels c =
    let f = c.self.inside in
    subst (λ (B : List Atom). StepsKeep f.stand.view.now B f.stand.base (matrix_of f.stand.columns) f.stand.table f.steps) (sym c.deref.ensures.value) c.self.invariant.levels

pub widen-requires-clause-room : goal.widen-requires-clause-room
widen-requires-clause-room c = c.self.invariant.room

pub widen-requires-clause-pile : goal.widen-requires-clause-pile
widen-requires-clause-pile c =
    let f = c.self.inside in
    subst (λ (B : List Atom). PileShows f.stand.view.now B f.stand.given f.stand.base (reverse f.under.items)) (sym c.deref.ensures.value) c.self.invariant.pile

pub widen-requires-clause-some : goal.widen-requires-clause-some
widen-requires-clause-some c =
    let at = c.self.inside.stand in
    subst (λ (B : List Atom). at.given < length B) (sym c.deref.ensures.value) (subst (λ (w : Walk). w.given < length w.atoms) (sym c.self.view_is) c.requires)

pub back-requires-clause-kept : goal.back-requires-clause-kept
back-requires-clause-kept c =
    let s = c.widen.new.stand in
    let n = c.node-node.result in
    let e = c.node-node.ensures in
    kept_at s.view.now n.view.now c.deref.result.now n.trail.now s.base n.base (matrix_of s.columns) n.matrix.now s.table n.table.now c.widen.new.steps e.view (e.trail ∙ c.deref-2.ensures.value ∙ sym c.deref.ensures.value) e.base e.matrix e.table c.widen.ensures.levels

pub back-requires-clause-room : goal.back-requires-clause-room
back-requires-clause-room c = subst (λ (m : Matrix). HasRoom m c.widen.new.steps) (sym c.node-node.ensures.matrix) c.widen.ensures.room

pub back-requires-clause-some : goal.back-requires-clause-some
back-requires-clause-some c =
    let e = c.node-node.ensures in
    omega (arith, e.base, c.widen.ensures.below, ap length (e.trail ∙ c.deref-2.ensures.value ∙ sym c.deref.ensures.value))

pub back-requires-2-clause-base : goal.back-requires-2-clause-base
back-requires-2-clause-base c =
    let f = c.self.inside in
    let n = c.node-node.result in
    let e = c.node-node.ensures in
    shown_at (λ v A g. f.members.items ≡ base v A) f.stand.view.now n.view.now f.trail.items n.trail.now f.stand.given n.given (e.view ∙ ap (λ (s : Stand). s.view.now) c.widen.ensures.stays) (e.trail ∙ c.deref-2.ensures.value) (e.given ∙ ap (λ (s : Stand). s.given) c.widen.ensures.stays) c.self.invariant.lists.base

pub back-requires-2-clause-sizes : goal.back-requires-2-clause-sizes
back-requires-2-clause-sizes c =
    let f = c.self.inside in
    let n = c.node-node.result in
    let e = c.node-node.ensures in
    shown_at (λ v A g. SizesShow v A g f.sizes.items) f.stand.view.now n.view.now f.trail.items n.trail.now f.stand.given n.given (e.view ∙ ap (λ (s : Stand). s.view.now) c.widen.ensures.stays) (e.trail ∙ c.deref-2.ensures.value) (e.given ∙ ap (λ (s : Stand). s.given) c.widen.ensures.stays) c.self.invariant.grown

pub back-requires-2-clause-some : goal.back-requires-2-clause-some
back-requires-2-clause-some c =
    let f = c.self.inside in
    let n = c.node-node.result in
    let e = c.node-node.ensures in
    shown_at (λ v A g. g < length A) f.stand.view.now n.view.now f.trail.items n.trail.now f.stand.given n.given (e.view ∙ ap (λ (s : Stand). s.view.now) c.widen.ensures.stays) (e.trail ∙ c.deref-2.ensures.value) (e.given ∙ ap (λ (s : Stand). s.given) c.widen.ensures.stays) (subst (λ (w : Walk). w.given < length w.atoms) (sym c.self.view_is) c.requires)

pub back-self-inside-requires-clause-shows : goal.back-self-inside-requires-clause-shows
back-self-inside-requires-clause-shows c =
    let f = c.self.inside in
    let n = c.node-node.result in
    let e = c.node-node.ensures in
    shown_at (λ v A g. ConsistentShows v A g f.consistent) f.stand.view.now n.view.now f.trail.items n.trail.now f.stand.given n.given (e.view ∙ ap (λ (s : Stand). s.view.now) c.widen.ensures.stays) (e.trail ∙ c.deref-2.ensures.value) (e.given ∙ ap (λ (s : Stand). s.given) c.widen.ensures.stays) c.self.invariant.right

pub back-self-inside-requires-clause-some : goal.back-self-inside-requires-clause-some
back-self-inside-requires-clause-some c =
    let f = c.self.inside in
    let n = c.node-node.result in
    let e = c.node-node.ensures in
    shown_at (λ v A g. g < length A) f.stand.view.now n.view.now f.trail.items n.trail.now f.stand.given n.given (e.view ∙ ap (λ (s : Stand). s.view.now) c.widen.ensures.stays) (e.trail ∙ c.deref-2.ensures.value) (e.given ∙ ap (λ (s : Stand). s.given) c.widen.ensures.stays) (subst (λ (w : Walk). w.given < length w.atoms) (sym c.self.view_is) c.requires)

pub invariant_of-self : goal.invariant_of-self
invariant_of-self c =
    let f = c.self.inside in
    let at = f.stand in
    let after = c.widen.new.stand in
    let trail = f.trail in
    let n = c.node-node.result in
    let e = c.node-node.ensures in
    let ev : after.view.now ≡ at.view.now = ap (λ (s : Stand). s.view.now) c.widen.ensures.stays in
    let eg : after.given ≡ at.given = ap (λ (s : Stand). s.given) c.widen.ensures.stays in
    let some : at.given < length trail.items = subst (λ (w : Walk). w.given < length w.atoms) (sym c.self.view_is) c.requires in
    let S = undone_here at.view.now n.view.now trail.items n.trail.now at.given n.given after.base n.base (matrix_of after.columns) n.matrix.now after.table n.table.now c.back-2.new.members.items c.back-2.new.sizes.items c.back-self-inside.result c.back.new.steps
    (e.view ∙ ev) (e.trail ∙ c.deref-2.ensures.value) (e.given ∙ eg) e.base e.matrix e.table (record {
      kept = c.back.ensures.kept;
      room = c.back.ensures.room;
      holds = c.back-2.ensures.base;
      grown = c.back-2.ensures.sizes;
      right = c.back-self-inside.ensures;
    }) in
    let pile = shown_at (λ v A g. PileShows v A g after.base (reverse c.widen.new.under.items)) after.view.now at.view.now c.deref.result.now trail.items after.given at.given (sym ev) (sym c.deref.ensures.value) (sym eg) c.widen.ensures.pile in
    let below : after.base < length trail.items = omega (arith, c.widen.ensures.below, ap length c.deref.ensures.value) in
    let cut : c.truncate.new.self.items ≡ take (length trail.items - 1) trail.items = c.truncate.ensures.items ∙ ap (λ k. take (k - 1) trail.items) (c.len-level.ensures ∙ trail.ok.0) in
    let F = frame_undone at.view.now trail c.truncate.new.self at.given f.members c.back-2.new.members f.sizes c.back-2.new.sizes f.consistent c.back-self-inside.result f.options (matrix_of at.columns) (matrix_of after.columns) at.table after.table f.steps c.back.new.steps at.base after.base f.under.items c.widen.new.under.items at.alive.items
    c.self.invariant S pile below some cut c.truncate.ensures.capacity c.back-2.ensures.room c.back-2.ensures.space in
    subst (λ (s : Stand). IsFrame s.view.now c.truncate.new.self s.given c.back-2.new.members c.back-2.new.sizes c.back-self-inside.result f.options (matrix_of after.columns) after.table c.back.new.steps after.base c.widen.new.under.items s.alive.items) (sym c.widen.ensures.stays) F

pub returns : goal.returns
returns c =
    let at = c.self.inside.stand in
    let trail = c.self.inside.trail in
    let cut : c.truncate.new.self.items ≡ take (length trail.items - 1) trail.items = c.truncate.ensures.items ∙ ap (λ k. take (k - 1) trail.items) (c.len-level.ensures ∙ trail.ok.0) in
    ap (λ (s : Stand). let x : Walk = record { scene = s.view.now; atoms = c.truncate.new.self.items; given = s.given } in x) c.widen.ensures.stays
    ∙ ap (λ (B : List Atom). let x : Walk = record { scene = at.view.now; atoms = B; given = at.given } in x) cut
    ∙ ap step_back c.self.view_is

pub overflow_sub-level : goal.overflow_sub-level
overflow_sub-level c =
    let at = c.self.inside.stand in
    let some : at.given < length c.self.inside.trail.items = subst (λ (w : Walk). w.given < length w.atoms) (sym c.self.view_is) c.requires in
    omega (arith, some, c.len-level.ensures, c.self.inside.trail.ok.0)
