use Rattle.std.proofs.Common.{List, ap, arith, length, refl, subst, ℕ, ◌&&◌, ◌∙◌, ◌≡◌}
use Rattle.std.specs.List.{filter}
use Rattle.poly_tiling.specs.Lists.{distinct, mem}
use Rattle.poly_tiling.specs.Puzzle.{View, has_item}
use Rattle.poly_frame.specs.Open.{open_in}
use Rattle.poly_atom.specs.declared.atom.Atom.{Atom}
use Rattle.poly_frame.specs.Matrices.{matrix_of}
use Rattle.poly_frame.specs.Walk.{Walk, is_option}
use Rattle.poly_frame.specs.declared.frame.matrix.Matrix.{Matrix}
use Rattle.poly_frame.proofs.FrameQueries.{options_members, options_once}
use Rattle.poly_frame.proofs.frame.Frame.options.Goals as goal

pub list_options-requires-clause-space : goal.list_options-requires-clause-space
list_options-requires-clause-space c = omega (arith, ap (λ (m : Matrix). length m.numbers.items) c.node-node.ensures.matrix, c.self.invariant.levels.table.matrix.fewer, c.self.invariant.lists.answers)

pub returns : goal.returns
returns c =
    let v = c.self.inside.stand.view.now in
    let A = c.self.inside.trail.items in
    let matrix = matrix_of c.self.inside.stand.columns in
    let t = c.self.inside.stand.table in
    let s = c.self.inside.steps in
    let K = c.self.invariant.levels in
    let f = λ (p : ℕ). open_in v A p && has_item v p c.args.item in
    let n = c.node-node.result in
    let listed : c.deref-2.result.now ≡ filter f matrix.numbers.items =
    c.deref-2.ensures.value ∙ c.list_options.ensures.items
    ∙ ap (λ (x : View). filter (λ p. open_in x n.trail.now p && has_item x p c.args.item) n.matrix.now.numbers.items) c.node-node.ensures.view
    ∙ ap (λ (B : List Atom). filter (λ p. open_in v B p && has_item v p c.args.item) n.matrix.now.numbers.items) (c.node-node.ensures.trail ∙ c.deref.ensures.value)
    ∙ ap (λ (m : Matrix). filter f m.numbers.items) c.node-node.ensures.matrix in (
      (refl, λ _. tt, c.self.view_is),
      record {
        same = tt;
        once = ap distinct listed ∙ options_once v A c.self.inside.stand.base matrix t s.live.items s.have.items s.raised.items s.marks.items K f;
        members = λ p. subst (λ (w : Walk). mem c.deref-2.result.now p ≡ (mem w.scene.live p && is_option w c.args.item p)) c.self.view_is (ap (λ xs. mem xs p) listed ∙ options_members v A c.self.inside.stand.base matrix t s.live.items s.have.items s.raised.items s.marks.items K c.args.item p);
      },
    )
