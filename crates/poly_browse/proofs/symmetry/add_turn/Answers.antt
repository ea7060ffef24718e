use Rattle.std.proofs.Common.{IfNone, IfSome, List, Option, ap, arith, length, subst, sym, ◌+◌, ◌≡◌, ℕ}
use Rattle.std.specs.List.{Contains}
use Rattle.poly_grid.specs.Spot.{Spot}
use Rattle.poly_design.specs.declared.mode.Mode.{Mode}
use Rattle.poly_browse.specs.Maps.{IsMapOf}
use Rattle.poly_browse.specs.Symmetries.{IsSymmetry, Takes}
use Rattle.poly_browse.proofs.Found.{IsTurnSoFar, turn_all, turn_push, turn_skip}
use Rattle.poly_browse.proofs.symmetry.add_turn.Goals.{in-Some+in_ok-push, in_default}
use Rattle.poly_browse.proofs.symmetry.add_turn.Goals as goal

pub loop-entry-preserved : goal.loop-entry-preserved
loop-entry-preserved c =
    let v = c.args.view.now in
    let d = c.args.design.now in
    let board = c.args.board.now in
    let i = c.loop-entry.entry-index in
    let m = c.between-motion.result in
    let takes : Takes d.grid m c.first_cell-first.result c.entry-item.result.0 = subst (λ g. Takes g m c.first_cell-first.result c.entry-item.result.0) c.grid-grid.ensures.value c.between-motion.ensures.takes in
    elim c.match-branch-2.branch [
      | in-Some+in_ok-push w ↦
          let found = subst (λ (o : Option (List ℕ)). IfSome o (λ f. IsSymmetry d m × IsMapOf v d.grid m f)) w.in-Some.is c.in_ok-symmetry.ensures.some in
          subst (λ l. IsTurnSoFar v d c.first_cell-first.result c.args.turn board c.args.list.now.items l (i + 1)) (sym (ap (λ l. l.items) w.list-is))
          (turn_push v d c.first_cell-first.result c.args.turn board c.args.list.now.items c.loop-entry.list.items w.push.new.self.items i c.entry-item.result m w.in-Some.symmetry c.loop-entry-test.true c.entry-item.is
          c.between-motion.ensures.turn takes found w.in_ok-push.ensures.items c.loop-entry.invariant)
      | in_default w ↦
          let none = subst (λ (o : Option (List ℕ)). IfNone o (IsSymmetry d m → ⊥)) w.in_default.is c.in_ok-symmetry.ensures.none in
          subst (λ l. IsTurnSoFar v d c.first_cell-first.result c.args.turn board c.args.list.now.items l (i + 1)) (sym (ap (λ l. l.items) w.list-is))
          (turn_skip v d c.first_cell-first.result c.args.turn board c.args.list.now.items c.loop-entry.list.items i c.entry-item.result m c.loop-entry-test.true c.entry-item.is
          c.between-motion.ensures.turn takes none c.loop-entry.invariant)
    ]

pub returns-clause-whole : goal.returns-clause-whole
returns-clause-whole c =
    let v = c.args.view.now in
    let d = c.args.design.now in
    let end : c.loop-entry.entry-index ≡ length c.args.board.now = omega arith in
    let so = subst (λ (b : List (Spot × Mode)). IsTurnSoFar v d c.first_cell-first.result c.args.turn b c.args.list.now.items c.loop-entry.list.items (length b)) c.requires.board
    (subst (IsTurnSoFar v d c.first_cell-first.result c.args.turn c.args.board.now c.args.list.now.items c.loop-entry.list.items) end c.loop-entry.invariant) in
    turn_all v d c.first_cell-first.result c.args.turn c.first_cell-first.ensures.0 c.args.list.now.items c.loop-entry.list.items c.grid-grid.ensures.design
    (subst (λ (b : List (Spot × Mode)). Contains b (c.first_cell-first.result, c.first_cell-first.ensures.0)) c.requires.board c.first_cell-first.ensures.1) so
