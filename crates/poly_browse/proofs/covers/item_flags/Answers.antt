use Rattle.std.proofs.Common.{◌≤◌, Bool, ℕ, ap, length, subst, sym, ◌+◌, ◌∙◌}
use Rattle.poly_tiling.specs.Puzzle.{has_item}
use Rattle.poly_browse.proofs.Worded.{AreFlags, no_flags, flag_up, flag_down, all_flags, none_covered}
use Rattle.poly_browse.proofs.covers.item_flags.Goals.{then-covers+in_ok-raise_one, else-covers}
use Rattle.poly_browse.proofs.covers.item_flags.Goals as goal

pub loop-at-init : goal.loop-at-init
loop-at-init c = no_flags _ _ c.new-flags.ensures.items

pub loop-at-preserved : goal.loop-at-preserved
loop-at-preserved c =
    let f : ℕ → Bool = λ n. has_item c.args.view.now n c.args.item.now in
    let at = c.loop-at.at in
    elim c.if-covers.branch [
      | then-covers+in_ok-raise_one w ↦ subst (λ l. AreFlags f (at + 1) l) (sym (ap (λ v. v.items) w.flags-is)) (flag_up f at _ _ (sym c.covers.ensures ∙ w.if-covers.true) w.in_ok-raise_one.ensures.ok c.loop-at.invariant)
      | else-covers w ↦ subst (λ l. AreFlags f (at + 1) l) (sym (ap (λ v. v.items) w.flags-is)) (flag_down f at _ (sym c.covers.ensures ∙ w.if-covers.false) c.loop-at.invariant)
    ]

pub returns-clause-ok : goal.returns-clause-ok
returns-clause-ok c =
    let f : ℕ → Bool = λ n. has_item c.args.view.now n c.args.item.now in
    all_flags f c.loop-at.at (length c.args.view.now.placements) _ (subst (λ z. z ≤ c.loop-at.at) c.known-at-end.ensures c.loop-at-test.false) (none_covered c.args.view.now c.args.item.now) c.loop-at.invariant
