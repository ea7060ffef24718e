use Rattle.std.proofs.Common.{ap, subst, sym, ◌∙◌}
use Rattle.std.proofs.lemmas.List.{take_all}
use Rattle.std.specs.List.{list_any}
use Rattle.poly_tiling.specs.Puzzle.{same_item}
use Rattle.poly_browse.specs.Lines.{AreDifferent}
use Rattle.poly_browse.proofs.Worded.{different_none, different_push, different_skip}
use Rattle.poly_browse.proofs.lines.different.Goals as goal

pub loop-item-init : goal.loop-item-init
loop-item-init c = different_none _ c.new-list.ensures.items

pub loop-item-preserved-then-is_among : goal.loop-item-preserved-then-is_among
loop-item-preserved-then-is_among c =
    different_skip c.args.items.now c.loop-item.list.items c.loop-item.item-index c.item-item.result c.loop-item-test.true c.item-item.is
    (ap (list_any (λ j. same_item j c.item-item.result)) (sym c.deref.ensures.value) ∙ sym c.is_among.ensures ∙ c.if-is_among.true) c.loop-item.invariant

pub loop-item-preserved : goal.loop-item-preserved
loop-item-preserved c =
    different_push c.args.items.now c.loop-item.list.items _ c.loop-item.item-index c.item-item.result c.loop-item-test.true c.item-item.is
    (ap (list_any (λ j. same_item j c.item-item.result)) (sym c.deref.ensures.value) ∙ sym c.is_among.ensures ∙ c.if-is_among.false) c.in_ok-push.ensures.items c.loop-item.invariant

pub returns-clause-ok : goal.returns-clause-ok
returns-clause-ok c = subst (λ l. AreDifferent l c.loop-item.list.items) (take_all c.loop-item.item-index c.args.items.now c.loop-item-test.false) c.loop-item.invariant
