use Rattle.std.proofs.Common.{[], ap, cond, sym, take, ◌++◌, ◌∙◌, ◌∷◌}
use Rattle.std.proofs.lemmas.List.{append-nil}
use Rattle.poly_tasks.specs.Spots.{spots_from}
use Rattle.poly_tasks.proofs.Spotting.{spots_more}
use Rattle.poly_tasks.proofs.spots.append_spots.Goals as goal

pub loop-at-preserved-then-not-is_harmful : goal.loop-at-preserved-then-not-is_harmful
loop-at-preserved-then-not-is_harmful c =
    let ps = c.args.placements.now in
    let g = c.args.guards.now in
    let k = c.loop-at.at in
    let d = c.index-guards-at.result in
    let so = c.args.found.now.items ++ spots_from ps 0 (take k g) in
    c.loop-at.invariant
    ∙ sym (spots_more ps g k d c.args.found.now.items c.loop-at-test.true c.index-guards-at.is ∙ ap (λ b. so ++ cond b (record { at = k; atom = d } ∷ []) []) (sym c.is_harmful.ensures ∙ c.if-not-is_harmful.true) ∙ append-nil so)

pub loop-at-preserved : goal.loop-at-preserved
loop-at-preserved c =
    let ps = c.args.placements.now in
    let g = c.args.guards.now in
    let k = c.loop-at.at in
    let d = c.index-guards-at.result in
    let so = c.args.found.now.items ++ spots_from ps 0 (take k g) in
    c.in_ok-push.ensures.items ∙ ap (λ ss. ss ++ record { at = k; atom = d } ∷ []) c.loop-at.invariant
    ∙ sym (spots_more ps g k d c.args.found.now.items c.loop-at-test.true c.index-guards-at.is ∙ ap (λ b. so ++ cond b (record { at = k; atom = d } ∷ []) []) (sym c.is_harmful.ensures ∙ c.if-not-is_harmful.false))
