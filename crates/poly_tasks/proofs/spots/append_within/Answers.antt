use Rattle.std.proofs.Common.{[], Global, Vec, ap, cond, map, sym, take, ◌++◌, ◌∙◌, ◌∷◌}
use Rattle.std.proofs.lemmas.List.{append-nil, take_all}
use Rattle.std.specs.List.{filter}
use Rattle.poly_atom.specs.declared.atom.Atom.{Atom}
use Rattle.poly_tasks.specs.Spots.{is_within}
use Rattle.poly_tasks.proofs.Spotting.{ahead, inside, past, spotted_more}
use Rattle.poly_tasks.proofs.spots.append_within.Goals as goal
use Rattle.poly_tasks.proofs.spots.append_within.Goals.{else-start-spot, else-start-spot-via-else-start-spot, else-start-spot-via-then-start-spot+else-spot-end, then-start-spot+then-spot-end+in_ok-push}

pub loop-spot-preserved : goal.loop-spot-preserved
loop-spot-preserved c =
    let d = c.spot-item.result in
    let k = c.loop-spot.spot-index in
    let b = c.args.start in
    let e = c.args.end in
    let old = c.args.atoms.now.items in
    let so = old ++ map (λ s. s.atom) (filter (λ s. is_within b e s.at) (take k c.args.found.now)) in
    let more = spotted_more (is_within b e) c.args.found.now k d old c.loop-spot-test.true c.spot-item.is in
    elim c.if-start-spot.branch [
      | then-start-spot+then-spot-end+in_ok-push w ↦
          ap (λ (v : Vec Atom Global). v.items) w.atoms-is ∙ w.in_ok-push.ensures.items ∙ ap (λ B. B ++ d.atom ∷ []) c.loop-spot.invariant
          ∙ sym (more ∙ ap (λ x. so ++ cond x (d.atom ∷ []) []) (inside b e d.at w.if-start-spot.true w.if-spot-end.true))
      | else-start-spot w ↦
          ap (λ (v : Vec Atom Global). v.items) w.atoms-is ∙ c.loop-spot.invariant
          ∙ sym (more ∙ ap (λ x. so ++ cond x (d.atom ∷ []) []) (elim w.else-start-spot.branch [
            | else-start-spot-via-then-start-spot+else-spot-end v ↦ past b e d.at v.if-spot-end.false
            | else-start-spot-via-else-start-spot v ↦ ahead b e d.at v.if-start-spot.false
          ]) ∙ append-nil so)
    ]

pub loop-spot-init : goal.loop-spot-init
loop-spot-init c = sym (append-nil c.args.atoms.now.items)

pub returns-clause-ok : goal.returns-clause-ok
returns-clause-ok c = c.loop-spot.invariant ∙ ap (λ l. c.args.atoms.now.items ++ map (λ s. s.atom) (filter (λ s. is_within c.args.start c.args.end s.at) l)) (take_all c.loop-spot.spot-index c.args.found.now c.loop-spot-test.false)
