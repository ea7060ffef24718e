use Rattle.std.proofs.Common.{◌≡◌, ◌-◌, ◌∙◌, ap, arith, sym}
use Rattle.poly_crew.specs.Hints.{weigh}
use Rattle.poly_crew.specs.Views.{LaneView}
use Rattle.poly_crew.proofs.laws.pushed_is_taken_and_left.Goals as goal

pub returns : goal.returns
returns c =
    let back = c.take_back.ensures in
    let found = c.left.ensures.left in
    let splits = found.2 in
    let last = c.requires.last in
    let none : c.args.lane.now.thieves - 1 ≡ 0 = omega arith in (
      splits.gone,
      found.0,
      found.1,
      sym (ap (λ (s : LaneView). s.pushed) back) ∙ splits.split,
      λ h. splits.alone (ap (λ (s : LaneView). s.thieves) back ∙ none) h ∙ ap (λ (s : LaneView). weigh h s.taken) back,
    )
