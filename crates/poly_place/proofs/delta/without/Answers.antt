use Rattle.std.proofs.Common.{List, Bool, filter, not, get_or, false, ap, ◌∙◌}
use Rattle.poly_place.proofs.Marks.{unmarked_are}
use Rattle.poly_place.proofs.delta.without.Goals as goal

pub returns-clause-ok : goal.returns-clause-ok
returns-clause-ok c =
    c.in_ok-list.ensures ∙ ap (λ (l : List Bool). filter (λ n. not (get_or l n false)) c.args.numbers.now) c.deref.ensures.value
    ∙ unmarked_are c.in_ok-marks.marks.items c.args.others.now c.args.numbers.now c.in_ok-marks.ensures.ok
