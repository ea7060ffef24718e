use Rattle.std.proofs.Common.{Bool, List, [], ap, false, get_or, sym, take, ◌||◌, ◌∙◌, ◌∷◌}
use Rattle.std.proofs.lemmas.List.{take_all}
use Rattle.std.specs.List.{list_any}
use Rattle.poly_tiling.specs.Shows.{names}
use Rattle.poly_browse.specs.Browsing.{is_in}
use Rattle.poly_browse.specs.Gathering.{names_it}
use Rattle.poly_browse.proofs.Rows.{or_false}
use Rattle.poly_browse.proofs.Worded.{any_more, flag_named, no_flags_raised, none_small}
use Rattle.poly_browse.proofs.lines.line_of.Goals.{in-Some+in_ok-raise_one, in_default}
use Rattle.poly_browse.proofs.lines.line_of.Goals as goal

pub loop-placement-init : goal.loop-placement-init
loop-placement-init c = λ T small. no_flags_raised _ T c.new-flags.ensures.items

pub loop-placement-preserved : goal.loop-placement-preserved
loop-placement-preserved c = λ T small.
    let v = c.args.view.now in
    let p = c.placement-item.result in
    let i = c.loop-placement.placement-index in
    let before = list_any (λ q. names_it v T q) (take i c.args.placements.now) in
    let more = any_more (λ q. names_it v T q) c.args.placements.now i p c.loop-placement-test.true c.placement-item.is in
    elim c.match-number_of.branch [
      | in-Some+in_ok-raise_one w ↦ ap (λ (z : List Bool). list_any (λ n. get_or z n false) T) (ap (λ l. l.items) w.flags-is)
          ∙ flag_named v p w.in-Some.number c.loop-placement.flags.items w.raise_one.new.flags.items T before w.in-Some.ensures.some w.in_ok-raise_one.ensures.ok (c.loop-placement.invariant T small) ∙ sym more
      | in_default w ↦ ap (λ (z : List Bool). list_any (λ n. get_or z n false) T) (ap (λ l. l.items) w.flags-is) ∙ c.loop-placement.invariant T small ∙ sym (or_false before)
          ∙ ap (λ b. before || b) (sym (none_small (λ n. is_in (names v (n ∷ [])) p) T small w.in_default.ensures.none)) ∙ sym more
    ]

pub returns-clause-ok : goal.returns-clause-ok
returns-clause-ok c = λ T small. c.loop-placement.invariant T small ∙ ap (list_any (λ q. names_it c.args.view.now T q)) (take_all c.loop-placement.placement-index c.args.placements.now c.loop-placement-test.false)
