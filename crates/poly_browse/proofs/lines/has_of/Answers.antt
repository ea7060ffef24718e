use Rattle.std.proofs.Common.{[], ap, eqb, false, get_or, sym, take, ◌&&◌, ◌∙◌, ◌∷◌}
use Rattle.std.proofs.lemmas.List.{take_all}
use Rattle.std.specs.List.{list_all}
use Rattle.poly_tiling.specs.Lists.{distinct, mem, tally}
use Rattle.poly_tiling.specs.Shows.{names}
use Rattle.poly_browse.specs.Browsing.{is_in}
use Rattle.poly_browse.specs.Gathering.{names_it}
use Rattle.poly_browse.proofs.Numbered.{as_many}
use Rattle.poly_browse.proofs.Worded.{all_added, all_more, all_not, any_same, none_small}
use Rattle.poly_browse.proofs.lines.has_of.Goals as goal

pub loop-placement-init : goal.loop-placement-init
loop-placement-init c = record { same = λ T. ap (list_all (λ n. mem T n)) c.new-numbers.ensures.items; once = ap distinct c.new-numbers.ensures.items }

pub returns-in_default-clause-ok : goal.returns-in_default-clause-ok
returns-in_default-clause-ok c = λ T small once.
    let p = c.placement-item.result in
    sym (all_not (λ q. names_it c.args.view.now T q) c.args.placements.now c.loop-placement.placement-index p c.loop-placement-test.true c.placement-item.is
    (none_small (λ n. is_in (names c.args.view.now (n ∷ [])) p) T small c.in_default.ensures.none))

pub loop-placement-preserved : goal.loop-placement-preserved
loop-placement-preserved c =
    let v = c.args.view.now in
    let p = c.placement-item.result in
    let k = c.in-Some.number in
    let i = c.loop-placement.placement-index in
    let placements = c.args.placements.now in
    record {
      same = λ T.
          all_added (λ n. mem T n) c.loop-placement.numbers.items c.add_number.new.numbers.items k c.in_ok-add_number.ensures.ok
          ∙ ap (λ b. b && mem T k) (c.loop-placement.invariant.same T)
          ∙ ap (λ b. list_all (λ q. names_it v T q) (take i placements) && b) (sym (any_same (λ n. is_in (names v (n ∷ [])) p) (λ n. eqb n k) T c.in-Some.ensures.some))
          ∙ sym (all_more (λ q. names_it v T q) placements i p c.loop-placement-test.true c.placement-item.is);
      once = c.add_number.ensures.once c.loop-placement.invariant.once;
    }

pub returns-clause-ok : goal.returns-clause-ok
returns-clause-ok c = λ T small once.
    let numbers = c.loop-placement.numbers.items in
    let flags = c.in_ok-flags.flags.items in
    ap (λ m. eqb (tally (λ n. get_or flags n false) T) m) (c.len.ensures ∙ c.loop-placement.numbers.ok.0) ∙ as_many numbers T (λ n. get_or flags n false) c.loop-placement.invariant.once once (λ k. c.in_ok-flags.ensures.ok k ∙ ap (λ l. mem l k) c.deref.ensures.value)
    ∙ c.loop-placement.invariant.same T ∙ ap (list_all (λ q. names_it c.args.view.now T q)) (take_all c.loop-placement.placement-index c.args.placements.now c.loop-placement-test.false)
