use Rattle.std.proofs.Common.{Bool, ap, not, sym, ◌&&◌, ◌∙◌}
use Rattle.std.specs.List.{list_all, list_any}
use Rattle.poly_design.specs.declared.placement.Placement.{Placement}
use Rattle.poly_tiling.specs.declared.item.Item.{Item}
use Rattle.poly_browse.specs.Browsing.{Asked}
use Rattle.poly_browse.specs.Gathering.{has_it, names_it}
use Rattle.poly_browse.specs.Lines.{are_covered, has_flagged}
use Rattle.poly_browse.proofs.Rows.{meets_is}
use Rattle.poly_browse.proofs.Worded.{all_different, none_is}
use Rattle.poly_browse.proofs.lines.words_of.Goals as goal

pub returns-clause-ok : goal.returns-clause-ok
returns-clause-ok c = λ T small once.
    let v = c.args.view.now in
    let q : Asked = record { has = c.args.query.now.has.items; lacks = c.args.query.now.lacks.items; covers = c.args.query.now.covers.items } in
    let is : Placement → Bool = λ p. names_it v T p in
    let none : Placement → Bool = λ p. not (names_it v T p) in
    let on : Item → Bool = λ i. has_it v T i in
    let first = c.in_ok-has.ensures.ok T small once ∙ ap (list_all is) c.deref.ensures.value in
    let second = ap not (c.in_ok-lacks.ensures.ok T small ∙ ap (list_any is) c.deref-2.ensures.value) ∙ none_is is q.lacks in
    let third = c.in_ok-covers.ensures.ok T small ∙ ap (list_all on) c.deref-4.ensures.value ∙ all_different on _ c.in_ok-items.items.items c.in_ok-items.ensures.ok ∙ ap (list_all on) c.deref-3.ensures.value in
    ap (λ b. b && not (has_flagged c.in_ok-lacks.lacks T) && are_covered c.in_ok-covers.covers T) first
    ∙ ap (λ b. list_all is q.has && b && are_covered c.in_ok-covers.covers T) second
    ∙ ap (λ b. list_all is q.has && list_all none q.lacks && b) third
    ∙ sym (meets_is v q T)
