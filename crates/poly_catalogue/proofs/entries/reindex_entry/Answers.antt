use Rattle.std.proofs.Common.{Some, subst, sym, ◌∙◌, ◌≡◌}
use Rattle.poly_catalogue.specs.Rows.{at}
use Rattle.poly_catalogue.proofs.Spans.{half_from, moves_more, over_from}
use Rattle.poly_catalogue.proofs.Written.{is_there}
use Rattle.poly_catalogue.proofs.entries.reindex_entry.Goals as goal

pub get-position-requires : goal.get-position-requires
get-position-requires c =
    let a = c.args in
    let e = c.requires.agree.entered a.from a.nth c.number_of-number.result (half_from (at a.tilings.now) a.from a.to a.nth c.requires.apart ∙ c.number_of-number.ensures) in
    is_there (at a.positions.now a.from a.nth) e.0 (sym (over_from (at a.positions.now) a.from a.to a.nth c.requires.apart) ∙ e.1)

pub put-requires : goal.put-requires
put-requires c =
    let a = c.args in
    let e = c.requires.agree.entered a.from a.nth c.number_of-number.result (half_from (at a.tilings.now) a.from a.to a.nth c.requires.apart ∙ c.number_of-number.ensures) in
    let x : Some e.0 ≡ Some c.get-position.result = sym (sym (over_from (at a.positions.now) a.from a.to a.nth c.requires.apart) ∙ e.1) ∙ c.get-position.ensures in
    let same : e.0 ≡ c.get-position.result = cc in
    is_there (at a.rows.now c.number_of-number.result c.get-position.result) a.from (subst (λ z. at a.rows.now c.number_of-number.result z ≡ Some a.from) same e.2)

pub returns : goal.returns
returns c =
    moves_more (at c.args.tilings.now) (at c.args.positions.now) (at c.args.rows.now) (at c.put.new.rows) c.args.from c.args.to c.args.nth c.number_of-number.result c.get-position.result
    c.requires.apart c.requires.once c.requires.agree c.number_of-number.ensures c.get-position.ensures c.put.ensures.put
