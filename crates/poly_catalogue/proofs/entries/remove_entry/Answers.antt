use Rattle.std.proofs.Common.{Some, length, subst, sym, ◌<◌, ◌∙◌, ◌≡◌}
use Rattle.poly_catalogue.proofs.Left.{left_last, left_other}
use Rattle.poly_catalogue.proofs.Written.{some_low}
use Rattle.poly_catalogue.proofs.entries.remove_entry.Goals as goal

pub count-requires : goal.count-requires
count-requires c =
    let h = c.requires.has in
    let e = h.agree.entered c.args.tiling c.args.nth h.number h.here in
    let n : Some h.number ≡ Some c.number_of-number.result = sym (h.part c.args.tiling c.args.nth h.number h.here) ∙ c.number_of-number.ensures in
    let same : h.number ≡ c.number_of-number.result = cc in
    let low = some_low c.args.rows.now h.number e.0 c.args.tiling e.2 in
    subst (λ z. z < length c.args.rows.now) same low.0

pub returns-then-position-count-clause-gone : goal.returns-then-position-count-clause-gone
returns-then-position-count-clause-gone c =
    left_last c.args.tilings.now c.args.positions.now c.args.rows.now c.cut.new.rows c.args.tiling c.args.nth c.number_of-number.result c.get-position.result c.count.result
    c.requires.once c.number_of-number.ensures c.get-position.ensures c.count.ensures c.if-position-count.true c.cut.ensures

pub returns-clause-gone : goal.returns-clause-gone
returns-clause-gone c =
    left_other c.args.tilings.now c.args.positions.now c.args.rows.now c.move_last_over.new.positions c.move_last_over.new.rows c.cut-2.new.rows c.args.tiling c.args.nth c.number_of-number.result c.get-position.result c.count.result
    c.requires.once c.number_of-number.ensures c.get-position.ensures c.count.ensures c.if-position-count.false c.move_last_over.ensures.over c.cut-2.ensures
