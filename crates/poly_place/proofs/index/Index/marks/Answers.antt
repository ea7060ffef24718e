use Rattle.std.proofs.Common.{List, ap, length, ◌∙◌, ℕ}
use Rattle.std.specs.List.{list_all}
use Rattle.std.specs.Prelude.{nat_lt}
use Rattle.poly_tiling.specs.Lists.{mem}
use Rattle.poly_tiling.specs.declared.item.Item.{Item}
use Rattle.poly_place.specs.Index.{Row, row_in}
use Rattle.poly_place.proofs.Indexed.{row_marked}
use Rattle.poly_place.proofs.index.Index.marks.Goals as goal

pub marks_of-requires : goal.marks_of-requires
marks_of-requires c =
    let old : List Row = c.args.self.now.rows.items in
    ap (λ (k : ℕ). list_all (λ n. nat_lt n k) c.numbers.result.now) c.len.ensures.value
    ∙ ap (λ (l : List ℕ). list_all (λ n. nat_lt n (length c.args.names.now)) l) (c.numbers.ensures ∙ ap (λ (i : Item). row_in old i) c.changed_item-item.ensures)
    ∙ c.requires.low

pub returns-clause-ok : goal.returns-clause-ok
returns-clause-ok c = λ v same index.
    let old : List Row = c.args.self.now.rows.items in
    row_marked v old c.args.change.now c.in_ok-marks.marks.items index (λ n. c.in_ok-marks.ensures.ok n ∙ ap (λ (l : List ℕ). mem l n) (c.numbers.ensures ∙ ap (λ (i : Item). row_in old i) c.changed_item-item.ensures))
