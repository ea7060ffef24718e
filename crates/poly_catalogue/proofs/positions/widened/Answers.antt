use Rattle.std.proofs.Common.{ap, arith, length, replicate, ◌*◌, ◌++◌, ◌+◌, ◌-◌, ◌∙◌, ◌≡◌}
use Rattle.std.proofs.lemmas.List.{length-replicate}
use Rattle.poly_catalogue.specs.Table.{rows_of}
use Rattle.poly_catalogue.proofs.Tabled.{rows_all, whole_wider, widen_more}
use Rattle.poly_catalogue.proofs.positions.widened.Goals as goal

pub loop-index-preserved : goal.loop-index-preserved
loop-index-preserved c =
    let z = replicate (c.args.wider - c.args.width) 0 in
    let i = c.loop-index.index in
    let list = c.loop-index.list.items in
    let row = c.row_at.result.now in
    let blank : c.deref.result.now ≡ z = c.deref.ensures.value ∙ c.in_ok-add_zeros.ensures.ok ∙ ap (λ xs. xs ++ z) c.new-blank.ensures.items in
    let items : c.extend_from_slice-in-loop-index.new.self.items ≡ (list ++ row) ++ z =
    c.in_ok-extend_from_slice-2.ensures.items ∙ ap (λ xs. xs ++ c.deref.result.now) c.in_ok-extend_from_slice.ensures.items ∙ ap (λ xs. (list ++ row) ++ xs) blank in
    let long : length z ≡ c.args.wider - c.args.width = length-replicate (c.args.wider - c.args.width) 0 in
    record {
      rows =
          ap (λ xs. rows_of c.args.wider (i + 1) xs) items
          ∙ widen_more c.args.width c.args.wider c.args.count i c.args.cells.now list row z c.loop-index-test.true long c.requires.wider c.requires.whole c.row_at.ensures c.loop-index.invariant.whole c.loop-index.invariant.rows;
      whole = ap length items ∙ whole_wider c.args.width c.args.wider c.args.count i c.args.cells.now list row z c.loop-index-test.true long c.requires.wider c.requires.whole c.row_at.ensures c.loop-index.invariant.whole;
    }

pub returns-clause-rows : goal.returns-clause-rows
returns-clause-rows c =
    rows_all c.args.width c.args.wider c.args.count c.loop-index.index c.args.cells.now c.loop-index.list.items (replicate (c.args.wider - c.args.width) 0) (omega (arith, c.loop-index-test.false, c.loop-index.auto.index-end)) c.loop-index.invariant.rows

pub returns-clause-whole : goal.returns-clause-whole
returns-clause-whole c = c.loop-index.invariant.whole ∙ ap (λ n. n * c.args.wider) (let e : c.loop-index.index ≡ c.args.count = omega (arith, c.loop-index-test.false, c.loop-index.auto.index-end) in e)
