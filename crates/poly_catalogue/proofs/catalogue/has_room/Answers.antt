use Rattle.std.proofs.Common.{ap, arith, filter, length, sym, ◌+◌, ◌-◌, ◌∙◌}
use Rattle.std.specs.Prelude.{nat_le}
use Rattle.std.proofs.lemmas.Bool.{le-leb}
use Rattle.poly_tiling.specs.Puzzle.{is_tiling}
use Rattle.poly_catalogue.proofs.Sums.{length_filter, same_room, tally_short}
use Rattle.poly_catalogue.proofs.catalogue.has_room.Goals as goal

pub returns-then-more-len-clause-room : goal.returns-then-more-len-clause-room
returns-then-more-len-clause-room c =
    let p = is_tiling c.args.view.now in
    let ts = c.args.listing.now in
    sym (le-leb (length (filter p ts) + c.args.more) 1000000 (omega (arith, length_filter p ts, tally_short p ts, c.requires.few)))

pub overflow_sub-result : goal.overflow_sub-result
overflow_sub-result c =
    let p = is_tiling c.args.view.now in
    let ts = c.args.listing.now in
    omega (arith, c.count_staying-count.ensures.count, length_filter p ts, tally_short p ts, c.requires.few)

pub returns-clause-room : goal.returns-clause-room
returns-clause-room c =
    let p = is_tiling c.args.view.now in
    let ts = c.args.listing.now in
    ap (λ n. nat_le c.args.more (1000000 - n)) c.count_staying-count.ensures.count ∙ same_room (length (filter p ts)) c.args.more 1000000 (omega (arith, length_filter p ts, tally_short p ts, c.requires.few))
