use Rattle.std.proofs.Common.{rules, subst, ◌≡◌}
use Rattle.std.specs.Arc.{arc_value}
use Rattle.std.specs.List.Sorted.{IsSorted}
use Rattle.poly_tiling.specs.TilingOrder.{tiling_cmp}
use Rattle.poly_book.specs.AllTilings.{HasAll}
use Rattle.poly_tiling.proofs.Listings.{each_once_moved}
use Rattle.poly_book.proofs.quiet.all_tilings.Goals as goal

pub invariant_of-result : goal.invariant_of-result
invariant_of-result c =
    let v = arc_value c.args.view.now in
    let known : c.deref.result.now ≡ v = search rules in
    let view : arc_value c.in_ok-shared.shared ≡ v = search rules in
    let q : HasAll record { design = c.args.design.now; edition = c.args.edition; view = v; tilings = c.in_ok-tilings.tilings.items } = record {
      is_design = c.requires.is_design;
      well = c.requires.well;
      shows = c.requires.shows;
      each = each_once_moved v c.args.listed.now c.in_ok-tilings.tilings.items c.in_ok-tilings.ensures.permutation c.requires.each;
      order = subst (λ w. IsSorted (tiling_cmp w) c.in_ok-tilings.tilings.items) known c.in_ok-tilings.ensures.ascends;
    } in
    rw (c.in_ok-copy.ensures.ok, view) q
