use Rattle.std.proofs.Common.{ap, subst, sym, take, ◌∙◌, ◌≡◌}
use Rattle.poly_tiling.specs.Names.{Grown}
use Rattle.poly_tiling.specs.Puzzle.{View}
use Rattle.poly_place.specs.Index.{IsIndexed}
use Rattle.poly_place.specs.Numbered.{numbered_view}
use Rattle.poly_place.proofs.Grow.{back_index, back_view}
use Rattle.poly_place.proofs.table.Table.take_back.Goals as goal

first : (c : goal.After-forget_from) → Grown c.args.view.now (numbered_view c.self.inside.names c.self.inside.numbered)
first c = subst (λ (t : View). Grown c.args.view.now t) (sym c.self.view_is) c.requires.first

-- the table shows the view again
back : (c : goal.After-forget_from) → numbered_view c.forget_from.new.self c.self.inside.numbered ≡ c.args.view.now
back c =
    let t = numbered_view c.self.inside.names c.self.inside.numbered in
    ap (λ l. numbered_view l c.self.inside.numbered) (c.forget_from.ensures ∙ ap (λ n. take n c.self.inside.names) c.number_count.ensures) ∙ back_view c.args.view.now t (first c)

pub invariant_of-self : goal.invariant_of-self
invariant_of-self c =
    let t = numbered_view c.self.inside.names c.self.inside.numbered in
    subst (λ v. IsIndexed v c.self.inside.index.rows.items) (sym (back c)) (record {
      well = c.requires.well;
      index = back_index c.args.view.now t c.self.inside.index.rows.items c.requires.well c.self.invariant.well (first c) c.self.invariant.index;
    })

pub returns : goal.returns
returns c = back c
