use Rattle.std.proofs.Common.{List, ap, arith, get_or, leb, sym, length, ◌∙◌}
use Rattle.std.specs.List.{list_all}
use Rattle.poly_tiling.specs.declared.bound.Bound.{Bound}
use Rattle.poly_atom.specs.Hopeless.{base}
use Rattle.poly_frame.specs.FrameItems.{item_at, item_of}
use Rattle.poly_frame.specs.FrameTable.{limit_at}
use Rattle.poly_frame.proofs.FrameTable.{count_le, each_one}
use Rattle.poly_frame.proofs.frame.table.table_of.Goals as goal

pub returns-clause-value : goal.returns-clause-value
returns-clause-value c = λ m M O.
    let v = c.args.view.now in
    let A = c.args.atoms.now in
    record {
      matrix = M;
      all = O;
      limits = λ b h. c.in_ok-limits.ensures.value b (omega (arith, ap length c.items-bounds.ensures.value))
          ∙ ap (λ (bs : List Bound). limit_at (item_at bs b) (get_or c.deref.result.now b 0)) c.items-bounds.ensures.value
          ∙ ap (λ xs. limit_at (item_of v b) (get_or xs b 0)) c.deref.ensures.value
          ∙ ap (λ n. limit_at (item_of v b) n) (c.requires.mosts b h);
      limits_len = c.in_ok-limits.ensures.len ∙ ap length c.items-bounds.ensures.value;
      mosts = c.requires.mosts;
      mosts_len = c.requires.mosts_len;
      leasts = c.requires.leasts;
      leasts_len = c.requires.leasts_len;
      listed = λ y. sym c.all_listed-listed.ensures ∙ y;
      quiet = λ b l h. ap (λ xs. get_or xs b 0) (sym c.deref-2.ensures.value) ∙ c.end_of-leasts_end.ensures b l (omega (arith, h, ap length c.deref-2.ensures.value, c.requires.leasts_len));
      alone = λ y b h. each_one c.in_ok-limits.limits.items b (ap (λ xs. list_all (λ n. leb n 1) xs) (sym c.deref-4.ensures.value) ∙ sym c.are_single-alone.ensures ∙ y) (omega (arith, h, c.in_ok-limits.ensures.len, ap length c.items-bounds.ensures.value));
      small = λ i. omega (arith, count_le v (base v A) i, c.requires.few);
    }
