use Rattle.std.proofs.Common.{[], ap, arith, get_or, length, map, subst, sym, take, ◌++◌, ◌<◌, ◌∙◌, ◌∷◌, ◌≡◌}
use Rattle.std.proofs.lemmas.List.{map-append, take_more}
use Rattle.std.proofs.lemmas.List.Elements.{All-push}
use Rattle.std.specs.List.{All}
use Rattle.poly_tiling.specs.declared.order.Key.{Key}
use Rattle.poly_tiling.specs.Leading.{leading, tiling_at}
use Rattle.poly_tiling.proofs.order.keys_of.Goals as goal

pub loop-index-preserved : goal.loop-index-preserved
loop-index-preserved c =
    let tilings = c.args.tilings.now in
    let keys = c.loop-index.keys.items in
    let key = c.key_of.result in
    let more = c.in_ok-push.ensures.items in
    let low : c.loop-index.index < length tilings = c.loop-index-test.true in
    record {
      within = subst (All (λ (k : Key). k.index < length tilings)) (sym more) (All-push (λ (k : Key). k.index < length tilings) keys key c.loop-index.invariant.within (omega (arith, c.key_of.ensures.index, low)));
      each = ap (map (λ (k : Key). tiling_at tilings k.index)) more ∙ map-append (λ (k : Key). tiling_at tilings k.index) keys (key ∷ []) ∙ ap (λ l. l ++ tiling_at tilings key.index ∷ []) c.loop-index.invariant.each
          ∙ ap (λ i. take c.loop-index.index tilings ++ tiling_at tilings i ∷ []) c.key_of.ensures.index ∙ sym (take_more tilings c.loop-index.index [] low);
      leading = subst (All (λ (k : Key). k.leading ≡ leading c.args.base (get_or c.args.rows.now k.index []) c.args.count)) (sym more)
          (All-push (λ (k : Key). k.leading ≡ leading c.args.base (get_or c.args.rows.now k.index []) c.args.count) keys key c.loop-index.invariant.leading
          (c.key_of.ensures.leading ∙ ap (λ i. leading c.args.base (get_or c.args.rows.now i []) c.args.count) (sym c.key_of.ensures.index)));
    }
