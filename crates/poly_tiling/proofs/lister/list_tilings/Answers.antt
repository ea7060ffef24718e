use Rattle.std.proofs.Common.{Err, ap, arith, subst, sym, true, ◌∙◌, ◌≡◌}
use Rattle.std.proofs.lemmas.Result.{err_from_is_err_and}
use Rattle.std.specs.List.{filter}
use Rattle.poly_grid.specs.declared.refusal.Refusal.TheVariants.{CatalogueFull}
use Rattle.poly_tiling.specs.Lists.{distinct, one, same_list, tally}
use Rattle.poly_tiling.specs.Lister.{AreApart, fits_beside}
use Rattle.poly_tiling.proofs.Families.{first_left, narrowed_apart}
use Rattle.poly_tiling.proofs.Orders.{pins_once}
use Rattle.poly_tiling.proofs.lister.list_tilings.Goals as goal

pub extend-requires-clause-apart : goal.extend-requires-clause-apart
extend-requires-clause-apart c =
    let v = c.args.view.now in
    let chosen = c.in_ok-chosen.chosen.items in
    let pins : chosen ≡ v.pins = c.in_ok-chosen.ensures.items ∙ c.pins.ensures.value in
    let once : distinct chosen ≡ true = ap (λ l. distinct l) pins ∙ pins_once v c.pins.ensures.well in
    let is : c.in_ok-free.free.items ≡ filter (λ q. fits_beside v chosen q) c.live.result.now = c.in_ok-free.ensures.ok ∙ ap (λ l. filter (λ q. fits_beside v l q) c.live.result.now) c.deref.ensures.value in
    subst (λ l. AreApart chosen l) (sym is) (narrowed_apart v chosen c.live.result.now once)

pub returns-in_err-extend-clause-full : goal.returns-in_err-extend-clause-full
returns-in_err-extend-clause-full c =
    let v = c.args.view.now in
    let chosen = c.in_ok-chosen.chosen.items in
    let pins : chosen ≡ v.pins = c.in_ok-chosen.ensures.items ∙ c.pins.ensures.value in
    let is : c.in_ok-free.free.items ≡ filter (λ q. fits_beside v chosen q) v.live =
    c.in_ok-free.ensures.ok ∙ ap (λ l. filter (λ q. fits_beside v l q) c.live.result.now) c.deref.ensures.value ∙ ap (λ l. filter (λ q. fits_beside v chosen q) l) c.live.ensures.value in
    let p = err_from_is_err_and c.from_residual-in_err-extend.result c.from_residual-in_err-extend.ensures.1 in
    rw (p.1, p.2) (λ e. record {
      list = c.extend.new.found.items;
      once = λ T. omega (arith, c.in_err-extend.ensures.at_most T, ap one (first_left v chosen c.in_ok-free.free.items T c.pins.ensures.well pins is), ap (tally (same_list T)) c.new-found.ensures.items);
      long = c.in_err-extend.ensures.full (let same : c.in_err-extend.field-0.0 ≡ CatalogueFull = cc in ap (λ x. Err x) same);
    })

pub returns-clause-ok : goal.returns-clause-ok
returns-clause-ok c = λ T.
    let v = c.args.view.now in
    let chosen = c.in_ok-chosen.chosen.items in
    let pins : chosen ≡ v.pins = c.in_ok-chosen.ensures.items ∙ c.pins.ensures.value in
    let is : c.in_ok-free.free.items ≡ filter (λ q. fits_beside v chosen q) v.live =
    c.in_ok-free.ensures.ok ∙ ap (λ l. filter (λ q. fits_beside v l q) c.live.result.now) c.deref.ensures.value ∙ ap (λ l. filter (λ q. fits_beside v chosen q) l) c.live.ensures.value in
    omega (arith, c.in_ok-extend.ensures.adds T, ap one (first_left v chosen c.in_ok-free.free.items T c.pins.ensures.well pins is), ap (tally (same_list T)) c.new-found.ensures.items)
