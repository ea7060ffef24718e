use Rattle.std.proofs.Common.{List, ap, filter, not, subst, sym, true, ◌++◌, ◌∙◌, ◌≡◌, ℕ}
use Rattle.std.specs.Arc.{arc_value}
use Rattle.std.specs.List.{list_all}
use Rattle.poly_design.specs.Changes.{changed}
use Rattle.poly_tiling.specs.Puzzle.{View, is_tiling}
use Rattle.poly_catalogue.specs.Listed.{AreOfEither, AreOnce}
use Rattle.poly_catalogue.proofs.Parted.{kept_all, of_plan, parted_once}
use Rattle.poly_tests.proofs.exchange.lead.Goals as goal

pub leaving-requires : goal.leaving-requires
leaving-requires c =
    let p = c.in-Ok.plan in
    subst (λ (w : View). AreOfEither w p.delta c.args.catalogue.now) (sym c.deref.ensures)
    (of_plan c.args.table.now (arc_value p.view) c.args.design.now (changed c.args.design.now c.args.change.now) p.delta c.args.catalogue.now c.requires.right c.in-Ok.ensures.ok c.requires.listed)

pub keep_only-requires : goal.keep_only-requires
keep_only-requires c =
    let p = c.in-Ok.plan in
    subst (λ (w : View). AreOfEither w p.delta c.args.catalogue.now) (sym c.deref-2.ensures)
    (of_plan c.args.table.now (arc_value p.view) c.args.design.now (changed c.args.design.now c.args.change.now) p.delta c.args.catalogue.now c.requires.right c.in-Ok.ensures.ok c.requires.listed)

pub returns-clause-listed : goal.returns-clause-listed
returns-clause-listed c =
    subst (λ (w : View). list_all (is_tiling w) c.keep_only.new.self ≡ true) (c.deref-2.ensures ∙ sym c.make-2.ensures.now)
    (kept_all (is_tiling c.deref-2.result.now) c.args.catalogue.now c.keep_only.new.self c.keep_only.ensures)

pub returns-clause-once : goal.returns-clause-once
returns-clause-once c =
    let a : List (List ℕ) = c.args.catalogue.now in
    let b : List (List ℕ) = c.keep_only.new.self in
    let same : c.deref.result.now ≡ c.deref-2.result.now = c.deref.ensures ∙ sym c.deref-2.ensures in
    let is : c.in_ok-gone.gone.items ≡ filter (λ T. not (is_tiling c.deref-2.result.now T)) a = c.in_ok-gone.ensures.ok ∙ ap (λ (w : View). filter (λ T. not (is_tiling w T)) a) same in
    subst (λ (l : List (List ℕ)). AreOnce (b ++ l)) (sym is) (parted_once (is_tiling c.deref-2.result.now) a b c.keep_only.ensures c.all-listed.ensures.once)
