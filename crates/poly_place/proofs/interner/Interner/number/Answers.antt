use Rattle.std.proofs.Common.{Some, position, ◌≡◌, sym, ◌∙◌, ap, refl, true}
use mathlib.Core.Bool.{true≢false}
use Rattle.std.specs.List.{list_any}
use Rattle.poly_place.proofs.Numbers.{no_number, number_has, number_names, same}
use Rattle.poly_place.proofs.interner.Interner.number.Goals as goal

pub returns-in-Some-clause-found : goal.returns-in-Some-clause-found
returns-in-Some-clause-found c =
    let e : position (same c.args.placement.now) c.self.inside.all.keys ≡ Some c.in-Some.at = sym c.in-Some.ensures.index in
    number_names c.args.self.now c.args.placement.now c.in-Some.at (ap (λ ks. position (same c.args.placement.now) ks) (sym c.self.view_is) ∙ e)

pub returns-in-Some-clause-none : goal.returns-in-Some-clause-none
returns-in-Some-clause-none c =
    let e : list_any (same c.args.placement.now) c.self.inside.all.keys ≡ true = sym c.in-Some.ensures.found in (
      λ no. absurd (true≢false no),
      λ lacks. absurd (lacks (number_has c.args.self.now c.args.placement.now (ap (λ ks. list_any (same c.args.placement.now) ks) (sym c.self.view_is) ∙ e))),
    )

pub returns-in-None-clause-none : goal.returns-in-None-clause-none
returns-in-None-clause-none c = (
  λ _. no_number c.args.self.now c.args.placement.now (ap (λ ks. list_any (same c.args.placement.now) ks) (sym c.self.view_is) ∙ sym c.in-None.ensures.found),
  λ lacks. refl,
)
