use Rattle.std.proofs.Common.{List, ◌≡◌, ◌∷◌, ◌++◌, [], ◌<◌, ◌^◌, ◌∙◌, ap, length, subst, sym}
use Rattle.std.specs.List.{Contains}
use Rattle.poly_design.specs.declared.placement.Placement.{Placement}
use Rattle.poly_tiling.specs.Blocks.{Begins}
use Rattle.poly_place.specs.Interned.{AreNumbered}
use Rattle.poly_place.proofs.Begun.{begins_on}
use Rattle.poly_place.proofs.Numbers.{inserted, numbered_push, stored_names}
use Rattle.poly_place.proofs.interner.Interner.add.Goals as goal

pub invariant_of-self-2 : goal.invariant_of-self-2
invariant_of-self-2 c =
    let was = c.self.inside.all.keys in
    let p = c.args.placement in
    let lacks : Contains was p → ⊥ = λ h. c.requires.lacks (subst (λ l. Contains l p) c.self.view_is h) in
    let now : c.insert_full.new.self.keys ≡ was ++ p ∷ [] = inserted was c.insert_full.new.self.keys p c.in_ok-at.ensures.keys lacks in (
      subst AreNumbered (sym now) (numbered_push was p c.self.invariant.0 lacks (subst (λ (l : List Placement). length l < 2 ^ 32) (sym c.self.view_is) c.requires.room)),
      subst (λ l. Begins c.self.inside.blocks l) (sym now) (begins_on c.self.inside.blocks was (p ∷ []) c.self.invariant.1),
    )

pub returns-clause-ok : goal.returns-clause-ok
returns-clause-ok c = stored_names c.insert_full.new.self.keys c.args.placement c.in_ok-at.at c.in_ok-at.ensures.stored

pub returns-clause-gives : goal.returns-clause-gives
returns-clause-gives c =
    inserted c.self.inside.all.keys c.insert_full.new.self.keys c.args.placement c.in_ok-at.ensures.keys (λ h. c.requires.lacks (subst (λ l. Contains l c.args.placement) c.self.view_is h))
    ∙ ap (λ l. l ++ c.args.placement ∷ []) c.self.view_is

pub returns-clause-numbered : goal.returns-clause-numbered
returns-clause-numbered c =
    let now : c.insert_full.new.self.keys ≡ c.self.inside.all.keys ++ c.args.placement ∷ [] =
    inserted c.self.inside.all.keys c.insert_full.new.self.keys c.args.placement c.in_ok-at.ensures.keys (λ h. c.requires.lacks (subst (λ l. Contains l c.args.placement) c.self.view_is h)) in
    subst AreNumbered (sym now) (numbered_push c.self.inside.all.keys c.args.placement c.self.invariant.0 (λ h. c.requires.lacks (subst (λ l. Contains l c.args.placement) c.self.view_is h))
    (subst (λ (l : List Placement). length l < 2 ^ 32) (sym c.self.view_is) c.requires.room))
