-- Trees that cut a family up.
use Rattle.std.specs.Prelude.{ℕ, List, [], ◌∷◌}
use Rattle.poly_tiling.specs.declared.item.Item.{Item}

mutual
  pub data Plan : Type 0 where
    Rests : Plan
    Finds : Plan
    Branches : Item → Arms → Plan
    Splits : ℕ → Plan → Plan → Plan

  pub data Arms : Type 0 where
    NoArms : Arms
    OneArm : ℕ → Plan → Arms → Arms

abbrev pub heads : Arms → List ℕ
heads NoArms = []
heads (OneArm p t arms) = p ∷ heads arms
