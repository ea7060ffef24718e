use Rattle.std.specs.Prelude.{ℕ}

-- the least and the most copies of a piece
pub record Bounds : Type 0 where
  pub least : ℕ
  pub most : ℕ
