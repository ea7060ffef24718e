-- A search in parts.
use Rattle.std.proofs.Common.{◌≡◌}
use Rattle.std.specs.Prelude.{◌⊎◌}
use Rattle.poly_grid.specs.declared.refusal.Refusal.{Refusal}
use Rattle.poly_grid.specs.declared.refusal.Refusal.TheVariants.{Unfinished}
use Rattle.poly_cli.specs.States.{Fails, State}

-- after some parts that used up their turns, the engine is as it was before them, or has failed with that refusal
abbrev pub IsResumed : (Refusal → Type 0) → State → State → Type 0
IsResumed Failures s t = (t ≡ s) ⊎ Fails Failures s Unfinished t
