use Rattle.std.proofs.Common.{MatchOption, None, Option, Some, refl, ℕ}
use Rattle.std.specs.Option.{IfSome}
use Rattle.poly_frame.proofs.frame.ahead.open_at.Goals as goal

if_some : (o : Option ℕ) (N : Type 0) (P : ℕ → Type 0) → MatchOption o N P → IfSome o P
if_some None N P h = tt
if_some (Some j) N P h = h

if_told : (o : Option ℕ) (P : Type 0) → P → IfSome o (λ _. P)
if_told None P h = tt
if_told (Some j) P h = h

pub stands_open-requires : goal.stands_open-requires
stands_open-requires c = c.requires

pub column_of-requires : goal.column_of-requires
column_of-requires c = c.requires.kept.table.matrix.stands

pub returns-clause-column : goal.returns-clause-column
returns-clause-column c = if_some c.column_of.result _ _ c.column_of.ensures

pub returns-clause-open : goal.returns-clause-open
returns-clause-open c = if_told c.column_of.result _ (c.if-not-stands_open.ensures.open refl)
