-- A sequence of steps that may each be refused, and what a function returns if it may also run out of memory.
use Rattle.std.specs.Prelude.{◌≡◌, ◌⊎◌, Bool, true, false, Option, Some, None, Result, Ok, Err}
use Rattle.poly_grid.specs.declared.refusal.Refusal.{Refusal}
use Rattle.poly_grid.specs.declared.refusal.Refusal.TheVariants.{Memory}

infixl 10 ◌>>=◌
abbrev pub ◌>>=◌ : {A B : Type 0} → Result A Refusal → (A → Result B Refusal) → Result B Refusal
(Ok x) >>= f = f x
(Err e) >>= f = Err e

-- the value, or the refusal if there is none
abbrev pub ok_or : {A : Type 0} → Option A → Refusal → Result A Refusal
ok_or None e = Err e
ok_or (Some x) e = Ok x

-- the refusal, unless the test holds
abbrev pub check : Bool → Refusal → Result Bool Refusal
check false e = Err e
check true e = Ok true

-- the result, with `view` applied to its value
abbrev pub seen : {X Y : Type 0} → (X → Y) → Result X Refusal → Result Y Refusal
seen view (Ok x) = Ok (view x)
seen view (Err e) = Err e

-- `said` is the result with `view` applied to its value, unless memory ran out
abbrev pub Gives : {X Y : Type 0} → (X → Y) → Result X Refusal → Result Y Refusal → Type 0
Gives view (Ok x) said = said ≡ Ok (view x)
Gives view (Err e) said = (e ≡ Memory) ⊎ (said ≡ Err e)

-- the same for a relation: `Says` holds of the result with `view` applied to its value, unless memory ran out
abbrev pub GivesBy : {X Y : Type 0} → (X → Y) → Result X Refusal → (Result Y Refusal → Type 0) → Type 0
GivesBy view (Ok x) Says = Says (Ok (view x))
GivesBy view (Err e) Says = (e ≡ Memory) ⊎ Says (Err e)

-- `Then` holds of the value of a step; if the step is refused, `r` is its refusal
abbrev pub Follows : {A B : Type 0} → Result A Refusal → (A → Type 0) → Result B Refusal → Type 0
Follows (Ok x) Then r = Then x
Follows (Err e) Then r = r ≡ Err e
