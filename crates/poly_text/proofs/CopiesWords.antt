-- A command `copies` with a valid name is refused if a number, or the bounds that the numbers give, are refused.
use Rattle.std.proofs.Common.{◌≡◌, ◌<◌, ◌≤◌, ℕ, Bor, List, [], ◌∷◌, length, get_or, Option, Some, None, Result, Ok, Err, ap, arith}
use Rattle.std.specs.Prelude.{codes}
use Rattle.poly_grid.specs.declared.grid.Grid.{Grid}
use Rattle.poly_grid.specs.declared.refusal.Refusal.{Refusal}
use Rattle.poly_grid.specs.declared.refusal.Refusal.TheVariants.{BadCommand}
use Rattle.poly_design.specs.Bounds.{Bounds}
use Rattle.poly_design.specs.declared.edit.Edit.TheVariants as edit
use Rattle.poly_text.specs.declared.command.Command.{Command}
use Rattle.poly_text.specs.Commands.{of_copies, ComesTo, CommandSays, edit_by}
use Rattle.poly_text.specs.Fields.{copies_of}
use Rattle.poly_text.specs.Gives.{◌>>=◌, ok_or, Follows}
use Rattle.poly_text.specs.Names.{name_of}
use Rattle.poly_text.specs.Words.{number_of}
use Rattle.poly_text.proofs.CellWords.{texts}

-- what the two words give: their bounds, or the first refusal of a word or of the bounds
abbrev pub BothSay : Option ℕ → Option ℕ → Result Bounds Refusal → Type 0
BothSay least most r = Follows (ok_or least BadCommand) (λ l. Follows (ok_or most BadCommand) (λ m. r ≡ ok_or (copies_of l m) BadCommand) r) r

abbrev NumbersSay : Grid → List ℕ → Option ℕ → Option ℕ → Result Command Refusal → Type 0
NumbersSay g name least most r = Follows (ok_or least BadCommand >>= λ l. ok_or most BadCommand >>= λ m. Ok (of_copies l m (λ copies. edit.Copies name copies))) (λ o. ComesTo g o r) r

numbers : (g : Grid) (name : List ℕ) (least most : Option ℕ) (e : Refusal) → BothSay least most (Err e) → NumbersSay g name least most (Err e)
numbers g name None most e said = ap (edit_by (λ copies. edit.Copies name copies)) said
numbers g name (Some l) None e said = ap (edit_by (λ copies. edit.Copies name copies)) said
numbers g name (Some l) (Some m) e said = ap (edit_by (λ copies. edit.Copies name copies)) said

pub copies_refused : (words : List (Bor (List ℕ))) (d : Bor (List ℕ)) (name : List ℕ) (e : Refusal) → 3 ≤ length words → length words < 4 → name_of (get_or words 0 d).now ≡ Some name
    → BothSay (number_of (get_or words 1 d).now) (number_of (get_or words 2 d).now) (Err e) → (g : Grid) → CommandSays g (codes "copies" ∷ texts words) (Err e)
copies_refused [] d name e some few named said g = absurd (omega (arith, some))
copies_refused (a ∷ []) d name e some few named said g = absurd (omega (arith, some))
copies_refused (a ∷ b ∷ []) d name e some few named said g = absurd (omega (arith, some))
copies_refused (a ∷ b ∷ c ∷ []) d name e some few named said g = rw named (numbers g name (number_of b.now) (number_of c.now) e said)
copies_refused (a ∷ b ∷ c ∷ f ∷ words) d name e some few named said g = absurd (omega (arith, few))
