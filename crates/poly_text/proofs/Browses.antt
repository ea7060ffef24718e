-- A command line whose first word is `browse`.
use Rattle.std.proofs.Common.{◌≡◌, ◌-◌, ◌≤◌, Bor, ℕ, Bool, true, List, [], ◌∷◌, length, get_or, take, drop, Result, Ok, Err, refl, sym, ap, subst, ◌∙◌, arith}
use Rattle.std.specs.Prelude.{codes}
use Rattle.std.specs.Str.{bytes_eq}
use Rattle.std.proofs.lemmas.Slice.Eq.{bytes_eq-Decides}
use Rattle.poly_grid.specs.declared.grid.Grid.{Grid}
use Rattle.poly_grid.specs.declared.refusal.Refusal.{Refusal}
use Rattle.poly_text.specs.declared.command.Command.{Command}
use Rattle.poly_text.specs.declared.command.Command.TheVariants as command
use Rattle.poly_text.specs.Asked.{Asked}
use Rattle.poly_text.specs.Commands.{CommandSays, ComesTo, of_question}
use Rattle.poly_text.specs.Gives.{◌>>=◌, Follows}
use Rattle.poly_text.specs.Queries.{Query, query_of, QuestionSays}
use Rattle.poly_text.specs.Words.{read_each}
use Rattle.poly_text.proofs.Asking.{rest_from}
use Rattle.poly_text.proofs.CellWords.{texts}

-- the command of a question, or the question's refusal
abbrev pub browsing : Result Asked Refusal → Result Command Refusal
browsing r = r >>= λ asked. Ok (command.Browse asked)

asks : (g : Grid) (read : Result (List Query) Refusal) (r : Result Asked Refusal) → Follows {B = Asked} read (λ queries. QuestionSays queries r) r
    → Follows {B = Command} (read >>= λ queries. Ok (of_question queries)) (λ outcome. ComesTo g outcome (browsing r)) (browsing r)
asks g (Ok queries) r said = (r, said, refl)
asks g (Err e) r said = ap browsing said

begins : (g : Grid) (first : List ℕ) (words : List (List ℕ)) (r : Result Asked Refusal) → first ≡ codes "browse" → Follows {B = Asked} (read_each query_of words) (λ queries. QuestionSays queries r) r
    → CommandSays g (first ∷ words) (browsing r)
begins g first words r is said = subst (λ z. CommandSays g (z ∷ words) (browsing r)) (sym is) (asks g (read_each query_of words) r said)

pub browse_says : (g : Grid) (words : List (Bor (List ℕ))) (d : Bor (List ℕ)) (r : Result Asked Refusal) (text : List ℕ) (same : Bool) → 1 ≤ length words → same ≡ bytes_eq (get_or words 0 d).now text
    → text ≡ codes "browse" → same ≡ true → Follows {B = Asked} (read_each query_of (texts (take (length words - 1) (drop 1 words)))) (λ queries. QuestionSays queries r) r → CommandSays g (texts words) (browsing r)
browse_says g [] d r text same some is which so said = absurd (omega (arith, some))
browse_says g (w ∷ ws) d r text same some is which so said =
    let first : w.now ≡ codes "browse" = (bytes_eq-Decides w.now (codes "browse")).0 (ap (bytes_eq w.now) (sym which) ∙ sym is ∙ so) in
    begins g w.now (texts ws) r first (subst (λ z. Follows {B = Asked} (read_each query_of (texts z)) (λ queries. QuestionSays queries r) r) (rest_from 1 (w ∷ ws)) said)
