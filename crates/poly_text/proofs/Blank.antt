-- A line has no word exactly if all its bytes are spaces. Such a line asks for nothing.
use Rattle.std.proofs.Common.{◌≡◌, ◌==◌, ◌&&◌, ℕ, suc, arith, Bool, true, false, cond, List, [], ◌∷◌, length, refl}
use borrow.Author.Tests.{ne_eqb}
use Rattle.std.specs.Prelude.{filter, None, Ok}
use Rattle.std.specs.List.{slice_split, list_all, onto_first}
use Rattle.poly_grid.specs.declared.grid.Grid.{Grid}
use Rattle.poly_text.specs.Commands.{Asks}
use Rattle.poly_text.specs.Words.{has_byte, words_of}

abbrev is_space : ℕ → Bool
is_space b = b == 32

abbrev pub is_blank : List ℕ → Bool
is_blank line = list_all (λ b. b == 32) line

pub blank_has_none : (line : List ℕ) → is_blank line ≡ true → words_of line ≡ []
blank_has_none [] e = refl
blank_has_none (b ∷ bs) e = go (is_space b) (blank_has_none bs) e
  where
    go : (s : Bool) → (is_blank bs ≡ true → words_of bs ≡ []) → (s && is_blank bs) ≡ true → filter has_byte (cond s ([] ∷ slice_split is_space bs) (onto_first b (slice_split is_space bs))) ≡ []
    go true rest blank = rest blank
    go false rest blank = cc

a_word : (b : ℕ) (part : List ℕ) → has_byte (b ∷ part) ≡ true
a_word b part = rw (ne_eqb (suc (length part)) 0 (λ e. omega (arith, e))) refl

some_word : (b : ℕ) (parts : List (List ℕ)) → filter has_byte (onto_first b parts) ≡ [] → ⊥
some_word b [] none = let has = a_word b [] in cc
some_word b (part ∷ parts) none = nothing (rw (a_word b part) at none)
  where
    nothing : (b ∷ part) ∷ filter has_byte parts ≡ [] → ⊥
    nothing e = cc

pub none_is_blank : (line : List ℕ) → words_of line ≡ [] → is_blank line ≡ true
none_is_blank [] e = refl
none_is_blank (b ∷ bs) e = go (is_space b) (none_is_blank bs) e
  where
    go : (s : Bool) → (words_of bs ≡ [] → is_blank bs ≡ true) → filter has_byte (cond s ([] ∷ slice_split is_space bs) (onto_first b (slice_split is_space bs))) ≡ [] → (s && is_blank bs) ≡ true
    go true rest none = rest none
    go false rest none = absurd (some_word b (slice_split is_space bs) none)

pub blank_asks : (g : Grid) (line : List ℕ) → is_blank line ≡ true → Asks g line (Ok None)
blank_asks g line e = rw (blank_has_none line e) refl
