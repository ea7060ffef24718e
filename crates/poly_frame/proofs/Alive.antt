-- The bits that tell which placements are dead.
use Rattle.std.proofs.Common.{Bool, List, ap, arith, drop, eqb, false, length, length-append, length-take, not, refl, sym, take, true, ℕ, ◌&&◌, ◌++◌, ◌/◌, ◌<◌, ◌||◌, ◌∙◌, ◌∷◌, ◌≡◌, ◌≤◌, []}
use Rattle.std.specs.List.{list_any}
use Rattle.std.proofs.lemmas.Bool.{eqb-true, true≢false}
use Rattle.std.proofs.lemmas.List.{get_or_past, take-append-drop, take-append-le}
use Rattle.poly_tiling.proofs.Lists.{any_append}
use Rattle.poly_tiling.specs.Lists.{mem}
use Rattle.poly_tiling.specs.Puzzle.{View}
use Rattle.poly_atom.specs.declared.atom.Atom.{Atom}
use Rattle.poly_atom.specs.Hopeless.{lacks}
use Rattle.poly_frame.specs.Alive.{AliveShows}
use Rattle.poly_frame.specs.Bits.{has_bit}
use Rattle.poly_frame.specs.Open.{dead}
use Rattle.poly_frame.proofs.FrameSteps.{take_take}
use Rattle.poly_frame.proofs.Words.{past_none}

-- a number past the end of the words is not in the set
pub past_end : (ws : List ℕ) (p : ℕ) → length ws ≤ p / 64 → has_bit ws p ≡ false
past_end ws p h = past_none ws p (get_or_past ws (p / 64) 0 h)

-- so there is nothing to clear
pub cleared_past : (ws : List ℕ) (p x : ℕ) → length ws ≤ p / 64 → has_bit ws x ≡ (has_bit ws x && not (eqb p x))
cleared_past ws p x h = by_bit (eqb p x) refl
  where
    by_bit : (b : Bool) → eqb p x ≡ b → has_bit ws x ≡ (has_bit ws x && not b)
    by_bit false e = keep (has_bit ws x)
      where
        keep : (c : Bool) → c ≡ (c && true)
        keep true = refl
        keep false = refl
    by_bit true e =
        let none = ap (λ y. has_bit ws y) (sym (eqb-true p x e)) ∙ past_end ws p h in
        none ∙ sym (ap (λ c. c && false) none)

-- if the words aren't empty, there is a word
pub some_word : (ws : List ℕ) → eqb (length ws) 0 ≡ false → 0 < length ws
some_word [] e = absurd (true≢false e)
some_word (w ∷ ws) e = omega arith

-- what the bits say of the given atoms, and the other atoms, tell whether a placement is dead
pub dead_says : (v : View) (A : List Atom) (given : ℕ) (alive : List ℕ) (p : ℕ) → AliveShows v A given alive → 0 < length alive → (not (has_bit alive p) || list_any (λ a. lacks a p) (drop given A)) ≡ dead v A p
dead_says v A given alive p S some =
    ap (λ b. not b || list_any (λ a. lacks a p) (drop given A)) (S.bits some p)
    ∙ parts (not (mem v.live p)) (list_any (λ a. lacks a p) (take given A)) (list_any (λ a. lacks a p) (drop given A))
    ∙ ap (λ b. not (mem v.live p) || b) (sym (any_append (λ (a : Atom). lacks a p) (take given A) (drop given A)) ∙ ap (λ (B : List Atom). list_any (λ a. lacks a p) B) (take-append-drop given A))
  where
    parts : (m l k : Bool) → (not (not (m || l)) || k) ≡ (m || (l || k))
    parts true l k = refl
    parts false true k = refl
    parts false false k = refl

-- a step changes no bit
pub alive_more : (v : View) (A : List Atom) (a : Atom) (given : ℕ) (alive : List ℕ) → AliveShows v A given alive → AliveShows v (A ++ a ∷ []) given alive
alive_more v A a given alive S = record {
  low = omega (arith, S.low, length-append A (a ∷ []));
  bits = λ some p. S.bits some p ∙ ap (λ (B : List Atom). not (dead v B p)) (sym (take-append-le given A (a ∷ []) S.low));
}

-- nor does going back
pub alive_less : (v : View) (A : List Atom) (n given : ℕ) (alive : List ℕ) → given ≤ n → AliveShows v A given alive → AliveShows v (take n A) given alive
alive_less v A n given alive h S = record {
  low = omega (arith, h, S.low, length-take n A);
  bits = λ some p. S.bits some p ∙ ap (λ (B : List Atom). not (dead v B p)) (sym (take_take given n A h));
}
