-- Whether a list is hopeless depends on which placements its Has atoms ask for, but not on how often or in which order.
use Rattle.std.proofs.Common.{Bool, List, [], ap, eqb, false, get_or, inl, inr, length, not, refl, set, subst, sym, take, true, ℕ, ◌++◌, ◌||◌, ◌&&◌, ◌+◌, ◌<◌, ◌∙◌, ◌∷◌, ◌≡◌, ◌≤◌}
use Rattle.std.proofs.lemmas.Bool.{eq-eqb, eqb-true, or_cases, or_left, or_right, true≢false}
use Rattle.std.proofs.lemmas.List.{take_all, take_more, take_more_set}
use Rattle.std.specs.List.{list_any}
use Rattle.std.specs.Prelude.{nat_lt}
use Rattle.poly_tiling.specs.Lists.{mem}
use Rattle.poly_tiling.specs.Puzzle.{View, conflicts, count, is_piece, items, most}
use Rattle.poly_tiling.proofs.Ascending.{ascending_same}
use Rattle.poly_tiling.proofs.Lists.{In, any_append, any_from, any_in, in_mem, mem_in, same_truth}
use Rattle.poly_atom.specs.declared.atom.Atom.{Atom}
use Rattle.poly_atom.specs.declared.atom.Atom.TheVariants.{AtLeast, AtMost, Has, Lacks}
use Rattle.poly_atom.specs.Hopeless.{AskTheSame, asked, bad, base, beyond, hopeless, lacks, lost}
use Rattle.poly_atom.proofs.Bases.{asked_in, base_in, base_up, in_asked, in_base_has, in_base_pin}

pub asked_append : (A B : List Atom) → asked (A ++ B) ≡ asked A ++ asked B
asked_append [] B = refl
asked_append (Has p ∷ A) B = ap (λ l. p ∷ l) (asked_append A B)
asked_append (Lacks p ∷ A) B = asked_append A B
asked_append (AtLeast i n ∷ A) B = asked_append A B
asked_append (AtMost i n ∷ A) B = asked_append A B

mem_asked : (A B : List Atom) (p : ℕ) → mem (asked (A ++ B)) p ≡ (mem (asked A) p || mem (asked B) p)
mem_asked A B p = ap (λ l. mem l p) (asked_append A B) ∙ any_append (λ y. eqb y p) (asked A) (asked B)

-- once an atom is written at index n, the first n + 1 atoms ask for what the first n and the new atom ask for
pub gathered_new : (list new : List Atom) (n : ℕ) (a : Atom) → n < length list → new ≡ set list n a → (p : ℕ) → mem (asked (take (n + 1) new)) p ≡ (mem (asked (take n list)) p || mem (asked (a ∷ [])) p)
gathered_new list new n a l is p = ap (λ z. mem (asked (take (n + 1) z)) p) is ∙ ap (λ z. mem (asked z) p) (take_more_set list n a l) ∙ mem_asked (take n list) (a ∷ []) p

-- if two lists ask for the same placements, they still do when the same atom is added to both
pub gathered_more : (A : List Atom) (i : ℕ) (d a : Atom) (old new : List Atom) → i < length A → a ≡ get_or A i d → ((p : ℕ) → mem (asked old) p ≡ mem (asked (take i A)) p) →
    ((p : ℕ) → mem (asked new) p ≡ (mem (asked old) p || mem (asked (a ∷ [])) p)) → (p : ℕ) → mem (asked new) p ≡ mem (asked (take (i + 1) A)) p
gathered_more A i d a old new l is h next p =
    next p ∙ ap (λ z. z || mem (asked (a ∷ [])) p) (h p) ∙ ap (λ z. mem (asked (take i A)) p || mem (asked (z ∷ [])) p) is
    ∙ sym (ap (λ z. mem (asked z) p) (take_more A i d l) ∙ mem_asked (take i A) (get_or A i d ∷ []) p)

pub gathered_all : (A : List Atom) (i : ℕ) (new : List Atom) → length A ≤ i → ((p : ℕ) → mem (asked new) p ≡ mem (asked (take i A)) p) → AskTheSame new A
gathered_all A i new l h p = h p ∙ ap (λ z. mem (asked z) p) (take_all i A l)

-- if two lists ask for the same placements, each Has of one is in the other
has_same : (D A : List Atom) → AskTheSame D A → (p : ℕ) → In (Has p) D → In (Has p) A
has_same D A h p i = asked_in A p (mem_in (asked A) p (sym (h p) ∙ in_mem (asked D) p (in_asked D p i)))

base_within : (v : View) (D A : List Atom) → AskTheSame D A → (p : ℕ) → In p (base v D) → In p (base v A)
base_within v D A h p i = elim (base_in v D p i) [ inl j ↦ in_base_has v A p (has_same D A h p j) | inr j ↦ in_base_pin v A p j ]

base_same : (v : View) (D A : List Atom) → AskTheSame D A → base v D ≡ base v A
base_same v D A h = ascending_same (base v D) (base v A) (base_up v D) (base_up v A) (base_within v D A h) (base_within v A D (λ p. sym (h p)))

lost_same : (v : View) (D A : List Atom) → AskTheSame D A → (p : ℕ) → lost v D (Has p) ≡ lost v A (Has p)
lost_same v D A h p = ap (λ b. not (mem v.live p) || list_any (λ q. conflicts v p q) b || list_any (λ i. is_piece i && nat_lt (most v i) (count v b i)) (items v p)) (base_same v D A h)

more_or : (n l c o : Bool) → (n || c || o) ≡ true → (n || l || c || o) ≡ true
more_or true l c o h = refl
more_or false true c o h = refl
more_or false false c o h = h

lacked_or : (n l c o : Bool) → l ≡ true → (n || l || c || o) ≡ true
lacked_or true l c o h = refl
lacked_or false true c o h = refl
lacked_or false false c o h = absurd (true≢false (sym h))

either_or : (n l c o : Bool) → (n || l || c || o) ≡ true → (l || (n || c || o)) ≡ true
either_or n true c o h = refl
either_or true false c o h = refl
either_or false false c o h = h

lost_bad : (v : View) (D A : List Atom) → AskTheSame D A → (a : Atom) → In a D → lost v D a ≡ true → hopeless v A ≡ true
lost_bad v D A h (Has p) i l =
    any_from (λ a. bad v A a) A (Has p) (has_same D A h p i)
    (more_or (not (mem v.live p)) (list_any (λ a. lacks a p) A) (list_any (λ q. conflicts v p q) (base v A)) (list_any (λ j. is_piece j && nat_lt (most v j) (count v (base v A) j)) (items v p)) (sym (lost_same v D A h p) ∙ l))
lost_bad v D A h (Lacks p) i l = absurd (true≢false (sym l))
lost_bad v D A h (AtLeast j n) i l = absurd (true≢false (sym l))
lost_bad v D A h (AtMost j n) i l = absurd (true≢false (sym l))

beyond_bad : (v : View) (D A : List Atom) → AskTheSame D A → (a : Atom) → In a A → beyond v D a ≡ true → hopeless v A ≡ true
beyond_bad v D A h (Has p) i b = absurd (true≢false (sym b))
beyond_bad v D A h (Lacks p) i b = elim (or_cases (mem v.pins p) (mem (asked D) p) b) [
  | inl k ↦ any_from (λ a. bad v A a) A (Lacks p) i k
  | inr k ↦
      any_from (λ a. bad v A a) A (Has p) (asked_in A p (mem_in (asked A) p (sym (h p) ∙ k)))
      (lacked_or (not (mem v.live p)) (list_any (λ a. lacks a p) A) (list_any (λ q. conflicts v p q) (base v A)) (list_any (λ j. is_piece j && nat_lt (most v j) (count v (base v A) j)) (items v p))
      (any_from (λ a. lacks a p) A (Lacks p) i (eq-eqb p p refl)))
]
beyond_bad v D A h (AtLeast j n) i b = any_from (λ a. bad v A a) A (AtLeast j n) i b
beyond_bad v D A h (AtMost j n) i b = any_from (λ a. bad v A a) A (AtMost j n) i b

abbrev found : View → List Atom → List Atom → Bool
found v D A = list_any (λ a. lost v D a) D || list_any (λ a. beyond v D a) A

found_beyond : (v : View) (D A : List Atom) (a : Atom) → In a A → beyond v D a ≡ true → found v D A ≡ true
found_beyond v D A a i b = or_right (list_any (λ a. lost v D a) D) (list_any (λ a. beyond v D a) A) (any_from (λ a. beyond v D a) A a i b)

found_lacked : (v : View) (D A : List Atom) (p : ℕ) (a : Atom) → In a A → lacks a p ≡ true → mem (asked D) p ≡ true → found v D A ≡ true
found_lacked v D A p (Has q) i l m = absurd (true≢false (sym l))
found_lacked v D A p (Lacks q) i l m = found_beyond v D A (Lacks q) i (or_right (mem v.pins q) (mem (asked D) q) (subst (λ z. mem (asked D) z ≡ true) (sym (eqb-true q p l)) m))
found_lacked v D A p (AtLeast j n) i l m = absurd (true≢false (sym l))
found_lacked v D A p (AtMost j n) i l m = absurd (true≢false (sym l))

bad_found : (v : View) (D A : List Atom) → AskTheSame D A → (a : Atom) → In a A → bad v A a ≡ true → found v D A ≡ true
bad_found v D A h (Has p) i b = elim (or_cases (list_any (λ a. lacks a p) A) (lost v A (Has p)) parts) [
  | inl l ↦ let x = any_in (λ a. lacks a p) A l in found_lacked v D A p x.0 x.1 x.2 (h p ∙ in_mem (asked A) p (in_asked A p i))
  | inr l ↦
      or_left (list_any (λ a. lost v D a) D) (list_any (λ a. beyond v D a) A)
      (any_from (λ a. lost v D a) D (Has p) (has_same A D (λ q. sym (h q)) p i) (lost_same v D A h p ∙ l))
]
  where
    parts : (list_any (λ a. lacks a p) A || lost v A (Has p)) ≡ true
    parts = either_or (not (mem v.live p)) (list_any (λ a. lacks a p) A) (list_any (λ q. conflicts v p q) (base v A)) (list_any (λ j. is_piece j && nat_lt (most v j) (count v (base v A) j)) (items v p)) b
bad_found v D A h (Lacks p) i b = found_beyond v D A (Lacks p) i (or_left (mem v.pins p) (mem (asked D) p) b)
bad_found v D A h (AtLeast j n) i b = found_beyond v D A (AtLeast j n) i b
bad_found v D A h (AtMost j n) i b = found_beyond v D A (AtMost j n) i b

-- if the gathered atoms D ask for the same placements as the list A, then A is hopeless exactly if an atom of D is `lost` or
-- an atom of A is `beyond`
pub found_is : (v : View) (D A : List Atom) → AskTheSame D A → (list_any (λ a. lost v D a) D || list_any (λ a. beyond v D a) A) ≡ hopeless v A
found_is v D A h = same_truth (list_any (λ a. lost v D a) D || list_any (λ a. beyond v D a) A) (hopeless v A)
    (λ e. elim (or_cases (list_any (λ a. lost v D a) D) (list_any (λ a. beyond v D a) A) e) [
      | inl l ↦ let x = any_in (λ a. lost v D a) D l in lost_bad v D A h x.0 x.1 x.2
      | inr l ↦ let x = any_in (λ a. beyond v D a) A l in beyond_bad v D A h x.0 x.1 x.2
    ])
    (λ e. let x = any_in (λ a. bad v A a) A e in bad_found v D A h x.0 x.1 x.2)
