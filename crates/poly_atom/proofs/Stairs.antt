-- If no atom of a list is an AtLeast with 0, a set that doesn't meet all of the atoms meets exactly one of their stairs.
use Rattle.std.proofs.Common.{Bool, List, [], ap, append_assoc, arith, false, leb, not, refl, sym, true, ℕ, ◌&&◌, ◌++◌, ◌+◌, ◌-◌, ◌<◌, ◌∙◌, ◌∷◌, ◌≡◌}
use Rattle.std.proofs.lemmas.Bool.{and_parts, ltb-true}
use Rattle.std.proofs.lemmas.Bool.Decides.{nat_tests}
use Rattle.std.proofs.lemmas.List.{append-nil}
use Rattle.std.specs.List.{list_all}
use Rattle.poly_tiling.specs.Lists.{one, tally}
use Rattle.poly_tiling.specs.Puzzle.{View, count}
use Rattle.poly_tiling.proofs.Lists.{all_append}
use Rattle.poly_atom.specs.declared.atom.Atom.{Atom}
use Rattle.poly_atom.specs.declared.atom.Atom.TheVariants.{AtLeast, AtMost, Has, Lacks}
use Rattle.poly_atom.specs.Atoms.{meets, meets_all, negated, proper}
use Rattle.poly_atom.specs.Stairs.{stairs_behind}
use Rattle.poly_atom.specs.Laws.{StairsShareOut}

pub not_twice : (b : Bool) → not (not b) ≡ b
not_twice true = refl
not_twice false = refl

le_below : (n c : ℕ) → 0 < n → leb c (n - 1) ≡ not (leb n c)
le_below n c h = grind (arith, nat_tests)

le_above : (n c : ℕ) → leb (n + 1) c ≡ not (leb c n)
le_above n c = grind (arith, nat_tests)

pub meets-negated : (v : View) (T : List ℕ) (a : Atom) → proper a ≡ true → meets v T (negated a) ≡ not (meets v T a)
meets-negated v T (Has p) h = refl
meets-negated v T (Lacks p) h = sym (not_twice _)
meets-negated v T (AtLeast i n) h = le_below n (count v T i) (ltb-true 0 n h)
meets-negated v T (AtMost i n) h = le_above n (count v T i)

pub and_true : (b : Bool) → (b && true) ≡ b
and_true true = refl
and_true false = refl

-- a set meets a list with one more atom exactly if it meets the list and that atom
pub meets_push : (v : View) (T : List ℕ) (A : List Atom) (a : Atom) → meets_all v T (A ++ a ∷ []) ≡ (meets_all v T A && meets v T a)
meets_push v T A a = all_append (λ b. meets v T b) A (a ∷ []) ∙ ap (λ b. meets_all v T A && b) (and_true (meets v T a))

pub one_split : (b c : Bool) → one (b && c) + one (b && not c) ≡ one b
one_split true true = refl
one_split true false = refl
one_split false c = refl

behind : (v : View) (T : List ℕ) (B g : List Atom) → list_all proper g ≡ true →
    one (meets_all v T (B ++ g)) + tally (λ A. meets_all v T A) (stairs_behind B g) ≡ one (meets_all v T B)
behind v T B [] h = omega (arith, ap (λ C. one (meets_all v T C)) (append-nil B))
behind v T B (a ∷ g) h =
    let hs = and_parts (proper a) (list_all proper g) h in
    let whole : one (meets_all v T (B ++ (a ∷ g))) ≡ one (meets_all v T ((B ++ a ∷ []) ++ g)) = ap (λ C. one (meets_all v T C)) (sym (append_assoc B (a ∷ []) g)) in
    let no = ap one (meets_push v T B (negated a) ∙ ap (λ b. meets_all v T B && b) (meets-negated v T a hs.0)) in
    let yes = ap one (meets_push v T B a) in
    omega (arith, whole, no, yes, one_split (meets_all v T B) (meets v T a), behind v T (B ++ a ∷ []) g hs.1)

pub stairs_share_out_lem : StairsShareOut
stairs_share_out_lem v T g h = behind v T [] g h
