-- Which placements stay open as more atoms are added.
use Rattle.std.proofs.Common.{◌≡◌, ℕ, ◌<◌, Bool, true, not, ◌&&◌, ◌||◌, eqb, List, ◌++◌, inl, inr, refl, sym, subst, ◌∙◌, arith, nat_lt}
use Rattle.std.specs.List.{list_any}
use Rattle.std.proofs.lemmas.Bool.{eq-eqb, eqb-true, or_left, and_parts, and_from, both_ways, not-true, not_from_false, false_from_ne_true, lt-ltb, ltb-true, cases_Bool}
use Rattle.poly_tiling.specs.declared.item.Item.{Item}
use Rattle.poly_atom.specs.declared.atom.Atom.{Atom}
use Rattle.poly_atom.specs.declared.atom.Atom.TheVariants.{Has, Lacks}
use Rattle.poly_tiling.specs.Lists.{mem, tally, distinct}
use Rattle.poly_tiling.specs.Puzzle.{View, has_item, count}
use Rattle.poly_atom.specs.Hopeless.{base, lacks}
use Rattle.poly_frame.specs.Open.{least_at, least_with_base, ruled_out, open_in, arms_fit}
use Rattle.poly_frame.specs.Walk.{open_count}
use Rattle.poly_tiling.proofs.Lists.{In, all_from, any_from, mem_in, in_mem}
use Rattle.poly_tiling.proofs.Counts.{tally_within, tally_fewer}
use Rattle.poly_atom.proofs.Bases.{in_base_has}
use Rattle.poly_frame.proofs.Opens.{open_before}

-- a placement that a Has atom names isn't open
named_closed : (v : View) (A B : List Atom) (q : ℕ) → distinct v.live ≡ true → In (Has q) (A ++ B) → open_in v (A ++ B) q ≡ true → ⊥
named_closed v A B q d i h = both_ways (mem (base v (A ++ B)) q) (not-true _ (and_parts (not (mem (base v (A ++ B)) q)) (not (ruled_out v (A ++ B) q)) h).0) (in_mem _ q (in_base_has v (A ++ B) q i))

lacked : (A : List Atom) (q : ℕ) (meeting full : Bool) → In (Lacks q) A → (list_any (λ a. lacks a q) A || meeting || full) ≡ true
lacked A q meeting full i = or_left (list_any (λ a. lacks a q) A || meeting) full (or_left (list_any (λ a. lacks a q) A) meeting (any_from (λ a. lacks a q) A (Lacks q) i (eq-eqb q q refl)))

left_closed : (v : View) (A B : List Atom) (q : ℕ) → distinct v.live ≡ true → In (Lacks q) (A ++ B) → open_in v (A ++ B) q ≡ true → ⊥
left_closed v A B q d i h = both_ways (ruled_out v (A ++ B) q) (not-true _ (and_parts (not (mem (base v (A ++ B)) q)) (not (ruled_out v (A ++ B) q)) h).1) (lacked (A ++ B) q _ _ i)

fewer_open : (v : View) (A B : List Atom) (q : ℕ) → distinct v.live ≡ true → In q v.live → open_in v A q ≡ true → (open_in v (A ++ B) q ≡ true → ⊥) → open_count v (A ++ B) < open_count v A
fewer_open v A B q d i h n =
    let a = tally_within (λ p. open_in v (A ++ B) p) (λ p. open_in v A p && not (eqb p q)) v.live v.live d
    (λ p j o. (j, and_from _ _ (open_before v A B p d j o) (not_from_false _ (false_from_ne_true (eqb p q) (λ e. n (subst (λ z. open_in v (A ++ B) z ≡ true) (eqb-true p q e) o)))))) in
    let b = tally_fewer (λ p. open_in v A p) v.live q i h in
    omega arith

pub fewer_has : (v : View) (A B : List Atom) (q : ℕ) → distinct v.live ≡ true → mem v.live q ≡ true → open_in v A q ≡ true → In (Has q) (A ++ B) → open_count v (A ++ B) < open_count v A
fewer_has v A B q d m h i = fewer_open v A B q d (mem_in _ q m) h (named_closed v A B q d i)

pub fewer_lacks : (v : View) (A B : List Atom) (q : ℕ) → distinct v.live ≡ true → mem v.live q ≡ true → open_in v A q ≡ true → In (Lacks q) (A ++ B) → open_count v (A ++ B) < open_count v A
fewer_lacks v A B q d m h i = fewer_open v A B q d (mem_in _ q m) h (left_closed v A B q d i)

-- the options of an item that is due fit as the arms of a Branch
pub options_fit : (v : View) (A : List Atom) (i : Item) (ps : List ℕ) → distinct v.live ≡ true → distinct ps ≡ true →
    ((p : ℕ) → mem ps p ≡ (mem v.live p && (open_in v A p && has_item v p i))) → nat_lt (count v (base v A) i) (least_at v A i) ≡ true → arms_fit v A i ps ≡ true
options_fit v A i ps d dp m due =
    let loose = λ (p : ℕ). has_item v p i && not (ruled_out v A p) && not (mem ps p) in
    let few = tally_within loose (λ p. has_item v p i) v.live (base v A) d (λ p j e.
    let e2 = and_parts (has_item v p i && not (ruled_out v A p)) (not (mem ps p)) e in
    let e1 = and_parts (has_item v p i) (not (ruled_out v A p)) e2.0 in (
      mem_in _ p (elim (cases_Bool (mem (base v A) p)) [
        | inl y ↦ y
        | inr n ↦ absurd (both_ways (mem ps p) (not-true _ e2.1) (m p ∙ and_from _ _ (in_mem _ p j) (and_from _ _ (and_from _ _ (not_from_false _ n) e1.1) e1.0)))
      ]),
      e1.0,
    )) in
    let a = ltb-true _ _ due in
    and_from _ _
    (and_from _ _ dp (all_from (λ p. has_item v p i) ps (λ p j. (and_parts (open_in v A p) (has_item v p i) (and_parts (mem v.live p) _ (sym (m p) ∙ in_mem ps p j)).1).1)))
    (lt-ltb (tally loose v.live) (least_with_base v A i) (omega arith))
