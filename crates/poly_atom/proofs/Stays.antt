-- A hopeless list stays hopeless if atoms are added and new numbers are assigned. The stairs of a change are hopeless in the
-- design before it.
use Rattle.std.proofs.Common.{Bool, List, [], ap, arith, false, inl, inr, leb, map, nat_lt, not, refl, subst, sym, true, ℕ, ◌&&◌, ◌++◌, ◌||◌, ◌∙◌, ◌∷◌, ◌≡◌, ◌≤◌}
use Rattle.std.proofs.lemmas.Bool.{and_from, and_parts, cond-false, false_from_ne_true, lt-ltb, ltb-true, not_from_false, or_cases, or_left, or_right}
use Rattle.std.specs.List.{filter, list_any}
use Rattle.poly_tiling.specs.Lists.{mem}
use Rattle.poly_tiling.specs.declared.item.Item.{Item}
use Rattle.poly_tiling.specs.Puzzle.{is_piece, View, conflicts, count, has_item, items, least, most, same_item}
use Rattle.poly_tiling.specs.Names.{Grown, Names, WellNamed}
use Rattle.poly_tiling.proofs.Lists.{In, all_from, any_from, any_in, in_append_left, in_append_right, in_mem}
use Rattle.poly_tiling.proofs.Counts.{ascending_distinct, tally_within}
use Rattle.poly_tiling.proofs.Tilings.{IsTiling, parts}
use Rattle.poly_tiling.proofs.Named.{all_same, any_items, named_conflict, old_count}
use Rattle.poly_tiling.proofs.Grown.{grown_bound}
use Rattle.poly_atom.specs.declared.atom.Atom.{Atom}
use Rattle.poly_atom.specs.declared.atom.Atom.TheVariants.{AtLeast, AtMost, Has, Lacks}
use Rattle.poly_atom.specs.Atoms.{meets, meets_all, negated}
use Rattle.poly_atom.specs.Guards.{guards, guards_fresh, guards_least, guards_most, guards_pins}
use Rattle.poly_atom.specs.Stairs.{stairs, stairs_behind}
use Rattle.poly_atom.specs.Hopeless.{bad, base, hopeless, lacks}
use Rattle.poly_atom.specs.Laws.{AnswersMayGrow, HopelessStays, SameHasNoGuards, StairsWereHopeless}
use Rattle.poly_atom.proofs.Bases.{base_in, base_up, in_base_has, in_base_pin}
use Rattle.poly_atom.proofs.GuardKinds.{IsGuard, guard_is}

base_more : (v w : View) (A B : List Atom) → Grown v w → ((a : Atom) → In a A → In a B) → (p : ℕ) → In p (base v A) → In p (base w B)
base_more v w A B g h p i = elim (base_in v A p i)
    [ inl j ↦ in_base_has w B p (h (Has p) j) | inr j ↦ in_base_pin w B p (subst (λ xs. In p xs) (sym g.3) j) ]

count_more : (v w : View) (A B : List Atom) → Grown v w → ((a : Atom) → In a A → In a B) → (i : Item) → count v (base v A) i ≤ count w (base w B) i
count_more v w A B g h i = tally_within (λ p. has_item v p i) (λ p. has_item w p i) (base v A) (base w B) (ascending_distinct (base v A) (base_up v A))
    (λ p k e. (base_more v w A B g h p k, any_items v w g.0 (λ j. same_item j i) p e))

most_same : (v w : View) → Grown v w → (i : Item) → most w i ≡ most v i
most_same v w g i = grown_bound v w g i (λ b. b.most)

least_same : (v w : View) → Grown v w → (i : Item) → least w i ≡ least v i
least_same v w g i = grown_bound v w g i (λ b. b.least)

any_more : {X : Type 0} (f g : X → Bool) (xs : List X) → ((x : X) → f x ≡ true → g x ≡ true) → list_any f xs ≡ true → list_any g xs ≡ true
any_more f g xs h e = let x = any_in f xs e in any_from g xs x.0 x.1 (h x.0 x.2)

bad_more : (v w : View) (A B : List Atom) → Grown v w → ((a : Atom) → In a A → In a B) → (a : Atom) → bad v A a ≡ true → bad w B a ≡ true
bad_more v w A B g h (Has p) e = elim (or_cases (not (mem v.live p) || list_any (λ a. lacks a p) A || list_any (λ q. conflicts v p q) (base v A)) (list_any (λ i. is_piece i && nat_lt (most v i) (count v (base v A) i)) (items v p)) e) [
  | inl e1 ↦ or_left (not (mem w.live p) || list_any (λ a. lacks a p) B || list_any (λ q. conflicts w p q) (base w B)) _ (elim (or_cases (not (mem v.live p) || list_any (λ a. lacks a p) A) (list_any (λ q. conflicts v p q) (base v A)) e1) [
    | inl e2 ↦ or_left (not (mem w.live p) || list_any (λ a. lacks a p) B) (list_any (λ q. conflicts w p q) (base w B)) (elim (or_cases (not (mem v.live p)) (list_any (λ a. lacks a p) A) e2) [
      | inl n ↦ or_left (not (mem w.live p)) (list_any (λ a. lacks a p) B) (ap (λ xs. not (mem xs p)) g.1 ∙ n)
      | inr l ↦ let x = any_in (λ a. lacks a p) A l in or_right (not (mem w.live p)) _ (any_from (λ a. lacks a p) B x.0 (h x.0 x.1) x.2)
    ])
    | inr c ↦ let x = any_in (λ q. conflicts v p q) (base v A) c in
        or_right (not (mem w.live p) || list_any (λ a. lacks a p) B) _ (any_from (λ q. conflicts w p q) (base w B) x.0 (base_more v w A B g h x.0 x.1) (named_conflict v w g.0 p x.0 x.2))
  ])
  | inr u ↦ or_right (not (mem w.live p) || list_any (λ a. lacks a p) B || list_any (λ q. conflicts w p q) (base w B)) _
      (any_more (λ i. is_piece i && nat_lt (most v i) (count v (base v A) i)) (λ i. is_piece i && nat_lt (most w i) (count w (base w B) i)) (items w p)
      (λ i k. let ks = and_parts (is_piece i) (nat_lt (most v i) (count v (base v A) i)) k in
      let l = ltb-true _ _ ks.1 in
      let c = count_more v w A B g h i in
      let m = most_same v w g i in
      and_from _ _ ks.0 (lt-ltb _ _ (omega arith)))
      (any_items v w g.0 (λ i. is_piece i && nat_lt (most v i) (count v (base v A) i)) p u))
]
bad_more v w A B g h (Lacks p) e = ap (λ xs. mem xs p) g.3 ∙ e
bad_more v w A B g h (AtLeast i n) e =
    let es = and_parts (list_any (λ b. same_item b.item i) v.bounds) (nat_lt (most v i) n) e in
    and_from _ _ (ap (λ bs. list_any (λ b. same_item b.item i) bs) g.2 ∙ es.0) (ap (λ k. nat_lt k n) (most_same v w g i) ∙ es.1)
bad_more v w A B g h (AtMost i n) e = ap (λ k. nat_lt n k) (least_same v w g i) ∙ e

-- a hopeless list stays hopeless if atoms are added and new numbers are assigned
pub hopeless_more : (v w : View) (A B : List Atom) → Grown v w → ((a : Atom) → In a A → In a B) → hopeless v A ≡ true → hopeless w B ≡ true
hopeless_more v w A B g h e = let x = any_in (λ a. bad v A a) A e in any_from (λ a. bad w B a) B x.0 (h x.0 x.1) (bad_more v w A B g h x.0 x.2)

pub hopeless_stays_lem : HopelessStays
hopeless_stays_lem v w A B g h = hopeless_more v w A (A ++ B) g (λ a i. in_append_left a A B i) h

-- the negation of a guard is bad in the design before the change
negated_bad : (old new : View) (A : List Atom) (a : Atom) → IsGuard old new a → bad old A (negated a) ≡ true
negated_bad old new A (Has p) g = in_mem old.pins p g
negated_bad old new A (Lacks p) g = or_left _ _ (or_left _ _ (or_left _ _ (not_from_false _ g.1)))
negated_bad old new A (AtLeast i n) g = lt-ltb _ _ (omega (arith, g.0, g.1))
negated_bad old new A (AtMost i n) g = and_from _ _ g.1 (lt-ltb _ _ (omega (arith, g.0)))

-- each stair has the negation of a guard
stair_ends : (B g A : List Atom) → In A (stairs_behind B g) → (a : Atom) × In a g × In (negated a) A
stair_ends B [] A i = absurd i
stair_ends B (a ∷ g) A (inl e) = (a, inl refl, subst (λ C. In (negated a) C) e (in_append_right (negated a) B (negated a ∷ []) (inl refl)))
stair_ends B (a ∷ g) A (inr i) = let r = stair_ends (B ++ a ∷ []) g A i in (r.0, inr r.1, r.2)

-- a list that has all atoms of a stair is hopeless in the design before the change
pub stair_was_hopeless : (old new : View) (A B : List Atom) → In A (stairs (guards old new)) → ((a : Atom) → In a A → In a B) → hopeless old B ≡ true
stair_was_hopeless old new A B i h =
    let r = stair_ends [] (guards old new) A i in
    any_from (λ a. bad old B a) B (negated r.0) (h (negated r.0) r.2) (negated_bad old new B r.0 (guard_is old new r.0 r.1))

pub stairs_were_hopeless_lem : StairsWereHopeless
stairs_were_hopeless_lem old new = all_from (λ A. hopeless old A) (stairs (guards old new)) (λ A i. stair_was_hopeless old new A A i (λ a j. j))

filter_none : {X : Type 0} (f : X → Bool) (xs : List X) → ((x : X) → In x xs → f x ≡ false) → filter f xs ≡ []
filter_none f [] h = refl
filter_none f (x ∷ xs) h = cond-false (f x) (x ∷ filter f xs) (filter f xs) (h x (inl refl)) ∙ filter_none f xs (λ y i. h y (inr i))

not_in : (b : Bool) → b ≡ true → not b ≡ false
not_in b e = ap not e

not_less : (a b : ℕ) → a ≡ b → nat_lt a b ≡ false
not_less a b e = false_from_ne_true (nat_lt a b) (λ l. let k = ltb-true a b l in omega arith)

pub same_has_no_guards_lem : SameHasNoGuards
same_has_no_guards_lem v w g =
    let fresh : guards_fresh v w ≡ [] = ap (λ ps. map (λ p. Lacks p) ps) (filter_none (λ p. not (mem v.live p)) w.live (λ p i. not_in _ (in_mem v.live p (subst (λ xs. In p xs) g.1 i)))) in
    let low : guards_least v w ≡ [] = ap (λ bs. map (λ b. AtLeast b.item (least v b.item)) bs) (filter_none (λ b. nat_lt (least w b.item) (least v b.item)) v.bounds (λ b i. not_less _ _ (least_same v w g b.item))) in
    let high : guards_most v w ≡ [] = ap (λ bs. map (λ b. AtMost b.item (most v b.item)) bs) (filter_none (λ b. nat_lt (most v b.item) (most w b.item)) v.bounds (λ b i. not_less _ _ (sym (most_same v w g b.item)))) in
    let pins : guards_pins v w ≡ [] = ap (λ ps. map (λ p. Has p) ps) (filter_none (λ p. not (mem w.pins p)) v.pins (λ p i. not_in _ (in_mem w.pins p (subst (λ xs. In p xs) (sym g.3) i)))) in
    ap (λ x. x ++ (guards_least v w ++ (guards_most v w ++ guards_pins v w))) fresh
    ∙ ap (λ x. x ++ (guards_most v w ++ guards_pins v w)) low
    ∙ ap (λ x. x ++ guards_pins v w) high ∙ pins

-- if each number of the old view names the same placement in the new one, a tiling of the old view meets the same atoms in
-- both
pub meets_old : (old new : View) (T : List ℕ) → WellNamed old → Names old new → IsTiling old T → (a : Atom) → meets new T a ≡ meets old T a
meets_old old new T wn names t (Has p) = refl
meets_old old new T wn names t (Lacks p) = refl
meets_old old new T wn names t (AtLeast i n) = ap (λ c. leb n c) (old_count old new T wn names t.placed i)
meets_old old new T wn names t (AtMost i n) = ap (λ c. leb c n) (old_count old new T wn names t.placed i)

pub meets_all_old : (old new : View) (T : List ℕ) → WellNamed old → Names old new → IsTiling old T → (A : List Atom) → meets_all new T A ≡ meets_all old T A
meets_all_old old new T wn names t A = all_same (λ a. meets new T a) (λ a. meets old T a) A (meets_old old new T wn names t)

pub answers_may_grow_lem : AnswersMayGrow
answers_may_grow_lem v w T A wn g t = meets_all_old v w T wn g.0 (parts v T t) A
