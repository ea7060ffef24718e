-- How far touched spans reach, and that they reach each task that the change ends.
use Rattle.std.proofs.Common.{Bool, List, [], ap, arith, false, get_or, inl, inr, length, nat_lt, refl, subst, suc, sym, take, true, zero, ℕ, ◌+◌, ◌<◌, ◌||◌, ◌∙◌, ◌∷◌, ◌≡◌, ◌≤◌, ◌⊎◌}
use Rattle.std.proofs.lemmas.Bool.{and_parts, cases_lt, ltb-true, true≢false}
use Rattle.std.proofs.lemmas.List.{get_or_default, take_more}
use Rattle.std.specs.List.{list_all, list_any}
use Rattle.std.specs.List.Sorted.{IsPartitionPoint}
use Rattle.poly_tiling.specs.Lists.{mem}
use Rattle.poly_tiling.specs.Puzzle.{View, same_item}
use Rattle.poly_tiling.specs.declared.item.Item.{Item}
use Rattle.poly_tiling.specs.declared.item.Item.TheVariants.{Piece}
use Rattle.poly_tiling.proofs.Lists.{all_in, any_append, any_in}
use Rattle.poly_tiling.proofs.Tilings.{same_item_is}
use Rattle.poly_atom.specs.declared.atom.Atom.{Atom}
use Rattle.poly_atom.specs.declared.atom.Atom.TheVariants.{AtLeast, AtMost, Has, Lacks}
use Rattle.poly_atom.specs.Hopeless.{hopeless}
use Rattle.poly_tasks.specs.declared.maps.Maps.{Maps}
use Rattle.poly_tasks.specs.declared.rows.Span.{Span}
use Rattle.poly_tasks.specs.declared.task.Pending.{Pending}
use Rattle.poly_tasks.specs.declared.touch.Touch.{Touch}
use Rattle.poly_tasks.specs.Mapped.{AreNoted, Rows, in_span, key_of, placed, spanned, under}
use Rattle.poly_tasks.specs.Meaning.{own_of}
use Rattle.poly_tasks.specs.Reaching.{AreEndsReached, IsFarther, IsReached}
use Rattle.poly_tasks.specs.Touching.{AreTouched, touches}
use Rattle.poly_tasks.proofs.Touched.{touched_at}
use Rattle.poly_tasks.proofs.Mapping.{bounds_of}

pub farther_self : (r : List ℕ) → IsFarther r r
farther_self r = record { len = refl; far = λ j n h. h }

pub farther_on : (a b c : List ℕ) → IsFarther a b → IsFarther b c → IsFarther a c
farther_on a b c v w = record { len = w.len ∙ v.len; far = λ j n h. w.far j n (v.far j n h) }

pub reached_on : (a b : List ℕ) (ps : List Pending) (f : ℕ → Bool) → IsFarther a b → IsReached a ps f → IsReached b ps f
reached_on a b ps f w h i d l k = let r = h i d l k in (r.0, r.1, w.far r.0 (get_or ps i d).number r.2)

pub reached_less : (r : List ℕ) (ps : List Pending) (f g : ℕ → Bool) → ((n : ℕ) → g n ≡ true → f n ≡ true) → IsReached r ps f → IsReached r ps g
reached_less r ps f g w h i d l k = h i d l (w (get_or ps i d).number k)

pub reached_span : (r : List ℕ) (ps : List Pending) (s : Span) (m : ℕ) → IsPartitionPoint (λ (p : Pending). nat_lt p.number s.from ≡ true) (λ (p : Pending). nat_lt p.number s.from ≡ false) ps m →
    (m < length ps → s.to ≤ get_or r m 0) → IsReached r ps (λ n. in_span s n)
reached_span r ps s m part to i d l k =
    let n = (get_or ps i d).number in
    let b = bounds_of s n k in
    elim (cases_lt i m) [
      | inl low ↦ absurd (omega (arith, b.0, ltb-true n s.from (part.0 i d (omega arith) low)))
      | inr past ↦ let far = to (omega (arith, past, l)) in (m, omega (arith, past), omega (arith, far, b.1))
    ]

or_cases : (a b : Bool) → (a || b) ≡ true → (a ≡ true) ⊎ (b ≡ true)
or_cases true b h = inl refl
or_cases false b h = inr h

-- if one of the first k + 1 elements passes, one of the first k passes, or the element at index k does
pub any_more : {X : Type 0} (f : X → Bool) (xs : List X) (k : ℕ) (d : X) → k < length xs → list_any f (take (k + 1) xs) ≡ true → (list_any f (take k xs) ≡ true) ⊎ (f (get_or xs k d) ≡ true)
any_more f xs k d l h =
    let x = get_or xs k d in
    let split : list_any f (take (k + 1) xs) ≡ (list_any f (take k xs) || (f x || false)) = ap (list_any f) (take_more xs k d l) ∙ any_append f (take k xs) (x ∷ []) in
    elim (or_cases (list_any f (take k xs)) (f x || false) (sym split ∙ h)) [
      | inl a ↦ inl a
      | inr b ↦ elim (or_cases (f x) false b) [ inl c ↦ inr c | inr c ↦ absurd (true≢false (sym c)) ]
    ]

pub spans_more : (r r2 : List ℕ) (ps : List Pending) (ss : List Span) (k : ℕ) (d : Span) → k < length ss → IsFarther r r2 → IsReached r ps (λ n. list_any (λ s. in_span s n) (take k ss)) →
    IsReached r2 ps (λ n. in_span (get_or ss k d) n) → IsReached r2 ps (λ n. list_any (λ s. in_span s n) (take (k + 1) ss))
spans_more r r2 ps ss k d l w h one i e low t =
    elim (any_more (λ s. in_span s (get_or ps i e).number) ss k d l t) [
      | inl a ↦ reached_on r r2 ps (λ n. list_any (λ s. in_span s n) (take k ss)) w h i e low a
      | inr b ↦ one i e low b
    ]

-- if the tasks under the keys of the first k elements are reached, and those under the key of the next element, then the tasks
-- under the keys of the first k + 1 elements are reached
pub keys_more : {X K : Type 0} (g : X → K → Bool) (key : K → ℕ) (rows : Rows) (r r2 : List ℕ) (ps : List Pending) (xs : List X) (k : ℕ) (d : X) → k < length xs → IsFarther r r2 →
    ((q : K) → list_any (λ x. g x q) (take k xs) ≡ true → IsReached r ps (λ n. spanned rows (key q) n)) →
    ((q : K) → g (get_or xs k d) q ≡ true → IsReached r2 ps (λ n. spanned rows (key q) n)) →
    (q : K) → list_any (λ x. g x q) (take (k + 1) xs) ≡ true → IsReached r2 ps (λ n. spanned rows (key q) n)
keys_more g key rows r r2 ps xs k d l w h one q t =
    elim (any_more (λ x. g x q) xs k d l t) [
      | inl a ↦ reached_on r r2 ps (λ n. spanned rows (key q) n) w (h q a)
      | inr b ↦ one q b
    ]

pub noted_at : (m : Maps) (log : List (List Atom)) (ps : List Pending) (i : ℕ) (d : Pending) → AreNoted m log ps → i < length ps → list_all (λ a. under m a (get_or ps i d).number) (own_of log (get_or ps i d).own) ≡ true
noted_at m log [] i d h l = absurd (omega (arith, l))
noted_at m log (p ∷ ps) zero d h l = (and_parts (list_all (λ a. under m a p.number) (own_of log p.own)) (list_all (λ (q : Pending). list_all (λ a. under m a q.number) (own_of log q.own)) ps) h).0
noted_at m log (p ∷ ps) (suc i) d h l = noted_at m log ps i d (and_parts (list_all (λ a. under m a p.number) (own_of log p.own)) (list_all (λ (q : Pending). list_all (λ a. under m a q.number) (own_of log q.own)) ps) h).1 (omega (arith, l))

-- if all tasks are noted, and those that are noted under a touched atom are reached, each task that the change ends is reached
pub ends_reached : (t : Touch) (w : View) (m : Maps) (log : List (List Atom)) (ps : List Pending) (reach : List ℕ) → t.view.now ≡ w → AreNoted m log ps → AreTouched t log ps → ((a : Atom) → touches t a ≡ true → IsReached reach ps (λ n. under m a n)) → AreEndsReached w log ps reach
ends_reached t w m log ps reach ev noted touched all i d l h =
    let p = get_or ps i d in
    let A = own_of log p.own in
    let hit = any_in (touches t) A (touched_at t log ps i d touched l (ap (λ z. hopeless z A) ev ∙ h)) in
    all hit.0 hit.2 i d l (all_in (λ a. under m a p.number) A (noted_at m log ps i d noted l) hit.0 hit.1)

-- if `far` is at least each of the first i entries, and `far2` is at least `far` and the entry at i, then `far2` is at least
-- each of the first i + 1 entries
pub far_more : (reach : List ℕ) (i far far2 : ℕ) → ((j : ℕ) → j < i → get_or reach j 0 ≤ far) → far ≤ far2 → get_or reach i 0 ≤ far2 → (j : ℕ) → j < i + 1 → get_or reach j 0 ≤ far2
far_more reach i far far2 h w k j l = elim (cases_lt j i) [
  | inl low ↦ let b = h j low in omega (arith, b, w)
  | inr past ↦ let same : j ≡ i = omega (arith, past, l) in subst (λ x. get_or reach x 0 ≤ far2) (sym same) k
]

-- the entries of the first k tasks reach these tasks, and so does the entry of the next task
pub all_more : (r r2 : List ℕ) (ps : List Pending) (k : ℕ) (x : Pending) → k < length ps → x ≡ get_or ps k x → IsFarther r r2 → ((i : ℕ) (d : Pending) → i < k → (get_or ps i d).number ≤ get_or r i 0) → x.number ≤ get_or r2 k 0 →
    (i : ℕ) (d : Pending) → i < k + 1 → (get_or ps i d).number ≤ get_or r2 i 0
all_more r r2 ps k x l is w h one i d low =
    elim (cases_lt i k) [
      | inl before ↦ w.far i (get_or ps i d).number (h i d before)
      | inr past ↦
          let here : i ≡ k = omega (arith, past, low) in
          let same : get_or ps k d ≡ x = sym (is ∙ get_or_default ps k x d l) in
          subst (λ j. (get_or ps j d).number ≤ get_or r2 j 0) (sym here) (subst (λ y. y.number ≤ get_or r2 k 0) (sym same) one)
    ]

-- if the tasks under the touched atoms of each kind are reached, one kind after the other, those under all touched atoms are
pub all_kinds : (t : Touch) (m : Maps) (ps : List Pending) (r1 r3 r4 r5 : List ℕ) → IsFarther r1 r3 → IsFarther r3 r4 → IsFarther r4 r5 →
    ((p : ℕ) → touches t (Has p) ≡ true → IsReached r1 ps (λ n. placed m.has.rows.items p n)) →
    t.delta.now.pinned.items ≡ [] →
    ((i : Item) → list_any (λ x. same_item (Piece x) i) t.delta.now.narrowed.items ≡ true → IsReached r3 ps (λ n. spanned m.at_least.entries (key_of i) n)) →
    IsReached r4 ps (λ n. spanned m.at_least.entries (key_of t.item) n) →
    ((i : Item) → list_any (λ x. same_item x i) t.delta.now.needed.items ≡ true → IsReached r5 ps (λ n. spanned m.at_most.entries (key_of i) n)) →
    (a : Atom) → touches t a ≡ true → IsReached r5 ps (λ n. under m a n)
all_kinds t m ps r1 r3 r4 r5 w3 w4 w5 has none least own most (Has p) h = reached_on r1 r5 ps (λ n. under m (Has p) n) (farther_on r1 r3 r5 w3 (farther_on r3 r4 r5 w4 w5)) (has p h)
all_kinds t m ps r1 r3 r4 r5 w3 w4 w5 has none least own most (Lacks p) h = absurd (true≢false (sym h ∙ ap (λ l. mem l p) none))
all_kinds t m ps r1 r3 r4 r5 w3 w4 w5 has none least own most (AtLeast i k) h =
    elim (or_cases (list_any (λ x. same_item (Piece x) i) t.delta.now.narrowed.items) (same_item t.item i) h) [
      | inl a ↦ reached_on r3 r5 ps (λ n. spanned m.at_least.entries (key_of i) n) (farther_on r3 r4 r5 w4 w5) (least i a)
      | inr b ↦ reached_on r4 r5 ps (λ n. spanned m.at_least.entries (key_of i) n) w5 (subst (λ j. IsReached r4 ps (λ n. spanned m.at_least.entries (key_of j) n)) (same_item_is t.item i b) own)
    ]
all_kinds t m ps r1 r3 r4 r5 w3 w4 w5 has none least own most (AtMost i k) h = most i h
