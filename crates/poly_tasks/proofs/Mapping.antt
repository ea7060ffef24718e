-- What is noted in the maps for pending tasks stays noted. A stair is noted once its last atom and all guards before that
-- atom are noted.
use Rattle.std.proofs.Common.{Bool, Err, List, Ok, Result, [], ap, arith, drop, eqb, false, get_or, inl, inr, length, nat_lt, refl, subst, suc, sym, take, true, zero, ℕ, ◌+◌, ◌++◌, ◌-◌, ◌<◌, ◌∙◌, ◌∷◌, ◌≡◌, ◌≤◌}
use Rattle.std.proofs.lemmas.Bool.Decides.{leb_tells}
use Rattle.std.proofs.lemmas.Bool.{and_from, and_parts, cases_lt, cond_both, eqb-true, ltb-false, ltb-true, or_cases, or_left, or_right, true≢false}
use Rattle.std.proofs.lemmas.List.{take-append-drop, take-take, take_more}
use Rattle.std.proofs.lemmas.Slice.{between_is}
use Rattle.std.specs.List.{AllWithin, filter, list_all, list_any}
use Rattle.std.specs.List.Sorted.{IsNonDecreasingBy}
use Rattle.std.specs.Prelude.{OnOk, nat_le, ◌&&◌, ◌⊎◌}
use Rattle.poly_tiling.proofs.Contained.{at_in}
use Rattle.poly_tiling.proofs.Lists.{In, all_append, any_from, any_in, any_none}
use Rattle.poly_atom.specs.declared.atom.Atom.{Atom}
use Rattle.poly_atom.specs.declared.atom.Atom.TheVariants.{AtLeast, AtMost, Has, Lacks}
use Rattle.poly_atom.specs.declared.stair.Stair.{Stair}
use Rattle.poly_atom.specs.Atoms.{negated}
use Rattle.poly_atom.specs.Logs.{IsStairOf, stair_of}
use Rattle.poly_atom.proofs.Walks.{stairs_at}
use Rattle.poly_lists.specs.Words.{is_other}
use Rattle.poly_tasks.specs.declared.maps.Maps.{Maps}
use Rattle.poly_tasks.specs.declared.maps.Prefix.{Prefix}
use Rattle.poly_tasks.specs.declared.rows.Span.{Span}
use Rattle.poly_tasks.specs.declared.task.Pending.{Pending}
use Rattle.poly_tasks.specs.Mapped.{IsPrefix, IsWider, has_pending, in_span, is_pending, under}

-- what holds of each `Lacks` and of the other atoms of a list holds of all
pub all_others : (f : Atom → Bool) (A : List Atom) → ((p : ℕ) → f (Lacks p) ≡ true) → list_all f (filter is_other A) ≡ true → list_all f A ≡ true
all_others f [] l h = refl
all_others f (Has p ∷ A) l h = let hs = and_parts (f (Has p)) (list_all f (filter is_other A)) h in and_from (f (Has p)) (list_all f A) hs.0 (all_others f A l hs.1)
all_others f (Lacks p ∷ A) l h = and_from (f (Lacks p)) (list_all f A) (l p) (all_others f A l h)
all_others f (AtLeast i n ∷ A) l h = let hs = and_parts (f (AtLeast i n)) (list_all f (filter is_other A)) h in and_from (f (AtLeast i n)) (list_all f A) hs.0 (all_others f A l hs.1)
all_others f (AtMost i n ∷ A) l h = let hs = and_parts (f (AtMost i n)) (list_all f (filter is_other A)) h in and_from (f (AtMost i n)) (list_all f A) hs.0 (all_others f A l hs.1)

pub all_imply : {X : Type 0} (f g : X → Bool) (xs : List X) → ((x : X) → f x ≡ true → g x ≡ true) → list_all f xs ≡ true → list_all g xs ≡ true
all_imply f g [] i h = refl
all_imply f g (x ∷ xs) i h = let hs = and_parts (f x) (list_all f xs) h in and_from (g x) (list_all g xs) (i x hs.0) (all_imply f g xs i hs.1)

-- if a test passes on the first i elements and on the next one, it passes on the first i + 1
pub all_more : {X : Type 0} (f : X → Bool) (xs : List X) (i : ℕ) (d : X) → i < length xs → list_all f (take i xs) ≡ true → f (get_or xs i d) ≡ true → list_all f (take (i + 1) xs) ≡ true
all_more f xs i d l h k =
    ap (list_all f) (take_more xs i d l) ∙ all_append f (take i xs) (get_or xs i d ∷ []) ∙ and_from (list_all f (take i xs)) (f (get_or xs i d) && true) h (and_from (f (get_or xs i d)) true k refl)

pub wide_atoms : (m m2 : Maps) (n : ℕ) (A : List Atom) → IsWider m m2 → list_all (λ a. under m a n) A ≡ true → list_all (λ a. under m2 a n) A ≡ true
wide_atoms m m2 n A w h = all_imply (λ a. under m a n) (λ a. under m2 a n) A (λ a e. w a n e) h

pub on_ok_all : {X E : Type 0} (r : Result X E) (P : Type 0) → P → OnOk r P
on_ok_all (Ok x) P h = h
on_ok_all (Err e) P h = tt

pub on_ok_then : {X E : Type 0} (r : Result X E) (P Q : Type 0) → (P → Q) → OnOk r P → OnOk r Q
on_ok_then (Ok x) P Q f h = f h
on_ok_then (Err e) P Q f h = tt

low_true : (m n : ℕ) → m ≤ n → nat_le m n ≡ true
low_true m n h = elim (leb_tells m n) [ inl p ↦ p.0 | inr p ↦ absurd (omega (arith, h, p.1)) ]

true_low : (m n : ℕ) → nat_le m n ≡ true → m ≤ n
true_low m n h = elim (leb_tells m n) [ inl p ↦ p.1 | inr p ↦ absurd (true≢false (sym h ∙ p.0)) ]

pub within : (s : Span) (n : ℕ) → s.from ≤ n → n ≤ s.to → in_span s n ≡ true
within s n a b = and_from (nat_le s.from n) (nat_le n s.to) (low_true s.from n a) (low_true n s.to b)

pub bounds_of : (s : Span) (n : ℕ) → in_span s n ≡ true → (s.from ≤ n) × (n ≤ s.to)
bounds_of s n h = let hs = and_parts (nat_le s.from n) (nat_le n s.to) h in (true_low s.from n hs.0, true_low n s.to hs.1)

-- the first k elements, followed by those from k to j, are the first j
take_join : {X : Type 0} (k j : ℕ) (xs : List X) → k ≤ j → take k xs ++ take (j - k) (drop k xs) ≡ take j xs
take_join {X} k j xs l =
    ap {B = List X} (λ ys. ys ++ take (j - k) (drop k xs)) (sym (take-take k j xs l))
    ∙ ap {B = List X} (λ ys. take k (take j xs) ++ ys) (between_is xs k j)
    ∙ take-append-drop k (take j xs)

all_join : {X : Type 0} (f : X → Bool) (k j : ℕ) (xs : List X) → k ≤ j → list_all f (take k xs) ≡ true → list_all f (take (j - k) (drop k xs)) ≡ true → list_all f (take j xs) ≡ true
all_join f k j xs l p q =
    ap (list_all f) (sym (take_join k j xs l)) ∙ all_append f (take k xs) (take (j - k) (drop k xs))
    ∙ and_from (list_all f (take k xs)) (list_all f (take (j - k) (drop k xs))) p q

all_fewer : {X : Type 0} (f : X → Bool) (k j : ℕ) (xs : List X) → k ≤ j → list_all f (take j xs) ≡ true → list_all f (take k xs) ≡ true
all_fewer f k j xs l h =
    (and_parts (list_all f (take k xs)) (list_all f (take (j - k) (drop k xs)))
    (sym (all_append f (take k xs) (take (j - k) (drop k xs))) ∙ ap (list_all f) (take_join k j xs l) ∙ h)).0

-- if k is 0, or the prefix covers the span and the first k guards of the stair's edition, then these guards are noted for each
-- number in the span
known_noted : (m : Maps) (log : List (List Atom)) (f : Prefix) (s : Stair) (w : Span) (k n : ℕ) → IsPrefix m log f → (k ≡ 0) ⊎ ((k ≤ f.count) × (f.edition ≡ s.edition) × (f.span.from ≤ w.from) × (w.to ≤ f.span.to)) → in_span w n ≡ true → list_all (λ a. under m a n) (take k (get_or log s.edition [])) ≡ true
known_noted m log f s w k n p known h = elim known [
  | inl none ↦ ap (λ j. list_all (λ a. under m a n) (take j (get_or log s.edition []))) none
  | inr some ↦
      let b = bounds_of w n h in
      let low = some.2 in
      let high = some.3 in
      let first = b.0 in
      let last = b.1 in
      subst (λ e. list_all (λ a. under m a n) (take k (get_or log e [])) ≡ true) some.1
      (all_fewer (λ a. under m a n) k f.count (get_or log f.edition []) some.0 (p n (within f.span n (omega (arith, low, first)) (omega (arith, high, last)))))
]

-- if the guards from index k to just before the stair's index are noted, and either k is 0 or the prefix covers the first k
-- guards, then all guards before the stair's last atom are noted
pub guards_noted : (m m2 : Maps) (log : List (List Atom)) (f : Prefix) (s : Stair) (w : Span) (k : ℕ) (g : List Atom) → g ≡ get_or log s.edition [] → IsWider m m2 → IsPrefix m log f → k ≤ s.index → (k ≡ 0) ⊎ ((k ≤ f.count) × (f.edition ≡ s.edition) × (f.span.from ≤ w.from) × (w.to ≤ f.span.to)) → ((n : ℕ) → in_span w n ≡ true → list_all (λ a. under m2 a n) (take (s.index - k) (drop k g)) ≡ true) → (n : ℕ) → in_span w n ≡ true → list_all (λ a. under m2 a n) (take s.index (get_or log s.edition [])) ≡ true
guards_noted m m2 log f s w k g is wider p low known rest n h =
    let all = get_or log s.edition [] in
    all_join (λ a. under m2 a n) k s.index all low
    (wide_atoms m m2 n (take k all) wider (known_noted m log f s w k n p known h))
    (subst (λ x. list_all (λ a. under m2 a n) (take (s.index - k) (drop k x)) ≡ true) is (rest n h))

-- a stair is noted for a task if the stair's last atom and all guards before that atom are noted for the task
pub stair_noted : (m : Maps) (log : List (List Atom)) (s : Stair) (n : ℕ) (a d : Atom) (g : List Atom) → g ≡ get_or log s.edition [] → IsStairOf log s → a ≡ negated (get_or g s.index d) → list_all (λ a. under m a n) (take s.index (get_or log s.edition [])) ≡ true → under m a n ≡ true → list_all (λ a. under m a n) (stair_of log s) ≡ true
stair_noted m log s n a d g is own last h k =
    let f : Atom → Bool = λ a. under m a n in
    let all = get_or log s.edition [] in
    let b = negated (get_or all s.index d) in
    let same : under m b n ≡ true = subst (λ x. under m x n ≡ true) (last ∙ ap (λ x. negated (get_or x s.index d)) is) k in
    ap (list_all f) (stairs_at all s.index d own.index_in) ∙ all_append f (take s.index all) (b ∷ [])
    ∙ and_from (list_all f (take s.index all)) (f b && true) h (and_from (f b) true same refl)

indexed_in : {X : Type 0} (xs : List X) (x d : X) → In x xs → (k : ℕ) × (k < length xs) × (get_or xs k d ≡ x)
indexed_in [] x d i = absurd i
indexed_in (y ∷ ys) x d (inl e) = (zero, omega arith, e)
indexed_in (y ∷ ys) x d (inr i) = let r = indexed_in ys x d i in let low = r.1 in (suc r.0, omega (arith, low), r.2)

-- of the pending tasks' numbers, which rise, the first that isn't below the span decides whether one of them is in the span
pub has_here : (s : Span) (ps : List Pending) (i : ℕ) (d : Pending) → IsNonDecreasingBy (λ (p : Pending). p.number) ps → AllWithin (λ (p : Pending). nat_lt p.number s.from ≡ true) ps 0 i → AllWithin (λ (p : Pending). nat_lt p.number s.from ≡ false) ps i (length ps) → i < length ps → nat_le (get_or ps i d).number s.to ≡ has_pending ps s
has_here s ps i d rises below above low =
    let x = get_or ps i d in
    let f : Pending → Bool = λ p. in_span s p.number in
    elim (leb_tells x.number s.to) [
      | inl p ↦ p.0 ∙ sym (any_from f ps x (at_in ps i d low) (within s x.number (ltb-false x.number s.from (above i d (omega arith) low)) p.1))
      | inr p ↦ p.0 ∙ sym (any_none f ps (λ q j e. has_other s ps i d q rises below p.1 (indexed_in ps q d j) (bounds_of s q.number e)))
    ]
  where
    has_other : (s : Span) (ps : List Pending) (i : ℕ) (d q : Pending) → IsNonDecreasingBy (λ (p : Pending). p.number) ps → AllWithin (λ (p : Pending). nat_lt p.number s.from ≡ true) ps 0 i → s.to < (get_or ps i d).number → (k : ℕ) × (k < length ps) × (get_or ps k d ≡ q) → (s.from ≤ q.number) × (q.number ≤ s.to) → ⊥
    has_other s ps i d q rises below past at b =
        let k = at.0 in
        let same : (get_or ps k d).number ≡ q.number = ap (λ (p : Pending). p.number) at.2 in
        let first = b.0 in
        let last = b.1 in
        elim (cases_lt k i) [
          | inl l ↦ omega (arith, ltb-true (get_or ps k d).number s.from (below k d (omega arith) l), same, first)
          | inr g ↦ omega (arith, rises i k d g at.1, same, last, past)
        ]

pub has_none : (s : Span) (ps : List Pending) (i : ℕ) → AllWithin (λ (p : Pending). nat_lt p.number s.from ≡ true) ps 0 i → length ps ≤ i → false ≡ has_pending ps s
has_none s ps i below past = sym (any_none (λ (p : Pending). in_span s p.number) ps (λ q j e. has_not s ps i q below past (indexed_in ps q q j) (bounds_of s q.number e)))
  where
    has_not : (s : Span) (ps : List Pending) (i : ℕ) (q : Pending) → AllWithin (λ (p : Pending). nat_lt p.number s.from ≡ true) ps 0 i → length ps ≤ i → (k : ℕ) × (k < length ps) × (get_or ps k q ≡ q) → (s.from ≤ q.number) × (q.number ≤ s.to) → ⊥
    has_not s ps i q below past at b =
        let k = at.0 in
        let low = at.1 in
        let same : (get_or ps k q).number ≡ q.number = ap (λ (p : Pending). p.number) at.2 in
        let first = b.0 in
        omega (arith, ltb-true (get_or ps k q).number s.from (below k q (omega arith) (omega (arith, low, past))), same, first)

-- if the number of a pending task is in a span, the span has a pending task
has_number : (ps : List Pending) (s : Span) (n : ℕ) → is_pending ps n ≡ true → in_span s n ≡ true → has_pending ps s ≡ true
has_number ps s n h e =
    let r = any_in (λ (p : Pending). eqb p.number n) ps h in
    any_from (λ (p : Pending). in_span s p.number) ps r.0 r.1 (ap (in_span s) (eqb-true r.0.number n r.2) ∙ e)

any_kept : {X : Type 0} (f g : X → Bool) (xs : List X) → ((x : X) → f x ≡ true → g x ≡ true) → list_any f xs ≡ true → list_any f (filter g xs) ≡ true
any_kept f g [] i h = h
any_kept f g (x ∷ xs) i h =
    cond_both (g x) (x ∷ filter g xs) (filter g xs) (λ ys. list_any f ys ≡ true)
    (λ _. elim (or_cases (f x) (list_any f xs) h) [ inl e ↦ or_left (f x) (list_any f (filter g xs)) e | inr e ↦ or_right (f x) (list_any f (filter g xs)) (any_kept f g xs i e) ])
    (λ off. elim (or_cases (f x) (list_any f xs) h) [ inl e ↦ absurd (true≢false (sym (i x e) ∙ off)) | inr e ↦ any_kept f g xs i e ])

-- dropping the spans of ended tasks leaves each number of a pending task in the row
pub row_kept : (ps : List Pending) (r : List Span) (n : ℕ) → is_pending ps n ≡ true → list_any (λ s. in_span s n) r ≡ true → list_any (λ s. in_span s n) (filter (λ s. has_pending ps s) r) ≡ true
row_kept ps r n h e = any_kept (λ s. in_span s n) (λ s. has_pending ps s) r (λ s k. has_number ps s n h k) e
