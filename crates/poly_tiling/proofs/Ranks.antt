-- Tilings are compared by the positions of their numbers.
use Rattle.std.proofs.Common.{Bool, List, Some, [], ap, arith, cond, eqb, false, inl, inr, length, ltb, refl, slice_get, sym, true, ℕ, ◌+◌, ◌<◌, ◌∙◌, ◌∷◌, ◌≡◌, ◌≤◌}
use Rattle.std.proofs.lemmas.Bool.{and_parts, eq-eqb, le-ltb, lt-ltb, ne_eqb}
use Rattle.std.specs.Cmp.{tied_itself}
use Rattle.std.specs.Cmp.Lexicographic.{slice_cmp}
use Rattle.std.specs.List.{cons_option, filter, list_all}
use Rattle.std.specs.Ordering.{is_lt, nat_cmp, ordering_reverse, ordering_then}
use Rattle.std.specs.declared.cmp.Ordering.{Ordering}
use Rattle.std.specs.declared.cmp.Ordering.TheVariants.{Equal, Greater, Less}
use Rattle.poly_design.specs.declared.placement.Placement.{Placement}
use Rattle.poly_tiling.specs.Lists.{mem}
use Rattle.poly_tiling.specs.Puzzle.{View}
use Rattle.poly_tiling.specs.Names.{below, in_order, placed_below, placement_cmp}
use Rattle.poly_tiling.specs.Shows.{names}
use Rattle.poly_tiling.specs.TilingOrder.{RanksCompare, ranks_from}
use Rattle.poly_tiling.proofs.Lists.{In, all_in, filter_in}
use Rattle.poly_tiling.proofs.Orders.{placement_total}
use Rattle.poly_tiling.proofs.Shown.{is_given, names_in}

ranks_low_at : (s : ℕ) (ns T : List ℕ) (k : ℕ) → (In k (ranks_from (s + 1) ns T) → s + 1 ≤ k) → (b : Bool) → In k (cond b (s ∷ ranks_from (s + 1) ns T) (ranks_from (s + 1) ns T)) → s ≤ k
ranks_low_at s ns T k ih true (inl e) = omega arith
ranks_low_at s ns T k ih true (inr j) = let l = ih j in omega arith
ranks_low_at s ns T k ih false j = let l = ih j in omega arith

-- if positions are counted from s, no rank is below s
pub ranks_low : (s : ℕ) (ns T : List ℕ) (k : ℕ) → In k (ranks_from s ns T) → s ≤ k
ranks_low s [] T k i = absurd i
ranks_low s (n ∷ ns) T k i = ranks_low_at s ns T k (λ j. ranks_low (s + 1) ns T k j) (mem T n) i

ranks_high_at : (s : ℕ) (n : ℕ) (ns T : List ℕ) (k : ℕ) → (In k (ranks_from (s + 1) ns T) → k < s + 1 + length ns) → (b : Bool) → In k (cond b (s ∷ ranks_from (s + 1) ns T) (ranks_from (s + 1) ns T)) → k < s + length (n ∷ ns)
ranks_high_at s n ns T k ih true (inl e) = omega (arith, e)
ranks_high_at s n ns T k ih true (inr j) = let l = ih j in omega (arith, l)
ranks_high_at s n ns T k ih false j = let l = ih j in omega (arith, l)

-- if positions are counted from s, each rank is below s plus the number of positions
pub ranks_high : (s : ℕ) (ns T : List ℕ) (k : ℕ) → In k (ranks_from s ns T) → k < s + length ns
ranks_high s [] T k i = absurd i
ranks_high s (n ∷ ns) T k i = ranks_high_at s n ns T k (λ j. ranks_high (s + 1) ns T k j) (mem T n) i

-- as many ranks as placements; each rank is above s, and each placement comes after x
record Behind (s : ℕ) (x : Placement) (ks : List ℕ) (xs : List Placement) : Type 0 where
  even : length ks ≡ length xs
  ranks : (k : ℕ) → In k ks → s < k
  after : (y : Placement) → In y xs → placement_cmp x y ≡ Less

pub nat_less : (m n : ℕ) → m < n → nat_cmp m n ≡ Less
nat_less m n l = ap (λ b. cond b Less (cond (eqb m n) Equal Greater)) (lt-ltb m n l)

pub nat_more : (m n : ℕ) → m < n → nat_cmp n m ≡ Greater
nat_more m n l =
    let a : ltb n m ≡ false = le-ltb n m (omega arith) in
    let b : eqb n m ≡ false = ne_eqb n m (λ e. absurd (omega arith)) in
    ap (λ t. cond t Less (cond (eqb n m) Equal Greater)) a ∙ ap (λ t. cond t Equal Greater) b

pub nat_tied : (n : ℕ) → nat_cmp n n ≡ Equal
nat_tied n =
    let a : ltb n n ≡ false = le-ltb n n (omega arith) in
    ap (λ t. cond t Less (cond (eqb n n) Equal Greater)) a ∙ ap (λ t. cond t Equal Greater) (eq-eqb n n refl)

first_here : (s : ℕ) (x : Placement) (ra ks : List ℕ) (na xs : List Placement) → Behind s x ks xs → slice_cmp nat_cmp (s ∷ ra) ks ≡ slice_cmp placement_cmp (x ∷ na) xs
first_here s x ra [] na [] h = refl
first_here s x ra [] na (y ∷ xs) h = let e = h.even in absurd (omega arith)
first_here s x ra (k ∷ ks) na [] h = let e = h.even in absurd (omega arith)
first_here s x ra (k ∷ ks) na (y ∷ xs) h =
    ap (λ o. ordering_then o (slice_cmp nat_cmp ra ks)) (nat_less s k (h.ranks k (inl refl)))
    ∙ sym (ap (λ o. ordering_then o (slice_cmp placement_cmp na xs)) (h.after y (inl refl)))

first_there : (s : ℕ) (x : Placement) (ra ks : List ℕ) (na xs : List Placement) → Behind s x ks xs → slice_cmp nat_cmp ks (s ∷ ra) ≡ slice_cmp placement_cmp xs (x ∷ na)
first_there s x ra [] na [] h = refl
first_there s x ra [] na (y ∷ xs) h = let e = h.even in absurd (omega arith)
first_there s x ra (k ∷ ks) na [] h = let e = h.even in absurd (omega arith)
first_there s x ra (k ∷ ks) na (y ∷ xs) h =
    let more : placement_cmp y x ≡ Greater = placement_total.antisymm y x ∙ ap ordering_reverse (h.after y (inl refl)) in
    ap (λ o. ordering_then o (slice_cmp nat_cmp ks ra)) (nat_more s k (h.ranks k (inl refl)))
    ∙ sym (ap (λ o. ordering_then o (slice_cmp placement_cmp xs na)) more)

-- there are as many ranks as placements
even_at : (v : View) (s n : ℕ) (ns T : List ℕ) (x : Placement) → slice_get v.placements n ≡ Some x → length (ranks_from (s + 1) ns T) ≡ length (names v (filter (λ n. mem T n) ns)) →
    (b : Bool) → length (cond b (s ∷ ranks_from (s + 1) ns T) (ranks_from (s + 1) ns T)) ≡ length (names v (cond b (n ∷ filter (λ n. mem T n) ns) (filter (λ n. mem T n) ns)))
even_at v s n ns T x e ih true = let l = ap (λ o. length (cons_option o (names v (filter (λ n. mem T n) ns)))) e in omega (arith, l, ih)
even_at v s n ns T x e ih false = ih

even_all : (v : View) (s : ℕ) (ns T : List ℕ) → ((n : ℕ) → In n ns → (x : Placement) × (slice_get v.placements n ≡ Some x)) → length (ranks_from s ns T) ≡ length (names v (filter (λ n. mem T n) ns))
even_all v s [] T g = refl
even_all v s (n ∷ ns) T g = let x = g n (inl refl) in even_at v s n ns T x.0 x.1 (even_all v (s + 1) ns T (λ m i. g m (inr i))) (mem T n)

pub lt_less : (o : Ordering) → is_lt o ≡ true → o ≡ Less
lt_less Less h = refl
lt_less Equal h = cc
lt_less Greater h = cc

behind : (v : View) (s n : ℕ) (ns T : List ℕ) (x : Placement) → ((n : ℕ) → In n ns → (x : Placement) × (slice_get v.placements n ≡ Some x)) → slice_get v.placements n ≡ Some x → list_all (λ q. below v n q) ns ≡ true →
    Behind s x (ranks_from (s + 1) ns T) (names v (filter (λ n. mem T n) ns))
behind v s n ns T x g e up = record {
  even = even_all v (s + 1) ns T g;
  ranks = λ k i. let l = ranks_low (s + 1) ns T k i in omega arith;
  after = λ y i.
      let r = names_in v (filter (λ n. mem T n) ns) y i in
      let b = all_in (λ q. below v n q) ns up r.0 (filter_in (λ n. mem T n) ns r.0 r.1).0 in
      lt_less (placement_cmp x y) (sym (ap (λ o. placed_below o (slice_get v.placements r.0)) e ∙ ap (λ o. placed_below (Some x) o) r.2) ∙ b);
}

compare_at : (v : View) (s n : ℕ) (ns A B : List ℕ) (x : Placement) → slice_get v.placements n ≡ Some x →
    ((T : List ℕ) → Behind s x (ranks_from (s + 1) ns T) (names v (filter (λ n. mem T n) ns))) →
    slice_cmp nat_cmp (ranks_from (s + 1) ns A) (ranks_from (s + 1) ns B) ≡ slice_cmp placement_cmp (names v (filter (λ n. mem A n) ns)) (names v (filter (λ n. mem B n) ns)) →
    (a b : Bool) →
    slice_cmp nat_cmp (cond a (s ∷ ranks_from (s + 1) ns A) (ranks_from (s + 1) ns A)) (cond b (s ∷ ranks_from (s + 1) ns B) (ranks_from (s + 1) ns B))
    ≡ slice_cmp placement_cmp (names v (cond a (n ∷ filter (λ n. mem A n) ns) (filter (λ n. mem A n) ns))) (names v (cond b (n ∷ filter (λ n. mem B n) ns) (filter (λ n. mem B n) ns)))
compare_at v s n ns A B x e far ih true true =
    let na = names v (filter (λ n. mem A n) ns) in
    let nb = names v (filter (λ n. mem B n) ns) in
    ap (λ o. ordering_then o (slice_cmp nat_cmp (ranks_from (s + 1) ns A) (ranks_from (s + 1) ns B))) (nat_tied s)
    ∙ ih
    ∙ sym (ap (λ o. ordering_then o (slice_cmp placement_cmp na nb)) (tied_itself placement_total x))
    ∙ sym (ap (λ o. slice_cmp placement_cmp (cons_option o na) (cons_option o nb)) e)
compare_at v s n ns A B x e far ih true false =
    let na = names v (filter (λ n. mem A n) ns) in
    let nb = names v (filter (λ n. mem B n) ns) in
    first_here s x (ranks_from (s + 1) ns A) (ranks_from (s + 1) ns B) na nb (far B)
    ∙ sym (ap (λ o. slice_cmp placement_cmp (cons_option o na) nb) e)
compare_at v s n ns A B x e far ih false true =
    let na = names v (filter (λ n. mem A n) ns) in
    let nb = names v (filter (λ n. mem B n) ns) in
    first_there s x (ranks_from (s + 1) ns B) (ranks_from (s + 1) ns A) nb na (far A)
    ∙ sym (ap (λ o. slice_cmp placement_cmp na (cons_option o nb)) e)
compare_at v s n ns A B x e far ih false false = ih

compare_all : (v : View) (s : ℕ) (ns A B : List ℕ) → ((n : ℕ) → In n ns → (x : Placement) × (slice_get v.placements n ≡ Some x)) → in_order v ns ≡ true →
    slice_cmp nat_cmp (ranks_from s ns A) (ranks_from s ns B) ≡ slice_cmp placement_cmp (names v (filter (λ n. mem A n) ns)) (names v (filter (λ n. mem B n) ns))
compare_all v s [] A B g up = refl
compare_all v s (n ∷ ns) A B g up =
    let x = g n (inl refl) in
    let hs = and_parts (list_all (λ q. below v n q) ns) (in_order v ns) up in
    compare_at v s n ns A B x.0 x.1
    (λ T. behind v s n ns T x.0 (λ m i. g m (inr i)) x.1 hs.0)
    (compare_all v (s + 1) ns A B (λ m i. g m (inr i)) hs.1)
    (mem A n) (mem B n)

pub ranks_compare_lem : RanksCompare
ranks_compare_lem v A B wn = compare_all v 0 v.live A B (λ n i. is_given v v.live wn.named n i) wn.live_up
