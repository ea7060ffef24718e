-- What a walk over two lists in the same order finds.
use Rattle.std.proofs.Common.{Bool, List, None, Option, Some, [], ap, append_assoc, cond, drop, eqb, false, get_or, inl, inr, length, map, nat_lt, not, refl, suc, sym, true, zero, ℕ, ◌&&◌, ◌++◌, ◌+◌, ◌<◌, ◌||◌, ◌∙◌, ◌∷◌, ◌≡◌, ◌≤◌}
use Rattle.std.proofs.lemmas.Bool.{and_from, and_parts, both_ways, cond-false, cond-true, eqb-true, false_from_ne_true}
use Rattle.std.proofs.lemmas.List.{append-nil, at_drop_more, drop_all}
use Rattle.std.specs.Cmp.{tied_itself}
use Rattle.std.specs.List.{filter, find, list_all}
use Rattle.std.specs.Option.{is_some}
use Rattle.std.specs.Ordering.{is_lt}
use Rattle.poly_tiling.specs.Lists.{mem}
use Rattle.poly_tiling.specs.declared.bound.Bound.{Bound}
use Rattle.poly_tiling.specs.declared.item.Item.{Item}
use Rattle.poly_tiling.specs.Names.{WellNamed, below, in_order, item_cmp, items_ascend}
use Rattle.poly_tiling.specs.Puzzle.{View, bound_in, found_or, least, most, same_item}
use Rattle.poly_tiling.proofs.Lists.{In, all_in, filter_in}
use Rattle.poly_tiling.proofs.Searched.{item_total}
use Rattle.poly_tiling.proofs.Ranks.{lt_less}
pub use Rattle.poly_tiling.proofs.Below.{below-trans, below_self, order_kept, slot_same}
use Rattle.poly_tiling.proofs.Tilings.{same_item_is, same_item_self}
use Rattle.poly_atom.specs.declared.atom.Atom.TheVariants.{AtLeast, AtMost}
use Rattle.poly_atom.specs.Guards.{guards_least, guards_most}
use Rattle.poly_atom.specs.Merge.{behind, front, past}

-- each element is below all that follow it
abbrev pub sorted : {X : Type 0} → (X → X → Bool) → List X → Bool
sorted lt [] = true
sorted lt (x ∷ xs) = list_all (λ y. lt x y) xs && sorted lt xs

-- `make x` for each x of the first list that passes the test; if both lists are sorted, the test also sees the element of the
-- second list that is equal to x, if there is one
abbrev pub walk : {X A : Type 0} → (X → X → Bool) → (X → X → Bool) → (X → Option X → Bool) → (X → A) → List X → List X → List A
walk lt eq test make [] ys = []
walk lt eq test make (x ∷ xs) ys =
    cond (test x (front (λ y. eq y x) (behind (λ y. lt y x) ys))) (make x ∷ walk lt eq test make xs (behind (λ y. lt y x) ys)) (walk lt eq test make xs (behind (λ y. lt y x) ys))

-- `lt` is an order, and `eq` says which elements are equal in that order
pub record IsOrder {X : Type 0} (lt eq : X → X → Bool) : Type 0 where
  pub trans : (x y z : X) → lt x y ≡ true → lt y z ≡ true → lt x z ≡ true
  pub apart : (x y : X) → lt x y ≡ true → eq x y ≡ true → ⊥
  pub along : (x y z : X) → lt x y ≡ true → eq y z ≡ true → lt x z ≡ true

pub filter_same_in : {X : Type 0} (f g : X → Bool) (xs : List X) → ((x : X) → In x xs → f x ≡ g x) → filter f xs ≡ filter g xs
filter_same_in f g [] h = refl
filter_same_in f g (x ∷ xs) h = ap (λ b. cond b (x ∷ filter f xs) (filter f xs)) (h x (inl refl)) ∙ ap (λ t. cond (g x) (x ∷ t) t) (filter_same_in f g xs (λ y i. h y (inr i)))

pub map_same_in : {X Y : Type 0} (f g : X → Y) (xs : List X) → ((x : X) → In x xs → f x ≡ g x) → map f xs ≡ map g xs
map_same_in f g [] h = refl
map_same_in f g (x ∷ xs) h = ap (λ y. y ∷ map f xs) (h x (inl refl)) ∙ ap (λ t. g x ∷ t) (map_same_in f g xs (λ y i. h y (inr i)))

first_none : {X : Type 0} (f : X → Bool) (xs : List X) → ((x : X) → In x xs → f x ≡ true → ⊥) → find f xs ≡ None
first_none f [] h = refl
first_none f (x ∷ xs) h = cond-false (f x) (Some x) (find f xs) (false_from_ne_true (f x) (h x (inl refl))) ∙ first_none f xs (λ y i. h y (inr i))

sorted_at : {X : Type 0} (lt : X → X → Bool) (y : X) (ys : List X) (zs : List X) (b : Bool) → sorted lt (y ∷ ys) ≡ true → sorted lt zs ≡ true → sorted lt (cond b zs (y ∷ ys)) ≡ true
sorted_at lt y ys zs true h k = k
sorted_at lt y ys zs false h k = h

pub sorted_behind : {X : Type 0} (lt : X → X → Bool) (f : X → Bool) (ys : List X) → sorted lt ys ≡ true → sorted lt (behind f ys) ≡ true
sorted_behind lt f [] h = refl
sorted_behind lt f (y ∷ ys) h = sorted_at lt y ys (behind f ys) (f y) h (sorted_behind lt f ys (and_parts (list_all (λ z. lt y z) ys) (sorted lt ys) h).1)

map_cond : {X Y : Type 0} (f : X → Y) (b : Bool) (x : X) (xs : List X) → cond b (f x ∷ map f xs) (map f xs) ≡ map f (cond b (x ∷ xs) xs)
map_cond f true x xs = refl
map_cond f false x xs = refl

module _ {X : Type 0} (lt eq : X → X → Bool) (o : IsOrder lt eq) where
  front_at : (x y : X) (ys : List X) (b : Bool) → sorted lt (y ∷ ys) ≡ true → lt y x ≡ b → front (λ z. eq z x) (behind (λ z. lt z x) ys) ≡ find (λ z. eq z x) ys →
      front (λ z. eq z x) (cond b (behind (λ z. lt z x) ys) (y ∷ ys)) ≡ find (λ z. eq z x) (y ∷ ys)
  front_at x y ys true h e ih = ih ∙ sym (cond-false (eq y x) (Some y) (find (λ z. eq z x) ys) (false_from_ne_true (eq y x) (o.apart y x e)))
  front_at x y ys false h e ih =
      let hs = and_parts (list_all (λ z. lt y z) ys) (sorted lt ys) h in
      let none = first_none (λ z. eq z x) ys (λ z i s. both_ways (lt y x) e (o.along y z x (all_in (λ z. lt y z) ys hs.0 z i) s)) in
      ap (λ t. cond (eq y x) (Some y) t) (sym none)

  pub front_first : (x : X) (ys : List X) → sorted lt ys ≡ true → front (λ z. eq z x) (behind (λ z. lt z x) ys) ≡ find (λ z. eq z x) ys
  front_first x [] h = refl
  front_first x (y ∷ ys) h = front_at x y ys (lt y x) h refl (front_first x ys (and_parts (list_all (λ z. lt y z) ys) (sorted lt ys) h).1)

  kept_at : (x z y : X) (ys : List X) (b : Bool) → lt x z ≡ true → lt y x ≡ b → find (λ t. eq t z) (behind (λ t. lt t x) ys) ≡ find (λ t. eq t z) ys →
      find (λ t. eq t z) (cond b (behind (λ t. lt t x) ys) (y ∷ ys)) ≡ find (λ t. eq t z) (y ∷ ys)
  kept_at x z y ys true l e ih = ih ∙ sym (cond-false (eq y z) (Some y) (find (λ t. eq t z) ys) (false_from_ne_true (eq y z) (o.apart y z (o.trans y x z e l))))
  kept_at x z y ys false l e ih = refl

  first_kept : (x z : X) (ys : List X) → lt x z ≡ true → find (λ t. eq t z) (behind (λ t. lt t x) ys) ≡ find (λ t. eq t z) ys
  first_kept x z [] l = refl
  first_kept x z (y ∷ ys) l = kept_at x z y ys (lt y x) l refl (first_kept x z ys l)

  pub walk_is : {A : Type 0} (test : X → Option X → Bool) (make : X → A) (xs ys : List X) → sorted lt xs ≡ true → sorted lt ys ≡ true →
      walk lt eq test make xs ys ≡ map make (filter (λ x. test x (find (λ y. eq y x) ys)) xs)
  walk_is test make [] ys hx hy = refl
  walk_is test make (x ∷ xs) ys hx hy =
      let hs = and_parts (list_all (λ z. lt x z) xs) (sorted lt xs) hx in
      let rest = walk_is test make xs (behind (λ y. lt y x) ys) hs.1 (sorted_behind lt (λ y. lt y x) ys hy)
      ∙ ap (λ t. map make t) (filter_same_in (λ z. test z (find (λ y. eq y z) (behind (λ y. lt y x) ys))) (λ z. test z (find (λ y. eq y z) ys)) xs
      (λ z i. ap (λ t. test z t) (first_kept x z ys (all_in (λ z. lt x z) xs hs.0 z i)))) in
      ap (λ t. cond (test x t) (make x ∷ walk lt eq test make xs (behind (λ y. lt y x) ys)) (walk lt eq test make xs (behind (λ y. lt y x) ys))) (front_first x ys hy)
      ∙ ap (λ t. cond (test x (find (λ y. eq y x) ys)) (make x ∷ t) t) rest
      ∙ map_cond make (test x (find (λ y. eq y x) ys)) x (filter (λ z. test z (find (λ y. eq y z) ys)) xs)

-- in_order and items_ascend say that a list is sorted
pub sorted_numbers : (v : View) (ps : List ℕ) → in_order v ps ≡ true → sorted (below v) ps ≡ true
sorted_numbers v [] h = refl
sorted_numbers v (p ∷ ps) h = let hs = and_parts (list_all (λ q. below v p q) ps) (in_order v ps) h in and_from _ _ hs.0 (sorted_numbers v ps hs.1)

abbrev pub bound_below : Bound → Bound → Bool
bound_below b c = is_lt (item_cmp b.item c.item)

abbrev pub same_bound : Bound → Bound → Bool
same_bound b c = same_item b.item c.item

pub sorted_items : (bs : List Bound) → items_ascend bs ≡ true → sorted bound_below bs ≡ true
sorted_items [] h = refl
sorted_items (b ∷ bs) h = let hs = and_parts (list_all (λ c. bound_below b c) bs) (items_ascend bs) h in and_from _ _ hs.0 (sorted_items bs hs.1)

pub numbers_order : (v : View) → IsOrder (below v) (λ p q. eqb p q)
numbers_order v = record {
  trans = λ p q r h k. below-trans v p q r h k;
  apart = λ p q h e. both_ways (below v p q) (ap (λ n. below v p n) (sym (eqb-true p q e)) ∙ below_self v p) h;
  along = λ p q r h e. ap (λ n. below v p n) (sym (eqb-true q r e)) ∙ h;
}

pub items_order : IsOrder bound_below same_bound
items_order = record {
  trans = λ b c d h k. ap is_lt (item_total.trans b.item c.item d.item (lt_less _ h) (lt_less _ k));
  apart = λ b c h e. both_ways (is_lt (item_cmp b.item c.item)) (ap (λ i. is_lt (item_cmp b.item i)) (sym (same_item_is b.item c.item e)) ∙ ap is_lt (tied_itself item_total b.item)) h;
  along = λ b c d h e. ap (λ i. is_lt (item_cmp b.item i)) (sym (same_item_is c.item d.item e)) ∙ h;
}

some_or : (b : Bool) (y : ℕ) (o : Option ℕ) → is_some (cond b (Some y) o) ≡ (b || is_some o)
some_or true y o = refl
some_or false y o = refl

first_mem : (xs : List ℕ) (x : ℕ) → is_some (find (λ y. eqb y x) xs) ≡ mem xs x
first_mem [] x = refl
first_mem (y ∷ xs) x = some_or (eqb y x) y (find (λ z. eqb z x) xs) ∙ ap (λ b. eqb y x || b) (first_mem xs x)

found_cond : (f : Bound → ℕ) (t : Bool) (b : Bound) (o : Option Bound) → found_or f (cond t (Some b) o) ≡ cond t (f b) (found_or f o)
found_cond f true b o = refl
found_cond f false b o = refl

first_bound : (bs : List Bound) (i : Item) (f : Bound → ℕ) → found_or f (find (λ b. same_item b.item i) bs) ≡ bound_in bs i f
first_bound [] i f = refl
first_bound (b ∷ bs) i f = found_cond f (same_item b.item i) b (find (λ c. same_item c.item i) bs) ∙ ap (λ n. cond (same_item b.item i) (f b) n) (first_bound bs i f)

abbrev pub is_missing : ℕ → Option ℕ → Bool
is_missing p o = not (is_some o)

abbrev pub fell : Bound → Option Bound → Bool
fell b o = nat_lt (found_or (λ c. c.least) o) b.least

abbrev pub rose : Bound → Option Bound → Bool
rose b o = nat_lt b.most (found_or (λ c. c.most) o)

pub walk_missing : {A : Type 0} (v : View) (make : ℕ → A) (xs ys : List ℕ) → in_order v xs ≡ true → in_order v ys ≡ true →
    walk (below v) (λ p q. eqb p q) is_missing make xs ys ≡ map make (filter (λ p. not (mem ys p)) xs)
walk_missing v make xs ys hx hy =
    walk_is (below v) (λ p q. eqb p q) (numbers_order v) is_missing make xs ys (sorted_numbers v xs hx) (sorted_numbers v ys hy)
    ∙ ap (λ t. map make t) (filter_same_in (λ p. not (is_some (find (λ y. eqb y p) ys))) (λ p. not (mem ys p)) xs (λ p i. ap not (first_mem ys p)))

pub walk_fell : {A : Type 0} (make : Bound → A) (xs ys : List Bound) → items_ascend xs ≡ true → items_ascend ys ≡ true →
    walk bound_below same_bound fell make xs ys ≡ map make (filter (λ b. nat_lt (bound_in ys b.item (λ c. c.least)) b.least) xs)
walk_fell make xs ys hx hy =
    walk_is bound_below same_bound items_order fell make xs ys (sorted_items xs hx) (sorted_items ys hy)
    ∙ ap (λ t. map make t) (filter_same_in (λ b. fell b (find (λ c. same_item c.item b.item) ys)) (λ b. nat_lt (bound_in ys b.item (λ c. c.least)) b.least) xs (λ b i. ap (λ n. nat_lt n b.least) (first_bound ys b.item (λ c. c.least))))

pub walk_rose : {A : Type 0} (make : Bound → A) (xs ys : List Bound) → items_ascend xs ≡ true → items_ascend ys ≡ true →
    walk bound_below same_bound rose make xs ys ≡ map make (filter (λ b. nat_lt b.most (bound_in ys b.item (λ c. c.most))) xs)
walk_rose make xs ys hx hy =
    walk_is bound_below same_bound items_order rose make xs ys (sorted_items xs hx) (sorted_items ys hy)
    ∙ ap (λ t. map make t) (filter_same_in (λ b. rose b (find (λ c. same_item c.item b.item) ys)) (λ b. nat_lt b.most (bound_in ys b.item (λ c. c.most))) xs (λ b i. ap (λ n. nat_lt b.most n) (first_bound ys b.item (λ c. c.most))))

-- the walk from index i on: what it makes of element i, if this passes, and then the walk from the next index on
pub walk_more : {X A : Type 0} (lt eq : X → X → Bool) (test : X → Option X → Bool) (make : X → A) (xs : List X) (i : ℕ) (x : X) (ys zs : List X) →
    i < length xs → x ≡ get_or xs i x → zs ≡ behind (λ y. lt y x) ys →
    walk lt eq test make (drop i xs) ys ≡ cond (test x (front (λ y. eq y x) zs)) (make x ∷ walk lt eq test make (drop (i + 1) xs) zs) (walk lt eq test make (drop (i + 1) xs) zs)
walk_more lt eq test make xs i x ys zs h is rest =
    at_drop_more (λ t. walk lt eq test make t ys) xs i x h
    ∙ ap (λ y. walk lt eq test make (y ∷ drop (i + 1) xs) ys) (sym is)
    ∙ ap (λ t. cond (test x (front (λ y. eq y x) t)) (make x ∷ walk lt eq test make (drop (i + 1) xs) t) (walk lt eq test make (drop (i + 1) xs) t)) (sym rest)

add_at : {A : Type 0} (b : Bool) (out rest : List A) (x : A) → cond b (out ++ x ∷ []) out ++ rest ≡ out ++ cond b (x ∷ rest) rest
add_at true out rest x = append_assoc out (x ∷ []) rest
add_at false out rest x = refl

-- a step adds `make x` to `out` if x, element i, passes; `out` followed by the rest of the walk stays the same list
pub walk_step : {X A : Type 0} (lt eq : X → X → Bool) (test : X → Option X → Bool) (make : X → A) (xs : List X) (i : ℕ) (x : X) (ys zs : List X) (out : List A) (b : Bool) →
    i < length xs → x ≡ get_or xs i x → zs ≡ behind (λ y. lt y x) ys → b ≡ test x (front (λ y. eq y x) zs) →
    cond b (out ++ make x ∷ []) out ++ walk lt eq test make (drop (i + 1) xs) zs ≡ out ++ walk lt eq test make (drop i xs) ys
walk_step lt eq test make xs i x ys zs out b h is rest t =
    ap (λ c. cond c (out ++ make x ∷ []) out ++ walk lt eq test make (drop (i + 1) xs) zs) t
    ∙ add_at (test x (front (λ y. eq y x) zs)) out (walk lt eq test make (drop (i + 1) xs) zs) (make x)
    ∙ ap (λ w. out ++ w) (sym (walk_more lt eq test make xs i x ys zs h is rest))

pub sorted_drop : {X : Type 0} (lt : X → X → Bool) (n : ℕ) (xs : List X) → sorted lt xs ≡ true → sorted lt (drop n xs) ≡ true
sorted_drop lt zero xs h = h
sorted_drop lt (suc n) [] h = refl
sorted_drop lt (suc n) (x ∷ xs) h = sorted_drop lt n xs (and_parts (list_all (λ y. lt x y) xs) (sorted lt xs) h).1

-- an element of the second list that is below each element of the first list changes nothing
walk_past : {X A : Type 0} (lt eq : X → X → Bool) (test : X → Option X → Bool) (make : X → A) (xs : List X) (y : X) (ys : List X) → ((x : X) → In x xs → lt y x ≡ true) →
    walk lt eq test make xs (y ∷ ys) ≡ walk lt eq test make xs ys
walk_past lt eq test make [] y ys h = refl
walk_past lt eq test make (x ∷ xs) y ys h =
    ap (λ t. cond (test x (front (λ z. eq z x) t)) (make x ∷ walk lt eq test make xs t) (walk lt eq test make xs t)) (cond-true (lt y x) (behind (λ z. lt z x) ys) (y ∷ ys) (h x (inl refl)))

missing_past_at : (v : View) (x : ℕ) (xs : List ℕ) (y : ℕ) (ys : List ℕ) → ((q : ℕ) → In q xs → below v x q ≡ true) → (b : Bool) → eqb y x ≡ b →
    walk (below v) (λ p q. eqb p q) is_missing (λ p. p) xs (cond b ys (y ∷ ys)) ≡ walk (below v) (λ p q. eqb p q) is_missing (λ p. p) xs (y ∷ ys)
missing_past_at v x xs y ys up true e = sym (walk_past (below v) (λ p q. eqb p q) is_missing (λ p. p) xs y ys (λ q i. ap (λ k. below v k q) (eqb-true y x e) ∙ up q i))
missing_past_at v x xs y ys up false e = refl

missing_past : (v : View) (x : ℕ) (xs ys : List ℕ) → ((q : ℕ) → In q xs → below v x q ≡ true) →
    walk (below v) (λ p q. eqb p q) is_missing (λ p. p) xs (past (λ y. eqb y x) ys) ≡ walk (below v) (λ p q. eqb p q) is_missing (λ p. p) xs ys
missing_past v x xs [] up = refl
missing_past v x xs (y ∷ ys) up = missing_past_at v x xs y ys up (eqb y x) refl

-- once the walk is beyond number x of the first list, skipping x at the front of the second list changes nothing
pub missing_on : (v : View) (xs : List ℕ) (i x : ℕ) (ys : List ℕ) → in_order v xs ≡ true → i < length xs → x ≡ get_or xs i x →
    walk (below v) (λ p q. eqb p q) is_missing (λ p. p) (drop (i + 1) xs) (past (λ y. eqb y x) ys) ≡ walk (below v) (λ p q. eqb p q) is_missing (λ p. p) (drop (i + 1) xs) ys
missing_on v xs i x ys up l is =
    let here : drop i xs ≡ x ∷ drop (i + 1) xs = at_drop_more (λ t. t) xs i x l ∙ ap (λ y. y ∷ drop (i + 1) xs) (sym is) in
    let sorts : sorted (below v) (x ∷ drop (i + 1) xs) ≡ true = ap (sorted (below v)) (sym here) ∙ sorted_drop (below v) i xs (sorted_numbers v xs up) in
    missing_past v x (drop (i + 1) xs) ys (all_in (λ q. below v x q) (drop (i + 1) xs) (and_parts (list_all (λ q. below v x q) (drop (i + 1) xs)) (sorted (below v) (drop (i + 1) xs)) sorts).0)

-- after the last index the walk adds nothing
pub walk_done : {X A : Type 0} (lt eq : X → X → Bool) (test : X → Option X → Bool) (make : X → A) (xs : List X) (i : ℕ) (ys : List X) (out : List A) →
    length xs ≤ i → out ++ walk lt eq test make (drop i xs) ys ≡ out
walk_done lt eq test make xs i ys out h = ap (λ t. out ++ walk lt eq test make t ys) (drop_all i xs h) ∙ append-nil out

-- a bound that is below each bound of a list has the item of none of them
not_itself : (b : Bound) (bs : List Bound) (c : Bound) → list_all (λ d. bound_below b d) bs ≡ true → In c bs → same_item b.item c.item ≡ false
not_itself b bs c h i = false_from_ne_true (same_item b.item c.item) (items_order.apart b c (all_in (λ d. bound_below b d) bs h c i))

pub bound_of : (bs : List Bound) (f : Bound → ℕ) → items_ascend bs ≡ true → (c : Bound) → In c bs → bound_in bs c.item f ≡ f c
bound_of [] f h c i = absurd i
bound_of (b ∷ bs) f h c (inl e) = cond-true (same_item b.item c.item) (f b) (bound_in bs c.item f) (ap (λ d. same_item b.item d.item) (sym e) ∙ same_item_self b.item) ∙ ap f e
bound_of (b ∷ bs) f h c (inr i) =
    let hs = and_parts (list_all (λ d. bound_below b d) bs) (items_ascend bs) h in
    cond-false (same_item b.item c.item) (f b) (bound_in bs c.item f) (not_itself b bs c hs.0 i) ∙ bound_of bs f hs.1 c i

pub least_walked : (old new : View) → WellNamed old → map (λ b. AtLeast b.item b.least) (filter (λ b. nat_lt (bound_in new.bounds b.item (λ c. c.least)) b.least) old.bounds) ≡ guards_least old new
least_walked old new w =
    let own : (b : Bound) → In b old.bounds → least old b.item ≡ b.least = λ b i. bound_of old.bounds (λ c. c.least) w.items_up b i in
    ap (λ bs. map (λ b. AtLeast b.item b.least) bs) (filter_same_in (λ b. nat_lt (least new b.item) b.least) (λ b. nat_lt (least new b.item) (least old b.item)) old.bounds (λ b i. ap (λ n. nat_lt (least new b.item) n) (sym (own b i))))
    ∙ map_same_in (λ b. AtLeast b.item b.least) (λ b. AtLeast b.item (least old b.item)) (filter (λ b. nat_lt (least new b.item) (least old b.item)) old.bounds)
    (λ b i. ap (λ n. AtLeast b.item n) (sym (own b (filter_in (λ c. nat_lt (least new c.item) (least old c.item)) old.bounds b i).0)))

pub most_walked : (old new : View) → WellNamed old → map (λ b. AtMost b.item b.most) (filter (λ b. nat_lt b.most (bound_in new.bounds b.item (λ c. c.most))) old.bounds) ≡ guards_most old new
most_walked old new w =
    let own : (b : Bound) → In b old.bounds → most old b.item ≡ b.most = λ b i. bound_of old.bounds (λ c. c.most) w.items_up b i in
    ap (λ bs. map (λ b. AtMost b.item b.most) bs) (filter_same_in (λ b. nat_lt b.most (most new b.item)) (λ b. nat_lt (most old b.item) (most new b.item)) old.bounds (λ b i. ap (λ n. nat_lt n (most new b.item)) (sym (own b i))))
    ∙ map_same_in (λ b. AtMost b.item b.most) (λ b. AtMost b.item (most old b.item)) (filter (λ b. nat_lt (most old b.item) (most new b.item)) old.bounds)
    (λ b i. ap (λ n. AtMost b.item n) (sym (own b (filter_in (λ c. nat_lt (most old c.item) (most new c.item)) old.bounds b i).0)))
