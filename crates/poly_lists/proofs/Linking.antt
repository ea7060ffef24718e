-- What more links change, and what a link says.
use Rattle.std.proofs.Common.{Bool, None, Option, Some, [], All, List, ap, arith, cond, false, get_or, inl, inr, length, option_to_list, refl, reverse, subst, suc, sym, true, zero, ℕ, ◌++◌, ◌+◌, ◌-◌, ◌<◌, ◌⊎◌, ◌∙◌, ◌∷◌, ◌≡◌, ◌≤◌}
use Rattle.std.proofs.lemmas.List.{append-nil, append_assoc, append_cancel_right, get_or_append_left, get_or_default, get_or_push, length_push, map_push, reverse-append, same_from_push}
use Rattle.std.proofs.lemmas.List.Elements.{All-push, filter-append}
use Rattle.std.specs.List.{filter}
use Rattle.poly_atom.specs.declared.atom.Atom.{Atom}
use Rattle.poly_lists.specs.Linked.{AreEarlier, AreLinked, Extends, at_node, ended, nodes, with_links}
use Rattle.poly_lists.specs.Jumps.{AreRight, IsJump}
use Rattle.poly_lists.specs.Words.{Reads, is_other}
use Rattle.poly_lists.specs.declared.nodes.Link.{Link}

pub below_push : (i n : ℕ) → i < n + 1 → (i < n) ⊎ (n ≡ i)
below_push zero zero h = inr (omega arith)
below_push zero (suc n) h = inl (omega arith)
below_push (suc i) zero h = absurd (omega (arith, h))
below_push (suc i) (suc n) h = elim (below_push i n (omega (arith, h))) [
  | inl m ↦ inl (omega (arith, m))
  | inr e ↦ inr (omega (arith, e))
]

pub count_nodes : (X : List (List Atom)) (ls : List Link) → length (with_links X ls) ≡ length X + length ls
count_nodes X [] = omega arith
count_nodes X (l ∷ ls) =
    let more = X ++ (get_or X l.before [] ++ option_to_list l.atom) ∷ [] in
    omega (arith, count_nodes more ls, length_push X (get_or X l.before [] ++ option_to_list l.atom))

-- the lists of earlier nodes stay
pub earlier_stay : (X : List (List Atom)) (ls : List Link) (n : ℕ) → n < length X → get_or (with_links X ls) n [] ≡ get_or X n []
earlier_stay X [] n h = refl
earlier_stay X (l ∷ ls) n h =
    let new = get_or X l.before [] ++ option_to_list l.atom in
    let wide : n < length (X ++ new ∷ []) = omega (arith, length_push X new) in
    earlier_stay (X ++ new ∷ []) ls n wide ∙ get_or_append_left X (new ∷ []) [] n h

pub with_push : (X : List (List Atom)) (ls : List Link) (l : Link) → with_links X (ls ++ l ∷ []) ≡ with_links X ls ++ (get_or (with_links X ls) l.before [] ++ option_to_list l.atom) ∷ []
with_push X [] l = refl
with_push X (k ∷ ks) l = with_push (X ++ (get_or X k.before [] ++ option_to_list k.atom) ∷ []) ks l

pub earlier_push : (n : ℕ) (ls : List Link) (l : Link) → AreEarlier n ls → l.before ≤ n + length ls → AreEarlier n (ls ++ l ∷ [])
earlier_push n [] l h b = (omega (arith, b), tt)
earlier_push n (k ∷ ks) l h b = (h.0, earlier_push (suc n) ks l h.1 (omega (arith, b)))

node_count : (ls : List Link) → length (nodes ls) ≡ 1 + length ls
node_count ls = count_nodes ([] ∷ []) ls

-- a new link is the node after all others, and has one atom more than the node that it leads to
pub at_push : (ls : List Link) (l : Link) (n : ℕ) → n ≡ length ls + 1 → at_node (ls ++ l ∷ []) n ≡ at_node ls l.before ++ option_to_list l.atom
at_push ls l n e =
    let new = at_node ls l.before ++ option_to_list l.atom in
    ap (λ X. get_or X n []) (with_push ([] ∷ []) ls l) ∙ get_or_push (nodes ls) new [] n (omega (arith, node_count ls))

pub extends_push : (ls : List Link) (l : Link) → AreEarlier 0 ls → l.before ≤ length ls → Extends ls (ls ++ l ∷ [])
extends_push ls l h b = record {
  earlier = earlier_push 0 ls l h (omega (arith, b));
  longer = omega (arith, length_push ls l);
  same = λ n m. ap (λ X. get_or X n []) (with_push ([] ∷ []) ls l) ∙ get_or_append_left (nodes ls) ((at_node ls l.before ++ option_to_list l.atom) ∷ []) [] n (omega (arith, node_count ls));
}

pub extends_self : (ls : List Link) → AreEarlier 0 ls → Extends ls ls
extends_self ls h = record { earlier = h; longer = omega arith; same = λ n m. refl }

pub extends_on : (old new newer : List Link) → Extends old new → Extends new newer → Extends old newer
extends_on old new newer f g = record {
  earlier = g.earlier;
  longer = omega (arith, f.longer, g.longer);
  same = λ n m. g.same n (omega (arith, m, f.longer)) ∙ f.same n m;
}

-- one more atom after a node
pub extended : (old new : List Link) (l : Link) → Extends old new → l.before ≤ length new → Extends old (new ++ l ∷ [])
extended old new l f b = extends_on old new (new ++ l ∷ []) f (extends_push new l f.earlier b)

pub no_node : (ls : List Link) → at_node ls 0 ≡ []
no_node ls = earlier_stay ([] ∷ []) ls 0 (omega arith)

link_among : (X : List (List Atom)) (m : ℕ) (ls : List Link) (i : ℕ) (l : Link) → length X ≡ suc m → AreEarlier m ls → i < length ls → get_or ls i l ≡ l → (get_or (with_links X ls) (length X + i) [] ≡ get_or (with_links X ls) l.before [] ++ option_to_list l.atom) × (l.before ≤ m + i)
link_among X m [] i l e h n g = absurd (omega (arith, n))
link_among X m (k ∷ ks) zero l e h n g =
    let new = get_or X k.before [] ++ option_to_list k.atom in
    let more = X ++ new ∷ [] in
    let longer : length more ≡ length X + 1 = length_push X new in
    let here : get_or (with_links more ks) (length X + 0) [] ≡ new = earlier_stay more ks (length X + 0) (omega (arith, longer)) ∙ get_or_push X new [] (length X + 0) (omega arith) in
    let back : get_or (with_links more ks) k.before [] ≡ get_or X k.before [] = earlier_stay more ks k.before (omega (arith, longer, h.0, e)) ∙ get_or_append_left X (new ∷ []) [] k.before (omega (arith, h.0, e)) in
    subst (λ j. (get_or (with_links more ks) (length X + 0) [] ≡ get_or (with_links more ks) j.before [] ++ option_to_list j.atom) × (j.before ≤ m + 0)) g
    (here ∙ ap (λ b. b ++ option_to_list k.atom) (sym back), omega (arith, h.0))
link_among X m (k ∷ ks) (suc i) l e h n g =
    let new = get_or X k.before [] ++ option_to_list k.atom in
    let longer : length (X ++ new ∷ []) ≡ length X + 1 = length_push X new in
    let on = link_among (X ++ new ∷ []) (suc m) ks i l (omega (arith, longer, e)) h.1 (omega (arith, n)) g in
    let where_it_is : length (X ++ new ∷ []) + i ≡ length X + suc i = omega (arith, longer) in
    (ap (λ j. get_or (with_links (X ++ new ∷ []) ks) j []) (sym where_it_is) ∙ on.0, omega (arith, on.1))

-- the link of a node leads to an earlier node, whose list has all atoms of this one but the last
pub link_at : (ls : List Link) (i : ℕ) (l : Link) → AreEarlier 0 ls → i < length ls → get_or ls i l ≡ l → (at_node ls (i + 1) ≡ at_node ls l.before ++ option_to_list l.atom) × (l.before ≤ i)
link_at ls i l h n g =
    let found = link_among ([] ∷ []) 0 ls i l (omega arith) h n g in
    let where_it_is : length {A = List Atom} ([] ∷ []) + i ≡ i + 1 = omega arith in
    (ap (λ j. at_node ls j) (sym where_it_is) ∙ found.0, omega (arith, found.1))

-- what a link adds to the list of the node that it leads to
pub adds : (ls : List Link) (left : ℕ) (l : Link) → AreEarlier 0 ls → 0 < left → left ≤ length ls → get_or ls (left - 1) l ≡ l → at_node ls left ≡ at_node ls l.before ++ option_to_list l.atom
adds ls left l h some m g =
    let number : (left - 1) + 1 ≡ left = omega (arith, some) in
    ap (λ j. at_node ls j) (sym number) ∙ (link_at ls (left - 1) l h (omega (arith, some, m)) g).0

-- more links change no list
pub ended_stay : (old new : List Link) (ends : List ℕ) → Extends old new → All (λ e. e ≤ length old) ends → ended new ends ≡ ended old ends
ended_stay old new [] f h = refl
ended_stay old new (e ∷ ends) f h =
    let here = f.same e (h 0 e (omega arith)) in
    let there = ended_stay old new ends f (λ k d m. h (suc k) d (omega (arith, m))) in
    λ i. here i ∷ there i

pub linked_stay : (old new : List Link) (ends : List ℕ) → Extends old new → AreLinked old ends → AreLinked new ends
linked_stay old new ends f h = record { earlier = f.earlier; inside = λ k d m. omega (arith, h.inside k d m, f.longer) }

-- a list that ends at a node is added
pub linked_end : (old new : List Link) (ends : List ℕ) (e : ℕ) → Extends old new → AreLinked old ends → e ≤ length new → AreLinked new (ends ++ e ∷ [])
linked_end old new ends e f h m = record { earlier = f.earlier; inside = All-push (λ n. n ≤ length new) ends e (linked_stay old new ends f h).inside m }

pub ended_end : (old new : List Link) (ends : List ℕ) (e : ℕ) (B : List Atom) → Extends old new → AreLinked old ends → at_node new e ≡ B → ended new (ends ++ e ∷ []) ≡ ended old ends ++ B ∷ []
ended_end old new ends e B f h is = map_push (λ n. at_node new n) ends e ∙ (λ i. ended_stay old new ends f h.inside i ++ is i ∷ [])

-- one link more
pub step_grows : (old now new : List Link) (l : Link) → new ≡ now ++ l ∷ [] → Extends old now → l.before ≤ length now → Extends old new
step_grows old now new l is f b = subst (λ ls. Extends old ls) (sym is) (extended old now l f b)

-- the lists after more links, with the same ends or with one end more
pub lists_stay : (old new : List Link) (ends same : List ℕ) (lists : List (List Atom)) → Extends old new → AreLinked old ends → ended old ends ≡ lists → same ≡ ends → ended new same ≡ lists
lists_stay old new ends same lists f h is e = ap (λ s. ended new s) e ∙ ended_stay old new ends f h.inside ∙ is

pub lists_grow : (old new : List Link) (ends more : List ℕ) (node : ℕ) (B : List Atom) (lists : List (List Atom)) → Extends old new → AreLinked old ends → ended old ends ≡ lists → more ≡ ends ++ node ∷ [] → at_node new node ≡ B → ended new more ≡ lists ++ B ∷ []
lists_grow old new ends more node B lists f h is e b = ap (λ s. ended new s) e ∙ ended_end old new ends node B f h b ∙ ap (λ l. l ++ B ∷ []) is

pub linked_more : (old new : List Link) (ends more : List ℕ) (node : ℕ) → Extends old new → AreLinked old ends → more ≡ ends ++ node ∷ [] → node ≤ length new → AreLinked new more
linked_more old new ends more node f h e m = subst (λ s. AreLinked new s) (sym e) (linked_end old new ends node f h m)

-- one list, which ends at a node
pub linked_one : (ls : List Link) (ends : List ℕ) (e : ℕ) → AreEarlier 0 ls → ends ≡ e ∷ [] → e ≡ length ls → AreLinked ls ends
linked_one ls ends e h is at = linked_more ls ls [] ends e (extends_self ls h) (record { earlier = h; inside = λ k d m. absurd (omega (arith, m)) }) is (omega (arith, at))

pub ended_one : (ls : List Link) (ends : List ℕ) (e : ℕ) (B : List Atom) → ends ≡ e ∷ [] → at_node ls e ≡ B → ended ls ends ≡ B ∷ []
ended_one ls ends e B is b = ap (λ s. ended ls s) is ∙ ap (λ l. l ∷ []) b

-- a node more, with one atom more than the last one
pub chained : (old new : List Link) (a : Atom) (B C : List Atom) → new ≡ old ++ (record { before = length old; atom = Some a }) ∷ [] → AreEarlier 0 old → at_node old (length old) ≡ B → C ≡ B ++ a ∷ [] → AreEarlier 0 new × (at_node new (length new) ≡ C)
chained old new a B C is h last more =
    let l : Link = record { before = length old; atom = Some a } in
    let number : length new ≡ length old + 1 = omega (arith, ap length is, length_push old l) in (
      subst (AreEarlier 0) (sym is) (extends_push old l h (omega arith)).earlier,
      ap (λ ls. at_node ls (length new)) is ∙ at_push old l (length new) number ∙ ap (λ A. A ++ a ∷ []) last ∙ sym more,
    )

-- a node more that leads back
pub resumed : (old new : List Link) (l : Link) → new ≡ old ++ l ∷ [] → l.atom ≡ None → at_node new (length new) ≡ at_node old l.before
resumed old new l is none =
    let number : length new ≡ length old + 1 = omega (arith, ap length is, length_push old l) in
    ap (λ ls. at_node ls (length new)) is ∙ at_push old l (length new) number ∙ ap (λ o. at_node old l.before ++ option_to_list o) none ∙ append-nil (at_node old l.before)

-- a list ends with that of a node exactly if it does so without what the node's link adds
pub ends_so : (ls : List Link) (left : ℕ) (l : Link) (rest shorter B : List Atom) → AreEarlier 0 ls → 0 < left → left ≤ length ls → get_or ls (left - 1) l ≡ l → shorter ++ option_to_list l.atom ≡ rest → (B ++ at_node ls left ≡ rest → B ++ at_node ls l.before ≡ shorter) × (B ++ at_node ls l.before ≡ shorter → B ++ at_node ls left ≡ rest)
ends_so ls left l rest shorter B h some m g is =
    let here = adds ls left l h some m g in
    let last = option_to_list l.atom in
    let whole : B ++ at_node ls left ≡ (B ++ at_node ls l.before) ++ last = ap (λ A. B ++ A) here ∙ sym (append_assoc B (at_node ls l.before) last) in (
      λ yes. append_cancel_right (B ++ at_node ls l.before) shorter last (sym whole ∙ yes ∙ sym is),
      λ same. whole ∙ ap (λ A. A ++ last) same ∙ is,
    )

-- a list doesn't end with another atom
pub no_other_end : (list rest B : List Atom) (found atom : Atom) → list ≡ rest ++ found ∷ [] → B ++ atom ∷ [] ≡ list → found ≡ atom
no_other_end list rest B found atom is e = (same_from_push rest B found atom (sym is ∙ sym e)).1

turned_by : (b : Bool) (a : Atom) → reverse (cond b (a ∷ []) []) ≡ cond b (a ∷ []) []
turned_by true a = refl
turned_by false a = refl

-- the atoms that are kept of at most one stay in their order
turned : (f : Atom → Bool) (o : Option Atom) → reverse (filter f (option_to_list o)) ≡ filter f (option_to_list o)
turned f None = refl
turned f (Some a) = turned_by (f a) a

turned_whole : (o : Option Atom) → reverse (option_to_list o) ≡ option_to_list o
turned_whole None = refl
turned_whole (Some a) = refl

-- a step back from a node, whose atom is read
pub read_on : (ls : List Link) (left before : ℕ) (old new : List Atom) → AreEarlier 0 ls → 0 < left → left ≤ length ls → Reads ls (left - 1) before old new → (before < left) × (new ++ reverse (at_node ls before) ≡ old ++ reverse (at_node ls left))
read_on ls left before old new h some m r =
    let d : Link = record { before = 0; atom = None } in
    let l = get_or ls (left - 1) d in
    let within : left - 1 < length ls = omega (arith, some, m) in
    let g : get_or ls (left - 1) l ≡ l = get_or_default ls (left - 1) l d within in
    let last = option_to_list l.atom in
    let leads : l.before ≡ before = r.leads d in
    let here : at_node ls left ≡ at_node ls before ++ last = adds ls left l h some m g ∙ ap (λ n. at_node ls n ++ last) leads in
    let first = at_node ls before in
    let back : reverse (at_node ls left) ≡ last ++ reverse first = ap reverse here ∙ reverse-append first last ∙ ap (λ B. B ++ reverse first) (turned_whole l.atom) in (
      omega (arith, (link_at ls (left - 1) l h within g).1, leads, some),
      ap (λ B. B ++ reverse first) (r.adds d) ∙ append_assoc old last (reverse first) ∙ ap (λ B. old ++ B) (sym back),
    )

-- a step back from a node, whose atom is read if it is no `Lacks`, and a jump from the node before
pub jump_on : (ls : List Link) (left jump : ℕ) (l : Link) (old new : List Atom) → AreEarlier 0 ls → 0 < left → left ≤ length ls → get_or ls (left - 1) l ≡ l → IsJump ls l.before jump → new ≡ old ++ filter is_other (option_to_list l.atom) →
    (jump < left) × (new ++ reverse (filter is_other (at_node ls jump)) ≡ old ++ reverse (filter is_other (at_node ls left)))
jump_on ls left jump l old new h some m g j is =
    let f = is_other in
    let within : left - 1 < length ls = omega (arith, some, m) in
    let last = filter f (option_to_list l.atom) in
    let first = filter f (at_node ls jump) in
    let split : filter f (at_node ls left) ≡ first ++ last = ap (filter f) (adds ls left l h some m g) ∙ filter-append f (at_node ls l.before) (option_to_list l.atom) ∙ ap (λ B. B ++ last) (sym j.same) in
    let back : reverse (filter f (at_node ls left)) ≡ last ++ reverse first = ap reverse split ∙ reverse-append first last ∙ ap (λ B. B ++ reverse first) (turned f l.atom) in (
      omega (arith, (link_at ls (left - 1) l h within g).1, j.back, some),
      ap (λ B. B ++ reverse first) is ∙ append_assoc old last (reverse first) ∙ ap (λ B. old ++ B) (sym back),
    )

-- the jump of a node without an atom but a `Lacks` is that of the node before
pub jump_over : (ls : List Link) (node jump : ℕ) (l : Link) → AreEarlier 0 ls → 0 < node → node ≤ length ls → get_or ls (node - 1) l ≡ l → IsJump ls l.before jump → filter is_other (option_to_list l.atom) ≡ [] → IsJump ls node jump
jump_over ls node jump l h some m g j none =
    let f = is_other in
    let within : node - 1 < length ls = omega (arith, some, m) in
    record {
      back = omega (arith, (link_at ls (node - 1) l h within g).1, j.back, some);
      same = j.same ∙ sym (ap (filter f) (adds ls node l h some m g) ∙ filter-append f (at_node ls l.before) (option_to_list l.atom) ∙ ap (λ B. filter f (at_node ls l.before) ++ B) none ∙ append-nil (filter f (at_node ls l.before)));
    }

-- one jump more
pub jumps_push : (ls : List Link) (jumps new : List ℕ) (jump : ℕ) → new ≡ jumps ++ jump ∷ [] → AreRight ls jumps → IsJump ls (length jumps) jump → AreRight ls new
jumps_push ls jumps new jump is right one = λ n h.
    let longer : length new ≡ length jumps + 1 = omega (arith, ap length is, length_push jumps jump) in
    elim (below_push n (length jumps) (omega (arith, h, longer))) [
      | inl m ↦ subst (IsJump ls n) (sym (ap (λ l. get_or l n 0) is ∙ get_or_append_left jumps (jump ∷ []) 0 n m)) (right n m)
      | inr e ↦ subst (IsJump ls n) (sym (ap (λ l. get_or l n 0) is ∙ get_or_push jumps jump 0 n e)) (subst (λ k. IsJump ls k jump) e one)
    ]

-- the jump of a node to itself
pub jump_self : (ls : List Link) (node jump : ℕ) → jump ≡ node → IsJump ls node jump
jump_self ls node jump e = record { back = omega (arith, e); same = ap (λ n. filter is_other (at_node ls n)) e }

-- the jump of node 0 alone
pub first_jump : (ls : List Link) (none new : List ℕ) → none ≡ [] → new ≡ none ++ 0 ∷ [] → (length new ≡ 1) × AreRight ls new
first_jump ls none new empty is = (
  omega (arith, ap length is, length_push none 0, ap length empty),
  jumps_push ls none new 0 is (λ n h. absurd (omega (arith, h, ap length empty))) (jump_self ls (length none) 0 (omega (arith, ap length empty))),
)
