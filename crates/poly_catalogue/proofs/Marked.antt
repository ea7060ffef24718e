-- Marks that are added while a list is gone through, and copies of the marked tilings.
use Rattle.std.proofs.Common.{Bool, List, [], ap, arith, cond, false, filter, get_or, inl, inr, length, not, refl, set, sym, take, true, ℕ, ◌&&◌, ◌++◌, ◌||◌, ◌+◌, ◌<◌, ◌∙◌, ◌∷◌, ◌≡◌, ◌≤◌}
use Rattle.std.proofs.lemmas.Bool.{cases_eq}
use Rattle.std.proofs.lemmas.List.{get_or-set_other, get_or-set_same, length-set, take_all, take_more}
use Rattle.std.proofs.lemmas.List.Elements.{filter-append}
use Rattle.std.specs.List.{list_all}
use Rattle.poly_tiling.specs.declared.item.Item.TheVariants.{Piece}
use Rattle.poly_tiling.specs.Lists.{mem}
use Rattle.poly_tiling.specs.Puzzle.{View, is_tiling}
use Rattle.poly_tiling.proofs.Contained.{at_in}
use Rattle.poly_tiling.proofs.Lists.{In, all_append}
use Rattle.poly_place.specs.declared.delta.Delta.{Delta}
use Rattle.poly_catalogue.specs.Listed.{AddsMarks, AreMarked, AreMarkedBy, AreOfEither}
use Rattle.poly_catalogue.specs.Rows.{row}
use Rattle.poly_catalogue.specs.Stays.{fits, has_gone}
use Rattle.poly_catalogue.proofs.Counted.{stay}

-- the marks after the first k tilings were looked at
pub record IsMarking (p : List ℕ → Bool) (list : List (List ℕ)) (old new : List Bool) (k : ℕ) : Type 0 where
  pub long : length new ≡ length list
  pub done : (t : ℕ) → t < k → get_or new t false ≡ (get_or old t false || p (row list t))
  pub left : (t : ℕ) → k ≤ t → get_or new t false ≡ get_or old t false

pub marking_first : (p : List ℕ → Bool) (list : List (List ℕ)) (marks : List Bool) → length marks ≡ length list → IsMarking p list marks marks 0
marking_first p list marks e = record { long = e; done = λ t l. absurd (omega arith); left = λ t l. refl }

pub marking_more : (p : List ℕ → Bool) (list : List (List ℕ)) (old marks new : List Bool) (k : ℕ) (b : Bool) → k < length list → IsMarking p list old marks k → b ≡ p (row list k) → new ≡ set marks k (get_or marks k false || b) → IsMarking p list old new (k + 1)
marking_more p list old marks new k b low m says is = record {
  long = ap length is ∙ length-set marks k (get_or marks k false || b) ∙ m.long;
  done = λ t l. elim (cases_eq t k) [
    | inl e ↦
        ap (λ z. get_or z t false) is ∙ ap (λ z. get_or (set marks k (get_or marks k false || b)) z false) e
        ∙ get_or-set_same marks k (get_or marks k false || b) false (omega (arith, m.long)) ∙ ap (λ z. z || b) (m.left k (omega arith)) ∙ ap (λ z. get_or old k false || z) says
        ∙ ap (λ z. get_or old z false || p (row list z)) (sym e)
    | inr n ↦ ap (λ z. get_or z t false) is ∙ get_or-set_other marks k t (get_or marks k false || b) false n ∙ m.done t (omega arith)
  ];
  left = λ t l. ap (λ z. get_or z t false) is ∙ get_or-set_other marks k t (get_or marks k false || b) false (λ e. omega arith) ∙ m.left t (omega arith);
}

pub marking_all : (p : List ℕ → Bool) (list : List (List ℕ)) (old new : List Bool) (k : ℕ) → length list ≤ k → IsMarking p list old new k → AddsMarks p list old new
marking_all p list old new k l m = record { long = m.long; exact = λ t low. m.done t (omega arith) }

-- two tests that give the same for each tiling of the list add the same marks
pub adds_as : (p q : List ℕ → Bool) (list : List (List ℕ)) (old new : List Bool) → AddsMarks p list old new → ((T : List ℕ) → In T list → p T ≡ q T) → AddsMarks q list old new
adds_as p q list old new m same = record { long = m.long; exact = λ t l. m.exact t l ∙ ap (λ z. get_or old t false || z) (same (row list t) (at_in list t [] l)) }

or_group : (a b c : Bool) → ((a || b) || c) ≡ (a || (b || c))
or_group true b c = refl
or_group false b c = refl

-- two tests, one after the other, add the marks of both
pub adds_on : (p q : List ℕ → Bool) (list : List (List ℕ)) (a b c : List Bool) → AddsMarks p list a b → AddsMarks q list b c → AddsMarks (λ T. p T || q T) list a c
adds_on p q list a b c x y = record { long = y.long; exact = λ t l. y.exact t l ∙ ap (λ z. z || q (row list t)) (x.exact t l) ∙ or_group (get_or a t false) (p (row list t)) (q (row list t)) }

or_none : (b : Bool) → b ≡ (b || false)
or_none true = refl
or_none false = refl

not_both : (a b : Bool) → (not a || not b) ≡ not (a && (b && true))
not_both true true = refl
not_both true false = refl
not_both false b = refl

pub adds_first : {X : Type 0} (q : X → List ℕ → Bool) (xs : List X) (list : List (List ℕ)) (marks : List Bool) → length marks ≡ length list → AddsMarks (λ T. not (list_all (λ x. q x T) (take 0 xs))) list marks marks
adds_first q xs list marks e = record { long = e; exact = λ t l. or_none (get_or marks t false) }

-- the marks after one more test
pub adds_more : {X : Type 0} (q : X → List ℕ → Bool) (xs : List X) (i : ℕ) (d : X) (list : List (List ℕ)) (a b c : List Bool) → i < length xs → AddsMarks (λ T. not (list_all (λ x. q x T) (take i xs))) list a b →
    AddsMarks (λ T. not (q (get_or xs i d) T)) list b c → AddsMarks (λ T. not (list_all (λ x. q x T) (take (i + 1) xs))) list a c
adds_more q xs i d list a b c l x y =
    adds_as (λ T. not (list_all (λ z. q z T) (take i xs)) || not (q (get_or xs i d) T)) (λ T. not (list_all (λ z. q z T) (take (i + 1) xs))) list a c
    (adds_on (λ T. not (list_all (λ z. q z T) (take i xs))) (λ T. not (q (get_or xs i d) T)) list a b c x y)
    (λ T j.
    not_both (list_all (λ z. q z T) (take i xs)) (q (get_or xs i d) T)
    ∙ ap not (sym (ap (λ z. list_all (λ w. q w T) z) (take_more xs i d l) ∙ all_append (λ w. q w T) (take i xs) (get_or xs i d ∷ []))))

pub adds_whole : {X : Type 0} (q : X → List ℕ → Bool) (xs : List X) (i : ℕ) (list : List (List ℕ)) (a b : List Bool) → length xs ≤ i → AddsMarks (λ T. not (list_all (λ x. q x T) (take i xs))) list a b → AddsMarks (λ T. not (list_all (λ x. q x T) xs)) list a b
adds_whole q xs i list a b l x =
    adds_as (λ T. not (list_all (λ z. q z T) (take i xs))) (λ T. not (list_all (λ z. q z T) xs)) list a b x (λ T j. ap (λ g. not (list_all (λ z. q z T) g)) (take_all i xs l))

four : (g p n r : Bool) → (((g || not p) || not n) || not r) ≡ not (not g && ((p && n) && r))
four true p n r = refl
four false true true r = refl
four false true false r = refl
four false false n r = refl

-- marking by the gone numbers, then the pins, the items and the pieces, marks exactly the tilings that leave
pub marked_four : (w : View) (x : Delta) (list : List (List ℕ)) (a b c d : List Bool) → AreOfEither w x list → AreMarked list x.gone.items a → AddsMarks (λ T. not (list_all (λ p. mem T p) x.pinned.items)) list a b →
    AddsMarks (λ T. not (list_all (λ i. fits w i T) x.needed.items)) list b c → AddsMarks (λ T. not (list_all (λ n. fits w (Piece n) T) x.narrowed.items)) list c d → AreMarkedBy (λ T. not (is_tiling w T)) list d
marked_four w x list a b c d of k l m n = record {
  long = n.long;
  exact = λ t low.
      let T = row list t in
      n.exact t low
      ∙ ap (λ z. z || not (list_all (λ j. fits w (Piece j) T) x.narrowed.items))
      (m.exact t low ∙ ap (λ z. z || not (list_all (λ j. fits w j T) x.needed.items)) (l.exact t low ∙ ap (λ z. z || not (list_all (λ q. mem T q) x.pinned.items)) (k.exact t)))
      ∙ four (has_gone x T) (list_all (λ q. mem T q) x.pinned.items) (list_all (λ j. fits w j T) x.needed.items) (list_all (λ j. fits w (Piece j) T) x.narrowed.items)
      ∙ ap not (sym (stay w x list of T (at_in list t [] low)));
}

-- the copies after one more tiling, which is copied if it is marked
pub copied_more : (p : List ℕ → Bool) (list : List (List ℕ)) (marks : List Bool) (i : ℕ) (old new : List (List ℕ)) (T : List ℕ) → i < length list → AreMarkedBy p list marks → T ≡ row list i → old ≡ filter p (take i list) →
    new ≡ old ++ cond (get_or marks i false) (T ∷ []) [] → new ≡ filter p (take (i + 1) list)
copied_more p list marks i old new T l m is a b =
    b ∙ ap (λ z. old ++ cond z (T ∷ []) []) (m.exact i l) ∙ ap (λ z. old ++ cond (p (row list i)) (z ∷ []) []) is ∙ ap (λ z. z ++ filter p (row list i ∷ [])) a
    ∙ sym (filter-append p (take i list) (row list i ∷ [])) ∙ ap (λ z. filter p z) (sym (take_more list i [] l))
