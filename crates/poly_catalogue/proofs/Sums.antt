-- Counts of the tilings of a list, and of those that are kept, pass or are added.
use Rattle.std.proofs.Common.{Bool, List, [], ap, arith, cond, eqb, false, filter, get_or, inl, inr, leb, length, not, refl, replicate, set, subst, suc, sym, take, true, ℕ, ◌&&◌, ◌++◌, ◌||◌, ◌+◌, ◌-◌, ◌<◌, ◌∙◌, ◌∷◌, ◌≡◌, ◌≤◌}
use Rattle.std.proofs.lemmas.Bool.{cases_eq, cases_lt, eq-eqb, le-leb, leb-true, ne_eqb, or_right, true_from_ne_false}
use Rattle.std.proofs.lemmas.List.{get_or-replicate, get_or-set_other, get_or-set_same, get_or_past, length-replicate, take_all, take_more}
use Rattle.std.specs.Prelude.{nat_lt}
use Rattle.std.specs.List.{list_all, list_any}
use Rattle.poly_tiling.specs.Lists.{mem, one, same_list, tally}
use Rattle.poly_tiling.specs.Puzzle.{View, is_tiling}
use Rattle.poly_tiling.proofs.Lists.{In, all_from, all_in, any_append, in_append_cases, same_truth, tally_append, tally_none}
use Rattle.poly_tiling.proofs.Named.{tally_same_in}
use Rattle.poly_place.specs.declared.delta.Delta.{Delta}
use Rattle.poly_catalogue.specs.Catalogued.{HasFlags, IsCatalogue}
use Rattle.poly_catalogue.specs.Listed.{AreIndicesWith, AreMarked, AreOfEither, AreOnce, AreSame, Keeps}
use Rattle.poly_catalogue.specs.Rows.{row}

one_less : (a b : Bool) → one (a && b) ≤ one a
one_less true true = omega arith
one_less true false = omega arith
one_less false b = omega arith

pub tally_less : (f p : List ℕ → Bool) (a : List (List ℕ)) → tally (λ T. f T && p T) a ≤ tally f a
tally_less f p [] = omega arith
tally_less f p (T ∷ a) = omega (arith, one_less (f T) (p T), tally_less f p a)

pub tally_length : (a : List (List ℕ)) → tally (λ T. true) a ≡ length a
tally_length [] = refl
tally_length (T ∷ a) = omega (arith, tally_length a)

pub tally_short : (p : List ℕ → Bool) (a : List (List ℕ)) → tally p a ≤ length a
tally_short p a = omega (arith, tally_less (λ T. true) p a, tally_length a)

pub kept_short : (p : List ℕ → Bool) (a b : List (List ℕ)) → Keeps p a b → length b ≡ tally p a
kept_short p a b k = sym (tally_length b) ∙ k (λ T. true)

pub kept_once : (p : List ℕ → Bool) (a b : List (List ℕ)) → Keeps p a b → AreOnce a → AreOnce b
kept_once p a b k once T = omega (arith, k (same_list T), tally_less (same_list T) p a, once T)

pub some_in : (f : List ℕ → Bool) (a : List (List ℕ)) (T : List ℕ) → In T a → f T ≡ true → 0 < tally f a
some_in f [] T i h = absurd i
some_in f (U ∷ a) T (inl e) h = omega (arith, ap one (ap f e ∙ h))
some_in f (U ∷ a) T (inr i) h = omega (arith, some_in f a T i h)

-- what holds of each tiling holds of each that is kept
pub kept_in : (q p : List ℕ → Bool) (a b : List (List ℕ)) → Keeps p a b → list_all q a ≡ true → list_all q b ≡ true
kept_in q p a b k all = all_from q b (λ T i. true_from_ne_false (q T) (λ e.
    let o = some_in (λ U. not (q U)) b T i (ap not e) in
    let n = tally_none (λ U. not (q U)) a (λ U j. ap not (all_in q a all U j)) in
    omega (arith, o, n, k (λ U. not (q U)), tally_less (λ U. not (q U)) p a)))

pub kept_flags : (p : List ℕ → Bool) (a b : List (List ℕ)) (n m : ℕ) → Keeps p a b → m ≡ n → HasFlags a n → HasFlags b m
kept_flags p a b n m k e h = subst (λ z. HasFlags b z) (sym e) (record { few = h.few; low = kept_in (λ T. list_all (λ q. nat_lt q n) T) p a b k h.low })

pub kept_room : (p : List ℕ → Bool) (a b : List (List ℕ)) (n m : ℕ) → Keeps p a b → m ≡ n → length a ≤ n → length b ≤ m
kept_room p a b n m k e l = omega (arith, kept_short p a b k, tally_short p a, e, l)

-- a catalogue stays one if its list is as it was and there are enough flags and counts, as after a refused call
pub same_catalogue : (a b : List (List ℕ)) (n m j k : ℕ) → b ≡ a → HasFlags b m → length b ≤ k → IsCatalogue a n j → IsCatalogue b m k
same_catalogue a b n m j k e h l c = record { few = omega (arith, ap length e, c.few); once = subst AreOnce (sym e) c.once; flags = h; room = l }

pub kept_catalogue : (p : List ℕ → Bool) (a b : List (List ℕ)) (n j k : ℕ) → Keeps p a b → k ≡ j → IsCatalogue a n j → IsCatalogue b n k
kept_catalogue p a b n j k x e c = record { few = omega (arith, kept_short p a b x, tally_short p a, c.few); once = kept_once p a b x c.once; flags = kept_flags p a b n n x refl c.flags; room = kept_room p a b j k x e c.room }

filter_at : (p : List ℕ → Bool) (T : List ℕ) (a : List (List ℕ)) (b : Bool) → p T ≡ b → length (filter (λ U. not (p U)) a) + tally p a ≡ length a → length (filter (λ U. not (p U)) (T ∷ a)) + (one (p T) + tally p a) ≡ suc (length a)
filter_at p T a true e h = rw e (omega (arith, h))
filter_at p T a false e h = rw e (omega (arith, h))

-- the tilings that don't pass and those that pass are together as many as the list has
pub tally_filter : (p : List ℕ → Bool) (a : List (List ℕ)) → length (filter (λ T. not (p T)) a) + tally p a ≡ length a
tally_filter p [] = refl
tally_filter p (T ∷ a) = filter_at p T a (p T) refl (tally_filter p a)

and_yes : (b : Bool) → b ≡ (b && true)
and_yes true = refl
and_yes false = refl

and_no : (b : Bool) → false ≡ (b && false)
and_no true = refl
and_no false = refl

filtered_at : (f q : List ℕ → Bool) (T : List ℕ) (a : List (List ℕ)) → tally f (filter q a) ≡ tally (λ U. f U && q U) a → (c : Bool) → q T ≡ c → tally f (cond (q T) (T ∷ filter q a) (filter q a)) ≡ one (f T && q T) + tally (λ U. f U && q U) a
filtered_at f q T a ih true e = rw e (omega (arith, ih, ap one (and_yes (f T))))
filtered_at f q T a ih false e = rw e (omega (arith, ih, ap one (and_no (f T))))

pub filtered : (f q : List ℕ → Bool) (a : List (List ℕ)) → tally f (filter q a) ≡ tally (λ T. f T && q T) a
filtered f q [] = refl
filtered f q (T ∷ a) = filtered_at f q T a (filtered f q a) (q T) refl

-- how many pass
pub length_filter : (p : List ℕ → Bool) (a : List (List ℕ)) → length (filter p a) ≡ tally p a
length_filter p a = sym (tally_length (filter p a)) ∙ filtered (λ T. true) p a

-- what is kept is what passes
pub same_kept : (p : List ℕ → Bool) (a b : List (List ℕ)) → Keeps p a b → AreSame b (filter p a)
same_kept p a b k f = k f ∙ sym (filtered f p a)

pub kept_same : (p : List ℕ → Bool) (a b : List (List ℕ)) → AreSame b (filter p a) → Keeps p a b
kept_same p a b s f = s f ∙ filtered f p a

-- a list of tilings of either view stays one if tilings of the later view are added
pub either_more : (w : View) (x : Delta) (a b : List (List ℕ)) → AreOfEither w x a → list_all (is_tiling w) b ≡ true → AreOfEither w x (a ++ b)
either_more w x a b of all = record {
  before = of.before;
  leads = of.leads;
  either =
      let p = λ (T : List ℕ). is_tiling of.before T || is_tiling w T in
      all_from p (a ++ b) (λ T i. elim (in_append_cases T a b i) [
        | inl j ↦ all_in p a of.either T j
        | inr j ↦ or_right (is_tiling of.before T) (is_tiling w T) (all_in (is_tiling w) b all T j)
      ]);
}

and_true : (a b : Bool) → b ≡ true → (a && b) ≡ a
and_true true b h = h
and_true false b h = refl

pub all_pass : (f p : List ℕ → Bool) (b : List (List ℕ)) → list_all p b ≡ true → tally (λ T. f T && p T) b ≡ tally f b
all_pass f p b all = tally_same_in (λ T. f T && p T) f b (λ T i. and_true (f T) (p T) (all_in p b all T i))

pub counts_more : (p : List ℕ → Bool) (a b c : List (List ℕ)) → list_all p b ≡ true → Keeps p (a ++ b) c → (f : List ℕ → Bool) → tally f c ≡ tally (λ T. f T && p T) a + tally f b
counts_more p a b c all k f = omega (arith, k f, tally_append (λ T. f T && p T) a b, all_pass f p b all)

-- if tilings that pass are added before those that don't pass are removed, the added ones stay
pub same_more : (p : List ℕ → Bool) (a b c : List (List ℕ)) → list_all p b ≡ true → Keeps p (a ++ b) c → AreSame c (filter p a ++ b)
same_more p a b c all k f = counts_more p a b c all k f ∙ ap (λ n. n + tally f b) (sym (filtered f p a)) ∙ sym (tally_append f (filter p a) b)

pub room_after : (p : List ℕ → Bool) (a b c : List (List ℕ)) → list_all p b ≡ true → Keeps p (a ++ b) c → length (filter p a) + length b ≤ 1000000 → length c ≤ 1000000
room_after p a b c all k room = omega (arith, length_filter p a, tally_length c, counts_more p a b c all k (λ T. true), tally_length b, tally_less (λ T. true) p a, simple p a)
  where
    simple : (q : List ℕ → Bool) (d : List (List ℕ)) → tally (λ T. true && q T) d ≡ tally q d
    simple q d = refl

-- if `t` tilings stay, and `t` is at most `n`, there is room for `more` exactly if `t` and `more` together are at most `n`
pub same_room : (t more n : ℕ) → t ≤ n → leb more (n - t) ≡ leb (t + more) n
same_room t more n l = same_truth (leb more (n - t)) (leb (t + more) n)
    (λ h. le-leb (t + more) n (let k = leb-true more (n - t) h in omega arith))
    (λ h. le-leb more (n - t) (let k = leb-true (t + more) n h in omega arith))

or_none : (a : Bool) → a ≡ (a || false)
or_none true = refl
or_none false = refl

or_right_in : (a b c : Bool) → (a || (b || c)) ≡ ((a || b) || c)
or_right_in true b c = refl
or_right_in false b c = refl

pub marks_start : (indices : List ℕ) (marks : List Bool) (t : ℕ) → get_or marks t false ≡ (get_or marks t false || mem (take 0 indices) t)
marks_start indices marks t = or_none (get_or marks t false)

or_yes : (a b : Bool) → b ≡ true → (a || b) ≡ true
or_yes true b h = refl
or_yes false b h = h

pub marks_step : (indices : List ℕ) (i : ℕ) (old marks new : List Bool) → i < length indices → get_or indices i 0 < length marks → ((t : ℕ) → get_or marks t false ≡ (get_or old t false || mem (take i indices) t)) → new ≡ set marks (get_or indices i 0) true →
    (t : ℕ) → get_or new t false ≡ (get_or old t false || mem (take (i + 1) indices) t)
marks_step indices i old marks new l low h is t =
    let p = get_or indices i 0 in
    let more : mem (take (i + 1) indices) t ≡ (mem (take i indices) t || (eqb p t || false)) = ap (λ z. mem z t) (take_more indices i 0 l) ∙ any_append (λ y. eqb y t) (take i indices) (p ∷ []) in
    elim (cases_eq t p) [
      | inl e ↦
          ap (λ z. get_or z t false) is ∙ ap (λ z. get_or (set marks p true) z false) e ∙ get_or-set_same marks p true false low
          ∙ sym (or_yes (get_or old t false) (mem (take (i + 1) indices) t) (more ∙ or_yes (mem (take i indices) t) (eqb p t || false) (ap (λ z. z || false) (eq-eqb p t (sym e)))))
      | inr n ↦
          ap (λ z. get_or z t false) is ∙ get_or-set_other marks p t true false n ∙ h t
          ∙ ap (λ z. get_or old t false || z) (or_none (mem (take i indices) t) ∙ ap (λ z. mem (take i indices) t || z) (sym (ap (λ z. z || false) (ne_eqb p t (λ e. n (sym e))))) ∙ sym more)
    ]

pub marks_end : (indices : List ℕ) (i : ℕ) (old marks : List Bool) → length indices ≤ i → ((t : ℕ) → get_or marks t false ≡ (get_or old t false || mem (take i indices) t)) → (t : ℕ) → get_or marks t false ≡ (get_or old t false || mem indices t)
marks_end indices i old marks l h t = h t ∙ ap (λ z. get_or old t false || mem z t) (take_all i indices l)

-- marks for none of the numbers, for one more, for all
pub gone_start : (list : List (List ℕ)) (gone : List ℕ) (marks : List Bool) (n : ℕ) → n ≡ length list → marks ≡ replicate n false → AreMarked list (take 0 gone) marks
gone_start list gone marks n e is = record {
  long = ap length is ∙ length-replicate n false ∙ e;
  exact = λ t. ap (λ z. get_or z t false) is ∙ elim (cases_lt t n) [
    | inl l ↦ get_or-replicate n t false false l
    | inr g ↦ get_or_past (replicate n false) t false (omega (arith, length-replicate n false))
  ];
}

pub gone_step : (list : List (List ℕ)) (gone : List ℕ) (i : ℕ) (marks new : List Bool) (indices : List ℕ) → i < length gone → AreMarked list (take i gone) marks → AreIndicesWith list (get_or gone i 0) indices → length new ≡ length marks →
    ((t : ℕ) → get_or new t false ≡ (get_or marks t false || mem indices t)) → AreMarked list (take (i + 1) gone) new
gone_step list gone i marks new indices l m h long next = record {
  long = long ∙ m.long;
  exact = λ t.
      let p = λ (q : ℕ). mem (row list t) q in
      next t ∙ ap (λ z. z || mem indices t) (m.exact t) ∙ ap (λ z. list_any p (take i gone) || z) (h.exact t ∙ or_none (mem (row list t) (get_or gone i 0)))
      ∙ sym (ap (λ z. list_any p z) (take_more gone i 0 l) ∙ any_append p (take i gone) (get_or gone i 0 ∷ []));
}

pub gone_end : (list : List (List ℕ)) (gone : List ℕ) (i : ℕ) (marks : List Bool) → length gone ≤ i → AreMarked list (take i gone) marks → AreMarked list gone marks
gone_end list gone i marks l m = record { long = m.long; exact = λ t. m.exact t ∙ ap (λ z. list_any (λ p. mem (row list t) p) z) (take_all i gone l) }
