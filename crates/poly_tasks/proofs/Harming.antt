-- Nearly all Lacks of a list do no harm with a stair, so they can be left out when the stair is judged.
use Rattle.std.proofs.Common.{Bool, List, [], ap, append_assoc, arith, cond, false, get_or, inl, inr, length, map, not, refl, subst, suc, sym, take, true, zero, ℕ, ◌++◌, ◌+◌, ◌<◌, ◌∙◌, ◌∷◌, ◌≡◌}
use Rattle.std.proofs.lemmas.Bool.{or_cases, true≢false}
use Rattle.std.proofs.lemmas.List.{append-nil, take_more}
use Rattle.std.specs.List.{filter, list_any}
use Rattle.poly_tiling.specs.Lists.{mem}
use Rattle.poly_tiling.specs.Puzzle.{View}
use Rattle.poly_tiling.proofs.Lists.{In, any_in, filter_in, in_append_cases, in_append_left, in_append_right, in_filter, in_mem, mem_in, same_truth}
use Rattle.poly_atom.specs.declared.atom.Atom.{Atom}
use Rattle.poly_atom.specs.declared.atom.Atom.TheVariants.{AtLeast, AtMost, Has, Lacks}
use Rattle.poly_atom.specs.Atoms.{negated}
use Rattle.poly_atom.specs.Hopeless.{asked, beyond, hopeless, lost}
use Rattle.poly_atom.specs.Stairs.{stairs}
use Rattle.poly_atom.proofs.Asked.{asked_append, found_is}
use Rattle.poly_atom.proofs.Bases.{asked_in}
use Rattle.poly_atom.proofs.Walks.{length-stairs, stairs_at}
use Rattle.poly_lists.specs.Words.{is_other}
use Rattle.poly_tasks.specs.declared.shelf.Frozen.{Frozen}
use Rattle.poly_tasks.specs.Judged.{AreJudged, is_harmful, named}
use Rattle.poly_tasks.specs.Meaning.{frozen_brief, frozen_of, laid_of, own_of}
use Rattle.poly_tasks.specs.Tasks.{Spares}
use Rattle.poly_tasks.proofs.Judging.{frozen_brief_is, hopeless_within}
use Rattle.poly_tasks.proofs.Lacking.{by_beyond, by_lost, empty, filter_asks, other_or}
use Rattle.poly_tasks.proofs.Sparing.{spared}

named_append : (A B : List Atom) → named (A ++ B) ≡ named A ++ named B
named_append [] B = refl
named_append (Has p ∷ A) B = ap (λ ps. p ∷ ps) (named_append A B)
named_append (Lacks p ∷ A) B = ap (λ ps. p ∷ ps) (named_append A B)
named_append (AtLeast i n ∷ A) B = named_append A B
named_append (AtMost i n ∷ A) B = named_append A B

-- what the atoms so far and the next one name
pub named_more : (A : List Atom) (i : ℕ) (d : Atom) (old : List ℕ) → i < length A → d ≡ get_or A i d → (old ++ named (take i A)) ++ named (d ∷ []) ≡ old ++ named (take (i + 1) A)
named_more A i d old l e =
    append_assoc old (named (take i A)) (named (d ∷ []))
    ∙ ap (λ ps. old ++ ps) (ap (λ b. named (take i A) ++ named (b ∷ [])) e ∙ sym (ap named (take_more A i d l) ∙ named_append (take i A) (get_or A i d ∷ [])))

named_in : (A : List Atom) (a : Atom) (p : ℕ) → In a A → In p (named (a ∷ [])) → In p (named A)
named_in [] a p i h = absurd i
named_in (b ∷ A) a p (inl e) h = first b A p (subst (λ x. In p (named (x ∷ []))) (sym e) h)
  where
    first : (b : Atom) (A : List Atom) (p : ℕ) → In p (named (b ∷ [])) → In p (named (b ∷ A))
    first (Has q) A p (inl e) = inl e
    first (Has q) A p (inr i) = absurd i
    first (Lacks q) A p (inl e) = inl e
    first (Lacks q) A p (inr i) = absurd i
    first (AtLeast j n) A p i = absurd i
    first (AtMost j n) A p i = absurd i
named_in (b ∷ A) a p (inr i) h = later b A p (named_in A a p i h)
  where
    later : (b : Atom) (A : List Atom) (p : ℕ) → In p (named A) → In p (named (b ∷ A))
    later (Has q) A p i = inr i
    later (Lacks q) A p i = inr i
    later (AtLeast j n) A p i = i
    later (AtMost j n) A p i = i

-- what a list asks for is named by it
asked_named : (A : List Atom) (p : ℕ) → In p (asked A) → In p (named A)
asked_named A p i = named_in A (Has p) p (asked_in A p i) (inl refl)

-- what the negation of an atom asks for is named by the atom
negated_named : (a : Atom) (p : ℕ) → In p (asked (negated a ∷ [])) → In p (named (a ∷ []))
negated_named (Has q) p i = absurd i
negated_named (Lacks q) p i = i
negated_named (AtLeast j n) p i = absurd i
negated_named (AtMost j n) p i = absurd i

-- what a stair asks for is named by the guards
stair_named : (g : List Atom) (i p : ℕ) → i < length g → In p (asked (get_or (stairs g) i [])) → In p (named g)
stair_named g i p l h =
    let d : Atom = Has 0 in
    let a = get_or g i d in
    let is : asked (get_or (stairs g) i []) ≡ asked (take i g) ++ asked (negated a ∷ []) = ap asked (stairs_at g i d l) ∙ asked_append (take i g) (negated a ∷ []) in
    elim (in_append_cases p (asked (take i g)) (asked (negated a ∷ [])) (subst (λ ps. In p ps) is h)) [
      | inl j ↦ named_in g (Has p) p (of_take (Has p) i g (asked_in (take i g) p j)) (inl refl)
      | inr j ↦ named_in g a p (at_own g i d l) (negated_named a p j)
    ]
  where
    of_take : (a : Atom) (i : ℕ) (g : List Atom) → In a (take i g) → In a g
    of_take a zero g h = absurd h
    of_take a (suc i) [] h = absurd h
    of_take a (suc i) (b ∷ g) (inl e) = inl e
    of_take a (suc i) (b ∷ g) (inr h) = inr (of_take a i g h)

    at_own : (g : List Atom) (i : ℕ) (d : Atom) → i < length g → In (get_or g i d) g
    at_own [] i d l = absurd (omega (arith, l))
    at_own (b ∷ g) zero d l = inl refl
    at_own (b ∷ g) (suc i) d l = inr (at_own g i d (omega (arith, l)))

harmful_asks : (ps : List ℕ) (A : List Atom) → asked (filter (is_harmful ps) A) ≡ []
harmful_asks ps [] = refl
harmful_asks ps (Has p ∷ A) = harmful_asks ps A
harmful_asks ps (Lacks p ∷ A) = either (mem ps p) p (filter (is_harmful ps) A) (harmful_asks ps A)
  where
    either : (b : Bool) (p : ℕ) (B : List Atom) → asked B ≡ [] → asked (cond b (Lacks p ∷ B) B) ≡ []
    either true p B e = e
    either false p B e = e
harmful_asks ps (AtLeast i n ∷ A) = harmful_asks ps A
harmful_asks ps (AtMost i n ∷ A) = harmful_asks ps A

-- the pins, what the guards name, and what the atoms laid on a task ask for
abbrev pub harmed : View → List Atom → List Atom → List ℕ
harmed w g L = (w.pins ++ named g) ++ named (filter is_other L)

-- a task's atoms that are no Lacks, and those of its Lacks that can do harm
abbrev pub harm_of : View → List Atom → List Atom → List Atom → List Atom
harm_of w g L A = filter is_other A ++ filter (is_harmful (harmed w g L)) A

-- these are all from the list
pub harm_in : (w : View) (g L A : List Atom) (a : Atom) → In a (harm_of w g L A) → In a A
harm_in w g L A a i = elim (in_append_cases a (filter is_other A) (filter (is_harmful (harmed w g L)) A) i) [
  | inl j ↦ (filter_in is_other A a j).0
  | inr j ↦ (filter_in (is_harmful (harmed w g L)) A a j).0
]

pub harm_first : (w : View) (g L A : List Atom) (a : Atom) → In a (filter is_other A) → In a (harm_of w g L A)
harm_first w g L A a i = in_append_left a (filter is_other A) (filter (is_harmful (harmed w g L)) A) i

-- they ask for what the list asks for
pub harm_has : (w : View) (g L A : List Atom) (p : ℕ) → In (Has p) (harm_of w g L A) → In (Has p) (filter is_other A)
harm_has w g L A p i = elim (in_append_cases (Has p) (filter is_other A) (filter (is_harmful (harmed w g L)) A) i) [
  | inl j ↦ j
  | inr j ↦ absurd (true≢false (sym (filter_in (is_harmful (harmed w g L)) A (Has p) j).1))
]

pub harm_is : (w : View) (g L A B C : List Atom) (ps : List ℕ) → B ≡ filter is_other A → C ≡ A → ps ≡ harmed w g L → B ++ filter (is_harmful ps) C ≡ harm_of w g L A
harm_is w g L A B C ps b c e = λ i. b i ++ filter (is_harmful (e i)) (c i)

-- if no placement can be harmed, no Lacks is among them
pub harm_none : (w : View) (g L A : List Atom) → harmed w g L ≡ [] → harm_of w g L A ≡ filter is_other A
harm_none w g L A e = ap (λ ps. filter is_other A ++ filter (is_harmful ps) A) e ∙ ap (λ B. filter is_other A ++ B) (none A) ∙ append-nil (filter is_other A)
  where
    none : (A : List Atom) → filter (is_harmful []) A ≡ []
    none [] = refl
    none (Has p ∷ A) = none A
    none (Lacks p ∷ A) = none A
    none (AtLeast i n ∷ A) = none A
    none (AtMost i n ∷ A) = none A

-- if no Lacks can do harm, these are the atoms that are no Lacks
pub harm_short : (w : View) (g L A : List Atom) → length (filter (is_harmful (harmed w g L)) A) ≡ 0 → harm_of w g L A ≡ filter is_other A
harm_short w g L A e = ap (λ F. filter is_other A ++ F) (no_atoms (filter (is_harmful (harmed w g L)) A) e) ∙ append-nil (filter is_other A)
  where
    no_atoms : (F : List Atom) → length F ≡ 0 → F ≡ []
    no_atoms [] h = refl
    no_atoms (a ∷ F) h = absurd (omega (arith, h))

-- a stair is hopeless after a task's atoms exactly if it is so after these
pub harm_decides : (w : View) (g O L : List Atom) (i : ℕ) → Spares O (O ++ L) → i < length g → hopeless w (harm_of w g L (O ++ L) ++ get_or (stairs g) i []) ≡ hopeless w ((O ++ L) ++ get_or (stairs g) i [])
harm_decides w g O L i spares l =
    let A = O ++ L in
    let D = filter is_other A in
    let P = harmed w g L in
    let E = harm_of w g L A in
    let S = get_or (stairs g) i [] in
    let short = E ++ S in
    let full = A ++ S in
    let asks : asked E ≡ asked A = asked_append D (filter (is_harmful P) A) ∙ ap (λ ps. asked D ++ ps) (harmful_asks P A) ∙ append-nil (asked D) ∙ filter_asks A in
    let same : asked full ≡ asked short = asked_append A S ∙ sym (asked_append E S ∙ ap (λ ps. ps ++ asked S) asks) in
    let other : (a : Atom) → In a full → is_other a ≡ true → In a short = λ a j o. elim (in_append_cases a A S j) [
      | inl k ↦ in_append_left a E S (in_append_left a D (filter (is_harmful P) A) (in_filter is_other A a k o))
      | inr k ↦ in_append_right a E S k
    ] in
    let named_by : (p : ℕ) → In p (named g) → In p P = λ p j. in_append_left p (w.pins ++ named g) (named (filter is_other L)) (in_append_right p w.pins (named g) j) in
    let of_task : (p : ℕ) → In (Lacks p) A → In p (asked A) → In p P = λ p k j. elim (in_append_cases p (asked O) (asked L) (subst (λ ps. In p ps) (asked_append O L) j)) [
      | inl m ↦ absurd (spared O A p spares m k)
      | inr m ↦ in_append_right p (w.pins ++ named g) (named (filter is_other L)) (asked_named (filter is_other L) p (subst (λ ps. In p ps) (sym (filter_asks L)) m))
    ] in
    let placed : (p : ℕ) → In (Lacks p) A → beyond w full (Lacks p) ≡ true → In p P = λ p k b. elim (or_cases (mem w.pins p) (mem (asked full) p) b) [
      | inl j ↦ in_append_left p (w.pins ++ named g) (named (filter is_other L)) (in_append_left p w.pins (named g) (mem_in w.pins p j))
      | inr j ↦ elim (in_append_cases p (asked A) (asked S) (subst (λ ps. In p ps) (asked_append A S) (mem_in (asked full) p j))) [
        | inl m ↦ of_task p k m
        | inr m ↦ named_by p (stair_named g i p l m)
      ]
    ] in
    let lacking : (p : ℕ) → In (Lacks p) full → beyond w full (Lacks p) ≡ true → In (Lacks p) short = λ p j b. elim (in_append_cases (Lacks p) A S j) [
      | inl k ↦ in_append_left (Lacks p) E S (in_append_right (Lacks p) D (filter (is_harmful P) A) (in_filter (is_harmful P) A (Lacks p) k (in_mem P p (placed p k b))))
      | inr k ↦ in_append_right (Lacks p) E S k
    ] in
    same_truth (hopeless w short) (hopeless w full)
    (hopeless_within w short full (λ a j. elim (in_append_cases a E S j) [ inl k ↦ in_append_left a A S (harm_in w g L A a k) | inr k ↦ in_append_right a A S k ]))
    (λ h. elim (or_cases (list_any (λ a. lost w full a) full) (list_any (λ a. beyond w full a) full) (found_is w full full (λ q. refl) ∙ h)) [
      | inl k ↦ let r = any_in (λ a. lost w full a) full k in elim (other_or r.0) [
        | inl o ↦ by_lost w full short r.0 same (other r.0 r.1 o) r.2
        | inr q ↦ absurd (true≢false (sym (subst (λ a. lost w full a ≡ true) q.1 r.2)))
      ]
      | inr k ↦ let r = any_in (λ a. beyond w full a) full k in elim (other_or r.0) [
        | inl o ↦ by_beyond w full short r.0 same (other r.0 r.1 o) r.2
        | inr q ↦
            let b : beyond w full (Lacks q.0) ≡ true = subst (λ a. beyond w full a ≡ true) q.1 r.2 in
            by_beyond w full short (Lacks q.0) same (lacking q.0 (subst (λ a. In a full) q.1 r.1) b) b
      ]
    ])

map_at : {X Y : Type 0} (f h : X → Y) (xs : List X) (d : X) → ((i : ℕ) → i < length xs → f (get_or xs i d) ≡ h (get_or xs i d)) → map f xs ≡ map h xs
map_at f h [] d e = refl
map_at {X} {Y} f h (x ∷ xs) d e =
    let first = e 0 (omega arith) in
    let rest = map_at f h xs d (λ i l. e (suc i) (omega (arith, l))) in
    λ k. first k ∷ rest k

pub harm_judges : (w : View) (g O L : List Atom) (fs : List Bool) → Spares O (O ++ L) → AreJudged w (harm_of w g L (O ++ L)) (stairs g) fs → AreJudged w (O ++ L) (stairs g) fs
harm_judges w g O L fs spares h =
    h ∙ map_at (λ B. not (hopeless w (harm_of w g L (O ++ L) ++ B))) (λ B. not (hopeless w ((O ++ L) ++ B))) (stairs g) [] (λ i l. ap not (harm_decides w g O L i spares (omega (arith, l, length-stairs g))))

-- if no placement can be harmed, the stairs are judged after a frozen task without any Lacks
pub brief_judges : (w : View) (g : List Atom) (log : List (List Atom)) (f : Frozen) (fs : List Bool) → Spares (own_of log f.own) (frozen_of log f) → length (harmed w g (laid_of log f)) ≡ 0 →
    AreJudged w (frozen_brief log f) (stairs g) fs → AreJudged w (frozen_of log f) (stairs g) fs
brief_judges w g log f fs spares e h =
    harm_judges w g (own_of log f.own) (laid_of log f) fs spares
    (subst (λ B. AreJudged w B (stairs g) fs) (frozen_brief_is log f ∙ sym (harm_none w g (laid_of log f) (frozen_of log f) (empty (harmed w g (laid_of log f)) e))) h)
