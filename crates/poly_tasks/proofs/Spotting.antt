-- Where the guard log has Lacks of some placements tells which of them are among any successive guards of the log.
use Rattle.std.proofs.Common.{Bool, List, [], ap, append_assoc, arith, cond, drop, false, get_or, length, map, refl, suc, sym, take, true, zero, ℕ, ◌&&◌, ◌++◌, ◌+◌, ◌-◌, ◌<◌, ◌∙◌, ◌∷◌, ◌≡◌, ◌≤◌}
use Rattle.std.proofs.lemmas.Bool.{and_from, false_from_ne_true, le-leb, le-ltb, leb-true, lt-ltb}
use Rattle.std.proofs.lemmas.List.{drop_at, drop_more, length-append, length-take-le, map-append, take-append-le, take_more}
use Rattle.std.proofs.lemmas.List.Elements.{filter-append}
use Rattle.std.specs.List.{filter}
use Rattle.std.specs.Prelude.{nat_le, nat_lt}
use Rattle.poly_atom.specs.declared.atom.Atom.{Atom}
use Rattle.poly_atom.specs.declared.atom.Atom.TheVariants.{AtLeast, AtMost, Has, Lacks}
use Rattle.poly_atom.specs.declared.stair.Stair.{Stair}
use Rattle.poly_atom.specs.Atoms.{negated}
use Rattle.poly_atom.specs.Logs.{IsStairOf, flat, stair_of}
use Rattle.poly_tasks.specs.declared.spots.Spot.{Spot}
use Rattle.poly_tasks.specs.Judged.{is_harmful}
use Rattle.poly_tasks.specs.Spots.{is_within, spots_from}
use Rattle.poly_tasks.proofs.Lacking.{stair_filter}

-- the atoms whose index passes the test, if the first one has the index i
abbrev pick : (ℕ → Bool) → ℕ → List Atom → List Atom
pick f i [] = []
pick f i (a ∷ A) = cond (f i) (a ∷ pick f (i + 1) A) (pick f (i + 1) A)

-- the spots whose index passes the test
abbrev spotted : (ℕ → Bool) → List Spot → List Atom
spotted f ss = map (λ s. s.atom) (filter (λ s. f s.at) ss)

picked : (ps : List ℕ) (f : ℕ → Bool) (i : ℕ) (A : List Atom) → filter (is_harmful ps) (pick f i A) ≡ spotted f (spots_from ps i A)
picked ps f i [] = refl
picked ps f i (a ∷ A) = both ps f i a (pick f (i + 1) A) (spots_from ps (i + 1) A) (is_harmful ps a) (f i) refl refl (picked ps f (i + 1) A)
  where
    both : (ps : List ℕ) (f : ℕ → Bool) (i : ℕ) (a : Atom) (B : List Atom) (ss : List Spot) (h b : Bool) → is_harmful ps a ≡ h → f i ≡ b → filter (is_harmful ps) B ≡ spotted f ss →
        filter (is_harmful ps) (cond b (a ∷ B) B) ≡ spotted f (cond h (record { at = i; atom = a } ∷ ss) ss)
    both ps f i a B ss true true e k so =
        ap (λ c. cond c (a ∷ filter (is_harmful ps) B) (filter (is_harmful ps) B)) e ∙ ap (λ C. a ∷ C) so
        ∙ sym (ap (λ c. map (λ (s : Spot). s.atom) (cond c (record { at = i; atom = a } ∷ filter (λ s. f s.at) ss) (filter (λ s. f s.at) ss))) k)
    both ps f i a B ss false true e k so = ap (λ c. cond c (a ∷ filter (is_harmful ps) B) (filter (is_harmful ps) B)) e ∙ so
    both ps f i a B ss true false e k so = so ∙ sym (ap (λ c. map (λ (s : Spot). s.atom) (cond c (record { at = i; atom = a } ∷ filter (λ s. f s.at) ss) (filter (λ s. f s.at) ss))) k)
    both ps f i a B ss false false e k so = so

pub inside : (b e i : ℕ) → b ≤ i → i < e → is_within b e i ≡ true
inside b e i l h = and_from (nat_le b i) (nat_lt i e) (le-leb b i l) (lt-ltb i e h)

pub past : (b e i : ℕ) → e ≤ i → is_within b e i ≡ false
past b e i l = right (nat_le b i) (nat_lt i e) (le-ltb i e l)
  where
    right : (x y : Bool) → y ≡ false → (x && y) ≡ false
    right true y h = h
    right false y h = refl

pub ahead : (b e i : ℕ) → i < b → is_within b e i ≡ false
ahead b e i l = ap (λ x. x && nat_lt i e) (false_from_ne_true (nat_le b i) (λ h. absurd (omega (arith, l, leb-true b i h))))

pick_past : (b e i : ℕ) (A : List Atom) → e ≤ i → pick (is_within b e) i A ≡ []
pick_past b e i [] l = refl
pick_past b e i (a ∷ A) l = let rest = pick (is_within b e) (i + 1) A in ap (λ c. cond c (a ∷ rest) rest) (past b e i l) ∙ pick_past b e (i + 1) A (omega (arith, l))

pick_first : (b e i n : ℕ) (A : List Atom) → b ≤ i → e ≡ i + n → pick (is_within b e) i A ≡ take n A
pick_first b e i zero A l is = pick_past b e i A (omega (arith, is))
pick_first b e i (suc n) [] l is = refl
pick_first b e i (suc n) (a ∷ A) l is =
    let rest = pick (is_within b e) (i + 1) A in
    ap (λ c. cond c (a ∷ rest) rest) (inside b e i l (omega (arith, is))) ∙ ap (λ B. a ∷ B) (pick_first b e (i + 1) n A (omega (arith, l)) (omega (arith, is)))

pick_range : (b e i k n : ℕ) (A : List Atom) → b ≡ i + k → e ≡ b + n → pick (is_within b e) i A ≡ take n (drop k A)
pick_range b e i zero n A from to = pick_first b e i n A (omega (arith, from)) (omega (arith, from, to))
pick_range b e i (suc k) zero [] from to = refl
pick_range b e i (suc k) (suc n) [] from to = refl
pick_range b e i (suc k) n (a ∷ A) from to =
    let rest = pick (is_within b e) (i + 1) A in
    ap (λ c. cond c (a ∷ rest) rest) (ahead b e i (omega (arith, from))) ∙ pick_range b e (i + 1) k n A (omega (arith, from)) to

flat_split : (log : List (List Atom)) (e : ℕ) → flat log ≡ flat (take e log) ++ flat (drop e log)
flat_split [] zero = refl
flat_split [] (suc e) = refl
flat_split (g ∷ log) zero = refl
flat_split (g ∷ log) (suc e) = ap (λ A. g ++ A) (flat_split log e) ∙ sym (append_assoc g (flat (take e log)) (flat (drop e log)))

pub since_low : (log : List (List Atom)) (e : ℕ) → length (flat (drop e log)) ≤ length (flat log)
since_low log e = omega (arith, ap length (flat_split log e), length-append (flat (take e log)) (flat (drop e log)))

-- the guards that the log has from an edition on begin so far before the end
pub since_at : (log : List (List Atom)) (e start : ℕ) → start ≡ length (flat log) - length (flat (drop e log)) → drop start (flat log) ≡ flat (drop e log)
since_at log e start is =
    let X = flat (take e log) in
    let Y = flat (drop e log) in
    let split : flat log ≡ X ++ Y = flat_split log e in
    ap (λ L. drop start L) split ∙ drop_at X Y start (omega (arith, is, ap length split, length-append X Y))

-- the first n of them
pub spotted_since : (log : List (List Atom)) (ps : List ℕ) (e n start : ℕ) (ss : List Spot) → ss ≡ spots_from ps 0 (flat log) → start ≡ length (flat log) - length (flat (drop e log)) →
    map (λ s. s.atom) (filter (λ s. is_within start (start + n) s.at) ss) ≡ filter (is_harmful ps) (take n (flat (drop e log)))
spotted_since log ps e n start ss found is =
    let f : ℕ → Bool = is_within start (start + n) in
    ap (spotted f) found
    ∙ sym (picked ps f 0 (flat log))
    ∙ ap (filter (is_harmful ps)) (pick_range start (start + n) 0 start n (flat log) (omega arith) refl ∙ ap (take n) (since_at log e start is))

spots_append : (ps : List ℕ) (i : ℕ) (A B : List Atom) → spots_from ps i (A ++ B) ≡ spots_from ps i A ++ spots_from ps (i + length A) B
spots_append ps i [] B = ap (λ j. spots_from ps j B) (omega arith)
spots_append ps i (a ∷ A) B = more (record { at = i; atom = a }) (spots_from ps (i + 1) (A ++ B)) (spots_from ps (i + 1) A) (spots_from ps ((i + 1) + length A) B) (is_harmful ps a) (spots_append ps (i + 1) A B)
    ∙ ap (λ j. cond (is_harmful ps a) (record { at = i; atom = a } ∷ spots_from ps (i + 1) A) (spots_from ps (i + 1) A) ++ spots_from ps j B) (omega arith)
  where
    more : (s : Spot) (xs ys zs : List Spot) (h : Bool) → xs ≡ ys ++ zs → cond h (s ∷ xs) xs ≡ cond h (s ∷ ys) ys ++ zs
    more s xs ys zs true e = ap (λ x. s ∷ x) e
    more s xs ys zs false e = e

-- the spots so far, and that of the next guard if it has one
pub spots_more : (ps : List ℕ) (A : List Atom) (k : ℕ) (d : Atom) (old : List Spot) → k < length A → d ≡ get_or A k d → old ++ spots_from ps 0 (take (k + 1) A) ≡ (old ++ spots_from ps 0 (take k A)) ++ cond (is_harmful ps d) (record { at = k; atom = d } ∷ []) []
spots_more ps A k d old l e =
    let len : 0 + length (take k A) ≡ k = omega (arith, length-take-le k A (omega (arith, l))) in
    ap (λ ss. old ++ ss) (ap (spots_from ps 0) (take_more A k d l) ∙ spots_append ps 0 (take k A) (get_or A k d ∷ [])
    ∙ (λ i. spots_from ps 0 (take k A) ++ spots_from ps (len i) (sym e i ∷ [])))
    ∙ sym (append_assoc old (spots_from ps 0 (take k A)) (cond (is_harmful ps d) (record { at = k; atom = d } ∷ []) []))

-- a stair begins with the first guards that the log has from its edition on
stair_first : (log : List (List Atom)) (s : Stair) → IsStairOf log s → take s.index (flat (drop s.edition log)) ≡ take s.index (get_or log s.edition [])
stair_first log s h =
    let g = get_or log s.edition [] in
    ap (λ L. take s.index (flat L)) (drop_more log s.edition [] h.edition_in) ∙ take-append-le s.index g (flat (drop (s.edition + 1) log)) (omega (arith, h.index_in))

pub stair_low : (log : List (List Atom)) (s : Stair) → IsStairOf log s → s.index ≤ length (flat (drop s.edition log))
stair_low log s h =
    let g = get_or log s.edition [] in
    omega (arith, h.index_in, ap (λ L. length (flat L)) (drop_more log s.edition [] h.edition_in), length-append g (flat (drop (s.edition + 1) log)))

-- what a stair has of the first guards and its last atom are what it has in all
pub stair_spotted : (ps : List ℕ) (log : List (List Atom)) (s : Stair) (a d : Atom) (old : List Atom) → IsStairOf log s → a ≡ negated (get_or (get_or log s.edition []) s.index d) →
    (old ++ filter (is_harmful ps) (take s.index (flat (drop s.edition log)))) ++ filter (is_harmful ps) (a ∷ []) ≡ old ++ filter (is_harmful ps) (stair_of log s)
stair_spotted ps log s a d old h e =
    let f : Atom → Bool = is_harmful ps in
    let g = get_or log s.edition [] in
    append_assoc old (filter f (take s.index (flat (drop s.edition log)))) (filter f (a ∷ []))
    ∙ ap (λ B. old ++ B) (ap (λ A. filter f A ++ filter f (a ∷ [])) (stair_first log s h) ∙ stair_filter f g s.index d a h.index_in e)

-- what two lists have, one after the other
pub spotted_both : (ps : List ℕ) (A B old : List Atom) → (old ++ filter (is_harmful ps) A) ++ filter (is_harmful ps) B ≡ old ++ filter (is_harmful ps) (A ++ B)
spotted_both ps A B old = append_assoc old (filter (is_harmful ps) A) (filter (is_harmful ps) B) ∙ ap (λ C. old ++ C) (sym (filter-append (is_harmful ps) A B))

-- without placements, there are no spots
pub spots_none : (i : ℕ) (A : List Atom) → [] ≡ spots_from [] i A
spots_none i [] = refl
spots_none i (Has p ∷ A) = spots_none (i + 1) A
spots_none i (Lacks p ∷ A) = spots_none (i + 1) A
spots_none i (AtLeast j n ∷ A) = spots_none (i + 1) A
spots_none i (AtMost j n ∷ A) = spots_none (i + 1) A

-- what the spots so far give, and the next one
pub spotted_more : (f : ℕ → Bool) (ss : List Spot) (k : ℕ) (d : Spot) (old : List Atom) → k < length ss → d ≡ get_or ss k d →
    old ++ map (λ s. s.atom) (filter (λ s. f s.at) (take (k + 1) ss)) ≡ (old ++ map (λ s. s.atom) (filter (λ s. f s.at) (take k ss))) ++ cond (f d.at) (d.atom ∷ []) []
spotted_more f ss k d old l e =
    let g : Spot → Bool = λ s. f s.at in
    let one : filter g (take (k + 1) ss) ≡ filter g (take k ss) ++ cond (f d.at) (d ∷ []) [] =
    ap (filter g) (take_more ss k d l ∙ ap (λ s. take k ss ++ s ∷ []) (sym e)) ∙ filter-append g (take k ss) (d ∷ []) in
    ap (λ ys. old ++ map (λ (s : Spot). s.atom) ys) one
    ∙ ap (λ A. old ++ A) (map-append (λ (s : Spot). s.atom) (filter g (take k ss)) (cond (f d.at) (d ∷ []) []) ∙ ap (λ A. map (λ (s : Spot). s.atom) (filter g (take k ss)) ++ A) (through (f d.at) d))
    ∙ sym (append_assoc old (map (λ s. s.atom) (filter g (take k ss))) (cond (f d.at) (d.atom ∷ []) []))
  where
    through : (b : Bool) (d : Spot) → map (λ (s : Spot). s.atom) (cond b (d ∷ []) []) ≡ cond b (d.atom ∷ []) []
    through true d = refl
    through false d = refl

-- no atom lacks one of no placements
pub none_harmful : (A : List Atom) → filter (is_harmful []) A ≡ []
none_harmful [] = refl
none_harmful (Has p ∷ A) = none_harmful A
none_harmful (Lacks p ∷ A) = none_harmful A
none_harmful (AtLeast i n ∷ A) = none_harmful A
none_harmful (AtMost i n ∷ A) = none_harmful A
