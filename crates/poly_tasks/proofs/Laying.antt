-- Guards that were laid on a task, and aren't hopeless alone, can be left out when stairs are judged, but for what they ask for.
use Rattle.std.proofs.Common.{Bool, List, [], ap, append_assoc, false, get_or, inl, inr, map, not, refl, subst, sym, true, ℕ, ◌++◌, ◌∙◌, ◌∷◌, ◌≡◌, ◌||◌, ◌⊎◌}
use Rattle.std.proofs.lemmas.Bool.{or_cases, true≢false}
use Rattle.std.specs.List.{filter, list_any}
use Rattle.poly_tiling.specs.Puzzle.{View}
use Rattle.poly_tiling.proofs.Lists.{In, any_from, any_in, filter_in, in_append_cases, in_append_left, in_append_right, in_filter, same_truth}
use Rattle.poly_atom.specs.declared.atom.Atom.{Atom}
use Rattle.poly_atom.specs.declared.atom.Atom.TheVariants.{AtLeast, AtMost, Has, Lacks}
use Rattle.poly_atom.specs.Hopeless.{asked, beyond, hopeless, lost}
use Rattle.poly_atom.proofs.Asked.{asked_append, found_is}
use Rattle.poly_lists.specs.Words.{is_other}
use Rattle.poly_tasks.specs.declared.shelf.Frozen.{Frozen}
use Rattle.poly_tasks.specs.Judged.{AreAlone, AreJudged, AreRuledOut, is_has}
use Rattle.poly_tasks.specs.Meaning.{frozen_of, laid_of, own_of}
use Rattle.poly_tasks.specs.Tasks.{hopeful}
use Rattle.poly_tasks.proofs.Judging.{hopeless_within}
use Rattle.poly_tasks.proofs.Lacking.{by_beyond, by_lost}

-- whatever follows the two lists, they are hopeless or not alike
abbrev pub AreAlike : View → List Atom → List Atom → Type 0
AreAlike w A B = (X : List Atom) → hopeless w (A ++ X) ≡ hopeless w (B ++ X)

-- what atoms ask for is what each Has of them asks for
has_asks : (O : List Atom) → asked (filter is_has O) ≡ asked O
has_asks [] = refl
has_asks (Has p ∷ O) = ap (λ ps. p ∷ ps) (has_asks O)
has_asks (Lacks p ∷ O) = has_asks O
has_asks (AtLeast i n ∷ O) = has_asks O
has_asks (AtMost i n ∷ O) = has_asks O

-- if none of the guards is hopeless alone, those that show that a list is hopeless are among what they ask for
kept : (w : View) (L full : List Atom) (a : Atom) → list_any (λ b. hopeless w (b ∷ [])) (filter is_other L) ≡ false → In a (filter is_other L) → (lost w full a ≡ true) ⊎ (beyond w full a ≡ true) → In a (filter is_has (filter is_other L))
kept w L full (Has p) none i bad = in_filter is_has (filter is_other L) (Has p) i refl
kept w L full (Lacks p) none i bad = absurd (true≢false (sym (filter_in is_other L (Lacks p) i).1))
kept w L full (AtLeast j n) none i (inl e) = absurd (true≢false (sym e))
kept w L full (AtLeast j n) none i (inr e) = absurd (true≢false (sym (any_from (λ b. hopeless w (b ∷ [])) (filter is_other L) (AtLeast j n) i (ap (λ b. b || false) e)) ∙ none))
kept w L full (AtMost j n) none i (inl e) = absurd (true≢false (sym e))
kept w L full (AtMost j n) none i (inr e) = absurd (true≢false (sym (any_from (λ b. hopeless w (b ∷ [])) (filter is_other L) (AtMost j n) i (ap (λ b. b || false) e)) ∙ none))

-- the guards or only what they ask for: lists with them are hopeless or not alike
pub asks_alike : (w : View) (D L : List Atom) → list_any (λ a. hopeless w (a ∷ [])) (filter is_other L) ≡ false → AreAlike w (D ++ filter is_has (filter is_other L)) (D ++ filter is_other L)
asks_alike w D L none X =
    let O = filter is_other L in
    let H = filter is_has O in
    let short = (D ++ H) ++ X in
    let full = (D ++ O) ++ X in
    let start : asked (D ++ O) ≡ asked (D ++ H) = asked_append D O ∙ ap (λ ps. asked D ++ ps) (sym (has_asks O)) ∙ sym (asked_append D H) in
    let same : asked full ≡ asked short = asked_append (D ++ O) X ∙ ap (λ ps. ps ++ asked X) start ∙ sym (asked_append (D ++ H) X) in
    let less : (a : Atom) → In a short → In a full = λ a i. elim (in_append_cases a (D ++ H) X i) [
      | inl j ↦ in_append_left a (D ++ O) X (elim (in_append_cases a D H j) [ inl k ↦ in_append_left a D O k | inr k ↦ in_append_right a D O (filter_in is_has O a k).0 ])
      | inr j ↦ in_append_right a (D ++ O) X j
    ] in
    let keeps : (a : Atom) → In a full → (lost w full a ≡ true) ⊎ (beyond w full a ≡ true) → In a short = λ a i bad. elim (in_append_cases a (D ++ O) X i) [
      | inl j ↦ in_append_left a (D ++ H) X (elim (in_append_cases a D O j) [ inl k ↦ in_append_left a D H k | inr k ↦ in_append_right a D H (kept w L full a none k bad) ])
      | inr j ↦ in_append_right a (D ++ H) X j
    ] in
    same_truth (hopeless w short) (hopeless w full) (hopeless_within w short full less)
    (λ h. elim (or_cases (list_any (λ a. lost w full a) full) (list_any (λ a. beyond w full a) full) (found_is w full full (λ q. refl) ∙ h)) [
      | inl k ↦ let r = any_in (λ a. lost w full a) full k in by_lost w full short r.0 same (keeps r.0 r.1 (inl r.2)) r.2
      | inr k ↦ let r = any_in (λ a. beyond w full a) full k in by_beyond w full short r.0 same (keeps r.0 r.1 (inr r.2)) r.2
    ])

-- lists that are alike stay so if both go on in the same way
pub alike_on : (w : View) (A B F : List Atom) → AreAlike w A B → AreAlike w (A ++ F) (B ++ F)
alike_on w A B F h X = ap (λ C. hopeless w C) (append_assoc A F X) ∙ h (F ++ X) ∙ ap (λ C. hopeless w C) (sym (append_assoc B F X))

pub judged_alike : (w : View) (A B : List Atom) (S : List (List Atom)) (fs : List Bool) → AreAlike w A B → AreJudged w A S fs → AreJudged w B S fs
judged_alike w A B S fs h e = e ∙ (λ i. map (λ C. not (h C i)) S)

pub out_alike : (w : View) (A B : List Atom) (S : List (List Atom)) (fs : List Bool) → AreAlike w A B → AreRuledOut w B S fs → AreRuledOut w A S fs
out_alike w A B S fs h out i l e = h (get_or S i []) ∙ out i l e

pub alone_alike : (w : View) (A B g : List Atom) (n : ℕ) (fs : List Bool) → AreAlike w A B → AreAlone w B g n fs → AreAlone w A g n fs
alone_alike w A B g n fs h alone i d l e = h _ ∙ alone i d l e ∙ sym (h _)

-- nothing is opened after a list that is hopeless
none_after : (w : View) (A : List Atom) (S : List (List Atom)) → hopeless w A ≡ true → hopeful w (map (λ B. A ++ B) S) ≡ []
none_after w A [] h = refl
none_after w A (B ∷ S) h = rw (hopeless_within w A (A ++ B) (λ a i. in_append_left a A B i) h) (none_after w A S h)

-- nothing is opened after a task that a guard was laid on which is hopeless alone
pub spoilt_none : (w : View) (log : List (List Atom)) (f : Frozen) (S : List (List Atom)) → list_any (λ a. hopeless w (a ∷ [])) (filter is_other (laid_of log f)) ≡ true → hopeful w (map (λ B. frozen_of log f ++ B) S) ≡ []
spoilt_none w log f S h =
    let r = any_in (λ a. hopeless w (a ∷ [])) (filter is_other (laid_of log f)) h in
    let there : In r.0 (frozen_of log f) = in_append_right r.0 (own_of log f.own) (laid_of log f) (filter_in is_other (laid_of log f) r.0 r.1).0 in
    none_after w (frozen_of log f) S (hopeless_within w (r.0 ∷ []) (frozen_of log f) (λ a i. elim i [ inl e ↦ subst (λ b. In b (frozen_of log f)) e there | inr n ↦ absurd n ]) r.2)
