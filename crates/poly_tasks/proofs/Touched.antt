-- The tasks that a change touches.
use Rattle.std.proofs.Common.{Bool, List, [], ap, arith, cond, false, get_or, inl, inr, length, refl, subst, suc, sym, true, zero, ℕ, ◌++◌, ◌<◌, ◌∙◌, ◌∷◌, ◌≡◌, ◌||◌}
use Rattle.std.proofs.lemmas.Bool.{and_parts, both_ways, cond_both, false_from_ne_true, not-true, or_cases, or_left, or_right, true≢false}
use Rattle.std.proofs.lemmas.List.{append-nil}
use Rattle.std.specs.List.{filter, list_all, list_any}
use Rattle.std.specs.Prelude.{not}
use Rattle.poly_design.specs.declared.change.Change.{Change}
use Rattle.poly_tiling.specs.Lists.{mem}
use Rattle.poly_tiling.specs.Puzzle.{View}
use Rattle.poly_tiling.proofs.Lists.{In, any_in, filter_in, in_append_cases, in_append_left, in_append_right, in_filter, same_truth}
use Rattle.poly_place.specs.Index.{item_of}
use Rattle.poly_place.specs.declared.delta.Delta.{Delta}
use Rattle.poly_atom.specs.declared.atom.Atom.{Atom}
use Rattle.poly_atom.specs.declared.atom.Atom.TheVariants.{AtLeast, AtMost, Has, Lacks}
use Rattle.poly_atom.specs.Hopeless.{asked, bad, beyond, hopeless, lost}
use Rattle.poly_atom.specs.Newly.{touched}
use Rattle.poly_atom.proofs.Asked.{found_is}
use Rattle.poly_atom.proofs.Newly.{newly_hopeless_is_touched_lem}
use Rattle.poly_lists.specs.Words.{is_other}
use Rattle.poly_tasks.specs.declared.task.Pending.{Pending}
use Rattle.poly_tasks.specs.declared.touch.Touch.{Touch}
use Rattle.poly_tasks.specs.declared.task.Own.{Own}
use Rattle.poly_tasks.specs.Judged.{is_harmful}
use Rattle.poly_tasks.specs.Meaning.{brief_of, own_of, tasks_of}
use Rattle.poly_tasks.specs.Tasks.{AreAlive}
use Rattle.poly_tasks.specs.Touching.{AreTold, AreTouched, IsMadeBy, IsTold, matters, touches}
use Rattle.poly_tasks.proofs.Judging.{hopeless_within}
use Rattle.poly_tasks.proofs.Lacking.{by_beyond, by_lost, empty, one_in, other_or}
use Rattle.poly_tasks.proofs.Spotting.{none_harmful}

pub touched_at : (t : Touch) (log : List (List Atom)) (ps : List Pending) (i : ℕ) (d : Pending) → AreTouched t log ps → i < length ps →
    hopeless t.view.now (own_of log (get_or ps i d).own) ≡ true → list_any (touches t) (own_of log (get_or ps i d).own) ≡ true
touched_at t log [] i d h l = absurd (omega (arith, l))
touched_at t log (p ∷ ps) zero d h l = h.0
touched_at t log (p ∷ ps) (suc i) d h l = touched_at t log ps i d h.1 (omega (arith, l))

-- the change touches an own atom of each task whose own atoms it makes hopeless
pub all_touched : (t : Touch) (v w : View) (x : Delta) (y : Change) (log : List (List Atom)) (ps : List Pending) → IsMadeBy v w x y → t.view.now ≡ w → t.delta.now ≡ x → t.item ≡ item_of y → AreAlive v (tasks_of log ps) → AreTouched t log ps
all_touched t v w x y log [] made ev ed ei alive = tt
all_touched t v w x y log (p ∷ ps) made ev ed ei alive =
    let A = own_of log p.own in
    let hs = and_parts (not (hopeless v A)) (list_all (λ u. not (hopeless v u.own)) (tasks_of log ps)) alive in
    let first : hopeless t.view.now A ≡ true → list_any (touches t) A ≡ true = λ h.
    let there : list_any (touched w x (item_of y)) A ≡ true = newly_hopeless_is_touched_lem v w x y A made.0 made.1 (not-true _ hs.0) (ap (λ z. hopeless z A) (sym ev) ∙ h) in
    let same : list_any (touches t) A ≡ list_any (touched w x (item_of y)) A = λ i. list_any (touched (ev i) (ed i) (ei i)) A in
    same ∙ there in
    (first, all_touched t v w x y log ps made ev ed ei hs.1)

-- an atom of a list that isn't hopeless before a change, and that alone is so after it, is touched
touched_alone : (v w : View) (x : Delta) (y : Change) (A : List Atom) (a : Atom) → IsMadeBy v w x y → hopeless v A ≡ false → In a A → hopeless w (a ∷ []) ≡ true → touched w x (item_of y) a ≡ true
touched_alone v w x y A a made alive i after =
    let one : List Atom = a ∷ [] in
    let before : hopeless v one ≡ false = false_from_ne_true (hopeless v one) (λ e. both_ways (hopeless v A) alive (hopeless_within v one A (λ b j. subst (λ c. In c A) (one_in b a j) i) e)) in
    elim (or_cases (touched w x (item_of y) a) false (newly_hopeless_is_touched_lem v w x y one made.0 made.1 before after)) [
      | inl e ↦ e
      | inr e ↦ absurd (true≢false (sym e))
    ]

-- a list that a change makes hopeless is so already by those atoms that are a Has or are touched
few_enough : (v w : View) (x : Delta) (y : Change) (A : List Atom) (m : Atom → Bool) → IsMadeBy v w x y → hopeless v A ≡ false → ((p : ℕ) → m (Has p) ≡ true) → ((a : Atom) → touched w x (item_of y) a ≡ true → m a ≡ true) →
    hopeless w A ≡ true → hopeless w (filter m A) ≡ true
few_enough v w x y A m made alive has by h =
    let E = filter m A in
    let same : asked A ≡ asked E = sym (kept m has A) in
    elim (or_cases (list_any (λ a. lost w A a) A) (list_any (λ a. beyond w A a) A) (found_is w A A (λ q. refl) ∙ h)) [
      | inl l ↦ let r = any_in (λ a. lost w A a) A l in by_lost w A E r.0 same (in_filter m A r.0 r.1 (of_lost w A m has r.0 r.2)) r.2
      | inr l ↦
          let r = any_in (λ a. beyond w A a) A l in
          by_beyond w A E r.0 same (in_filter m A r.0 r.1 (by r.0 (touched_alone v w x y A r.0 made alive r.1 (alone v w A r.0 alive r.1 r.2)))) r.2
    ]
  where
    kept : (m : Atom → Bool) → ((p : ℕ) → m (Has p) ≡ true) → (D : List Atom) → asked (filter m D) ≡ asked D
    kept m has [] = refl
    kept m has (Has p ∷ D) = ap (λ b. asked (cond b (Has p ∷ filter m D) (filter m D))) (has p) ∙ ap (λ ps. p ∷ ps) (kept m has D)
    kept m has (Lacks p ∷ D) = cond_both (m (Lacks p)) (Lacks p ∷ filter m D) (filter m D) (λ B. asked B ≡ asked D) (λ e. kept m has D) (λ e. kept m has D)
    kept m has (AtLeast i n ∷ D) = cond_both (m (AtLeast i n)) (AtLeast i n ∷ filter m D) (filter m D) (λ B. asked B ≡ asked D) (λ e. kept m has D) (λ e. kept m has D)
    kept m has (AtMost i n ∷ D) = cond_both (m (AtMost i n)) (AtMost i n ∷ filter m D) (filter m D) (λ B. asked B ≡ asked D) (λ e. kept m has D) (λ e. kept m has D)

    of_lost : (w : View) (D : List Atom) (m : Atom → Bool) → ((p : ℕ) → m (Has p) ≡ true) → (a : Atom) → lost w D a ≡ true → m a ≡ true
    of_lost w D m has (Has p) h = has p
    of_lost w D m has (Lacks p) h = absurd (true≢false (sym h))
    of_lost w D m has (AtLeast i n) h = absurd (true≢false (sym h))
    of_lost w D m has (AtMost i n) h = absurd (true≢false (sym h))

    alone : (v w : View) (A : List Atom) (a : Atom) → hopeless v A ≡ false → In a A → beyond w A a ≡ true → hopeless w (a ∷ []) ≡ true
    alone v w A (Has p) alive i h = absurd (true≢false (sym h))
    alone v w A (Lacks p) alive i h = elim (or_cases (mem w.pins p) (mem (asked A) p) h) [
      | inl k ↦ or_left (mem w.pins p) false k
      | inr k ↦ absurd (both_ways (hopeless v A) alive (by_beyond v A A (Lacks p) refl i (or_right (mem v.pins p) (mem (asked A) p) k)))
    ]
    alone v w A (AtLeast i n) alive j h = or_left (bad w A (AtLeast i n)) false h
    alone v w A (AtMost i n) alive j h = or_left (bad w A (AtMost i n)) false h

touches_matters : (t : Touch) (a : Atom) → touches t a ≡ true → matters t a ≡ true
touches_matters t (Has p) h = refl
touches_matters t (Lacks p) h = h
touches_matters t (AtLeast i n) h = h
touches_matters t (AtMost i n) h = h

pub told_at : (t : Touch) (log : List (List Atom)) (ps : List Pending) (i : ℕ) (d : Pending) → AreTold t log ps → i < length ps → IsTold t log (get_or ps i d).own
told_at t log [] i d h l = absurd (omega (arith, l))
told_at t log (p ∷ ps) zero d h l = h.0
told_at t log (p ∷ ps) (suc i) d h l = told_at t log ps i d h.1 (omega (arith, l))

-- the atoms that matter tell which of the tasks are hopeless after a change
pub all_told : (t : Touch) (v w : View) (x : Delta) (y : Change) (log : List (List Atom)) (ps : List Pending) → IsMadeBy v w x y → t.view.now ≡ w → t.delta.now ≡ x → t.item ≡ item_of y → AreAlive v (tasks_of log ps) → AreTold t log ps
all_told t v w x y log [] made ev ed ei alive = tt
all_told t v w x y log (p ∷ ps) made ev ed ei alive =
    let A = own_of log p.own in
    let hs = and_parts (not (hopeless v A)) (list_all (λ u. not (hopeless v u.own)) (tasks_of log ps)) alive in
    let same : (a : Atom) → touches t a ≡ touched w x (item_of y) a = λ a i. touched (ev i) (ed i) (ei i) a in
    let first : IsTold t log p.own = λ h.
    ap (λ z. hopeless z (filter (matters t) A)) ev
    ∙ few_enough v w x y A (matters t) made (not-true _ hs.0) (λ p. refl) (λ a e. touches_matters t a (same a ∙ e)) (ap (λ z. hopeless z A) (sym ev) ∙ h) in
    (first, all_told t v w x y log ps made ev ed ei hs.1)

-- own atoms are hopeless exactly if those are that matter without each Lacks, with each Lacks of a new pin
pub few_tell : (t : Touch) (log : List (List Atom)) (o : Own) (B : List Atom) → IsTold t log o → B ≡ filter (matters t) (brief_of log o) ++ filter (is_harmful t.delta.now.pinned.items) (own_of log o) → hopeless t.view.now B ≡ hopeless t.view.now (own_of log o)
few_tell t log o B told is =
    let w = t.view.now in
    let A = own_of log o in
    let D = filter (matters t) (filter is_other A) in
    let H = filter (is_harmful t.delta.now.pinned.items) A in
    ap (λ C. hopeless w C) is ∙ same_truth (hopeless w (D ++ H)) (hopeless w A)
    (hopeless_within w (D ++ H) A (λ a i. elim (in_append_cases a D H i) [
      | inl j ↦ (filter_in is_other A a (filter_in (matters t) (filter is_other A) a j).0).0
      | inr j ↦ (filter_in (is_harmful t.delta.now.pinned.items) A a j).0
    ]))
    (λ h. hopeless_within w (filter (matters t) A) (D ++ H) (λ a i. let r = filter_in (matters t) A a i in elim (other_or a) [
      | inl e ↦ in_append_left a D H (in_filter (matters t) (filter is_other A) a (in_filter is_other A a r.0 e) r.1)
      | inr q ↦ in_append_right a D H (in_filter (is_harmful t.delta.now.pinned.items) A a r.0 (subst (λ b. is_harmful t.delta.now.pinned.items b ≡ true) (sym q.1) (subst (λ b. matters t b ≡ true) q.1 r.1)))
    ]) (told h))

-- if the atoms that matter without each Lacks tell that the own atoms are hopeless, or if the change pins nothing, they decide
pub few_decide : (t : Touch) (log : List (List Atom)) (o : Own) (ends none : Bool) → IsTold t log o → ends ≡ hopeless t.view.now (filter (matters t) (brief_of log o)) → (ends || none) ≡ true → (none ≡ true → length t.delta.now.pinned.items ≡ 0) → ends ≡ hopeless t.view.now (own_of log o)
few_decide t log o true none told is either pinned =
    let A = own_of log o in
    sym (hopeless_within t.view.now (filter (matters t) (filter is_other A)) A (λ a i. (filter_in is_other A a (filter_in (matters t) (filter is_other A) a i).0).0) (sym is))
few_decide t log o false none told is either pinned =
    let A = own_of log o in
    let D = filter (matters t) (filter is_other A) in
    let all : D ≡ D ++ filter (is_harmful t.delta.now.pinned.items) A = sym (ap (λ H. D ++ H) (ap (λ ps. filter (is_harmful ps) A) (empty t.delta.now.pinned.items (pinned either)) ∙ none_harmful A) ∙ append-nil D) in
    is ∙ few_tell t log o D told all
