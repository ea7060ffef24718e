-- Lists of workers, before and after their turns.
use Rattle.std.proofs.Common.{ℕ, suc, ◌≡◌, ◌∙◌, ◌≤◌, ◌<◌, ◌+◌, ◌++◌, List, Result, Ok, Err, [], ◌∷◌, All, ap, arith, drop, get_or, length, map, refl, sym, vec_len}
use Rattle.std.specs.List.{AllZip}
use Rattle.std.proofs.lemmas.List.{drop_more}
use Rattle.std.proofs.lemmas.List.Elements.{All-push, AllZip-get_or, length_all_zip}
use Rattle.poly_crew.specs.Counts.{added}
use Rattle.poly_grid.specs.declared.refusal.Refusal.{Refusal}
use Rattle.poly_desk.specs.declared.receipt.Receipt.{Receipt}
use Rattle.poly_crew.specs.Worked.{HasRun, IsEnd, first_of}
use Rattle.poly_crew.specs.declared.worker.Worker.{Worker}

-- two lists of the same length are related if at each index their elements are
pub zipped : {X : Type 0} (R : X → X → Type 0) (xs ys : List X) → length ys ≡ length xs → ((k : ℕ) (d : X) → k < length xs → R (get_or xs k d) (get_or ys k d)) → AllZip R xs ys
zipped R [] [] e each = tt
zipped R [] (y ∷ ys) e each = absurd (omega arith)
zipped R (x ∷ xs) [] e each = absurd (omega arith)
zipped R (x ∷ xs) (y ∷ ys) e each = (each 0 x (omega arith), zipped R xs ys (omega arith) (λ k d below. each (suc k) d (omega arith)))

module _ {P : Type 0} (changes cuts : P → ℕ) (gave : P → Receipt → Type 0) (found_none : P → Type 0) (refused : P → Refusal → Type 0) (most : ℕ) where
  abbrev Run : Worker P → Worker P → Type 0
  Run = HasRun changes cuts gave found_none refused most

  pub changes_stay : (olds news : List (Worker P)) → AllZip Run olds news → map changes (map (λ w. w.pass) news) ≡ map changes (map (λ w. w.pass) olds)
  changes_stay [] [] all = refl
  changes_stay [] (w ∷ news) all = absurd all
  changes_stay (v ∷ olds) [] all = absurd all
  changes_stay (v ∷ olds) (w ∷ news) all =
      let here = all.0.worked.changes_stay in
      let there = changes_stay olds news all.1 in
      cc

  pub cuts_grow : (olds news : List (Worker P)) → All (λ w. vec_len w.receipts ≡ 0) olds → AllZip Run olds news → map cuts (map (λ w. w.pass) news) ≡ added (map cuts (map (λ w. w.pass) olds)) (map (λ rs. vec_len rs) (map (λ w. w.receipts) news))
  cuts_grow [] [] none all = refl
  cuts_grow [] (w ∷ news) none all = absurd all
  cuts_grow (v ∷ olds) [] none all = absurd all
  cuts_grow (v ∷ olds) (w ∷ news) none all =
      let first : vec_len v.receipts ≡ 0 = none 0 v (omega arith) in
      let here : cuts w.pass ≡ cuts v.pass + vec_len w.receipts = let is = all.0.worked.cuts_are in omega arith in
      let there = cuts_grow olds news (λ k d below. none (suc k) d (omega arith)) all.1 in
      cc

  pub all_there : (olds news : List (Worker P)) → AllZip Run olds news → length news ≡ length olds
  all_there olds news all = sym (length_all_zip Run olds news all)

  -- a worker that began without receipts has at most `most` of them after its turns
  pub receipts_few : (olds news : List (Worker P)) → All (λ w. vec_len w.receipts ≡ 0) olds → AllZip Run olds news → All (λ w. vec_len w.receipts ≤ most) news
  receipts_few olds news none all = λ k d below.
      let same = length_all_zip Run olds news all in
      let there : k < length olds = omega arith in
      let ran = AllZip-get_or Run olds news k d d all there in
      let first = none k d there in
      let few = ran.worked.few in
      omega arith

  -- a worker that began without receipts has only receipts that the bench gave to its pass
  pub receipts_given : (olds news : List (Worker P)) → All (λ w. vec_len w.receipts ≡ 0) olds → AllZip Run olds news → AllZip (λ pass list. All (gave pass) list.items) (map (λ w. w.pass) news) (map (λ w. w.receipts) news)
  receipts_given [] [] none all = tt
  receipts_given [] (w ∷ news) none all = absurd all
  receipts_given (v ∷ olds) [] none all = absurd all
  receipts_given (v ∷ olds) (w ∷ news) none all =
      let first : vec_len v.receipts ≡ 0 = none 0 v (omega arith) in
      (all.0.worked.given (λ k d below. absurd (omega (arith, first, below))), receipts_given olds news (λ k d below. none (suc k) d (omega arith)) all.1)

  pub all_ended : (olds news : List (Worker P)) → AllZip Run olds news → AllZip (IsEnd found_none refused) (map (λ w. w.pass) news) (map (λ w. w.end) news)
  all_ended [] [] all = tt
  all_ended [] (w ∷ news) all = absurd all
  all_ended (v ∷ olds) [] all = absurd all
  all_ended (v ∷ olds) (w ∷ news) all = (all.0.ended, all_ended olds news all.1)

pub none_more : {P : Type 0} (olds news : List (Worker P)) (w : Worker P) → news ≡ olds ++ w ∷ [] → vec_len w.receipts ≡ 0 → All (λ v. vec_len v.receipts ≡ 0) olds → All (λ v. vec_len v.receipts ≡ 0) news
none_more olds news w is none all = rw is (All-push (λ v. vec_len v.receipts ≡ 0) olds w all none)

pub added_none : (ns : List ℕ) → ns ≡ added ns []
added_none [] = refl
added_none (n ∷ ns) = refl

-- ---- the first end that isn't good

abbrev ends_of : {P : Type 0} → List (Worker P) → List (Result (Unit {0}) Refusal)
ends_of workers = map (λ w. w.end) workers

first_after : (r : Result (Unit {0}) Refusal) (x : Unit {0}) (ends : List (Result (Unit {0}) Refusal)) → r ≡ Ok x → first_of (r ∷ ends) ≡ first_of ends
first_after (Ok y) x ends is = refl
first_after (Err e) x ends is = absurd cc

first_here : (r : Result (Unit {0}) Refusal) (e : Refusal) (ends : List (Result (Unit {0}) Refusal)) → r ≡ Err e → first_of (r ∷ ends) ≡ Err e
first_here (Ok y) e ends is = absurd cc
first_here (Err f) e ends is = is

-- if the next worker ended well, the first end that isn't good is after it
pub first_later : {P : Type 0} (workers : List (Worker P)) (i : ℕ) (w : Worker P) (x : Unit {0}) → i < length workers → w ≡ get_or workers i w → w.end ≡ Ok x → first_of (ends_of (drop i workers)) ≡ first_of (ends_of (drop (i + 1) workers))
first_later workers i w x below is well = ap (λ ws. first_of (ends_of ws)) (drop_more workers i w below ∙ ap (λ v. v ∷ drop (i + 1) workers) (sym is)) ∙ first_after w.end x (ends_of (drop (i + 1) workers)) well

pub first_is : {P : Type 0} (workers : List (Worker P)) (i : ℕ) (w : Worker P) (e : Refusal) → i < length workers → w ≡ get_or workers i w → w.end ≡ Err e → first_of (ends_of (drop i workers)) ≡ Err e
first_is workers i w e below is bad = ap (λ ws. first_of (ends_of ws)) (drop_more workers i w below ∙ ap (λ v. v ∷ drop (i + 1) workers) (sym is)) ∙ first_here w.end e (ends_of (drop (i + 1) workers)) bad
