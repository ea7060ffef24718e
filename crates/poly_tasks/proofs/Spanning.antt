-- Runs of tasks whose lists have an atom in common: what they keep when some of them end and others begin.
use Rattle.std.proofs.Common.{Bool, List, [], ap, arith, drop, get_or, inl, inr, length, nat_lt, refl, sym, take, true, ℕ, ◌+◌, ◌++◌, ◌<◌, ◌∙◌, ◌∷◌, ◌≡◌, ◌≤◌}
use Rattle.std.proofs.lemmas.Bool.Decides.{leb_tells}
use Rattle.std.proofs.lemmas.Bool.{and_from, and_parts, cases_lt, lt-ltb, ltb-true, or_cases, or_left, or_right, true≢false}
use Rattle.std.proofs.lemmas.List.{append_assoc, map-append, take-append-drop, take_more}
use Rattle.std.specs.List.{list_all}
use Rattle.std.specs.Prelude.{map, nat_le, ◌&&◌, ◌⊎◌}
use Rattle.poly_tiling.proofs.Lists.{all_append}
use Rattle.poly_atom.specs.declared.atom.Atom.{Atom}
use Rattle.poly_tasks.specs.declared.maps.Maps.{Maps}
use Rattle.poly_tasks.specs.declared.maps.Run.{Run}
use Rattle.poly_tasks.specs.declared.maps.Runs.{Runs}
use Rattle.poly_tasks.specs.Mapped.{AreRunsNoted, IsWider, KeepsRuns, WillHave, has_run, run_from, under}
use Rattle.poly_tasks.proofs.Mapping.{all_imply, wide_atoms}

low_true : (m n : ℕ) → m ≤ n → nat_le m n ≡ true
low_true m n h = elim (leb_tells m n) [ inl p ↦ p.0 | inr p ↦ absurd (omega (arith, h, p.1)) ]

true_low : (m n : ℕ) → nat_le m n ≡ true → m ≤ n
true_low m n h = elim (leb_tells m n) [ inl p ↦ p.1 | inr p ↦ absurd (true≢false (sym h ∙ p.0)) ]

-- the number is in bounds
pub bounded : (l n u : ℕ) → l ≤ n → n ≤ u → (nat_le l n && nat_le n u) ≡ true
bounded l n u h k = and_from (nat_le l n) (nat_le n u) (low_true l n h) (low_true n u k)

pub begun_by : (r : Run) (n : ℕ) → r.first ≤ n → nat_le r.first n ≡ true
begun_by r n h = low_true r.first n h

pub run_wide : (m m2 : Maps) (n : ℕ) (r : Run) → IsWider m m2 → has_run m n r ≡ true → has_run m2 n r ≡ true
run_wide m m2 n r w h = elim (or_cases (nat_lt n r.first) (under m r.atom n) h) [
  | inl e ↦ or_left (nat_lt n r.first) (under m2 r.atom n) e
  | inr e ↦ or_right (nat_lt n r.first) (under m2 r.atom n) (w r.atom n e)
]

-- a run is noted for its numbers if its span is noted under its atom
pub run_now : (m : Maps) (r : Run) (last n : ℕ) → ((k : ℕ) → (nat_le r.first k && nat_le k last) ≡ true → under m r.atom k ≡ true) → n ≤ last → has_run m n r ≡ true
run_now m r last n h l = elim (cases_lt n r.first) [
  | inl e ↦ or_left (nat_lt n r.first) (under m r.atom n) (lt-ltb n r.first e)
  | inr g ↦ or_right (nat_lt n r.first) (under m r.atom n) (h n (bounded r.first n last g l))
]

pub runs_wide : (m m2 : Maps) (n : ℕ) (rs : List Run) → IsWider m m2 → list_all (has_run m n) rs ≡ true → list_all (has_run m2 n) rs ≡ true
runs_wide m m2 n rs w h = all_imply (has_run m n) (has_run m2 n) rs (λ r e. run_wide m m2 n r w e) h

-- if the first c runs are noted to a later number, with others, and the rest to the last one, all are noted to the last one
pub runs_kept : (m2 m3 : Maps) (last number c : ℕ) (rs more : List Run) → IsWider m2 m3 → (c ≡ 0) ⊎ (last ≤ number) → AreRunsNoted m2 last (drop c rs) → AreRunsNoted m3 number (take c rs ++ more) → AreRunsNoted m3 last rs
runs_kept m2 m3 last number c rs more w late ended noted = λ n l.
    let f : Run → Bool = has_run m3 n in
    let first : list_all f (take c rs) ≡ true = elim late [
      | inl none ↦ ap (λ j. list_all f (take j rs)) none
      | inr g ↦ (and_parts (list_all f (take c rs)) (list_all f more) (sym (all_append f (take c rs) more) ∙ noted n (omega (arith, l, g)))).0
    ] in
    ap (list_all f) (sym (take-append-drop c rs)) ∙ all_append f (take c rs) (drop c rs)
    ∙ and_from (list_all f (take c rs)) (list_all f (drop c rs)) first (runs_wide m2 m3 n (drop c rs) w (ended n l))

run_begun : (m : Maps) (n : ℕ) (r : Run) → r.first ≤ n → has_run m n r ≡ true → under m r.atom n ≡ true
run_begun m n r l h = elim (or_cases (nat_lt n r.first) (under m r.atom n) h) [
  | inl e ↦ absurd (omega (arith, ltb-true n r.first e, l))
  | inr e ↦ e
]

begun_noted : (m : Maps) (n : ℕ) (rs : List Run) → list_all (λ r. nat_le r.first n) rs ≡ true → list_all (has_run m n) rs ≡ true → list_all (λ a. under m a n) (map (λ r. r.atom) rs) ≡ true
begun_noted m n [] b h = refl
begun_noted m n (r ∷ rs) b h =
    let bs = and_parts (nat_le r.first n) (list_all (λ (r : Run). nat_le r.first n) rs) b in
    let hs = and_parts (has_run m n r) (list_all (has_run m n) rs) h in
    and_from (under m r.atom n) (list_all (λ a. under m a n) (map (λ (r : Run). r.atom) rs)) (run_begun m n r (true_low r.first n bs.0) hs.0) (begun_noted m n rs bs.1 hs.1)

new_noted : (m : Maps) (n : ℕ) (A : List Atom) → list_all (has_run m n) (map (run_from n) A) ≡ true → list_all (λ a. under m a n) A ≡ true
new_noted m n [] h = refl
new_noted m n (a ∷ A) h =
    let hs = and_parts (has_run m n (run_from n a)) (list_all (has_run m n) (map (run_from n) A)) h in
    and_from (under m a n) (list_all (λ a. under m a n) A) (run_begun m n (run_from n a) (omega arith) hs.0) (new_noted m n A hs.1)

-- if the first c runs have the first c atoms of a list and have begun by a number, and runs that begin with it have the others,
-- then the number is noted under each atom of the list once all of them are noted
pub runs_own : (m : Maps) (n c : ℕ) (rs : List Run) (A : List Atom) → map (λ r. r.atom) (take c rs) ≡ take c A → list_all (λ r. nat_le r.first n) (take c rs) ≡ true → AreRunsNoted m n (take c rs ++ map (run_from n) (drop c A)) → list_all (λ a. under m a n) A ≡ true
runs_own m n c rs A same begun noted =
    let f : Run → Bool = has_run m n in
    let g : Atom → Bool = λ a. under m a n in
    let new = map (run_from n) (drop c A) in
    let both = and_parts (list_all f (take c rs)) (list_all f new) (sym (all_append f (take c rs) new) ∙ noted n (omega arith)) in
    ap (list_all g) (sym (take-append-drop c A)) ∙ all_append g (take c A) (drop c A)
    ∙ and_from (list_all g (take c A)) (list_all g (drop c A)) (ap (list_all g) (sym same) ∙ begun_noted m n (take c rs) begun both.0) (new_noted m n (drop c A) both.1)

-- one more run has the next atom of the list
pub shared_more : (rs : List Run) (A : List Atom) (i : ℕ) (r : Run) (a : Atom) → i < length rs → i < length A → map (λ r. r.atom) (take i rs) ≡ take i A → (get_or rs i r).atom ≡ get_or A i a → map (λ r. r.atom) (take (i + 1) rs) ≡ take (i + 1) A
shared_more rs A i r a l k same one =
    let f : Run → Atom = λ r. r.atom in
    ap (map f) (take_more rs i r l) ∙ map-append f (take i rs) (get_or rs i r ∷ [])
    ∙ ap {B = List Atom} (λ B. B ++ (get_or rs i r).atom ∷ []) same
    ∙ ap {B = List Atom} (λ b. take i A ++ b ∷ []) one ∙ sym (take_more A i a k)

-- one more run begins with the next atom of the list
pub begun_more : (old now : List Run) (n : ℕ) (A : List Atom) (i : ℕ) (a : Atom) → i < length A → now ≡ old ++ map (run_from n) (take i A) → now ++ run_from n (get_or A i a) ∷ [] ≡ old ++ map (run_from n) (take (i + 1) A)
begun_more old now n A i a l h =
    let f : Atom → Run = run_from n in
    let x = get_or A i a in
    ap {B = List Run} (λ rs. rs ++ f x ∷ []) h ∙ append_assoc old (map f (take i A)) (f x ∷ [])
    ∙ ap {B = List Run} (λ rs. old ++ rs) (sym (ap (map f) (take_more A i a l) ∙ map-append f (take i A) (x ∷ [])))

-- runs that stay as they are are kept when more is noted
pub runs_stay : (m m2 : Maps) (r : Runs) → IsWider m m2 → KeepsRuns m r m2 r
runs_stay m m2 r w = λ m3 h. ((λ a n e. h.0 a n (w a n e)), h.1)

-- what is noted now will be noted once the runs are
pub will_have : (m : Maps) (r : Runs) (n : ℕ) (A : List Atom) → list_all (λ a. under m a n) A ≡ true → WillHave m r n A
will_have m r n A e = λ m2 h. wide_atoms m m2 n A h.0 e
