-- Which stairs of a change are opened after a base.
use Rattle.std.proofs.Common.{Bool, List, [], ap, append_assoc, arith, cond, false, get_or, inl, inr, length, map, not, refl, subst, sym, take, true, ℕ, ◌++◌, ◌+◌, ◌<◌, ◌≤◌, ◌∙◌, ◌∷◌, ◌≡◌, ◌||◌}
use Rattle.std.proofs.lemmas.Bool.{not-false}
use Rattle.std.proofs.lemmas.List.{drop_more, get_or_push, get_or-map, length-map, length_push, map-append, take_all, take_more}
use Rattle.std.proofs.lemmas.List.Elements.{filter-append}
use Rattle.std.specs.List.{filter, list_any}
use Rattle.std.proofs.Math.Bool.{beq}
use Rattle.poly_tiling.specs.Puzzle.{View}
use Rattle.poly_tiling.proofs.Grown.{grown_self}
use Rattle.poly_tiling.proofs.Lists.{In, filter_in, in_append_cases, in_append_left, in_append_right}
use Rattle.poly_atom.specs.declared.atom.Atom.{Atom}
use Rattle.poly_atom.specs.Atoms.{negated}
use Rattle.poly_atom.specs.Hopeless.{hopeless}
use Rattle.poly_atom.specs.declared.stair.Stair.{Stair}
use Rattle.poly_atom.specs.Logs.{IsStairOf, stair_of}
use Rattle.poly_atom.specs.Stairs.{stairs}
use Rattle.poly_atom.proofs.Stays.{hopeless_more}
use Rattle.poly_atom.proofs.Walks.{length-stairs, stairs_at}
use Rattle.poly_lists.specs.Words.{is_other}
use Rattle.poly_tasks.specs.declared.shelf.Frozen.{Frozen}
use Rattle.poly_tasks.specs.declared.task.Pending.{Pending}
use Rattle.poly_tasks.specs.declared.task.Own.{Own}
use Rattle.poly_tasks.specs.Meaning.{IsOwn, frozen_brief, frozen_of, laid_of, own_of, tasks_of}
use Rattle.poly_tasks.specs.Judged.{AreAlone, AreJudged, AreRuledOut}
use Rattle.poly_tasks.specs.Opens.{Opening}
use Rattle.poly_tasks.specs.Tasks.{hopeful, tasks_from}
use Rattle.poly_tasks.proofs.Held.{crossed_from, opening_more, opening_skip, stairs_end}

pub judged_length : (w : View) (base g : List Atom) (fs : List Bool) → AreJudged w base (stairs g) fs → length fs ≡ length g
judged_length w base g fs e = ap length e ∙ length-map (stairs g) (λ A. not (hopeless w (base ++ A))) ∙ length-stairs g

pub judged_at : (w : View) (base g : List Atom) (fs : List Bool) (j : ℕ) (b : Bool) → AreJudged w base (stairs g) fs → j < length g → get_or fs j b ≡ not (hopeless w (base ++ get_or (stairs g) j []))
judged_at w base g fs j b e l = ap (λ xs. get_or xs j b) e ∙ get_or-map (λ A. not (hopeless w (base ++ A))) (stairs g) j [] b (omega (arith, l, length-stairs g))

-- flags after a base are those after the same base
pub judged_over : (w : View) (A B : List Atom) (S : List (List Atom)) (fs : List Bool) → AreJudged w A S fs → A ≡ B → AreJudged w B S fs
judged_over w A B S fs h e = h ∙ ap (λ X. map (λ C. not (hopeless w (X ++ C))) S) e

-- the guards before the next stair, followed by its last atom
pub stair_next : (base g : List Atom) (j : ℕ) (d : Atom) → j < length g → (base ++ take j g) ++ negated (get_or g j d) ∷ [] ≡ base ++ get_or (stairs g) j []
stair_next base g j d l = append_assoc base (take j g) (negated (get_or g j d) ∷ []) ∙ ap (λ A. base ++ A) (sym (stairs_at g j d l))

-- the flags so far and that of the next stair
pub judged_more : (w : View) (base g : List Atom) (j : ℕ) (d : Atom) (fs : List Bool) (ends : Bool) → j < length g → AreJudged w base (take j (stairs g)) fs → ends ≡ hopeless w ((base ++ take j g) ++ negated (get_or g j d) ∷ []) →
    AreJudged w base (take (j + 1) (stairs g)) (fs ++ not ends ∷ [])
judged_more w base g j d fs ends l so e =
    let S = stairs g in
    let F : List Atom → Bool = λ A. not (hopeless w (base ++ A)) in
    let B = get_or S j [] in
    let one : not ends ≡ F B = ap not (e ∙ ap (λ A. hopeless w A) (stair_next base g j d l)) in
    let next : take (j + 1) S ≡ take j S ++ B ∷ [] = take_more S j [] (omega (arith, l, length-stairs g)) in
    (λ i. so i ++ one i ∷ []) ∙ sym (ap (λ As. map F As) next ∙ map-append F (take j S) (B ∷ []))

pub hopeless_within : (w : View) (A B : List Atom) → ((a : Atom) → In a A → In a B) → hopeless w A ≡ true → hopeless w B ≡ true
hopeless_within w A B h e = hopeless_more w w A B (grown_self w) h e

in_both : (A B C : List Atom) → ((a : Atom) → In a A → In a B) → (a : Atom) → In a (A ++ C) → In a (B ++ C)
in_both A B C h a i = elim (in_append_cases a A C i) [
  | inl e ↦ in_append_left a B C (h a e)
  | inr e ↦ in_append_right a B C e
]

-- a stair that is hopeless after a base is hopeless after one with more atoms
pub ruled_out : (w : View) (base more g : List Atom) (fs : List Bool) → ((a : Atom) → In a base → In a more) → AreJudged w base (stairs g) fs → AreRuledOut w more (stairs g) fs
ruled_out w base more g fs h judged i l e =
    let A = get_or (stairs g) i [] in
    let before : hopeless w (base ++ A) ≡ true = not-false (hopeless w (base ++ A)) (sym (judged_at w base g fs i true judged (omega (arith, l, judged_length w base g fs judged))) ∙ e) in
    hopeless_within w (base ++ A) (more ++ A) (in_both base more A h) before

-- without each `Lacks`, a frozen task's atoms are fewer
pub frozen_brief_is : (log : List (List Atom)) (f : Frozen) → frozen_brief log f ≡ filter is_other (frozen_of log f)
frozen_brief_is log f = sym (filter-append is_other (own_of log f.own) (laid_of log f))

pub frozen_in : (log : List (List Atom)) (f : Frozen) (a : Atom) → In a (frozen_brief log f) → In a (frozen_of log f)
frozen_in log f a i = (filter_in is_other (frozen_of log f) a (subst (λ A. In a A) (frozen_brief_is log f) i)).0

none_step : (w : View) (A B : List Atom) (As : List (List Atom)) (any b : Bool) → hopeless w A ≡ b → (hopeless w A ≡ true → hopeless w B ≡ true) → (not b || any) ≡ false → (any ≡ false → hopeful w As ≡ []) → hopeful w (B ∷ As) ≡ []
none_step w A B As any true e more h rest = ap (λ b. cond (not b) (B ∷ hopeful w As) (hopeful w As)) (more e) ∙ rest h
none_step w A B As any false e more h rest = cc

none_from : (w : View) (base more : List Atom) (S : List (List Atom)) → ((a : Atom) → In a base → In a more) → list_any (λ f. f) (map (λ A. not (hopeless w (base ++ A))) S) ≡ false → hopeful w (map (λ B. more ++ B) S) ≡ []
none_from w base more [] i h = refl
none_from w base more (A ∷ S) i h =
    none_step w (base ++ A) (more ++ A) (map (λ B. more ++ B) S) (list_any (λ f. f) (map (λ A. not (hopeless w (base ++ A))) S)) (hopeless w (base ++ A)) refl (hopeless_within w (base ++ A) (more ++ A) (in_both base more A i)) h (λ k. none_from w base more S i k)

-- if no flag is true, none of the lists goes on, also after a base with more atoms
pub none_judged : (w : View) (base more : List Atom) (S : List (List Atom)) (fs : List Bool) → ((a : Atom) → In a base → In a more) → AreJudged w base S fs → list_any (λ f. f) fs ≡ false → hopeful w (map (λ B. more ++ B) S) ≡ []
none_judged w base more S fs i e h = none_from w base more S i (sym (ap (λ xs. list_any (λ f. f) xs) e) ∙ h)

-- lists of which none goes on open nothing
pub opening_none : (log : List (List Atom)) (next n : ℕ) (w : View) (all As rest : List (List Atom)) (ps : List Pending) → hopeful w As ≡ [] → Opening log next n w all (As ++ rest) ps → Opening log next n w all rest ps
opening_none log next n w all As rest ps h o = record {
  are = o.are;
  tasks = ap (λ Bs. tasks_of log ps ++ tasks_from n Bs) (sym (filter-append (λ A. not (hopeless w A)) As rest ∙ ap (λ Bs. Bs ++ hopeful w rest) h)) ∙ o.tasks;
}

-- at the end of the guards, the flags are those of all stairs, and what follows the base can be cut off
pub judged_all : (w : View) (base g : List Atom) (j : ℕ) (fs : List Bool) → length g ≤ j → AreJudged w base (take j (stairs g)) fs → AreJudged w base (stairs g) fs
judged_all w base g j fs l e = e ∙ ap (λ As. map (λ A. not (hopeless w (base ++ A))) As) (take_all j (stairs g) (omega (arith, l, length-stairs g)))

pub any_true : (fs : List Bool) → list_any (λ f. beq f true) fs ≡ list_any (λ f. f) fs
any_true [] = refl
any_true (true ∷ fs) = refl
any_true (false ∷ fs) = any_true fs

pub base_next : (base gs : List Atom) (j : ℕ) (rest : List (List Atom)) → j < length gs → crossed_from base gs j rest ≡ (base ++ get_or (stairs gs) j []) ∷ crossed_from base gs (j + 1) rest
base_next base gs j rest l = ap (λ S. map (λ B. base ++ B) S ++ rest) (drop_more (stairs gs) j [] (omega (arith, l, length-stairs gs)))

pub base_end : (base gs : List Atom) (j : ℕ) (rest : List (List Atom)) → length gs ≤ j → crossed_from base gs j rest ≡ rest
base_end base gs j rest l = ap (λ S. map (λ B. base ++ B) S ++ rest) (stairs_end gs j l)

pub base_skip : (log : List (List Atom)) (g : List Atom) (next n : ℕ) (w : View) (base : List Atom) (all rest : List (List Atom)) (j : ℕ) (ps : List Pending) → j < length g → hopeless w (base ++ get_or (stairs g) j []) ≡ true →
    Opening (log ++ g ∷ []) next n w all (crossed_from base g j rest) ps → Opening (log ++ g ∷ []) next n w all (crossed_from base g (j + 1) rest) ps
base_skip log g next n w base all rest j ps l h o =
    opening_skip (log ++ g ∷ []) next n w all (crossed_from base g (j + 1) rest) (base ++ get_or (stairs g) j []) ps h
    (subst (λ r. Opening (log ++ g ∷ []) next n w all r ps) (base_next base g j rest l) o)

-- `own` is the base followed by the stair at the index
pub base_more : (log : List (List Atom)) (g : List Atom) (next n : ℕ) (w : View) (base : List Atom) (all rest : List (List Atom)) (j e : ℕ) (own : Own) (ps : List Pending) → length log ≡ e → j < length g → hopeless w (base ++ get_or (stairs g) j []) ≡ false →
    own_of (log ++ g ∷ []) own ≡ base ++ stair_of (log ++ g ∷ []) (record { edition = e; index = j }) → (IsStairOf (log ++ g ∷ []) (record { edition = e; index = j }) → IsOwn (log ++ g ∷ []) own) →
    Opening (log ++ g ∷ []) next n w all (crossed_from base g j rest) ps →
    Opening (log ++ g ∷ []) next (n + 1) w all (crossed_from base g (j + 1) rest) (ps ++ record { number = n; own = own; made = e + 1 } ∷ [])
base_more log g next n w base all rest j e own ps le l h reads stands o =
    let s : Stair = record { edition = e; index = j } in
    let A = base ++ get_or (stairs g) j [] in
    let last = get_or_push log g [] e le in
    let p : Pending = record { number = n; own = own; made = e + 1 } in
    let mine : own_of (log ++ g ∷ []) own ≡ A = reads ∙ ap (λ x. base ++ get_or (stairs x) j []) last in
    let there : IsStairOf (log ++ g ∷ []) s = record {
      edition_in = omega (arith, length_push log g, le);
      index_in = subst (λ x. j < length x) (sym last) l;
    } in
    opening_more (log ++ g ∷ []) next n w all (crossed_from base g (j + 1) rest) A ps p h refl mine (stands there) (omega (arith, length_push log g, le))
    (subst (λ r. Opening (log ++ g ∷ []) next n w all r ps) (base_next base g j rest l) o)

-- the last atom alone, unless the stair is known to be hopeless
pub lead_ends : (w : View) (base g : List Atom) (n j : ℕ) (d : Atom) (fs : List Bool) (hope : Bool) → j < n → n ≤ length g → n ≤ length fs → AreRuledOut w base (stairs g) fs → AreAlone w base g n fs → hope ≡ get_or fs j true →
    (not hope || hopeless w (base ++ negated (get_or g j d) ∷ [])) ≡ hopeless w ((base ++ take j g) ++ negated (get_or g j d) ∷ [])
lead_ends w base g n j d fs true l m k out alone e = sym (alone j d l (sym e)) ∙ ap (λ A. hopeless w A) (sym (stair_next base g j d (omega (arith, l, m))))
lead_ends w base g n j d fs false l m k out alone e = sym (ap (λ A. hopeless w A) (stair_next base g j d (omega (arith, l, m))) ∙ out j (omega (arith, l, k)) (sym e))

pub known_or : (known b : Bool) → (known ≡ true → b ≡ true) → (known || b) ≡ b
known_or true b h = sym (h refl)
known_or false b h = refl
