-- The steps of a sweep: an arm, the next option, and the end.
use Rattle.std.proofs.Common.{◌≡◌, ℕ, ◌+◌, ◌-◌, ◌<◌, ◌≤◌, ◌&&◌, not, true, List, [], ◌∷◌, ◌++◌, refl, sym, ap, subst, ◌∙◌, arith, length, length-append, map, take, drop, get_or}
use Rattle.std.specs.List.{list_all}
use Rattle.std.proofs.lemmas.List.{get_or-drop, length-drop, take_all, take-append-le}
use Rattle.std.proofs.lemmas.Grind.{get_or_default_zero}
use Rattle.poly_atom.specs.declared.atom.Atom.{Atom}
use Rattle.poly_atom.specs.declared.atom.Atom.TheVariants.{Has, Lacks}
use Rattle.poly_tiling.specs.declared.item.Item.{Item}
use Rattle.poly_tiling.specs.Lists.{mem, distinct}
use Rattle.poly_report.specs.Trees.{Finds}
use Rattle.poly_frame.specs.Open.{open_in}
use Rattle.poly_report.specs.Leaves.{tilings}
use Rattle.poly_frame.specs.Walk.{Walk, with_step, step_back, is_due, is_open, is_option}
use Rattle.poly_frame.proofs.Back.{step_undone}
use Rattle.poly_search.specs.Walked.{past}
use Rattle.poly_search.specs.Sweeps.{Swept, IsLighter, Partly}
use Rattle.poly_search.proofs.Swept.{partly_swept, partly_lighter, found_swept, item_swept, option_behind, behind_more, behind}

-- taking a placement, undoing that step and then leaving the placement out is the same as only leaving it out
pub left_is : (w wp wq wb wl : Walk) (p : ℕ) → wp ≡ with_step w (Has p) → wq ≡ wp → wb ≡ step_back wq → wl ≡ with_step wb (Lacks p) → wl ≡ with_step w (Lacks p)
left_is w wp wq wb wl p ep eq eb el = el ∙ ap (λ x. with_step x (Lacks p)) (eb ∙ ap step_back (eq ∙ ep) ∙ step_undone w (Has p))

-- the list has each option of the item once, and nothing else
abbrev pub Options : Walk → Item → List ℕ → Type 0
Options w i ps = (distinct ps ≡ true) × ((p : ℕ) → mem ps p ≡ (mem w.scene.live p && is_option w i p))

pub option_is : (xs ys : List ℕ) (from at p : ℕ) → from ≤ at → at < length xs → ys ≡ xs → p ≡ get_or ys at p → p ≡ get_or (drop from xs) (at - from) 0
option_is xs ys from at p low lt same e =
    let place : at ≡ from + (at - from) = omega arith in
    e ∙ ap (λ zs. get_or zs at p) same ∙ get_or_default_zero xs at p lt ∙ ap (λ n. get_or xs n 0) place ∙ sym (get_or-drop from xs (at - from) 0)

-- the next option is a placement that is open after the options before it are left out
pub option_opens : (w wl : Walk) (i : Item) (xs ys : List ℕ) (from at p : ℕ) → from ≤ at → at < length xs → ys ≡ xs → p ≡ get_or ys at p → Options w i (drop from xs) → wl ≡ past w (take (at - from) (drop from xs)) →
    (mem wl.scene.live p ≡ true) × (is_open wl p ≡ true)
option_opens w wl i xs ys from at p low lt same e opts path =
    let ps = drop from xs in
    let j = at - from in
    let here : j < length ps = omega (arith, length-drop from xs) in
    let o = option_behind w.scene w.atoms i ps j here opts.0 opts.1 in
    let q = option_is xs ys from at p low lt same e in (
      subst (λ (x : Walk). mem x.scene.live p ≡ true) (sym path) (subst (λ n. mem w.scene.live n ≡ true) (sym q) o.0),
      subst (λ (x : Walk). is_open x p ≡ true) (sym path) (subst (λ n. open_in w.scene (behind w.atoms (take j ps)) n ≡ true) (sym q) o.1),
    )

-- one more option is left out
pub passed_more : (w wl wn : Walk) (xs ys : List ℕ) (from at p : ℕ) → from ≤ at → at < length xs → ys ≡ xs → p ≡ get_or ys at p → wl ≡ past w (take (at - from) (drop from xs)) → wn ≡ with_step wl (Lacks p) → wn ≡ past w (take (at + 1 - from) (drop from xs))
passed_more w wl wn xs ys from at p low lt same e path step =
    let ps = drop from xs in
    let j = at - from in
    let here : j < length ps = omega (arith, length-drop from xs) in
    let next : j + 1 ≡ at + 1 - from = omega arith in
    step ∙ ap (λ x. with_step x (Lacks p)) path ∙ ap (λ n. with_step (past w (take j ps)) (Lacks n)) (option_is xs ys from at p low lt same e)
    ∙ ap (λ B. record w { atoms = B }) (sym (behind_more w.atoms ps j here)) ∙ ap (λ n. past w (take n ps)) next

-- the tilings with one more option were swept
pub option_partly : (w wl : Walk) (xs ys : List ℕ) (from at p : ℕ) (found found1 : List (List ℕ)) (rests rests1 : List (List Atom)) → from ≤ at → at < length xs → ys ≡ xs → p ≡ get_or ys at p → wl ≡ past w (take (at - from) (drop from xs)) →
    Partly wl.scene wl.atoms (wl.atoms ++ Lacks p ∷ []) found found1 rests rests1 →
    Partly w.scene (behind w.atoms (take (at - from) (drop from xs))) (behind w.atoms (take (at + 1 - from) (drop from xs))) found found1 rests rests1
option_partly w wl xs ys from at p found found1 rests rests1 low lt same e path part =
    let before = past w (take (at - from) (drop from xs)) in
    let here = subst (λ (x : Walk). Partly x.scene x.atoms (x.atoms ++ Lacks p ∷ []) found found1 rests rests1) path part in
    subst (λ (x : Walk). Partly w.scene before.atoms x.atoms found found1 rests rests1) (passed_more w before (with_step before (Lacks p)) xs ys from at p low lt same e refl refl) here

-- after the last option, the whole family was swept
pub options_end : (w : Walk) (i : Item) (xs : List ℕ) (from at : ℕ) (found found1 : List (List ℕ)) (rests rests1 : List (List Atom)) → length xs ≤ at → distinct w.scene.live ≡ true → is_due w i ≡ true → Options w i (drop from xs) →
    Partly w.scene w.atoms (behind w.atoms (take (at - from) (drop from xs))) found found1 rests rests1 → Swept w.scene w.atoms found found1 rests rests1 × IsLighter w.scene w.atoms rests rests1
options_end w i xs from at found found1 rests rests1 over d due opts part =
    let ps = drop from xs in
    let few : length ps ≤ at - from = omega (arith, length-drop from xs) in
    let here = subst (λ qs. Partly w.scene w.atoms (behind w.atoms qs) found found1 rests rests1) (take_all (at - from) ps few) part in
    let none = item_swept w.scene w.atoms i ps found1 rests1 d due opts.1 in (
      partly_swept w.scene w.atoms (behind w.atoms ps) found found1 found1 rests rests1 rests1 here none.0,
      partly_lighter w.scene w.atoms (behind w.atoms ps) found found1 rests rests1 rests1 here none.1,
    )

-- after the last open placement, the whole family was swept
pub open_end : (w wl : Walk) (found found1 found2 : List (List ℕ)) (rests rests1 rests2 : List (List Atom)) → wl ≡ record w { atoms = wl.atoms } → list_all (λ p. not (is_open wl p)) wl.scene.live ≡ true →
    found2 ≡ found1 ++ tilings wl.scene wl.atoms Finds → rests2 ≡ rests1 → Partly w.scene w.atoms wl.atoms found found1 rests rests1 → Swept w.scene w.atoms found found2 rests rests2 × IsLighter w.scene w.atoms rests rests2
open_end w wl found found1 found2 rests rests1 rests2 path none ef er part =
    let v = w.scene in
    let B = wl.atoms in
    let h = subst (λ (x : Walk). list_all (λ p. not (is_open x p)) x.scene.live ≡ true) path none in
    let more = subst (λ (x : Walk). found2 ≡ found1 ++ tilings x.scene x.atoms Finds) path ef in
    let last = found_swept v B found1 found2 rests1 rests2 h more er in (
      partly_swept v w.atoms B found found1 found2 rests rests1 rests2 part last.0,
      partly_lighter v w.atoms B found found1 rests rests1 rests2 part last.1,
    )

-- one more step keeps the atoms at the front of the list
pub front_kept : (A B C : List Atom) (a : Atom) → take (length A) B ≡ A → length A ≤ length B → C ≡ B ++ a ∷ [] → take (length A) C ≡ A
front_kept A B C a h l e = ap (take (length A)) e ∙ take-append-le (length A) B (a ∷ []) l ∙ h

pub passed_begun : (w wl : Walk) (ps : List ℕ) → wl ≡ past w ps → w.given ≤ length w.atoms → wl.given ≤ length wl.atoms
passed_begun w wl ps e h = omega (arith, ap (λ (x : Walk). x.given) e, ap (λ (x : Walk). length x.atoms) e, length-append w.atoms (map (λ q. Lacks q) ps))
