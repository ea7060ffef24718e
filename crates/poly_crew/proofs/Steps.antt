-- The rule of a lane holds at the start, and each step keeps it: a push, a pop, a steal, the split for a thief, the join of a
-- thief that came back. Two further lemmas say what a pop that finds nothing, and a look at the length, learn from the rule.
use Rattle.std.proofs.Common.{◌≡◌, ◌≢◌, ◌≤◌, ℕ, zero, suc, ◌+◌, ◌-◌, ◌++◌, Bool, true, false, true≢false, List, [], ◌∷◌, length, append-nil, refl, sym, subst, ap, ◌∙◌, ⊎_elim, set, arith}
use mathlib.Core.Option.{some, some-ne-none, some-injective}
use lib.ListN.{get_elem?}
use Rattle.std.proofs.lemmas.List.{append_assoc}
use Rattle.crossbeam_deque.specs.Tasks.{Pushes, Takes, Forks, Merges, Learns, Finds}
use Rattle.crossbeam_deque.proofs.Lists.{at_set, at_snoc}
use Rattle.poly_crew.specs.declared.rule.HandleView.{HandleView}
use Rattle.poly_crew.specs.Hints.{weigh, IsNext, SameHints, Splits}
use Rattle.poly_crew.specs.Rule.{handle_of, Fits, IsKept}
use Rattle.poly_crew.proofs.Sums.{weigh-append, weigh-ones, total-set, total-push, total_has, total_lone}

same_view : {owner out by : ℕ} {log : List ℕ} (v w : HandleView) → v ≡ w → Fits owner log out by v → Fits owner log out by w
same_view {owner} {out} {by} {log} v w e = subst (λ u. Fits owner log out by u) e

-- after the view at the index `port` is replaced, all views fit if the new one does and the others do
fits_set : (owner : ℕ) (log : List ℕ) (out : ℕ) (views : List HandleView) (port : ℕ) (w : HandleView) → Fits owner log out port w
    → ((by : ℕ) (u : HandleView) → by ≢ port → get_elem? views by ≡ some u → Fits owner log out by u)
    → (by : ℕ) (u : HandleView) → get_elem? (set views port w) by ≡ some u → Fits owner log out by u
fits_set owner log out views port w mine others by u at = ⊎_elim
    (λ (t : (by ≡ port) × (w ≡ u)). same_view w u t.1 (subst (λ n. Fits owner log out n w) (sym t.0) mine))
    (λ (t : (by ≢ port) × (get_elem? views by ≡ some u)). others by u t.0 t.1)
    (at_set views port by w u at)

-- if a view that isn't the owner's fits, it still fits whatever else is pushed, and however many thieves are out
fits_other : {owner : ℕ} {log : List ℕ} {out by : ℕ} (log' : List ℕ) (out' : ℕ) (u : HandleView) → by ≢ owner → Fits owner log out by u → Fits owner log' out' by u
fits_other log' out' u apart fits = record { whole = λ p. absurd (apart (fits.whole p).0); spent = fits.spent }

pub begins : IsKept [] (handle_of true 0 0 [] [] ∷ [])
begins = record { owner = 0; log = []; gone = []; out = 0; split = refl; taken = λ h. refl; thieves = refl; fits = go }
  where
    go : (by : ℕ) (v : HandleView) → get_elem? (handle_of true 0 0 [] [] ∷ []) by ≡ some v → Fits 0 [] 0 by v
    go zero v at = same_view (handle_of true 0 0 [] []) v (some-injective _ _ at) (record { whole = λ _. (refl, refl, refl); spent = λ p. absurd (true≢false p) })
    go (suc by) v at = absurd (some-ne-none v (sym at))

pub pushes : (port : ℕ) (v : HandleView) (xs : List ℕ) → v.is_owner ≡ true → Pushes IsKept port v xs (λ w. w ≡ handle_of v.is_owner v.out v.thief (v.pushed ++ xs) v.taken)
pushes port v xs is_owner items views kept at =
    let w : HandleView = handle_of v.is_owner v.out v.thief (v.pushed ++ xs) v.taken in
    let mine = (kept.fits port v at).whole is_owner in
    let log : List ℕ = kept.log ++ xs in (
      w,
      record {
        owner = kept.owner;
        log = log;
        gone = kept.gone;
        out = kept.out;
        split = ap (λ l. l ++ xs) kept.split ∙ append_assoc kept.gone items xs;
        taken = λ h. let s = total-set (λ u. weigh h u.taken) views port v w at in let p = kept.taken h in omega arith;
        thieves = let s = total-set (λ u. u.thief) views port v w at in let p = kept.thieves in omega arith;
        fits = fits_set kept.owner log kept.out views port w
            (record { whole = λ _. (mine.0, ap (λ l. l ++ xs) mine.1, mine.2); spent = λ isnt. absurd (true≢false (sym is_owner ∙ isnt)) })
            (λ by u apart there. fits_other log kept.out u (λ is. apart (is ∙ sym mine.0)) (kept.fits by u there));
      },
      refl,
    )

-- if a view of the lane itself or of a thief that is still out takes the hints at the front, the rule still holds
takes_front : (port : ℕ) (v : HandleView) (xs items : List ℕ) (views : List HandleView) → (v.is_owner ≡ false → v.thief ≢ 0) → (kept : IsKept (xs ++ items) views) → get_elem? views port ≡ some v
    → IsKept items (set views port (handle_of v.is_owner v.out v.thief v.pushed (v.taken ++ xs)))
takes_front port v xs items views live kept at =
    let w : HandleView = handle_of v.is_owner v.out v.thief v.pushed (v.taken ++ xs) in
    let mine = kept.fits port v at in
    record {
      owner = kept.owner;
      log = kept.log;
      gone = kept.gone ++ xs;
      out = kept.out;
      split = kept.split ∙ sym (append_assoc kept.gone xs items);
      taken = λ h. let s = total-set (λ u. weigh h u.taken) views port v w at in let p = kept.taken h in omega (arith, weigh-append h kept.gone xs, weigh-append h v.taken xs);
      thieves = let s = total-set (λ u. u.thief) views port v w at in let p = kept.thieves in omega arith;
      fits = fits_set kept.owner kept.log kept.out views port w
          (record { whole = mine.whole; spent = λ isnt none. absurd (live isnt none) })
          (λ by u apart there. kept.fits by u there);
    }

pub steals : (port : ℕ) (v : HandleView) (most : ℕ) → (v.is_owner ≡ false → v.thief ≢ 0) → Takes IsKept port v most (λ xs w. w ≡ handle_of v.is_owner v.out v.thief v.pushed (v.taken ++ xs))
steals port v most live xs items views some_left few kept at = (handle_of v.is_owner v.out v.thief v.pushed (v.taken ++ xs), takes_front port v xs items views live kept at, refl)

-- no view has taken more hints than have left the lane
behind : (port : ℕ) (v : HandleView) (items : List ℕ) (views : List HandleView) (kept : IsKept items views) → get_elem? views port ≡ some v → length v.taken ≤ length kept.gone
behind port v items views kept at =
    let has = total_has (λ u. weigh (λ _. 1) u.taken) views port v at in
    let all = kept.taken (λ _. 1) in
    omega (arith, weigh-ones v.taken, weigh-ones kept.gone)

-- with no thief out, the hints that left are, in some order, those that the lane's own view has taken
alone : (port : ℕ) (v : HandleView) (items : List ℕ) (views : List HandleView) → v.is_owner ≡ true → (kept : IsKept items views) → get_elem? views port ≡ some v → v.out ≡ 0 → SameHints kept.gone v.taken
alone port v items views is_owner kept at none h =
    let mine = (kept.fits port v at).whole is_owner in
    let other : (by : ℕ) (u : HandleView) → by ≢ port → get_elem? views by ≡ some u → weigh h u.taken ≡ 0 = λ by u apart there.
    let fits = kept.fits by u there in
    let thieves = total_has (λ w. w.thief) views by u there in
    let out = kept.thieves in
    let same = mine.2 in
    let no_thief : u.thief ≡ 0 = omega arith in
    ap (weigh h) (fits.spent (not_owner u.is_owner (λ p. apart ((fits.whole p).0 ∙ sym mine.0))) no_thief) in
    kept.taken h ∙ total_lone (λ u. weigh h u.taken) views port v at other
  where
    not_owner : (b : Bool) → (b ≢ true) → b ≡ false
    not_owner true isnt = absurd (isnt refl)
    not_owner false isnt = refl

pub pops : (port : ℕ) (v : HandleView) (most : ℕ) → v.is_owner ≡ true
    → Takes IsKept port v most (λ xs w. (w ≡ handle_of v.is_owner v.out v.thief v.pushed (v.taken ++ xs)) × IsNext v.pushed v.taken v.out xs)
pops port v most is_owner xs items views some_left few kept at =
    let mine = (kept.fits port v at).whole is_owner in (
      handle_of v.is_owner v.out v.thief v.pushed (v.taken ++ xs),
      takes_front port v xs items views (λ isnt. absurd (true≢false (sym is_owner ∙ isnt))) kept at,
      (
        refl,
        record {
          before = kept.gone;
          after = items;
          split = mine.1 ∙ kept.split;
          behind = behind port v (xs ++ items) views kept at;
          alone = alone port v (xs ++ items) views is_owner kept at;
        },
      ),
    )

pub finds_none : (port : ℕ) (v : HandleView) → v.is_owner ≡ true → Finds IsKept port v (v.out ≡ 0 → SameHints v.pushed v.taken)
finds_none port v is_owner views kept at none =
    let mine = (kept.fits port v at).whole is_owner in
    subst (λ l. SameHints l v.taken) (sym (mine.1 ∙ kept.split ∙ append-nil kept.gone)) (alone port v [] views is_owner kept at none)

pub counts : (port : ℕ) (v : HandleView) → v.is_owner ≡ true → Learns IsKept port v (λ items. Splits v.pushed v.taken v.out items)
counts port v is_owner items views kept at =
    record {
      gone = kept.gone;
      split = ((kept.fits port v at).whole is_owner).1 ∙ kept.split;
      behind = behind port v items views kept at;
      alone = alone port v items views is_owner kept at;
    }

pub splits_off : (port : ℕ) (v : HandleView) → v.is_owner ≡ true → Forks IsKept port v (handle_of v.is_owner (v.out + 1) v.thief v.pushed v.taken) (handle_of false 0 1 [] [])
splits_off port v is_owner items views kept at =
    let left : HandleView = handle_of v.is_owner (v.out + 1) v.thief v.pushed v.taken in
    let right : HandleView = handle_of false 0 1 [] [] in
    let mine = (kept.fits port v at).whole is_owner in
    let old : (by : ℕ) (u : HandleView) → get_elem? (set views port left) by ≡ some u → Fits kept.owner kept.log (kept.out + 1) by u = fits_set kept.owner kept.log (kept.out + 1) views port left
    (record { whole = λ _. (mine.0, mine.1, ap (λ n. n + 1) mine.2); spent = λ isnt. absurd (true≢false (sym is_owner ∙ isnt)) })
    (λ by u apart there. fits_other kept.log (kept.out + 1) u (λ is. apart (is ∙ sym mine.0)) (kept.fits by u there)) in
    record {
      owner = kept.owner;
      log = kept.log;
      gone = kept.gone;
      out = kept.out + 1;
      split = kept.split;
      taken = λ h.
          let s = total-set (λ u. weigh h u.taken) views port v left at in
          let p = kept.taken h in
          omega (arith, total-push (λ u. weigh h u.taken) (set views port left) right);
      thieves =
          let s = total-set (λ u. u.thief) views port v left at in
          let p = kept.thieves in
          omega (arith, total-push (λ u. u.thief) (set views port left) right);
      fits = λ by u there. ⊎_elim
          (λ was. old by u was)
          (λ (is : right ≡ u). same_view right u is (record { whole = λ p. absurd (true≢false (sym p)); spent = λ _ _. refl }))
          (at_snoc (set views port left) right u by there);
    }

pub joins_back : (port : ℕ) (v : HandleView) (other : ℕ) (w : HandleView) → v.is_owner ≡ true → w.is_owner ≡ false → w.thief ≡ 1
    → Merges IsKept port v other w (handle_of v.is_owner (v.out - 1) v.thief v.pushed (v.taken ++ w.taken)) (handle_of false 0 0 [] [])
joins_back port v other w is_owner no_owner is_thief items views kept at apart there =
    let both : HandleView = handle_of v.is_owner (v.out - 1) v.thief v.pushed (v.taken ++ w.taken) in
    let spent : HandleView = handle_of false 0 0 [] [] in
    let mine = (kept.fits port v at).whole is_owner in
    let out : ℕ = kept.out - 1 in
    let one : (by : ℕ) (u : HandleView) → get_elem? (set views port both) by ≡ some u → Fits kept.owner kept.log out by u = fits_set kept.owner kept.log out views port both
    (record { whole = λ _. (mine.0, mine.1, ap (λ n. n - 1) mine.2); spent = λ isnt. absurd (true≢false (sym is_owner ∙ isnt)) })
    (λ by u far there. fits_other kept.log out u (λ is. far (is ∙ sym mine.0)) (kept.fits by u there)) in
    record {
      owner = kept.owner;
      log = kept.log;
      gone = kept.gone;
      out = out;
      split = kept.split;
      taken = λ h.
          let s = total-set (λ u. weigh h u.taken) views port v both at in
          let t = total-set (λ u. weigh h u.taken) (set views port both) other w spent there in
          let p = kept.taken h in
          omega (arith, weigh-append h v.taken w.taken);
      thieves =
          let s = total-set (λ u. u.thief) views port v both at in
          let t = total-set (λ u. u.thief) (set views port both) other w spent there in
          let p = kept.thieves in
          omega arith;
      fits = fits_set kept.owner kept.log out (set views port both) other spent
          (record { whole = λ p. absurd (true≢false (sym p)); spent = λ _ _. refl })
          (λ by u far there. one by u there);
    }
