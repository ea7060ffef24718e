-- An edit, an undo and a redo keep `StaysQuiet`: each pushes a way onto one of the two stacks, and an undo or a redo pops a
-- way off the other stack.
use Rattle.std.proofs.Common.{Bool, List, None, [], ap, arith, eqb, false, inl, inr, length, map, not, refl, subst, sym, true, ℕ, ◌&&◌, ◌+◌, ◌∙◌, ◌∷◌, ◌≡◌, ◌⊎◌}
use Rattle.std.proofs.lemmas.Bool.{and_from, and_parts, both_ways, cond-false, cond-true, eqb-false, eqb-true, ne_eqb, not_from_false, or_cases, or_left, or_right, true≢false}
use Rattle.poly_design.specs.Changes.{inverse_of}
use Rattle.poly_design.specs.declared.change.Change.{Change}
use Rattle.poly_tiling.specs.Puzzle.{View}
use Rattle.poly_tiling.specs.Names.{Grown}
use Rattle.poly_tiling.proofs.Lists.{In}
use Rattle.poly_atom.specs.declared.atom.Atom.{Atom}
use Rattle.poly_atom.specs.Guards.{guards}
use Rattle.poly_atom.specs.Stairs.{stairs}
use Rattle.poly_atom.specs.Hopeless.{hopeless}
use Rattle.poly_atom.proofs.Stays.{hopeless_more}
use Rattle.poly_book.specs.declared.step.Kind.{Kind}
use Rattle.poly_book.specs.declared.step.Kind.TheVariants as kind
use Rattle.poly_book.specs.declared.step.Step.{Step}
use Rattle.poly_book.specs.States.{State}
use Rattle.poly_tasks.specs.Stored.{Way}
use Rattle.poly_book.specs.Ways.{newest, way_back}
use Rattle.poly_tasks.specs.Shelves.{is_kept}
use Rattle.poly_book.specs.Events.{LeadsBy, moved, redone, undone}
use Rattle.poly_book.specs.Trails.{Earlier, Follows, Led, Consistent, Trail, Ways, led_back, trail_redone, trail_undone}
use Rattle.poly_book.specs.Quiet.{HopelessAlong, Falling, StaysQuiet, hopeless_along, frozen_in, owns, quiet_since, stands}
use Rattle.poly_book.proofs.Moves.{way_grown}
use Rattle.poly_book.proofs.Along.{along_at, along_for, falling_below, falling_newest, falling_up, newest_hopeless, newest_stands}
use Rattle.poly_book.proofs.QuietShelves.{frozen_hopeless, no_tasks, quiet_shelf, shelf_hopeless}
use Rattle.poly_book.proofs.Coming.{came, came_from}

-- A change puts its way on top. Lists that were own atoms of pending tasks, or hopeless before the change, are then hopeless
-- along the ways down to that of step m, if `quiet_since` holds of m and the way of step m is there.
pushed : (m : ℕ) (s : State) (w : View) (d : Step) (ways : List Led) (Bs : List (List Atom)) →
    d.pending ≡ length s.pending → Falling (length s.steps + 1) ways →
    (quiet_since m s.steps ≡ true → stands m ways ≡ true → HopelessAlong m ways (owns s.pending)) →
    ((A : List Atom) → In A Bs → In A (owns s.pending) ⊎ (hopeless s.view A ≡ true)) →
    quiet_since m (d ∷ s.steps) ≡ true → stands m (led_back s w ∷ ways) ≡ true → (b : Bool) → eqb (length s.steps + 1) m ≡ b → HopelessAlong m (led_back s w ∷ ways) Bs
pushed m s w d ways Bs n f ih from q h true e =
    let c : eqb d.pending 0 ≡ true = sym (cond-true _ _ _ e) ∙ q in
    let none = no_tasks s.pending (ap (λ k. eqb k 0) (sym n) ∙ c) in (
      λ A i. elim (from A i) [
        | inl j ↦ absurd (subst (λ ts. In A (map (λ t. t.own) ts)) none j)
        | inr j ↦ or_left (hopeless s.view A) (not (eqb (length s.steps + 1) m) && hopeless_along m ways A) j
      ],
      λ k. quiet_shelf s w none,
      λ y. absurd (omega (arith, falling_below (length s.steps + 1) m ways f y, eqb-true _ _ e)),
    )
pushed m s w d ways Bs n f ih from q h false e =
    let c = and_parts d.shelved (quiet_since m s.steps) (sym (cond-false _ _ _ e) ∙ q) in
    let y : stands m ways ≡ true = elim (or_cases (eqb (length s.steps + 1) m) (stands m ways) h) [ inl k ↦ absurd (both_ways _ e k) | inr k ↦ k ] in
    let r = ih c.1 y in (
      λ A i. elim (from A i) [
        | inl j ↦ or_right (hopeless s.view A) (not (eqb (length s.steps + 1) m) && hopeless_along m ways A) (and_from _ _ (not_from_false _ e) (along_at m ways (owns s.pending) r y A j))
        | inr j ↦ or_left (hopeless s.view A) (not (eqb (length s.steps + 1) m) && hopeless_along m ways A) j
      ],
      λ k. absurd (eqb-false _ _ e k),
      λ k. frozen_hopeless m s w ways k r,
    )

-- A change takes the top way. Then the own atoms of the tasks are hopeless along the ways below it down to that of step m, if
-- `quiet_since` holds of m and the way of step m is there.
popped : (m : ℕ) (s : State) (kd : Kind) (xc : Change) (w : View) (b : Led) (ways : List Led) (us rs : List Way) →
    Falling (length s.steps + 1) (b ∷ ways) → Grown b.to w →
    (quiet_since m s.steps ≡ true → stands m (b ∷ ways) ≡ true → HopelessAlong m (b ∷ ways) (owns s.pending)) →
    quiet_since m (moved s kd xc w b.shelf (is_kept b.shelf) us rs).steps ≡ true → stands m ways ≡ true → HopelessAlong m ways (owns (moved s kd xc w b.shelf (is_kept b.shelf) us rs).pending)
popped m s kd xc w b ways us rs f g ih q y =
    let low = falling_below b.made m ways f.1 y in
    let new : eqb (length s.steps + 1) m ≡ false = ne_eqb _ _ (λ e. absurd (omega (arith, f.0, low, e))) in
    let c = and_parts (is_kept b.shelf) (quiet_since m s.steps) (sym (cond-false _ _ _ new) ∙ q) in
    let d = ih c.1 (or_right (eqb b.made m) (stands m ways) y) in
    let below = d.2 y in
    along_for m ways (frozen_in b.shelf) (owns (moved s kd xc w b.shelf (is_kept b.shelf) us rs).pending) below (λ A i. elim (came s kd xc w b.shelf (is_kept b.shelf) us rs A i) [
      | inl j ↦ elim (or_cases (hopeless b.to A) (not (eqb b.made m) && hopeless_along m ways A) (d.0 A j.0)) [
        | inl k ↦ absurd (both_ways (hopeless w A) j.1 (hopeless_more b.to w A A g (λ a x. x) k))
        | inr k ↦ (and_parts (not (eqb b.made m)) (hopeless_along m ways A) k).1
      ]
      | inr j ↦ shelf_hopeless m ways b.shelf (stairs (guards s.view w)) c.0 y below A j
    ])

pub edited_stays_quiet : (s : State) (t : Trail) (x : Change) (w : View) → StaysQuiet s t → StaysQuiet (moved s kind.Edit x w None true (newest 256 (way_back s x w ∷ s.back)) []) (record { back = newest 256 (led_back s w ∷ t.back); forth = [] })
edited_stays_quiet s t x w k =
    let ws = newest 256 (way_back s x w ∷ s.back) in
    let new = moved s kind.Edit x w None true ws [] in
    record {
      back_falls = falling_newest 256 (length new.steps + 1) (led_back s w ∷ t.back) (omega arith, k.back_falls);
      forth_falls = tt;
      back_hopeless = λ m q h. newest_hopeless 256 m (led_back s w ∷ t.back) (owns new.pending) h
          (pushed m s w (record { kind = kind.Edit; change = x; pending = length s.pending; shelved = true }) t.back (owns new.pending) refl k.back_falls (k.back_hopeless m) (came_from s kind.Edit x w None true ws []) q (newest_stands 256 m (led_back s w ∷ t.back) h) _ refl);
      forth_hopeless = λ m q h. absurd (true≢false (sym h));
    }

undone_led : (s : State) (t : Trail) (x : Change) (w : View) (b : Led) (ways : List Led) (ws rs : List Way) → StaysQuiet s t → Grown b.to w → Falling (length s.steps + 1) (b ∷ ways) →
    ((m : ℕ) → quiet_since m s.steps ≡ true → stands m (b ∷ ways) ≡ true → HopelessAlong m (b ∷ ways) (owns s.pending)) →
    StaysQuiet (moved s kind.Undo x w b.shelf (is_kept b.shelf) ws rs) (record { back = ways; forth = led_back s w ∷ t.forth })
undone_led s t x w b ways ws rs k g f ih =
    let new = moved s kind.Undo x w b.shelf (is_kept b.shelf) ws rs in
    record {
      back_falls = falling_up b.made (length new.steps + 1) ways (omega (arith, f.0)) f.1;
      forth_falls = (omega arith, k.forth_falls);
      back_hopeless = λ m q h. popped m s kind.Undo x w b ways ws rs f g (ih m) q h;
      forth_hopeless = λ m q h. pushed m s w (record { kind = kind.Undo; change = x; pending = length s.pending; shelved = is_kept b.shelf }) t.forth (owns new.pending) refl k.forth_falls (k.forth_hopeless m) (came_from s kind.Undo x w b.shelf (is_kept b.shelf) ws rs) q h _ refl;
    }

redone_led : (s : State) (t : Trail) (x : Change) (w : View) (b : Led) (ways : List Led) (ws rs : List Way) → StaysQuiet s t → Grown b.to w → Falling (length s.steps + 1) (b ∷ ways) →
    ((m : ℕ) → quiet_since m s.steps ≡ true → stands m (b ∷ ways) ≡ true → HopelessAlong m (b ∷ ways) (owns s.pending)) →
    StaysQuiet (moved s kind.Redo x w b.shelf (is_kept b.shelf) ws rs) (record { back = newest 256 (led_back s w ∷ t.back); forth = ways })
redone_led s t x w b ways ws rs k g f ih =
    let new = moved s kind.Redo x w b.shelf (is_kept b.shelf) ws rs in
    record {
      back_falls = falling_newest 256 (length new.steps + 1) (led_back s w ∷ t.back) (omega arith, k.back_falls);
      forth_falls = falling_up b.made (length new.steps + 1) ways (omega (arith, f.0)) f.1;
      back_hopeless = λ m q h. newest_hopeless 256 m (led_back s w ∷ t.back) (owns new.pending) h
          (pushed m s w (record { kind = kind.Redo; change = x; pending = length s.pending; shelved = is_kept b.shelf }) t.back (owns new.pending) refl k.back_falls (k.back_hopeless m) (came_from s kind.Redo x w b.shelf (is_kept b.shelf) ws rs) q (newest_stands 256 m (led_back s w ∷ t.back) h) _ refl);
      forth_hopeless = λ m q h. popped m s kind.Redo x w b ways ws rs f g (ih m) q h;
    }

pub undone_stays_quiet : (s : State) (t : Trail) (w : View) (ws : List Way) (us : List Led) → Consistent s t → StaysQuiet s t → Follows inverse_of s.design us ws → Ways s.view us → Earlier s.view us → LeadsBy s inverse_of ws w → Falling (length s.steps + 1) us →
    ((m : ℕ) → quiet_since m s.steps ≡ true → stands m us ≡ true → HopelessAlong m us (owns s.pending)) → StaysQuiet (undone s w ws) (trail_undone s w us t)
undone_stays_quiet s t w [] [] p k l v e g f ih = k
undone_stays_quiet s t w [] (u ∷ us) p k l v e g f ih = absurd l
undone_stays_quiet s t w (b ∷ ws) [] p k l v e g f ih = absurd l
undone_stays_quiet s t w (b ∷ ws) (u ∷ us) p k l v e g f ih =
    let rs = way_back s b.change w ∷ s.forth in
    subst (λ h. StaysQuiet (moved s kind.Undo (inverse_of b.change) w h (is_kept h) ws rs) (record { back = us; forth = led_back s w ∷ t.forth })) l.0.shelf
    (undone_led s t (inverse_of b.change) w u us ws rs k (way_grown s inverse_of w u us b ws e v l g) f ih)

pub redone_stays_quiet : (s : State) (t : Trail) (w : View) (ws : List Way) (us : List Led) → Consistent s t → StaysQuiet s t → Follows (λ x. x) s.design us ws → Ways s.view us → Earlier s.view us → LeadsBy s (λ x. x) ws w → Falling (length s.steps + 1) us →
    ((m : ℕ) → quiet_since m s.steps ≡ true → stands m us ≡ true → HopelessAlong m us (owns s.pending)) → StaysQuiet (redone s w ws) (trail_redone s w us t)
redone_stays_quiet s t w [] [] p k l v e g f ih = k
redone_stays_quiet s t w [] (u ∷ us) p k l v e g f ih = absurd l
redone_stays_quiet s t w (b ∷ ws) [] p k l v e g f ih = absurd l
redone_stays_quiet s t w (b ∷ ws) (u ∷ us) p k l v e g f ih =
    let bs = newest 256 (way_back s b.change w ∷ s.back) in
    subst (λ h. StaysQuiet (moved s kind.Redo b.change w h (is_kept h) bs ws) (record { back = newest 256 (led_back s w ∷ t.back); forth = us })) l.0.shelf
    (redone_led s t b.change w u us bs ws k (way_grown s (λ x. x) w u us b ws e v l g) f ih)
