use Rattle.std.proofs.Common.{Err, List, ap, false, refl, subst, sym, ℕ, ◌++◌, ◌∙◌, ◌≡◌}
use Rattle.std.specs.List.{Contains}
use Rattle.std.specs.List.Sorted.{IsPermutation}
use Rattle.std.specs.Prelude.{filter, not, slice_index_or}
use Rattle.poly_design.specs.declared.placement.Placement.{Placement}
use Rattle.poly_place.specs.Interned.{AreNumbersOf, GoesOnWith}
use Rattle.poly_place.specs.Numbered.{numbered_view}
use Rattle.poly_place.proofs.Found.{found_numbers}
use Rattle.poly_place.proofs.Numbers.{goes_by, goes_none, goes_twice}
use Rattle.poly_place.proofs.Ordered.{has_number, order_none, order_pins, order_places}
use Rattle.poly_place.proofs.Righted.{right_from}
use Rattle.poly_place.proofs.RunOut.{passed_on, spent_pins, spent_places}
use Rattle.poly_place.specs.Touched.{AreInOrder}
use Rattle.poly_place.proofs.Updated.{kept_up, numbers_up, updated_places, unmarked_in}
use Rattle.poly_place.proofs.update.updated.Goals as goal

pub returns-in_err-fresh-clause-spent : goal.returns-in_err-fresh-clause-spent
returns-in_err-fresh-clause-spent c = λ s.
    let same = passed_on c.from_residual-in_err-fresh.result c.in_err-fresh.field-0.0 c.from_residual-in_err-fresh.ensures.1 s in
    spent_places c.args.after.now c.args.names.now c.deref-2.result.now
    (λ q h. ((c.in_ok-found.ensures.ok.exact q).0 (subst (λ (l : List Placement). Contains l q) c.deref-2.ensures.value h)).0)
    (c.in_err-fresh.ensures.spent (ap (λ x. Err x) same))

pub returns-in_err-pins-clause-spent : goal.returns-in_err-pins-clause-spent
returns-in_err-pins-clause-spent c = λ s.
    let same = passed_on c.from_residual-in_err-pins.result c.in_err-pins.field-0.0 c.from_residual-in_err-pins.ensures.1 s in
    spent_pins c.args.after.now c.args.names.now c.give_all.new.self c.deref-2.result.now c.deref-5.result.now
    (λ q h. ((c.in_ok-found.ensures.ok.exact q).0 (subst (λ (l : List Placement). Contains l q) c.deref-2.ensures.value h)).0)
    (λ q h. (c.in_ok-pinned.ensures.ok.exact q).0 (subst (λ (l : List Placement). Contains l q) c.deref-5.ensures.value h))
    c.in_ok-fresh.ensures.gives (c.in_err-pins.ensures.spent (ap (λ x. Err x) same))

pub merged-requires-clause-kept_up : goal.merged-requires-clause-kept_up
merged-requires-clause-kept_up c =
    let v = numbered_view c.args.names.now c.args.numbered.now in
    let marks = c.args.marks.now in
    let between = c.give_all.new.self in
    let kept : c.deref-3.result.now ≡ unmarked_in v marks =
    c.deref-3.ensures.value ∙ c.in_ok-kept.ensures ∙ ap (λ (l : List ℕ). filter (λ n. not (slice_index_or marks n false)) l) c.deref.ensures.value in
    subst (λ (l : List ℕ). AreInOrder between l) (sym kept) (kept_up v between c.deref-2.result.now marks c.requires c.in_ok-fresh.ensures.gives)

pub merged-requires-clause-fresh_up : goal.merged-requires-clause-fresh_up
merged-requires-clause-fresh_up c =
    let between = c.give_all.new.self in
    subst (λ (l : List ℕ). AreInOrder between l) (sym c.deref-4.ensures.value)
    (numbers_up between c.in_ok-fresh.fresh.items c.in_ok-found.found.items (subst (λ (l : List Placement). AreNumbersOf between c.in_ok-fresh.fresh.items l) c.deref-2.ensures.value c.in_ok-fresh.ensures.ok) c.in_ok-found.ensures.ok.ascending)

pub returns-clause-right : goal.returns-clause-right
returns-clause-right c = λ d s m is.
    let w = c.requires in
    let v = numbered_view c.args.names.now c.args.numbered.now in
    let x = c.args.change.now in
    let after = c.args.after.now in
    let between = c.give_all.new.self in
    let marks = c.args.marks.now in
    let t = updated_places v d after x marks between c.in_ok-kept.kept.items c.in_ok-fresh.fresh.items c.in_ok-live.live.items c.in_ok-found.found.items w s m is
    (c.in_ok-kept.ensures ∙ ap (λ (l : List ℕ). filter (λ n. not (slice_index_or marks n false)) l) c.deref.ensures.value)
    (subst (λ (l : List Placement). GoesOnWith c.args.names.now l between) c.deref-2.ensures.value c.in_ok-fresh.ensures.gives)
    (subst (λ (l : List Placement). AreNumbersOf between c.in_ok-fresh.fresh.items l) c.deref-2.ensures.value c.in_ok-fresh.ensures.ok)
    c.in_ok-found.ensures.ok c.in_ok-fresh.ensures.numbered.apart
    (subst (λ (l : List ℕ). IsPermutation (l ++ c.in_ok-fresh.fresh.items) c.in_ok-live.live.items) c.deref-3.ensures.value
    (subst (λ (l : List ℕ). IsPermutation (c.deref-3.result.now ++ l) c.in_ok-live.live.items) c.deref-4.ensures.value c.in_ok-live.ensures.same))
    c.in_ok-live.ensures.sorted in
    right_from after t.0 c.in_ok-pinned.pinned.items c.in_ok-bounds.bounds.items between c.in_ok-pins.ensures.gives.more c.give_all-2.new.self c.in_ok-live.live.items c.in_ok-pins.pins.items
    (record {
      design = c.in_ok-pinned.ensures.design;
      places = t.2;
      pins = c.in_ok-pinned.ensures.ok;
      bounds = c.in_ok-bounds.ensures.ok;
      small = c.in_ok-bounds.ensures.small;
      few = c.in_ok-pinned.ensures.design.few_placements t.0 t.2.ascending (λ p h. (t.2.exact p).0 h);
      few_pins = c.in_ok-pinned.ensures.few;
    })
    c.in_ok-pins.ensures.numbered t.1 c.in_ok-pins.ensures.gives.appended
    (subst (λ (l : List Placement). AreNumbersOf c.give_all-2.new.self c.in_ok-pins.pins.items l) c.deref-5.ensures.value c.in_ok-pins.ensures.ok)

pub returns-clause-found : goal.returns-clause-found
returns-clause-found c = λ m.
    let w = c.requires in
    let v = numbered_view c.args.names.now c.args.numbered.now in
    let marks = c.args.marks.now in
    let between = c.give_all.new.self in
    found_numbers v (record { placements = c.give_all-2.new.self; live = c.in_ok-live.live.items; bounds = c.in_ok-bounds.bounds.items; pins = c.in_ok-pins.pins.items }) c.args.change.now marks between c.in_ok-pins.ensures.gives.more c.in_ok-kept.kept.items c.in_ok-fresh.fresh.items c.in_ok-found.found.items w m
    (c.in_ok-kept.ensures ∙ ap (λ (l : List ℕ). filter (λ n. not (slice_index_or marks n false)) l) c.deref.ensures.value)
    (subst (λ (l : List Placement). GoesOnWith c.args.names.now l between) c.deref-2.ensures.value c.in_ok-fresh.ensures.gives)
    c.in_ok-pins.ensures.gives.appended
    (subst (λ (l : List Placement). AreNumbersOf between c.in_ok-fresh.fresh.items l) c.deref-2.ensures.value c.in_ok-fresh.ensures.ok)
    c.in_ok-found.ensures.ok
    (subst (λ (l : List ℕ). IsPermutation (l ++ c.in_ok-fresh.fresh.items) c.in_ok-live.live.items) c.deref-3.ensures.value
    (subst (λ (l : List ℕ). IsPermutation (c.deref-3.result.now ++ l) c.in_ok-live.live.items) c.deref-4.ensures.value c.in_ok-live.ensures.same))

pub returns-in_err-found-clause-order : goal.returns-in_err-found-clause-order
returns-in_err-found-clause-order c = λ d s m is. order_none c.args.after.now c.args.names.now c.args.names.now refl

pub returns-in_err-pinned-clause-order : goal.returns-in_err-pinned-clause-order
returns-in_err-pinned-clause-order c = λ d s m is. order_none c.args.after.now c.args.names.now c.args.names.now refl

pub returns-in_err-bounds-clause-order : goal.returns-in_err-bounds-clause-order
returns-in_err-bounds-clause-order c = λ d s m is. order_none c.args.after.now c.args.names.now c.args.names.now refl

pub returns-in_err-kept-clause-order : goal.returns-in_err-kept-clause-order
returns-in_err-kept-clause-order c = λ d s m is. order_none c.args.after.now c.args.names.now c.args.names.now refl

pub returns-in_err-live-clause-order : goal.returns-in_err-live-clause-order
returns-in_err-live-clause-order c = λ d s m is.
    order_places c.args.after.now c.in_ok-found.found.items c.args.names.now c.give_all.new.self c.give_all.new.self c.in_ok-found.ensures.ok.ascending (λ p h. ((c.in_ok-found.ensures.ok.exact p).0 h).0)
    (subst (λ (l : List Placement). GoesOnWith c.args.names.now l c.give_all.new.self) c.deref-2.ensures.value c.in_ok-fresh.ensures.gives) refl

pub returns-in_err-fresh-clause-order : goal.returns-in_err-fresh-clause-order
returns-in_err-fresh-clause-order c = λ d s m is. order_none c.args.after.now c.args.names.now c.give_all.new.self c.in_err-fresh.ensures.err

pub returns-in_err-pins-clause-order : goal.returns-in_err-pins-clause-order
returns-in_err-pins-clause-order c = λ d s m is.
    order_places c.args.after.now c.in_ok-found.found.items c.args.names.now c.give_all.new.self c.give_all-2.new.self c.in_ok-found.ensures.ok.ascending (λ p h. ((c.in_ok-found.ensures.ok.exact p).0 h).0)
    (subst (λ (l : List Placement). GoesOnWith c.args.names.now l c.give_all.new.self) c.deref-2.ensures.value c.in_ok-fresh.ensures.gives) c.in_err-pins.ensures.err

pub returns-clause-order : goal.returns-clause-order
returns-clause-order c = λ d s m is.
    let w = c.requires in
    let v = numbered_view c.args.names.now c.args.numbered.now in
    let x = c.args.change.now in
    let after = c.args.after.now in
    let between = c.give_all.new.self in
    let marks = c.args.marks.now in
    let t = updated_places v d after x marks between c.in_ok-kept.kept.items c.in_ok-fresh.fresh.items c.in_ok-live.live.items c.in_ok-found.found.items w s m is
    (c.in_ok-kept.ensures ∙ ap (λ (l : List ℕ). filter (λ n. not (slice_index_or marks n false)) l) c.deref.ensures.value)
    (subst (λ (l : List Placement). GoesOnWith c.args.names.now l between) c.deref-2.ensures.value c.in_ok-fresh.ensures.gives)
    (subst (λ (l : List Placement). AreNumbersOf between c.in_ok-fresh.fresh.items l) c.deref-2.ensures.value c.in_ok-fresh.ensures.ok)
    c.in_ok-found.ensures.ok c.in_ok-fresh.ensures.numbered.apart
    (subst (λ (l : List ℕ). IsPermutation (l ++ c.in_ok-fresh.fresh.items) c.in_ok-live.live.items) c.deref-3.ensures.value
    (subst (λ (l : List ℕ). IsPermutation (c.deref-3.result.now ++ l) c.in_ok-live.live.items) c.deref-4.ensures.value c.in_ok-live.ensures.same))
    c.in_ok-live.ensures.sorted in
    order_pins after c.in_ok-found.found.items c.in_ok-pinned.pinned.items c.args.names.now between c.give_all-2.new.self c.in_ok-found.ensures.ok.ascending (λ p h. ((c.in_ok-found.ensures.ok.exact p).0 h).0)
    (λ p h. has_number between c.in_ok-live.live.items t.0 t.1 p ((t.2.exact p).1 h))
    c.in_ok-pinned.ensures.ok
    (subst (λ (l : List Placement). GoesOnWith c.args.names.now l between) c.deref-2.ensures.value c.in_ok-fresh.ensures.gives)
    (subst (λ (l : List Placement). GoesOnWith between l c.give_all-2.new.self) c.deref-5.ensures.value c.in_ok-pins.ensures.gives)

-- until the placements get numbers the names stay as they are
pub returns-in_err-found-clause-grows : goal.returns-in_err-found-clause-grows
returns-in_err-found-clause-grows c = goes_none c.args.names.now c.args.names.now refl

pub returns-in_err-pinned-clause-grows : goal.returns-in_err-pinned-clause-grows
returns-in_err-pinned-clause-grows c = goes_none c.args.names.now c.args.names.now refl

pub returns-in_err-bounds-clause-grows : goal.returns-in_err-bounds-clause-grows
returns-in_err-bounds-clause-grows c = goes_none c.args.names.now c.args.names.now refl

pub returns-in_err-kept-clause-grows : goal.returns-in_err-kept-clause-grows
returns-in_err-kept-clause-grows c = goes_none c.args.names.now c.args.names.now refl

pub returns-in_err-fresh-clause-grows : goal.returns-in_err-fresh-clause-grows
returns-in_err-fresh-clause-grows c = goes_none c.args.names.now c.give_all.new.self c.in_err-fresh.ensures.err

pub returns-in_err-live-clause-grows : goal.returns-in_err-live-clause-grows
returns-in_err-live-clause-grows c = goes_by c.args.names.now c.deref-2.result.now c.give_all.new.self c.in_ok-fresh.ensures.gives c.in_ok-fresh.ensures.numbered

pub returns-in_err-pins-clause-grows : goal.returns-in_err-pins-clause-grows
returns-in_err-pins-clause-grows c =
    let old = c.args.names.now in
    let between = c.give_all.new.self in
    let new = c.give_all-2.new.self in
    goes_twice old between new (goes_by old c.deref-2.result.now between c.in_ok-fresh.ensures.gives c.in_ok-fresh.ensures.numbered)
    (goes_none between new c.in_err-pins.ensures.err)

pub returns-clause-grows : goal.returns-clause-grows
returns-clause-grows c =
    let old = c.args.names.now in
    let between = c.give_all.new.self in
    let new = c.give_all-2.new.self in
    goes_twice old between new (goes_by old c.deref-2.result.now between c.in_ok-fresh.ensures.gives c.in_ok-fresh.ensures.numbered)
    (goes_by between c.deref-5.result.now new c.in_ok-pins.ensures.gives c.in_ok-pins.ensures.numbered)
