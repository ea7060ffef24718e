-- Which refusals of an edit are returned even if memory runs out.
use Rattle.std.proofs.Common.{◌≡◌, ◌∙◌, ℕ, ◌<◌, ◌≤◌, ◌⊎◌, Bool, List, [], ◌∷◌, None, Result, Ok, Err, IfOk, IfErr, inl, inr, length, sym, ap, subst, arith}
use Rattle.std.specs.BTreeMap.{is_at}
use Rattle.std.specs.BTreeSet.{insert_key}
use Rattle.std.specs.Set.{remove_key}
use Rattle.std.specs.List.{Contains}
use Rattle.std.specs.Cmp.Lexicographic.{nat_list_cmp_total}
use Rattle.poly_grid.specs.Spot.{Spot}
use Rattle.poly_grid.specs.declared.refusal.Refusal.{Refusal}
use Rattle.poly_grid.specs.declared.refusal.Refusal.TheVariants.{Memory}
use Rattle.poly_shape.specs.Figure.{Figure}
use Rattle.poly_shape.specs.Order.{cells_cmp, cells_total}
use Rattle.poly_shape.proofs.Ascending.{same_cells}
use Rattle.poly_design.specs.declared.mode.Mode.{Mode}
use Rattle.poly_design.specs.declared.need.Need.{Need}
use Rattle.poly_design.specs.declared.spec.Spec.{Spec}
use Rattle.poly_design.specs.declared.change.Change.{Change}
use Rattle.poly_design.specs.declared.edit.Edit.{Edit}
use Rattle.poly_design.specs.declared.edit.Edit.TheVariants as edit
use Rattle.poly_design.specs.Changes.{set_mode}
use Rattle.poly_design.specs.Layout.{Layout, mode_of, spec_of}
use Rattle.poly_design.specs.Edits.{IsAccepted, IsEarly, IsFirst, IsRefused, NoneEarly, NoneHolds, RefusesEarly, causes, new_spec}
use Rattle.poly_design.proofs.Entries.{inserted_in, removed_shorter}
use Rattle.poly_design.proofs.Puts.{length_new}

none_first : (cs : List (Refusal × Type 0)) (e : Refusal) → NoneHolds cs → IsFirst cs e → ⊥
none_first [] e n f = f
none_first (c ∷ cs) e n f = elim f [ inl h ↦ n.0 h.1 | inr h ↦ none_first cs e n.1 h.1 ]

none_early_first : (cs : List (Refusal × Type 0)) (e : Refusal) → NoneEarly cs → IsEarly e → IsFirst cs e → ⊥
none_early_first [] e n early f = f
none_early_first (c ∷ cs) e n early f = elim f [ inl h ↦ n.0 (subst IsEarly h.0 early) h.1 | inr h ↦ none_early_first cs e n.1 early h.1 ]

one_first : (cs : List (Refusal × Type 0)) (a b : Refusal) → IsFirst cs a → IsFirst cs b → a ≡ b
one_first [] a b f g = absurd f
one_first (c ∷ cs) a b f g = elim f [
  | inl h ↦ elim g [ inl k ↦ h.0 ∙ sym k.0 | inr k ↦ absurd (k.0 h.1) ]
  | inr h ↦ elim g [ inl k ↦ absurd (h.0 k.1) | inr k ↦ one_first cs a b h.1 k.1 ]
]

-- a check refuses early if it returns an accepted change, the refusal of the first cause that holds, or `Memory`, and
-- `Memory` only if no early cause holds
pub refuses_early : (d : Layout) (e : Edit) (r : Result Change Refusal) → IfOk r (λ change. IsAccepted d e change) → IfErr r (λ x. (x ≡ Memory) ⊎ IsRefused d e x)
    → (r ≡ Err Memory → NoneEarly (causes d e)) → RefusesEarly d e r
refuses_early d e (Ok change) ok why memory x early first = absurd (none_first (causes d e) x ok.free first)
refuses_early d e (Err y) ok why memory x early first = elim why [
  | inl is ↦ absurd (none_early_first (causes d e) x (memory (ap Err is)) early first)
  | inr cause ↦ ap Err (one_first (causes d e) y x cause first)
]

pub past_add : (d : Layout) (name : List ℕ) (shape : Figure) (need : Need) (mirror : Bool) → spec_of d name ≡ None → shape.grid ≡ d.grid → length d.pieces < 64
    → NoneEarly (causes d (edit.Add name shape need mirror))
past_add d name shape need mirror none grid room =
    let len = length_new nat_list_cmp_total d.pieces name (new_spec shape need mirror) none in
    (λ _ taken. taken none, (λ _ bad. bad grid, (λ _ many. omega (arith, len, room, many), (λ late. absurd late, tt))))

pub past_cell : (d : Layout) (c : Spot) (before mode : Mode) → before ≡ mode_of d c → (before ≡ mode → ⊥) → length (set_mode d.cells c mode) ≤ 256 → NoneEarly (causes d (edit.Cell c mode))
past_cell d c before mode same other room = (λ _ idle. other (same ∙ idle), (λ _ many. omega (arith, room, many), (λ late. absurd late, tt)))

-- forbidding cells that are not forbidden changes the piece
pub forbids_more : (s : Spec) (cells : List Spot) → (Contains s.forbidden cells → ⊥) → s ≡ record s { forbidden = insert_key cells_cmp s.forbidden cells } → ⊥
forbids_more s cells lacks e = lacks (subst (λ (l : List (List Spot)). Contains l cells) (sym (ap (λ (v : Spec). v.forbidden) e)) (inserted_in cells_total same_cells s.forbidden cells))

-- allowing cells that are forbidden changes the piece
pub allows_more : (s : Spec) (cells : List Spot) → Contains s.forbidden cells → s ≡ record s { forbidden = remove_key (is_at (cells_cmp cells)) s.forbidden } → ⊥
allows_more s cells here e =
    let len = removed_shorter cells_total s.forbidden cells here in
    let same = ap (λ (v : Spec). length v.forbidden) e in
    omega (arith, len, same)
