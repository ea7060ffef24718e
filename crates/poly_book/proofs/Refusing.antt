-- Why a change isn't made.
use Rattle.std.proofs.Common.{ap, arith, inl, inr, length, refl, sym, ℕ, ◌+◌, ◌<◌, ◌∙◌, ◌∷◌, ◌≡◌, ◌≤◌, ◌⊎◌, List}
use Rattle.std.proofs.lemmas.List.{length-append}
use Rattle.std.specs.List.{filter}
use Rattle.poly_grid.specs.declared.refusal.Refusal.{Refusal}
use Rattle.poly_grid.specs.declared.refusal.Refusal.TheVariants.{CatalogueFull, Memory, Spent}
use Rattle.poly_design.specs.Changes.{changed}
use Rattle.poly_design.specs.Layout.{Layout}
use Rattle.poly_design.specs.declared.change.Change.{Change}
use Rattle.poly_tiling.specs.Puzzle.{View, is_tiling}
use Rattle.poly_atom.specs.Guards.{guards}
use Rattle.poly_atom.specs.Stairs.{stairs}
use Rattle.poly_atom.specs.Width.{HasWidth}
use Rattle.poly_place.specs.Spent.{IsSpent as NumbersAreSpent}
use Rattle.poly_undo.specs.Steps.{Steps}
use Rattle.poly_tasks.specs.declared.shelf.Kept.{Kept}
use Rattle.poly_book.specs.declared.step.Kind.{Kind}
use Rattle.poly_book.specs.declared.step.Kind.TheVariants as kind
use Rattle.poly_atom.specs.declared.atom.Atom.{Atom}
use Rattle.poly_book.specs.Amounts.{IsWide}
use Rattle.poly_book.specs.Changing.{IsNotGathered, IsTop, event_of, shelf_at, stood_by}
use Rattle.poly_book.specs.Events.{Leads, redone, step, undone}
use Rattle.poly_tasks.specs.Meaning.{way_of, ways_of}
use Rattle.poly_book.specs.Refused.{IsNotMade}
use Rattle.poly_tasks.specs.Shelves.{openings, returned}
use Rattle.poly_book.specs.States.{State}
use Rattle.poly_tasks.specs.Tasks.{hopeful}
use Rattle.poly_book.proofs.Applying.{top_way}
use Rattle.poly_book.proofs.Cataloguing.{listed_after}

-- the next task number after a change
next_after : (log : List (List Atom)) (k : Kind) (s : State) (h : Steps Change Kept) (x : Change) (w : View) → s.back ≡ ways_of log h.undo → s.forth ≡ ways_of log h.redo → IsTop k h x → (step s (event_of k x w)).next ≡ s.next + length (hopeful w (openings (stood_by log k h) (stairs (guards s.view w))))
next_after log kind.Edit s h x w eb ef t = refl
next_after log kind.Undo s h x w eb ef t =
    let l = top_way log h.undo t.0 t.1 in
    let is : undone s w s.back ≡ undone s w (way_of log t.0 ∷ l.0) = ap (λ ws. undone s w ws) (eb ∙ l.1) in
    let e : (way_of log t.0).shelf ≡ stood_by log kind.Undo h = sym (ap (λ z. shelf_at log z) t.1) in
    ap (λ z. z.next) is ∙ ap (λ o. s.next + length (hopeful w (openings o (stairs (guards s.view w))))) e
next_after log kind.Redo s h x w eb ef t =
    let l = top_way log h.redo t.0 t.1 in
    let is : redone s w s.forth ≡ redone s w (way_of log t.0 ∷ l.0) = ap (λ ws. redone s w ws) (ef ∙ l.1) in
    let e : (way_of log t.0).shelf ≡ stood_by log kind.Redo h = sym (ap (λ z. shelf_at log z) t.1) in
    ap (λ z. z.next) is ∙ ap (λ o. s.next + length (hopeful w (openings o (stairs (guards s.view w))))) e

pub memory_not_made : (k : Kind) (x : Change) (s : State) (e : Refusal) → e ≡ Memory → IsNotMade k x s e
memory_not_made kind.Edit x s e m = inr (inr m)
memory_not_made kind.Undo x s e m = inr (inr m)
memory_not_made kind.Redo x s e m = inr (inr m)

-- if the placement numbers don't suffice, the change isn't made
pub spent_not_made : (k : Kind) (x : Change) (s : State) (e : Refusal) → e ≡ Spent → NumbersAreSpent s.view.placements (changed s.design x) → IsNotMade k x s e
spent_not_made kind.Edit x s e is n = inr (inl (is, inr (inr n)))
spent_not_made kind.Undo x s e is n = inl (is, inr (inr n))
spent_not_made kind.Redo x s e is n = inl (is, inr (inr n))

-- if one of the two widths is over 20,000, the change between the designs is too wide
is_wide : {d e : Layout} {m n : ℕ} → HasWidth d e m → HasWidth e d n → (20000 < m) ⊎ (20000 < n) → IsWide d e
is_wide {d} {e} {m} {n} there back (inl l) = (m, l, inl there)
is_wide {d} {e} {m} {n} there back (inr l) = (n, l, inr back)

module _ (log : List (List Atom)) (s : State) (h : Steps Change Kept) (x : Change) (w : View) (eb : s.back ≡ ways_of log h.undo) (ef : s.forth ≡ ways_of log h.redo) (l : Leads s x w) where
  over : (k : Kind) → IsTop k h x → 4294967296 < s.next + length (hopeful w (openings (stood_by log k h) (stairs (guards s.view w)))) → 4294967296 < (step s (event_of k x w)).next
  over k t o = omega (arith, o, next_after log k s h x w eb ef t)

  -- if the change isn't prepared, it isn't made
  pub gather_not_made : HasWidth s.design (changed s.design x) (length (guards s.view w)) × HasWidth (changed s.design x) s.design (length (guards w s.view)) → (n : ℕ) → n ≡ length s.steps → (k : Kind) → IsTop k h x → (e : Refusal) → IsNotGathered s.view w k n s.next (stood_by log k h) e → IsNotMade k x s e
  gather_not_made g n b kind.Edit t e (inl r) = inl (r.0, (is_wide g.0 g.1 r.2, (w, l, r.2)))
  gather_not_made g n b kind.Edit t e (inr (inl (is, inl m))) = inr (inl (is, inl (omega (arith, m, b))))
  gather_not_made g n b kind.Edit t e (inr (inl (is, inr o))) = inr (inl (is, inr (inl (w, l, over kind.Edit t o))))
  gather_not_made g n b kind.Edit t e (inr (inr m)) = inr (inr m)
  gather_not_made g n b kind.Undo t e (inl r) = absurd (no_edit r.1)
    where
      no_edit : kind.Undo ≡ kind.Edit → ⊥
      no_edit q = cc
  gather_not_made g n b kind.Undo t e (inr (inl (is, inl m))) = inl (is, inl (omega (arith, m, b)))
  gather_not_made g n b kind.Undo t e (inr (inl (is, inr o))) = inl (is, inr (inl (w, l, over kind.Undo t o)))
  gather_not_made g n b kind.Undo t e (inr (inr m)) = inr (inr m)
  gather_not_made g n b kind.Redo t e (inl r) = absurd (no_edit r.1)
    where
      no_edit : kind.Redo ≡ kind.Edit → ⊥
      no_edit q = cc
  gather_not_made g n b kind.Redo t e (inr (inl (is, inl m))) = inl (is, inl (omega (arith, m, b)))
  gather_not_made g n b kind.Redo t e (inr (inl (is, inr o))) = inl (is, inr (inl (w, l, over kind.Redo t o)))
  gather_not_made g n b kind.Redo t e (inr (inr m)) = inr (inr m)

  full : (k : Kind) → IsTop k h x → 1000000 < length (filter (λ T. is_tiling w T) s.listed) + length (returned (stood_by log k h)) → 1000000 < length (step s (event_of k x w)).listed
  full k t n = omega (arith, n, ap length (listed_after log k s h x w eb ef t).listed, length-append (filter (λ T. is_tiling w T) s.listed) (returned (stood_by log k h)))

  within : (k : Kind) → IsTop k h x → s.next + length (hopeful w (openings (stood_by log k h) (stairs (guards s.view w)))) ≤ 4294967296 → (step s (event_of k x w)).next ≤ 4294967296
  within k t o = omega (arith, o, next_after log k s h x w eb ef t)

  -- if listing the shelf's tilings again would exceed the limit, the change isn't made
  pub full_not_made : (k : Kind) → IsTop k h x → (e : Refusal) → e ≡ CatalogueFull → 0 < length (returned (stood_by log k h)) → 1000000 < length (filter (λ T. is_tiling w T) s.listed) + length (returned (stood_by log k h)) → length s.steps < 100000 →
      s.next + length (hopeful w (openings (stood_by log k h) (stairs (guards s.view w)))) ≤ 4294967296 → (¬ NumbersAreSpent s.view.placements (changed s.design x)) → IsNotMade k x s e
  full_not_made kind.Edit t e is some n few low enough = absurd (omega (arith, some))
  full_not_made kind.Undo t e is some n few low enough = inr (inl (is, (w, l, (full kind.Undo t n, few, within kind.Undo t low, enough))))
  full_not_made kind.Redo t e is some n few low enough = inr (inl (is, (w, l, (full kind.Redo t n, few, within kind.Redo t low, enough))))
