-- What a session sees of a book: edits, undo and redo.
use Rattle.std.proofs.Common.{Bool, List, None, [], ap, arith, false, length, length-drop, map, refl, reverse, subst, suc, sym, take, true, zero, inl, inr, ℕ, ◌+◌, ◌++◌, ◌∙◌, ◌∷◌, ◌≡◌, ◌≤◌}
use Rattle.std.proofs.lemmas.List.{length-map, reverse-append, reverse-reverse}
use Rattle.std.specs.Prelude.{◌⊎◌, ◌≢◌}
use Rattle.poly_grid.specs.declared.refusal.Refusal.{Refusal}
use Rattle.poly_grid.specs.declared.refusal.Refusal.TheVariants.{CatalogueFull, Memory}
use Rattle.poly_design.specs.Changes.{inverse_of}
use Rattle.poly_design.specs.Layout.{Layout}
use Rattle.poly_design.specs.declared.change.Change.{Change}
use Rattle.poly_design.specs.declared.edit.Edit.{Edit}
use Rattle.poly_tiling.specs.Listings.{HasOverTilings}
use Rattle.poly_undo.specs.Steps.{newest as newest_last}
use Rattle.poly_undo.proofs.Turns.{newest_reversed}
use Rattle.poly_book.specs.Amounts.{IsNarrow, RedoIsFull, UndoIsFull}
use Rattle.poly_book.specs.declared.step.Done.{Done}
use Rattle.poly_book.specs.declared.step.Kind.{Kind}
use Rattle.poly_book.specs.declared.step.Kind.TheVariants as kind
use Rattle.poly_book.specs.declared.step.Step.{Step}
use Rattle.poly_book.specs.Events.{redone, undone}
use Rattle.poly_book.specs.Refused.{IsNotEdited, IsNotMade, IsNotRedone, IsNotUndone}
use Rattle.poly_book.specs.Replay.{AllStand, IsNext, Replay, Trace, replayed, traced}
use Rattle.poly_book.specs.Settled.{IsNotSettled}
use Rattle.poly_book.specs.Ways.{newest, way_back}
use Rattle.poly_book.specs.States.{State as Book}
use Rattle.poly_tasks.specs.Stored.{Way}
use Rattle.poly_book.specs.Steps.{IsDone, IsEdited, IsRedone, IsUndone}
use Rattle.poly_book.proofs.Changes.{newest_all}
use Rattle.poly_tiling.specs.declared.lister.TheConstants.{MAX_TILINGS}
use Rattle.poly_undo.specs.declared.history.TheConstants.{MAX_STEPS}
use Rattle.poly_cli.specs.Books.{changes_of, session_of}
use Rattle.poly_cli.specs.States.{EditRefused, Edits, IsUnanswered, IsUnfinished, RedoRefused, Redoes, State, UndoRefused, Undoes}

-- ---- lists of changes

same_state : {d e : Layout} {m n : ℕ} {u v r q : List Change} {a b : Bool} → d ≡ e → m ≡ n → u ≡ v → r ≡ q → a ≡ b
    → ◌≡◌ {A = State} (record { design = d; edition = m; undo = u; redo = r; settled = a; failed = None }) (record { design = e; edition = n; undo = v; redo = q; settled = b; failed = None })
same_state p s t w x = λ i. record { design = p i; edition = s i; undo = t i; redo = w i; settled = x i; failed = None }

-- the change of the newest way is the last change
changes_push : (way : Way) (ways : List Way) → changes_of (way ∷ ways) ≡ changes_of ways ++ way.change ∷ []
changes_push way ways = reverse-append (way.change ∷ []) (map (λ w. w.change) ways)

newest_take : (n : ℕ) (ways : List Way) → map (λ w. w.change) (newest n ways) ≡ take n (map (λ w. w.change) ways)
newest_take zero ways = refl
newest_take (suc n) [] = refl
newest_take (suc n) (way ∷ ways) = ap (λ z. way.change ∷ z) (newest_take n ways)

-- the changes of the newest 256 ways are the newest 256 changes
changes_newest : (ways : List Way) → changes_of (newest MAX_STEPS ways) ≡ newest_last (changes_of ways)
changes_newest ways =
    let all = map (λ w. w.change) ways in
    ap reverse (newest_take MAX_STEPS ways ∙ ap (take MAX_STEPS) (sym (reverse-reverse all)) ∙ sym (newest_reversed (reverse all))) ∙ reverse-reverse (newest_last (reverse all))

-- ---- at most 256 changes in all can be undone or redone

newest_short : {X : Type 0} (n : ℕ) (xs : List X) → length (newest n xs) ≤ n
newest_short zero xs = omega arith
newest_short (suc n) [] = omega arith
newest_short (suc n) (x ∷ xs) = omega (arith, newest_short n xs)

newest_less : {X : Type 0} (n : ℕ) (xs : List X) → length (newest n xs) ≤ length xs
newest_less zero xs = omega arith
newest_less (suc n) [] = omega arith
newest_less (suc n) (x ∷ xs) = omega (arith, newest_less n xs)

few_traced : (t : Trace) (k : Kind) (x : Change) → IsNext t k x → length t.back + length t.forth ≤ MAX_STEPS → length (traced t k x).back + length (traced t k x).forth ≤ MAX_STEPS
few_traced t kind.Edit x n few = omega (arith, newest_short MAX_STEPS (x ∷ t.back))
few_traced t kind.Undo x n few = omega (arith, few, length-drop 1 t.back, ap length n.1)
few_traced t kind.Redo x n few = omega (arith, few, newest_less MAX_STEPS (x ∷ t.back), length-drop 1 t.forth, ap length n.1)

few_replayed : (o : Layout) (ss : List Step) → AllStand o ss → length (replayed o ss).back + length (replayed o ss).forth ≤ MAX_STEPS
few_replayed o [] h = omega arith
few_replayed o (s ∷ ss) h = few_traced (replayed o ss) s.kind s.change h.1 (few_replayed o ss h.2)

few_ways : (s : Book) → Replay s → length s.back + length s.forth ≤ MAX_STEPS
few_ways s r =
    omega (arith, few_replayed s.opened s.steps r.stand, ap (λ t. length t.back) r.is, ap (λ t. length t.forth) r.is, length-map s.back (λ b. b.change), length-map s.forth (λ b. b.change))

-- two books with the same opening design and the same steps can undo and redo the same changes
pub same_ways : (s t : Book) → Replay s → Replay t → t.opened ≡ s.opened → t.steps ≡ s.steps → (flag : Bool) → session_of t flag ≡ session_of s flag
same_ways s t p q opened steps flag =
    let same : ◌≡◌ {A = Trace} (record { design = t.design; back = map (λ b. b.change) t.back; forth = map (λ b. b.change) t.forth }) (record { design = s.design; back = map (λ b. b.change) s.back; forth = map (λ b. b.change) s.forth })
    = sym q.is ∙ ap (λ o. replayed o t.steps) opened ∙ ap (replayed s.opened) steps ∙ p.is in
    same_state (ap (λ z. z.design) same) (ap length steps) (ap (λ z. reverse z.back) same) (ap (λ z. reverse z.forth) same) refl

-- ---- events

module _ (s t : Book) (flag : Bool) where
  pub edited : (edit : Edit) (done : Done) → (i : IsEdited edit s t done) → IsNarrow s.design t.design → Edits (session_of s flag) edit (session_of t false)
  edited edit done i narrow =
      let same = i.made.becomes.same in
      record {
        change = i.change;
        accepted = i.accepted;
        narrow = subst (IsNarrow s.design) (ap (λ z. z.design) same) narrow;
        is = same_state (ap (λ z. z.design) same) (ap (λ z. length z.steps) same ∙ omega arith)
            (ap (λ z. changes_of z.back) same ∙ changes_newest (way_back s i.change i.made.view ∷ s.back) ∙ ap newest_last (changes_push (way_back s i.change i.made.view) s.back)) (ap (λ z. changes_of z.forth) same) refl;
      }

  pub undone_is : (done : Done) → IsUndone s t done → Undoes (session_of s flag) (session_of t false)
  undone_is done i =
      let v = i.made.view in
      let same : t ≡ record (undone s v (i.way ∷ i.rest)) { listed = t.listed } = i.made.becomes.same ∙ ap (λ ways. record (undone s v ways) { listed = t.listed }) i.top in
      record {
        change = i.way.change;
        left = changes_of i.rest;
        taken = ap changes_of i.top ∙ changes_push i.way i.rest;
        is = same_state (ap (λ z. z.design) same) (ap (λ z. length z.steps) same ∙ omega arith) (ap (λ z. changes_of z.back) same) (ap (λ z. changes_of z.forth) same ∙ changes_push (way_back s i.way.change v) s.forth) refl;
      }

  pub redone_is : (done : Done) → Replay s → IsRedone s t done → Redoes (session_of s flag) (session_of t false)
  redone_is done r i =
      let v = i.made.view in
      let same : t ≡ record (redone s v (i.way ∷ i.rest)) { listed = t.listed } = i.made.becomes.same ∙ ap (λ ways. record (redone s v ways) { listed = t.listed }) i.top in
      let new = way_back s i.way.change v in
      let few : length (new ∷ s.back) ≤ MAX_STEPS = omega (arith, few_ways s r, ap length i.top) in
      record {
        change = i.way.change;
        left = changes_of i.rest;
        taken = ap changes_of i.top ∙ changes_push i.way i.rest;
        is = same_state (ap (λ z. z.design) same) (ap (λ z. length z.steps) same ∙ omega arith)
            (ap (λ z. changes_of z.back) same ∙ ap changes_of (newest_all MAX_STEPS (new ∷ s.back) few) ∙ changes_push new s.back) (ap (λ z. changes_of z.forth) same) refl;
      }

  pub next_edition : (k : Kind) (x : Change) (done : Done) → IsDone k x s t done → done.place ≡ length s.steps + 1
  next_edition k x done i = i.place ∙ ap length i.last ∙ omega arith

-- ---- refusals

module _ (s : Book) (flag : Bool) (e : Refusal) where
  pub edit_refused : (edit : Edit) → IsNotEdited edit s e → EditRefused (session_of s flag) edit e ⊎ (e ≡ Memory)
  edit_refused edit (inl refused) = inl (inl refused)
  edit_refused edit (inr (inl (x, accepted, inl wide))) = inl (inr (x, accepted, inl (wide.0, wide.1.0)))
  edit_refused edit (inr (inl (x, accepted, inr (inl spent)))) = inl (inr (x, accepted, inr spent.0))
  edit_refused edit (inr (inl (x, accepted, inr (inr memory)))) = inr memory
  edit_refused edit (inr (inr memory)) = inr memory

  pub undo_refused : IsNotUndone s e → (e ≡ CatalogueFull → UndoIsFull s) → UndoRefused (session_of s flag) e ⊎ (e ≡ Memory)
  undo_refused (inl none) full = inl (inl (none.0, ap changes_of none.1))
  undo_refused (inr (way, rest, top, why)) full = go why
    where
      taken : changes_of s.back ≡ changes_of rest ++ way.change ∷ []
      taken = ap changes_of top ∙ changes_push way rest

      go : IsNotMade kind.Undo (inverse_of way.change) s e → UndoRefused (session_of s flag) e ⊎ (e ≡ Memory)
      go (inl spent) = inl (inr (way.change, changes_of rest, taken, inl spent.0))
      go (inr (inl over)) = let f = full over.0 in inl (inr (f.0.change, changes_of f.1, ap changes_of f.2 ∙ changes_push f.0 f.1, inr (over.0, f.3)))
      go (inr (inr memory)) = inr memory

  pub redo_refused : IsNotRedone s e → (e ≡ CatalogueFull → RedoIsFull s) → RedoRefused (session_of s flag) e ⊎ (e ≡ Memory)
  redo_refused (inl none) full = inl (inl (none.0, ap changes_of none.1))
  redo_refused (inr (way, rest, top, why)) full = go why
    where
      taken : changes_of s.forth ≡ changes_of rest ++ way.change ∷ []
      taken = ap changes_of top ∙ changes_push way rest

      go : IsNotMade kind.Redo way.change s e → RedoRefused (session_of s flag) e ⊎ (e ≡ Memory)
      go (inl spent) = inl (inr (way.change, changes_of rest, taken, inl spent.0))
      go (inr (inl over)) = let f = full over.0 in inl (inr (f.0.change, changes_of f.1, ap changes_of f.2 ∙ changes_push f.0 f.1, inr (over.0, f.3)))
      go (inr (inr memory)) = inr memory

-- why settling a book fails
pub unsettled : (turns : ℕ) (s t : Book) (e : Refusal) → IsNotSettled turns s t e → (e ≡ CatalogueFull → HasOverTilings MAX_TILINGS s.design) → (e ≡ Memory) ⊎ IsUnfinished s.design e
unsettled turns s t e (inl unfinished) full = inr (inl unfinished.0)
unsettled turns s t e (inr (n, less, cuts, inl memory)) full = inl memory
unsettled turns s t e (inr (n, less, cuts, inr (k, tree, small, holds, inl spent))) full = inr (inr (inl spent.0))
unsettled turns s t e (inr (n, less, cuts, inr (k, tree, small, holds, inr (inl over)))) full = inr (inr (inr (over.0, full over.0)))
unsettled turns s t e (inr (n, less, cuts, inr (k, tree, small, holds, inr (inr memory)))) full = inl memory

-- if settling the book of a session fails, tasks were pending, so no question was answered since the last change
pub unanswered : (s : Book) (settled : Bool) (e : Refusal) → (settled ≡ true → s.pending ≡ []) → s.pending ≢ [] → (e ≡ Memory) ⊎ IsUnfinished s.design e → IsUnanswered (session_of s settled) e
unanswered s settled e none some (inl memory) = inl memory
unanswered s true e none some (inr unfinished) = absurd (some (none refl))
unanswered s false e none some (inr unfinished) = inr (refl, unfinished)
