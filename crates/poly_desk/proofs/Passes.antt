-- What follows from the contracts of a floor's calls for what a worker has: the pass, a receipt, a job, all tilings.
use Rattle.std.proofs.lemmas.List.{length-append}
use Rattle.std.proofs.Common.{Bool, Err, List, None, Ok, Option, Result, Some, [], ap, arith, false, inl, inr, length, refl, subst, sym, true, ℕ, ◌<◌, ◌++◌, ◌∙◌, ◌∷◌, ◌≡◌, ◌≤◌, ◌⊎◌}
use Rattle.std.specs.Arc.{arc_value}
use Rattle.std.specs.Prelude.{IfOk, IfSome, MatchOption, map, slice_get}
use Rattle.poly_grid.specs.declared.refusal.Refusal.{Refusal}
use Rattle.poly_grid.specs.declared.refusal.Refusal.TheVariants.{Busy, Memory, Spent, Unsettled}
use Rattle.poly_design.specs.Edits.{IsAccepted}
use Rattle.poly_design.specs.Layout.{Layout}
use Rattle.poly_design.specs.declared.change.Change.{Change}
use Rattle.poly_design.specs.declared.edit.Edit.{Edit}
use Rattle.poly_design.specs.declared.placement.Placement.{Placement}
use Rattle.poly_tiling.specs.Puzzle.{View}
use Rattle.poly_tiling.specs.Shows.{names}
use Rattle.poly_tiling.specs.declared.item.Item.{Item}
use Rattle.poly_tiling.proofs.Blocked.{slice_get_back}
use Rattle.poly_report.specs.Trees.{Plan}
use Rattle.poly_book.specs.declared.step.Applied.{Applied}
use Rattle.poly_book.specs.declared.step.Done.{Done}
use Rattle.poly_book.specs.declared.step.Ending.TheVariants as ending
use Rattle.poly_book.specs.declared.step.Kind.{Kind}
use Rattle.poly_book.specs.declared.step.Kind.TheVariants as kind
use Rattle.poly_book.specs.declared.step.Step.{Step}
use Rattle.poly_book.specs.declared.take.Job.{Job}
use Rattle.poly_book.specs.declared.take.Which.{Which}
use Rattle.poly_book.specs.declared.take.Which.TheVariants as which
use Rattle.poly_book.specs.Events.{moved, redone, undone}
use Rattle.poly_book.specs.AllTilings.{AllTilings, IsQuietOf}
use Rattle.poly_book.specs.Jobs.{IsMissing, IsTaken}
use Rattle.poly_tasks.specs.Nexts.{IsLeastFrom, NoneFrom}
use Rattle.poly_book.specs.Partition.{Becomes}
use Rattle.poly_book.specs.Refused.{IsNotApplied, IsNotEdited, IsNotRedone, IsNotUndone}
use Rattle.poly_book.specs.Reports.{IsApplied}
use Rattle.poly_book.specs.States.{State}
use Rattle.poly_tasks.specs.Stored.{Stored, Way}
use Rattle.poly_book.specs.Steps.{IsEdited, IsRedone, IsUndone}
use Rattle.poly_browse.specs.Browsing.{Asked, IsAnswer}
use Rattle.poly_desk.specs.Books.{HasBook, HasBooks, IsBookOf, IsCause, IsOfDesk}
use Rattle.poly_desk.specs.Calls.{HasNoted, IsBehind, IsRefused}
use Rattle.poly_desk.specs.Changes.{IsChanged, OneChange}
use Rattle.poly_desk.specs.Floors.{IsViewAt, OnFloor}
use Rattle.poly_desk.specs.Noted.{Held}
use Rattle.poly_desk.specs.Receipts.{IsRightReceipt}
use Rattle.poly_desk.specs.Seen.{IsAskedFor, IsCut, IsMade, IsRefusedAtDesk, IsUnsettled, Later, MayRefuse, is_unsettled}
use Rattle.poly_desk.specs.declared.ledgers.TheConstants.{MOST_PASSES}
use Rattle.poly_desk.specs.declared.receipt.Receipt.{Receipt}
use Rattle.poly_desk.specs.declared.receipt.Receipt.TheVariants as receipt
use Rattle.poly_desk.proofs.Changed.{applied_one, edited_one, redone_one, undone_one}
use Rattle.poly_desk.proofs.Others.{applied_other, edited_other, other, redone_other, undone_other}

grown_later : (s t : State) (p q : Held) (m n : ℕ) → HasNoted s t p q m n → length s.steps ≤ length t.steps → Later p q m n
grown_later s t p q m n h l = record {
  edition = omega (arith, h.seen, l, ap (λ (z : Held). z.noted.edition) h.pass);
  changes_are = ap (λ (z : Held). z.changes) h.pass;
  cuts_are = ap (λ (z : Held). z.cuts) h.pass;
  posts = ap (λ (z : Held). z.posts) h.pass;
}

pub noted_later : (s : State) (p q : Held) → HasNoted s s p q 0 0 → Later p q 0 0
noted_later s p q h = grown_later s s p q 0 0 h (omega arith)

pub behind_unsettled : (s : State) (p q : Held) (e : Refusal) → IsBehind s p q e → IsUnsettled p q e
behind_unsettled s p q e h = record { found = length s.steps; why = h.why; behind = h.behind; pass = h.pass }

pub same_book : (o : Layout) (ss : List Step) (k : ℕ) (f g : OnFloor) → f ≡ g → IsBookOf o ss k f.book → IsBookOf o ss k g.book
same_book o ss k f g e of = subst (λ (z : OnFloor). IsBookOf o ss k z.book) e of

found_book : (o : Layout) (ss : List Step) (k : ℕ) (s : State) (p q : Held) (P : State → Type 0) → IsBookOf o ss k s → HasNoted s s p q 0 0 → P s → HasBook o ss k q P
found_book o ss k s p q P of h x = record { book = s; of_desk = of; noted = ap (λ (z : Held). z.noted) h.pass; holds = x }

found_books : (o : Layout) (ss : List Step) (k : ℕ) (s t : State) (p q : Held) (m n : ℕ) (P : State → State → Type 0) → IsBookOf o ss k s → IsBookOf o ss k t → HasNoted s t p q m n → P s t → HasBooks o ss k q P
found_books o ss k s t p q m n P of of_after h x = record { before = s; after = t; of_desk = of; of_desk_after = of_after; noted = ap (λ (z : Held). z.noted) h.pass; holds = x }

refused_at_desk : (o : Layout) (ss : List Step) (k : ℕ) (s : State) (p q : Held) (e : Refusal) (known cause : State → Type 0) → (known s → cause s) → (known s → is_unsettled e ≡ false) →
    IsBookOf o ss k s → IsRefused s p q e (known s) → IsRefusedAtDesk o ss k p q cause e
refused_at_desk o ss k s p q e known cause f g of (inl h) = inl (behind_unsettled s p q e h)
refused_at_desk o ss k s p q e known cause f g of (inr h) = inr (noted_later s p q h.0, g h.1, found_book o ss k s p q cause of h.0 (f h.1))

weaker : (o : Layout) (ss : List Step) (k : ℕ) (q : Held) (P Q : State → Type 0) → ((b : State) → P b → Q b) → HasBook o ss k q P → HasBook o ss k q Q
weaker o ss k q P Q f h = record { book = h.book; of_desk = h.of_desk; noted = h.noted; holds = f h.book h.holds }

may_refuse : (o : Layout) (ss : List Step) (k : ℕ) (p q : Held) (e : Refusal) (cause : State → Type 0) → ((b : State) → cause b → IsCause b e) → IsRefusedAtDesk o ss k p q cause e → MayRefuse o ss k q e
may_refuse o ss k p q e cause f (inl h) = inl (h.found, h.why ∙ ap (λ (z : Held). Unsettled z.noted.edition h.found) (sym h.pass), subst (λ (z : Held). h.found < z.noted.edition) (sym h.pass) h.behind)
may_refuse o ss k p q e cause f (inr h) = inr (h.1, weaker o ss k q cause (λ b. IsCause b e) f h.2)

-- what a desk's refusal of `take` says of the pass as the call left it
pub may_refuse_take : (o : Layout) (ss : List Step) (k : ℕ) (p q : Held) (e : Refusal) → IsRefusedAtDesk o ss k p q (λ b. e ≡ Memory) e → MayRefuse o ss k q e
may_refuse_take o ss k p q e h = may_refuse o ss k p q e (λ b. e ≡ Memory) (λ b c. inl c) h

-- what its refusal of a report says
pub may_refuse_report : (o : Layout) (ss : List Step) (k : ℕ) (p q : Held) (e : Refusal) (task : ℕ) (tree : Plan) → IsRefusedAtDesk o ss k p q (λ b. IsNotApplied task tree b e) e → MayRefuse o ss k q e
may_refuse_report o ss k p q e task tree h = may_refuse o ss k p q e (λ b. IsNotApplied task tree b e) (λ b c. inr (task, tree, c)) h

right_at : (task made : ℕ) (tree : Plan) (s t : State) (a : Applied) → IsApplied task made tree s t a → IsRightReceipt t (receipt.Cut a.place task)
right_at task made tree s t a h =
    let c = applied_one task made tree s t a h in (
      length s.endings,
      omega (arith, c.place, ap length c.endings, length-append s.endings (ending.Cut task ∷ [])),
      subst (λ es. slice_get es (length s.endings) ≡ Some (ending.Cut task)) (sym c.endings) (subst (λ n. slice_get (s.endings ++ ending.Cut task ∷ []) n ≡ Some (ending.Cut task)) (omega arith) (slice_get_back s.endings (ending.Cut task ∷ []) 0)),
    )

-- the receipt of a report that was applied is right for the desk's book after it
cut_given : (o : Layout) (ss : List Step) (k : ℕ) (q : Held) (task made : ℕ) (tree : Plan) (a : Applied) (r : Receipt) → HasBooks o ss k q (λ b c. IsApplied task made tree b c a) → r ≡ receipt.Cut a.place task → IsCut r × IsOfDesk o ss k r
cut_given o ss k q task made tree a r h is = (
  subst IsCut (sym is) tt,
  subst (λ z. IsOfDesk o ss k z) (sym is) (h.after, h.of_desk_after, right_at task made tree h.before h.after a h.holds),
)

-- the same of a call's result
pub each_given : (o : Layout) (ss : List Step) (k : ℕ) (q : Held) (task made : ℕ) (tree : Plan) (result : Result (Applied × Receipt) Refusal) →
    IfOk result (λ r. r.1 ≡ receipt.Cut r.0.place task) → IfOk result (λ r. HasBooks o ss k q (λ b c. IsApplied task made tree b c r.0)) → IfOk result (λ r. IsCut r.1 × IsOfDesk o ss k r.1)
each_given o ss k q task made tree (Ok r) is h = cut_given o ss k q task made tree r.0 r.1 h is
each_given o ss k q task made tree (Err e) is h = tt

-- if a desk has no task to take, nothing is pending
pub none_pending : (o : Layout) (ss : List Step) (k : ℕ) (q : Held) (w : Which) (j : Option Job) → HasBook o ss k q (λ b. MatchOption j (IsMissing b w) (λ i. IsTaken b w i)) → j ≡ None → w ≡ which.Any → HasBook o ss k q (λ b. b.pending ≡ [])
none_pending o ss k q w j h is any = record {
  book = h.book;
  of_desk = h.of_desk;
  noted = h.noted;
  holds = subst (λ z. MatchOption z (IsMissing h.book which.Any) (λ i. IsTaken h.book which.Any i)) is (subst (λ y. MatchOption j (IsMissing h.book y) (λ i. IsTaken h.book y i)) any h.holds);
}

either : {A B C : Type 0} → (A → C) → (B → C) → A ⊎ B → C
either f g (inl a) = f a
either f g (inr b) = g b

pub pass_refused : (o : Layout) (ss : List Step) (k : ℕ) (s : State) (n : ℕ) (p q : Held) (e : Refusal) → IsBookOf o ss k s → IsRefused s p q e (((e ≡ Spent) × (n ≡ MOST_PASSES)) ⊎ (e ≡ Memory)) → IsRefusedAtDesk o ss k p q (λ b. (e ≡ Spent) ⊎ (e ≡ Memory)) e
pass_refused o ss k s n p q e of h = refused_at_desk o ss k s p q e (λ b. ((e ≡ Spent) × (n ≡ MOST_PASSES)) ⊎ (e ≡ Memory)) (λ b. (e ≡ Spent) ⊎ (e ≡ Memory))
    (either (λ (x : (e ≡ Spent) × (n ≡ MOST_PASSES)). inl x.0) (λ x. inr x)) (either (λ (x : (e ≡ Spent) × (n ≡ MOST_PASSES)). other e _ x.0 refl) (λ x. other e _ x refl)) of h

pub memory_refused : (o : Layout) (ss : List Step) (k : ℕ) (s : State) (p q : Held) (e : Refusal) → IsBookOf o ss k s → IsRefused s p q e (e ≡ Memory) → IsRefusedAtDesk o ss k p q (λ b. e ≡ Memory) e
memory_refused o ss k s p q e of h = refused_at_desk o ss k s p q e (λ b. e ≡ Memory) (λ b. e ≡ Memory) (λ x. x) (λ x. other e _ x refl) of h

pub quiet_refused : (o : Layout) (ss : List Step) (k : ℕ) (s : State) (p q : Held) (e : Refusal) → IsBookOf o ss k s → IsRefused s p q e (((e ≡ Busy (length s.pending)) × (0 < length s.pending)) ⊎ ((e ≡ Memory) × (s.pending ≡ []))) →
    IsRefusedAtDesk o ss k p q (λ b. ((e ≡ Busy (length b.pending)) × (0 < length b.pending)) ⊎ ((e ≡ Memory) × (b.pending ≡ []))) e
quiet_refused o ss k s p q e of h = refused_at_desk o ss k s p q e (λ b. ((e ≡ Busy (length b.pending)) × (0 < length b.pending)) ⊎ ((e ≡ Memory) × (b.pending ≡ []))) (λ b. ((e ≡ Busy (length b.pending)) × (0 < length b.pending)) ⊎ ((e ≡ Memory) × (b.pending ≡ []))) (λ x. x)
    (either (λ (x : (e ≡ Busy (length s.pending)) × (0 < length s.pending)). other e _ x.0 refl) (λ (x : (e ≡ Memory) × (s.pending ≡ [])). other e _ x.0 refl)) of h

pub edit_refused : (x : Edit) (o : Layout) (ss : List Step) (k : ℕ) (s : State) (p q : Held) (e : Refusal) → IsBookOf o ss k s → IsRefused s p q e (IsNotEdited x s e) → IsRefusedAtDesk o ss k p q (λ b. IsNotEdited x b e) e
edit_refused x o ss k s p q e of h = refused_at_desk o ss k s p q e (λ b. IsNotEdited x b e) (λ b. IsNotEdited x b e) (λ y. y) (edited_other x s e) of h

pub undo_refused : (o : Layout) (ss : List Step) (k : ℕ) (s : State) (p q : Held) (e : Refusal) → IsBookOf o ss k s → IsRefused s p q e (IsNotUndone s e ⊎ (e ≡ Memory)) → IsRefusedAtDesk o ss k p q (λ b. IsNotUndone b e ⊎ (e ≡ Memory)) e
undo_refused o ss k s p q e of h = refused_at_desk o ss k s p q e (λ b. IsNotUndone b e ⊎ (e ≡ Memory)) (λ b. IsNotUndone b e ⊎ (e ≡ Memory)) (λ y. y) (either (undone_other s e) (λ y. other e _ y refl)) of h

pub redo_refused : (o : Layout) (ss : List Step) (k : ℕ) (s : State) (p q : Held) (e : Refusal) → IsBookOf o ss k s → IsRefused s p q e (IsNotRedone s e ⊎ (e ≡ Memory)) → IsRefusedAtDesk o ss k p q (λ b. IsNotRedone b e ⊎ (e ≡ Memory)) e
redo_refused o ss k s p q e of h = refused_at_desk o ss k s p q e (λ b. IsNotRedone b e ⊎ (e ≡ Memory)) (λ b. IsNotRedone b e ⊎ (e ≡ Memory)) (λ y. y) (either (redone_other s e) (λ y. other e _ y refl)) of h

pub report_refused : (task : ℕ) (tree : Plan) (o : Layout) (ss : List Step) (k : ℕ) (s : State) (p q : Held) (e : Refusal) → IsBookOf o ss k s → IsRefused s p q e (IsNotApplied task tree s e) → IsRefusedAtDesk o ss k p q (λ b. IsNotApplied task tree b e) e
report_refused task tree o ss k s p q e of h = refused_at_desk o ss k s p q e (λ b. IsNotApplied task tree b e) (λ b. IsNotApplied task tree b e) (λ y. y) (applied_other task tree s e) of h

pub edited_books : (x : Edit) (o : Layout) (ss : List Step) (k : ℕ) (s t : State) (p q : Held) (r : Receipt) → IsBookOf o ss k s → IsBookOf o ss k t → HasNoted s t p q 1 0 → IsChanged (λ d. IsEdited x s t d) r → HasBooks o ss k q (λ b c. IsChanged (λ d. IsEdited x b c d) r)
edited_books x o ss k s t p q r of of_after h y = found_books o ss k s t p q 1 0 (λ b c. IsChanged (λ d. IsEdited x b c d) r) of of_after h y

pub undone_books : (o : Layout) (ss : List Step) (k : ℕ) (s t : State) (p q : Held) (r : Receipt) → IsBookOf o ss k s → IsBookOf o ss k t → HasNoted s t p q 1 0 → IsChanged (λ d. IsUndone s t d) r → HasBooks o ss k q (λ b c. IsChanged (λ d. IsUndone b c d) r)
undone_books o ss k s t p q r of of_after h y = found_books o ss k s t p q 1 0 (λ b c. IsChanged (λ d. IsUndone b c d) r) of of_after h y

pub redone_books : (o : Layout) (ss : List Step) (k : ℕ) (s t : State) (p q : Held) (r : Receipt) → IsBookOf o ss k s → IsBookOf o ss k t → HasNoted s t p q 1 0 → IsChanged (λ d. IsRedone s t d) r → HasBooks o ss k q (λ b c. IsChanged (λ d. IsRedone b c d) r)
redone_books o ss k s t p q r of of_after h y = found_books o ss k s t p q 1 0 (λ b c. IsChanged (λ d. IsRedone b c d) r) of of_after h y

pub applied_books : (task made : ℕ) (tree : Plan) (o : Layout) (ss : List Step) (k : ℕ) (s t : State) (p q : Held) (a : Applied) → IsBookOf o ss k s → IsBookOf o ss k t → HasNoted s t p q 0 1 → IsApplied task made tree s t a → HasBooks o ss k q (λ b c. IsApplied task made tree b c a)
applied_books task made tree o ss k s t p q a of of_after h y = found_books o ss k s t p q 0 1 (λ b c. IsApplied task made tree b c a) of of_after h y

pub next_book : (from : ℕ) (o : Layout) (ss : List Step) (k : ℕ) (s : State) (p q : Held) (n : Option ℕ) → IsBookOf o ss k s → HasNoted s s p q 0 0 → MatchOption n (NoneFrom from s.pending) (λ m. IsLeastFrom from s.pending m) → HasBook o ss k q (λ b. MatchOption n (NoneFrom from b.pending) (λ m. IsLeastFrom from b.pending m))
next_book from o ss k s p q n of h y = found_book o ss k s p q (λ b. MatchOption n (NoneFrom from b.pending) (λ m. IsLeastFrom from b.pending m)) of h y

pub taken_book : (w : Which) (o : Layout) (ss : List Step) (k : ℕ) (s : State) (p q : Held) (j : Option Job) → IsBookOf o ss k s → HasNoted s s p q 0 0 → MatchOption j (IsMissing s w) (λ i. IsTaken s w i) → HasBook o ss k q (λ b. MatchOption j (IsMissing b w) (λ i. IsTaken b w i))
taken_book w o ss k s p q j of h y = found_book o ss k s p q (λ b. MatchOption j (IsMissing b w) (λ i. IsTaken b w i)) of h y

pub quiet_book : (o : Layout) (ss : List Step) (k : ℕ) (s : State) (p q : Held) (a : AllTilings) → IsBookOf o ss k s → HasNoted s s p q 0 0 → IsQuietOf s a → HasBook o ss k q (λ b. IsQuietOf b a)
quiet_book o ss k s p q a of h y = found_book o ss k s p q (λ b. IsQuietOf b a) of h y

pub answer_book : (asked : Asked) (count : ℕ) (forced : List Placement) (options : List (Item × ℕ)) (o : Layout) (ss : List Step) (k : ℕ) (s : State) (p q : Held) → IsBookOf o ss k s → HasNoted s s p q 0 0 → IsAnswer s.design (map (names s.view) s.listed) asked count forced options →
    HasBook o ss k q (λ b. IsAnswer b.design (map (names b.view) b.listed) asked count forced options)
answer_book asked count forced options o ss k s p q of h y = found_book o ss k s p q (λ b. IsAnswer b.design (map (names b.view) b.listed) asked count forced options) of h y

changed_later : (s t : State) (p q : Held) (d : Done) → HasNoted s t p q 1 0 → OneChange s t d → Later p q 1 0
changed_later s t p q d h c = grown_later s t p q 1 0 h (omega (arith, ap length c.last))

changed_made : (k : Kind) (s t : State) (p q : Held) (place : ℕ) (st : Step) → HasNoted s t p q 1 0 → OneChange s t (record { place = place; step = st }) → st.kind ≡ k → IsMade k p q (receipt.Changed place st)
changed_made k s t p q place st h c e = (
  e,
  omega (arith, h.seen, c.place, ap length c.last),
  omega (arith, c.place, ap (λ (z : Held). z.noted.edition) h.pass),
)

-- the first of the steps, or `d` if there is none
first_or : Step → List Step → Step
first_or d [] = d
first_or d (x ∷ xs) = x

moved_step : (s t : State) (k : Kind) (x : Change) (w : View) (h : Option Stored) (shelved : Bool) (back forth : List Way) (st : Step) →
    Becomes (moved s k x w h shelved back forth) t → t.steps ≡ st ∷ s.steps → (st.kind ≡ k) × (st.change ≡ x)
unfolding first_or
moved_step s t k x w h shelved back forth st b last =
    let is = sym last ∙ ap (λ (z : State). z.steps) b.same in
    (ap (λ xs. (first_or st xs).kind) is, ap (λ xs. (first_or st xs).change) is)

edited_step : (e : Edit) (s t : State) (d : Done) (h : IsEdited e s t d) → (d.step.kind ≡ kind.Edit) × (d.step.change ≡ h.change)
edited_step e s t d h =
    let m = h.made in
    moved_step s t kind.Edit h.change m.view None true _ [] d.step m.becomes m.last

undone_step : (s t : State) (d : Done) → IsUndone s t d → d.step.kind ≡ kind.Undo
undone_step s t d h =
    let m = h.made in
    let b : Becomes (undone s m.view (h.way ∷ h.rest)) t = subst (λ ws. Becomes (undone s m.view ws) t) h.top m.becomes in
    (moved_step s t _ _ _ _ _ _ _ d.step b m.last).0

redone_step : (s t : State) (d : Done) → IsRedone s t d → d.step.kind ≡ kind.Redo
redone_step s t d h =
    let m = h.made in
    let b : Becomes (redone s m.view (h.way ∷ h.rest)) t = subst (λ ws. Becomes (redone s m.view ws) t) h.top m.becomes in
    (moved_step s t _ _ _ _ _ _ _ d.step b m.last).0

pub edited_later : (e : Edit) (s t : State) (p q : Held) (r : Receipt) → HasNoted s t p q 1 0 → IsChanged (λ d. IsEdited e s t d) r → Later p q 1 0
edited_later e s t p q (receipt.Changed place st) h c = changed_later s t p q _ h (edited_one e s t _ c)
edited_later e s t p q (receipt.Cut place task) h c = absurd c

pub edited_made : (e : Edit) (s t : State) (p q : Held) (r : Receipt) → HasNoted s t p q 1 0 → IsChanged (λ d. IsEdited e s t d) r → IsMade kind.Edit p q r
edited_made e s t p q (receipt.Changed place st) h c = changed_made kind.Edit s t p q place st h (edited_one e s t _ c) (edited_step e s t _ c).0
edited_made e s t p q (receipt.Cut place task) h c = absurd c

pub edited_asked : (e : Edit) (s t : State) (r : Receipt) → IsChanged (λ d. IsEdited e s t d) r → IsAskedFor e r
edited_asked e s t (receipt.Changed place st) c = (s.design, subst (λ x. IsAccepted s.design e x) (sym (edited_step e s t _ c).1) c.accepted)
edited_asked e s t (receipt.Cut place task) c = absurd c

pub undone_later : (s t : State) (p q : Held) (r : Receipt) → HasNoted s t p q 1 0 → IsChanged (λ d. IsUndone s t d) r → Later p q 1 0
undone_later s t p q (receipt.Changed place st) h c = changed_later s t p q _ h (undone_one s t _ c)
undone_later s t p q (receipt.Cut place task) h c = absurd c

pub undone_made : (s t : State) (p q : Held) (r : Receipt) → HasNoted s t p q 1 0 → IsChanged (λ d. IsUndone s t d) r → IsMade kind.Undo p q r
undone_made s t p q (receipt.Changed place st) h c = changed_made kind.Undo s t p q place st h (undone_one s t _ c) (undone_step s t _ c)
undone_made s t p q (receipt.Cut place task) h c = absurd c

pub redone_later : (s t : State) (p q : Held) (r : Receipt) → HasNoted s t p q 1 0 → IsChanged (λ d. IsRedone s t d) r → Later p q 1 0
redone_later s t p q (receipt.Changed place st) h c = changed_later s t p q _ h (redone_one s t _ c)
redone_later s t p q (receipt.Cut place task) h c = absurd c

pub redone_made : (s t : State) (p q : Held) (r : Receipt) → HasNoted s t p q 1 0 → IsChanged (λ d. IsRedone s t d) r → IsMade kind.Redo p q r
redone_made s t p q (receipt.Changed place st) h c = changed_made kind.Redo s t p q place st h (redone_one s t _ c) (redone_step s t _ c)
redone_made s t p q (receipt.Cut place task) h c = absurd c

pub applied_later : (k made : ℕ) (tree : Plan) (s t : State) (p q : Held) (a : Applied) → HasNoted s t p q 0 1 → IsApplied k made tree s t a → Later p q 0 1
applied_later k made tree s t p q a h c = grown_later s t p q 0 1 h (omega (arith, ap length (applied_one k made tree s t a c).steps))

job_later : (s : State) (p q : Held) (w : Which) (j : Job) → HasNoted s s p q 0 0 → IsTaken s w j → p.noted.edition ≤ j.edition
job_later s p q which.Any j h c = omega (arith, h.seen, c.edition_is)
job_later s p q (which.Task k) j h c = omega (arith, h.seen, c.edition_is)

pub taken_later : (s : State) (p q : Held) (w : Which) (o : Option Job) → HasNoted s s p q 0 0 → MatchOption o (IsMissing s w) (λ j. IsTaken s w j) → IfSome o (λ j. p.noted.edition ≤ j.edition)
taken_later s p q w None h c = tt
taken_later s p q w (Some j) h c = job_later s p q w j h c

job_view : (ss : List Step) (v : View) (s : State) (w : Which) (j : Job) → IsViewAt ss v (length s.steps) s.view → IsTaken s w j → IsViewAt ss v j.edition (arc_value j.view)
job_view ss v s which.Any j h c = λ e. c.view ∙ h (sym c.edition_is ∙ e)
job_view ss v s (which.Task k) j h c = λ e. c.view ∙ h (sym c.edition_is ∙ e)

pub taken_view : (ss : List Step) (v : View) (s : State) (w : Which) (o : Option Job) → IsViewAt ss v (length s.steps) s.view → MatchOption o (IsMissing s w) (λ j. IsTaken s w j) → IfSome o (λ j. IsViewAt ss v j.edition (arc_value j.view))
taken_view ss v s w None h c = tt
taken_view ss v s w (Some j) h c = job_view ss v s w j h c

pub quiet_later : (s : State) (p q : Held) (a : AllTilings) → HasNoted s s p q 0 0 → IsQuietOf s a → p.noted.edition ≤ a.edition
quiet_later s p q a h c = omega (arith, h.seen, c.edition)
