-- What holds of a floor after a change or a cut if it held before.
use Rattle.std.proofs.Common.{List, [], ap, arith, drop, inr, length, subst, suc, sym, ℕ, ◌+◌, ◌∙◌, ◌∷◌, ◌≡◌, ◌≤◌}
use Rattle.std.proofs.lemmas.List.{length_push}
use Rattle.poly_grid.specs.declared.refusal.Refusal.{Refusal}
use Rattle.poly_board.specs.Posts.{NoneFalls, last_of}
use Rattle.poly_board.specs.declared.posted.Posted.{Posted}
use Rattle.poly_design.specs.Layout.{Layout}
use Rattle.poly_tiling.specs.Puzzle.{View}
use Rattle.poly_book.specs.declared.step.Applied.{Applied}
use Rattle.poly_book.specs.declared.step.Done.{Done}
use Rattle.poly_book.specs.declared.step.Ending.TheVariants.{Cut}
use Rattle.poly_book.specs.declared.step.Step.{Step}
use Rattle.poly_book.specs.States.{State}
use Rattle.poly_desk.specs.Calls.{IsRefused}
use Rattle.poly_desk.specs.Changes.{OneChange, OneCut, cut_count}
use Rattle.poly_desk.specs.Floors.{Counts, IsViewAt, Shows}
use Rattle.poly_desk.specs.Noted.{Held, held, numbers_of}
use Rattle.poly_desk.proofs.Changed.{cuts_append}

pub change_counts : (o : Layout) (ss : List Step) (k : ℕ) (s t : State) (d : Done) (changes cuts more same : ℕ) → more ≡ changes + 1 → same ≡ cuts →
    Counts o ss k s changes cuts → OneChange s t d → Counts o ss k t more same
change_counts o ss k s t d changes cuts more same e f c p =
    let one : more ≡ suc changes = omega (arith, e) in
    record {
      opened = p.opened ∙ c.opened;
      begins = ap (λ n. drop n t.steps) one ∙ ap (λ xs. drop (suc changes) xs) p.last ∙ c.begins;
      changes_are = omega (arith, ap length p.last, c.changes_are, e);
      cuts_are = omega (arith, p.cuts, c.cuts_are, f);
    }

pub cut_counts : (o : Layout) (ss : List Step) (k : ℕ) (s t : State) (task : ℕ) (a : Applied) (changes cuts same more : ℕ) → same ≡ changes → more ≡ cuts + 1 →
    Counts o ss k s changes cuts → OneCut task s t a → Counts o ss k t same more
cut_counts o ss k s t task a changes cuts same more e f c p = record {
  opened = p.opened ∙ c.opened;
  begins = ap (λ n. drop n t.steps) e ∙ ap (λ xs. drop changes xs) p.steps ∙ c.begins;
  changes_are = omega (arith, ap length p.steps, c.changes_are, e);
  cuts_are = omega (arith, ap cut_count p.endings, cuts_append s.endings (Cut task ∷ []), c.cuts_are, f);
}

pub change_rises : (posts : List Posted) (s t : State) (d : Done) (m n : ℕ) → Shows s posts m n → OneChange s t d → NoneFalls (last_of posts) (numbers_of t)
change_rises posts s t d m n h p = subst (λ z. NoneFalls z (numbers_of t)) (sym h.posted) (omega (arith, ap length p.last), p.more)

pub cut_rises : (posts : List Posted) (s t : State) (task : ℕ) (a : Applied) (m n : ℕ) → Shows s posts m n → OneCut task s t a → NoneFalls (last_of posts) (numbers_of t)
cut_rises posts s t task a m n h p = subst (λ z. NoneFalls z (numbers_of t)) (sym h.posted) (omega (arith, ap length p.steps), omega (arith, ap length p.endings, length_push s.endings (Cut task)))

pub change_shows : (posts : List Posted) (s t : State) (d : Done) (m n : ℕ) → length s.steps + 1 ≤ m → length s.endings + length s.pending + 1 ≤ n → last_of posts ≡ numbers_of t → OneChange s t d → Shows t posts m n
change_shows posts s t d m n a b e p = record {
  posted = e;
  steps = omega (arith, a, ap length p.last);
  endings = omega (arith, b, p.few);
}

pub cut_shows : (posts : List Posted) (s t : State) (task : ℕ) (x : Applied) (m n : ℕ) → length s.steps + 1 ≤ m → length s.endings + length s.pending + 1 ≤ n → last_of posts ≡ numbers_of t → OneCut task s t x → Shows t posts m n
cut_shows posts s t task x m n a b e p = record {
  posted = e;
  steps = omega (arith, a, ap length p.steps);
  endings = omega (arith, b, ap length p.endings, length_push s.endings (Cut task));
}

-- after a change the edition is above the one with which the desk began, so `IsViewAt` asks nothing of the book's view
pub change_views : (ss : List Step) (v : View) (o : Layout) (k : ℕ) (s t : State) (d : Done) (changes cuts : ℕ) → Counts o ss k s changes cuts → OneChange s t d → IsViewAt ss v (length t.steps) t.view
change_views ss v o k s t d changes cuts c p = λ e. absurd (omega (arith, e, ap length p.last, c.changes_are))

pub cut_views : (ss : List Step) (v : View) (s t : State) (task : ℕ) (a : Applied) → IsViewAt ss v (length s.steps) s.view → OneCut task s t a → IsViewAt ss v (length t.steps) t.view
cut_views ss v s t task a h p = λ e. p.view ∙ h (sym (ap length p.steps) ∙ e)

-- a call that was refused after it had noted the floor's numbers
pub refused_for : (s : State) (p q : Held) (e : Refusal) (cause : Type 0) → p.noted.edition ≤ length s.steps → q ≡ held (numbers_of s) p.changes p.cuts p.posts → cause → IsRefused s p q e cause
refused_for s p q e cause seen noted h =
    let same : held (numbers_of s) p.changes p.cuts p.posts ≡ held (numbers_of s) (p.changes + 0) (p.cuts + 0) p.posts = λ i. held (numbers_of s) (sum p.changes i) (sum p.cuts i) p.posts in
    inr (record { seen = seen; pass = noted ∙ same }, h)
  where
    sum : (n : ℕ) → n ≡ n + 0
    sum n = omega arith
