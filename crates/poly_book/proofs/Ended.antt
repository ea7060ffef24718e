-- The endings of the tasks that a change ends.
use Rattle.std.proofs.Common.{Bool, List, [], ap, arith, cond, false, get_or, length, map, not, refl, suc, sym, take, true, zero, ℕ, ◌++◌, ◌+◌, ◌<◌, ◌∙◌, ◌∷◌, ◌≡◌}
use Rattle.std.proofs.lemmas.Bool.{not-false, not-true}
use Rattle.std.proofs.lemmas.List.{append-nil, take_more}
use Rattle.std.specs.List.{filter}
use Rattle.poly_tiling.specs.Puzzle.{View}
use Rattle.poly_atom.specs.declared.atom.Atom.{Atom}
use Rattle.poly_atom.specs.Hopeless.{hopeless}
use Rattle.poly_book.specs.declared.step.Ending.{Ending}
use Rattle.poly_book.specs.declared.step.Ending.TheVariants.{Hopeless}
use Rattle.poly_book.specs.Events.{hopeless_endings}
use Rattle.poly_tasks.specs.declared.task.Pending.{Pending}
use Rattle.poly_tasks.specs.Tasks.{Task}
use Rattle.poly_tasks.specs.Meaning.{own_of, task_of, tasks_of}
use Rattle.poly_tasks.proofs.Held.{tasks_append}

mapped_at : {X Y : Type 0} (f : X → Y) (xs : List X) (i : ℕ) (d : X) (b : Y) → i < length xs → get_or (map f xs) i b ≡ f (get_or xs i d)
mapped_at f [] i d b l = absurd (omega (arith, l))
mapped_at f (x ∷ xs) zero d b l = refl
mapped_at f (x ∷ xs) (suc i) d b l = mapped_at f xs i d b (omega (arith, l))

flag_at : (w : View) (log : List (List Atom)) (ps : List Pending) (fs : List Bool) (i : ℕ) (d : Pending) (b : Bool) → fs ≡ map (λ p. not (hopeless w (own_of log p.own))) ps → i < length ps → get_or fs i b ≡ not (hopeless w (own_of log (get_or ps i d).own))
flag_at w log ps fs i d b e l = ap (λ xs. get_or xs i b) e ∙ mapped_at (λ p. not (hopeless w (own_of log p.own))) ps i d b l

endings_cons : (w : View) (e : ℕ) (u : Task) (ts rs : List Task) (xs : List Ending) (b : Bool) → hopeless w u.own ≡ b → hopeless_endings w e ts ≡ hopeless_endings w e rs ++ xs → hopeless_endings w e (u ∷ ts) ≡ hopeless_endings w e (u ∷ rs) ++ xs
endings_cons w e u ts rs xs true h ih = let f : Bool → List Task → List Ending = λ b vs. map (λ t. Hopeless t.number e) (cond b (u ∷ filter (λ t. hopeless w t.own) vs) (filter (λ t. hopeless w t.own) vs)) in ap (λ b. f b ts) h ∙ ap (λ L. Hopeless u.number e ∷ L) ih ∙ ap (λ b. f b rs ++ xs) (sym h)
endings_cons w e u ts rs xs false h ih = let f : Bool → List Task → List Ending = λ b vs. map (λ t. Hopeless t.number e) (cond b (u ∷ filter (λ t. hopeless w t.own) vs) (filter (λ t. hopeless w t.own) vs)) in ap (λ b. f b ts) h ∙ ih ∙ ap (λ b. f b rs ++ xs) (sym h)

endings_push : (w : View) (e : ℕ) (ts : List Task) (t : Task) (b : Bool) → hopeless w t.own ≡ b → hopeless_endings w e (ts ++ t ∷ []) ≡ hopeless_endings w e ts ++ cond b (Hopeless t.number e ∷ []) []
endings_push w e [] t true h = ap (λ b. map (λ u. Hopeless u.number e) (cond b (t ∷ []) [])) h
endings_push w e [] t false h = ap (λ b. map (λ u. Hopeless u.number e) (cond b (t ∷ []) [])) h
endings_push w e (u ∷ ts) t b h = endings_cons w e u (ts ++ t ∷ []) ts (cond b (Hopeless t.number e ∷ []) []) (hopeless w u.own) refl (endings_push w e ts t b h)

pub endings_more : (w : View) (log : List (List Atom)) (e : ℕ) (ps : List Pending) (fs : List Bool) (i : ℕ) (d : Pending) (f : Bool) (es : List Ending) → fs ≡ map (λ p. not (hopeless w (own_of log p.own))) ps → i < length ps →
    get_or fs i f ≡ false → es ≡ hopeless_endings w e (tasks_of log (take i ps)) → es ++ Hopeless (get_or ps i d).number e ∷ [] ≡ hopeless_endings w e (tasks_of log (take (i + 1) ps))
endings_more w log e ps fs i d f es is l h so =
    let p = get_or ps i d in
    let bad : hopeless w (own_of log p.own) ≡ true = not-false _ (sym (flag_at w log ps fs i d f is l) ∙ h) in
    ap (λ x. x ++ Hopeless p.number e ∷ []) so ∙ sym (ap (λ x. hopeless_endings w e (tasks_of log x)) (take_more ps i d l) ∙ ap (λ x. hopeless_endings w e x) (tasks_append log (take i ps) (p ∷ [])) ∙ endings_push w e (tasks_of log (take i ps)) (task_of log p) true bad)

pub endings_same : (w : View) (log : List (List Atom)) (e : ℕ) (ps : List Pending) (fs : List Bool) (i : ℕ) (d : Pending) (f : Bool) (es : List Ending) → fs ≡ map (λ p. not (hopeless w (own_of log p.own))) ps → i < length ps →
    get_or fs i f ≡ true → es ≡ hopeless_endings w e (tasks_of log (take i ps)) → es ≡ hopeless_endings w e (tasks_of log (take (i + 1) ps))
endings_same w log e ps fs i d f es is l h so =
    let p = get_or ps i d in
    let fine : hopeless w (own_of log p.own) ≡ false = not-true _ (sym (flag_at w log ps fs i d f is l) ∙ h) in
    so ∙ sym (append-nil _) ∙ sym (ap (λ x. hopeless_endings w e (tasks_of log x)) (take_more ps i d l) ∙ ap (λ x. hopeless_endings w e x) (tasks_append log (take i ps) (p ∷ [])) ∙ endings_push w e (tasks_of log (take i ps)) (task_of log p) false fine)
