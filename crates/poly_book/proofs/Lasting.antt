-- A report that held for its task holds as long as the task is pending.
use Rattle.std.proofs.Common.{Bool, List, None, Option, Some, [], ap, append_assoc, arith, inl, inr, map, not, subst, sym, true, ℕ, ◌&&◌, ◌<◌, ◌∙◌, ◌∷◌, ◌≡◌}
use Rattle.std.proofs.lemmas.Bool.{cond_both}
use Rattle.std.specs.List.{filter}
use Rattle.poly_design.specs.Changes.{inverse_of}
use Rattle.poly_design.specs.declared.change.Change.{Change}
use Rattle.poly_tiling.specs.Puzzle.{View}
use Rattle.poly_tiling.specs.Names.{Names, WellNamed}
use Rattle.poly_tiling.proofs.Lists.{In, filter_in, in_append_cases, map_in}
use Rattle.poly_atom.specs.Guards.{guards}
use Rattle.poly_atom.specs.Stairs.{stairs}
use Rattle.poly_atom.specs.Hopeless.{hopeless}
use Rattle.poly_report.specs.Trees.{Plan}
use Rattle.poly_report.specs.Sizes.{fits}
use Rattle.poly_report.specs.Holds.{holds}
use Rattle.poly_report.specs.Leaves.{rests}
use Rattle.poly_report.proofs.Later.{trees_keep_holding_lem}
use Rattle.poly_book.specs.declared.step.Kind.{Kind}
use Rattle.poly_book.specs.declared.step.Kind.TheVariants as kind
use Rattle.poly_tasks.specs.Tasks.{Rising, Task, atoms_of, drop_task, find_task, hopeful, lay, tasks_from}
use Rattle.poly_book.specs.States.{State}
use Rattle.poly_tasks.specs.Stored.{Stored, Way}
use Rattle.poly_book.specs.Ways.{newest, way_back}
use Rattle.poly_tasks.specs.Shelves.{is_kept, openings}
use Rattle.poly_book.specs.Events.{Edit, Event, Goes, LeadsBy, Redo, Report, Undo, cut, handed_in, moved, redone, step, undone}
use Rattle.poly_book.specs.Partition.{Becomes}
use Rattle.poly_tasks.proofs.Numbered.{drop_in, found_in, high, low, rising_append, rising_drop, rising_filter, rising_fresh, rising_lay, unique}

cut_rises : (s : State) (k : ℕ) (tree : Plan) (o : Option Task) → Rising 0 s.pending s.next → Rising 0 (handed_in s k o tree).pending (handed_in s k o tree).next
cut_rises s k tree None r = r
cut_rises s k tree (Some t) r = cond_both (fits tree && holds s.view (atoms_of t) tree) (cut s k t tree) s (λ u. Rising 0 u.pending u.next)
    (λ h. rising_append 0 (drop_task k s.pending) (tasks_from s.next (hopeful s.view (rests s.view (atoms_of t) tree))) s.next _ (rising_drop k 0 s.pending s.next r) (rising_fresh s.next (hopeful s.view (rests s.view (atoms_of t) tree))))
    (λ h. r)

move_rises : (s : State) (kd : Kind) (x : Change) (w : View) (h : Option Stored) (b : Bool) (us rs : List Way) → Rising 0 s.pending s.next → Rising 0 (moved s kd x w h b us rs).pending (moved s kd x w h b us rs).next
move_rises s kd x w h b us rs r =
    let opened = hopeful w (openings h (stairs (guards s.view w))) in
    rising_append 0 (filter (λ t. not (hopeless w t.own)) (map (λ t. lay (guards s.view w) t) s.pending)) (tasks_from s.next opened) s.next _
    (rising_filter (λ t. not (hopeless w t.own)) 0 (map (λ t. lay (guards s.view w) t) s.pending) s.next (rising_lay (guards s.view w) 0 s.pending s.next r))
    (rising_fresh s.next opened)

undone_rises : (s : State) (w : View) (ways : List Way) → Rising 0 s.pending s.next → Rising 0 (undone s w ways).pending (undone s w ways).next
undone_rises s w [] r = r
undone_rises s w (b ∷ ways) r = move_rises s kind.Undo (inverse_of b.change) w b.shelf (is_kept b.shelf) ways (way_back s b.change w ∷ s.forth) r

redone_rises : (s : State) (w : View) (ways : List Way) → Rising 0 s.pending s.next → Rising 0 (redone s w ways).pending (redone s w ways).next
redone_rises s w [] r = r
redone_rises s w (b ∷ ways) r = move_rises s kind.Redo b.change w b.shelf (is_kept b.shelf) (newest 256 (way_back s b.change w ∷ s.back)) ways r

pub step_rises : (s : State) (e : Event) → Rising 0 s.pending s.next → Rising 0 (step s e).pending (step s e).next
step_rises s (Edit x w) r = move_rises s kind.Edit x w None true (newest 256 (way_back s x w ∷ s.back)) [] r
step_rises s (Undo w) r = undone_rises s w s.back r
step_rises s (Redo w) r = redone_rises s w s.forth r
step_rises s (Report k tree) r = cut_rises s k tree (find_task k s.pending) r

pub becomes_rises : (s z : State) → Becomes s z → Rising 0 s.pending s.next → Rising 0 z.pending z.next
becomes_rises s z k r = subst (λ y. Rising 0 y.pending y.next) (sym k.same) r

-- the tree holds for each pending task with the number, and no new task gets this number
abbrev pub HoldsAt : State → ℕ → Plan → Type 0
HoldsAt s k tree = (k < s.next) × ((u : Task) → In u s.pending → u.number ≡ k → holds s.view (atoms_of u) tree ≡ true)

move_holds : (s : State) (kd : Kind) (x : Change) (w : View) (k : ℕ) (tree : Plan) (h : Option Stored) (b : Bool) (us rs : List Way) → WellNamed s.view → WellNamed w → Names s.view w → HoldsAt s k tree → HoldsAt (moved s kd x w h b us rs) k tree
move_holds s kd x w k tree h b us rs wn wm names l =
    let g = guards s.view w in
    let opened = hopeful w (openings h (stairs g)) in (
      omega (arith, l.0),
      λ u i e. elim (in_append_cases u (filter (λ t. not (hopeless w t.own)) (map (λ t. lay g t) s.pending)) (tasks_from s.next opened) i) [
        | inl j ↦
            let r = map_in (λ t. lay g t) s.pending u (filter_in (λ t. not (hopeless w t.own)) (map (λ t. lay g t) s.pending) u j).0 in
            let t = r.0 in
            let was = l.1 t r.1 (ap (λ x. x.number) r.2 ∙ e) in
            let now = trees_keep_holding_lem s.view w (atoms_of t) tree wn wm names was in
            subst (λ x. holds w (atoms_of x) tree ≡ true) r.2 (subst (λ A. holds w A tree ≡ true) (append_assoc t.own t.laid g) now)
        | inr j ↦ absurd (omega (arith, l.0, low s.next (tasks_from s.next opened) _ (rising_fresh s.next opened) u j))
      ],
    )

cut_holds : (s : State) (j k : ℕ) (tree other : Plan) (o : Option Task) → HoldsAt s k tree → HoldsAt (handed_in s j o other) k tree
cut_holds s j k tree other None l = l
cut_holds s j k tree other (Some t) l = cond_both (fits other && holds s.view (atoms_of t) other) (cut s j t other) s (λ x. HoldsAt x k tree)
    (λ y. let opened = hopeful s.view (rests s.view (atoms_of t) other) in (
      omega (arith, l.0),
      λ u i e. elim (in_append_cases u (drop_task j s.pending) (tasks_from s.next opened) i) [
        | inl a ↦ l.1 u (drop_in j s.pending u a) e
        | inr a ↦ absurd (omega (arith, l.0, low s.next (tasks_from s.next opened) _ (rising_fresh s.next opened) u a))
      ],
    ))
    (λ y. l)

undone_holds : (s : State) (w : View) (k : ℕ) (tree : Plan) (ways : List Way) → WellNamed s.view → LeadsBy s inverse_of ways w → HoldsAt s k tree → HoldsAt (undone s w ways) k tree
undone_holds s w k tree [] wn g l = l
undone_holds s w k tree (b ∷ ways) wn g l = move_holds s kind.Undo (inverse_of b.change) w k tree b.shelf (is_kept b.shelf) ways (way_back s b.change w ∷ s.forth) wn g.well g.names l

redone_holds : (s : State) (w : View) (k : ℕ) (tree : Plan) (ways : List Way) → WellNamed s.view → LeadsBy s (λ x. x) ways w → HoldsAt s k tree → HoldsAt (redone s w ways) k tree
redone_holds s w k tree [] wn g l = l
redone_holds s w k tree (b ∷ ways) wn g l = move_holds s kind.Redo b.change w k tree b.shelf (is_kept b.shelf) (newest 256 (way_back s b.change w ∷ s.back)) ways wn g.well g.names l

pub step_holds : (s : State) (e : Event) (k : ℕ) (tree : Plan) → WellNamed s.view → Goes s e → HoldsAt s k tree → HoldsAt (step s e) k tree
step_holds s (Edit x w) k tree wn g l = move_holds s kind.Edit x w k tree None true (newest 256 (way_back s x w ∷ s.back)) [] wn g.well g.names l
step_holds s (Undo w) k tree wn g l = undone_holds s w k tree s.back wn g l
step_holds s (Redo w) k tree wn g l = redone_holds s w k tree s.forth wn g l
step_holds s (Report j other) k tree wn g l = cut_holds s j k tree other (find_task j s.pending) l

pub becomes_holds : (s z : State) (k : ℕ) (tree : Plan) → Becomes s z → HoldsAt s k tree → HoldsAt z k tree
becomes_holds s z k tree b l = subst (λ y. HoldsAt y k tree) (sym b.same) l

-- a tree that holds for the pending task with the number satisfies `HoldsAt`
pub holds_now : (s : State) (k : ℕ) (t : Task) (tree : Plan) → Rising 0 s.pending s.next → find_task k s.pending ≡ Some t → holds s.view (atoms_of t) tree ≡ true → HoldsAt s k tree
holds_now s k t tree rises found h =
    let at = found_in k s.pending t found in
    (omega (arith, high 0 s.pending s.next rises t at.0, at.1), λ x i e. subst (λ y. holds s.view (atoms_of y) tree ≡ true) (sym (unique k 0 s.pending s.next rises t x found i e)) h)

pub holds_then : (s : State) (k : ℕ) (t : Task) (tree : Plan) → HoldsAt s k tree → find_task k s.pending ≡ Some t → holds s.view (atoms_of t) tree ≡ true
holds_then s k t tree l found = let at = found_in k s.pending t found in l.1 t at.0 at.1
