-- What is listed stays while it is a tiling.
use Rattle.std.proofs.Common.{Bool, List, None, Option, Some, [], sym, subst, true, ℕ, ◌&&◌, ◌++◌, ◌∙◌, ◌∷◌, ◌≡◌}
use Rattle.std.proofs.lemmas.Bool.{cond_both, or_left}
use Rattle.std.specs.List.{filter, list_any}
use Rattle.poly_design.specs.Changes.{inverse_of}
use Rattle.poly_design.specs.declared.change.Change.{Change}
use Rattle.poly_tiling.specs.Lists.{same_list}
use Rattle.poly_tiling.specs.Puzzle.{View, is_tiling}
use Rattle.poly_tiling.proofs.Lists.{any_append, any_from, any_in, in_append_left, in_filter}
use Rattle.poly_tiling.proofs.Ascending.{same_list_is}
use Rattle.poly_report.specs.Trees.{Plan}
use Rattle.poly_report.specs.Sizes.{fits}
use Rattle.poly_report.specs.Holds.{holds}
use Rattle.poly_report.specs.Leaves.{tilings}
use Rattle.poly_book.specs.declared.step.Kind.{Kind}
use Rattle.poly_book.specs.declared.step.Kind.TheVariants as kind
use Rattle.poly_tasks.specs.Tasks.{Task, atoms_of, find_task}
use Rattle.poly_book.specs.States.{State}
use Rattle.poly_tasks.specs.Stored.{Stored, Way}
use Rattle.poly_book.specs.Ways.{newest, way_back}
use Rattle.poly_tasks.specs.Shelves.{is_kept, returned}
use Rattle.poly_book.specs.Events.{Edit, Redo, Report, Undo, cut, handed_in, moved, redone, undone}
use Rattle.poly_book.specs.Laws.{ListedStay}

-- a change keeps each listed tiling that is still a tiling
move_stays : (s : State) (kd : Kind) (x : Change) (w : View) (h : Option Stored) (b : Bool) (us rs : List Way) (T : List ℕ) → list_any (λ U. same_list U T) s.listed ≡ true → is_tiling w T ≡ true → list_any (λ U. same_list U T) (moved s kd x w h b us rs).listed ≡ true
move_stays s kd xc w h b us rs T l t =
    let x = any_in (λ U. same_list U T) s.listed l in
    any_from (λ U. same_list U T) (filter (λ U. is_tiling w U) s.listed ++ returned h) x.0
    (in_append_left x.0 (filter (λ U. is_tiling w U) s.listed) (returned h) (in_filter (λ U. is_tiling w U) s.listed x.0 x.1 (subst (λ V. is_tiling w V ≡ true) (sym (same_list_is x.0 T x.2)) t))) x.2

cut_stays : (s : State) (k : ℕ) (tree : Plan) (o : Option Task) (T : List ℕ) → list_any (λ U. same_list U T) s.listed ≡ true → list_any (λ U. same_list U T) (handed_in s k o tree).listed ≡ true
cut_stays s k tree None T l = l
cut_stays s k tree (Some t) T l = cond_both (fits tree && holds s.view (atoms_of t) tree) (cut s k t tree) s (λ x. list_any (λ U. same_list U T) x.listed ≡ true)
    (λ h. any_append (λ U. same_list U T) s.listed (tilings s.view (atoms_of t) tree) ∙ or_left _ _ l) (λ h. l)

undone_stays : (s : State) (w : View) (ways : List Way) (T : List ℕ) → list_any (λ U. same_list U T) s.listed ≡ true → is_tiling (undone s w ways).view T ≡ true → list_any (λ U. same_list U T) (undone s w ways).listed ≡ true
undone_stays s w [] T l t = l
undone_stays s w (b ∷ ways) T l t = move_stays s kind.Undo (inverse_of b.change) w b.shelf (is_kept b.shelf) ways (way_back s b.change w ∷ s.forth) T l t

redone_stays : (s : State) (w : View) (ways : List Way) (T : List ℕ) → list_any (λ U. same_list U T) s.listed ≡ true → is_tiling (redone s w ways).view T ≡ true → list_any (λ U. same_list U T) (redone s w ways).listed ≡ true
redone_stays s w [] T l t = l
redone_stays s w (b ∷ ways) T l t = move_stays s kind.Redo b.change w b.shelf (is_kept b.shelf) (newest 256 (way_back s b.change w ∷ s.back)) ways T l t

pub listed_stay_lem : ListedStay
listed_stay_lem s (Edit x w) T l t = move_stays s kind.Edit x w None true (newest 256 (way_back s x w ∷ s.back)) [] T l t
listed_stay_lem s (Undo w) T l t = undone_stays s w s.back T l t
listed_stay_lem s (Redo w) T l t = redone_stays s w s.forth T l t
listed_stay_lem s (Report k tree) T l t = cut_stays s k tree (find_task k s.pending) T l
