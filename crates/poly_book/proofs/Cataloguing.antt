-- What is listed again, and what a report lists, may enter the catalogue.
use Rattle.std.proofs.Common.{Bool, List, Some, ap, arith, cond, false, refl, subst, sym, true, ℕ, ◌&&◌, ◌++◌, ◌∙◌, ◌∷◌, ◌≡◌, ◌≤◌}
use Rattle.std.proofs.lemmas.Bool.{and_parts, false_from_ne_true, true≢false}
use Rattle.std.specs.List.{filter, list_all}
use Rattle.poly_design.specs.Layout.{Layout}
use Rattle.poly_design.specs.declared.change.Change.{Change}
use Rattle.poly_tiling.specs.Lists.{one, same_list, tally}
use Rattle.poly_tiling.specs.Puzzle.{View, is_tiling}
use Rattle.poly_tiling.specs.Names.{Grown, WellNamed}
use Rattle.poly_tiling.proofs.Ascending.{same_list_is}
use Rattle.poly_tiling.proofs.Grown.{numbers_may_grow_lem}
use Rattle.poly_tiling.proofs.Listings.{one_most}
use Rattle.poly_tiling.proofs.Lists.{all_append, all_from, all_in, tally_append, tally_none}
use Rattle.poly_report.specs.Trees.{Plan}
use Rattle.poly_report.specs.Holds.{holds}
use Rattle.poly_report.specs.Leaves.{tilings}
use Rattle.poly_report.specs.Sizes.{fits}
use Rattle.poly_place.specs.declared.delta.Delta.{Delta}
use Rattle.poly_place.specs.Delta.{IsPlanFor}
use Rattle.poly_place.specs.Right.{IsRight}
use Rattle.poly_catalogue.specs.Listed.{AreOfEither, AreOnce}
use Rattle.poly_catalogue.proofs.Parted.{of_plan}
use Rattle.poly_undo.specs.Steps.{Steps}
use Rattle.poly_atom.specs.declared.atom.Atom.{Atom}
use Rattle.poly_tasks.specs.declared.shelf.Kept.{Kept}
use Rattle.poly_book.specs.declared.step.Kind.{Kind}
use Rattle.poly_book.specs.declared.step.Kind.TheVariants as kind
use Rattle.poly_book.specs.Events.{Leads, Report, cut, handed_in, redone, step, undone}
use Rattle.poly_tasks.specs.Meaning.{way_of, ways_of}
use Rattle.poly_book.specs.Partition.{Becomes, Partition}
use Rattle.poly_tasks.specs.Shelves.{returned}
use Rattle.poly_book.specs.States.{State}
use Rattle.poly_tasks.specs.Tasks.{Task, atoms_of, find_task}
use Rattle.poly_book.specs.Changing.{IsTop, event_of, shelf_at, stood_by}
use Rattle.poly_book.specs.Whole.{Whole}
use Rattle.poly_book.proofs.Nexting.{same_flipped}
use Rattle.poly_book.proofs.Proved.{steps_keep_whole_lem}
use Rattle.poly_book.proofs.Sharing.{tally_filter}
use Rattle.poly_book.proofs.Applying.{leads_top, top_way}
use Rattle.poly_tiling.proofs.Named.{tally_same_in}

-- tilings of the view that can be added to those already listed without listing one twice
pub record Enters (w : View) (ls more : List (List ℕ)) : Type 0 where
  pub tilings : list_all (is_tiling w) more ≡ true
  pub once : AreOnce (ls ++ more)

flipped_tally : (T : List ℕ) (ls : List (List ℕ)) → tally (same_list T) ls ≡ tally (λ U. same_list U T) ls
flipped_tally T ls = tally_same_in (same_list T) (λ U. same_list U T) ls (λ U i. same_flipped T U)

absent : (w : View) (ls : List (List ℕ)) (T : List ℕ) → list_all (is_tiling w) ls ≡ true → is_tiling w T ≡ false → tally (same_list T) ls ≡ 0
absent w ls T h e = tally_none (same_list T) ls (λ U i. false_from_ne_true (same_list T U) (λ g. true≢false (sym (all_in (is_tiling w) ls h U i) ∙ ap (λ V. is_tiling w V) (sym (same_list_is T U g)) ∙ e)))

once_at : (s : State) → Partition s → (T : List ℕ) → (b : Bool) → is_tiling s.view T ≡ b → tally (same_list T) s.listed ≤ one b
once_at s p T true h = omega (arith, flipped_tally T s.listed, p.shared T h)
once_at s p T false h = omega (arith, absent s.view s.listed T p.only h)

-- if the tilings are shared out, each tiling is listed at most once, and only tilings are listed
pub listed_once : (s : State) → Partition s → (T : List ℕ) → tally (same_list T) s.listed ≤ one (is_tiling s.view T)
listed_once s p T = once_at s p T (is_tiling s.view T) refl

-- if the tilings are shared out, no tiling is listed twice
pub partition_once : (s : State) → Partition s → AreOnce s.listed
partition_once s p T = omega (arith, listed_once s p T, one_most (is_tiling s.view T))

beside_at : (w : View) (ls more : List (List ℕ)) → AreOnce ls → AreOnce (filter (λ T. is_tiling w T) ls ++ more) → list_all (is_tiling w) more ≡ true → (T : List ℕ) → (b : Bool) → is_tiling w T ≡ b → tally (same_list T) (ls ++ more) ≤ 1
beside_at w ls more a c m T true h =
    let f = tally_filter (same_list T) (λ U. is_tiling w U) ls (λ U g. ap (λ V. is_tiling w V) (sym (same_list_is T U g)) ∙ h) in
    omega (arith, f, c T, tally_append (same_list T) (filter (λ U. is_tiling w U) ls) more, tally_append (same_list T) ls more)
beside_at w ls more a c m T false h = omega (arith, a T, absent w more T m h, tally_append (same_list T) ls more)

beside : (w : View) (ls more : List (List ℕ)) → AreOnce ls → AreOnce (filter (λ T. is_tiling w T) ls ++ more) → list_all (is_tiling w) (filter (λ T. is_tiling w T) ls ++ more) ≡ true → Enters w ls more
beside w ls more a c m =
    let n = (and_parts (list_all (is_tiling w) (filter (λ T. is_tiling w T) ls)) (list_all (is_tiling w) more) (sym (all_append (is_tiling w) (filter (λ T. is_tiling w T) ls) more) ∙ m)).1 in
    record { tilings = n; once = λ T. beside_at w ls more a c n T (is_tiling w T) refl }

pub becomes_itself : (s : State) → Becomes s s
becomes_itself s = record { same = refl; order = λ f. refl }

pub record Lists (s z : State) (w : View) (more : List (List ℕ)) : Type 0 where
  pub view : z.view ≡ w
  pub listed : z.listed ≡ filter (λ T. is_tiling w T) s.listed ++ more

pub listed_after : (log : List (List Atom)) (k : Kind) (s : State) (h : Steps Change Kept) (x : Change) (w : View) → s.back ≡ ways_of log h.undo → s.forth ≡ ways_of log h.redo → IsTop k h x → Lists s (step s (event_of k x w)) w (returned (stood_by log k h))
listed_after log kind.Edit s h x w eb ef t = record { view = refl; listed = refl }
listed_after log kind.Undo s h x w eb ef t =
    let l = top_way log h.undo t.0 t.1 in
    let is : undone s w s.back ≡ undone s w (way_of log t.0 ∷ l.0) = ap (λ ws. undone s w ws) (eb ∙ l.1) in
    let e : (way_of log t.0).shelf ≡ stood_by log kind.Undo h = sym (ap (λ z. shelf_at log z) t.1) in
    record { view = ap (λ z. z.view) is; listed = ap (λ z. z.listed) is ∙ ap (λ o. filter (λ T. is_tiling w T) s.listed ++ returned o) e }
listed_after log kind.Redo s h x w eb ef t =
    let l = top_way log h.redo t.0 t.1 in
    let is : redone s w s.forth ≡ redone s w (way_of log t.0 ∷ l.0) = ap (λ ws. redone s w ws) (ef ∙ l.1) in
    let e : (way_of log t.0).shelf ≡ stood_by log kind.Redo h = sym (ap (λ z. shelf_at log z) t.1) in
    record { view = ap (λ z. z.view) is; listed = ap (λ z. z.listed) is ∙ ap (λ o. filter (λ T. is_tiling w T) s.listed ++ returned o) e }

-- what a change lists again may enter the catalogue
pub change_enters : (log : List (List Atom)) (k : Kind) (s : State) (h : Steps Change Kept) (x : Change) (w : View) → s.back ≡ ways_of log h.undo → s.forth ≡ ways_of log h.redo → IsTop k h x → Whole s → Leads s x w → Enters w s.listed (returned (stood_by log k h))
change_enters log k s h x w eb ef t p g =
    let z = step s (event_of k x w) in
    let q = (steps_keep_whole_lem s z (event_of k x w) p (leads_top log k s h x w eb ef t g) (becomes_itself z)).consistent.partition in
    let l = listed_after log k s h x w eb ef t in
    let more = returned (stood_by log k h) in
    let only : list_all (is_tiling w) (filter (λ T. is_tiling w T) s.listed ++ more) ≡ true = subst (λ v. list_all (is_tiling v) (filter (λ T. is_tiling w T) s.listed ++ more) ≡ true) l.view (subst (λ L. list_all (is_tiling z.view) L ≡ true) l.listed q.only) in
    beside w s.listed more (partition_once s p.consistent.partition) (subst AreOnce l.listed (partition_once z q)) only

-- what a report lists may enter the catalogue
pub cut_enters : (s : State) (k : ℕ) (u : Task) (tree : Plan) → Whole s → find_task k s.pending ≡ Some u → (fits tree && holds s.view (atoms_of u) tree) ≡ true → Enters s.view s.listed (tilings s.view (atoms_of u) tree)
cut_enters s k u tree p found right =
    let z = step s (Report k tree) in
    let is : z ≡ cut s k u tree = ap (λ o. handed_in s k o tree) found ∙ ap (λ b. cond b (cut s k u tree) s) right in
    let q = subst Partition is (steps_keep_whole_lem s z (Report k tree) p tt (becomes_itself z)).consistent.partition in
    let more = tilings s.view (atoms_of u) tree in
    record {
      tilings = (and_parts (list_all (is_tiling s.view) s.listed) (list_all (is_tiling s.view) more) (sym (all_append (is_tiling s.view) s.listed more) ∙ q.only)).1;
      once = partition_once (cut s k u tree) q;
    }

-- each listed tiling is a tiling of the view before the change or of the one after it
pub listed_either : (v t w : View) (d e : Layout) (x : Delta) (ls : List (List ℕ)) → WellNamed v → Grown v t → IsRight t d → IsPlanFor t d e w x → list_all (λ U. is_tiling v U) ls ≡ true → AreOfEither w x ls
listed_either v t w d e x ls wn g r p only = of_plan t w d e x ls r p (all_from (is_tiling t) ls (λ U i. numbers_may_grow_lem v t U wn g ∙ all_in (λ V. is_tiling v V) ls only U i))
