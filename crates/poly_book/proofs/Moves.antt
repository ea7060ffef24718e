-- A change shares the tilings out again, with a shelf or without, and so does a report.
use Rattle.std.proofs.Common.{Bool, List, None, Option, Some, [], ap, arith, false, length, map, not, refl, subst, suc, sym, true, zero, ℕ, ◌&&◌, ◌*◌, ◌+◌, ◌∙◌, ◌∷◌, ◌≡◌}
use Rattle.std.proofs.lemmas.Bool.{and_from, and_parts, both_ways, cond_both, false_from_ne_true, not-true, not_from_false}
use Rattle.std.specs.List.{filter, list_all}
use Rattle.std.specs.Prelude.{nat_le}
use Rattle.poly_design.specs.Changes.{HasBefore, changed, inverse_of}
use Rattle.poly_design.specs.Layout.{Layout}
use Rattle.poly_design.specs.Limits.{IsDesign}
use Rattle.poly_design.specs.declared.change.Change.{Change}
use Rattle.poly_design.specs.declared.change.Change.TheVariants as change
use Rattle.poly_design.proofs.Restored.{restored, stands}
use Rattle.poly_tiling.specs.Lists.{one, same_list, tally}
use Rattle.poly_tiling.specs.Puzzle.{View, is_tiling}
use Rattle.poly_tiling.specs.Names.{Grown, Names, WellNamed}
use Rattle.poly_tiling.specs.Shows.{Shows}
use Rattle.poly_tiling.proofs.Lists.{all_append, all_from, all_in, filter_in, tally_append, tally_none}
use Rattle.poly_tiling.proofs.Ascending.{same_list_is}
use Rattle.poly_tiling.proofs.Tilings.{parts}
use Rattle.poly_tiling.proofs.Named.{tally_same_in}
use Rattle.poly_tiling.proofs.Grown.{names_on, numbers_may_grow_lem}
use Rattle.poly_atom.specs.Atoms.{in_family, meets_all}
use Rattle.poly_atom.specs.Guards.{guards}
use Rattle.poly_atom.specs.Stairs.{stairs}
use Rattle.poly_atom.specs.Hopeless.{hopeless}
use Rattle.poly_atom.proofs.Stairs.{and_true, stairs_share_out_lem}
use Rattle.poly_atom.proofs.GuardKinds.{guards_proper, guards_tell_lem}
use Rattle.poly_atom.proofs.Stays.{meets_all_old}
use Rattle.poly_report.specs.Trees.{Plan}
use Rattle.poly_report.specs.Sizes.{fits}
use Rattle.poly_report.specs.Holds.{holds}
use Rattle.poly_report.specs.Leaves.{rests, tilings}
use Rattle.poly_report.proofs.Trees.{trees_share_out_lem}
use Rattle.poly_report.proofs.Belong.{tree_tilings_belong_lem}
use Rattle.poly_book.specs.declared.step.Kind.{Kind}
use Rattle.poly_book.specs.declared.step.Kind.TheVariants as kind
use Rattle.poly_tasks.specs.Tasks.{Task, atoms_of, drop_task, find_task, hopeful, lay, tasks_from}
use Rattle.poly_book.specs.States.{State, opening}
use Rattle.poly_tasks.specs.Stored.{Stored, Way}
use Rattle.poly_book.specs.Ways.{newest, shelf_of, way_back}
use Rattle.poly_tasks.specs.Shelves.{is_kept, openings, returned}
use Rattle.poly_book.specs.Events.{Edit, Event, Goes, Leads, LeadsBy, Redo, Report, Undo, cut, handed_in, moved, redone, step, undone}
use Rattle.poly_book.specs.Partition.{Becomes, IsShelf, Partition}
use Rattle.poly_book.specs.Trails.{Earlier, Follows, Led, Consistent, Trail, Ways, led_back, trail_redone, trail_undone, trailed}
use Rattle.poly_tiling.proofs.Designs.{same_design}
use Rattle.poly_book.proofs.Sharing.{all_filter, and_false, cross_tally, laid_tally, opened_tally, tally_drop, tally_filter, tally_map}

-- if the shelf is right for the change, the number of times that a tiling is returned and the number of opened lists that it
-- meets add up to the number of stairs that it meets
opened_shares : (s : State) (w : View) (h : Option Stored) (T : List ℕ) → WellNamed s.view → Names s.view w → IsShelf s.view w h → is_tiling w T ≡ true → (b : Bool) → meets_all w T (guards s.view w) ≡ b →
    tally (λ V. same_list V T) (returned h) + tally (λ A. meets_all w T A) (openings h (stairs (guards s.view w))) ≡ tally (λ A. meets_all w T A) (stairs (guards s.view w))
opened_shares s w None T wn names k t b m = omega arith
opened_shares s w (Some h) T wn names k t true m =
    let e : tally (λ A. meets_all w T A) (stairs (guards s.view w)) ≡ 0 = omega (arith, stairs_share_out_lem w T (guards s.view w) (guards_proper s.view w), ap one m) in
    let old = guards_tell_lem s.view w T wn names t ∙ m in
    let none = tally_none (λ V. same_list V T) h.taken (λ V i. false_from_ne_true (same_list V T) (λ q.
    both_ways (is_tiling s.view T) (not-true _ (subst (λ X. not (is_tiling s.view X) ≡ true) (same_list_is V T q) (all_in (λ X. not (is_tiling s.view X)) h.taken k.2 V i))) old)) in
    let c = cross_tally w T h.frozen (stairs (guards s.view w)) in
    let z = ap (λ n. tally (λ A. meets_all w T A) h.frozen * n) e in
    omega (arith, none, c, e, z)
opened_shares s w (Some h) T wn names k t false m =
    let e : tally (λ A. meets_all w T A) (stairs (guards s.view w)) ≡ 1 = omega (arith, stairs_share_out_lem w T (guards s.view w) (guards_proper s.view w), ap one m) in
    let c = cross_tally w T h.frozen (stairs (guards s.view w)) in
    let z = ap (λ n. tally (λ A. meets_all w T A) h.frozen * n) e in
    omega (arith, c, e, z, k.0 T t (guards_tell_lem s.view w T wn names t ∙ m))

change_shares : (s : State) (w : View) → WellNamed s.view → Names s.view w → Partition s → (T : List ℕ) → is_tiling w T ≡ true → (b : Bool) → meets_all w T (guards s.view w) ≡ b →
    tally (λ U. same_list U T) s.listed + (tally (λ t. meets_all w T (atoms_of t) && b) s.pending + tally (λ A. meets_all w T A) (stairs (guards s.view w))) ≡ 1
change_shares s w wn names p T t true m =
    let old : is_tiling s.view T ≡ true = guards_tell_lem s.view w T wn names t ∙ m in
    let same = tally_same_in (λ t. meets_all w T (atoms_of t) && true) (λ t. meets_all s.view T (atoms_of t)) s.pending
    (λ u i. and_true _ ∙ meets_all_old s.view w T wn names (parts s.view T old) (atoms_of u)) in
    omega (arith, p.shared T old, same, ap one m, stairs_share_out_lem w T (guards s.view w) (guards_proper s.view w))
change_shares s w wn names p T t false m =
    let new : is_tiling s.view T ≡ false = guards_tell_lem s.view w T wn names t ∙ m in
    let none = tally_none (λ U. same_list U T) s.listed (λ U i. false_from_ne_true (same_list U T) (λ e.
    both_ways (is_tiling s.view T) new (subst (λ V. is_tiling s.view V ≡ true) (same_list_is U T e) (all_in (λ U. is_tiling s.view U) s.listed p.only U i)))) in
    let nothing = tally_none (λ t. meets_all w T (atoms_of t) && false) s.pending (λ u i. and_false _) in
    omega (arith, none, nothing, ap one m, stairs_share_out_lem w T (guards s.view w) (guards_proper s.view w))

returned_are : (from to : View) (h : Option Stored) → IsShelf from to h → list_all (λ T. is_tiling to T) (returned h) ≡ true
returned_are from to None k = refl
returned_are from to (Some h) k = k.1

pub moved_partition : (s : State) (k : Kind) (x : Change) (w : View) (h : Option Stored) (b : Bool) (us rs : List Way) → WellNamed s.view → Names s.view w → IsShelf s.view w h → Partition s → Partition (moved s k x w h b us rs)
moved_partition s z x w h b us rs wn names k p = record {
  shared = λ T t.
      let g = guards s.view w in
      let lists = tally_append (λ V. same_list V T) (filter (λ V. is_tiling w V) s.listed) (returned h) in
      let kept = tally_filter (λ V. same_list V T) (λ V. is_tiling w V) s.listed (λ V e. subst (λ X. is_tiling w X ≡ true) (sym (same_list_is V T e)) t) in
      let pend = tally_append (λ t. meets_all w T (atoms_of t)) (filter (λ t. not (hopeless w t.own)) (map (λ t. lay g t) s.pending)) (tasks_from s.next (hopeful w (openings h (stairs g)))) in
      omega (arith, lists, kept, pend, laid_tally s w T t, opened_tally w T s.next (openings h (stairs g)) t, opened_shares s w h T wn names k t _ refl, change_shares s w wn names p T t _ refl);
  only = all_append (λ V. is_tiling w V) (filter (λ V. is_tiling w V) s.listed) (returned h) ∙ and_from _ _ (all_filter (λ V. is_tiling w V) s.listed) (returned_are s.view w h k);
}

pub cut_partition : (s : State) (t : Task) (k : ℕ) (tree : Plan) → find_task k s.pending ≡ Some t → holds s.view (atoms_of t) tree ≡ true → Partition s → Partition (cut s k t tree)
cut_partition s t k tree found h p = record {
  shared = λ T o.
      let A = atoms_of t in
      let lists = tally_append (λ U. same_list U T) s.listed (tilings s.view A tree) in
      let pend = tally_append (λ t. meets_all s.view T (atoms_of t)) (drop_task k s.pending) (tasks_from s.next (hopeful s.view (rests s.view A tree))) in
      omega (arith, lists, pend, opened_tally s.view T s.next (rests s.view A tree) o, trees_share_out_lem s.view A tree T o h, (tally_drop (λ t. meets_all s.view T (atoms_of t)) k s.pending t found), p.shared T o);
  only = all_append (λ U. is_tiling s.view U) s.listed (tilings s.view (atoms_of t) tree) ∙ and_from _ _ p.only
      (all_from (λ U. is_tiling s.view U) (tilings s.view (atoms_of t) tree) (λ U i. (and_parts (is_tiling s.view U) (meets_all s.view U (atoms_of t)) (all_in (λ U. in_family s.view (atoms_of t) U) (tilings s.view (atoms_of t) tree) (tree_tilings_belong_lem s.view (atoms_of t) tree) U i)).0));
}

-- what a change stores for its way back is right for the way back
pub way_shelf : (s : State) (w : View) → Partition s → IsShelf w s.view (shelf_of s w)
way_shelf s w p = cond_both (nat_le (length s.pending * length (guards w s.view)) 4096) _ None (λ h. IsShelf w s.view h)
    (λ e. (
      λ T t n.
          let kept = tally_filter (λ V. same_list V T) (λ V. not (is_tiling w V)) s.listed (λ V q. subst (λ X. not (is_tiling w X) ≡ true) (sym (same_list_is V T q)) (not_from_false _ n)) in
          omega (arith, kept, tally_map (λ A. meets_all s.view T A) (λ t. atoms_of t) s.pending, p.shared T t),
      all_from (λ T. is_tiling s.view T) (filter (λ T. not (is_tiling w T)) s.listed) (λ T i. all_in (λ T. is_tiling s.view T) s.listed p.only T (filter_in (λ T. not (is_tiling w T)) s.listed T i).0),
      all_filter (λ T. not (is_tiling w T)) s.listed,
    ))
    (λ e. tt)

-- a shelf for the change from a view is also one for the change from the same view with more numbers
shelf_from : (v w to : View) (h : Option Stored) → WellNamed v → Grown v w → IsShelf v to h → IsShelf w to h
shelf_from v w to None wn g k = tt
shelf_from v w to (Some h) wn g k = (
  λ T t n. k.0 T t (sym (numbers_may_grow_lem v w T wn g) ∙ n),
  k.1,
  all_from (λ T. not (is_tiling w T)) h.taken (λ T i. ap not (numbers_may_grow_lem v w T wn g) ∙ all_in (λ T. not (is_tiling v T)) h.taken k.2 T i),
)

shelf_to : (from v w : View) (h : Option Stored) → WellNamed v → Grown v w → IsShelf from v h → IsShelf from w h
shelf_to from v w None wn g k = tt
shelf_to from v w (Some h) wn g k = (
  λ T t n.
      let old : is_tiling v T ≡ true = sym (numbers_may_grow_lem v w T wn g) ∙ t in
      let same = tally_same_in (λ A. meets_all w T A) (λ A. meets_all v T A) h.frozen (λ A i. meets_all_old v w T wn g.0 (parts v T old) A) in
      omega (arith, same, k.0 T old n),
  all_from (λ T. is_tiling w T) h.taken (λ T i. numbers_may_grow_lem v w T wn g ∙ all_in (λ T. is_tiling v T) h.taken k.1 T i),
  k.2,
)

ways_from : (v w : View) (us : List Led) → WellNamed v → Grown v w → Ways v us → Ways w us
ways_from v w [] wn g k = tt
ways_from v w (u ∷ us) wn g k = (k.0, shelf_from v w u.to u.shelf wn g k.1, k.2)

ways_newest : (n : ℕ) (v : View) (us : List Led) → Ways v us → Ways v (newest n us)
ways_newest zero v us k = tt
ways_newest (suc n) v [] k = tt
ways_newest (suc n) v (u ∷ us) k = (k.0, k.1, ways_newest n u.to us k.2)

named_later : (v w : View) (us : List Led) → Names v w → Earlier v us → Earlier w us
named_later v w [] n e = tt
named_later v w (u ∷ us) n e = (names_on u.to v w e.0 n, named_later v w us n e.1)

named_newest : (n : ℕ) (v : View) (us : List Led) → Earlier v us → Earlier v (newest n us)
named_newest zero v us e = tt
named_newest (suc n) v [] e = tt
named_newest (suc n) v (u ∷ us) e = (e.0, named_newest n v us e.1)

follows_newest : (n : ℕ) (f : Change → Change) (d : Layout) (us : List Led) (bs : List Way) → Follows f d us bs → Follows f d (newest n us) (newest n bs)
follows_newest zero f d us bs k = tt
follows_newest (suc n) f d [] [] k = tt
follows_newest (suc n) f d [] (b ∷ bs) k = absurd k
follows_newest (suc n) f d (u ∷ us) [] k = absurd k
follows_newest (suc n) f d (u ∷ us) (b ∷ bs) k = (k.0, follows_newest n f (changed d (f b.change)) us bs k.1)

pub inverse_twice : (x : Change) → inverse_of (inverse_of x) ≡ x
inverse_twice (change.Cell c m n) = refl
inverse_twice (change.Piece c m n) = refl

-- a change puts one more way on top, which leads back to the design before the change
follows_push : (f : Change → Change) (s : State) (x y : Change) (w : View) (us : List Led) (bs : List Way) → IsDesign s.design → Shows s.view s.design → HasBefore s.design x → f y ≡ inverse_of x →
    Follows f s.design us bs → Follows f (changed s.design x) (led_back s w ∷ us) (way_back s y w ∷ bs)
follows_push f s x y w us bs is shows has e k =
    let back : changed (changed s.design x) (f y) ≡ s.design = ap (λ z. changed (changed s.design x) z) e ∙ restored s.design x is has in (
      record {
        before = subst (λ z. HasBefore (changed s.design x) z) (sym e) (stands s.design x is);
        design = subst (λ d. IsDesign d) (sym back) is;
        shows = subst (λ d. Shows s.view d) (sym back) shows;
        made = refl;
        shelf = refl;
      },
      subst (λ d. Follows f d us bs) (sym back) k,
    )

-- the view after an undo or a redo is that of the way, perhaps with more numbers
pub way_grown : (s : State) (f : Change → Change) (w : View) (u : Led) (us : List Led) (b : Way) (bs : List Way) → Earlier s.view (u ∷ us) → Ways s.view (u ∷ us) → Follows f s.design (u ∷ us) (b ∷ bs) → Leads s (f b.change) w → Grown u.to w
way_grown s f w u us b bs e k l g = same_design u.to w (changed s.design (f b.change)) k.0 g.well l.0.shows g.shows (names_on u.to s.view w e.0 g.names)

-- the change leads to the view, and the shelf is right for the change
record Turned (s : State) (x : Change) (w : View) (shelf : Option Stored) : Type 0 where
  leads : Leads s x w
  right : IsShelf s.view w shelf

way_turned : (s : State) (f : Change → Change) (w : View) (u : Led) (us : List Led) (b : Way) (bs : List Way) → Earlier s.view (u ∷ us) → Ways s.view (u ∷ us) → Follows f s.design (u ∷ us) (b ∷ bs) → Leads s (f b.change) w → Turned s (f b.change) w b.shelf
way_turned s f w u us b bs e k l g = record {
  leads = g;
  right = subst (λ h. IsShelf s.view w h) l.0.shelf (shelf_to s.view u.to w u.shelf k.0 (way_grown s f w u us b bs e k l g) k.1);
}

undone_consistent : (s : State) (t : Trail) (w : View) (ws : List Way) (us : List Led) → Consistent s t → Follows inverse_of s.design us ws → Ways s.view us → Earlier s.view us → LeadsBy s inverse_of ws w → Consistent (undone s w ws) (trail_undone s w us t)
undone_consistent s t w [] [] p f k e g = p
undone_consistent s t w [] (u ∷ us) p f k e g = absurd f
undone_consistent s t w (b ∷ ws) [] p f k e g = absurd f
undone_consistent s t w (b ∷ ws) (u ∷ us) p f k e g =
    let x = inverse_of b.change in
    let r = way_turned s inverse_of w u us b ws e k f g in
    record {
      design = g.design;
      well = g.well;
      shows = g.shows;
      partition = moved_partition s kind.Undo x w b.shelf (is_kept b.shelf) ws (way_back s b.change w ∷ s.forth) p.well g.names r.right p.partition;
      served = ways_from u.to w us k.0 (way_grown s inverse_of w u us b ws e k f g) k.2;
      led = (p.well, way_shelf s w p.partition, p.led);
      back_named = named_later s.view w us g.names e.1;
      forth_named = (g.names, named_later s.view w t.forth g.names p.forth_named);
      back_follows = f.1;
      forth_follows = follows_push (λ x. x) s x b.change w t.forth s.forth p.design p.shows g.before (sym (inverse_twice b.change)) p.forth_follows;
    }

redone_consistent : (s : State) (t : Trail) (w : View) (ws : List Way) (us : List Led) → Consistent s t → Follows (λ x. x) s.design us ws → Ways s.view us → Earlier s.view us → LeadsBy s (λ x. x) ws w → Consistent (redone s w ws) (trail_redone s w us t)
redone_consistent s t w [] [] p f k e g = p
redone_consistent s t w [] (u ∷ us) p f k e g = absurd f
redone_consistent s t w (b ∷ ws) [] p f k e g = absurd f
redone_consistent s t w (b ∷ ws) (u ∷ us) p f k e g =
    let x = b.change in
    let r = way_turned s (λ x. x) w u us b ws e k f g in
    record {
      design = g.design;
      well = g.well;
      shows = g.shows;
      partition = moved_partition s kind.Redo x w b.shelf (is_kept b.shelf) (newest 256 (way_back s x w ∷ s.back)) ws p.well g.names r.right p.partition;
      served = ways_newest 256 w (led_back s w ∷ t.back) (p.well, way_shelf s w p.partition, p.served);
      led = ways_from u.to w us k.0 (way_grown s (λ x. x) w u us b ws e k f g) k.2;
      back_named = named_newest 256 w (led_back s w ∷ t.back) (g.names, named_later s.view w t.back g.names p.back_named);
      forth_named = named_later s.view w us g.names e.1;
      back_follows = follows_newest 256 inverse_of (changed s.design x) (led_back s w ∷ t.back) (way_back s x w ∷ s.back) (follows_push inverse_of s x x w t.back s.back p.design p.shows g.before refl p.back_follows);
      forth_follows = f.1;
    }

handed_consistent : (s : State) (t : Trail) (k : ℕ) (tree : Plan) (o : Option Task) → find_task k s.pending ≡ o → Consistent s t → Consistent (handed_in s k o tree) t
handed_consistent s t k tree None e p = p
handed_consistent s t k tree (Some u) e p = cond_both _ _ _ (λ z. Consistent z t)
    (λ h. record {
      design = p.design;
      well = p.well;
      shows = p.shows;
      partition = cut_partition s u k tree e (and_parts (fits tree) _ h).1 p.partition;
      served = p.served;
      led = p.led;
      back_named = p.back_named;
      forth_named = p.forth_named;
      back_follows = p.back_follows;
      forth_follows = p.forth_follows;
    })
    (λ h. p)

pub step_consistent : (s : State) (e : Event) (t : Trail) → Goes s e → Consistent s t → Consistent (step s e) (trailed s e t)
step_consistent s (Edit x w) t g p = record {
  design = g.design;
  well = g.well;
  shows = g.shows;
  partition = moved_partition s kind.Edit x w None true (newest 256 (way_back s x w ∷ s.back)) [] p.well g.names tt p.partition;
  served = ways_newest 256 w (led_back s w ∷ t.back) (p.well, way_shelf s w p.partition, p.served);
  led = tt;
  back_named = named_newest 256 w (led_back s w ∷ t.back) (g.names, named_later s.view w t.back g.names p.back_named);
  forth_named = tt;
  back_follows = follows_newest 256 inverse_of (changed s.design x) (led_back s w ∷ t.back) (way_back s x w ∷ s.back) (follows_push inverse_of s x x w t.back s.back p.design p.shows g.before refl p.back_follows);
  forth_follows = tt;
}
step_consistent s (Undo w) t g p = undone_consistent s t w s.back t.back p p.back_follows p.served p.back_named g
step_consistent s (Redo w) t g p = redone_consistent s t w s.forth t.forth p p.forth_follows p.led p.forth_named g
step_consistent s (Report k tree) t g p = handed_consistent s t k tree (find_task k s.pending) refl p

pub opening_consistent : (d : Layout) (v : View) → IsDesign d → WellNamed v → Shows v d → Consistent (opening d v) (record { back = []; forth = [] })
opening_consistent d v is wn shows = record {
  design = is;
  well = wn;
  shows = shows;
  partition = record { shared = λ T t. refl; only = refl };
  served = tt;
  led = tt;
  back_named = tt;
  forth_named = tt;
  back_follows = tt;
  forth_follows = tt;
}

none_fails_at : (n : ℕ) (b c : Bool) → one (not b) + n ≡ 0 → (n ≡ 0 → c ≡ true) → (b && c) ≡ true
none_fails_at n true c h ih = ih (omega (arith, h))
none_fails_at n false c h ih = absurd (omega (arith, h))

none_fails : {X : Type 0} (f : X → Bool) (xs : List X) → tally (λ x. not (f x)) xs ≡ 0 → list_all f xs ≡ true
none_fails f [] h = refl
none_fails f (x ∷ xs) h = none_fails_at (tally (λ y. not (f y)) xs) (f x) (list_all f xs) h (λ e. none_fails f xs e)

-- a state stays consistent if only the order of its listed tilings changes
relisted_consistent : (s : State) (L : List (List ℕ)) (t : Trail) → ((f : List ℕ → Bool) → tally f L ≡ tally f s.listed) → Consistent s t → Consistent (record s { listed = L }) t
relisted_consistent s L t order p = record {
  design = p.design;
  well = p.well;
  shows = p.shows;
  partition = record {
    shared = λ T o. omega (arith, p.partition.shared T o, order (λ U. same_list U T));
    only = none_fails (λ U. is_tiling s.view U) L (order (λ U. not (is_tiling s.view U)) ∙ tally_none (λ U. not (is_tiling s.view U)) s.listed (λ U i. ap not (all_in (λ U. is_tiling s.view U) s.listed p.partition.only U i)));
  };
  served = p.served;
  led = p.led;
  back_named = p.back_named;
  forth_named = p.forth_named;
  back_follows = p.back_follows;
  forth_follows = p.forth_follows;
}

pub becomes_consistent : (s z : State) (t : Trail) → Becomes s z → Consistent s t → Consistent z t
becomes_consistent s z t k p = subst (λ y. Consistent y t) (sym k.same) (relisted_consistent s z.listed t k.order p)
