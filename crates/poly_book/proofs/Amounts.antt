-- A book lists no more tilings than its design has, and all of them if nothing is pending.
use Rattle.std.proofs.Common.{Bool, List, None, Option, Some, [], ap, arith, cond, false, get_or, inl, inr, length, refl, subst, sym, true, ℕ, ◌+◌, ◌<◌, ◌∙◌, ◌∷◌, ◌≡◌, ◌≢◌, ◌≤◌, ◌⊎◌, ◌↔◌}
use Rattle.std.proofs.lemmas.Bool.{cases_lt}
use Rattle.std.proofs.lemmas.Cmp.{lists_total}
use Rattle.std.specs.Cmp.Lexicographic.{slice_cmp}
use Rattle.std.specs.List.{All, AllPairs, Contains}
use Rattle.std.specs.declared.cmp.Ordering.TheVariants.{Less}
use Rattle.poly_grid.specs.declared.refusal.Refusal.{Refusal}
use Rattle.poly_grid.specs.declared.refusal.Refusal.TheVariants.{CatalogueFull, DoesNotHold, Gone, Memory, NothingToRedo, NothingToUndo, Spent, TooLarge, Unfinished}
use Rattle.poly_shape.proofs.Ascending.{not_below_itself, same_ascending}
use Rattle.poly_design.specs.Changes.{changed, inverse_of}
use Rattle.poly_design.specs.Layout.{Layout}
use Rattle.poly_design.specs.PlacementOrder.{placement_cmp, placement_total}
use Rattle.poly_design.specs.declared.placement.Placement.{Placement}
use Rattle.poly_tiling.specs.Listings.{HasOverTilings, IsTilingInOrder}
use Rattle.poly_tiling.specs.Lists.{one}
use Rattle.poly_tiling.specs.Names.{WellNamed}
use Rattle.poly_tiling.specs.Puzzle.{View}
use Rattle.poly_tiling.specs.Shows.{Shows, names}
use Rattle.poly_tiling.proofs.Contained.{contains_in, in_contains, pairs_head, pairs_rest}
use Rattle.poly_tiling.proofs.Listings.{over_show_lem, tally_has}
use Rattle.poly_tiling.proofs.Lists.{In}
use Rattle.poly_tiling.proofs.Reached.{numbers_reach_lem}
use Rattle.poly_report.specs.Trees.{Plan}
use Rattle.poly_book.specs.declared.step.Kind.TheVariants as kind
use Rattle.poly_book.specs.Amounts.{AreAllTilingsOf, AreTilingsOf, RedoIsFull, UndoIsFull}
use Rattle.poly_book.specs.Events.{Event, Goes, LeadsBy, Redo, Report, Undo, cut, handed_in, redone, step, undone}
use Rattle.poly_book.specs.Partition.{Partition}
use Rattle.poly_book.specs.Refused.{IsNotApplied, IsNotMade, IsNotRedone, IsNotUndone, IsOver}
use Rattle.poly_book.specs.Settled.{IsNotSettled}
use Rattle.poly_book.specs.States.{State}
use Rattle.poly_tasks.specs.Tasks.{Task, find_task}
use Rattle.poly_book.specs.Whole.{Whole}
use Rattle.poly_book.proofs.Cataloguing.{becomes_itself, listed_once}
use Rattle.poly_book.proofs.Nexting.{partition_each}
use Rattle.poly_book.proofs.Proved.{steps_keep_whole_lem}

-- ---- partners

abbrev without : {Y : Type 0} (y : Y) (ys : List Y) → In y ys → List Y
without y [] i = absurd i
without y (z ∷ zs) (inl e) = zs
without y (z ∷ zs) (inr i) = z ∷ without y zs i

one_less : {Y : Type 0} (y : Y) (ys : List Y) (i : In y ys) → length ys ≡ length (without y ys i) + 1
one_less y [] i = absurd i
one_less y (z ∷ zs) (inl e) = omega arith
one_less y (z ∷ zs) (inr i) = let h = one_less y zs i in omega (arith, h)

stays : {Y : Type 0} (z y : Y) (ys : List Y) (i : In y ys) → In z ys → (y ≡ z) ⊎ In z (without y ys i)
stays z y [] i j = absurd j
stays z y (x ∷ xs) (inl e) (inl f) = inl (sym e ∙ f)
stays z y (x ∷ xs) (inl e) (inr j) = inr j
stays z y (x ∷ xs) (inr i) (inl f) = inr (inl f)
stays z y (x ∷ xs) (inr i) (inr j) = elim (stays z y xs i j) [ inl e ↦ inl e | inr k ↦ inr (inr k) ]

-- if the elements of a list differ, and each has a partner of its own in another list, the first list isn't longer than the
-- second
pub partners : {X Y : Type 0} (R : X → Y → Type 0) (xs : List X) (ys : List Y) → AllPairs (λ x z. x ≢ z) xs → ((x : X) → In x xs → (y : Y) × In y ys × R x y) → ((x z : X) (y : Y) → R x y → R z y → x ≡ z) → length xs ≤ length ys
partners R [] ys apart find single = omega arith
partners {X} {Y} R (x ∷ xs) ys apart find single =
    let p = find x (inl refl) in
    let other : (z : X) → In z xs → (y : Y) × In y (without p.0 ys p.1) × R z y = λ z j.
    let q = find z (inr j) in
    elim (stays q.0 p.0 ys p.1 q.1) [
      | inl e ↦ absurd (pairs_head (λ a b. a ≢ b) x xs apart z j (single x z p.0 p.2 (subst (λ y. R z y) (sym e) q.2)))
      | inr k ↦ (q.0, k, q.2)
    ] in
    let rest = partners R xs (without p.0 ys p.1) (pairs_rest (λ a b. a ≢ b) x xs apart) other single in
    let more = one_less p.0 ys p.1 in
    omega (arith, rest, more)

all_at : {X : Type 0} (P : X → Type 0) (xs : List X) → All P xs → (x : X) → In x xs → P x
all_at P xs h x i = let c = in_contains xs x i in subst P c.2 (h c.0 x c.1)

-- ---- amounts of tilings

-- S is a tiling of the design, written in order, and the numbers T name its placements
record StandFor (v : View) (d : Layout) (S : List Placement) (T : List ℕ) : Type 0 where
  ordered : IsTilingInOrder d S
  same : (p : Placement) → Contains (names v T) p ↔ Contains S p

stand_for_one : (v : View) (d : Layout) (S R : List Placement) (T : List ℕ) → StandFor v d S T → StandFor v d R T → S ≡ R
stand_for_one v d S R T a b = same_ascending placement_total S R a.ordered.1 b.ordered.1 (λ p c. (b.same p).0 ((a.same p).1 c)) (λ p c. (a.same p).0 ((b.same p).1 c))

pub listed_few : (s : State) → WellNamed s.view → Shows s.view s.design → Partition s → AreTilingsOf (length s.listed) s.design
listed_few s wn shows p all is = elim (cases_lt (length all) (length s.listed)) [
  | inl l ↦
      let over = over_show_lem (length all) s.view s.design wn shows (record { list = s.listed; once = listed_once s p; long = l }) in
      let few = partners (λ (x y : List Placement). x ≡ y) over.list all over.apart
      (λ x i. (x, contains_in all x ((is.exact x).1 (all_at (IsTilingInOrder s.design) over.list over.tilings x i)), refl))
      (λ x z y e f. e ∙ sym f) in
      let long = over.long in
      absurd (omega (arith, few, long))
  | inr g ↦ g
]

pub listed_all : (s : State) → WellNamed s.view → Shows s.view s.design → Partition s → s.pending ≡ [] → AreAllTilingsOf (length s.listed) s.design
listed_all s wn shows p none all is =
    let each = partition_each s p none in
    let few = listed_few s wn shows p all is in
    let more = partners (StandFor s.view s.design) all s.listed
    (λ i j d l m e. not_below_itself (lists_total placement_total) (get_or all j d) (subst (λ z. slice_cmp placement_cmp z (get_or all j d) ≡ Less) e (is.ascending i j d l m)))
    (λ S i.
    let t = (is.exact S).0 (in_contains all S i) in
    let r = numbers_reach_lem s.view s.design S wn shows t.0 in
    let there = tally_has r.0 s.listed (let e = each r.0 in let y = ap one r.1 in omega (arith, e, y)) in
    (r.0, there, record { ordered = t; same = r.2.same }))
    (λ S R T a b. stand_for_one s.view s.design S R T a b) in
    omega (arith, few, more)

-- ---- more than a catalogue holds

pub whole_over : (n : ℕ) (s : State) → Whole s → n < length s.listed → HasOverTilings n s.design
whole_over n s p l = over_show_lem n s.view s.design p.consistent.well p.consistent.shows (record { list = s.listed; once = listed_once s p.consistent.partition; long = l })

step_over : (n : ℕ) (s : State) (e : Event) → Whole s → Goes s e → n < length (step s e).listed → HasOverTilings n (step s e).design
step_over n s e p g l = whole_over n (step s e) (steps_keep_whole_lem s (step s e) e p g (becomes_itself (step s e))) l

cut_design : (s : State) (k : ℕ) (t : Task) (tree : Plan) (b : Bool) → (cond b (cut s k t tree) s).design ≡ s.design
cut_design s k t tree true = refl
cut_design s k t tree false = refl

report_design : (s : State) (k : ℕ) (o : Option Task) (tree : Plan) → (handed_in s k o tree).design ≡ s.design
report_design s k None tree = refl
report_design s k (Some t) tree = cut_design s k t tree _

pub over_full : (k : ℕ) (tree : Plan) (s : State) (e : Refusal) → Whole s → IsOver k tree s e → e ≡ CatalogueFull → HasOverTilings 1000000 s.design
over_full k tree s e p (inl o) q = absurd (no (sym o.0 ∙ q))
  where
    no : Spent ≡ CatalogueFull → ⊥
    no x = cc
over_full k tree s e p (inr (inl o)) q = subst (λ d. HasOverTilings 1000000 d) (report_design s k (find_task k s.pending) tree) (step_over 1000000 s (Report k tree) p tt o.1)
over_full k tree s e p (inr (inr m)) q = absurd (no (sym m ∙ q))
  where
    no : Memory ≡ CatalogueFull → ⊥
    no x = cc

pub applied_full : (k : ℕ) (tree : Plan) (s : State) (e : Refusal) → Whole s → IsNotApplied k tree s e → e ≡ CatalogueFull → HasOverTilings 1000000 s.design
applied_full k tree s e p (inl g) q = absurd (no (sym g.0 ∙ q))
  where
    no : Gone ≡ CatalogueFull → ⊥
    no x = cc
applied_full k tree s e p (inr (inl h)) q = elim h.2 [ inl l ↦ absurd (no_size (sym l.0 ∙ q)) | inr w ↦ absurd (no_hold (sym w.0 ∙ q)) ]
  where
    no_size : TooLarge ≡ CatalogueFull → ⊥
    no_size x = cc

    no_hold : DoesNotHold ≡ CatalogueFull → ⊥
    no_hold x = cc
applied_full k tree s e p (inr (inr o)) q = over_full k tree s e p o q

pub settled_full : (turns : ℕ) (s t : State) (e : Refusal) → Whole t → IsNotSettled turns s t e → e ≡ CatalogueFull → HasOverTilings 1000000 s.design
settled_full turns s t e p (inl u) q = absurd (no (sym u.0 ∙ q))
  where
    no : Unfinished ≡ CatalogueFull → ⊥
    no x = cc
settled_full turns s t e p (inr r) q = elim r.3 [
  | inl m ↦ absurd (no (sym m ∙ q))
  | inr f ↦ subst (λ d. HasOverTilings 1000000 d) r.2.design (over_full f.0 f.1 t e p f.4 q)
]
  where
    no : Memory ≡ CatalogueFull → ⊥
    no x = cc

pub undone_full : (s : State) (e : Refusal) → Whole s → IsNotUndone s e → e ≡ CatalogueFull → UndoIsFull s
undone_full s e p (inl n) q = absurd (no (sym n.0 ∙ q))
  where
    no : NothingToUndo ≡ CatalogueFull → ⊥
    no x = cc
undone_full s e p (inr u) q = (u.0, u.1, u.2, made u.3)
  where
    no_spent : Spent ≡ CatalogueFull → ⊥
    no_spent x = cc

    no_memory : Memory ≡ CatalogueFull → ⊥
    no_memory x = cc

    made : IsNotMade kind.Undo (inverse_of u.0.change) s e → HasOverTilings 1000000 (changed s.design (inverse_of u.0.change))
    made (inl n) = absurd (no_spent (sym n.0 ∙ q))
    made (inr (inl f)) = subst (λ d. HasOverTilings 1000000 d) (ap (λ ws. (undone s f.1.0 ws).design) u.2) (step_over 1000000 s (Undo f.1.0) p (subst (λ ws. LeadsBy s inverse_of ws f.1.0) (sym u.2) f.1.1) f.1.2.0)
    made (inr (inr m)) = absurd (no_memory (sym m ∙ q))

pub redone_full : (s : State) (e : Refusal) → Whole s → IsNotRedone s e → e ≡ CatalogueFull → RedoIsFull s
redone_full s e p (inl n) q = absurd (no (sym n.0 ∙ q))
  where
    no : NothingToRedo ≡ CatalogueFull → ⊥
    no x = cc
redone_full s e p (inr u) q = (u.0, u.1, u.2, made u.3)
  where
    no_spent : Spent ≡ CatalogueFull → ⊥
    no_spent x = cc

    no_memory : Memory ≡ CatalogueFull → ⊥
    no_memory x = cc

    made : IsNotMade kind.Redo u.0.change s e → HasOverTilings 1000000 (changed s.design u.0.change)
    made (inl n) = absurd (no_spent (sym n.0 ∙ q))
    made (inr (inl f)) = subst (λ d. HasOverTilings 1000000 d) (ap (λ ws. (redone s f.1.0 ws).design) u.2) (step_over 1000000 s (Redo f.1.0) p (subst (λ ws. LeadsBy s (λ x. x) ws f.1.0) (sym u.2) f.1.1) f.1.2.0)
    made (inr (inr m)) = absurd (no_memory (sym m ∙ q))
