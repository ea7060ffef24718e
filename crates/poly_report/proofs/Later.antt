-- A tree that held keeps holding.
use Rattle.std.proofs.Common.{◌≡◌, ℕ, Bool, true, false, not, ◌||◌, eqb, List, [], ◌∷◌, ◌++◌, ◌⊎◌, inl, inr, refl, ap, subst, ◌∙◌, Option, Some, None, slice_get, ◌≤◌, ltb, arith}
use Rattle.std.specs.List.{list_any}
use Rattle.std.proofs.lemmas.Bool.{and_parts, and_from, or_cases, or_left, or_right, both_ways, not-true, not-false, not_from_false, false_from_ne_true, cases_Bool, and_cases, ltb-false}
use Rattle.poly_tiling.specs.Lists.{mem}
use Rattle.poly_design.specs.declared.placement.Placement.{Placement}
use Rattle.poly_tiling.specs.Puzzle.{View, items_of, same_item, conflicts, share_cell, least, most}
use Rattle.poly_atom.specs.declared.atom.Atom.{Atom}
use Rattle.poly_atom.specs.declared.atom.Atom.TheVariants.{Has, Lacks, AtLeast, AtMost}
use Rattle.poly_atom.specs.Guards.{guards}
use Rattle.poly_atom.specs.Hopeless.{base}
use Rattle.poly_frame.proofs.Later.{Later, lacks_rules, later_arms, later_base, later_dead, later_push, later_ruled}
use Rattle.poly_report.specs.Trees.{Plan, Rests, Finds, Branches, Splits, Arms, NoArms, OneArm, heads}
use Rattle.poly_frame.specs.Open.{ruled_out, open_in, dead, arms_fit}
use Rattle.poly_report.specs.Holds.{arm_atoms, holds, arms_hold}
use Rattle.poly_report.specs.Laws.{TreesKeepHolding}
use Rattle.poly_tiling.specs.Names.{Names, WellNamed}
use Rattle.poly_tiling.proofs.Orders.{live_once}
use Rattle.poly_tiling.proofs.Lists.{In, all_in, all_from, any_in, mem_in, in_mem, in_append_left, in_append_right, slice_get_more}
use Rattle.poly_tiling.proofs.Tilings.{same_item_is, bound_none}
use Rattle.poly_atom.proofs.GuardKinds.{guard_lacks, guard_least, guard_most, guard_has}
use Rattle.poly_tiling.proofs.Named.{items_same, listed_item}

later_found : (v w : View) (A B : List Atom) → Later v A w B → holds v A Finds ≡ true → holds w B Finds ≡ true
later_found v w A B l h = all_from (λ p. not (open_in w B p)) w.live (λ p i. not_from_false _ (false_from_ne_true (open_in w B p) (λ o.
    let os = and_parts (not (mem (base w B) p)) (not (ruled_out w B p)) o in
    elim (l.placed p i) [
      | inl j ↦ let closed = not-true _ (all_in (λ p. not (open_in v A p)) v.live h p j) in
          elim (and_cases (not (mem (base v A) p)) (not (ruled_out v A p)) closed) [
            | inl b ↦ both_ways (mem (base w B) p) (not-true _ os.0) (in_mem (base w B) p (later_base v w A B l p (mem_in (base v A) p (not-false _ b))))
            | inr r ↦ both_ways (ruled_out w B p) (not-true _ os.1) (later_ruled v w A B l p j (not-false _ r))
          ]
      | inr j ↦ both_ways (ruled_out w B p) (not-true _ os.1) (lacks_rules v w A B l p j)
    ])))

-- the tree under a placement keeps holding, even if the placement is dead later
later_child : (d e h k : Bool) → (d ≡ true → e ≡ true) → (h ≡ true → k ≡ true) → (d || h) ≡ true → (e || k) ≡ true
later_child d e h k dies keeps o = elim (or_cases d h o) [ inl a ↦ or_left e k (dies a) | inr b ↦ or_right e k (keeps b) ]

mutual
  keeps : (t : Plan) (v w : View) (A B : List Atom) → Later v A w B → holds v A t ≡ true → holds w B t ≡ true
  keeps Rests v w A B l h = refl
  keeps Finds v w A B l h = later_found v w A B l h
  keeps (Branches i arms) v w A B l h =
      let hs = and_parts (arms_fit v A i (heads arms)) (arms_hold v A [] arms) h in
      and_from _ _ (later_arms v w A B l i (heads arms) hs.0) (arms_keep arms v w A B [] l hs.1)
  keeps (Splits q taken left) v w A B l h =
      let hs = and_parts (holds v (A ++ Lacks q ∷ []) left) (dead v A q || holds v (A ++ Has q ∷ []) taken) h in
      and_from _ _ (keeps left v w (A ++ Lacks q ∷ []) (B ++ Lacks q ∷ []) (later_push v w A B (Lacks q ∷ []) l) hs.0)
      (later_child (dead v A q) (dead w B q) _ _ (later_dead v w A B l q) (keeps taken v w (A ++ Has q ∷ []) (B ++ Has q ∷ []) (later_push v w A B (Has q ∷ []) l)) hs.1)

  arms_keep : (arms : Arms) (v w : View) (A B : List Atom) (before : List ℕ) → Later v A w B → arms_hold v A before arms ≡ true → arms_hold w B before arms ≡ true
  arms_keep NoArms v w A B before l h = refl
  arms_keep (OneArm p t arms) v w A B before l h =
      let hs = and_parts (dead v A p || holds v (A ++ arm_atoms before p) t) (arms_hold v A (before ++ p ∷ []) arms) h in
      and_from _ _ (later_child (dead v A p) (dead w B p) _ _ (later_dead v w A B l p) (keeps t v w (A ++ arm_atoms before p) (B ++ arm_atoms before p) (later_push v w A B (arm_atoms before p) l)) hs.0)
      (arms_keep arms v w A B (before ++ p ∷ []) l hs.1)

share_none : (o : Option Placement) → share_cell o None ≡ false
share_none None = refl
share_none (Some x) = refl

named_conflict : (old new : View) → Names old new → (p q : ℕ) → conflicts old p q ≡ true → conflicts new p q ≡ true
named_conflict old new names p q h =
    let hs = and_parts (not (eqb p q)) (share_cell (slice_get old.placements p) (slice_get old.placements q)) h in
    let a = slice_get_more (λ o. share_cell o (slice_get old.placements q)) old.placements names.0 p refl hs.1 in
    let b = slice_get_more (λ o. share_cell (slice_get (old.placements ++ names.0) p) o) old.placements names.0 q (share_none _) a in
    and_from _ _ hs.0 (ap (λ xs. share_cell (slice_get xs p) (slice_get xs q)) names.1 ∙ b)

-- the design after a change is a later one, with the guards of the change added to the atoms
pub later_change : (old new : View) (A : List Atom) → WellNamed old → WellNamed new → Names old new → Later old A new (A ++ guards old new)
later_change old new A wn wm names = record {
  atoms = λ a i. in_append_left a A (guards old new) i;
  placed = λ p i. elim (cases_Bool (mem old.live p)) [ inl y ↦ inl (mem_in old.live p y) | inr n ↦ inr (in_append_right (Lacks p) A (guards old new) (guard_lacks old new p i n)) ];
  enough = λ i. elim (cases_Bool (list_any (λ b. same_item b.item i) old.bounds)) [
    | inl y ↦ let x = any_in (λ b. same_item b.item i) old.bounds y in
        subst (λ k. (least old k ≤ least new k) ⊎ In (AtLeast k (least old k)) (A ++ guards old new)) (same_item_is x.0.item i x.2)
        (elim (cases_Bool (ltb (least new x.0.item) (least old x.0.item))) [ inl l ↦ inr (in_append_right _ A (guards old new) (guard_least old new x.0 x.1 l)) | inr l ↦ inl (ltb-false _ _ l) ])
    | inr n ↦ inl (omega (arith, bound_none old.bounds i (λ b. b.least) n))
  ];
  few = λ p i k h. let x = any_in (λ b. same_item b.item i) old.bounds (listed_item old wn p k i h) in
      subst (λ k. (most new k ≤ most old k) ⊎ In (AtMost k (most old k)) (A ++ guards old new)) (same_item_is x.0.item i x.2)
      (elim (cases_Bool (ltb (most old x.0.item) (most new x.0.item))) [ inl l ↦ inr (in_append_right _ A (guards old new) (guard_most old new x.0 x.1 l)) | inr l ↦ inl (ltb-false _ _ l) ]);
  pinned = λ p i. elim (cases_Bool (mem new.pins p)) [ inl y ↦ inl (mem_in new.pins p y) | inr n ↦ inr (in_append_right (Has p) A (guards old new) (guard_has old new p i n)) ];
  carried = λ p i h. ap (λ xs. list_any (λ j. same_item j i) (items_of (slice_get xs p))) names.1 ∙ slice_get_more (λ o. list_any (λ j. same_item j i) (items_of o)) old.placements names.0 p refl h;
  same_items = items_same old new wn names;
  conflicting = named_conflict old new names;
  once = (live_once new wm);
}

pub trees_keep_holding_lem : TreesKeepHolding
trees_keep_holding_lem old new A t wn wm names h = keeps t old new A (A ++ guards old new) (later_change old new A wn wm names) h
