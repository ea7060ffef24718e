-- What the path to a rest adds to the atoms of the task. If the path takes and leaves only open placements of the
-- design, the rest is hopeless exactly if the atoms of the task are.
use Rattle.std.proofs.Common.{Bool, List, [], ap, append_assoc, arith, cond, eqb, false, inl, inr, leb, map, not, subst, sym, true, ℕ, ◌&&◌, ◌++◌, ◌≤◌, ◌||◌, ◌∙◌, ◌∷◌, ◌≡◌, ◌⊎◌}
use Rattle.std.specs.List.{list_any}
use Rattle.std.proofs.lemmas.Bool.{and_from, and_parts, both_ways, cases_lt, le-leb, leb-true, ne_eqb, not-true, not_from_false, or_parts}
use Rattle.std.proofs.lemmas.List.{append-nil, map-append}
use Rattle.poly_tiling.specs.Lists.{mem}
use Rattle.poly_tiling.specs.declared.item.Item.{Item}
use Rattle.poly_tiling.specs.Puzzle.{View, conflicts, count, has_item, is_piece, items, most}
use Rattle.poly_tiling.proofs.Counts.{ascending_distinct, tally_within}
use Rattle.poly_tiling.proofs.Lists.{In, all_from, any_from, any_none, in_append_cases, in_append_left, in_mem}
use Rattle.poly_atom.specs.declared.atom.Atom.{Atom}
use Rattle.poly_atom.specs.declared.atom.Atom.TheVariants.{Has, Lacks}
use Rattle.poly_atom.specs.Hopeless.{base, hopeless, lacks}
use Rattle.poly_atom.specs.Newly.{IsOpenFor}
use Rattle.poly_atom.proofs.Bases.{base_up}
use Rattle.poly_atom.proofs.Hopes.{leaving_keeps_hope_lem, taking_keeps_hope_lem}
use Rattle.poly_frame.specs.Open.{dead, open_in, others, ruled_out, most_at}
use Rattle.poly_frame.proofs.Later.{most_le_most}
use Rattle.poly_report.specs.Trees.{Arms, Branches, Finds, NoArms, OneArm, Plan, Rests, Splits}
use Rattle.poly_report.specs.Holds.{arm_atoms}
use Rattle.poly_report.specs.Leaves.{arms_rests, rests}
use Rattle.poly_report.specs.Opened.{arms_opened, can_take, opened}
use Rattle.poly_report.specs.Laws.{OpenPathsAddNothingHopeless}

under : (d : Bool) (xs ys : List (List Atom)) (B : List Atom) → In B (cond d [] xs ++ ys) → In B xs ⊎ In B ys
under true xs ys B i = inr i
under false xs ys B i = in_append_cases B xs ys i

-- a rest consists of the given atoms, followed by those of the path
mutual
  pub rest_after : (v : View) (t : Plan) (A B : List Atom) → In B (rests v A t) → (X : List Atom) × (B ≡ A ++ X)
  rest_after v Rests A B (inl e) = ([], sym e ∙ sym (append-nil A))
  rest_after v Rests A B (inr i) = absurd i
  rest_after v Finds A B i = absurd i
  rest_after v (Branches j arms) A B i = arms_after v arms A [] B i
  rest_after v (Splits q taken left) A B i = elim (under (dead v A q) (rests v (A ++ Has q ∷ []) taken) (rests v (A ++ Lacks q ∷ []) left) B i) [
    | inl j ↦ let r = rest_after v taken (A ++ Has q ∷ []) B j in (Has q ∷ r.0, r.1 ∙ append_assoc A (Has q ∷ []) r.0)
    | inr j ↦ let r = rest_after v left (A ++ Lacks q ∷ []) B j in (Lacks q ∷ r.0, r.1 ∙ append_assoc A (Lacks q ∷ []) r.0)
  ]

  arms_after : (v : View) (arms : Arms) (A : List Atom) (before : List ℕ) (B : List Atom) → In B (arms_rests v A before arms) → (X : List Atom) × (B ≡ A ++ X)
  arms_after v NoArms A before B i = absurd i
  arms_after v (OneArm p t arms) A before B i = elim (under (dead v A p) (rests v (A ++ arm_atoms before p) t) (arms_rests v A (before ++ p ∷ []) arms) B i) [
    | inl j ↦ let r = rest_after v t (A ++ arm_atoms before p) B j in (arm_atoms before p ++ r.0, r.1 ∙ append_assoc A (arm_atoms before p) r.0)
    | inr j ↦ arms_after v arms A (before ++ p ∷ []) B j
  ]

-- so a rest has each of the given atoms
pub rest_has : (v : View) (t : Plan) (A B : List Atom) → In B (rests v A t) → (a : Atom) → In a A → In a B
rest_has v t A B i a k = let r = rest_after v t A B i in subst (λ C. In a C) (sym r.1) (in_append_left a A r.0 k)

-- if p isn't in the base, no member of the base that has the item is p
count_others : (v : View) (A : List Atom) (p : ℕ) (i : Item) → mem (base v A) p ≡ false → count v (base v A) i ≤ others v (base v A) p i
count_others v A p i out = tally_within (λ q. has_item v q i) (λ q. has_item v q i && not (eqb q p)) (base v A) (base v A) (ascending_distinct (base v A) (base_up v A))
    (λ q k e. (k, and_from _ _ e (not_from_false _ (ne_eqb q p (λ s. both_ways (mem (base v A) p) out (in_mem (base v A) p (subst (λ z. In z (base v A)) s k)))))))

-- a placement of the design that is open may join the base
open_for : (v : View) (A : List Atom) (p : ℕ) → can_take v A p ≡ true → IsOpenFor v A p
open_for v A p h =
    let hs = and_parts (mem v.live p) (open_in v A p) h in
    let os = and_parts (not (mem (base v A) p)) (not (ruled_out v A p)) hs.1 in
    let out = not-true _ os.0 in
    let full = list_any (λ i. leb (most_at v A i) (others v (base v A) p i)) (items v p) in
    let x = or_parts (list_any (λ a. lacks a p) A || list_any (λ q. conflicts v p q) (base v A)) full (not-true _ os.1) in
    let y = or_parts (list_any (λ a. lacks a p) A) (list_any (λ q. conflicts v p q) (base v A)) x.0 in
    record {
      live = hs.0;
      outside = out;
      spared = y.0;
      apart = y.1;
      room = any_none (λ i. is_piece i && leb (most v i) (count v (base v A) i)) (items v p) (λ i k e.
          let low = leb-true (most v i) (count v (base v A) i) (and_parts (is_piece i) (leb (most v i) (count v (base v A) i)) e).1 in
          let all = count_others v A p i out in
          let top = most_le_most v i A in
          elim (cases_lt (others v (base v A) p i) (most_at v A i)) [
            | inl l ↦ absurd (omega arith)
            | inr g ↦ both_ways full x.1 (any_from (λ j. leb (most_at v A j) (others v (base v A) p j)) (items v p) i k (le-leb _ _ g))
          ]);
    }

-- so taking or leaving an open placement of the design doesn't change whether the atoms are hopeless
hopeless_pick : (v : View) (A : List Atom) (p : ℕ) → can_take v A p ≡ true → hopeless v (A ++ Has p ∷ []) ≡ hopeless v A
hopeless_pick v A p h = taking_keeps_hope_lem v A p (open_for v A p h)

hopeless_leave : (v : View) (A : List Atom) (p : ℕ) → can_take v A p ≡ true → hopeless v (A ++ Lacks p ∷ []) ≡ hopeless v A
hopeless_leave v A p h = leaving_keeps_hope_lem v A p (open_for v A p h).outside

behind : (A : List Atom) (before : List ℕ) (p : ℕ) → (A ++ map (λ q. Lacks q) before) ++ Lacks p ∷ [] ≡ A ++ map (λ q. Lacks q) (before ++ p ∷ [])
behind A before p = append_assoc A (map (λ q. Lacks q) before) (Lacks p ∷ []) ∙ ap (λ xs. A ++ xs) (sym (map-append (λ q. Lacks q) before (p ∷ [])))

-- if a tree takes and leaves only open placements of the design, each of its rests is hopeless exactly if the atoms are
mutual
  pub rest_as_hopeless : (v : View) (t : Plan) (A B : List Atom) → opened v A t ≡ true → In B (rests v A t) → hopeless v B ≡ hopeless v A
  rest_as_hopeless v Rests A B o (inl e) = ap (hopeless v) (sym e)
  rest_as_hopeless v Rests A B o (inr i) = absurd i
  rest_as_hopeless v Finds A B o i = absurd i
  rest_as_hopeless v (Branches j arms) A B o i = arms_as_hopeless v arms A [] B (ap (hopeless v) (append-nil A)) o i
  rest_as_hopeless v (Splits q taken left) A B o i =
      let os = and_parts (can_take v A q) (opened v (A ++ Has q ∷ []) taken && opened v (A ++ Lacks q ∷ []) left) o in
      let both = and_parts (opened v (A ++ Has q ∷ []) taken) (opened v (A ++ Lacks q ∷ []) left) os.1 in
      elim (under (dead v A q) (rests v (A ++ Has q ∷ []) taken) (rests v (A ++ Lacks q ∷ []) left) B i) [
        | inl j ↦ rest_as_hopeless v taken (A ++ Has q ∷ []) B both.0 j ∙ hopeless_pick v A q os.0
        | inr j ↦ rest_as_hopeless v left (A ++ Lacks q ∷ []) B both.1 j ∙ hopeless_leave v A q os.0
      ]

  arms_as_hopeless : (v : View) (arms : Arms) (A : List Atom) (before : List ℕ) (B : List Atom) → hopeless v (A ++ map (λ q. Lacks q) before) ≡ hopeless v A → arms_opened v A before arms ≡ true → In B (arms_rests v A before arms) → hopeless v B ≡ hopeless v A
  arms_as_hopeless v NoArms A before B same o i = absurd i
  arms_as_hopeless v (OneArm p t arms) A before B same o i =
      let C = A ++ map (λ q. Lacks q) before in
      let os = and_parts (can_take v C p) (opened v (A ++ arm_atoms before p) t && arms_opened v A (before ++ p ∷ []) arms) o in
      let both = and_parts (opened v (A ++ arm_atoms before p) t) (arms_opened v A (before ++ p ∷ []) arms) os.1 in
      elim (under (dead v A p) (rests v (A ++ arm_atoms before p) t) (arms_rests v A (before ++ p ∷ []) arms) B i) [
        | inl j ↦ rest_as_hopeless v t (A ++ arm_atoms before p) B both.0 j ∙ ap (hopeless v) (sym (append_assoc A (map (λ q. Lacks q) before) (Has p ∷ []))) ∙ hopeless_pick v C p os.0 ∙ same
        | inr j ↦ arms_as_hopeless v arms A (before ++ p ∷ []) B (ap (hopeless v) (sym (behind A before p)) ∙ hopeless_leave v C p os.0 ∙ same) both.1 j
      ]

told : (a b : Bool) → b ≡ a → cond a b (not b) ≡ true
told true b e = e
told false b e = not_from_false b e

pub open_paths_add_nothing_hopeless_lem : OpenPathsAddNothingHopeless
open_paths_add_nothing_hopeless_lem v A t o =
    all_from (λ B. cond (hopeless v A) (hopeless v B) (not (hopeless v B))) (rests v A t) (λ B i. told (hopeless v A) (hopeless v B) (rest_as_hopeless v t A B o i))
