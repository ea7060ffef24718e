-- The code's tests of a Branch's arms decide whether the arms fit.
use Rattle.std.proofs.Common.{Bool, List, [], ap, arith, false, ltb, not, refl, sym, true, ℕ, ◌&&◌, ◌+◌, ◌-◌, ◌∙◌, ◌∷◌, ◌≡◌}
use Rattle.std.proofs.lemmas.Bool.{and_from, and_parts}
use Rattle.std.specs.List.{list_all}
use Rattle.poly_tiling.specs.Lists.{distinct, mem, one, tally}
use Rattle.poly_tiling.proofs.Lists.{In, all_in, in_mem, mem_in}
use Rattle.poly_tiling.proofs.Counts.{tally_within}
use Rattle.poly_frame.proofs.FrameArms.{apart}
use Rattle.poly_tiling.specs.declared.item.Item.{Item}
use Rattle.poly_tiling.specs.Puzzle.{View, has_item}
use Rattle.poly_atom.specs.declared.atom.Atom.{Atom}
use Rattle.poly_report.specs.declared.tree.Arm.{Arm}
use Rattle.poly_report.specs.Trees.{heads}
use Rattle.poly_report.specs.Shapes.{arms_list}
use Rattle.poly_frame.specs.Open.{arms_fit, least_with_base, ruled_out}

pub all_heads : (f : ℕ → Bool) (arms : List Arm) → list_all f (heads (arms_list arms)) ≡ list_all (λ a. f a.placement) arms
all_heads f [] = refl
all_heads f (a ∷ arms) = ap (λ b. f a.placement && b) (all_heads f arms)

-- the arms of a Branch don't fit if two have the same placement, or if one has a placement without the item
pub not_once : (v : View) (A : List Atom) (i : Item) (arms : List Arm) → distinct (heads (arms_list arms)) ≡ false → false ≡ arms_fit v A i (heads (arms_list arms))
not_once v A i arms n =
    let ps = heads (arms_list arms) in
    ap (λ b. b && list_all (λ p. has_item v p i) ps && ltb (tally (λ p. has_item v p i && not (ruled_out v A p) && not (mem ps p)) v.live) (least_with_base v A i)) (sym n)

pub not_all : (v : View) (A : List Atom) (i : Item) (arms : List Arm) → distinct (heads (arms_list arms)) ≡ true → list_all (λ a. has_item v a.placement i) arms ≡ false →
    false ≡ arms_fit v A i (heads (arms_list arms))
not_all v A i arms d n =
    let ps = heads (arms_list arms) in
    let few = ltb (tally (λ p. has_item v p i && not (ruled_out v A p) && not (mem ps p)) v.live) (least_with_base v A i) in
    ap (λ b. b && few) (sym (all_heads (λ p. has_item v p i) arms ∙ n)) ∙ ap (λ b. b && list_all (λ p. has_item v p i) ps && few) (sym d)

-- if the placements of the arms differ and all have the item, the arms fit exactly if too few other placements are left
few_fit : (v : View) (A : List Atom) (i : Item) (arms : List Arm) (loose low : ℕ) → distinct (heads (arms_list arms)) ≡ true → list_all (λ a. has_item v a.placement i) arms ≡ true →
    loose ≡ tally (λ p. has_item v p i && not (ruled_out v A p) && not (mem (heads (arms_list arms)) p)) v.live → low ≡ least_with_base v A i →
    ltb loose low ≡ arms_fit v A i (heads (arms_list arms))
few_fit v A i arms loose low d h e l =
    let ps = heads (arms_list arms) in
    let few = ltb (tally (λ p. has_item v p i && not (ruled_out v A p) && not (mem ps p)) v.live) (least_with_base v A i) in
    ap (λ n. ltb n low) e ∙ ap (λ n. ltb (tally (λ p. has_item v p i && not (ruled_out v A p) && not (mem ps p)) v.live) n) l
    ∙ ap (λ b. b && few) (sym (all_heads (λ p. has_item v p i) arms ∙ h)) ∙ ap (λ b. b && list_all (λ p. has_item v p i) ps && few) (sym d)

tally_heads : (f : ℕ → Bool) (arms : List Arm) → tally f (heads (arms_list arms)) ≡ tally (λ a. f a.placement) arms
tally_heads f [] = refl
tally_heads f (a ∷ arms) = ap (λ n. one (f a.placement) + n) (tally_heads f arms)

-- the item's placements that are not ruled out are those outside the list and those in the list
allowed_apart : (v : View) (A : List Atom) (i : Item) (ps : List ℕ) → distinct v.live ≡ true → distinct ps ≡ true → list_all (λ p. has_item v p i) ps ≡ true →
    tally (λ p. has_item v p i && not (ruled_out v A p) && not (mem ps p)) v.live + tally (λ p. mem v.live p && not (ruled_out v A p)) ps
    ≡ tally (λ p. has_item v p i && not (ruled_out v A p)) v.live
allowed_apart v A i ps once d h =
    omega (arith, apart f (λ p. mem ps p) v.live, tally_within g both ps v.live d here, tally_within both g v.live ps once there)
  where
    f : ℕ → Bool
    f p = has_item v p i && not (ruled_out v A p)

    g : ℕ → Bool
    g p = mem v.live p && not (ruled_out v A p)

    both : ℕ → Bool
    both p = f p && mem ps p

    here : (x : ℕ) → In x ps → g x ≡ true → In x v.live × (both x ≡ true)
    here x k e =
        let two = and_parts (mem v.live x) (not (ruled_out v A x)) e in
        (mem_in v.live x two.0, and_from _ _ (and_from _ _ (all_in (λ p. has_item v p i) ps h x k) two.1) (in_mem ps x k))

    there : (x : ℕ) → In x v.live → both x ≡ true → In x ps × (g x ≡ true)
    there x k e =
        let two = and_parts (f x) (mem ps x) e in
        (mem_in ps x two.1, and_from _ _ (in_mem v.live x k) (and_parts (has_item v x i) (not (ruled_out v A x)) two.0).1)

-- so if the placements of the arms differ and all have the item, three counts decide whether the arms fit: the item's
-- placements that are not ruled out, the arms among these, and how many are needed
pub rest_fits : (v : View) (A : List Atom) (i : Item) (arms : List Arm) (all taken rest low : ℕ) → distinct v.live ≡ true → distinct (heads (arms_list arms)) ≡ true → list_all (λ a. has_item v a.placement i) arms ≡ true →
    all ≡ tally (λ p. has_item v p i && not (ruled_out v A p)) v.live → taken ≡ tally (λ a. mem v.live a.placement && not (ruled_out v A a.placement)) arms → rest ≡ all - taken → low ≡ least_with_base v A i →
    ltb rest low ≡ arms_fit v A i (heads (arms_list arms))
rest_fits v A i arms all taken rest low once d h a t r l =
    let parts = allowed_apart v A i (heads (arms_list arms)) once d (all_heads (λ p. has_item v p i) arms ∙ h) in
    let heads_too = tally_heads (λ p. mem v.live p && not (ruled_out v A p)) arms in
    few_fit v A i arms rest low d h (omega arith) l
