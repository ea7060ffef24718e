-- If a plan is made, the placement numbers suffice.
use Rattle.std.proofs.Common.{Err, Ok, Result, ap, arith, inl, inr, length, refl, subst, sym, ◌∙◌, ◌≡◌, ◌≤◌, ◌⊎◌}
use Rattle.std.specs.Prelude.{IfErr, IfOk, OnOk}
use Rattle.poly_grid.specs.declared.refusal.Refusal.{Refusal}
use Rattle.poly_grid.specs.declared.refusal.Refusal.TheVariants.{Memory, Spent}
use Rattle.poly_design.specs.Layout.{Layout}
use Rattle.poly_design.specs.declared.placement.Placement.{Placement}
use Rattle.poly_tiling.specs.Names.{Grown, Names}
use Rattle.poly_tiling.specs.Puzzle.{View}
use Rattle.poly_tiling.specs.Shows.{Shows}
use Rattle.poly_tiling.proofs.Contained.{contains_in, get_in, in_contains}
use Rattle.poly_tiling.proofs.Grown.{names_on}
use Rattle.poly_tiling.proofs.Lists.{In, in_append_left}
use Rattle.poly_place.specs.Delta.{IsPlanFor}
use Rattle.poly_place.specs.Right.{IsRight}
use Rattle.poly_place.specs.Spent.{IsSpent as NumbersAreSpent}
use Rattle.poly_place.specs.declared.plan.Plan.{Plan}
use Rattle.std.specs.Arc.{arc_value}
use Rattle.poly_book.specs.Planned.{IsPlanOver}
use Rattle.poly_book.proofs.Amounts.{partners}

-- a view that shows a design, and continues the numbers of an earlier one, names all placements of both
suffice : (v w : View) (d : Layout) → Names v w → Shows w d → length w.placements ≤ 4294967296 → NumbersAreSpent v.placements d → ⊥
suffice v w d names shows few spent =
    let there : (p : Placement) → In p spent.all → In p w.placements = λ p i. elim (spent.among p (in_contains spent.all p i)) [
      | inl old ↦ subst (λ l. In p l) (sym names.1) (in_append_left p v.placements names.0 (contains_in v.placements p old))
      | inr (inl place) ↦ let n = (shows.places p).1 place in get_in w.placements n.number p n.names
      | inr (inr pin) ↦ let n = (shows.pins p).1 pin in get_in w.placements n.number p n.names
    ] in
    let most = partners (λ (x y : Placement). x ≡ y) spent.all w.placements spent.apart (λ x i. (x, there x i, refl)) (λ x z y e f. e ∙ sym f) in
    let many = spent.many in
    omega (arith, most, few, many)

pub plan_suffices : (v t : View) (before d : Layout) (p : Plan) → Grown v t → IsPlanFor t before d (arc_value p.view) p.delta → length (arc_value p.view).placements ≤ 4294967296 → NumbersAreSpent v.placements d → ⊥
plan_suffices v t before d p first plan few = suffice v (arc_value p.view) d (names_on v t (arc_value p.view) first.0 plan.names) plan.right.shows few

pub plan_over : (v t : View) (d a e : Layout) (p : Plan) → Grown v t → IsRight t d → a ≡ e → IsPlanFor t d a (arc_value p.view) p.delta → IsPlanOver v d e p
plan_over v t d a e p g r is q = record { table = t; first = g; right = r; plan = subst (λ z. IsPlanFor t d z (arc_value p.view) p.delta) is q }

pub plan_enough : (v t : View) (d a e : Layout) (p : Plan) → Grown v t → a ≡ e → IsPlanFor t d a (arc_value p.view) p.delta → length (arc_value p.view).placements ≤ 4294967296 → ¬ NumbersAreSpent v.placements e
plan_enough v t d a e p g is q few = plan_suffices v t d e p g (subst (λ z. IsPlanFor t d z (arc_value p.view) p.delta) is q) few

pub ok_on_both : {X E : Type 0} (r : Result X E) (P Q : X → Type 0) (N : Type 0) → IfOk r P → IfOk r Q → ((x : X) → P x → Q x → N) → OnOk r N
ok_on_both (Ok x) P Q N a b f = f x a b
ok_on_both (Err e) P Q N a b f = tt

-- a refused plan over a table that shows the view has run out of the view's numbers, or of memory
pub spent_by : (r : Result Plan Refusal) (t v : View) (a e : Layout) → t ≡ v → a ≡ e → (r ≡ Err Spent → NumbersAreSpent t.placements a) → IfErr r (λ x. (x ≡ Spent) ⊎ (x ≡ Memory)) →
    IfErr r (λ x. ((x ≡ Spent) × NumbersAreSpent v.placements e) ⊎ (x ≡ Memory))
spent_by (Ok p) t v a e same is spent why = tt
spent_by (Err x) t v a e same is spent (inl h) = inl (h, subst (λ z. NumbersAreSpent z.placements e) same (subst (λ d. NumbersAreSpent t.placements d) is (spent (ap Err h))))
spent_by (Err x) t v a e same is spent (inr h) = inr h
