use Rattle.std.proofs.Common.{List, [], ap, arith, length, refl, subst, sym, ℕ, ◌++◌, ◌<◌, ◌∙◌, ◌∷◌, ◌≡◌, ◌≤◌}
use Rattle.poly_tiling.specs.Puzzle.{View}
use Rattle.poly_atom.specs.declared.atom.Atom.{Atom}
use Rattle.poly_report.specs.Gather.{lists}
use Rattle.poly_search.specs.Sweeps.{all_tilings}
use Rattle.poly_search.specs.Whole.{SharedOut}
use Rattle.poly_search.proofs.Families.{at_most, last_rest, none_left, shared_first, shared_next, weighs_less, whole_family}
use Rattle.poly_search.proofs.whole.sweep_each.Goals as goal

pub returns-then-len-gt-MAX_TILINGS-clause-too_many : goal.returns-then-len-gt-MAX_TILINGS-clause-too_many
returns-then-len-gt-MAX_TILINGS-clause-too_many c =
    let v = c.args.view.now in
    let A = c.args.atoms.now in
    let i = c.loop-next.invariant in
    let B = c.deref.result.now in
    let e = last_rest c.loop-next.list.rests.items c.pop.new.self.items c.in-Some.next B c.in-Some.ensures.items c.deref.ensures.value in
    let found = c.sweep_rest.new.list.found.items in
    let rests = lists c.sweep_rest.new.list.rests.items in
    let swept = c.in_ok-sweep_rest.ensures.swept in
    let shared = shared_next v A B c.loop-next.list.found.items found (lists c.loop-next.list.rests.items) (lists c.pop.new.self.items) rests e i.shared swept in
    let many : 1000000 < length found = omega (arith, c.len.ensures, c.sweep_rest.new.list.found.ok) in
    λ _. (found, at_most v A found rests shared (swept.only i.only), many)

pub loop-next-smaller : goal.loop-next-smaller
loop-next-smaller c =
    let B = c.deref.result.now in
    let e = last_rest c.loop-next.list.rests.items c.pop.new.self.items c.in-Some.next B c.in-Some.ensures.items c.deref.ensures.value in
    let rests = lists c.sweep_rest.new.list.rests.items in
    let lighter = c.in_ok-sweep_rest.ensures.lighter in
    weighs_less c.args.view.now B (lists c.loop-next.list.rests.items) (lists c.pop.new.self.items) rests e lighter

pub loop-next-preserved : goal.loop-next-preserved
loop-next-preserved c =
    let v = c.args.view.now in
    let A = c.args.atoms.now in
    let i = c.loop-next.invariant in
    let B = c.deref.result.now in
    let e = last_rest c.loop-next.list.rests.items c.pop.new.self.items c.in-Some.next B c.in-Some.ensures.items c.deref.ensures.value in
    let found = c.sweep_rest.new.list.found.items in
    let rests = lists c.sweep_rest.new.list.rests.items in
    let swept = c.in_ok-sweep_rest.ensures.swept in
    record {
      shared = shared_next v A B c.loop-next.list.found.items found (lists c.loop-next.list.rests.items) (lists c.pop.new.self.items) rests e i.shared swept;
      only = swept.only i.only;
      few = omega (arith, c.len.ensures, c.sweep_rest.new.list.found.ok);
    }

pub returns-clause-all : goal.returns-clause-all
returns-clause-all c =
    let v = c.args.view.now in
    let A = c.args.atoms.now in
    let i = c.loop-next.invariant in
    let found = c.loop-next.list.found.items in
    let h = c.in_default.ensures.cases.0 in
    let zero : length c.loop-next.list.rests.items ≡ 0 = omega (arith, h) in
    let none : lists c.loop-next.list.rests.items ≡ [] = none_left c.loop-next.list.rests.items zero in
    whole_family v A found (subst (λ xs. SharedOut v A found xs) none i.shared) i.only

pub sweep_rest-requires : goal.sweep_rest-requires
sweep_rest-requires c = c.requires.whole

pub returns-clause-few : goal.returns-clause-few
returns-clause-few c = c.loop-next.invariant.few

-- what holds before the first sweep: nothing is found, and the whole family is left
started : (v : View) (A : List Atom) (found : List (List ℕ)) (rests : List (List Atom)) → found ≡ [] → rests ≡ A ∷ [] → SharedOut v A found rests × all_tilings v found × (length found ≤ 1000000)
started v A found rests none one = (
  subst (λ (xs : List (List ℕ)). SharedOut v A xs rests) (sym none) (subst (λ (Bs : List (List Atom)). SharedOut v A [] Bs) (sym one) (shared_first v A)),
  subst (all_tilings v) (sym none) refl,
  omega (arith, ap length none),
)

pub loop-next-init : goal.loop-next-init
loop-next-init c =
    let pushed = c.in_ok-push.ensures.items ∙ ap (λ xs. xs ++ c.in_ok-from_slice.field-0 ∷ []) c.requires.rests in
    let left : lists c.push.new.self.items ≡ c.args.atoms.now ∷ [] = ap lists pushed ∙ ap (λ (B : List Atom). B ∷ []) c.in_ok-from_slice.ensures.items in
    let begun = started c.args.view.now c.args.atoms.now c.args.list.now.found.items (lists c.push.new.self.items) c.requires.found left in
    record { shared = begun.0; only = begun.1; few = begun.2 }
