use Rattle.std.proofs.Common.{ap, arith, inl, inr, length, refl, subst, sym, ℕ, ◌+◌, ◌-◌, ◌∙◌, ◌≤◌}
use Rattle.std.proofs.lemmas.Bool.{eqb-true, leb-true}
use Rattle.std.proofs.lemmas.Result.{err_from_is_err_and}
use Rattle.poly_report.specs.Trees.{Plan}
use Rattle.poly_book.specs.declared.parts.Parts.{Parts}
use Rattle.poly_book.specs.Keeps.{Keeps, state_of}
use Rattle.poly_book.specs.Reports.{AreFoundLeaves, AreLeaves}
use Rattle.poly_book.specs.Settled.{AreHopefulFrom, Cuts, IsNotTurned, IsReported}
use Rattle.poly_tasks.specs.Tasks.{AreHopeful}
use Rattle.poly_book.proofs.Hoping.{hopeful_on}
use Rattle.poly_book.proofs.Nexting.{none_pending}
use Rattle.poly_book.proofs.Settles.{applied_cuts, found_reported}
use Rattle.poly_book.proofs.settle.settle_one.Goals as goal

pub apply_leaves-requires-clause-keeps : goal.apply_leaves-requires-clause-keeps
apply_leaves-requires-clause-keeps c = subst (λ (p : Parts). Keeps p) (sym c.in_ok-leaves.ensures.stays) c.requires.keeps

pub apply_leaves-requires-clause-leaves : goal.apply_leaves-requires-clause-leaves
apply_leaves-requires-clause-leaves c =
    let l = c.in_ok-leaves.leaves in
    let m = c.in_ok-leaves.ensures.leaves in
    subst (λ (p : Parts). (k : ℕ) × (tree : Plan) × AreLeaves p k (c.len-at.result - 1) tree l.tilings.items l.rests) (sym c.in_ok-leaves.ensures.stays) (m.0, m.1, m.2.leaves)

pub apply_leaves-requires-clause-sure : goal.apply_leaves-requires-clause-sure
apply_leaves-requires-clause-sure c = λ yes.
    let l = c.in_ok-leaves.leaves in
    let low : c.args.unsure.now ≤ c.len-at.result - 1 = leb-true _ _ yes in
    subst (λ (p : Parts). AreHopeful p.scene l.rests) (sym c.in_ok-leaves.ensures.stays) (c.in_ok-leaves.ensures.sure c.args.unsure.now low c.requires.sure)

pub returns-then-is_empty : goal.returns-then-is_empty
returns-then-is_empty c =
    let a = c.args.parts.now in
    record {
      keeps = c.requires.keeps;
      sure = c.requires.sure;
      ok = (refl, none_pending a.log a.tasks.items (omega (arith, eqb-true _ _ (sym c.is_empty.ensures ∙ c.if-is_empty.true), a.tasks.ok.0)));
      err = tt;
      why = tt;
    }

pub returns-in_err-leaves : goal.returns-in_err-leaves
returns-in_err-leaves c =
    let p = err_from_is_err_and c.from_residual.result c.from_residual.ensures.1 in
    let same = c.in_err-leaves.ensures.stays in
    rw (p.1, p.2) record {
      keeps = subst (λ (q : Parts). Keeps q) (sym same) c.requires.keeps;
      sure = tt;
      ok = tt;
      err = ap (λ (q : Parts). state_of q) same;
      why = inl c.in_err-leaves.ensures.why;
    }

pub returns-in-Ok : goal.returns-in-Ok
returns-in-Ok c =
    let b = c.explored_leaves.new.parts in
    let f = c.in_ok-leaves.leaves in
    let l = c.in_ok-leaves.ensures.leaves in
    let same = c.in_ok-leaves.ensures.stays in
    let n = c.args.unsure.now in
    let at = c.len-at.result - 1 in
    let there : AreLeaves b l.0 at l.1 f.tilings.items f.rests = subst (λ (p : Parts). AreLeaves p l.0 at l.1 f.tilings.items f.rests) (sym same) l.2.leaves in
    let before : AreHopefulFrom n (state_of b) = subst (λ (p : Parts). AreHopefulFrom n (state_of p)) (sym same) c.requires.sure in
    let last : length b.tasks.items ≤ at + 1 = omega (arith, c.len-at.ensures, ap (λ (p : Parts). length p.tasks.items) same) in
    let made = c.in-Ok.ensures.ok l.0 l.1 there in
    let grown : AreFoundLeaves c.args.nodes b l.0 at l.1 f.tilings.items f.rests = subst (λ (p : Parts). AreFoundLeaves c.args.nodes p l.0 at l.1 f.tilings.items f.rests) (sym same) l.2 in
    let turn : Cuts (state_of b) (state_of c.apply_leaves.new.parts) 1 × IsReported c.args.nodes (state_of b) (state_of c.apply_leaves.new.parts) = (
      applied_cuts l.0 c.len-edition.result l.1 (state_of b) (state_of c.apply_leaves.new.parts) c.in-Ok.field-0 made,
      found_reported c.args.nodes c.len-edition.result at b l.0 l.1 f.tilings.items f.rests (state_of c.apply_leaves.new.parts) c.in-Ok.field-0 grown made,
    ) in
    record {
      keeps = c.in-Ok.ensures.keeps;
      sure = subst (λ m. AreHopefulFrom m (state_of c.apply_leaves.new.parts)) (sym c.min.ensures)
          (hopeful_on b (state_of c.apply_leaves.new.parts) l.0 c.len-edition.result l.1 c.in-Ok.field-0 at n f.tilings.items f.rests there last made before);
      ok = subst (λ (p : Parts). Cuts (state_of p) (state_of c.apply_leaves.new.parts) 1 × IsReported c.args.nodes (state_of p) (state_of c.apply_leaves.new.parts)) same turn;
      err = tt;
      why = tt;
    }

pub returns-in-Err : goal.returns-in-Err
returns-in-Err c =
    let b = c.explored_leaves.new.parts in
    let f = c.in_ok-leaves.leaves in
    let l = c.in_ok-leaves.ensures.leaves in
    let same = c.in_ok-leaves.ensures.stays in
    let there : AreLeaves b l.0 (c.len-at.result - 1) l.1 f.tilings.items f.rests = subst (λ (p : Parts). AreLeaves p l.0 (c.len-at.result - 1) l.1 f.tilings.items f.rests) (sym same) l.2.leaves in
    let not : IsNotTurned (state_of b) c.in-Err.refusal = inr (l.0, l.1, there.small, (there.task, there.there, there.cut.right), c.in-Err.ensures.why l.0 l.1 there) in
    record {
      keeps = c.in-Err.ensures.keeps;
      sure = tt;
      ok = tt;
      err = c.in-Err.ensures.err ∙ ap (λ (p : Parts). state_of p) same;
      why = subst (λ (p : Parts). IsNotTurned (state_of p) c.in-Err.refusal) same not;
    }
