use Rattle.std.proofs.Common.{ap, arith, length, subst, sym, true, ◌+◌, ◌≤◌, ◌≡◌, ◌∙◌}
use Rattle.poly_tiling.specs.Lists.{distinct, mem}
use Rattle.poly_report.specs.Gather.{lists}
use Rattle.poly_frame.specs.Walk.{Walk}
use Rattle.poly_search.specs.Sweeps.{IsLighter, Swept}
use Rattle.poly_search.proofs.whole.sweep_rest.Goals as goal

pub returns-clause-swept : goal.returns-clause-swept
returns-clause-swept c =
    let list = c.args.list.now in
    let new = c.sweep-swept.new.list in
    subst (λ (w : Walk). Swept w.scene w.atoms list.found.items new.found.items (lists list.rests.items) (lists new.rests.items)) c.in_ok-frame.ensures.made c.in_ok-swept.ensures.swept

pub returns-clause-lighter : goal.returns-clause-lighter
returns-clause-lighter c =
    let list = c.args.list.now in
    let new = c.sweep-swept.new.list in
    subst (λ (w : Walk). IsLighter w.scene w.atoms (lists list.rests.items) (lists new.rests.items)) c.in_ok-frame.ensures.made c.in_ok-swept.ensures.lighter

pub sweep-swept-requires : goal.sweep-swept-requires
sweep-swept-requires c =
    let e = c.in_ok-frame.ensures in
    let long = ap (λ (w : Walk). length w.atoms) e.made in
    let given = ap (λ (w : Walk). w.given) e.made in
    let end : c.level-end.result + 4096 ≤ c.in_ok-frame.frame.given + 4096 = omega (arith, c.level-end.ensures, long, given) in
    record {
      begun = omega (arith, long, given);
      room = omega (arith, c.level-end.ensures);
      end = end;
      once = subst (λ (w : Walk). distinct w.scene.live ≡ true) (sym e.made) e.once;
    }

pub within-requires : goal.within-requires
within-requires c = record { whole = c.requires; part = c.requires.part; all = λ q live is_open. ap (λ xs. mem xs q) c.requires.all ∙ live }
