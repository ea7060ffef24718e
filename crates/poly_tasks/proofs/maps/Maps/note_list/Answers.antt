use Rattle.std.proofs.Common.{subst, take, true, ◌≡◌}
use Rattle.poly_tasks.specs.Mapped.{under}
use Rattle.poly_tasks.proofs.Mapping.{all_more, wide_atoms}
use Rattle.poly_tasks.proofs.maps.Maps.note_list.Goals as goal

pub loop-atom-preserved : goal.loop-atom-preserved
loop-atom-preserved c =
    let m = c.note.new.self in
    let i = c.loop-atom.atom-index in
    record {
      wider = λ a n h. c.note.ensures.wider a n (c.loop-atom.invariant.wider a n h);
      noted = λ n h. all_more (λ a. under m a n) c.args.atoms.now i c.atom-item.result c.loop-atom-test.true
          (wide_atoms c.loop-atom.self m n (take i c.args.atoms.now) c.note.ensures.wider (c.loop-atom.invariant.noted n h))
          (subst (λ a. under m a n ≡ true) c.atom-item.is (c.in_ok-note.ensures.ok n h));
    }
