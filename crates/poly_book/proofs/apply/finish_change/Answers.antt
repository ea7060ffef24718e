use Rattle.std.proofs.Common.{ap, arith, length, refl, subst, ◌+◌, ◌∙◌, ◌≡◌}
use Rattle.poly_book.specs.Changing.{Noted}
use Rattle.poly_book.proofs.apply.finish_change.Goals as goal

pub returns : goal.returns
returns c =
    let a = c.args.parts.now in
    let r = c.args.ready in
    let made : c.len-made.result ≡ length a.steps.items + 1 = omega (arith, c.len-made.ensures, c.push_reserved.ensures.len, a.steps.ok.0) in
    record {
      stays = refl;
      design = refl;
      table = c.make.ensures.now;
      scene = c.replace.ensures.after ∙ c.new.ensures;
      tasks = c.replace_tasks.ensures.tasks;
      next = ap (λ n. a.next + n) (c.len.ensures ∙ r.tasks.fresh.ok.0);
      history = subst (λ n. Noted c.args.kind a.history c.note.new.history c.args.change (record { made = n; shelf = r.shelf })) made c.note.ensures;
      steps = c.push_reserved.ensures.items;
      endings = c.replace_tasks.ensures.endings;
    }
