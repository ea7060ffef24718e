use Rattle.std.proofs.Common.{[], inr, length, rules, subst, sym, ◌∙◌, ◌≡◌, ◌≤◌}
use Rattle.std.proofs.lemmas.List.{length-reverse}
use Rattle.poly_book.specs.AllTilings.{IsQuietOf}
use Rattle.poly_book.specs.Keeps.{state_of}
use Rattle.poly_book.specs.States.{State}
use Rattle.poly_book.proofs.Nexting.{partition_each, none_pending}
use Rattle.poly_book.proofs.book.Book.quiet.Goals as goal

pub all_tilings-requires-clause-each : goal.all_tilings-requires-clause-each
all_tilings-requires-clause-each c =
    let few : length c.self.inside.parts.tasks.items ≤ 0 = search rules in
    let e : c.all-listed.result.now ≡ c.self.inside.parts.listed = search rules in
    rw (c.shared.ensures, e) (partition_each (state_of c.self.inside.parts) c.self.invariant.whole.consistent.partition (none_pending c.self.inside.parts.log c.self.inside.parts.tasks.items few))

pub returns-in-Ok : goal.returns-in-Ok
returns-in-Ok c =
    let a = c.self.inside.parts in
    let few : length a.tasks.items ≤ 0 = search rules in
    let g = c.in-Ok.ensures in
    record {
      ok = subst (λ (s : State). IsQuietOf s c.in-Ok.all) c.self.view_is record {
        none = none_pending a.log a.tasks.items few;
        design = g.design;
        edition = g.edition ∙ c.len-edition.ensures ∙ a.steps.ok.0 ∙ sym (length-reverse a.steps.items);
        view = g.view ∙ c.shared.ensures;
      };
      why = tt;
    }

pub returns-in-Err : goal.returns-in-Err
returns-in-Err c =
    let a = c.self.inside.parts in
    let few : length a.tasks.items ≤ 0 = search rules in
    record {
      ok = tt;
      why = inr (c.in-Err.ensures.why, subst (λ (s : State). s.pending ≡ []) c.self.view_is (none_pending a.log a.tasks.items few));
    }
