use Rattle.std.proofs.Common.{◌++◌, ◌∷◌, [], inl, inr, ap, subst, ◌∙◌}
use Rattle.std.proofs.lemmas.Result.{err_from_is_err_and}
use Rattle.poly_text.specs.declared.command.queries.QueryWord.TheVariants as kept_as
use Rattle.poly_text.specs.Queries.{query_of}
use Rattle.poly_text.specs.Read.{IsReadAs}
use Rattle.poly_text.specs.Words.{read_each}
use Rattle.poly_text.proofs.Asking.{kept_none, kept_has, kept_lacks, kept_covers, kept_no_has, kept_no_lacks, gathered, no_sets, refused}
use Rattle.poly_text.proofs.CellWords.{texts, each_begin, each_step, each_stop, each_end}
use Rattle.poly_text.proofs.command.queries.question_of.Goals as goal
use Rattle.poly_text.proofs.command.queries.question_of.Goals.{in-Has-Some+in_ok-push-in-Has-Some, in-Has-None, in-Lacks-Some+in_ok-push-in-Lacks-Some, in-Lacks-None, in-Covers+in_ok-push-in-Covers}

pub loop-word-init : goal.loop-word-init
loop-word-init c = record {
  done = [];
  so_far = each_begin (read_each query_of (texts c.args.words.now));
  kept = kept_none _ _ _ c.new-has.ensures.items c.new-lacks.ensures.items c.new-covers.ensures.items;
}

pub loop-word-preserved : goal.loop-word-preserved
loop-word-preserved c =
    let i = c.loop-word.invariant in
    let read = c.in_ok-query.ensures.ok in
    record {
      done = i.done ++ read.0 ∷ [];
      so_far = each_step query_of c.args.words.now c.loop-word.word-index _ i.done read.0 _ c.loop-word-test.true read.1 i.so_far;
      kept = elim c.match-query.branch [
        | in-Has-Some+in_ok-push-in-Has-Some w ↦
            let made = subst (λ z. IsReadAs read.0 z) (w.in-Has-Some.is ∙ ap kept_as.Has w.in-Has-Some.field-0-is) read.2 in
            rw (w.has-is, w.lacks-is, w.covers-is, w.are_sets-is) (kept_has i.done read.0 _ _ _ _ _ w.in-Has-Some.placement made w.in_ok-push-in-Has-Some.ensures.items i.kept)
        | in-Has-None w ↦
            let made = subst (λ z. IsReadAs read.0 z) (w.in-Has-None.is ∙ ap kept_as.Has w.in-Has-None.field-0-is) read.2 in
            rw w.are_sets-is (kept_no_has i.done read.0 _ _ _ made)
        | in-Lacks-Some+in_ok-push-in-Lacks-Some w ↦
            let made = subst (λ z. IsReadAs read.0 z) (w.in-Lacks-Some.is ∙ ap kept_as.Lacks w.in-Lacks-Some.field-0-is) read.2 in
            rw (w.has-is, w.lacks-is, w.covers-is, w.are_sets-is) (kept_lacks i.done read.0 _ _ _ _ _ w.in-Lacks-Some.placement made w.in_ok-push-in-Lacks-Some.ensures.items i.kept)
        | in-Lacks-None w ↦
            let made = subst (λ z. IsReadAs read.0 z) (w.in-Lacks-None.is ∙ ap kept_as.Lacks w.in-Lacks-None.field-0-is) read.2 in
            rw w.are_sets-is (kept_no_lacks i.done read.0 _ _ _ made)
        | in-Covers+in_ok-push-in-Covers w ↦
            let made = subst (λ z. IsReadAs read.0 z) w.in-Covers.is read.2 in
            rw (w.has-is, w.lacks-is, w.covers-is, w.are_sets-is) (kept_covers i.done read.0 _ _ _ _ _ w.in-Covers.item made w.in_ok-push-in-Covers.ensures.items i.kept)
      ];
    }

pub returns-then-are_sets : goal.returns-then-are_sets
returns-then-are_sets c =
    let i = c.loop-word.invariant in
    gathered _ i.done _ (each_end query_of c.args.words.now c.loop-word.word-index i.done _ c.loop-word-test.false i.so_far) (i.kept.made c.if-are_sets.true)

pub returns-else-are_sets : goal.returns-else-are_sets
returns-else-are_sets c =
    let i = c.loop-word.invariant in
    inr (no_sets _ i.done (each_end query_of c.args.words.now c.loop-word.word-index i.done _ c.loop-word-test.false i.so_far) (i.kept.not_made c.if-are_sets.false))

pub returns-in_err-query : goal.returns-in_err-query
returns-in_err-query c =
    let p = err_from_is_err_and c.from_residual.result c.from_residual.ensures.1 in
    rw (p.1, p.2) (elim c.in_err-query.ensures.why [
      | inl m ↦ inl m
      | inr is ↦ inr (refused _ c.in_err-query.field-0.0 (each_stop query_of c.args.words.now c.loop-word.word-index _ c.loop-word.invariant.done c.in_err-query.field-0.0 _ c.loop-word-test.true is c.loop-word.invariant.so_far))
    ])
