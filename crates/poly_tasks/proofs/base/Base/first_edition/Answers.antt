use Rattle.std.proofs.Common.{ap, arith, get_or, inl, inr, subst, sym, ◌∙◌, ◌≡◌, ◌≤◌}
use Rattle.std.proofs.lemmas.Bool.{cases_lt}
use Rattle.std.proofs.lemmas.List.{get_or_default}
use Rattle.poly_tasks.specs.Meaning.{edition_of}
use Rattle.poly_tasks.proofs.base.Base.first_edition.Goals as goal

pub loop-excerpt-preserved : goal.loop-excerpt-preserved
loop-excerpt-preserved c =
    let xs = c.deref-excerpt-items.result.now in
    let i = c.loop-excerpt.excerpt-index in
    record {
      so_far = λ k d l. elim (cases_lt k i) [
        | inl m ↦ omega (arith, c.loop-excerpt.invariant.so_far k d m, c.min-edition.ensures)
        | inr e ↦
            let same : k ≡ i = omega (arith, l, e) in
            let own : c.edition.result ≡ edition_of (get_or xs k d) = c.edition.ensures ∙ ap edition_of (get_or_default xs i _ d c.loop-excerpt-test.true ∙ ap (λ n. get_or xs n d) (sym same)) in
            omega (arith, own, c.min-edition.ensures)
      ];
      low = omega (arith, c.loop-excerpt.invariant.low, c.min-edition.ensures);
    }

pub returns-clause-excerpts : goal.returns-clause-excerpts
returns-clause-excerpts c = λ k d l. subst (λ xs. c.loop-excerpt.edition ≤ edition_of (get_or xs k d)) c.deref-excerpt-items.ensures.value (c.loop-excerpt.invariant.so_far k d (omega (arith, l, c.deref-excerpt-items.ensures.len, c.loop-excerpt-test.false)))
