use Rattle.std.proofs.Common.{ap, length, nat_le, rules, subst, sym, true, ◌<◌, ◌∙◌, ◌≡◌}
use Rattle.poly_tasks.specs.declared.maps.Run.{Run}
use Rattle.poly_tasks.proofs.Mapping.{all_more}
use Rattle.poly_tasks.proofs.Spanning.{begun_by, shared_more}
use Rattle.poly_tasks.proofs.maps.shared_count.Goals as goal

pub loop-count-preserved : goal.loop-count-preserved
loop-count-preserved c =
    let r = c.index-runs-count.result in
    let a = c.index-others-count.result in
    let i = c.loop-count.count in
    let rs = c.args.runs.now in
    let others = c.args.others.now in
    let within : i < length rs = search rules in
    let inside : i < length others = search rules in
    let is = c.is_run.ensures c.if-is_run.true in
    record {
      low = search rules;
      same = shared_more rs others i r a within inside c.loop-count.invariant.same (ap (λ (x : Run). x.atom) (sym c.index-runs-count.is) ∙ is.0 ∙ c.index-others-count.is);
      firsts = all_more (λ (x : Run). nat_le x.first c.args.number) rs i r within c.loop-count.invariant.firsts
          (subst (λ (x : Run). nat_le x.first c.args.number ≡ true) c.index-runs-count.is (begun_by r c.args.number is.1));
    }
