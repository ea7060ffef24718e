use Rattle.std.proofs.Common.{ap, rules, true, ◌++◌, ◌∙◌, ◌≡◌, ◌||◌}
use Rattle.std.proofs.lemmas.Fn.{filter_same}
use Rattle.std.specs.List.{filter}
use Rattle.poly_atom.specs.Hopeless.{hopeless}
use Rattle.poly_tasks.specs.Judged.{is_harmful}
use Rattle.poly_tasks.specs.Meaning.{brief_of, own_of}
use Rattle.poly_tasks.specs.Touching.{matters}
use Rattle.poly_tasks.proofs.Touched.{few_decide, few_tell}
use Rattle.poly_tasks.proofs.survey.is_hopeless.Goals as goal

pub returns-then-ends-clause-ok : goal.returns-then-ends-clause-ok
returns-then-ends-clause-ok c =
    let t = c.args.touch.now in
    let log = c.args.log.now in
    let o = c.args.own.now in
    let left : c.retain.new.self.items ≡ filter (matters t) c.read_brief.new.buffer.items = filter_same _ (matters t) _ (λ x b f' k. search rules) _ _ c.retain.ensures.filtered in
    let is : c.hopeless-ends.result ≡ hopeless t.view.now (filter (matters t) (brief_of log o)) = c.hopeless-ends.ensures ∙ ap (λ A. hopeless t.view.now A) (c.deref.ensures.value ∙ left ∙ ap (filter (matters t)) c.in_ok-read_brief.ensures.ok) in
    let either : (c.hopeless-ends.result || c.is_empty-brief.result) ≡ true = search rules in
    few_decide t log o c.hopeless-ends.result c.is_empty-brief.result c.requires.told is either (λ e. search rules)

pub returns-clause-ok : goal.returns-clause-ok
returns-clause-ok c =
    let t = c.args.touch.now in
    let log = c.args.log.now in
    let o = c.args.own.now in
    let left : c.retain.new.self.items ≡ filter (matters t) c.read_brief.new.buffer.items = filter_same _ (matters t) _ (λ x b f' k. search rules) _ _ c.retain.ensures.filtered in
    let pinned = c.in_ok-find.ensures.placements ∙ c.deref-2.ensures.value in
    let is = c.deref-3.ensures.value ∙ c.in_ok-append_harmful_own.ensures.ok ∙ (λ i. (left ∙ ap (filter (matters t)) c.in_ok-read_brief.ensures.ok) i ++ filter (is_harmful (pinned i)) (own_of log o)) in
    c.hopeless.ensures ∙ few_tell t log o c.deref-3.result.now c.requires.told is
