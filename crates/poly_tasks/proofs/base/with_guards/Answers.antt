use Rattle.std.proofs.Common.{ap, refl, ◌++◌, ◌∙◌, ◌≡◌}
use Rattle.std.specs.List.{filter}
use Rattle.poly_lists.specs.Words.{is_other}
use Rattle.poly_tasks.specs.declared.base.Base.{Base}
use Rattle.poly_tasks.specs.declared.excerpt.Excerpt.{Excerpt}
use Rattle.poly_tasks.specs.declared.excerpt.Excerpt.TheVariants.{Guards}
use Rattle.poly_tasks.specs.Meaning.{excerpt_of}
use Rattle.poly_tasks.proofs.Basing.{base_and, is_base_and}
use Rattle.poly_tasks.proofs.base.with_guards.Goals as goal

pub returns-clause-base : goal.returns-clause-base
returns-clause-base c =
    let b = c.args.base in
    let x : Excerpt = Guards c.args.frozen.now.made c.args.frozen.now.count in
    let d : Base = record { lists = b.lists; index = b.index; excerpts = c.push.new.self; others = c.extend_from_slice.new.self } in
    base_and c.args.log.now b d x refl refl c.in_ok-push.ensures.items

pub returns-clause-is : goal.returns-clause-is
returns-clause-is c =
    let log = c.args.log.now in
    let b = c.args.base in
    let x : Excerpt = Guards c.args.frozen.now.made c.args.frozen.now.count in
    let d : Base = record { lists = b.lists; index = b.index; excerpts = c.push.new.self; others = c.extend_from_slice.new.self } in
    let others : d.others.items ≡ b.others.items ++ filter is_other (excerpt_of log x) = c.in_ok-extend_from_slice.ensures.items ∙ ap (λ A. b.others.items ++ A) (c.others.ensures ∙ c.requires.laid) in
    is_base_and log b d x refl refl c.in_ok-push.ensures.items others c.requires.base (c.requires.frozen.made, c.requires.frozen.count)
