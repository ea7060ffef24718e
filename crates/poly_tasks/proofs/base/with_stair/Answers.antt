use Rattle.std.proofs.Common.{refl}
use Rattle.poly_tasks.specs.declared.base.Base.{Base}
use Rattle.poly_tasks.specs.declared.excerpt.Excerpt.{Excerpt}
use Rattle.poly_tasks.specs.declared.excerpt.Excerpt.TheVariants.{Stair as StairExcerpt}
use Rattle.poly_tasks.proofs.Basing.{base_and, is_base_and}
use Rattle.poly_tasks.proofs.base.with_stair.Goals as goal

pub returns-clause-base : goal.returns-clause-base
returns-clause-base c =
    let b = c.args.base in
    let x : Excerpt = StairExcerpt c.args.stair.now in
    let d : Base = record { lists = b.lists; index = b.index; excerpts = c.push.new.self; others = c.append_others.new.buffer } in
    base_and c.args.log.now b d x refl refl c.in_ok-push.ensures.items

pub returns-clause-is : goal.returns-clause-is
returns-clause-is c =
    let b = c.args.base in
    let x : Excerpt = StairExcerpt c.args.stair.now in
    let d : Base = record { lists = b.lists; index = b.index; excerpts = c.push.new.self; others = c.append_others.new.buffer } in
    is_base_and c.args.log.now b d x refl refl c.in_ok-push.ensures.items c.in_ok-append_others.ensures.ok c.requires.base c.requires.stair
