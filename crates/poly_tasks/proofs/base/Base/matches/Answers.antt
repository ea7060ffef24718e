use Rattle.std.proofs.Common.{get_or, length, rules, subst, sym, ◌-◌, ◌<◌, ◌≡◌}
use Rattle.poly_tasks.specs.Meaning.{IsExcerpt}
use Rattle.poly_tasks.proofs.Basing.{excerpt_at}
use Rattle.poly_tasks.proofs.base.Base.matches.Goals as goal

pub before-requires : goal.before-requires
before-requires c =
    let xs = c.args.self.now.excerpts.items in
    let x = c.index.result.now in
    let k = c.len-count.result - 1 - c.loop-done.done in
    let low : k < length xs = (search rules) in
    let is : x ≡ get_or xs k x = search rules in
    subst (λ y. IsExcerpt c.args.log.now y) (sym is) (excerpt_at c.args.log.now xs k x c.requires.excerpts low)
