use Rattle.std.proofs.Common.{ap, ◌++◌, ◌∙◌}
use Rattle.poly_tiling.specs.Lists.{distinct, mem}
use Rattle.poly_search.proofs.growth.list_options.Goals as goal

pub returns-clause-members : goal.returns-clause-members
returns-clause-members c =
    let found = c.options-found in
    let made = c.in_ok-extend_from_slice.ensures.items ∙ ap (λ xs. xs ++ found.result.now) c.clear.ensures.items in
    λ p. ap (λ xs. mem xs p) made ∙ found.ensures.members p

pub returns-clause-once : goal.returns-clause-once
returns-clause-once c =
    let found = c.options-found in
    let made = c.in_ok-extend_from_slice.ensures.items ∙ ap (λ xs. xs ++ found.result.now) c.clear.ensures.items in
    ap distinct made ∙ found.ensures.once

pub returns-clause-same : goal.returns-clause-same
returns-clause-same c = c.options-found.follows.holds-at-none
