use Rattle.std.proofs.Common.{List, [], ap, refl, ◌++◌, ◌∙◌, ◌∷◌, ℕ}
use Rattle.poly_catalogue.specs.Rows.{at}
use Rattle.poly_catalogue.proofs.Written.{empty_row}
use Rattle.poly_catalogue.proofs.listing.reach.Goals as goal

pub loop-alloc-init : goal.loop-alloc-init
loop-alloc-init c = λ a b. refl

pub loop-alloc-preserved : goal.loop-alloc-preserved
loop-alloc-preserved c =
    λ a b.
    ap (λ (rs : List (List ℕ)). at rs a b) (c.in_ok-push.ensures.items ∙ ap (λ (r : List ℕ). c.loop-alloc.rows.items ++ r ∷ []) c.new.ensures)
    ∙ empty_row c.loop-alloc.rows.items a b ∙ c.loop-alloc.invariant a b

pub returns-in_err-push-clause-same : goal.returns-in_err-push-clause-same
returns-in_err-push-clause-same c = λ a b. ap (λ (rs : List (List ℕ)). at rs a b) c.in_err-push.ensures.items ∙ c.loop-alloc.invariant a b

pub returns-clause-same : goal.returns-clause-same
returns-clause-same c = c.loop-alloc.invariant
