use Rattle.std.proofs.Common.{List, not, subst, sym, true, ◌++◌, ◌≡◌, ℕ}
use Rattle.std.specs.Cmp.Lexicographic.{pointwise}
use Rattle.std.specs.List.{list_all, list_any}
use Rattle.std.specs.Prelude.{nat_eq}
use Rattle.poly_tiling.specs.Puzzle.{is_tiling}
use Rattle.poly_catalogue.specs.Listed.{AreOnce}
use Rattle.poly_tests.proofs.Fresh.{fresh_all, fresh_once}
use Rattle.poly_tests.proofs.exchange.fresh.Goals as goal

pub returns-clause-tilings : goal.returns-clause-tilings
returns-clause-tilings c =
    let v = c.args.view.now in
    let all : List (List ℕ) = c.in_ok-tilings.tilings.items in
    subst (λ (l : List (List ℕ)). list_all (is_tiling v) l ≡ true) (sym c.in_ok-list.ensures)
    (fresh_all (is_tiling v) (λ T. not (list_any (λ U. pointwise nat_eq U T) c.args.listed.now)) all c.in_ok-tilings.ensures.tilings)

pub returns-clause-once : goal.returns-clause-once
returns-clause-once c =
    let v = c.args.view.now in
    let listed : List (List ℕ) = c.args.listed.now in
    let all : List (List ℕ) = c.in_ok-tilings.tilings.items in
    subst (λ (l : List (List ℕ)). AreOnce (listed ++ l)) (sym c.in_ok-list.ensures) (fresh_once listed all c.requires c.in_ok-tilings.ensures.once)
