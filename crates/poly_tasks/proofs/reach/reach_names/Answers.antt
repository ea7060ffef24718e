use Rattle.std.proofs.Common.{ap, subst, sym, ◌∙◌, ◌≡◌}
use Rattle.std.proofs.lemmas.Bool.{true≢false}
use Rattle.std.proofs.lemmas.List.{take_all}
use Rattle.std.specs.List.{list_any}
use Rattle.poly_tiling.specs.Puzzle.{same_item}
use Rattle.poly_tiling.specs.declared.item.Item.TheVariants.{Piece}
use Rattle.poly_tiling.proofs.Tilings.{same_item_is}
use Rattle.poly_tasks.specs.Mapped.{key_of, spanned}
use Rattle.poly_tasks.specs.Reaching.{IsReached}
use Rattle.poly_tasks.proofs.ReachedTasks.{farther_on, farther_self, keys_more}
use Rattle.poly_tasks.proofs.reach.reach_names.Goals as goal

pub reach_key-requires-clause-len : goal.reach_key-requires-clause-len
reach_key-requires-clause-len c = c.loop-name.invariant.farther.len ∙ c.requires.len

pub loop-name-preserved : goal.loop-name-preserved
loop-name-preserved c =
    let r = c.loop-name.reach.items in
    let r2 = c.reach_key.new.reach.items in
    let rows = c.args.rows.now.entries in
    record {
      farther = farther_on _ r r2 c.loop-name.invariant.farther c.reach_key.ensures.farther;
      reached = keys_more (λ x q. same_item (Piece x) q) (λ q. key_of q) rows r r2 c.args.tasks.now c.args.names.now c.loop-name.name-index c.name-item.result c.loop-name-test.true c.reach_key.ensures.farther c.loop-name.invariant.reached
          (λ q e. let same : Piece c.name-item.result ≡ q = same_item_is _ q (ap (λ x. same_item (Piece x) q) c.name-item.is ∙ e) in subst (λ y. IsReached r2 c.args.tasks.now (λ n. spanned rows y n)) (c.key_of.ensures ∙ ap (λ y. key_of y) same) c.reach_key.ensures.reached);
    }

pub loop-name-init : goal.loop-name-init
loop-name-init c = record { farther = farther_self c.args.reach.now.items; reached = λ q none. absurd (true≢false (sym none)) }

pub reach_key-requires-clause-rise : goal.reach_key-requires-clause-rise
reach_key-requires-clause-rise c = c.requires.rise

pub returns-clause-farther : goal.returns-clause-farther
returns-clause-farther c = c.loop-name.invariant.farther

pub returns-clause-reached : goal.returns-clause-reached
returns-clause-reached c = λ q e.
    let all = take_all c.loop-name.name-index c.args.names.now c.loop-name-test.false in
    c.loop-name.invariant.reached q (ap (λ l. list_any (λ x. same_item (Piece x) q) l) all ∙ e)
