use Rattle.std.proofs.Common.{arith}
use Rattle.std.proofs.lemmas.Grind.{common_steps}
use Rattle.poly_tiling.specs.Puzzle.{has_item}
use Rattle.poly_tiling.proofs.Coded.{tally_push}
use Rattle.poly_tiling.proofs.Families.{tally_front}
use Rattle.poly_tiling.proofs.lister.count_to.Goals as goal

pub returns-then-n-limit : goal.returns-then-n-limit
returns-then-n-limit c = omega (arith, tally_front (λ p. has_item c.args.view.now p c.args.item.now) c.loop-p.p-index c.args.numbers.now)

pub loop-p-preserved : goal.loop-p-preserved
loop-p-preserved c = record {
  value = grind (arith, common_steps, tally_push);
  low = grind (arith, common_steps);
}
