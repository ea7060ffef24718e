use Rattle.std.proofs.Common.{ap, arith, drop, length, refl, subst, sym, take, ◌+◌, ◌++◌, ◌-◌, ◌∙◌, ◌≡◌}
use Rattle.poly_tiling.specs.Blocks.{Begins}
use Rattle.poly_tiling.proofs.Blocked.{begins_fits, begins_more}
use Rattle.poly_tiling.proofs.placement_blocks.PlacementBlocks.complete.Goals as goal

pub loop-self-preserved : goal.loop-self-preserved
loop-self-preserved c =
    let all = c.args.all.now in
    let was = c.loop-self.self in
    let start = c.len-start.result in
    let count : start + 1024 - start ≡ 1024 = omega arith in
    let is : c.add.new.self ≡ was ++ take 1024 (drop (length was) all) =
    c.in_ok-add.ensures.ok ∙ ap (λ n. was ++ take n (drop start all)) count ∙ ap (λ n. was ++ take 1024 (drop n all)) c.len-start.ensures in
    let begins : Begins c.add.new.self all = subst (λ l. Begins l all) (sym is) (begins_more was all (take 1024 (drop (length was) all)) 1024 c.loop-self.invariant.begins (omega (arith, c.loop-self-test.true, c.len.ensures)) refl) in
    record { begins = begins; fits = begins_fits c.add.new.self all begins }
