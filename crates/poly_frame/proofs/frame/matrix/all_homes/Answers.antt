use Rattle.std.proofs.Common.{[], ap, arith, length, refl, ◌+◌, ◌∙◌, ◌∷◌, ◌≡◌}
use Rattle.std.proofs.lemmas.List.{length-append}
use Rattle.poly_frame.proofs.Words.{pushed}
use Rattle.poly_frame.proofs.frame.matrix.all_homes.Goals as goal

pub loop-j-preserved : goal.loop-j-preserved
loop-j-preserved c =
    let homes = c.loop-j.homes.items in
    let j = c.loop-j.j in
    let inv = c.loop-j.invariant in
    record {
      len = ap length c.push_reserved.ensures.items ∙ length-append homes (j ∷ []) ∙ ap (λ n. n + 1) inv.len;
      room = omega (arith, c.push_reserved.ensures.capacity, inv.room);
      each = pushed homes c.push_reserved.new.self.items j j (λ i x. x ≡ i) c.push_reserved.ensures.items inv.len inv.each refl;
    }
