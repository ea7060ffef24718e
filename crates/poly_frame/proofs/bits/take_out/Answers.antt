use Rattle.std.proofs.Common.{bit_and, w64, sym, not, ℕ, ◌%◌, ◌*◌, ◌+◌, ◌/◌, ◌^◌, ◌&&◌, ◌≡◌, eqb, subst}
use Rattle.std.proofs.Math.ListN.{set}
use Rattle.std.specs.Int.{bit_not}
use Rattle.std.proofs.lemmas.List.{get_or_read}
use Rattle.poly_frame.specs.Bits.{has_bit}
use Rattle.poly_frame.proofs.Words.{clear_bit}
use Rattle.poly_frame.proofs.bits.take_out.Goals as goal

pub returns-clause-bits : goal.returns-clause-bits
returns-clause-bits c = λ x.
    let ws = c.args.words.now.items in
    let at = c.args.at in
    let j = c.args.j in
    subst (λ (w : ℕ). has_bit (set ws (at + j / 64) (bit_and w (bit_not w64 (1 * 2 ^ (j % 64) % 2 ^ 64)))) x ≡ (has_bit ws x && not (eqb (64 * at + j) x)))
    (sym (get_or_read ws (at + j / 64) c.index-word.result.now c.requires c.index-word.ensures 0)) (clear_bit ws at j x c.requires)
