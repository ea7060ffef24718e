use Rattle.std.proofs.Common.{Bool, List, ap, arith, eqb, get_or, not, refl, true, false, ℕ, ◌&&◌, ◌∙◌, ◌≡◌}
use Rattle.std.proofs.lemmas.List.{take_all}
use Rattle.poly_tiling.specs.Lists.{mem}
use Rattle.poly_frame.specs.Bits.{has_bit}
use Rattle.poly_frame.proofs.Matrices.{out_more}
use Rattle.poly_frame.proofs.frame.opened.take_out_members.Goals as goal

and_all : (o : Bool) → o ≡ (o && true)
and_all true = refl
and_all false = refl

pub loop-p-preserved : goal.loop-p-preserved
loop-p-preserved c =
    let row = c.args.row.now.items in
    let inv = c.loop-p.invariant in
    record {
      len = c.take_out_number.ensures.len ∙ inv.len;
      past = λ j e. c.take_out_number.ensures.past j (inv.past j e);
      bits = λ j h. out_more (λ p. eqb p (get_or c.args.whole.now.numbers.items j 0)) c.args.members.now c.loop-p.p-index 0 (has_bit row j) (has_bit c.loop-p.row.items j) (has_bit c.take_out_number.new.row.items j) (omega (arith, c.loop-p-test.true)) (inv.bits j h) (c.take_out_number.ensures.bits j h);
    }

pub loop-p-init : goal.loop-p-init
loop-p-init c = record {
  len = refl;
  past = λ j e. e;
  bits = λ j h. and_all (has_bit c.args.row.now.items j);
}

pub bounds-members-p-index : goal.bounds-members-p-index
bounds-members-p-index c = c.loop-p-test.true

pub take_out_number-requires-clause-part : goal.take_out_number-requires-clause-part
take_out_number-requires-clause-part c = c.requires.part

pub take_out_number-requires-clause-len : goal.take_out_number-requires-clause-len
take_out_number-requires-clause-len c = c.loop-p.invariant.len ∙ c.requires.len

pub returns-clause-len : goal.returns-clause-len
returns-clause-len c = c.loop-p.invariant.len

pub returns-clause-bits : goal.returns-clause-bits
returns-clause-bits c = λ j h.
    c.loop-p.invariant.bits j h ∙ ap (λ (xs : List ℕ). has_bit c.args.row.now.items j && not (mem xs (get_or c.args.whole.now.numbers.items j 0))) (take_all c.loop-p.p-index c.args.members.now c.loop-p-test.false)

pub returns-clause-past : goal.returns-clause-past
returns-clause-past c = c.loop-p.invariant.past
