use Rattle.std.proofs.Common.{Bool, List, ap, arith, eqb, false, get_or, refl, sym, take, true, ℕ, ◌*◌, ◌+◌, ◌||◌, ◌∙◌, ◌≡◌}
use Rattle.std.proofs.lemmas.List.{take_all}
use Rattle.std.proofs.lemmas.List.Folds.{list_any_more}
use Rattle.poly_tiling.specs.Lists.{mem}
use Rattle.poly_frame.specs.Bits.{has_bit}
use Rattle.poly_frame.proofs.FrameItems.{low_at}
use Rattle.poly_frame.proofs.frame.alive.put_numbers.Goals as goal

or_none : (o : Bool) → o ≡ (o || false)
or_none true = refl
or_none false = refl

or_three : (a b c : Bool) → ((a || b) || c) ≡ (a || (b || c))
or_three true b c = refl
or_three false b c = refl

pub loop-p-init : goal.loop-p-init
loop-p-init c = record {
  len = refl;
  bits = λ x. or_none (has_bit c.args.words.now.items x);
}

pub bounds-numbers-p-index : goal.bounds-numbers-p-index
bounds-numbers-p-index c = c.loop-p-test.true

pub put_in-requires : goal.put_in-requires
put_in-requires c = omega (arith, low_at c.requires.0 c.args.numbers.now c.loop-p.p-index c.requires.2 c.loop-p-test.true, c.requires.1, c.loop-p.invariant.len)

pub loop-p-preserved : goal.loop-p-preserved
loop-p-preserved c =
    let inv = c.loop-p.invariant in
    let xs = c.args.numbers.now in
    let k = c.loop-p.p-index in
    let old = c.args.words.now.items in
    let here : 64 * 0 + get_or xs k 0 ≡ get_or xs k 0 = omega arith in
    record {
      len = c.put_in.ensures.len ∙ inv.len;
      bits = λ x.
          c.put_in.ensures.bits x
          ∙ ap (λ (n : ℕ). has_bit c.loop-p.words.items x || eqb n x) here
          ∙ ap (λ y. y || eqb (get_or xs k 0) x) (inv.bits x)
          ∙ or_three (has_bit old x) (mem (take k xs) x) (eqb (get_or xs k 0) x)
          ∙ ap (λ y. has_bit old x || y) (sym (list_any_more (λ y. eqb y x) xs k 0 c.loop-p-test.true));
    }

pub returns-clause-len : goal.returns-clause-len
returns-clause-len c = c.loop-p.invariant.len

pub returns-clause-bits : goal.returns-clause-bits
returns-clause-bits c = λ x.
    c.loop-p.invariant.bits x ∙ ap (λ (xs : List ℕ). has_bit c.args.words.now.items x || mem xs x) (take_all c.loop-p.p-index c.args.numbers.now c.loop-p-test.false)
