use Rattle.std.proofs.Common.{Bool, List, ap, arith, false, get_or, length, sym, take, ℕ, ◌<◌, ◌∙◌, ◌≡◌, ◌≤◌}
use Rattle.std.proofs.lemmas.List.{take_all}
use Rattle.poly_tiling.specs.Lists.{one, tally}
use Rattle.poly_frame.specs.Bits.{NoneIn, in_both}
use Rattle.poly_frame.proofs.FrameArms.{tally_gap, tally_more}
use Rattle.poly_frame.proofs.frame.allowed.count_both.Goals as goal

-- if the rows have no number in common between two indices, no number there passes the test
fails : (ns rows rs live : List ℕ) (at from low high : ℕ) (g : ℕ → Bool) → rs ≡ rows → ((j : ℕ) → j < length ns → g (get_or ns j 0) ≡ in_both live at rows from j) → NoneIn (in_both live at rs from) low high →
    (x : ℕ) → low ≤ x → x < high → x < length ns → g (get_or ns x 0) ≡ false
fails ns rows rs live at from low high g same h none x l m k = h x k ∙ ap (λ xs. in_both live at xs from x) (sym same) ∙ none x l m

whole : (g : ℕ → Bool) (ns : List ℕ) (low : ℕ) → low ≤ length ns → ((x : ℕ) → low ≤ x → x < length ns → g (get_or ns x 0) ≡ false) → tally g (take low ns) ≡ tally g ns
whole g ns low h out = sym (tally_gap g ns low (length ns) h (omega arith) out) ∙ ap (λ ys. tally g ys) (take_all (length ns) ns (omega arith))

pub returns-then-j-len-clause-value : goal.returns-then-j-len-clause-value
returns-then-j-len-clause-value c = λ g h.
    let ns = c.args.matrix.now.numbers.items in
    let past : length ns ≤ c.in-Some.j = omega (arith, c.if-j-len.true, c.len.ensures, c.args.matrix.now.numbers.ok.0) in
    let none = fails ns c.args.matrix.now.rows.items c.deref.result.now c.args.live.now c.args.at c.args.from c.loop-j.low c.in-Some.j g c.deref.ensures.value h c.in-Some.ensures.before in
    c.loop-j.invariant.all g h ∙ whole g ns c.loop-j.low c.loop-j.invariant.low (λ x l m. none x l (omega (arith, past)) m)

pub returns-clause-value : goal.returns-clause-value
returns-clause-value c = λ g h.
    let ns = c.args.matrix.now.numbers.items in
    let none = fails ns c.args.matrix.now.rows.items c.deref.result.now c.args.live.now c.args.at c.args.from c.loop-j.low _ g c.deref.ensures.value h c.in_default.ensures in
    c.loop-j.invariant.all g h ∙ whole g ns c.loop-j.low c.loop-j.invariant.low (λ x l m. none x l (omega (arith, c.requires.wide)) m)

pub loop-j-preserved : goal.loop-j-preserved
loop-j-preserved c =
    let ns = c.args.matrix.now.numbers.items in
    let j = c.in-Some.j in
    let low : j < length ns = omega (arith, c.if-j-len.false, c.len.ensures, c.args.matrix.now.numbers.ok.0) in
    record {
      low = omega (arith, low);
      few = omega (arith, c.loop-j.invariant.few, c.in-Some.ensures.least);
      all = λ g h.
          let none = fails ns c.args.matrix.now.rows.items c.deref.result.now c.args.live.now c.args.at c.args.from c.loop-j.low j g c.deref.ensures.value h c.in-Some.ensures.before in
          let here = h j low ∙ ap (λ xs. in_both c.args.live.now c.args.at xs c.args.from j) (sym c.deref.ensures.value) ∙ c.in-Some.ensures.is in
          omega (arith, ap one here, c.loop-j.invariant.all g h, tally_gap g ns c.loop-j.low j c.in-Some.ensures.least (omega (arith, low)) (λ x l m. none x l m (omega (arith, low))), tally_more g ns j low);
    }
