use Rattle.std.proofs.Common.{ap, arith, get_or, length, ◌<◌, ◌∙◌, ◌≡◌}
use Rattle.std.proofs.lemmas.List.{get_or_read}
use Rattle.poly_frame.proofs.FrameSteps.{not_listed}
use Rattle.poly_frame.proofs.frame.matrix.Matrix.column_of.Goals as goal
use Rattle.poly_frame.proofs.frame.matrix.Matrix.column_of.Goals.{else-j-len-via-else-j-len, else-j-len-via-then-j-len+else-index-number}

pub returns-else-j-len : goal.returns-else-j-len
returns-else-j-len c =
    let m = c.args.self.now in
    let short : c.args.number < length m.stands.items = omega (arith, c.if-p-len.true, c.len.ensures, m.stands.ok.0) in
    let at : c.index.result.now ≡ get_or m.stands.items c.args.number 0 = get_or_read m.stands.items c.args.number c.index.result.now short c.index.ensures 0 in
    not_listed m.numbers.items m.stands.items c.args.number c.requires (λ j h l e f. elim c.else-j-len.branch [
      | else-j-len-via-then-j-len+else-index-number w ↦
          let low : c.index.result.now < length m.numbers.items = omega (arith, at, e) in
          w.if-index-number.false (get_or_read m.numbers.items c.index.result.now w.index-then-j-len.result.now low w.index-then-j-len.ensures 0 ∙ ap (λ n. get_or m.numbers.items n 0) (at ∙ e) ∙ f)
      | else-j-len-via-else-j-len w ↦ absurd (omega (arith, w.if-j-len.false, c.len-then-p-len.ensures, m.numbers.ok.0, at, e))
    ])

pub returns-else-p-len : goal.returns-else-p-len
returns-else-p-len c =
    let m = c.args.self.now in
    not_listed m.numbers.items m.stands.items c.args.number c.requires (λ j h l e f. absurd (omega (arith, c.if-p-len.false, c.len.ensures, m.stands.ok.0)))
