use Rattle.std.proofs.Common.{ap, arith, get_or, length, min, sym, ◌<◌, ◌∙◌, ℕ}
use Rattle.std.proofs.lemmas.List.{get_or_read}
use Rattle.poly_frame.specs.FrameItems.{item_at}
use Rattle.poly_frame.specs.Plain.{most_by}
use Rattle.poly_frame.proofs.FrameTable.{written}
use Rattle.poly_frame.proofs.frame.wanted.lower_most.Goals as goal

pub returns-in-Some-clause-value : goal.returns-in-Some-clause-value
returns-in-Some-clause-value c = λ b h.
    let us = c.args.mosts.now.items in
    let low : c.in-Some.b < length us = omega (arith, c.in-Some.ensures.0, c.requires.len) in
    let read = c.min.ensures ∙ ap (λ n. min c.in-AtMost.n n) (get_or_read us c.in-Some.b c.index.result.now low c.index.ensures 0) in
    written c.args.bounds.now us c.in-Some.b c.min.result c.in-AtMost.item c.requires.order c.requires.len c.in-Some.ensures (λ (n : ℕ). min c.in-AtMost.n n) read b h
    ∙ sym (ap (λ a. most_by a (item_at c.args.bounds.now b) (get_or us b 0)) c.in-AtMost.is)
