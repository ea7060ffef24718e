use Rattle.std.proofs.Common.{[], ap, arith, get_or, sym, ◌+◌, ◌++◌, ◌-◌, ◌∙◌, ◌∷◌, ◌≡◌}
use Rattle.poly_frame.proofs.FrameMembers.{inserted}
use Rattle.poly_frame.proofs.plain.insert_at.Goals as goal

pub returns-clause-items : goal.returns-clause-items
returns-clause-items c =
    let xs = c.args.numbers.now.items in
    let whole = c.len-len.ensures ∙ c.args.numbers.now.ok.0 in
    let more : c.push_reserved.new.self.items ≡ xs ++ c.args.number ∷ [] = c.push_reserved.ensures.items in
    inserted xs c.copy_within.new.self.items c.args.k c.len-len.result c.args.number whole (omega (arith, whole, c.requires.inside)) (sym c.copy_within.new.self.ok.0 ∙ c.copy_within.ensures.len ∙ c.push_reserved.ensures.len ∙ ap (λ n. n + 1) (sym c.len-len.ensures))
    (λ i h. c.copy_within.ensures.by_index.1 i 0 (omega (arith, h)) ∙ ap (λ ys. get_or ys i 0) more)
    (λ i g h. c.copy_within.ensures.by_index.0 i 0 g h ∙ ap (λ ys. get_or ys (c.args.k + (i - (c.args.k + 1))) 0) more)
