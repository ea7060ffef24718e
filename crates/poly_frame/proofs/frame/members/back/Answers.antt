use Rattle.std.proofs.Common.{List, ap, arith, get_or, length, subst, sym, take, ℕ, ◌-◌, ◌<◌, ◌∙◌, ◌≡◌}
use Rattle.std.proofs.lemmas.List.{get_or_read}
use Rattle.poly_frame.specs.FrameMembers.{SizesShow}
use Rattle.poly_frame.proofs.FrameMembers.{back_left, back_same, back_sizes}
use Rattle.poly_frame.proofs.frame.members.back.Goals as goal

pub returns-then-size-len-clause-base : goal.returns-then-size-len-clause-base
returns-then-size-len-clause-base c =
    let sizes = c.args.sizes.now.items in
    let A = c.args.node.now.trail.now in
    let last : c.len-last.result ≡ length sizes = c.len-last.ensures ∙ c.args.sizes.now.ok.0 in
    let low : c.len-last.result - 1 < length sizes = omega (arith, last, c.requires.sizes.steps, c.requires.some) in
    let read = get_or_read sizes (c.len-last.result - 1) c.index-size.result.now low c.index-size.ensures 0 in
    c.requires.base ∙ back_same c.args.node.now.view.now A c.args.node.now.given sizes c.requires.sizes c.requires.some
    (ap (λ n. get_or sizes (n - 1) 0) (sym last) ∙ sym read ∙ c.if-size-len.true ∙ c.len.ensures ∙ c.args.members.now.ok.0 ∙ ap length c.requires.base)

pub returns-then-size-len-clause-sizes : goal.returns-then-size-len-clause-sizes
returns-then-size-len-clause-sizes c =
    let sizes = c.args.sizes.now.items in
    let last : c.len-last.result ≡ length sizes = c.len-last.ensures ∙ c.args.sizes.now.ok.0 in
    subst (λ (xs : List ℕ). SizesShow c.args.node.now.view.now (take (length c.args.node.now.trail.now - 1) c.args.node.now.trail.now) c.args.node.now.given xs) (sym (c.truncate.ensures.items ∙ ap (λ n. take (n - 1) sizes) last))
    (back_sizes c.args.node.now.view.now c.args.node.now.trail.now c.args.node.now.given sizes c.requires.sizes c.requires.some)

pub returns-clause-sizes : goal.returns-clause-sizes
returns-clause-sizes c =
    let sizes = c.args.sizes.now.items in
    let last : c.len-last.result ≡ length sizes = c.len-last.ensures ∙ c.args.sizes.now.ok.0 in
    subst (λ (xs : List ℕ). SizesShow c.args.node.now.view.now (take (length c.args.node.now.trail.now - 1) c.args.node.now.trail.now) c.args.node.now.given xs) (sym (c.truncate.ensures.items ∙ ap (λ n. take (n - 1) sizes) last))
    (back_sizes c.args.node.now.view.now c.args.node.now.trail.now c.args.node.now.given sizes c.requires.sizes c.requires.some)

pub returns-clause-base : goal.returns-clause-base
returns-clause-base c =
    let sizes = c.args.sizes.now.items in
    let A = c.args.node.now.trail.now in
    let last : c.len-last.result ≡ length sizes = c.len-last.ensures ∙ c.args.sizes.now.ok.0 in
    let low : c.len-last.result - 1 < length sizes = omega (arith, last, c.requires.sizes.steps, c.requires.some) in
    let read = get_or_read sizes (c.len-last.result - 1) c.index-size.result.now low c.index-size.ensures 0 in
    back_left c.args.node.now.view.now A c.args.node.now.given sizes c.requires.sizes c.requires.some c.index-node-node.result c.index-node-node.is
    (λ e. c.if-size-len.false (read ∙ ap (λ n. get_or sizes (n - 1) 0) last ∙ e ∙ sym (c.len.ensures ∙ c.args.members.now.ok.0 ∙ ap length c.requires.base)))
    c.args.members.now.items c.take_last.new.numbers.items c.requires.base (λ p e. c.take_last.ensures.asked p (sym c.index-node-node.is ∙ e)) (λ other. c.take_last.ensures.other (λ p e. other p (c.index-node-node.is ∙ e)))
