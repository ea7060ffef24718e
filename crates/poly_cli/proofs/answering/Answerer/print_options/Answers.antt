use Rattle.std.proofs.Common.{◌≡◌, ◌∙◌, ap, get_or, ℕ, subst, take, Err}
use Rattle.std.specs.List.{flat_map}
use Rattle.std.proofs.lemmas.List.{get_or_default}
use Rattle.std.proofs.lemmas.Result.{err_from_is_err_and}
use Rattle.poly_tiling.specs.declared.item.Item.{Item}
use Rattle.poly_text.specs.Replies.{item_text}
use Rattle.poly_cli.specs.Runs.{Writes}
use Rattle.poly_cli.proofs.Written.{flat_left, writes_part}
use Rattle.poly_cli.proofs.answering.Answerer.print_options.Goals as goal

pub returns-in_err-write_bytes : goal.returns-in_err-write_bytes
returns-in_err-write_bytes g c =
    let e = err_from_is_err_and c.from_residual.result c.from_residual.ensures.1 in
    let w = g.W.Write.contents in
    let all = c.args.options.now in
    let i = c.loop-i.i in
    let o = c.index-options-i.result in
    let p = c.index-options-i-in-loop-i.result in
    let at : Item × ℕ = get_or all i o in
    let same : item_text at.0 (get_or all i p).1 ≡ item_text at.0 at.1 = ap (λ (z : Item × ℕ). item_text at.0 z.1) (get_or_default all i p o c.loop-i-test.true) in
    let left = flat_left (λ (z : Item × ℕ). item_text z.0 z.1) all i o c.loop-i-test.true in
    rw (e.1, e.2) (writes_part (w c.args.writer.now) (w c.loop-i.writer) (w c.write_bytes.new.writer) (flat_map (λ (z : Item × ℕ). item_text z.0 z.1) (take i all)) (item_text at.0 at.1) c.loop-i.invariant c.in_err-write_bytes.field-0.0 _ left.0
    (subst (λ z. Writes (Err c.in_err-write_bytes.field-0.0) (w c.loop-i.writer) (w c.write_bytes.new.writer) z) (c.as_bytes.ensures ∙ c.item.ensures ∙ same) c.in_err-write_bytes.ensures) left.1)
