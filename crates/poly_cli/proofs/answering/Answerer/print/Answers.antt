use Rattle.std.proofs.Common.{◌≡◌, ◌<◌, ◌++◌, [], sym, ◌∙◌, ap, map, take, subst, length, arith, Err}
use Rattle.std.specs.List.{flat_map}
use Rattle.std.proofs.lemmas.List.{get_or_read, length-map, take_all}
use Rattle.std.proofs.lemmas.Result.{err_from_is_err_and}
use Rattle.poly_tiling.specs.TilingOrder.{placed}
use Rattle.poly_text.specs.Replies.{tiling_text, tilings_text}
use Rattle.poly_cli.specs.Runs.{Writes}
use Rattle.poly_cli.proofs.Written.{writes_last, writes_part, lines_to, lines_left}
use Rattle.poly_cli.proofs.answering.Answerer.print.Goals as goal

pub returns-in_err-write_bytes : goal.returns-in_err-write_bytes
returns-in_err-write_bytes g c =
    let p = err_from_is_err_and c.from_residual.result c.from_residual.ensures.1 in
    let v = c.args.view.now in
    let all = c.args.tilings.now in
    let lt : c.loop-i.i < length all = c.loop-i-test.true in
    let left = lines_left v all c.loop-i.i c.index-tilings-i.result lt (get_or_read all c.loop-i.i c.index-tilings-i.result lt c.index-tilings-i.is []) in
    rw (p.1, p.2) (writes_part _ _ _ (lines_to v all c.loop-i.i) (tiling_text (placed v c.index-tilings-i.result)) c.loop-i.invariant c.in_err-write_bytes.field-0.0 _ left.0
    (subst (λ z. Writes (Err c.in_err-write_bytes.field-0.0) (g.W.Write.contents c.loop-i.writer) (g.W.Write.contents c.write_bytes.new.writer) z) (c.as_bytes.ensures ∙ c.make_line.ensures) c.in_err-write_bytes.ensures) left.1)

pub returns : goal.returns
returns g c =
    let v = c.args.view.now in
    let all = c.args.tilings.now in
    let whole : take c.loop-i.i all ≡ all = take_all c.loop-i.i all (omega arith) in
    let text : c.as_bytes-2.result.now ≡ tilings_text (length (map (placed v) all)) = c.as_bytes-2.ensures ∙ c.tilings.ensures ∙ ap tilings_text (sym (length-map all (placed v))) in
    writes_last _ _ _ _ _ c.loop-i.invariant _ _ c.write_whole.ensures (ap (λ z. flat_map tiling_text (map (placed v) z) ++ c.as_bytes-2.result.now) whole ∙ ap (λ z. flat_map tiling_text (map (placed v) all) ++ z) text)
