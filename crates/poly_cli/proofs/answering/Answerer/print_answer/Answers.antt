use Rattle.std.proofs.Common.{◌++◌, ◌∙◌, ap, append_assoc, refl, subst, Err}
use Rattle.std.specs.List.{flat_map}
use Rattle.std.proofs.lemmas.Result.{err_from_is_err_and}
use Rattle.poly_text.specs.Replies.{forced_text, item_text, matches_text}
use Rattle.poly_cli.specs.Runs.{Writes}
use Rattle.std.specs.Io.KnownBytes.{Appends}
use Rattle.poly_cli.proofs.Known.{appends_more}
use Rattle.poly_cli.proofs.Written.{first_part, writes_last, writes_part}
use Rattle.poly_cli.proofs.answering.Answerer.print_answer.Goals as goal

pub returns-in_err-write_bytes : goal.returns-in_err-write_bytes
returns-in_err-write_bytes g c =
    let p = err_from_is_err_and c.from_residual.result c.from_residual.ensures.1 in
    let a = c.args.answer.now in
    let text = c.as_bytes.ensures ∙ c.forced.ensures ∙ ap forced_text c.deref.ensures.value in
    let said = subst (Writes (Err c.in_err-write_bytes.field-0.0) (g.W.Write.contents c.args.writer.now) (g.W.Write.contents c.write_bytes.new.writer)) text c.in_err-write_bytes.ensures in
    rw (p.1, p.2) (first_part c.in_err-write_bytes.field-0.0 _ _ (forced_text a.forced.items) (flat_map (λ o. item_text o.0 o.1) a.options.items ++ matches_text a.count) said)

pub returns-in_err-print_options : goal.returns-in_err-print_options
returns-in_err-print_options g c =
    let p = err_from_is_err_and c.from_residual-in_err-print_options.result c.from_residual-in_err-print_options.ensures.1 in
    let a = c.args.answer.now in
    let w = g.W.Write.contents in
    let text = c.as_bytes.ensures ∙ c.forced.ensures ∙ ap forced_text c.deref.ensures.value in
    let first = subst (Appends (w c.args.writer.now) (w c.write_bytes.new.writer)) text c.in_ok-write_bytes.ensures in
    let said = subst (λ z. Writes (Err c.in_err-print_options.field-0.0) (w c.write_bytes.new.writer) (w c.print_options.new.writer) (flat_map (λ o. item_text o.0 o.1) z)) c.deref-2.ensures.value c.in_err-print_options.ensures in
    rw (p.1, p.2) (writes_part (w c.args.writer.now) (w c.write_bytes.new.writer) (w c.print_options.new.writer) (forced_text a.forced.items) (flat_map (λ o. item_text o.0 o.1) a.options.items) first
    c.in_err-print_options.field-0.0 _ (matches_text a.count) said refl)

pub returns : goal.returns
returns g c =
    let a = c.args.answer.now in
    let w = g.W.Write.contents in
    let text = c.as_bytes.ensures ∙ c.forced.ensures ∙ ap forced_text c.deref.ensures.value in
    let first = subst (Appends (w c.args.writer.now) (w c.write_bytes.new.writer)) text c.in_ok-write_bytes.ensures in
    let items = subst (λ z. Appends (w c.write_bytes.new.writer) (w c.print_options.new.writer) (flat_map (λ o. item_text o.0 o.1) z)) c.deref-2.ensures.value c.in_ok-print_options.ensures in
    let both = appends_more (w c.args.writer.now) (w c.write_bytes.new.writer) (w c.print_options.new.writer) (forced_text a.forced.items) (flat_map (λ o. item_text o.0 o.1) a.options.items) first items in
    writes_last (w c.args.writer.now) (w c.print_options.new.writer) (w c.write_whole.new.writer) (forced_text a.forced.items ++ flat_map (λ o. item_text o.0 o.1) a.options.items) c.as_bytes-2.result.now both
    c.write_whole.result _ c.write_whole.ensures (ap (λ z. (forced_text a.forced.items ++ flat_map (λ o. item_text o.0 o.1) a.options.items) ++ z) (c.as_bytes-2.ensures ∙ c.matches.ensures) ∙ append_assoc (forced_text a.forced.items) (flat_map (λ o. item_text o.0 o.1) a.options.items) (matches_text a.count))
