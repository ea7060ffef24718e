use Rattle.std.proofs.Common.{List, ap, arith, false, get_or, length, subst, true, ℕ, ◌<◌, ◌∙◌, ◌≡◌}
use Rattle.std.proofs.lemmas.List.{get_or_read}
use Rattle.poly_tiling.specs.declared.bound.Bound.{Bound}
use Rattle.poly_tiling.specs.Puzzle.{count, same_item}
use Rattle.poly_frame.specs.FrameConsistent.{fits_at}
use Rattle.poly_frame.specs.FrameItems.{item_at}
use Rattle.poly_frame.proofs.FrameArms.{fits_says, unlisted_fits}
use Rattle.poly_frame.proofs.frame.right.item_fits.Goals as goal

pub returns-in-Some : goal.returns-in-Some
returns-in-Some c =
    let s = c.args.steps.now in
    let t = c.args.node.now.table.now in
    let v = c.args.node.now.view.now in
    let K = c.requires.kept in
    let i = c.args.item.now in
    let b = c.in-Some.b in
    let found = subst (λ (bs : List Bound). (b < length bs) × (same_item (item_at bs b) i ≡ true)) c.items.ensures.value c.in-Some.ensures in
    let most = get_or_read t.mosts.items b c.index.result.now (omega (arith, found.0, K.table.mosts_len)) c.index.ensures 0 in
    let had = get_or_read s.have.items b c.index-in-Some.result.now (omega (arith, found.0, K.have_len)) c.index-in-Some.ensures 0 in
    c.fits.ensures ∙ ap (λ n. fits_at i n c.index-in-Some.result.now) most ∙ ap (λ n. fits_at i (get_or t.mosts.items b 0) n) had
    ∙ fits_says v c.args.node.now.trail.now c.args.node.now.base c.args.node.now.matrix.now t s.live.items s.have.items s.raised.items s.marks.items K i b found.0 found.1

pub returns-in-None : goal.returns-in-None
returns-in-None c =
    let v = c.args.node.now.view.now in
    let i = c.args.item.now in
    let out = subst (λ (bs : List Bound). (b : ℕ) → b < length bs → same_item (item_at bs b) i ≡ false) c.items.ensures.value c.in-None.ensures in
    unlisted_fits v c.args.node.now.trail.now i out c.count.result (c.count.ensures.value ∙ ap (λ xs. count v xs i) c.requires.members)
