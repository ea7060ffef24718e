use Rattle.std.proofs.Common.{◌∙◌, ap, subst, arith, length}
use Rattle.std.specs.List.Sorted.{IsPermutation}
use Rattle.std.proofs.lemmas.List.Sorted.{sum_by-IsPermutation}
use Rattle.poly_tiling.specs.Shows.{names}
use Rattle.poly_text.specs.Replies.{covered, tiling_text}
use Rattle.poly_cli.proofs.Placed.{sorted_is_placed}
use Rattle.poly_cli.proofs.answering.Answerer.make_line.Goals as goal

pub tiling-requires : goal.tiling-requires
tiling-requires c =
    let same = sum_by-IsPermutation (λ p. length p.cells) c.collect.new.self.placements.items c.sort_unstable.new.self.items c.sort_unstable.ensures.permutation in
    let named = c.collect.ensures ∙ ap (names c.args.view.now) c.numbers.ensures.value in
    omega (arith, ap covered c.deref.ensures.value, same, ap covered named, c.requires.short)

pub returns : goal.returns
returns c =
    let v = c.args.view.now in
    let T = c.args.tiling.now in
    let named = c.collect.ensures ∙ ap (names v) c.numbers.ensures.value in
    let is = sorted_is_placed v T c.sort_unstable.new.self.items c.requires (subst (λ l. IsPermutation l c.sort_unstable.new.self.items) named c.sort_unstable.ensures.permutation) c.sort_unstable.ensures.sorted in
    c.tiling.ensures ∙ ap tiling_text (c.deref.ensures.value ∙ is)
