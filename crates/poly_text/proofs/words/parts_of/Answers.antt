use Rattle.std.proofs.Common.{◌≡◌, ◌==◌, map, rules}
use Rattle.std.proofs.lemmas.Iterator.Consumers.{map_from_collect}
use Rattle.std.proofs.lemmas.Iterator.Splits.{YieldsList-from_slice_split}
use borrow.Author.Tests.{tests}
use Rattle.std.proofs.lemmas.Result.{IfOk-at_ok}
use Rattle.poly_text.specs.Words.{parts_of}
use Rattle.poly_text.proofs.words.parts_of.Goals as goal

pub returns-clause-ok : goal.returns-clause-ok
returns-clause-ok c =
    IfOk-at_ok (λ parts. map (λ w. w.now) parts.items ≡ parts_of c.args.text.now) c.in_ok-parts.was
    (map_from_collect c.collect.result c.collect.ensures.ran
    (YieldsList-from_slice_split _ (λ b. b == 47) c.args.text.now c.split.ensures.rest c.split.ensures.done c.split.ensures.closure (λ x b q k. search (rules, tests))))
