use Rattle.std.proofs.Common.{◌≡◌, ◌==◌, map, rules}
use Rattle.std.proofs.lemmas.Iterator.Consumers.{map_from_collect, YieldsList-from_filter, YieldsList-at}
use Rattle.std.proofs.lemmas.Iterator.Splits.{YieldsList-from_slice_split}
use borrow.Author.Tests.{tests}
use Rattle.std.proofs.lemmas.Result.{IfOk-at_ok}
use Rattle.poly_text.specs.Words.{has_byte, words_of}
use Rattle.poly_text.proofs.words.words_of.Goals as goal

pub returns-clause-ok : goal.returns-clause-ok
returns-clause-ok c =
    IfOk-at_ok (λ words. map (λ w. w.now) words.items ≡ words_of c.args.line.now) c.in_ok-words.was
    (map_from_collect c.collect.result c.collect.ensures.ran
    (YieldsList-from_filter _ has_byte
    (YieldsList-at c.filter.ensures.source (YieldsList-from_slice_split _ (λ b. b == 32) c.args.line.now c.split.ensures.rest c.split.ensures.done c.split.ensures.closure (λ x b q k. search (rules, tests))))
    c.filter.ensures.closure (λ x b q k. search (rules, tests))))
