use Rattle.std.proofs.Common.{rules}
use Rattle.poly_lists.proofs.shared_lists.trie_after.Goals as goal

pub returns-clause-ok : goal.returns-clause-ok
returns-clause-ok c = search rules
