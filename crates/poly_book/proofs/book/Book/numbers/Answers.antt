use Rattle.std.proofs.Common.{arith, length, rules, ◌≡◌, ◌≤◌}
use Rattle.poly_book.specs.Keeps.{state_of}
use Rattle.poly_book.proofs.Amounts.{listed_all, listed_few}
use Rattle.poly_book.proofs.Nexting.{none_pending}
use Rattle.poly_book.proofs.book.Book.numbers.Goals as goal

pub returns-clause-tilings : goal.returns-clause-tilings
returns-clause-tilings c =
    let p = c.self.invariant.whole.consistent in
    let count : c.len-3.result ≡ length c.self.inside.parts.listed = search rules in
    rw (← c.self.view_is, count) (listed_few (state_of c.self.inside.parts) p.well p.shows p.partition)

pub returns-clause-all : goal.returns-clause-all
returns-clause-all c = λ none.
    let p = c.self.invariant.whole.consistent in
    let count : c.len-3.result ≡ length c.self.inside.parts.listed = search rules in
    let tasks : c.len-4.result ≡ length c.self.inside.parts.tasks.items = search rules in
    let few : length c.self.inside.parts.tasks.items ≤ 0 = omega (arith, none, tasks) in
    rw (← c.self.view_is, count) (listed_all (state_of c.self.inside.parts) p.well p.shows p.partition (none_pending c.self.inside.parts.log c.self.inside.parts.tasks.items few))
