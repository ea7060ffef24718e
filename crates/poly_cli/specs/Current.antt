-- What a session keeps between two questions.
use Rattle.std.specs.Prelude.{IfSome, None, Option, true, ◌≡◌}
use Rattle.poly_book.specs.AllTilings.{AllTilings}
use Rattle.poly_cli.specs.States.{State}

-- nothing is kept; or all tilings of the present design are kept, a question was answered since the last change, and the
-- engine hasn't failed
abbrev pub IsCurrent : Option AllTilings → State → Type 0
IsCurrent kept s = IfSome kept (λ q. (q.design ≡ s.design) × (s.settled ≡ true) × (s.failed ≡ None))
