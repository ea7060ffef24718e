-- What passes note.
use Rattle.std.specs.Prelude.{List, ℕ, length}
use Rattle.poly_board.specs.Posts.{posted}
use Rattle.poly_board.specs.declared.posted.Posted.{Posted}
use Rattle.poly_book.specs.States.{State}

-- the edition of a book and the number of its endings
abbrev pub numbers_of : State → Posted
numbers_of b = posted (length b.steps) (length b.endings)

-- what a pass has noted, how many changes and cuts it has made, and the posts that its look knows
pub record Held : Type 0 where
  pub noted : Posted
  pub changes : ℕ
  pub cuts : ℕ
  pub posts : List Posted

abbrev pub held : Posted → ℕ → ℕ → List Posted → Held
held noted changes cuts posts = record { noted = noted; changes = changes; cuts = cuts; posts = posts }
