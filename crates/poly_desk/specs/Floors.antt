-- What a floor keeps.
use Rattle.std.specs.Prelude.{List, drop, length, ℕ, ◌+◌, ◌≡◌, ◌≤◌}
use Rattle.poly_board.specs.Posts.{last_of}
use Rattle.poly_board.specs.declared.posted.Posted.{Posted}
use Rattle.poly_design.specs.Layout.{Layout}
use Rattle.poly_tiling.specs.Puzzle.{View}
use Rattle.poly_book.specs.declared.step.Step.{Step}
use Rattle.poly_book.specs.States.{State}
use Rattle.poly_desk.specs.Changes.{cut_count}
use Rattle.poly_desk.specs.Noted.{numbers_of}

-- a floor as contracts see it: its book, and how many passes were made
pub record OnFloor : Type 0 where
  pub book : State
  pub passes : ℕ

abbrev pub on_floor : State → ℕ → OnFloor
on_floor book passes = record { book = book; passes = passes }

-- the desk began with this opening of the book, and the totals are how many steps and cuts the book has had since then
pub record Counts (o : Layout) (ss : List Step) (k : ℕ) (b : State) (changes cuts : ℕ) : Type 0 where
  pub opened : b.opened ≡ o
  pub begins : drop changes b.steps ≡ ss
  pub changes_are : length b.steps ≡ length ss + changes
  pub cuts_are : cut_count b.endings ≡ k + cuts

-- the last post has the book's numbers, and each step and ending has a flag
pub record Shows (b : State) (posts : List Posted) (step_flags ending_flags : ℕ) : Type 0 where
  pub posted : last_of posts ≡ numbers_of b
  pub steps : length b.steps ≤ step_flags
  pub endings : length b.endings ≤ ending_flags

-- a view that the book may have at the edition: at the edition of the opening steps, it is the opening view
abbrev pub IsViewAt : List Step → View → ℕ → View → Type 0
IsViewAt ss v edition w = edition ≡ length ss → w ≡ v
