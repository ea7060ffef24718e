-- How a word of `browse` is kept while the other words are read.
use Rattle.std.specs.Prelude.{◌≡◌}
use Rattle.poly_text.specs.declared.command.queries.QueryWord as kept
use Rattle.poly_text.specs.declared.command.queries.QueryWord.TheVariants as kept_as
use Rattle.poly_text.specs.Queries.{Query, has, lacks, covers, Makes}

-- the word is kept as one of its kind: with its item, or with the placement of its name and cells, or without a placement if
-- the cells make no set
abbrev pub IsReadAs : Query → kept.QueryWord → Type 0
IsReadAs (has n) (kept_as.Has made) = Makes n made
IsReadAs (has n) (kept_as.Lacks made) = ⊥
IsReadAs (has n) (kept_as.Covers item) = ⊥
IsReadAs (lacks n) (kept_as.Has made) = ⊥
IsReadAs (lacks n) (kept_as.Lacks made) = Makes n made
IsReadAs (lacks n) (kept_as.Covers item) = ⊥
IsReadAs (covers i) (kept_as.Has made) = ⊥
IsReadAs (covers i) (kept_as.Lacks made) = ⊥
IsReadAs (covers i) (kept_as.Covers item) = i ≡ item
