use Rattle.std.proofs.Common.{◌≡◌, ◌^◌, ◌-◌, min, take, drop}
use Rattle.std.specs.Char.{is_digit}
use Rattle.std.specs.List.{list_all}
use Rattle.std.specs.Str.Parse.{digits_value}
use Rattle.poly_text.proofs.words.number_of.Given as goal

abbrev pub invariant-loop-byte : goal.invariant-loop-byte
invariant-loop-byte l = record {
  so_far : l.number ≡ min (digits_value 10 (take l.byte-index l.word)) (2 ^ 64 - 1);
  digits : list_all (λ b. is_digit b 10) (drop l.byte-index l.word) ≡ list_all (λ b. is_digit b 10) l.word;
}
