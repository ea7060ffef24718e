use Rattle.std.proofs.Common.{◌≡◌, List, ℕ, take, vec_capacity}
use Rattle.poly_cli.specs.Buffered.{kept, EndsNone}
use Rattle.poly_cli.proofs.lines.gather.Given as goal

abbrev pub invariant-loop-i : goal.invariant-loop-i
invariant-loop-i l = record {
  room : vec_capacity l.line ≡ vec_capacity l.fn.line;
  so_far : (begun : List ℕ) → l.fn.line.items ≡ kept l.limit begun → EndsNone l.limit begun (take l.i l.bytes) l.line.items;
}
