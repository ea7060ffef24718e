use Rattle.std.proofs.Common.{◌≡◌, ◌≤◌, ◌++◌, take, vec_capacity}
use Rattle.poly_text.proofs.replies.ReplyLine.put.Given as goal

abbrev pub invariant-loop-byte : goal.invariant-loop-byte
invariant-loop-byte l = record {
  room : 8192 ≤ vec_capacity l.self-inside.text;
  text : l.self-inside.text.items ≡ l.fn.self ++ take l.byte-index l.bytes;
}
