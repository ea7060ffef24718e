use Rattle.std.proofs.Common.{map, take}
use Rattle.std.specs.List.{flat_map}
use Rattle.std.specs.Io.KnownBytes.{Appends}
use Rattle.poly_tiling.specs.TilingOrder.{placed}
use Rattle.poly_text.specs.Replies.{tiling_text}
use Rattle.poly_cli.proofs.answering.Answerer.print.Given as goal

abbrev pub invariant-loop-i : goal.invariant-loop-i
invariant-loop-i g l = Appends (g.W.Write.contents l.fn.writer) (g.W.Write.contents l.writer) (flat_map tiling_text (map (placed l.view) (take l.i l.tilings)))
