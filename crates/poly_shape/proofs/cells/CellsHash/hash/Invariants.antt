use Rattle.std.proofs.Common.{◌≡◌, take, fold}
use Rattle.std.specs.List.{flat_map}
use Rattle.poly_shape.specs.Order.{spot_writes}
use Rattle.poly_shape.proofs.cells.CellsHash.hash.Given as goal

abbrev pub invariant-loop-cell : goal.invariant-loop-cell
invariant-loop-cell g l = l.state ≡ fold g.H.Hasher.write l.initial.state (flat_map spot_writes (take l.cell-index l.cells))
