-- A book may be shared by threads, and given to another one: so may each of its parts, one step at a time. Left to itself, the
-- search for these proofs looks into all parts at once, and gives up at its limit.
use denote.Param.Send.{IsSend, IsSync, sendable}
use Rattle.poly_atom.proofs.atom.Atom.TheSendSync as Atom
use Rattle.poly_atom.proofs.log.GuardLog.TheSendSync as GuardLog
use Rattle.poly_atom.proofs.stair.Stair.TheSendSync as Stair
use Rattle.poly_book.below.circular_buffer.proofs.cells.Base.TheSendSync as Base
use Rattle.poly_book.below.circular_buffer.proofs.cells.Cells.TheSendSync as Cells
use Rattle.poly_book.below.circular_buffer.proofs.cells.Deed.TheSendSync as Deed
use Rattle.poly_book.below.circular_buffer.proofs.heap.HeapCircularBuffer.TheSendSync as HeapCircularBuffer
use Rattle.poly_book.below.circular_buffer.proofs.ring.Ring.TheSendSync as Ring
use Rattle.poly_book.below.indexmap.proofs.columns.Columns.TheSendSync as Columns
use Rattle.poly_book.below.indexmap.proofs.index_table.Bucket.TheSendSync as Bucket
use Rattle.poly_book.below.indexmap.proofs.index_table.IndexTable.TheSendSync as IndexTable
use Rattle.poly_book.below.indexmap.proofs.index_table.group.Group.TheSendSync as Group
use Rattle.poly_book.below.indexmap.proofs.map.IndexMap.TheSendSync as IndexMap
use Rattle.poly_book.below.indexmap.proofs.set.IndexSet.TheSendSync as IndexSet
use Rattle.poly_tasks.proofs.excerpt.Excerpt.TheSendSync as Excerpt
use Rattle.poly_tasks.proofs.maps.Maps.TheSendSync as Maps
use Rattle.poly_book.proofs.narrowed.Narrowed.TheSendSync as Narrowed
use Rattle.poly_tasks.proofs.register.Register.TheSendSync as Register
use Rattle.poly_tasks.proofs.rows.Row.TheSendSync as Row
use Rattle.poly_tasks.proofs.rows.Span.TheSendSync as Span
use Rattle.poly_book.proofs.scene.Scene.TheSendSync as Scene
use Rattle.poly_book.proofs.step.Ending.TheSendSync as Ending
use Rattle.poly_book.proofs.step.Kind.TheSendSync as Kind
use Rattle.poly_book.proofs.step.Step.TheSendSync as Step
use Rattle.poly_catalogue.proofs.catalogue.Catalogue.TheSendSync as Catalogue
use Rattle.poly_catalogue.proofs.listing.Listing.TheSendSync as Listing
use Rattle.poly_catalogue.proofs.positions.Positions.TheSendSync as Positions
use Rattle.poly_catalogue.proofs.row.Row.TheSendSync as Row2
use Rattle.poly_design.proofs.cells_set.CellsSet.TheSendSync as CellsSet
use Rattle.poly_design.proofs.change.Change.TheSendSync as Change
use Rattle.poly_design.proofs.copies.Copies.TheSendSync as Copies
use Rattle.poly_design.proofs.design.Design.TheSendSync as Design
use Rattle.poly_design.proofs.mode.Mode.TheSendSync as Mode
use Rattle.poly_design.proofs.name.Name.TheSendSync as Name
use Rattle.poly_design.proofs.placement.Placement.TheSendSync as Placement
use Rattle.poly_design.proofs.spec.Spec.TheSendSync as Spec
use Rattle.poly_frame.proofs.frame.matrix.Lists.TheSendSync as Lists
use Rattle.poly_frame.proofs.frame.matrix.Matrix.TheSendSync as Matrix
use Rattle.poly_frame.proofs.frame.occupied.Occupied.TheSendSync as Occupied
use Rattle.poly_grid.proofs.cell.Cell.TheSendSync as Cell
use Rattle.poly_grid.proofs.grid.Grid.TheSendSync as Grid
use Rattle.poly_lists.proofs.nodes.Nodes.TheSendSync as Nodes
use Rattle.poly_lists.proofs.nodes.Word.TheSendSync as Word
use Rattle.poly_lists.proofs.shared_lists.Trie.TheLaws.TheKnot as TrieKnot
use Rattle.poly_place.proofs.index.Index.TheSendSync as Index
use Rattle.poly_place.proofs.index.Row.TheSendSync as Row3
use Rattle.poly_place.proofs.interner.Interner.TheSendSync as Interner
use Rattle.poly_place.proofs.numbered.Numbered.TheSendSync as Numbered
use Rattle.poly_place.proofs.table.Table.TheSendSync as Table
use Rattle.poly_shape.proofs.cells.Cells.TheSendSync as Cells2
use Rattle.poly_shape.proofs.shape.Shape.TheSendSync as Shape
use Rattle.poly_tiling.proofs.bound.Bound.TheSendSync as Bound
use Rattle.poly_tiling.proofs.item.Item.TheSendSync as Item
use Rattle.poly_tiling.proofs.placement_blocks.PlacementBlocks.TheSendSync as PlacementBlocks
use Rattle.poly_tiling.proofs.live_numbers.LiveNumbers.TheSendSync as LiveNumbers
use Rattle.poly_tiling.proofs.placement_list.PlacementList.TheSendSync as PlacementList
use Rattle.poly_tiling.proofs.tiling.Tiling.TheSendSync as Tiling
use Rattle.poly_tiling.proofs.view.View.TheSendSync as View
use Rattle.poly_undo.proofs.history.History.TheSendSync as History
use Rattle.poly_undo.proofs.step.Step.TheSendSync as Step2
use Rattle.std.below.std_collections.proofs.btree.node.Node.TheSendSync as Node
use Rattle.std.below.std_collections.proofs.btree.node.root.Root.TheSendSync as Root
use Rattle.std.below.std_collections.proofs.btree.tree.Tree.TheSendSync as Tree
use Rattle.std.proofs.Crossing as Crossing
use Rattle.std.proofs.MapsCrossing as MapsCrossing
use Rattle.std.proofs.alloc.Global.TheSendSync as Global
use Rattle.std.proofs.collections.BTreeMap.TheSendSync as BTreeMap
use Rattle.std.proofs.hash.BuildHasherDefault.TheSendSync as BuildHasherDefault
use Rattle.std.proofs.hash.FoldHasher.TheSendSync as FoldHasher
use Rattle.std.proofs.option.Option.TheSendSync as Option
use Rattle.std.proofs.rt.Memory.TheSendSync as Memory
use Rattle.std.proofs.sync.Arc.TheSendSync as Arc
use Rattle.std.proofs.vec.Vec.TheSendSync as Vec
use Rattle.poly_board.below.atomic_table.proofs.owned.Table.TheSendSync as Table2
use Rattle.poly_board.below.atomic_table.proofs.send_lease.SendLease.TheSendSync as SendLease
use Rattle.poly_board.below.atomic_table.proofs.shared.Seat.TheSendSync as Seat
use Rattle.poly_board.below.atomic_table.proofs.shared.Shared.TheSendSync as Shared
use Rattle.poly_board.proofs.board.Board.TheSendSync as Board
use Rattle.poly_board.proofs.posted.Posted.TheSendSync as Posted
use Rattle.poly_board.proofs.poster.Poster.TheSendSync as Poster
use Rattle.poly_board.proofs.rule.OneLog.TheSendSync as OneLog
use Rattle.poly_board.proofs.rule.View.TheSendSync as View2
use Rattle.poly_desk.proofs.ledgers.Spare.TheSendSync as Spare
use Rattle.poly_desk.proofs.ledgers.Totals.TheSendSync as Totals
use Rattle.poly_desk.proofs.marks.Marks.TheSendSync as Marks
use Rattle.std.below.std_collections.proofs.linked_list.nodes.Nodes.TheSendSync as Nodes2
use Rattle.std.proofs.collections.LinkedList.TheSendSync as LinkedList
use Rattle.std.proofs.marker.PhantomData.TheSendSync as PhantomData
use Rattle.std.proofs.sync.Mutex.TheSendSync as Mutex
use Rattle.std.proofs.sync.ledger.Book.TheSendSync as Book
use Rattle.std.proofs.sync.ledger.Share.TheSendSync as Share
use Rattle.poly_tasks.specs.contracts.base.Base as base
use Rattle.poly_tasks.specs.contracts.task.Own as own
use Rattle.poly_tasks.specs.contracts.task.Pending as pending
use Rattle.poly_tasks.specs.contracts.shelf.Frozen as frozen
use Rattle.poly_tasks.specs.contracts.shelf.Shelf as shelf
use Rattle.poly_tasks.specs.contracts.shelf.Kept as kept
use Rattle.poly_book.specs.contracts.parts.Parts as parts
use Rattle.poly_book.specs.contracts.book.Book as book

-- what is known of types that hold others
ruleset holding = (MapsCrossing.crosses, Crossing.crosses, TrieKnot.crosses, sendable)

-- what is known of the types of a book's parts
ruleset parted = (Base.the_field_send, Base.the_send, Base.the_field_sync, Base.the_sync, Cells.the_send, Cells.the_sync, Deed.the_sync, FoldHasher.the_field_send, FoldHasher.the_send, FoldHasher.the_field_sync, FoldHasher.the_sync, Memory.the_field_send, Memory.the_send, Memory.the_field_sync, Memory.the_sync, Bucket.the_field_send, Bucket.the_send, Bucket.the_field_sync, Bucket.the_sync, Group.the_field_send, Group.the_send, Group.the_field_sync, Group.the_sync, Atom.the_field_send, Atom.the_send, Atom.the_field_sync, Atom.the_sync, GuardLog.the_send, GuardLog.the_sync, Stair.the_field_send, Stair.the_send, Stair.the_field_sync, Stair.the_sync, Excerpt.the_field_send, Excerpt.the_send, Excerpt.the_field_sync, Excerpt.the_sync, Maps.the_field_send, Maps.the_send, Maps.the_field_sync, Maps.the_sync, Narrowed.the_field_send, Narrowed.the_send, Narrowed.the_field_sync, Narrowed.the_sync, Register.the_field_send, Register.the_send, Register.the_field_sync, Register.the_sync, Row.the_send, Row.the_sync, Span.the_field_send, Span.the_send, Span.the_field_sync, Span.the_sync, Scene.the_send, Scene.the_sync, Ending.the_field_send, Ending.the_send, Ending.the_field_sync, Ending.the_sync, Kind.the_field_send, Kind.the_send, Kind.the_field_sync, Kind.the_sync, Step.the_field_send, Step.the_send, Step.the_field_sync, Step.the_sync, Catalogue.the_send, Catalogue.the_sync, Listing.the_send, Listing.the_sync, Positions.the_send, Positions.the_sync, Row2.the_send, Row2.the_sync, CellsSet.the_send, CellsSet.the_sync, Change.the_field_send, Change.the_send, Change.the_field_sync, Change.the_sync, Copies.the_send, Copies.the_sync, Design.the_send, Design.the_sync, Mode.the_field_send, Mode.the_send, Mode.the_field_sync, Mode.the_sync, Name.the_send, Name.the_sync, Placement.the_field_send, Placement.the_send, Placement.the_field_sync, Placement.the_sync, Spec.the_field_send, Spec.the_send, Spec.the_field_sync, Spec.the_sync, Lists.the_field_send, Lists.the_send, Lists.the_field_sync, Lists.the_sync, Matrix.the_field_send, Matrix.the_send, Matrix.the_field_sync, Matrix.the_sync, Occupied.the_field_send, Occupied.the_send, Occupied.the_field_sync, Occupied.the_sync, Cell.the_send, Cell.the_sync, Grid.the_field_send, Grid.the_send, Grid.the_field_sync, Grid.the_sync, Index.the_field_send, Index.the_send, Index.the_field_sync, Index.the_sync, Row3.the_send, Row3.the_sync, Interner.the_send, Interner.the_sync, Numbered.the_field_send, Numbered.the_send, Numbered.the_field_sync, Numbered.the_sync, Table.the_send, Table.the_sync, Nodes.the_send, Nodes.the_sync, Word.the_field_send, Word.the_send, Word.the_field_sync, Word.the_sync, Cells2.the_send, Cells2.the_sync, Shape.the_send, Shape.the_sync, Bound.the_field_send, Bound.the_send, Bound.the_field_sync, Bound.the_sync, Item.the_field_send, Item.the_send, Item.the_field_sync, Item.the_sync, PlacementBlocks.the_send, PlacementBlocks.the_sync, LiveNumbers.the_send, LiveNumbers.the_sync, PlacementList.the_send, PlacementList.the_sync, Tiling.the_send, Tiling.the_sync, View.the_send, View.the_sync, Vec.the_sync, Node.the_sync, Global.the_field_send, Global.the_send, Global.the_field_sync, Global.the_sync)

-- what is known of vectors and shared values
ruleset pointed = (Deed.the_send, HeapCircularBuffer.the_send, HeapCircularBuffer.the_sync, Ring.the_field_send, Ring.the_send, Ring.the_field_sync, Ring.the_sync, BuildHasherDefault.the_field_send, BuildHasherDefault.the_send, BuildHasherDefault.the_field_sync, BuildHasherDefault.the_sync, Option.the_field_send, Option.the_send, Option.the_field_sync, Option.the_sync, Columns.the_send, Columns.the_sync, IndexTable.the_send, IndexTable.the_sync, IndexMap.the_send, IndexMap.the_sync, IndexSet.the_send, IndexSet.the_sync, History.the_send, History.the_sync, Step2.the_field_send, Step2.the_send, Step2.the_field_sync, Step2.the_sync, Arc.the_send, Arc.the_sync, Vec.the_send, Node.the_send, Root.the_field_send, Root.the_send, Root.the_field_sync, Root.the_sync, Tree.the_field_send, Tree.the_send, Tree.the_field_sync, Tree.the_sync, BTreeMap.the_send, BTreeMap.the_sync)

pub base_send : IsSend base.the_field.row
base_send = first_of (search (holding) depth 60 fits 20000, search (parted, holding) depth 60 fits 20000, search (parted, pointed, holding) depth 60 fits 20000)

pub base_sync : IsSync base.the_field.row
base_sync = first_of (search (holding) depth 60 fits 20000, search (parted, holding) depth 60 fits 20000, search (parted, pointed, holding) depth 60 fits 20000)

pub own_send : IsSend own.the_field.row
own_send = first_of (search (base_send, base_sync, holding) depth 60 fits 20000, search (base_send, base_sync, parted, holding) depth 60 fits 20000, search (base_send, base_sync, parted, pointed, holding) depth 60 fits 20000)

pub own_sync : IsSync own.the_field.row
own_sync = first_of (search (base_send, base_sync, holding) depth 60 fits 20000, search (base_send, base_sync, parted, holding) depth 60 fits 20000, search (base_send, base_sync, parted, pointed, holding) depth 60 fits 20000)

pub pending_send : IsSend pending.the_field.row
pending_send = first_of (search (own_send, holding) depth 60 fits 20000, search (own_send, parted, holding) depth 60 fits 20000, search (own_send, parted, pointed, holding) depth 60 fits 20000)

pub pending_sync : IsSync pending.the_field.row
pending_sync = first_of (search (own_sync, holding) depth 60 fits 20000, search (own_sync, parted, holding) depth 60 fits 20000, search (own_sync, parted, pointed, holding) depth 60 fits 20000)

pub frozen_send : IsSend frozen.the_field.row
frozen_send = first_of (search (own_send, holding) depth 60 fits 20000, search (own_send, parted, holding) depth 60 fits 20000, search (own_send, parted, pointed, holding) depth 60 fits 20000)

pub frozen_sync : IsSync frozen.the_field.row
frozen_sync = first_of (search (own_sync, holding) depth 60 fits 20000, search (own_sync, parted, holding) depth 60 fits 20000, search (own_sync, parted, pointed, holding) depth 60 fits 20000)

pub shelf_send : IsSend shelf.the_field.row
shelf_send = first_of (search (frozen_send, holding) depth 60 fits 20000, search (frozen_send, parted, holding) depth 60 fits 20000, search (frozen_send, parted, pointed, holding) depth 60 fits 20000)

pub shelf_sync : IsSync shelf.the_field.row
shelf_sync = first_of (search (frozen_sync, holding) depth 60 fits 20000, search (frozen_sync, parted, holding) depth 60 fits 20000, search (frozen_sync, parted, pointed, holding) depth 60 fits 20000)

pub kept_send : IsSend kept.the_field.row
kept_send = first_of (search (shelf_send, holding) depth 60 fits 20000, search (shelf_send, parted, holding) depth 60 fits 20000, search (shelf_send, parted, pointed, holding) depth 60 fits 20000)

pub kept_sync : IsSync kept.the_field.row
kept_sync = first_of (search (shelf_sync, holding) depth 60 fits 20000, search (shelf_sync, parted, holding) depth 60 fits 20000, search (shelf_sync, parted, pointed, holding) depth 60 fits 20000)

pub parts_send : IsSend parts.the_field.row
parts_send = first_of (search (pending_send, kept_send, holding) depth 60 fits 20000, search (pending_send, kept_send, parted, holding) depth 60 fits 20000, search (pending_send, kept_send, parted, pointed, holding) depth 60 fits 20000)

pub parts_sync : IsSync parts.the_field.row
parts_sync = first_of (search (pending_sync, kept_sync, holding) depth 60 fits 20000, search (pending_sync, kept_sync, parted, holding) depth 60 fits 20000, search (pending_sync, kept_sync, parted, pointed, holding) depth 60 fits 20000)

pub book_send : IsSend book.the_field.row
book_send = first_of (search (parts_send, holding) depth 60 fits 20000, search (parts_send, parted, holding) depth 60 fits 20000, search (parts_send, parted, pointed, holding) depth 60 fits 20000)

pub book_sync : IsSync book.the_field.row
book_sync = first_of (search (parts_sync, holding) depth 60 fits 20000, search (parts_sync, parted, holding) depth 60 fits 20000, search (parts_sync, parted, pointed, holding) depth 60 fits 20000)

-- what is known of a lock over a book, as a desk and the benches of tests have
pub ruleset at_a_desk = (book_send, book_sync, Table2.the_field_send, Table2.the_send, Table2.the_field_sync, Table2.the_sync, SendLease.the_send, SendLease.the_sync, Seat.the_send, Shared.the_send, Shared.the_sync, Book.the_send, Share.the_send, PhantomData.the_field_send, PhantomData.the_send, PhantomData.the_field_sync, PhantomData.the_sync, Option.the_field_send, Option.the_send, Option.the_field_sync, Option.the_sync, Memory.the_field_send, Memory.the_send, Memory.the_field_sync, Memory.the_sync, Mutex.the_send, Mutex.the_sync, Board.the_field_send, Board.the_send, Board.the_field_sync, Board.the_sync, Posted.the_field_send, Posted.the_send, Posted.the_field_sync, Posted.the_sync, Poster.the_send, OneLog.the_field_send, OneLog.the_send, OneLog.the_field_sync, OneLog.the_sync, View2.the_field_send, View2.the_send, View2.the_field_sync, View2.the_sync, Spare.the_field_send, Spare.the_send, Totals.the_field_send, Totals.the_send, Marks.the_field_send, Marks.the_send, Marks.the_field_sync, Marks.the_sync, Arc.the_send, Arc.the_sync, Vec.the_send, Vec.the_sync, LinkedList.the_send, LinkedList.the_sync, Nodes2.the_send, Nodes2.the_sync, Global.the_field_send, Global.the_send, Global.the_field_sync, Global.the_sync, MapsCrossing.crosses, Crossing.crosses, sendable)
