use Rattle.std.proofs.Common.{refl}
use Rattle.std.specs.Fmt.{digits}
use Rattle.poly_text.proofs.replies.refusal_line.Goals as goal

pub returns-in-BadJson : goal.returns-in-BadJson
unfolding digits
returns-in-BadJson c = rw c.in-BadJson.is refl

pub returns-in-BadField : goal.returns-in-BadField
unfolding digits
returns-in-BadField c = rw c.in-BadField.is refl

pub returns-in-BadFormat : goal.returns-in-BadFormat
unfolding digits
returns-in-BadFormat c = rw c.in-BadFormat.is refl

pub returns-in-BadGrid : goal.returns-in-BadGrid
unfolding digits
returns-in-BadGrid c = rw c.in-BadGrid.is refl

pub returns-in-BadBoard : goal.returns-in-BadBoard
unfolding digits
returns-in-BadBoard c = rw c.in-BadBoard.is refl

pub returns-in-BadName : goal.returns-in-BadName
unfolding digits
returns-in-BadName c = rw c.in-BadName.is refl

pub returns-in-BadShape : goal.returns-in-BadShape
unfolding digits
returns-in-BadShape c = rw c.in-BadShape.is refl

pub returns-in-NameTaken : goal.returns-in-NameTaken
unfolding digits
returns-in-NameTaken c = rw c.in-NameTaken.is refl

pub returns-in-NoSuchPiece : goal.returns-in-NoSuchPiece
unfolding digits
returns-in-NoSuchPiece c = rw c.in-NoSuchPiece.is refl

pub returns-in-BadCell : goal.returns-in-BadCell
unfolding digits
returns-in-BadCell c = rw c.in-BadCell.is refl

pub returns-in-TooManyCells : goal.returns-in-TooManyCells
unfolding digits
returns-in-TooManyCells c = rw c.in-TooManyCells.is refl

pub returns-in-TooManyPieces : goal.returns-in-TooManyPieces
unfolding digits
returns-in-TooManyPieces c = rw c.in-TooManyPieces.is refl

pub returns-in-TooManyPlacements : goal.returns-in-TooManyPlacements
unfolding digits
returns-in-TooManyPlacements c = rw c.in-TooManyPlacements.is refl

pub returns-in-NotAPlacement : goal.returns-in-NotAPlacement
unfolding digits
returns-in-NotAPlacement c = rw c.in-NotAPlacement.is refl

pub returns-in-NoChange : goal.returns-in-NoChange
unfolding digits
returns-in-NoChange c = rw c.in-NoChange.is refl

pub returns-in-NothingToUndo : goal.returns-in-NothingToUndo
unfolding digits
returns-in-NothingToUndo c = rw c.in-NothingToUndo.is refl

pub returns-in-NothingToRedo : goal.returns-in-NothingToRedo
unfolding digits
returns-in-NothingToRedo c = rw c.in-NothingToRedo.is refl

pub returns-in-CatalogueFull : goal.returns-in-CatalogueFull
unfolding digits
returns-in-CatalogueFull c = rw c.in-CatalogueFull.is refl

pub returns-in-BadCommand : goal.returns-in-BadCommand
unfolding digits
returns-in-BadCommand c = rw c.in-BadCommand.is refl

pub returns-in-LineTooLong : goal.returns-in-LineTooLong
unfolding digits
returns-in-LineTooLong c = rw c.in-LineTooLong.is refl

pub returns-in-Unfinished : goal.returns-in-Unfinished
unfolding digits
returns-in-Unfinished c = rw c.in-Unfinished.is refl

pub returns-in-Memory : goal.returns-in-Memory
unfolding digits
returns-in-Memory c = rw c.in-Memory.is refl

pub returns-in-Gone : goal.returns-in-Gone
unfolding digits
returns-in-Gone c = rw c.in-Gone.is refl

pub returns-in-DoesNotHold : goal.returns-in-DoesNotHold
unfolding digits
returns-in-DoesNotHold c = rw c.in-DoesNotHold.is refl

pub returns-in-TooLarge : goal.returns-in-TooLarge
unfolding digits
returns-in-TooLarge c = rw c.in-TooLarge.is refl

pub returns-in-Spent : goal.returns-in-Spent
unfolding digits
returns-in-Spent c = rw c.in-Spent.is refl

pub returns-in-Unsettled : goal.returns-in-Unsettled
unfolding digits
returns-in-Unsettled c = rw c.in-Unsettled.is refl

pub returns-in-TooWide : goal.returns-in-TooWide
unfolding digits
returns-in-TooWide c = rw c.in-TooWide.is refl

pub returns-in-Busy : goal.returns-in-Busy
unfolding digits
returns-in-Busy c = rw c.in-Busy.is refl
