use Rattle.std.proofs.Common.{[], sym, ◌∷◌}
use Rattle.std.proofs.lemmas.List.{append-nil}
use Rattle.poly_frame.proofs.FrameItems.{noted_none, noted_one}
use Rattle.poly_frame.proofs.frame.items.note_item.Goals as goal

pub returns-in-Some-clause-indices : goal.returns-in-Some-clause-indices
returns-in-Some-clause-indices c = (c.in-Some.b ∷ [], c.push_reserved.ensures.items, noted_one c.args.bounds.now c.args.item c.in-Some.b c.requires.order c.in-Some.ensures)

pub returns-in_default-clause-indices : goal.returns-in_default-clause-indices
returns-in_default-clause-indices c = ([], sym (append-nil c.args.noted.now.items), noted_none c.args.bounds.now c.args.item (λ b h. c.in_default.ensures b h))
