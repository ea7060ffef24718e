use Rattle.std.proofs.Common.{[], ap, ◌++◌, ◌∙◌, ◌∷◌, ◌≡◌}
use Rattle.std.proofs.lemmas.Bool.{and_from, le-leb}
use Rattle.poly_tiling.specs.declared.item.Item.TheVariants.{Piece}
use Rattle.poly_tiling.specs.Shows.{piece_bound}
use Rattle.poly_tiling.proofs.Plain.{pieces_all, pieces_more, pieces_start}
use Rattle.poly_tiling.proofs.numbering.add_pieces.Goals as goal

pub loop-name-init : goal.loop-name-init
loop-name-init c = rw c.into_iter-name-iterator.ensures.into_iter_gives.0 (pieces_start _ _)

pub loop-name-preserved : goal.loop-name-preserved
loop-name-preserved c =
    let now = c.loop-name.list.items in
    let name = c.in-Some.name.now in
    let spec = c.in-Some.spec.now in
    let pushed : c.push.new.self.items ≡ now ++ piece_bound (name, spec) ∷ [] =
    c.in_ok-push.ensures.items
    ∙ ap (λ n. now ++ record { item = Piece name; least = n; most = c.most.result } ∷ []) c.least.ensures.value
    ∙ ap (λ n. now ++ record { item = Piece name; least = spec.copies.least; most = n } ∷ []) c.most.ensures.value in
    pieces_more c.args.pieces.now.entries _ _ (name, spec) c.args.list.now.items now c.push.new.self.items c.loop-name.invariant c.in-Some.ensures.steps pushed
    (and_from _ _ (le-leb _ _ c.least.ensures.bounded.0) (le-leb _ _ c.least.ensures.bounded.1))

pub returns-clause-ok : goal.returns-clause-ok
returns-clause-ok c = (pieces_all _ _ _ _ c.loop-name.invariant c.in-None.ensures.steps.0).0

pub returns-clause-small : goal.returns-clause-small
returns-clause-small c = (pieces_all _ _ _ _ c.loop-name.invariant c.in-None.ensures.steps.0).1
