use Rattle.std.proofs.Common.{List, [], ap, arith, length, reverse, subst, sym, ◌<◌, ◌≡◌, ◌∙◌, ◌∷◌}
use Rattle.std.proofs.lemmas.List.{reverse-append}
use Rattle.poly_frame.specs.FrameSteps.{HasRoom, StepsKeep}
use Rattle.poly_frame.specs.Layers.{PileShows}
use Rattle.poly_frame.specs.Matrices.{matrix_of}
use Rattle.poly_frame.specs.declared.frame.layers.Layer.{Layer}
use Rattle.poly_frame.specs.declared.frame.node.Stand.{Stand}
use Rattle.poly_frame.specs.declared.frame.steps.Steps.{Steps}
use Rattle.poly_frame.proofs.Layers.{pile_pop}
use Rattle.poly_frame.proofs.frame.layers.widen.Goals as goal

pub returns-in-Some : goal.returns-in-Some
returns-in-Some c =
    let at = c.args.stand.now in
    let A = c.args.trail.now in
    let l = c.in-Some.below in
    let rest = c.pop.new.self.items in
    let stand = sym c.exchange-dropped.ensures.stand in
    let steps = sym c.exchange-dropped.ensures.steps in
    let last : reverse c.args.under.now.items ≡ l ∷ reverse rest = ap reverse c.in-Some.ensures.items ∙ reverse-append rest (l ∷ []) in
    let below = pile_pop at.view.now A at.given at.base l (reverse rest) (omega (arith, c.if-stand-trail.false)) c.requires.levels.low (subst (λ (ls : List Layer). PileShows at.view.now A at.given at.base ls) last c.requires.pile) in
    record {
      stays = sym stand ∙ ap (λ (s : Stand). record at { base = s.base; columns = s.columns; table = s.table }) stand;
      levels = subst (λ (s : Stand). StepsKeep s.view.now A s.base (matrix_of s.columns) s.table c.exchange-dropped.new.steps) stand
          (subst (λ (t : Steps). StepsKeep at.view.now A l.base (matrix_of l.columns) l.table t) steps below.1.levels);
      room = subst (λ (s : Stand). HasRoom (matrix_of s.columns) c.exchange-dropped.new.steps) stand (subst (λ (t : Steps). HasRoom (matrix_of l.columns) t) steps below.1.room);
      pile = subst (λ (s : Stand). PileShows s.view.now A s.given s.base (reverse rest)) stand below.2;
      below = subst (λ (s : Stand). s.base < length A) stand below.0;
    }
