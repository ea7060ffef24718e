-- A frame stays right when a step is taken at its node.
use Rattle.std.proofs.Common.{List, [], ap, arith, length, reverse, subst, sym, vec_capacity, vec_len, ℕ, Vec, ◌++◌, ◌+◌, ◌<◌, ◌∷◌, ◌≡◌, ◌≤◌}
use Rattle.std.proofs.lemmas.List.{length-append}
use Rattle.std.specs.Global.{Global}
use Rattle.poly_tiling.specs.Puzzle.{View}
use Rattle.poly_atom.specs.declared.atom.Atom.{Atom}
use Rattle.poly_atom.specs.Hopeless.{base}
use Rattle.poly_frame.specs.Alive.{AliveShows}
use Rattle.poly_frame.specs.FrameMembers.{SizesShow}
use Rattle.poly_frame.specs.FrameConsistent.{ConsistentShows}
use Rattle.poly_frame.specs.FrameSteps.{HasRoom, StepsKeep}
use Rattle.poly_frame.specs.Frames.{IsFrame}
use Rattle.poly_frame.specs.Layers.{PileShows}
use Rattle.poly_frame.specs.declared.frame.layers.Layer.{Layer}
use Rattle.poly_frame.specs.declared.frame.matrix.Matrix.{Matrix}
use Rattle.poly_frame.specs.declared.frame.steps.Steps.{Steps}
use Rattle.poly_frame.specs.declared.frame.table.Table.{Table}
use Rattle.poly_frame.proofs.Alive.{alive_more}
use Rattle.poly_frame.proofs.Layers.{pile_more}

-- the steps are right for a node that was made of these parts
pub kept_at : (v w : View) (A B : List Atom) (first f : ℕ) (m n : Matrix) (t u : Table) (s : Steps) → w ≡ v → B ≡ A → f ≡ first → n ≡ m → u ≡ t → StepsKeep v A first m t s → StepsKeep w B f n u s
kept_at v w A B first f m n t u s ev eA ef em et K =
    subst (λ x. StepsKeep w B f n x s) (sym et)
    (subst (λ x. StepsKeep w B f x t s) (sym em)
    (subst (λ x. StepsKeep w B x m t s) (sym ef)
    (subst (λ x. StepsKeep w x first m t s) (sym eA)
    (subst (λ x. StepsKeep x A first m t s) (sym ev) K))))

-- what says something of a view, a trail and the number of given atoms holds for a node that was made of these
pub shown_at : (P : View → List Atom → ℕ → Type 0) (v w : View) (A B : List Atom) (given g : ℕ) → w ≡ v → B ≡ A → g ≡ given → P v A given → P w B g
shown_at P v w A B given g ev eA eg p = subst (λ x. P w B x) (sym eg) (subst (λ x. P w x given) (sym eA) (subst (λ x. P x A given) (sym ev) p))

-- what the step leaves at the node
pub record Stepped (v : View) (A : List Atom) (given first : ℕ) (m : Matrix) (t : Table) (a : Atom) (members sizes : List ℕ) (consistent : ℕ) (s : Steps) : Type 0 where
  pub kept : StepsKeep v (A ++ a ∷ []) first m t s
  pub room : HasRoom m s
  pub holds : members ≡ base v (A ++ a ∷ [])
  pub grown : SizesShow v (A ++ a ∷ []) given sizes
  pub right : ConsistentShows v (A ++ a ∷ []) given consistent

-- the same for the parts that the node was made of
pub stepped_here : (v w : View) (A B : List Atom) (given g first f : ℕ) (m n : Matrix) (t u : Table) (a : Atom) (members sizes : List ℕ) (consistent : ℕ) (s : Steps) → w ≡ v → B ≡ A → g ≡ given → f ≡ first → n ≡ m → u ≡ t →
    Stepped w B g f n u a members sizes consistent s → Stepped v A given first m t a members sizes consistent s
stepped_here v w A B given g first f m n t u a members sizes consistent s ev eA eg ef em et S =
    subst (λ x. Stepped v A given first m x a members sizes consistent s) et
    (subst (λ x. Stepped v A given first x u a members sizes consistent s) em
    (subst (λ x. Stepped v A given x n u a members sizes consistent s) ef
    (subst (λ x. Stepped v A x f n u a members sizes consistent s) eg
    (subst (λ x. Stepped v x g f n u a members sizes consistent s) eA
    (subst (λ x. Stepped x B g f n u a members sizes consistent s) ev S)))))

pub frame_after : {alive : List ℕ} (v : View) (trail trail2 : Vec Atom Global) (given : ℕ) (members members2 sizes sizes2 : Vec ℕ Global) (consistent consistent2 : ℕ) (options : Vec ℕ Global) (m : Matrix) (t : Table) (s s2 : Steps) (first : ℕ) (under : List Layer) (a : Atom) →
    IsFrame v trail given members sizes consistent options m t s first under alive → Stepped v trail.items given first m t a members2.items sizes2.items consistent2 s2 →
    length trail.items < given + 4096 → trail2.items ≡ trail.items ++ a ∷ [] → vec_capacity trail2 ≡ vec_capacity trail → vec_capacity members ≤ vec_capacity members2 → vec_capacity sizes2 ≡ vec_capacity sizes →
    IsFrame v trail2 given members2 sizes2 consistent2 options m t s2 first under alive
frame_after {alive} v trail trail2 given members members2 sizes sizes2 consistent consistent2 options m t s s2 first under a F S few items capacity room space =
    let more : vec_len trail2 ≡ vec_len trail + 1 = omega (arith, trail.ok.0, trail2.ok.0, length-append trail.items (a ∷ []), ap length items) in
    record {
      lists = record {
        begun = omega (arith, F.lists.begun, more);
        few = omega (arith, few, more, trail.ok.0);
        steps = omega (arith, F.lists.steps, capacity);
        base = subst (λ (B : List Atom). members2.items ≡ base v B) (sym items) S.holds;
        room = omega (arith, F.lists.room, room);
        answers = F.lists.answers;
      };
      grown = subst (λ (B : List Atom). SizesShow v B given sizes2.items) (sym items) S.grown;
      right = subst (λ (B : List Atom). ConsistentShows v B given consistent2) (sym items) S.right;
      changes = omega (arith, F.changes, space);
      levels = subst (λ (B : List Atom). StepsKeep v B first m t s2) (sym items) S.kept;
      room = S.room;
      lives = subst (λ (B : List Atom). AliveShows v B given alive) (sym items) (alive_more v trail.items a given alive F.lives);
      pile = subst (λ (B : List Atom). PileShows v B given first (reverse under)) (sym items) (pile_more v trail.items a given first (reverse under) (omega (arith, F.levels.low)) F.pile);
    }
