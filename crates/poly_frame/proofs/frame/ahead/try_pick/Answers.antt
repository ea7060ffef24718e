use Rattle.std.proofs.Common.{MatchOption, None, Option, Some, List, [], ap, refl, subst, sym, true, ℕ, ◌++◌, ◌∙◌, ◌∷◌, ◌≡◌}
use Rattle.std.specs.Option.{IfSome}
use Rattle.std.proofs.lemmas.List.{length-take-le}
use Rattle.poly_tiling.specs.declared.item.Item.{Item}
use Rattle.poly_tiling.specs.Puzzle.{View}
use Rattle.poly_atom.specs.declared.atom.Atom.{Atom}
use Rattle.poly_atom.specs.declared.atom.Atom.TheVariants.{Has}
use Rattle.poly_frame.specs.FrameSteps.{HasRoom, StepsKeep}
use Rattle.poly_frame.specs.Open.{arms_fit, open_in}
use Rattle.poly_frame.specs.declared.frame.matrix.Matrix.{Matrix}
use Rattle.poly_frame.specs.declared.frame.steps.Steps.{Steps}
use Rattle.poly_frame.specs.declared.frame.table.Table.{Table}
use Rattle.poly_frame.proofs.frame.ahead.try_pick.Goals.{then-width-le-FEW, else-width-le-FEW}
use Rattle.poly_frame.proofs.frame.ahead.try_pick.Goals as goal

-- an item starves if the number is taken, and the steps are as before
starved_case : (v : View) (A : List Atom) (s new old : Steps) (o : Option Item) (i : Item) (p q : ℕ) (K : Type 0) → o ≡ Some i → s ≡ new → p ≡ q →
    MatchOption o K (λ _. new ≡ old) → IfSome o (λ i. arms_fit v (A ++ Has p ∷ []) i [] ≡ true) → (s ≡ old) × (arms_fit v (A ++ Has q ∷ []) i [] ≡ true)
starved_case v A s new old o i p q K is same e taken starved = (
  same ∙ subst (λ (o : Option Item). MatchOption o K (λ _. new ≡ old)) is taken,
  subst (λ (n : ℕ). arms_fit v (A ++ Has n ∷ []) i [] ≡ true) e (subst (λ (o : Option Item). IfSome o (λ i. arms_fit v (A ++ Has p ∷ []) i [] ≡ true)) is starved),
)

-- the number is taken
taken_case : (K N : Type 0) → K → N → (v : View) (A : List Atom) (first : ℕ) (m : Matrix) (t : Table) (s new old : Steps) (o : Option Item) (p q : ℕ) → o ≡ None → s ≡ new → p ≡ q →
    MatchOption o (StepsKeep v (A ++ Has p ∷ []) first m t new) (λ _. new ≡ old) → HasRoom m new → K × N × StepsKeep v (A ++ Has q ∷ []) first m t s × HasRoom m s
taken_case K N k n v A first m t s new old o p q is same e taken room = (
  k,
  n,
  subst (λ (s : Steps). StepsKeep v (A ++ Has q ∷ []) first m t s) (sym same) (subst (λ (n : ℕ). StepsKeep v (A ++ Has n ∷ []) first m t new) e (subst (λ (o : Option Item). MatchOption o (StepsKeep v (A ++ Has p ∷ []) first m t new) (λ _. new ≡ old)) is taken)),
  subst (λ (s : Steps). HasRoom m s) (sym same) room,
)

pub returns-then-not-node : goal.returns-then-not-node
returns-then-not-node c = refl

pub returns-in_default : goal.returns-in_default
returns-in_default c = refl

pub open_at-requires : goal.open_at-requires
open_at-requires c = record { kept = c.requires.kept }

pub pick_or_starve-starved-requires-clause-kept : goal.pick_or_starve-starved-requires-clause-kept
pick_or_starve-starved-requires-clause-kept c = c.requires.kept

pub pick_or_starve-starved-requires-clause-room : goal.pick_or_starve-starved-requires-clause-room
pick_or_starve-starved-requires-clause-room c = c.requires.room

pub pick_or_starve-starved-requires-clause-few : goal.pick_or_starve-starved-requires-clause-few
pick_or_starve-starved-requires-clause-few c = c.requires.few

pub pick_or_starve-starved-requires-clause-alone : goal.pick_or_starve-starved-requires-clause-alone
pick_or_starve-starved-requires-clause-alone c = c.if-not-node.false

pub pick_or_starve-starved-requires-clause-number : goal.pick_or_starve-starved-requires-clause-number
pick_or_starve-starved-requires-clause-number c = c.in-Some.ensures.column.0

pub pick_or_starve-starved-requires-clause-open : goal.pick_or_starve-starved-requires-clause-open
pick_or_starve-starved-requires-clause-open c = ap (λ p. open_in c.args.node.now.view.now c.args.node.now.trail.now p) c.in-Some.ensures.column.1 ∙ c.in-Some.ensures.open.1

pub pick_or_starve-starved-requires-clause-row : goal.pick_or_starve-starved-requires-clause-row
pick_or_starve-starved-requires-clause-row c = length-take-le c.args.node.now.matrix.now.width _ c.if-width-le-FEW.true

pub pick_or_starve-starved-requires-else-width-le-FEW-clause-kept : goal.pick_or_starve-starved-requires-else-width-le-FEW-clause-kept
pick_or_starve-starved-requires-else-width-le-FEW-clause-kept c = c.requires.kept

pub pick_or_starve-starved-requires-else-width-le-FEW-clause-room : goal.pick_or_starve-starved-requires-else-width-le-FEW-clause-room
pick_or_starve-starved-requires-else-width-le-FEW-clause-room c = c.requires.room

pub pick_or_starve-starved-requires-else-width-le-FEW-clause-few : goal.pick_or_starve-starved-requires-else-width-le-FEW-clause-few
pick_or_starve-starved-requires-else-width-le-FEW-clause-few c = c.requires.few

pub pick_or_starve-starved-requires-else-width-le-FEW-clause-alone : goal.pick_or_starve-starved-requires-else-width-le-FEW-clause-alone
pick_or_starve-starved-requires-else-width-le-FEW-clause-alone c = c.if-not-node.false

pub pick_or_starve-starved-requires-else-width-le-FEW-clause-number : goal.pick_or_starve-starved-requires-else-width-le-FEW-clause-number
pick_or_starve-starved-requires-else-width-le-FEW-clause-number c = c.in-Some.ensures.column.0

pub pick_or_starve-starved-requires-else-width-le-FEW-clause-open : goal.pick_or_starve-starved-requires-else-width-le-FEW-clause-open
pick_or_starve-starved-requires-else-width-le-FEW-clause-open c = ap (λ p. open_in c.args.node.now.view.now c.args.node.now.trail.now p) c.in-Some.ensures.column.1 ∙ c.in-Some.ensures.open.1

pub pick_or_starve-starved-requires-else-width-le-FEW-clause-row : goal.pick_or_starve-starved-requires-else-width-le-FEW-clause-row
pick_or_starve-starved-requires-else-width-le-FEW-clause-row c = length-take-le c.args.node.now.matrix.now.width _ c.if-width-gt-WORDS.false

pub returns-in-Some-starved : goal.returns-in-Some-starved
returns-in-Some-starved c = elim c.if-width-le-FEW.branch [
  | then-width-le-FEW w ↦ starved_case c.args.node.now.view.now c.args.node.now.trail.now c.if-width-le-FEW.steps w.pick_or_starve-starved.new.steps c.args.steps.now w.pick_or_starve-starved.result c.in-Some-starved.item _ _ _ (sym w.starved-is ∙ c.in-Some-starved.is) w.steps-is c.in-Some.ensures.column.1 w.pick_or_starve-starved.ensures.taken w.pick_or_starve-starved.ensures.starved
  | else-width-le-FEW w ↦ starved_case c.args.node.now.view.now c.args.node.now.trail.now c.if-width-le-FEW.steps w.pick_or_starve-starved-else-width-le-FEW.new.steps c.args.steps.now w.pick_or_starve-starved-else-width-le-FEW.result c.in-Some-starved.item _ _ _ (sym w.starved-is ∙ c.in-Some-starved.is) w.steps-is c.in-Some.ensures.column.1 w.pick_or_starve-starved-else-width-le-FEW.ensures.taken w.pick_or_starve-starved-else-width-le-FEW.ensures.starved
]

pub returns-in-None : goal.returns-in-None
returns-in-None c = elim c.if-width-le-FEW.branch [
  | then-width-le-FEW w ↦ taken_case _ _ c.in-Some.ensures.open.0 c.in-Some.ensures.open.1 c.args.node.now.view.now c.args.node.now.trail.now c.args.node.now.base c.args.node.now.matrix.now c.args.node.now.table.now c.if-width-le-FEW.steps w.pick_or_starve-starved.new.steps c.args.steps.now w.pick_or_starve-starved.result _ _ (sym w.starved-is ∙ c.in-None.is) w.steps-is c.in-Some.ensures.column.1 w.pick_or_starve-starved.ensures.taken w.pick_or_starve-starved.ensures.room
  | else-width-le-FEW w ↦ taken_case _ _ c.in-Some.ensures.open.0 c.in-Some.ensures.open.1 c.args.node.now.view.now c.args.node.now.trail.now c.args.node.now.base c.args.node.now.matrix.now c.args.node.now.table.now c.if-width-le-FEW.steps w.pick_or_starve-starved-else-width-le-FEW.new.steps c.args.steps.now w.pick_or_starve-starved-else-width-le-FEW.result _ _ (sym w.starved-is ∙ c.in-None.is) w.steps-is c.in-Some.ensures.column.1 w.pick_or_starve-starved-else-width-le-FEW.ensures.taken w.pick_or_starve-starved-else-width-le-FEW.ensures.room
]
