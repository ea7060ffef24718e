-- The rests of a tree are its atoms, followed by the paths.
use Rattle.std.proofs.Common.{Bool, List, [], ap, append_assoc, cond, drop, false, length, map, refl, sym, true, ℕ, ◌++◌, ◌∙◌, ◌∷◌, ◌≡◌}
use Rattle.std.proofs.lemmas.List.{append-nil, map-append}
use Rattle.std.proofs.Math.Seq.{drop-append_seam}
use Rattle.poly_tiling.specs.Puzzle.{View}
use Rattle.poly_atom.specs.declared.atom.Atom.{Atom}
use Rattle.poly_atom.specs.declared.atom.Atom.TheVariants.{Has, Lacks}
use Rattle.poly_frame.specs.Open.{dead}
use Rattle.poly_frame.specs.Walk.{Walk}
use Rattle.poly_report.specs.Trees.{Arms, Branches, Finds, NoArms, OneArm, Plan, Rests, Splits}
use Rattle.poly_report.specs.Holds.{arm_atoms}
use Rattle.poly_report.specs.Leaves.{arms_rests, rests}
use Rattle.poly_report.specs.Paths.{arms_paths, paths}

-- the leaves under a placement, and the others
both_over : (S : List Atom) (d : Bool) (xs ys us ws : List (List Atom)) → map (λ p. S ++ p) xs ≡ us → map (λ p. S ++ p) ys ≡ ws → map (λ p. S ++ p) (cond d [] xs ++ ys) ≡ cond d [] us ++ ws
both_over S true xs ys us ws e f = f
both_over S false xs ys us ws e f = map-append (λ p. S ++ p) xs ys ∙ (λ i. e i ++ f i)

further : (S B C A : List Atom) → A ≡ S ++ B → A ++ C ≡ S ++ (B ++ C)
further S B C A e = ap (λ X. X ++ C) e ∙ append_assoc S B C

mutual
  over : (v : View) (S B A : List Atom) (t : Plan) → A ≡ S ++ B → map (λ p. S ++ p) (paths (length S) v A t) ≡ rests v A t
  over v S B A Rests e = ap (λ X. X ∷ []) (ap (λ X. S ++ drop (length S) X) e ∙ ap (λ X. S ++ X) (drop-append_seam S B) ∙ sym e)
  over v S B A Finds e = refl
  over v S B A (Branches i arms) e = arms_over v S B A [] arms e
  over v S B A (Splits q taken left) e =
      both_over S (dead v A q) (paths (length S) v (A ++ Has q ∷ []) taken) (paths (length S) v (A ++ Lacks q ∷ []) left) (rests v (A ++ Has q ∷ []) taken) (rests v (A ++ Lacks q ∷ []) left)
      (over v S (B ++ Has q ∷ []) (A ++ Has q ∷ []) taken (further S B (Has q ∷ []) A e)) (over v S (B ++ Lacks q ∷ []) (A ++ Lacks q ∷ []) left (further S B (Lacks q ∷ []) A e))

  arms_over : (v : View) (S B A : List Atom) (before : List ℕ) (arms : Arms) → A ≡ S ++ B → map (λ p. S ++ p) (arms_paths (length S) v A before arms) ≡ arms_rests v A before arms
  arms_over v S B A before NoArms e = refl
  arms_over v S B A before (OneArm p t arms) e =
      both_over S (dead v A p) (paths (length S) v (A ++ arm_atoms before p) t) (arms_paths (length S) v A (before ++ p ∷ []) arms) (rests v (A ++ arm_atoms before p) t) (arms_rests v A (before ++ p ∷ []) arms)
      (over v S (B ++ arm_atoms before p) (A ++ arm_atoms before p) t (further S B (arm_atoms before p) A e)) (arms_over v S B A (before ++ p ∷ []) arms e)

-- what a walk gathered that began with nothing, at the given atoms
pub followed : (w : Walk) (v : View) (A : List Atom) (t : Plan) (none gathered left : List (List Atom)) → w ≡ record { scene = v; atoms = A; given = length A } → none ≡ [] →
    gathered ≡ none ++ paths w.given w.scene w.atoms t → left ≡ map (λ p. A ++ p) gathered → left ≡ rests v A t
followed w v A t none gathered left here empty are is =
    is ∙ ap (map (λ p. A ++ p)) (are ∙ ap (λ xs. xs ++ paths w.given w.scene w.atoms t) empty ∙ ap (λ (x : Walk). paths x.given x.scene x.atoms t) here) ∙ over v A [] A t (sym (append-nil A))
