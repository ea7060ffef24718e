-- The tilings of a tree are members of its family.
use Rattle.std.proofs.Common.{◌≡◌, ℕ, Bool, true, false, cond, List, [], ◌∷◌, ◌++◌, refl, sym, ◌∙◌}
use Rattle.std.specs.List.{list_all}
use Rattle.std.proofs.lemmas.Bool.{and_parts, and_from}
use Rattle.poly_tiling.specs.Puzzle.{View, is_tiling}
use Rattle.poly_atom.specs.declared.atom.Atom.{Atom}
use Rattle.poly_atom.specs.declared.atom.Atom.TheVariants.{Has, Lacks}
use Rattle.poly_atom.specs.Atoms.{meets, meets_all, in_family}
use Rattle.poly_atom.specs.Hopeless.{base}
use Rattle.poly_report.specs.Trees.{Plan, Rests, Finds, Branches, Splits, Arms, NoArms, OneArm}
use Rattle.poly_frame.specs.Open.{dead}
use Rattle.poly_report.specs.Holds.{arm_atoms}
use Rattle.poly_report.specs.Leaves.{tilings, arms_tilings}
use Rattle.poly_report.specs.Laws.{TreeTilingsBelong}
use Rattle.poly_tiling.proofs.Lists.{all_in, all_from, all_append}

-- members of the family of `A ++ B` are members of the family of `A`
weaker : (v : View) (A B : List Atom) (Ts : List (List ℕ)) → list_all (λ T. in_family v (A ++ B) T) Ts ≡ true → list_all (λ T. in_family v A T) Ts ≡ true
weaker v A B Ts h = all_from (λ T. in_family v A T) Ts (λ T i.
    let e = and_parts (is_tiling v T) (meets_all v T (A ++ B)) (all_in (λ U. in_family v (A ++ B) U) Ts h T i) in
    and_from (is_tiling v T) (meets_all v T A) e.0 (and_parts (meets_all v T A) (meets_all v T B) (sym (all_append (λ a. meets v T a) A B) ∙ e.1)).0)

both : (f : List ℕ → Bool) (d : Bool) (xs ys : List (List ℕ)) → list_all f xs ≡ true → list_all f ys ≡ true → list_all f (cond d [] xs ++ ys) ≡ true
both f true xs ys h k = k
both f false xs ys h k = all_append f xs ys ∙ and_from _ _ h k

found_belongs : (f : List ℕ → Bool) (T : List ℕ) (b : Bool) → f T ≡ b → list_all f (cond b (T ∷ []) []) ≡ true
found_belongs f T true e = and_from _ _ e refl
found_belongs f T false e = refl

mutual
  belong : (v : View) (A : List Atom) (t : Plan) → list_all (λ T. in_family v A T) (tilings v A t) ≡ true
  belong v A Rests = refl
  belong v A Finds = found_belongs (λ T. in_family v A T) (base v A) _ refl
  belong v A (Branches i arms) = arms_belong v A [] arms
  belong v A (Splits q taken left) = both (λ T. in_family v A T) (dead v A q) (tilings v (A ++ Has q ∷ []) taken) (tilings v (A ++ Lacks q ∷ []) left)
      (weaker v A (Has q ∷ []) (tilings v (A ++ Has q ∷ []) taken) (belong v (A ++ Has q ∷ []) taken)) (weaker v A (Lacks q ∷ []) (tilings v (A ++ Lacks q ∷ []) left) (belong v (A ++ Lacks q ∷ []) left))

  arms_belong : (v : View) (A : List Atom) (before : List ℕ) (arms : Arms) → list_all (λ T. in_family v A T) (arms_tilings v A before arms) ≡ true
  arms_belong v A before NoArms = refl
  arms_belong v A before (OneArm p t arms) = both (λ T. in_family v A T) (dead v A p) (tilings v (A ++ arm_atoms before p) t) (arms_tilings v A (before ++ p ∷ []) arms)
      (weaker v A (arm_atoms before p) (tilings v (A ++ arm_atoms before p) t) (belong v (A ++ arm_atoms before p) t)) (arms_belong v A (before ++ p ∷ []) arms)

pub tree_tilings_belong_lem : TreeTilingsBelong
tree_tilings_belong_lem = belong
