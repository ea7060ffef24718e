-- If neither the listed tilings nor a second list has repeats, then the listed tilings, followed by those members of the
-- second list that are not listed yet, have none either.
use Rattle.std.proofs.Common.{Bool, List, ap, arith, false, filter, inl, inr, not, refl, subst, true, ℕ, ◌&&◌, ◌++◌, ◌+◌, ◌∙◌, ◌≡◌}
use Rattle.std.proofs.lemmas.Bool.{cases_eq}
use Rattle.std.specs.Cmp.Lexicographic.{nat_list_eq_equiv, pointwise}
use Rattle.std.specs.List.{list_all, list_any}
use Rattle.std.specs.Prelude.{nat_eq}
use Rattle.poly_tiling.specs.Lists.{same_list, tally}
use Rattle.poly_tiling.proofs.Ascending.{same_list_is}
use Rattle.poly_tiling.proofs.Lists.{In, all_from, all_in, any_from, filter_in, tally_append, tally_none}
use Rattle.poly_tiling.proofs.Listings.{tally_has}
use Rattle.poly_catalogue.specs.Listed.{AreOnce}
use Rattle.poly_catalogue.proofs.Sums.{filtered, tally_less}

and_not : (a b : Bool) → (a ≡ true → b ≡ false) → (a && b) ≡ false
and_not true b h = h refl
and_not false b h = refl

-- if two lists have no repeats and no element in common, the one followed by the other has no repeats
apart : (a b : List (List ℕ)) → AreOnce a → AreOnce b → ((T : List ℕ) → In T a → tally (same_list T) b ≡ 0) → AreOnce (a ++ b)
apart a b x y none T = elim (cases_eq (tally (same_list T) a) 0) [
  | inl e ↦ omega (arith, tally_append (same_list T) a b, e, y T)
  | inr n ↦ omega (arith, tally_append (same_list T) a b, x T, none T (tally_has T a (omega arith)))
]

-- if neither list has repeats, the first one, followed by what is in the second but not in the first, has none either
pub fresh_once : (a b : List (List ℕ)) → AreOnce a → AreOnce b → AreOnce (a ++ filter (λ T. not (list_any (λ U. pointwise nat_eq U T) a)) b)
fresh_once a b x y =
    let q = λ (T : List ℕ). not (list_any (λ U. pointwise nat_eq U T) a) in
    apart a (filter q b) x (λ T. omega (arith, filtered (same_list T) q b, tally_less (same_list T) q b, y T))
    (λ T i. filtered (same_list T) q b ∙ tally_none (λ U. same_list T U && q U) b (λ U j. and_not (same_list T U) (q U) (λ e. ap not (any_from (λ V. pointwise nat_eq V U) a T i (subst (λ z. pointwise nat_eq T z ≡ true) (same_list_is T U e) (nat_list_eq_equiv.refl T))))))

pub fresh_all : (p q : List ℕ → Bool) (b : List (List ℕ)) → list_all p b ≡ true → list_all p (filter q b) ≡ true
fresh_all p q b h = all_from p (filter q b) (λ T i. all_in p b h T (filter_in q b T i).0)
