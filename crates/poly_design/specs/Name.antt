use Rattle.std.specs.Prelude.{ℕ, ◌≤◌, ◌||◌, ◌==◌, Bool, List, length, nat_eq, refl}
use Rattle.std.specs.declared.cmp.Ordering.{Ordering}
use Rattle.std.specs.Char.{is_ascii_alphanumeric}
use Rattle.std.specs.List.{AllPass}
use Rattle.std.specs.Ordering.{nat_cmp, as_partial_cmp}
use Rattle.std.specs.Cmp.{IsPartialOrder, partial_order_from_agreeing_total}
use Rattle.std.specs.Hash.{Alike, slice, u8, items_Alike, same_Alike}
use Rattle.std.proofs.lemmas.Bool.Decides.{Decides-eqb}
use Rattle.std.specs.Cmp.Lexicographic.{slice_cmp, pointwise, nat_list_cmp_total, texts_ties}

abbrev pub is_name_byte : ℕ → Bool
is_name_byte b = is_ascii_alphanumeric b || b == 95

-- 1 to 16 bytes, each a letter, a digit or an underscore
pub record IsName (bytes : List ℕ) : Type 0 where
  pub some : 1 ≤ length bytes
  pub few : length bytes ≤ 16
  pub plain : AllPass is_name_byte bytes

abbrev pub name_cmp : List ℕ → List ℕ → Ordering
name_cmp = slice_cmp nat_cmp

pub name_laws : IsPartialOrder (pointwise nat_eq) (as_partial_cmp name_cmp)
name_laws = partial_order_from_agreeing_total name_cmp nat_list_cmp_total (λ x y. refl) texts_ties

-- equal names feed a hasher alike
pub name_alike : Alike (pointwise nat_eq) (slice u8)
name_alike = items_Alike (same_Alike u8 Decides-eqb)
