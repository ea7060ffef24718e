-- The test `is_name` passes exactly if the bytes are a name (`IsName`).
use Rattle.std.proofs.Common.{◌≡◌, ℕ, ◌&&◌, Bool, true, false, List, length, refl}
use Rattle.std.specs.Prelude.{nat_le}
use Rattle.std.specs.List.{list_all}
use Rattle.std.proofs.lemmas.Bool.{le-leb, leb-true, and_parts, and_from}
use Rattle.std.proofs.lemmas.List.Sums.{AllPass-from_list_all, list_all-from_AllPass}
use Rattle.poly_design.specs.Name.{IsName, is_name_byte}
use Rattle.poly_text.specs.Names.{is_name}

pub is_name_from : (bytes : List ℕ) → IsName bytes → is_name bytes ≡ true
is_name_from bytes h =
    and_from (nat_le 1 (length bytes) && nat_le (length bytes) 16) (list_all is_name_byte bytes)
    (and_from (nat_le 1 (length bytes)) (nat_le (length bytes) 16) (le-leb 1 (length bytes) h.some) (le-leb (length bytes) 16 h.few))
    (list_all-from_AllPass is_name_byte bytes h.plain)

name_from : (bytes : List ℕ) → is_name bytes ≡ true → IsName bytes
name_from bytes e =
    let parts = and_parts (nat_le 1 (length bytes) && nat_le (length bytes) 16) (list_all is_name_byte bytes) e in
    let sizes = and_parts (nat_le 1 (length bytes)) (nat_le (length bytes) 16) parts.0 in
    record { some = leb-true 1 (length bytes) sizes.0; few = leb-true (length bytes) 16 sizes.1; plain = AllPass-from_list_all is_name_byte bytes parts.1 }

pub no_name_from : (bytes : List ℕ) → (IsName bytes → ⊥) → is_name bytes ≡ false
no_name_from bytes none = go (is_name bytes) refl
  where
    go : (b : Bool) → is_name bytes ≡ b → b ≡ false
    go true e = absurd (none (name_from bytes e))
    go false e = refl
