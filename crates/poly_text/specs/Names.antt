-- Which bytes are a name.
use Rattle.std.specs.Prelude.{ℕ, ◌&&◌, Bool, List, length, nat_le, if◌then◌else◌, Option, Some, None}
use Rattle.std.specs.List.{list_all}
use Rattle.poly_design.specs.Name.{is_name_byte}

abbrev pub is_name : List ℕ → Bool
is_name bytes = nat_le 1 (length bytes) && nat_le (length bytes) 16 && list_all is_name_byte bytes

-- the bytes, if they are a name
abbrev pub name_of : List ℕ → Option (List ℕ)
name_of bytes = if is_name bytes then Some bytes else None
