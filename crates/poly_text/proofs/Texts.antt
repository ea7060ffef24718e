-- How a line of JSON is read.
use Rattle.std.proofs.Common.{◌≡◌, List, ℕ, Bool, true, false, Some, None, Ok, Err, refl, if◌then◌else◌}
use Rattle.std.specs.Str.{IsUtf8, is_utf8}
use Rattle.std.proofs.lemmas.Str.{IsUtf8-from_is_utf8, is_utf8-from_IsUtf8}
use Rattle.serde_json.specs.Data.{Data}
use Rattle.serde_json.specs.Read.{read}
use Rattle.poly_grid.specs.declared.refusal.Refusal.TheVariants.{BadJson}
use Rattle.poly_text.specs.Gives.{ok_or}
use Rattle.poly_text.specs.Puzzle.{json_of}

pub read_ok : (line : List ℕ) (d : Data) → IsUtf8 line → read line ≡ Some d → ok_or (json_of line) BadJson ≡ Ok d
read_ok line d text is = rw (is_utf8-from_IsUtf8 line text, is) refl

pub read_err : (line : List ℕ) → (IsUtf8 line → read line ≡ None) → ok_or (json_of line) BadJson ≡ Err BadJson
read_err line h = go (is_utf8 line) (λ e. h (IsUtf8-from_is_utf8 line e))
  where
    go : (b : Bool) → (b ≡ true → read line ≡ None) → ok_or (if b then read line else None) BadJson ≡ Err BadJson
    go true none = rw (none refl) refl
    go false none = refl
