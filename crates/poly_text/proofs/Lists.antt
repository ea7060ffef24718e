-- The elements of a JSON list are the views of its values in memory, and an object has as many members as entries.
use Rattle.std.proofs.Common.{◌≡◌, suc, List, [], ◌∷◌, length, refl, ap, String, Global}
use Rattle.serde_json.specs.Data.{Data}
use Rattle.serde_json.specs.Events.{members_len}
use Rattle.serde_json.specs.View.{items_of, items_view, members_view}
use Rattle.serde_json.specs.declared.value.Value.{Value}
use Rattle.poly_text.specs.Json.{elements}
use Rattle.poly_text.specs.Views.{views}

elements_of : (ds : List Data) → elements (items_of ds) ≡ ds
elements_of [] = refl
elements_of (d ∷ ds) = ap (λ z. d ∷ z) (elements_of ds)

pub elements_view : (vs : List Value) → elements (items_view vs) ≡ views vs
elements_view vs = elements_of (views vs)

pub members_count : (ms : List (String Global × Value)) → members_len (members_view ms) ≡ length ms
members_count [] = refl
members_count (m ∷ ms) = ap suc (members_count ms)
