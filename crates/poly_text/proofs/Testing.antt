-- A test of all elements of a JSON list has the same result on the values in memory, and there are as many values as
-- elements.
use Rattle.std.proofs.Common.{◌≡◌, Bool, List, length, ◌∙◌}
use Rattle.std.specs.List.{list_all}
use Rattle.std.proofs.lemmas.List.{length-map}
use Rattle.std.proofs.lemmas.List.Folds.{list_all-map}
use Rattle.serde_json.specs.Data.{Data}
use Rattle.serde_json.specs.View.{view}
use Rattle.serde_json.specs.declared.value.Value.{Value}
use Rattle.poly_text.specs.Board.{is_row}
use Rattle.poly_text.specs.Json as json
use Rattle.poly_text.specs.Views.{views, rows_of}

pub list_all_views : (p : Data → Bool) (vs : List Value) → list_all p (views vs) ≡ list_all (λ v. p (view v)) vs
list_all_views p vs = list_all-map p view vs

pub rows_pass : (vs : List Value) → list_all is_row (rows_of vs) ≡ list_all (λ v. is_row (json.text (view v))) vs
rows_pass vs = list_all-map is_row json.text (views vs) ∙ list_all-map (λ d. is_row (json.text d)) view vs

pub rows_length : (vs : List Value) → length (rows_of vs) ≡ length vs
rows_length vs = length-map (views vs) json.text ∙ length-map vs view

pub length_views : (vs : List Value) → length (views vs) ≡ length vs
length_views vs = length-map vs view
