-- Cells that a text lists, by its parts in memory.
use Rattle.std.proofs.Common.{◌≡◌, ℕ, Bor, Bool, true, false, List, Err, refl, sym, ap, ◌∙◌}
use Rattle.std.specs.List.{list_all}
use Rattle.std.specs.Result.{is_ok}
use Rattle.std.proofs.lemmas.List.Folds.{list_all-map}
use Rattle.poly_grid.specs.declared.refusal.Refusal.TheVariants.{BadCommand}
use Rattle.poly_text.specs.Words.{coordinates_of, cells_of, listed_cells, parts_of}
use Rattle.poly_text.proofs.CellWords.{texts}

abbrev pub is_formed : Bor (List ℕ) → Bool
is_formed part = is_ok (coordinates_of part.now)

formed_parts : (text : List ℕ) (parts now : List (Bor (List ℕ))) (formed : Bool) → texts parts ≡ parts_of text → now ≡ parts → formed ≡ list_all is_formed now
    → list_all (λ part. is_ok (coordinates_of part)) (parts_of text) ≡ formed
formed_parts text parts now formed same view is =
    ap (list_all (λ part. is_ok (coordinates_of part))) (sym same) ∙ list_all-map (λ part. is_ok (coordinates_of part)) (λ w. w.now) parts ∙ ap (list_all is_formed) (sym view) ∙ sym is

-- if each part has the form of a cell, the parts are read as cells
pub listed_is : (text : List ℕ) (parts now again : List (Bor (List ℕ))) (formed : Bool) → texts parts ≡ parts_of text → now ≡ parts → formed ≡ list_all is_formed now → formed ≡ true → again ≡ parts
    → listed_cells text ≡ cells_of (texts again)
listed_is text parts now again formed same view is all view_again = rw (formed_parts text parts now formed same view is ∙ all) (ap cells_of (sym same ∙ ap texts (sym view_again)))

-- if a part doesn't have the form of a cell, the list is refused with `BadCommand`
pub listed_not : (text : List ℕ) (parts now : List (Bor (List ℕ))) (formed : Bool) → texts parts ≡ parts_of text → now ≡ parts → formed ≡ list_all is_formed now → formed ≡ false → listed_cells text ≡ Err BadCommand
listed_not text parts now formed same view is other = rw (formed_parts text parts now formed same view is ∙ other) refl
