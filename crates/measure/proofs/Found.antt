-- What a search for all tilings finds may be listed in a catalogue: only tilings of the view, and none of them twice.
use Rattle.std.proofs.Common.{Bool, List, [], ap, false, refl, true, ◌&&◌, ◌∙◌, ◌≡◌, ℕ}
use Rattle.std.specs.List.{list_all}
use Rattle.poly_tiling.specs.Lists.{one, same_list, tally}
use Rattle.poly_tiling.specs.Puzzle.{View, is_tiling}
use Rattle.poly_search.specs.Whole.{IsFamily}
use Rattle.poly_catalogue.specs.Listed.{AreOnce}
use Rattle.poly_catalogue.proofs.Parted.{all_pass, each_once, turned_tally}

and_true : (b : Bool) → (b && true) ≡ b
and_true true = refl
and_true false = refl

counted : (v : View) (found : List (List ℕ)) → IsFamily v [] found → (T : List ℕ) → tally (same_list T) found ≡ one (is_tiling v T)
counted v found h T = turned_tally T found ∙ h T ∙ ap one (and_true (is_tiling v T))

pub found_tilings : (v : View) (found : List (List ℕ)) → IsFamily v [] found → list_all (is_tiling v) found ≡ true
found_tilings v found h = all_pass (is_tiling v) found (counted v found h)

pub found_once : (v : View) (found : List (List ℕ)) → IsFamily v [] found → AreOnce found
found_once v found h = each_once (is_tiling v) found (counted v found h)
