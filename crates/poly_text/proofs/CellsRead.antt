-- Cells that a loop reads one after another.
use Rattle.std.proofs.Common.{◌≡◌, ℕ, ◌+◌, ◌<◌, ◌≤◌, List, [], ◌∷◌, ◌++◌, length, drop, get_or, Option, Some, None, Ok, Err, refl, sym, ap, ◌∙◌, append_assoc, append-nil}
use Rattle.std.proofs.lemmas.List.{at_drop_all, at_drop_more}
use Rattle.serde_json.specs.View.{view}
use Rattle.serde_json.specs.Data.{Data}
use Rattle.serde_json.specs.declared.value.Value.{Value}
use Rattle.poly_grid.specs.Spot.{Spot}
use Rattle.poly_grid.specs.declared.refusal.Refusal.TheVariants.{BadCell}
use Rattle.poly_text.specs.Gives.{ok_or}
use Rattle.poly_text.specs.Json.{◌>>=◌}
use Rattle.poly_text.specs.Fields.{cell_of, cells_of}
use Rattle.poly_text.specs.Views.{views}

-- the values from an index on: the one at the index, then those after it
pub views_from : (vs : List Value) (i : ℕ) (v : Value) → i < length vs → v ≡ get_or vs i v → views (drop i vs) ≡ view v ∷ views (drop (i + 1) vs)
views_from vs i v lt is = at_drop_more views vs i v lt ∙ ap (λ x. view x ∷ views (drop (i + 1) vs)) (sym is)

abbrev pub with_front : List Spot → Option (List Spot) → Option (List Spot)
with_front front rest = rest >>= λ cs. Some (front ++ cs)

regroup : (front : List Spot) (c : Spot) (rest : Option (List Spot)) → with_front front (rest >>= λ cs. Some (c ∷ cs)) ≡ with_front (front ++ c ∷ []) rest
regroup front c None = refl
regroup front c (Some cs) = ap Some (sym (append_assoc front (c ∷ []) cs))

pub one_more : (front : List Spot) (d : Data) (ds : List Data) (c : Spot) → cell_of d ≡ Some c → with_front front (cells_of (d ∷ ds)) ≡ with_front (front ++ c ∷ []) (cells_of ds)
unfolding cells_of
one_more front d ds c e = rw e (regroup front c (cells_of ds))

pub none_more : (front : List Spot) (d : Data) (ds : List Data) → cell_of d ≡ None → with_front front (cells_of (d ∷ ds)) ≡ None
unfolding cells_of
none_more front d ds e = rw e refl

pub no_more : (front : List Spot) → with_front front (cells_of []) ≡ Some front
unfolding cells_of
no_more front = ap Some (append-nil front)

pub begins : (rest : Option (List Spot)) → with_front [] rest ≡ rest
begins None = refl
begins (Some cs) = refl

pub cells_step : (vs : List Value) (i : ℕ) (v : Value) (front new : List Spot) (c : Spot) (total : Option (List Spot)) → i < length vs → v ≡ get_or vs i v → Some c ≡ cell_of (view v) → new ≡ front ++ c ∷ []
    → with_front front (cells_of (views (drop i vs))) ≡ total → with_front new (cells_of (views (drop (i + 1) vs))) ≡ total
cells_step vs i v front new c total lt is cell pushed so_far =
    rw pushed (sym (one_more front (view v) (views (drop (i + 1) vs)) c (sym cell)) ∙ ap (λ ds. with_front front (cells_of ds)) (sym (views_from vs i v lt is)) ∙ so_far)

pub cells_stop : (vs : List Value) (i : ℕ) (v : Value) (front : List Spot) (total : Option (List Spot)) → i < length vs → v ≡ get_or vs i v → None ≡ cell_of (view v)
    → with_front front (cells_of (views (drop i vs))) ≡ total → ok_or total BadCell ≡ Err BadCell
cells_stop vs i v front total lt is cell so_far =
    let none : total ≡ None = sym so_far ∙ ap (λ ds. with_front front (cells_of ds)) (views_from vs i v lt is) ∙ none_more front (view v) (views (drop (i + 1) vs)) (sym cell) in
    rw none refl

pub cells_done : (vs : List Value) (i : ℕ) (front : List Spot) (total : Option (List Spot)) → length vs ≤ i → with_front front (cells_of (views (drop i vs))) ≡ total → ok_or total BadCell ≡ Ok front
cells_done vs i front total le so_far =
    let all : total ≡ Some front = sym so_far ∙ at_drop_all (λ ws. with_front front (cells_of (views ws))) vs i le ∙ no_more front in
    rw all refl
