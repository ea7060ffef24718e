-- If a list has more cells than a set can have, its first 17 cells already show that it makes no set and no shape.
use Rattle.std.proofs.Common.{◌≡◌, ◌<◌, ℕ, List, take, Option, Some, None, Result, Ok, Err, refl, sym, subst, arith}
use Rattle.std.specs.Result.{result_ok}
use Rattle.std.specs.Prelude.{◌↔◌, IsOk, IfOk, IfErr}
use Rattle.std.proofs.lemmas.Bool.{false≢true}
use Rattle.std.proofs.lemmas.List.{take_all, length-take}
use Rattle.poly_grid.specs.Spot.{Spot}
use Rattle.poly_grid.specs.declared.grid.Grid.{Grid}
use Rattle.poly_grid.specs.declared.refusal.Refusal.{Refusal}
use Rattle.poly_grid.specs.declared.refusal.Refusal.TheVariants.{BadShape}
use Rattle.poly_shape.specs.Cells.{IsCells}
use Rattle.poly_shape.specs.Connected.{IsConnected}
use Rattle.poly_shape.specs.Figure.{Figure}
use Rattle.poly_shape.specs.Order.{AreFewDistinct, HasSame}
use Rattle.poly_shape.specs.Shape.{IsImage}
use Rattle.poly_text.specs.Sets.{MakesSet}
use Rattle.poly_text.specs.Gives.{Follows}
use Rattle.poly_text.specs.Piece.{ShapeSays}

few_first : (n : ℕ) (cells : List Spot) → 16 < n → AreFewDistinct (take n cells) → take n cells ≡ cells
few_first n cells lt few = take_all n cells (omega (arith, lt, few.few, length-take n cells))

few_all : (n : ℕ) (cells : List Spot) → 16 < n → AreFewDistinct cells → take n cells ≡ cells
few_all n cells lt few = take_all n cells (omega (arith, lt, few.few))

-- `Cells::new` returns a set exactly if there are 1 to 16 cells and none comes twice, so its result meets `MakesSet`
made_says : (cells : List Spot) (r : Result (List Spot) Refusal) → IfOk r (λ set. HasSame set cells) → IfOk r IsCells → (IsOk r ↔ AreFewDistinct cells) → MakesSet cells (result_ok r)
made_says cells (Ok set) same kept when = (when.0 refl, kept, same)
made_says cells (Err e) same kept when = λ few. false≢true (when.1 few)

some_first : (n : ℕ) (cells : List Spot) (o : Option (List Spot)) → 16 < n → MakesSet (take n cells) o → MakesSet cells o
some_first n cells None lt none = λ few. none (subst (λ z. AreFewDistinct z) (sym (few_all n cells lt few)) few)
some_first n cells (Some set) lt made = let all = few_first n cells lt made.0 in (subst (λ z. AreFewDistinct z) all made.0, made.1, subst (λ z. HasSame set z) all made.2)

pub set_made : (n count : ℕ) (room cells : List Spot) (r : Result (List Spot) Refusal) (o : Option (List Spot)) → o ≡ result_ok r → 16 < n → take count room ≡ take n cells
    → IfOk r (λ set. HasSame set (take count room)) → IfOk r IsCells → (IsOk r ↔ AreFewDistinct (take count room)) → MakesSet cells o
set_made n count room cells r o is lt first same kept when =
    some_first n cells o lt (rw is (made_says (take n cells) r (subst (λ z. IfOk r (λ set. HasSame set z)) first same) kept (subst (λ z. IsOk r ↔ AreFewDistinct z) first when)))

pub shape_says : (g : Grid) (n : ℕ) (cells : List Spot) (r : Result Figure Refusal) → 16 < n → IfOk r (λ s. (s.grid ≡ g) × IsImage g 0 (take n cells) s.cells) → (IsOk r ↔ (AreFewDistinct (take n cells) × IsConnected g (take n cells)))
    → IfErr r (λ e. e ≡ BadShape) → ShapeSays g cells r
shape_says g n cells (Ok s) lt ok when why =
    let made : AreFewDistinct (take n cells) × IsConnected g (take n cells) = when.0 refl in
    let all = few_first n cells lt made.0 in
    (record { few = subst (λ z. AreFewDistinct z) all made.0; connected = subst (λ z. IsConnected g z) all made.1 }, ok.0, subst (λ z. IsImage g 0 z s.cells) all ok.1)
shape_says g n cells (Err e) lt ok when why =
    (why, λ makes. let all = sym (few_all n cells lt makes.few) in false≢true (when.1 (subst (λ z. AreFewDistinct z) all makes.few, subst (λ z. IsConnected g z) all makes.connected)))

pub shape_follows : (g : Grid) (n count : ℕ) (room cells : List Spot) (read : Result (List Spot) Refusal) (r : Result Figure Refusal) → 16 < n → read ≡ Ok cells → take count room ≡ take n cells
    → IfOk r (λ s. (s.grid ≡ g) × IsImage g 0 (take count room) s.cells) → (IsOk r ↔ (AreFewDistinct (take count room) × IsConnected g (take count room))) → IfErr r (λ e. e ≡ BadShape)
    → Follows read (λ some. ShapeSays g some r) r
shape_follows g n count room cells read r lt is first ok when why =
    rw is (shape_says g n cells r lt (subst (λ z. IfOk r (λ s. (s.grid ≡ g) × IsImage g 0 z s.cells)) first ok) (subst (λ z. IsOk r ↔ (AreFewDistinct z × IsConnected g z)) first when) why)
