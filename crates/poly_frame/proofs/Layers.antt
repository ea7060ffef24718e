-- The layers of a frame stay right while the frame moves.
use Rattle.std.proofs.Common.{Bool, List, [], ap, arith, drop, get_or, length, refl, subst, suc, sym, take, true, zero, ℕ, ◌&&◌, ◌++◌, ◌-◌, ◌<◌, ◌^◌, ◌∙◌, ◌∷◌, ◌≡◌, ◌≤◌}
use Rattle.std.specs.List.{list_all, list_any}
use Rattle.std.proofs.lemmas.Bool.{and_from, and_parts}
use Rattle.std.proofs.lemmas.List.{length-drop, take-append-le, take_all}
use Rattle.poly_tiling.specs.declared.bound.Bound.{Bound}
use Rattle.poly_tiling.specs.Puzzle.{View, same_item}
use Rattle.poly_atom.specs.declared.atom.Atom.{Atom}
use Rattle.poly_atom.specs.Hopeless.{base}
use Rattle.poly_frame.specs.FrameItems.{item_of}
use Rattle.poly_frame.specs.FrameSteps.{Kept}
use Rattle.poly_frame.specs.FrameTable.{HasOpen, TableShows, limit_at}
use Rattle.poly_frame.specs.Layers.{LayerShows, PileShows}
use Rattle.poly_frame.specs.Matrices.{IsMatrix}
use Rattle.poly_frame.specs.Plain.{of_asked}
use Rattle.poly_frame.specs.declared.frame.layers.Layer.{Layer}
use Rattle.poly_frame.specs.declared.frame.matrix.Matrix.{Matrix}
use Rattle.poly_frame.specs.declared.frame.steps.Mark.{Mark}
use Rattle.poly_frame.specs.declared.frame.table.Table.{Table}
use Rattle.poly_frame.proofs.FrameSteps.{take_take, top_level}
use Rattle.poly_frame.proofs.FrameTable.{count_le}

pub pile_low : (v : View) (A : List Atom) (given top : ℕ) (ls : List Layer) → PileShows v A given top ls → given ≤ top
pile_low v A given top [] p = omega (arith, p)
pile_low v A given top (l ∷ ls) p = omega (arith, p.0, pile_low v A given l.base ls p.2)

-- a step changes no layer below the one that is read
pub pile_more : (v : View) (A : List Atom) (a : Atom) (given top : ℕ) (ls : List Layer) → top ≤ length A → PileShows v A given top ls → PileShows v (A ++ a ∷ []) given top ls
pile_more v A a given top [] h p = p
pile_more v A a given top (l ∷ ls) h p = (p.0, subst (λ (B : List Atom). LayerShows v B l) (sym (take-append-le top A (a ∷ []) h)) p.1, pile_more v A a given l.base ls (omega (arith, h, p.0)) p.2)

-- nor does going back, as long as the layer that is read stays
pub pile_less : (v : View) (A : List Atom) (n given top : ℕ) (ls : List Layer) → top ≤ n → PileShows v A given top ls → PileShows v (take n A) given top ls
pile_less v A n given top [] h p = p
pile_less v A n given top (l ∷ ls) h p = (p.0, subst (λ (B : List Atom). LayerShows v B l) (sym (take_take top n A h)) p.1, pile_less v A n given l.base ls (omega (arith, h, p.0)) p.2)

-- one more layer
pub pile_focus : (v : View) (A : List Atom) (given : ℕ) (l : Layer) (ls : List Layer) → l.base < length A → LayerShows v A l → PileShows v A given l.base ls → PileShows v A given (length A) (l ∷ ls)
pile_focus v A given l ls h s p = (h, subst (λ (B : List Atom). LayerShows v B l) (sym (take_all (length A) A (omega arith))) s, p)

-- the last layer below one that was made at this node is right here
pub pile_pop : (v : View) (A : List Atom) (given top : ℕ) (l : Layer) (ls : List Layer) → length A ≤ top → top ≤ length A → PileShows v A given top (l ∷ ls) → (l.base < length A) × LayerShows v A l × PileShows v A given l.base ls
pile_pop v A given top l ls h g p = (omega (arith, g, p.0), subst (λ (B : List Atom). LayerShows v B l) (take_all top A h) p.1, p.2)

-- there is such a layer, if the frame has steps
pub pile_open : (v : View) (A : List Atom) (given top : ℕ) → given < top → PileShows v A given top [] → ⊥
pile_open v A given top h p = absurd (omega (arith, h, p))

-- if all of the first n atoms pass, and all others, then all pass
all_parts : (f : Atom → Bool) (n : ℕ) (A : List Atom) → list_all f (take n A) ≡ true → list_all f (drop n A) ≡ true → list_all f A ≡ true
all_parts f zero A h g = g
all_parts f (suc n) [] h g = refl
all_parts f (suc n) (a ∷ A) h g = let two = and_parts (f a) (list_all f (take n A)) h in and_from (f a) (list_all f A) two.0 (all_parts f n A two.1 g)

-- what the table of a layer says holds for the atoms of each of its steps, since no step changes what is asked for
pub table_here : (v : View) (A : List Atom) (first : ℕ) (matrix m2 : Matrix) (t t2 : Table) (live have raised : List ℕ) (marks : List Mark) (bs : List Bound) (later : List Atom) → Kept v A first matrix t live have raised marks → IsMatrix v m2 → HasOpen v A m2 → length (base v A) < 2 ^ 63 →
    bs ≡ v.bounds → later ≡ take (length A - first) (drop first A) → t2.limits.items ≡ t.limits.items → t2.mosts.items ≡ t.mosts.items → t2.leasts.items ≡ t.leasts.items → t2.listed ≡ (t.listed && list_all (of_asked (λ i. list_any (λ b. same_item b.item i) bs)) later) → t2.leasts_end ≡ t.leasts_end → t2.alone ≡ t.alone → TableShows v A m2 t2
table_here v A first matrix m2 t t2 live have raised marks bs later K M O few eb ed el em ea es ee eo =
    let T = K.table in
    let L = top_level v A first matrix t live have raised marks K in
    record {
      matrix = M;
      all = O;
      limits = λ b h. ap (λ xs. get_or xs b 0) el ∙ T.limits b h ∙ ap (λ n. limit_at (item_of v b) n) (sym (L.mosts (item_of v b)));
      limits_len = ap length el ∙ T.limits_len;
      mosts = λ b h. ap (λ xs. get_or xs b 0) em ∙ T.mosts b h ∙ sym (L.mosts (item_of v b));
      mosts_len = ap length em ∙ T.mosts_len;
      leasts = λ b h. ap (λ xs. get_or xs b 0) ea ∙ T.leasts b h ∙ sym (L.leasts (item_of v b));
      leasts_len = ap length ea ∙ T.leasts_len;
      listed = λ y.
          let two = and_parts t.listed (list_all (of_asked (λ i. list_any (λ b. same_item b.item i) bs)) later) (sym es ∙ y) in
          let whole : later ≡ drop first A = ed ∙ take_all (length A - first) (drop first A) (omega (arith, length-drop first A)) in
          let rest = ap (λ (xs : List Bound). list_all (of_asked (λ i. list_any (λ b. same_item b.item i) xs)) (drop first A)) (sym eb) ∙ ap (λ (B : List Atom). list_all (of_asked (λ i. list_any (λ b. same_item b.item i) bs)) B) (sym whole) ∙ two.1 in
          all_parts (of_asked (λ i. list_any (λ b. same_item b.item i) v.bounds)) first A (T.listed two.0) rest;
      quiet = λ b l h. ap (λ xs. get_or xs b 0) ea ∙ T.quiet b (omega (arith, l, ee)) h;
      alone = λ y b h. omega (arith, ap (λ xs. get_or xs b 0) el, T.alone (sym eo ∙ y) b h);
      small = λ i. omega (arith, count_le v (base v A) i, few);
    }
