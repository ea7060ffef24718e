-- A step that takes over the row of a look ahead.
use Rattle.std.proofs.Common.{Bool, List, [], ap, arith, drop, get_or, inl, inr, leb, length, ltb, not, refl, sym, true, ℕ, ◌&&◌, ◌*◌, ◌++◌, ◌+◌, ◌-◌, ◌<◌, ◌||◌, ◌∙◌, ◌∷◌, ◌≡◌, ◌≤◌}
use Rattle.std.specs.List.{list_all, list_any}
use Rattle.std.proofs.lemmas.Bool.{and_from, and_parts, le-leb, ltb-true}
use Rattle.std.proofs.Math.Seq.{drop-append_seam}
use Rattle.std.proofs.lemmas.List.{length-append, length-drop, take-append-le, take_all}
use Rattle.poly_tiling.specs.Puzzle.{View, items}
use Rattle.poly_tiling.proofs.Lists.{In}
use Rattle.poly_atom.specs.declared.atom.Atom.{Atom}
use Rattle.poly_frame.specs.Ahead.{RowWithout}
use Rattle.poly_frame.specs.Bits.{has_bit}
use Rattle.poly_frame.specs.FrameItems.{Noted, times}
use Rattle.poly_frame.specs.FrameSteps.{Kept}
use Rattle.poly_frame.specs.Matrices.{bit_index, column_items}
use Rattle.poly_frame.specs.declared.frame.matrix.Matrix.{Matrix}
use Rattle.poly_frame.specs.declared.frame.steps.Mark.{Mark}
use Rattle.poly_frame.specs.declared.frame.table.Table.{Table}
use Rattle.poly_frame.proofs.FramePicks.{low_in, times_some}
use Rattle.poly_frame.proofs.FrameSteps.{Closes, Copied}
use Rattle.poly_frame.proofs.Matrices.{column_shows}
use Rattle.poly_frame.proofs.Words.{drop_bits, take_bits}

-- appending a row leaves the bits before it as they are
pub bits_before : (live row : List ℕ) (x : ℕ) → x < 64 * length live → has_bit (live ++ row) x ≡ has_bit live x
bits_before live row x h = sym (take_bits (live ++ row) (length live) x h) ∙ ap (λ ws. has_bit ws x) (take-append-le (length live) live row (omega arith) ∙ take_all (length live) live (omega arith))

-- the bits of the appended row follow
pub bits_after : (live row : List ℕ) (j : ℕ) → has_bit (live ++ row) (64 * length live + j) ≡ has_bit row j
bits_after live row j = sym (drop_bits (live ++ row) (length live) j) ∙ ap (λ ws. has_bit ws j) (drop-append_seam live row)

-- the last row of `live`
abbrev pub last_row : ℕ → List ℕ → List ℕ
last_row w live = drop (length live - w) live

-- the last row, appended once more
pub last_again : (w : ℕ) (live : List ℕ) → w ≤ length live → Copied w live (live ++ last_row w live)
last_again w live h = record {
  len = omega (arith, length-append live (last_row w live), length-drop (length live - w) live);
  before = λ x l. bits_before live (last_row w live) x l;
  row = λ j l. bits_after live (last_row w live) j ∙ drop_bits live (length live - w) j;
}

any_same : (f g : ℕ → Bool) (xs : List ℕ) → ((b : ℕ) → In b xs → g b ≡ true) → list_any f xs ≡ list_any (λ b. g b && f b) xs
any_same f g [] h = refl
any_same f g (x ∷ xs) h = ap (λ y. y || list_any f xs) (sym (ap (λ z. z && f x) (h x (inl refl)))) ∙ ap (λ y. (g x && f x) || y) (any_same f g xs (λ b i. h b (inr i)))

-- if no limit is over 1, one more member with the items at the indices reaches each of their limits
pub last_each : (limits have indices : List ℕ) (n : ℕ) → ((b : ℕ) → b < n → get_or limits b 0 ≤ 1) → list_all (λ b. ltb b n) indices ≡ true → list_all (λ b. leb (get_or limits b 0 - 1) (get_or have b 0)) indices ≡ true
last_each limits have [] n few low = refl
last_each limits have (b ∷ bs) n few low =
    let both = and_parts (ltb b n) (list_all (λ b. ltb b n) bs) low in
    and_from _ _ (le-leb _ _ (omega (arith, few b (ltb-true b n both.0)))) (last_each limits have bs n few both.1)

module _ (v : View) (A : List Atom) (first : ℕ) (matrix : Matrix) (t : Table) (live have raised : List ℕ) (marks : List Mark) (K : Kept v A first matrix t live have raised marks) (alone : t.alone ≡ true) (j : ℕ) (h : j < length matrix.numbers.items) where
  abbrev indices : List ℕ
  indices = column_items matrix.lists matrix.homes.items j

  pub noted_column : Noted v.bounds (items v (get_or matrix.numbers.items j 0)) indices
  noted_column = (column_shows v matrix.numbers.items matrix.homes.items matrix.lists K.table.matrix.lists j h).noted

  pub short_column : length indices ≤ 17
  short_column = (column_shows v matrix.numbers.items matrix.homes.items matrix.lists K.table.matrix.lists j h).short

  -- taking the placement closes what shares an item with it, and nothing else
  pub closes_without : (row have2 : List ℕ) → RowWithout matrix live j row → ((b : ℕ) → b < length have → get_or have2 b 0 ≡ get_or have b 0 + times indices b) →
      Closes matrix t have2 indices (length live) (live ++ last_row matrix.width live) (live ++ row)
  closes_without row have2 without more = λ x l.
      let f = λ (b : ℕ). has_bit matrix.rows.items (bit_index matrix.width b x) in
      let g = λ (b : ℕ). leb (get_or t.limits.items b 0) (get_or have2 b 0) in
      let full : (b : ℕ) → In b indices → g b ≡ true = λ b i.
      let low = low_in (length v.bounds) indices b noted_column.low i in
      le-leb _ _ (omega (arith, K.table.alone alone b low, more b (omega (arith, low, K.have_len)), times_some indices b i)) in
      bits_after live row x ∙ without x l
      ∙ ap (λ b. b && not (list_any f indices)) (sym (drop_bits live (length live - matrix.width) x) ∙ sym (bits_after live (last_row matrix.width live) x))
      ∙ ap (λ b. has_bit (live ++ last_row matrix.width live) (64 * length live + x) && not b) (any_same f g indices full)
