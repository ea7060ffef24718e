-- Rows of placements: what stays noted when a span is added to one of them, or when spans without a pending task are dropped;
-- and that tasks under a touched placement are reached.
use Rattle.std.proofs.Common.{Bool, Err, List, Ok, Result, [], ap, arith, cond, false, get_or, inl, inr, length, refl, set, subst, suc, sym, take, true, zero, ℕ, ◌+◌, ◌++◌, ◌<◌, ◌∙◌, ◌∷◌, ◌≡◌}
use Rattle.std.proofs.lemmas.Bool.{and_from, and_parts, eq-eqb, eqb-true, or_cases, or_left, or_right, true≢false}
use Rattle.std.specs.List.{filter, list_any}
use Rattle.std.specs.List.Retain.{RetainsInTurn}
use Rattle.std.specs.Prelude.{OnErr, OnOk, ◌==◌}
use Rattle.poly_tiling.proofs.Lists.{any_append}
use Rattle.poly_tasks.specs.declared.placed.PlacedRow.{PlacedRow}
use Rattle.poly_tasks.specs.declared.rows.Span.{Span}
use Rattle.poly_tasks.specs.declared.task.Pending.{Pending}
use Rattle.poly_tasks.specs.Mapped.{ArePlacedStill, ArePlacedWider, has_pending, in_span, is_placed, placed}
use Rattle.poly_tasks.specs.Reaching.{IsFarther, IsReached}
use Rattle.poly_tasks.proofs.Mapping.{row_kept}
use Rattle.poly_tasks.proofs.ReachedTasks.{any_more, reached_on}

-- a span of the row has the number
abbrev in_row : List Span → ℕ → Bool
in_row r n = list_any (λ s. in_span s n) r

pub row_wider : (r : List Span) (s : Span) (n : ℕ) → in_row r n ≡ true → in_row (r ++ s ∷ []) n ≡ true
row_wider r s n h = any_append (λ t. in_span t n) r (s ∷ []) ∙ or_left (in_row r n) (in_row (s ∷ []) n) h

pub row_has : (r : List Span) (s : Span) (n : ℕ) → in_span s n ≡ true → in_row (r ++ s ∷ []) n ≡ true
row_has r s n h = any_append (λ t. in_span t n) r (s ∷ []) ∙ or_right (in_row r n) (in_row (s ∷ []) n) (or_left (in_span s n) false h)

-- a row that a span is added to has what it had, whether or not there was memory for the span
pub pushed_wider : {X E : Type 0} (result : Result X E) (old new : List Span) (s : Span) (n : ℕ) → OnOk result (new ≡ old ++ s ∷ []) → OnErr result (new ≡ old) → in_row old n ≡ true → in_row new n ≡ true
pushed_wider (Ok x) old new s n ok err h = ap (λ r. in_row r n) ok ∙ row_wider old s n h
pushed_wider (Err e) old new s n ok err h = ap (λ r. in_row r n) err ∙ h

-- a row with the same placement has what the first one has, if its spans do
placed_as : (p n : ℕ) (r x : PlacedRow) → x.placement ≡ r.placement → (in_row r.row n ≡ true → in_row x.row n ≡ true) → is_placed p n r ≡ true → is_placed p n x ≡ true
placed_as p n r x same more h =
    let hs = and_parts (r.placement == p) (in_row r.row n) h in
    and_from (x.placement == p) (in_row x.row n) (ap (λ q. q == p) same ∙ hs.0) (more hs.1)

-- rows stay as wide if one of them gives way to one that is as wide
pub set_wider : (rows : List PlacedRow) (i : ℕ) (x d : PlacedRow) → i < length rows → x.placement ≡ (get_or rows i d).placement → ((n : ℕ) → in_row (get_or rows i d).row n ≡ true → in_row x.row n ≡ true) → ArePlacedWider rows (set rows i x)
set_wider [] i x d l same more = absurd (omega (arith, l))
set_wider (r ∷ rows) zero x d l same more = λ p n h. elim (or_cases (is_placed p n r) (placed rows p n) h) [
  | inl e ↦ or_left (is_placed p n x) (placed rows p n) (placed_as p n r x same (more n) e)
  | inr e ↦ or_right (is_placed p n x) (placed rows p n) e
]
set_wider (r ∷ rows) (suc i) x d l same more = λ p n h. elim (or_cases (is_placed p n r) (placed rows p n) h) [
  | inl e ↦ or_left (is_placed p n r) (placed (set rows i x) p n) e
  | inr e ↦ or_right (is_placed p n r) (placed (set rows i x) p n) (set_wider rows i x d (omega (arith, l)) same more p n e)
]

-- the numbers of a row that is put among the rows are noted
pub set_has : (rows : List PlacedRow) (i : ℕ) (x : PlacedRow) (n : ℕ) → i < length rows → in_row x.row n ≡ true → placed (set rows i x) x.placement n ≡ true
set_has [] i x n l h = absurd (omega (arith, l))
set_has (r ∷ rows) zero x n l h = or_left (is_placed x.placement n x) (placed rows x.placement n) (and_from (x.placement == x.placement) (in_row x.row n) (eq-eqb x.placement x.placement refl) h)
set_has (r ∷ rows) (suc i) x n l h = or_right (is_placed x.placement n r) (placed (set rows i x) x.placement n) (set_has rows i x n (omega (arith, l)) h)

pub push_wider : (rows : List PlacedRow) (x : PlacedRow) → ArePlacedWider rows (rows ++ x ∷ [])
push_wider rows x = λ p n h. any_append (is_placed p n) rows (x ∷ []) ∙ or_left (placed rows p n) (placed (x ∷ []) p n) h

pub push_has : (rows : List PlacedRow) (x : PlacedRow) (n : ℕ) → in_row x.row n ≡ true → placed (rows ++ x ∷ []) x.placement n ≡ true
push_has rows x n h =
    any_append (is_placed x.placement n) rows (x ∷ [])
    ∙ or_right (placed rows x.placement n) (placed (x ∷ []) x.placement n) (or_left (is_placed x.placement n x) false (and_from (x.placement == x.placement) (in_row x.row n) (eq-eqb x.placement x.placement refl) h))

still_one : (b : Bool) (r y : PlacedRow) (rows rest : List PlacedRow) (p n : ℕ) → (is_placed p n r ≡ true → is_placed p n y ≡ true) → (b ≡ false → y.row ≡ []) → (placed rows p n ≡ true → placed rest p n ≡ true) →
    placed (r ∷ rows) p n ≡ true → placed (cond b (y ∷ rest) rest) p n ≡ true
still_one true r y rows rest p n more none later h = elim (or_cases (is_placed p n r) (placed rows p n) h) [
  | inl e ↦ or_left (is_placed p n y) (placed rest p n) (more e)
  | inr e ↦ or_right (is_placed p n y) (placed rest p n) (later e)
]
still_one false r y rows rest p n more none later h = elim (or_cases (is_placed p n r) (placed rows p n) h) [
  | inl e ↦ absurd (true≢false (sym (and_parts (y.placement == p) (in_row y.row n) (more e)).1 ∙ ap (λ s. in_row s n) (none refl)))
  | inr e ↦ later e
]

-- `retain_mut` keeps what is noted for the pending tasks, if each call leaves in its row exactly the spans that have the number
-- of a pending task, and drops only empty rows
pub rows_still : {F : Type 0} (T : F → PlacedRow → Bool → F → PlacedRow → Type 0) (I : F → Type 0) (ps : List Pending) →
    ((g : F) (r : PlacedRow) (b : Bool) (g' : F) (y : PlacedRow) → I g → T g r b g' y → (y.placement ≡ r.placement) × (y.row ≡ filter (λ s. has_pending ps s) r.row) × (b ≡ false → y.row ≡ []) × I g') →
    (f : F) (rows kept : List PlacedRow) → I f → RetainsInTurn T f rows kept → ArePlacedStill ps rows kept
rows_still T I ps turn f [] kept i h p n e s = subst (λ z. placed z p n ≡ true) (sym h) s
rows_still T I ps turn f (r ∷ rows) kept i h p n e s =
    let b = h.0 in
    let y = h.2 in
    let rest = h.4 in
    let one = turn f r b h.1 y i h.3 in
    subst (λ z. placed z p n ≡ true) (sym h.6)
    (still_one b r y rows rest p n (placed_as p n r y one.0 (λ a. ap (λ z. in_row z n) one.1 ∙ row_kept ps r.row n e a)) one.2 (rows_still T I ps turn h.1 rows rest one.3 h.5 p n e) s)

-- if the tasks under the touched placements of the first k rows are reached, and those under the next row if its placement is
-- touched, then those under the touched placements of the first k + 1 rows are reached
pub placed_more : (touched : ℕ → Bool) (r r2 : List ℕ) (ps : List Pending) (rows : List PlacedRow) (k : ℕ) (d : PlacedRow) → k < length rows → IsFarther r r2 →
    ((q : ℕ) → touched q ≡ true → IsReached r ps (λ n. placed (take k rows) q n)) →
    (touched (get_or rows k d).placement ≡ true → IsReached r2 ps (λ n. in_row (get_or rows k d).row n)) →
    (q : ℕ) → touched q ≡ true → IsReached r2 ps (λ n. placed (take (k + 1) rows) q n)
placed_more touched r r2 ps rows k d l w h one q t i e low s =
    let x = get_or rows k d in
    let n = (get_or ps i e).number in
    elim (any_more (is_placed q n) rows k d l s) [
      | inl a ↦ reached_on r r2 ps (λ m. placed (take k rows) q m) w (h q t) i e low a
      | inr b ↦
          let bs = and_parts (x.placement == q) (in_row x.row n) b in
          one (ap touched (eqb-true x.placement q bs.0) ∙ t) i e low bs.1
    ]
