-- Rows keep what is noted for the pending tasks if only the spans without a pending task's number and then the rows without
-- a span are dropped.
use Rattle.std.proofs.Common.{Bool, List, [], ap, cond, false, inl, inr, refl, subst, sym, true, ℕ, ◌∙◌, ◌∷◌, ◌≡◌}
use Rattle.std.proofs.lemmas.Bool.{cases_Bool, true≢false}
use Rattle.std.proofs.lemmas.Map.Entries.{lookup_head, lookup_tail}
use Rattle.std.specs.BTreeMap.{is_at}
use Rattle.std.specs.List.{filter, list_any}
use Rattle.std.specs.Map.Calls.{RetainsPairs}
use Rattle.std.specs.Option.{unwrap_or}
use Rattle.std.specs.Ordering.{nat_cmp}
use Rattle.poly_tasks.specs.declared.rows.Span.{Span}
use Rattle.poly_tasks.specs.declared.task.Pending.{Pending}
use Rattle.poly_tasks.specs.Mapped.{AreKept, Rows, has_pending, in_span, spanned}
use Rattle.poly_tasks.proofs.Mapping.{row_kept}

-- a span of the row has the number
abbrev in_row : List Span → ℕ → Bool
in_row r n = list_any (λ s. in_span s n) r

-- if the first entry has the key, its row decides which numbers are under the key
here : (k p : ℕ) (r : List Span) (es : Rows) (n : ℕ) → is_at (nat_cmp k) p ≡ true → spanned ((p, r) ∷ es) k n ≡ in_row r n
here k p r es n t = ap (λ o. in_row (unwrap_or o []) n) (lookup_head (is_at (nat_cmp k)) (p, r) es t)

there : (k p : ℕ) (r : List Span) (es : Rows) (n : ℕ) → is_at (nat_cmp k) p ≡ false → spanned ((p, r) ∷ es) k n ≡ spanned es k n
there k p r es n t = ap (λ o. in_row (unwrap_or o []) n) (lookup_tail (is_at (nat_cmp k)) (p, r) es t)

-- if the first row keeps its numbers and the later rows keep theirs, each number stays under its key
kept_one : (b : Bool) (p : ℕ) (v w : List Span) (es rest : Rows) (k n : ℕ) → (in_row v n ≡ true → in_row w n ≡ true) → (b ≡ false → w ≡ []) → (spanned es k n ≡ true → spanned rest k n ≡ true) →
    spanned ((p, v) ∷ es) k n ≡ true → spanned (cond b ((p, w) ∷ rest) rest) k n ≡ true
kept_one true p v w es rest k n more none later h = elim (cases_Bool (is_at (nat_cmp k) p)) [
  | inl same ↦ here k p w rest n same ∙ more (sym (here k p v es n same) ∙ h)
  | inr other ↦ there k p w rest n other ∙ later (sym (there k p v es n other) ∙ h)
]
kept_one false p v w es rest k n more none later h = elim (cases_Bool (is_at (nat_cmp k) p)) [
  | inl same ↦ absurd (true≢false (sym (more (sym (here k p v es n same) ∙ h)) ∙ ap (λ r. in_row r n) (none refl)))
  | inr other ↦ later (sym (there k p v es n other) ∙ h)
]

-- `retain` keeps what is noted for the pending tasks, if each call leaves in its row exactly the spans that have the number of
-- a pending task, and drops only empty rows
pub rows_kept : {F : Type 0} (T : F → ℕ → List Span → Bool → List Span → F → Type 0) (I : F → Type 0) (ps : List Pending) →
    ((g : F) (k : ℕ) (v : List Span) (b : Bool) (w : List Span) (g' : F) → I g → T g k v b w g' → (w ≡ filter (λ s. has_pending ps s) v) × (b ≡ false → w ≡ []) × I g') →
    (f : F) (es kept : Rows) → I f → RetainsPairs T f es kept → AreKept ps es kept
rows_kept T I ps turn f [] kept i h k n p s = subst (λ z. spanned z k n ≡ true) (sym h) s
rows_kept T I ps turn f (e ∷ es) kept i h k n p s =
    let b = h.0 in
    let w = h.1 in
    let rest = h.3 in
    let one = turn f e.0 e.1 b w h.2 i h.4 in
    subst (λ z. spanned z k n ≡ true) (sym h.6)
    (kept_one b e.0 e.1 w es rest k n (λ a. ap (λ r. in_row r n) one.0 ∙ row_kept ps e.1 n p a) one.1 (rows_kept T I ps turn h.2 es rest one.2 h.5 k n p) s)
