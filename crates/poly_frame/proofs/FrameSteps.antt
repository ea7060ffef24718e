-- The levels of a frame, one for the given atoms and one for each step.
use Rattle.std.proofs.Common.{◌≡◌, ℕ, zero, suc, ◌+◌, ◌-◌, ◌*◌, ◌^◌, ◌<◌, ◌≤◌, Bool, true, false, not, ◌&&◌, eqb, leb, ltb, List, [], ◌∷◌, ◌++◌, cond, max, inl, inr, None, Option, Some, ◌⊎◌, ◌||◌, refl, sym, ap, subst, ◌∙◌, arith, length, get_or, take, drop}
use Rattle.std.specs.List.{list_any, list_all}
use Rattle.std.proofs.Math.Nat.{mul-le-mul_left}
use Rattle.std.proofs.Math.Seq.{drop-append_seam, drop-length, get_or-append_seam}
use Rattle.std.proofs.lemmas.List.{take-append-le, take_all, take_more, take_rest, length-append, length-take, drop-append-le, get_or-take, get_or_append_left, get_or_past, take-append-drop}
use Rattle.std.proofs.lemmas.Bool.{cases_lt, cases_eq, eq-eqb, eqb-true, ne_eqb, both_ways, false_from_ne_true, and_from, and_parts, true≢false}
use Rattle.poly_tiling.specs.declared.item.Item.{Item}
use Rattle.poly_tiling.specs.Lists.{distinct, mem, one}
use Rattle.poly_tiling.specs.Puzzle.{View, count, items, same_item}
use Rattle.poly_tiling.proofs.Lists.{In, all_append, any_append, in_mem, mem_in, same_truth, tally_append}
use Rattle.poly_tiling.proofs.Ascending.{distinct_rest, not_head}
use Rattle.poly_atom.specs.declared.atom.Atom.{Atom}
use Rattle.poly_atom.specs.declared.atom.Atom.TheVariants.{AtLeast, AtMost, Has, Lacks}
use Rattle.poly_atom.specs.Hopeless.{base}
use Rattle.poly_frame.specs.Open.{least_at, open_in, most_at}
use Rattle.poly_frame.specs.Bits.{has_bit}
use Rattle.poly_frame.specs.FrameItems.{Noted, item_of, times}
use Rattle.poly_frame.specs.Matrices.{RowOf, StandsShow, bit_index}
use Rattle.poly_frame.specs.FrameTable.{HaveShows, TableShows, limit_at}
use Rattle.poly_frame.specs.FrameSteps.{Kept, LevelShows, RowShows, cleared_in, clears, level_bit, mark_of, row_of}
use Rattle.poly_frame.specs.declared.frame.matrix.Matrix.{Matrix}
use Rattle.poly_frame.specs.declared.frame.steps.Mark.{Mark}
use Rattle.poly_frame.specs.declared.frame.table.Table.{Table}
use Rattle.poly_frame.proofs.Steps.{open_leave, most_leave, most_pick}
use Rattle.poly_frame.proofs.FramePicks.{base_again, open_again, count_leave, count_pick, pick_open, pick_self, indices_say}

yes_and : (b : Bool) → (b && true) ≡ b
yes_and true = refl
yes_and false = refl

pub own_gone : (a b : Bool) → b ≡ true → (a && not b) ≡ false
own_gone true b e = ap not e
own_gone false b e = refl

pub own_spared : (a b : Bool) → b ≡ false → (a && not b) ≡ a
own_spared true b e = ap not e
own_spared false b e = refl

pub none_and : (a b : Bool) → a ≡ false → (a && b) ≡ false
none_and true b e = absurd (true≢false e)
none_and false b e = refl

-- the number at index j is p
abbrev pub is_own : List ℕ → ℕ → ℕ → Bool
is_own ns p j = eqb p (get_or ns j 0)

pub least_pick : (v : View) (A : List Atom) (p : ℕ) (i : Item) → least_at v (A ++ Has p ∷ []) i ≡ least_at v A i
least_pick v [] p i = refl
least_pick v (Has q ∷ A) p i = least_pick v A p i
least_pick v (Lacks q ∷ A) p i = least_pick v A p i
least_pick v (AtLeast k n ∷ A) p i = ap (λ u. cond (same_item k i) (max n u) u) (least_pick v A p i)
least_pick v (AtMost k n ∷ A) p i = least_pick v A p i

least_leave : (v : View) (A : List Atom) (p : ℕ) (i : Item) → least_at v (A ++ Lacks p ∷ []) i ≡ least_at v A i
least_leave v [] p i = refl
least_leave v (Has q ∷ A) p i = least_leave v A p i
least_leave v (Lacks q ∷ A) p i = least_leave v A p i
least_leave v (AtLeast k n ∷ A) p i = ap (λ u. cond (same_item k i) (max n u) u) (least_leave v A p i)
least_leave v (AtMost k n ∷ A) p i = least_leave v A p i

-- the bits of row k come before row m if k is below m
pub row_below : (w k m j : ℕ) → k < m → j < 64 * w → bit_index w k j < 64 * (w * m)
row_below w k m j h l = let a = mul-le-mul_left {m = k + 1} {n = m} w (omega arith) in omega (arith, a)

-- a mark that is read where there is none
abbrev pub mark_else : ℕ → ℕ → Mark
mark_else n at = record { raised = n; row = at; cleared = None }

get_at : (xs : List Mark) (k : ℕ) (d e : Mark) → k < length xs → get_or xs k d ≡ get_or xs k e
get_at [] k d e h = absurd (omega arith)
get_at (x ∷ xs) zero d e h = refl
get_at (x ∷ xs) (suc k) d e h = get_at xs k d e (omega arith)

-- what one more mark leaves of the earlier levels
mark_stays : (marks : List Mark) (m d e : Mark) (f : Mark → ℕ) (k : ℕ) → f m ≡ f e → k ≤ length marks → f (get_or (marks ++ m ∷ []) k d) ≡ f (get_or marks k e)
mark_stays marks m d e f k same h = elim (cases_eq k (length marks)) [
  | inl s ↦ ap (λ n. f (get_or (marks ++ m ∷ []) n d)) s ∙ ap (λ x. f x) (get_or-append_seam marks m [] d) ∙ same ∙ sym (ap (λ n. f (get_or marks n e)) s ∙ ap (λ x. f x) (get_or_past marks (length marks) e (omega arith)))
  | inr n ↦ ap (λ x. f x) (get_or_append_left marks (m ∷ []) d k (omega arith) ∙ get_at marks k d e (omega arith))
]

mark_kept : (marks : List Mark) (m : Mark) (raised rs : List ℕ) (k : ℕ) → m.raised ≡ length raised → k ≤ length marks → mark_of (marks ++ m ∷ []) (raised ++ rs) k ≡ mark_of marks raised k
mark_kept marks m raised rs k e h = mark_stays marks m (mark_else (length (raised ++ rs)) 0) (mark_else (length raised) 0) (λ x. x.raised) k e h

mark_new : (marks : List Mark) (m : Mark) (raised rs : List ℕ) → mark_of (marks ++ m ∷ []) (raised ++ rs) (length marks + 1) ≡ length (raised ++ rs)
mark_new marks m raised rs = ap (λ (x : Mark). x.raised) (get_or_past (marks ++ m ∷ []) (length marks + 1) (mark_else (length (raised ++ rs)) 0) (omega (arith, length-append marks (m ∷ []))))

mark_top : (marks : List Mark) (raised : List ℕ) → mark_of marks raised (length marks) ≡ length raised
mark_top marks raised = ap (λ (x : Mark). x.raised) (get_or_past marks (length marks) (mark_else (length raised) 0) (omega arith))

row_kept : (w : ℕ) (live live2 : List ℕ) (marks : List Mark) (m : Mark) (k : ℕ) → m.row ≡ length live - w → k ≤ length marks → row_of w live2 (marks ++ m ∷ []) k ≡ row_of w live marks k
row_kept w live live2 marks m k e h = mark_stays marks m (mark_else 0 (length live2 - w)) (mark_else 0 (length live - w)) (λ x. x.row) k e h

row_top : (w : ℕ) (live : List ℕ) (marks : List Mark) → row_of w live marks (length marks) ≡ length live - w
row_top w live marks = ap (λ (x : Mark). x.row) (get_or_past marks (length marks) (mark_else 0 (length live - w)) (omega arith))

pub or_none : (b : Bool) → (b || false) ≡ b
or_none true = refl
or_none false = refl

or_swap : (b x c : Bool) → (b || (x || (c || false))) ≡ ((b || c) || x)
or_swap true x c = refl
or_swap false true true = refl
or_swap false true false = refl
or_swap false false true = refl
or_swap false false false = refl

-- the last level is the last row
top_bit : (w : ℕ) (live : List ℕ) (marks : List Mark) (j : ℕ) → level_bit w live marks (length marks) j ≡ has_bit live (64 * (length live - w) + j)
top_bit w live marks j =
    let at = length live - w in
    ap (λ r. has_bit live (64 * r + j) || cleared_in r (drop (length marks) marks) j) (row_top w live marks)
    ∙ ap (λ ms. has_bit live (64 * at + j) || cleared_in at ms j) (drop-length marks)
    ∙ or_none (has_bit live (64 * at + j))

-- a step that changes the last row notes what it cleared there; a step that adds a row changes no row before it
level_stays : (w : ℕ) (live live2 : List ℕ) (marks : List Mark) (m : Mark) (k j : ℕ) → m.row ≡ length live - w → k ≤ length marks → j < 64 * w →
    (row_of w live marks k ≡ length live - w) ⊎ (row_of w live marks k + w ≤ length live - w) →
    ((x : ℕ) → x < 64 * (length live - w) → has_bit live2 x ≡ has_bit live x) →
    (has_bit live2 (64 * (length live - w) + j) || clears m.cleared j) ≡ has_bit live (64 * (length live - w) + j) →
    level_bit w live2 (marks ++ m ∷ []) k j ≡ level_bit w live marks k j
level_stays w live live2 marks m k j e h l stands below last =
    let r = row_of w live marks k in
    let gone = cleared_in r (drop k marks) j in
    let more : cleared_in r (drop k (marks ++ m ∷ [])) j ≡ (gone || ((eqb m.row r && clears m.cleared j) || false)) =
    ap (λ ms. cleared_in r ms j) (drop-append-le k marks (m ∷ []) h) ∙ any_append (λ (x : Mark). eqb x.row r && clears x.cleared j) (drop k marks) (m ∷ []) in
    ap (λ n. has_bit live2 (64 * n + j) || cleared_in n (drop k (marks ++ m ∷ [])) j) (row_kept w live live2 marks m k e h)
    ∙ ap (λ b. has_bit live2 (64 * r + j) || b) more
    ∙ (elim stands [
      | inl s ↦
          ap (λ b. has_bit live2 (64 * r + j) || (gone || ((b && clears m.cleared j) || false))) (eq-eqb m.row r (e ∙ sym s))
          ∙ or_swap (has_bit live2 (64 * r + j)) gone (clears m.cleared j)
          ∙ ap (λ b. b || gone) (ap (λ n. has_bit live2 (64 * n + j) || clears m.cleared j) s ∙ last ∙ ap (λ n. has_bit live (64 * n + j)) (sym s))
      | inr f ↦
          ap (λ b. has_bit live2 (64 * r + j) || (gone || ((b && clears m.cleared j) || false))) (ne_eqb m.row r (λ y. absurd (omega (arith, y, e, f, l))))
          ∙ ap (λ b. has_bit live2 (64 * r + j) || b) (or_none gone)
          ∙ ap (λ b. b || gone) (below (64 * r + j) (omega (arith, f, l)))
    ])

-- what a step does to the rows, and what it notes of that
pub record Moved (w : ℕ) (live raised live2 : List ℕ) (m : Mark) : Type 0 where
  pub wide : w ≤ length live2
  pub rows : length live2 ≤ length live + w
  pub next : (length live2 ≡ length live) ⊎ (length live ≤ length live2 - w)
  pub noted : m.raised ≡ length raised
  pub stood : m.row ≡ length live - w
  pub column : (j : ℕ) → m.cleared ≡ Some j → j < 64 * w
  pub before : (x : ℕ) → x < 64 * (length live - w) → has_bit live2 x ≡ has_bit live x
  pub same : (j : ℕ) → j < 64 * w → (has_bit live2 (64 * (length live - w) + j) || clears m.cleared j) ≡ has_bit live (64 * (length live - w) + j)

pub record Stepped (v : View) (A : List Atom) (a : Atom) (matrix : Matrix) (t : Table) (live have raised live2 have2 rs : List ℕ) (m : Mark) : Type 0 where
  pub moved : Moved matrix.width live raised live2 m
  pub have_len : length have2 ≡ length have
  pub more : (b : ℕ) → b < length v.bounds → get_or have2 b 0 ≡ get_or have b 0 + times rs b
  pub few : length rs ≤ 17
  pub low : list_all (λ b. ltb b (length v.bounds)) rs ≡ true
  pub row : RowShows v (A ++ a ∷ []) matrix.numbers.items matrix.width (λ j. has_bit live2 (64 * (length live2 - matrix.width) + j))
  pub counts : (b : ℕ) → b < length v.bounds → get_or have2 b 0 ≡ count v (base v (A ++ a ∷ [])) (item_of v b)
  pub mosts : (i : Item) → most_at v (A ++ a ∷ []) i ≡ most_at v A i
  pub leasts : (i : Item) → least_at v (A ++ a ∷ []) i ≡ least_at v A i

module _ (v : View) (A : List Atom) (first : ℕ) (matrix : Matrix) (t : Table) (live have raised : List ℕ) (marks : List Mark) (K : Kept v A first matrix t live have raised marks) where
  -- what the lists keep for the last level
  pub top_level : LevelShows v (take first A) A matrix t live have raised marks (length marks)
  top_level = subst (λ (B : List Atom). LevelShows v (take first A) B matrix t live have raised marks (length marks)) (take_all (first + length marks) A (omega (arith, K.steps))) (K.levels (length marks) (omega arith))

  pub top_have : (b : ℕ) → b < length v.bounds → get_or have b 0 ≡ count v (base v A) (item_of v b)
  top_have b h = top_level.counted b h ∙ ap (λ n. count v (base v A) (item_of v b) + times (drop n raised) b) (mark_top marks raised) ∙ ap (λ xs. count v (base v A) (item_of v b) + times xs b) (drop-length raised) ∙ omega arith

  pub raised_few : length raised ≤ 17 * length marks
  raised_few = omega (arith, top_level.few, mark_top marks raised)

  -- each count stays below a bound that fits into a word
  pub have_small : (b : ℕ) → b < length v.bounds → get_or have b 0 < 2 ^ 63 + 17 * length marks
  have_small b h =
      let l = K.levels 0 (omega arith) in
      let z : take (first + 0) A ≡ take first A = ap (λ n. take n A) (omega arith) in
      omega (arith, l.counted b h, K.table.small (item_of v b), ap (λ B. count v (base v B) (item_of v b)) z, times_most (drop (mark_of marks raised 0) raised) b, length_drop_le (mark_of marks raised 0) raised, raised_few)
    where
      times_most : (xs : List ℕ) (b : ℕ) → times xs b ≤ length xs
      times_most [] b = omega arith
      times_most (x ∷ xs) b = let r = times_most xs b in elim (cases_eq x b) [ inl e ↦ omega (arith, ap one (eq-eqb x b e)) | inr n ↦ omega (arith, ap one (ne_eqb x b n)) ]

      length_drop_le : (n : ℕ) (xs : List ℕ) → length (drop n xs) ≤ length xs
      length_drop_le zero xs = omega arith
      length_drop_le (suc n) [] = omega arith
      length_drop_le (suc n) (x ∷ xs) = omega (arith, length_drop_le n xs)

  pub top_opened : (j : ℕ) → j < length matrix.numbers.items → has_bit live (64 * (length live - matrix.width) + j) ≡ open_in v A (get_or matrix.numbers.items j 0)
  top_opened j h = sym (top_bit matrix.width live marks j) ∙ top_level.row.opened j h

  pub top_past : (j : ℕ) → length matrix.numbers.items ≤ j → j < 64 * matrix.width → has_bit live (64 * (length live - matrix.width) + j) ≡ false
  top_past j h l = sym (top_bit matrix.width live marks j) ∙ top_level.row.past j h l

  -- each step adds at most one row
  pub step_room : length marks < 4096 → length live + matrix.width ≤ matrix.width * (4096 + 1)
  step_room h =
      let room = mul-le-mul_left {m = length marks + 2} {n = 4096 + 1} matrix.width (omega arith) in
      omega (arith, K.rows (length marks) (omega arith), row_top matrix.width live marks, K.wide, room)

  -- the row of a level is the last one, or before it
  where_row : (k : ℕ) → k ≤ length marks → (row_of matrix.width live marks k ≡ length live - matrix.width) ⊎ (row_of matrix.width live marks k + matrix.width ≤ length live - matrix.width)
  where_row k h = elim (K.apart k (length marks) h (omega arith)) [
    | inl e ↦ inl (e ∙ row_top matrix.width live marks)
    | inr f ↦ inr (omega (arith, f, row_top matrix.width live marks))
  ]

  pub kept_step : (a : Atom) (live2 have2 rs : List ℕ) (m : Mark) → Stepped v A a matrix t live have raised live2 have2 rs m → Kept v (A ++ a ∷ []) first matrix t live2 have2 (raised ++ rs) (marks ++ m ∷ [])
  kept_step a live2 have2 rs m S =
      let given : take first (A ++ a ∷ []) ≡ take first A = take-append-le first A (a ∷ []) K.low in
      let longer = length-append marks (m ∷ []) in
      let more = length-append raised rs in
      let M = S.moved in
      let w = matrix.width in
      let on : (k : ℕ) → k ≤ length marks → row_of w live2 (marks ++ m ∷ []) k ≡ row_of w live marks k = λ k h. row_kept w live live2 marks m k M.stood h in
      let end : row_of w live2 (marks ++ m ∷ []) (length (marks ++ m ∷ [])) ≡ length live2 - w = row_top w live2 (marks ++ m ∷ []) in
      let reach : row_of w live marks (length marks) ≡ length live - w = row_top w live marks in
      record {
        low = omega (arith, K.low, length-append A (a ∷ []));
        table = subst (λ (B : List Atom). TableShows v B matrix t) (sym given) K.table;
        steps = omega (arith, longer, length-append A (a ∷ []), K.steps);
        have_len = S.have_len ∙ K.have_len;
        wide = M.wide;
        rows = λ k h. elim (cases_lt (length marks) k) [
          | inl y ↦
              let top : k ≡ length (marks ++ m ∷ []) = omega (arith, longer) in
              let size : w * k ≡ w * length marks + w = ap (λ n. w * n) (top ∙ longer) ∙ omega arith in
              omega (arith, ap (λ n. row_of w live2 (marks ++ m ∷ []) n) top, end, M.rows, K.rows (length marks) (omega arith), reach, K.wide, size)
          | inr y ↦ omega (arith, on k y, K.rows k y)
        ];
        apart = λ k l h g. elim (cases_lt (length marks) l) [
          | inl y ↦
              let top : l ≡ length (marks ++ m ∷ []) = omega (arith, longer) in
              let last = ap (λ n. row_of w live2 (marks ++ m ∷ []) n) top ∙ end in
              elim (cases_lt (length marks) k) [
                | inl x ↦ let same : k ≡ l = omega (arith, longer) in inl (ap (λ n. row_of w live2 (marks ++ m ∷ []) n) same)
                | inr x ↦ elim M.next [
                  | inl e ↦ elim (where_row k x) [
                    | inl f ↦ inl (on k x ∙ f ∙ ap (λ n. n - w) (sym e) ∙ sym last)
                    | inr f ↦ inr (omega (arith, on k x, f, last, e))
                  ]
                  | inr e ↦ elim (where_row k x) [
                    | inl f ↦ inr (omega (arith, on k x, f, last, e, K.wide))
                    | inr f ↦ inr (omega (arith, on k x, f, last, e, K.wide))
                  ]
                ]
              ]
          | inr y ↦ elim (K.apart k l h y) [
            | inl e ↦ inl (on k (omega arith) ∙ e ∙ sym (on l y))
            | inr f ↦ inr (omega (arith, on k (omega arith), f, on l y))
          ]
        ];
        columns = λ k j h e. elim (cases_lt k (length marks)) [
          | inl y ↦ K.columns k j y (sym (ap (λ (x : Mark). x.cleared) (get_or_append_left marks (m ∷ []) (mark_else 0 0) k y)) ∙ e)
          | inr y ↦
              let top : k ≡ length marks = omega (arith, h, longer) in
              M.column j (sym (ap (λ (x : Mark). x.cleared) (ap (λ n. get_or (marks ++ m ∷ []) n (mark_else 0 0)) top ∙ get_or-append_seam marks m [] (mark_else 0 0))) ∙ e)
        ];
        indices = all_append (λ b. ltb b (length v.bounds)) raised rs ∙ and_from _ _ K.indices S.low;
        up = λ k l h g. elim (cases_lt (length marks) l) [
          | inl y ↦
              let top : l ≡ length marks + 1 = omega (arith, longer) in
              elim (cases_lt (length marks) k) [
                | inl x ↦ let same : k ≡ l = omega (arith, longer) in omega (arith, ap (λ n. mark_of (marks ++ m ∷ []) (raised ++ rs) n) same)
                | inr x ↦ omega (arith, mark_kept marks m raised rs k M.noted x, (K.levels k x).begun, ap (λ n. mark_of (marks ++ m ∷ []) (raised ++ rs) n) top, mark_new marks m raised rs, more)
              ]
          | inr y ↦ omega (arith, mark_kept marks m raised rs k M.noted (omega arith), mark_kept marks m raised rs l M.noted y, K.up k l h y)
        ];
        levels = λ k h. subst (λ (B : List Atom). LevelShows v B (take (first + k) (A ++ a ∷ [])) matrix t live2 have2 (raised ++ rs) (marks ++ m ∷ []) k) (sym given) (elim (cases_lt (length marks) k) [
          | inl y ↦
              let top : k ≡ length marks + 1 = omega (arith, longer) in
              let whole : take (first + k) (A ++ a ∷ []) ≡ A ++ a ∷ [] = take_all (first + k) (A ++ a ∷ []) (omega (arith, length-append A (a ∷ []), K.steps)) in
              let mark : mark_of (marks ++ m ∷ []) (raised ++ rs) k ≡ length (raised ++ rs) = ap (λ n. mark_of (marks ++ m ∷ []) (raised ++ rs) n) top ∙ mark_new marks m raised rs in
              let bit : (j : ℕ) → level_bit w live2 (marks ++ m ∷ []) k j ≡ has_bit live2 (64 * (length live2 - w) + j) = λ j. ap (λ n. level_bit w live2 (marks ++ m ∷ []) n j) (top ∙ sym longer) ∙ top_bit w live2 (marks ++ m ∷ []) j in
              subst (λ (B : List Atom). LevelShows v (take first A) B matrix t live2 have2 (raised ++ rs) (marks ++ m ∷ []) k) (sym whole) (record {
                row = record {
                  opened = λ j l. bit j ∙ S.row.opened j l;
                  past = λ j l g. bit j ∙ S.row.past j l g;
                };
                counted = λ b l. S.counts b l ∙ sym (ap (λ n. count v (base v (A ++ a ∷ [])) (item_of v b) + times (drop n (raised ++ rs)) b) mark ∙ ap (λ xs. count v (base v (A ++ a ∷ [])) (item_of v b) + times xs b) (drop-length (raised ++ rs)) ∙ omega arith);
                mosts = λ i. S.mosts i ∙ top_level.mosts i;
                leasts = λ i. S.leasts i ∙ top_level.leasts i;
                few = omega (arith, mark, more, S.few, raised_few);
                begun = omega (arith, mark);
              })
          | inr y ↦
              let L = K.levels k y in
              let mark = mark_kept marks m raised rs k M.noted y in
              let same : take (first + k) (A ++ a ∷ []) ≡ take (first + k) A = take-append-le (first + k) A (a ∷ []) (omega (arith, K.steps)) in
              let inside : (j : ℕ) → j < 64 * w → level_bit w live2 (marks ++ m ∷ []) k j ≡ level_bit w live marks k j = λ j l. level_stays w live live2 marks m k j M.stood y l (where_row k y) M.before (M.same j l) in
              subst (λ (B : List Atom). LevelShows v (take first A) B matrix t live2 have2 (raised ++ rs) (marks ++ m ∷ []) k) (sym same) (record {
                row = record {
                  opened = λ j l. inside j (omega (arith, K.table.matrix.wide)) ∙ L.row.opened j l;
                  past = λ j l g. inside j g ∙ L.row.past j l g;
                };
                counted = λ b l.
                    let d = ap (λ n. times (drop n (raised ++ rs)) b) mark ∙ ap (λ xs. times xs b) (drop-append-le (mark_of marks raised k) raised rs L.begun) ∙ tally_append (λ x. eqb x b) (drop (mark_of marks raised k) raised) rs in
                    omega (arith, S.more b l, L.counted b l, d);
                mosts = L.mosts;
                leasts = L.leasts;
                few = omega (arith, mark, L.few);
                begun = omega (arith, mark, L.begun, more);
              })
        ]);
      }

-- `Kept` for equal lists
pub kept_as : (v : View) (A : List Atom) (first : ℕ) (matrix : Matrix) (t : Table) (live have raised : List ℕ) (marks : List Mark) (raised2 : List ℕ) (marks2 : List Mark) → raised2 ≡ raised → marks2 ≡ marks → Kept v A first matrix t live have raised marks → Kept v A first matrix t live have raised2 marks2
kept_as v A first matrix t live have raised marks raised2 marks2 e f K = subst (λ (xs : List ℕ). Kept v A first matrix t live have xs marks2) (sym e) (subst (λ (xs : List Mark). Kept v A first matrix t live have raised xs) (sym f) K)

at_in : (xs : List ℕ) (j : ℕ) → j < length xs → In (get_or xs j 0) xs
at_in [] j h = absurd (omega arith)
at_in (x ∷ xs) zero h = inl refl
at_in (x ∷ xs) (suc j) h = inr (at_in xs j (omega arith))

pub listed_at : (xs : List ℕ) (j : ℕ) → j < length xs → mem xs (get_or xs j 0) ≡ true
listed_at xs j h = in_mem xs _ (at_in xs j h)

pub index_in : (xs : List ℕ) (q : ℕ) → mem xs q ≡ true → (j : ℕ) × (j < length xs) × (get_or xs j 0 ≡ q)
index_in xs q m = go xs (mem_in xs q m)
  where
    go : (xs : List ℕ) → In q xs → (j : ℕ) × (j < length xs) × (get_or xs j 0 ≡ q)
    go [] i = absurd i
    go (x ∷ xs) (inl e) = (zero, omega arith, e)
    go (x ∷ xs) (inr i) = let r = go xs i in let l : suc r.0 < length (x ∷ xs) = omega (arith, r.1) in (suc r.0, l, r.2)

pub distinct_at : (xs : List ℕ) (j k : ℕ) → distinct xs ≡ true → j < length xs → k < length xs → get_or xs j 0 ≡ get_or xs k 0 → j ≡ k
distinct_at [] j k d h l e = absurd (omega arith)
distinct_at (x ∷ xs) zero zero d h l e = refl
distinct_at (x ∷ xs) zero (suc k) d h l e = absurd (not_head x xs d (subst (λ z. In z xs) (sym e) (at_in xs k (omega arith))))
distinct_at (x ∷ xs) (suc j) zero d h l e = absurd (not_head x xs d (subst (λ z. In z xs) e (at_in xs j (omega arith))))
distinct_at (x ∷ xs) (suc j) (suc k) d h l e = ap suc (distinct_at xs j k (distinct_rest x xs d) (omega arith) (omega arith) e)

-- one more row, equal to the last one
pub record Copied (w : ℕ) (live live2 : List ℕ) : Type 0 where
  pub len : length live2 ≡ length live + w
  pub before : (x : ℕ) → x < 64 * length live → has_bit live2 x ≡ has_bit live x
  pub row : (j : ℕ) → j < 64 * w → has_bit live2 (64 * length live + j) ≡ has_bit live (64 * (length live - w) + j)

pub same_in_row : (at i j : ℕ) → eqb (64 * at + i) (64 * at + j) ≡ eqb i j
same_in_row at i j = same_truth _ _ (λ e. let f = eqb-true (64 * at + i) (64 * at + j) e in eq-eqb i j (omega arith)) (λ e. eq-eqb _ _ (ap (λ n. 64 * at + n) (eqb-true i j e)))

abbrev has_some : Option ℕ → Bool
has_some None = false
has_some (Some j) = true

not_some : (o : Option ℕ) (j : ℕ) → o ≡ None → o ≡ Some j → ⊥
not_some o j n e = true≢false (sym (ap has_some (sym n ∙ e)))

-- a copy of the last row is all that a step adds, and it clears nothing in the row before
copy_moves : (w : ℕ) (live raised live1 live2 : List ℕ) (m : Mark) → w ≤ length live → Copied w live live1 → length live2 ≡ length live1 → ((x : ℕ) → x < 64 * length live → has_bit live2 x ≡ has_bit live1 x) →
    m.raised ≡ length raised → m.row ≡ length live - w → m.cleared ≡ None → Moved w live raised live2 m
copy_moves w live raised live1 live2 m wide C len before noted stood none =
    let kept : (x : ℕ) → x < 64 * length live → has_bit live2 x ≡ has_bit live x = λ x h. before x h ∙ C.before x h in
    record {
      wide = omega (arith, len, C.len);
      rows = omega (arith, len, C.len);
      next = inr (omega (arith, len, C.len));
      noted = noted;
      stood = stood;
      column = λ j e. absurd (not_some m.cleared j none e);
      before = λ x h. kept x (omega arith);
      same = λ j h. ap (λ o. has_bit live2 (64 * (length live - w) + j) || clears o j) none ∙ or_none _ ∙ kept (64 * (length live - w) + j) (omega arith);
    }

module _ (v : View) (A : List Atom) (first : ℕ) (matrix : Matrix) (t : Table) (live have raised : List ℕ) (marks : List Mark) (K : Kept v A first matrix t live have raised marks) where
  none_raised : (b : ℕ) → b < length v.bounds → get_or have b 0 ≡ get_or have b 0 + times [] b
  none_raised b h = omega arith

  -- `Kept` after a step that does not change the base: only the rows differ
  quiet : (a : Atom) (live2 : List ℕ) (m : Mark) → Moved matrix.width live raised live2 m →
      ((j : ℕ) → j < length matrix.numbers.items → has_bit live2 (64 * (length live2 - matrix.width) + j) ≡ open_in v (A ++ a ∷ []) (get_or matrix.numbers.items j 0)) →
      ((j : ℕ) → length matrix.numbers.items ≤ j → j < 64 * matrix.width → has_bit live2 (64 * (length live2 - matrix.width) + j) ≡ false) →
      ((i : Item) → count v (base v (A ++ a ∷ [])) i ≡ count v (base v A) i) → ((i : Item) → most_at v (A ++ a ∷ []) i ≡ most_at v A i) → ((i : Item) → least_at v (A ++ a ∷ []) i ≡ least_at v A i) →
      Kept v (A ++ a ∷ []) first matrix t live2 have raised (marks ++ m ∷ [])
  quiet a live2 m moved opened past counts mosts leasts =
      kept_as v (A ++ a ∷ []) first matrix t live2 have (raised ++ []) (marks ++ m ∷ []) raised (marks ++ m ∷ []) (sym (nothing_more raised)) refl
      (kept_step v A first matrix t live have raised marks K a live2 have [] m (record {
        moved = moved;
        have_len = refl;
        more = none_raised;
        few = omega arith;
        low = refl;
        row = record {
          opened = opened;
          past = past;
        };
        counts = λ b h. top_have v A first matrix t live have raised marks K b h ∙ sym (counts (item_of v b));
        mosts = mosts;
        leasts = leasts;
      }))
    where
      nothing_more : (xs : List ℕ) → xs ++ [] ≡ xs
      nothing_more [] = refl
      nothing_more (x ∷ xs) = ap (λ ys. x ∷ ys) (nothing_more xs)

  apart_at : (j : ℕ) (q : ℕ) → mem matrix.numbers.items q ≡ false → j < length matrix.numbers.items → eqb q (get_or matrix.numbers.items j 0) ≡ false
  apart_at j q m h = ne_eqb q _ (λ e. both_ways (mem matrix.numbers.items q) m (ap (λ n. mem matrix.numbers.items n) e ∙ listed_at matrix.numbers.items j h))

  own_number : (i j p : ℕ) → i < length matrix.numbers.items → get_or matrix.numbers.items i 0 ≡ p → j < length matrix.numbers.items → eqb i j ≡ eqb p (get_or matrix.numbers.items j 0)
  own_number i j p low own h = same_truth _ _
      (λ e. eq-eqb p _ (sym own ∙ ap (λ n. get_or matrix.numbers.items n 0) (eqb-true i j e)))
      (λ e. eq-eqb i j (distinct_at matrix.numbers.items i j K.table.matrix.once low h (own ∙ eqb-true p _ e)))

  -- leaving a number that has no column, or one whose bit is not set
  pub leave_other : (p : ℕ) (m : Mark) → ((j : ℕ) → j < length matrix.numbers.items → get_or matrix.numbers.items j 0 ≡ p → has_bit live (64 * (length live - matrix.width) + j) ≡ false) →
      m.raised ≡ length raised → m.row ≡ length live - matrix.width → m.cleared ≡ None → Kept v (A ++ Lacks p ∷ []) first matrix t live have raised (marks ++ m ∷ [])
  leave_other p m shut noted stood none = quiet (Lacks p) live m
      (record {
        wide = K.wide;
        rows = omega arith;
        next = inl refl;
        noted = noted;
        stood = stood;
        column = λ j e. absurd (not_some m.cleared j none e);
        before = λ x h. refl;
        same = λ j h. ap (λ o. has_bit live (64 * (length live - matrix.width) + j) || clears o j) none ∙ or_none _;
      })
      (λ j h. elim (cases_eq p (get_or matrix.numbers.items j 0)) [
        | inl e ↦ shut j h (sym e) ∙ sym (open_leave v A p (get_or matrix.numbers.items j 0) ∙ own_gone (open_in v A (get_or matrix.numbers.items j 0)) _ (eq-eqb p _ e))
        | inr n ↦ top_opened v A first matrix t live have raised marks K j h ∙ sym (open_leave v A p (get_or matrix.numbers.items j 0) ∙ own_spared (open_in v A (get_or matrix.numbers.items j 0)) _ (ne_eqb p _ n))
      ])
      (top_past v A first matrix t live have raised marks K) (λ i. count_leave v A p i) (λ i. most_leave v A p i) (λ i. least_leave v A p i)

  -- leaving the number of column i, whose bit is set
  pub leave_own : (p i : ℕ) (live2 : List ℕ) (m : Mark) → i < length matrix.numbers.items → get_or matrix.numbers.items i 0 ≡ p → has_bit live (64 * (length live - matrix.width) + i) ≡ true → length live2 ≡ length live →
      ((x : ℕ) → has_bit live2 x ≡ (has_bit live x && not (eqb (64 * (length live - matrix.width) + i) x))) →
      m.raised ≡ length raised → m.row ≡ length live - matrix.width → m.cleared ≡ Some i → Kept v (A ++ Lacks p ∷ []) first matrix t live2 have raised (marks ++ m ∷ [])
  leave_own p i live2 m low own set len taken noted stood some =
      let at = length live - matrix.width in
      let row : (j : ℕ) → has_bit live2 (64 * (length live2 - matrix.width) + j) ≡ (has_bit live (64 * at + j) && not (eqb i j)) =
      λ j. ap (λ n. has_bit live2 (64 * (n - matrix.width) + j)) len ∙ taken (64 * at + j) ∙ ap (λ b. has_bit live (64 * at + j) && not b) (same_in_row at i j) in
      quiet (Lacks p) live2 m
      (record {
        wide = omega (arith, K.wide, len);
        rows = omega (arith, len);
        next = inl len;
        noted = noted;
        stood = stood;
        column = λ j e. omega (arith, inner (sym some ∙ e), low, K.table.matrix.wide);
        before = λ x h. taken x ∙ ap (λ b. has_bit live x && not b) (ne_eqb (64 * at + i) x (λ e. absurd (omega (arith, e, h)))) ∙ yes_and (has_bit live x);
        same = λ j h. ap (λ o. has_bit live2 (64 * at + j) || clears o j) some ∙ ap (λ b. b || eqb i j) (taken (64 * at + j) ∙ ap (λ b. has_bit live (64 * at + j) && not b) (same_in_row at i j))
            ∙ back_in (has_bit live (64 * at + j)) (eqb i j) (λ e. ap (λ n. has_bit live (64 * at + n)) (sym (eqb-true i j e)) ∙ set);
      })
      (λ j h. row j ∙ ap (λ b. b && not (eqb i j)) (top_opened v A first matrix t live have raised marks K j h)
      ∙ ap (λ b. open_in v A (get_or matrix.numbers.items j 0) && not b) (own_number i j p low own h) ∙ sym (open_leave v A p (get_or matrix.numbers.items j 0)))
      (λ j h l. row j ∙ none_and _ _ (top_past v A first matrix t live have raised marks K j h l))
      (λ k. count_leave v A p k) (λ k. most_leave v A p k) (λ k. least_leave v A p k)
    where
      inner : {i j : ℕ} → Some i ≡ Some j → i ≡ j
      inner e = cc

      back_in : (a b : Bool) → (b ≡ true → a ≡ true) → ((a && not b) || b) ≡ a
      back_in true true h = refl
      back_in true false h = refl
      back_in false true h = sym (h refl)
      back_in false false h = refl

module _ (v : View) (A : List Atom) (first : ℕ) (matrix : Matrix) (t : Table) (live have raised : List ℕ) (marks : List Mark) (live1 : List ℕ) (K : Kept v A first matrix t live have raised marks) (C : Copied matrix.width live live1) where
  copied_open : (j : ℕ) → j < length matrix.numbers.items → has_bit live1 (64 * length live + j) ≡ open_in v A (get_or matrix.numbers.items j 0)
  copied_open j h = C.row j (omega (arith, K.table.matrix.wide)) ∙ top_opened v A first matrix t live have raised marks K j h

  copied_past : (j : ℕ) → length matrix.numbers.items ≤ j → j < 64 * matrix.width → has_bit live1 (64 * length live + j) ≡ false
  copied_past j h l = C.row j l ∙ top_past v A first matrix t live have raised marks K j h l

  -- the new row begins where the rows ended
  new_row : (live2 : List ℕ) → length live2 ≡ length live1 → (j : ℕ) → has_bit live2 (64 * (length live2 - matrix.width) + j) ≡ has_bit live2 (64 * length live + j)
  new_row live2 len j = ap (λ n. has_bit live2 (64 * n + j)) (omega (arith, len, C.len))

  -- picking a member of the base
  pub pick_again : (p : ℕ) (a : Mark) → mem (base v A) p ≡ true → a.raised ≡ length raised → a.row ≡ length live - matrix.width → a.cleared ≡ None → Kept v (A ++ Has p ∷ []) first matrix t live1 have raised (marks ++ a ∷ [])
  pick_again p a m noted stood none = quiet v A first matrix t live have raised marks K (Has p) live1 a (copy_moves matrix.width live raised live1 live1 a K.wide C refl (λ x h. refl) noted stood none)
      (λ j h. new_row live1 refl j ∙ copied_open j h ∙ sym (open_again v A p (get_or matrix.numbers.items j 0) m))
      (λ j h l. new_row live1 refl j ∙ copied_past j h l) (λ i. ap (λ xs. count v xs i) (base_again v A p m)) (λ i. most_pick v A p i) (λ i. least_pick v A p i)

  -- picking a number that is not in the base
  pub pick_new : (p : ℕ) (live2 live3 have2 rs : List ℕ) (a : Mark) → a.raised ≡ length raised → a.row ≡ length live - matrix.width → a.cleared ≡ None → mem (base v A) p ≡ false → Noted v.bounds (items v p) rs → length rs ≤ 17 → length have2 ≡ length have →
      ((b : ℕ) → b < length v.bounds → get_or have2 b 0 ≡ get_or have b 0 + times rs b) →
      length live2 ≡ length live1 → ((x : ℕ) → x < 64 * length live → has_bit live2 x ≡ has_bit live1 x) →
      ((j : ℕ) → j < 64 * matrix.width → has_bit live2 (64 * length live + j) ≡ (has_bit live1 (64 * length live + j) && not (list_any (λ b. leb (get_or t.limits.items b 0) (get_or have2 b 0) && has_bit matrix.rows.items (bit_index matrix.width b j)) rs))) →
      length live3 ≡ length live2 → ((x : ℕ) → x < 64 * length live → has_bit live3 x ≡ has_bit live2 x) →
      ((j : ℕ) → j < length matrix.numbers.items → has_bit live3 (64 * length live + j) ≡ (has_bit live2 (64 * length live + j) && not (is_own matrix.numbers.items p j))) →
      ((j : ℕ) → has_bit live2 (64 * length live + j) ≡ false → has_bit live3 (64 * length live + j) ≡ false) →
      Kept v (A ++ Has p ∷ []) first matrix t live3 have2 (raised ++ rs) (marks ++ a ∷ [])
  pick_new p live2 live3 have2 rs a mark_noted mark_stood mark_none m noted few len2 more len before closed len3 before3 own past3 =
      let top = top_have v A first matrix t live have raised marks K in
      let lims : (b : ℕ) → b < length v.bounds → get_or t.limits.items b 0 ≡ limit_at (item_of v b) (most_at v A (item_of v b)) =
      λ b h. K.table.limits b h ∙ ap (λ n. limit_at (item_of v b) n) (sym ((top_level v A first matrix t live have raised marks K).mosts (item_of v b))) in
      let counts : (b : ℕ) → b < length v.bounds → get_or have2 b 0 ≡ count v (base v A) (item_of v b) + times rs b = λ b h. more b h ∙ ap (λ n. n + times rs b) (top b h) in
      let bit : (j : ℕ) → j < length matrix.numbers.items → has_bit live3 (64 * length live + j) ≡ ((has_bit live1 (64 * length live + j) && not (list_any (λ b. leb (get_or t.limits.items b 0) (get_or have2 b 0) && has_bit matrix.rows.items (bit_index matrix.width b j)) rs)) && not (is_own matrix.numbers.items p j)) =
      λ j h. own j h ∙ ap (λ b. b && not (is_own matrix.numbers.items p j)) (closed j (omega (arith, K.table.matrix.wide))) in
      kept_step v A first matrix t live have raised marks K (Has p) live3 have2 rs a (record {
        moved = copy_moves matrix.width live raised live1 live3 a K.wide C (len3 ∙ len) (λ x h. before3 x h ∙ before x h) mark_noted mark_stood mark_none;
        have_len = len2;
        more = more;
        few = few;
        low = noted.low;
        row = record {
          opened = λ j h.
              let live_q = mem_in v.live _ (K.table.matrix.live _ (listed_at matrix.numbers.items j h)) in
              new_row live3 (len3 ∙ len) j ∙ bit j h ∙ (elim (cases_eq p (get_or matrix.numbers.items j 0)) [
                | inl e ↦ own_gone _ _ (eq-eqb p _ e) ∙ sym (pick_self v A p) ∙ ap (λ n. open_in v (A ++ Has p ∷ []) n) e
                | inr n ↦
                    own_spared _ _ (ne_eqb p _ n)
                    ∙ ap (λ b. b && not (list_any (λ b. leb (get_or t.limits.items b 0) (get_or have2 b 0) && has_bit matrix.rows.items (bit_index matrix.width b j)) rs)) (copied_open j h)
                    ∙ ap (λ b. open_in v A (get_or matrix.numbers.items j 0) && not b) (indices_say v A p (get_or matrix.numbers.items j 0) j matrix.width matrix.numbers.items matrix.rows.items t.limits.items have2 rs K.table.matrix.well live_q noted K.table.matrix.rows h refl lims counts)
                    ∙ sym (pick_open v A p (get_or matrix.numbers.items j 0) m (ne_eqb p _ n))
              ]);
          past = λ j h l. new_row live3 (len3 ∙ len) j ∙ past3 j (closed j l ∙ none_and _ _ (copied_past j h l));
        };
        counts = λ b h. counts b h ∙ omega (arith, noted.once b h, count_pick v A p (item_of v b) m);
        mosts = λ i. most_pick v A p i;
        leasts = λ i. least_pick v A p i;
      })

pub take_take : (m n : ℕ) (xs : List Atom) → m ≤ n → take m (take n xs) ≡ take m xs
take_take zero n xs h = refl
take_take (suc m) zero xs h = absurd (omega arith)
take_take (suc m) (suc n) [] h = refl
take_take (suc m) (suc n) (x ∷ xs) h = ap (λ ys. x ∷ ys) (take_take m n xs (omega arith))

-- undoing the last step, which noted m
module _ (v : View) (A : List Atom) (first : ℕ) (matrix : Matrix) (t : Table) (live have raised : List ℕ) (marks : List Mark) (K : Kept v A first matrix t live have raised marks) (n : ℕ) (h : n + 1 ≡ length marks) (m : Mark) (is : m ≡ get_or marks n (mark_else (length raised) (length live - matrix.width))) where
  front_len : length (take n marks) ≡ n
  front_len = length-take n marks ∙ omega arith

  parts : marks ≡ take n marks ++ m ∷ []
  parts = sym (take_all (n + 1) marks (omega arith)) ∙ take_more marks n (mark_else (length raised) (length live - matrix.width)) (omega arith) ∙ ap (λ (x : Mark). take n marks ++ x ∷ []) (sym is)

  read : (f : Mark → ℕ) (d : Mark) → f (get_or marks n d) ≡ f m
  read f d = ap (λ x. f x) (get_at marks n d (mark_else (length raised) (length live - matrix.width)) (omega arith) ∙ sym is)

  mark_says : mark_of marks raised n ≡ m.raised
  mark_says = read (λ x. x.raised) (mark_else (length raised) 0)

  row_says : row_of matrix.width live marks n ≡ m.row
  row_says = read (λ x. x.row) (mark_else 0 (length live - matrix.width))

  pub back_under : m.raised ≤ length raised
  back_under = omega (arith, mark_says, (K.levels n (omega arith)).begun)

  pub back_room : m.row + matrix.width ≤ length live
  back_room = elim (where_row v A first matrix t live have raised marks K n (omega arith)) [ inl e ↦ omega (arith, e, row_says, K.wide) | inr f ↦ omega (arith, f, row_says, K.wide) ]

  pub back_column : (j : ℕ) → m.cleared ≡ Some j → j < 64 * matrix.width
  back_column j e = K.columns n j (omega arith) (ap (λ (x : Mark). x.cleared) (get_at marks n (mark_else 0 0) (mark_else (length raised) (length live - matrix.width)) (omega arith) ∙ sym is) ∙ e)

  pub back_low : list_all (λ b. ltb b (length have)) (drop m.raised raised) ≡ true
  back_low = ap (λ k. list_all (λ b. ltb b k) (drop m.raised raised)) K.have_len ∙ (and_parts (list_all (λ b. ltb b (length v.bounds)) (take m.raised raised)) _ (sym (all_append (λ b. ltb b (length v.bounds)) (take m.raised raised) (drop m.raised raised)) ∙ ap (λ xs. list_all (λ b. ltb b (length v.bounds)) xs) (take-append-drop m.raised raised) ∙ K.indices)).1

  pub back_enough : (b : ℕ) → b < length have → times (drop m.raised raised) b ≤ get_or have b 0
  back_enough b l = omega (arith, (K.levels n (omega arith)).counted b (omega (arith, K.have_len)), ap (λ k. times (drop k raised) b) mark_says)

  pub kept_back : (live2 have2 : List ℕ) → length live2 ≡ m.row + matrix.width → ((x : ℕ) → x < 64 * m.row → has_bit live2 x ≡ has_bit live x) →
      ((j : ℕ) → j < 64 * matrix.width → has_bit live2 (64 * m.row + j) ≡ (has_bit live (64 * m.row + j) || clears m.cleared j)) →
      length have2 ≡ length have → ((b : ℕ) → b < length have → get_or have2 b 0 + times (drop m.raised raised) b ≡ get_or have b 0) →
      Kept v (take (first + n) A) first matrix t live2 have2 (take m.raised raised) (take n marks)
  kept_back live2 have2 size before set len less =
      let w = matrix.width in
      let given : take first (take (first + n) A) ≡ take first A = take_take first (first + n) A (omega arith) in
      let stood : m.row ≡ length live2 - w = omega (arith, size) in
      let raised_len : length (take m.raised raised) ≡ m.raised = length-take m.raised raised ∙ omega (arith, back_under) in
      let front_mark : (k : ℕ) → k ≤ n → mark_of (take n marks) (take m.raised raised) k ≡ mark_of marks raised k =
      λ k l. sym (ap (λ (ms : List Mark). mark_of ms raised k) parts ∙ mark_stays (take n marks) m (mark_else (length raised) 0) (mark_else (length (take m.raised raised)) 0) (λ x. x.raised) k (sym raised_len) (omega (arith, front_len))) in
      let front_row : (k : ℕ) → k ≤ n → row_of w live2 (take n marks) k ≡ row_of w live marks k =
      λ k l. sym (ap (λ (ms : List Mark). row_of w live ms k) parts ∙ row_kept w live2 live (take n marks) m k stood (omega (arith, front_len))) in
      let stands : (k : ℕ) → k ≤ n → (row_of w live2 (take n marks) k ≡ length live2 - w) ⊎ (row_of w live2 (take n marks) k + w ≤ length live2 - w) =
      λ k l. elim (K.apart k n l (omega arith)) [
        | inl e ↦ inl (front_row k l ∙ e ∙ row_says ∙ stood)
        | inr f ↦ inr (omega (arith, front_row k l, f, row_says, stood))
      ] in
      record {
        low = omega (arith, length-take (first + n) A, K.low, K.steps);
        table = subst (λ (B : List Atom). TableShows v B matrix t) (sym given) K.table;
        steps = omega (arith, front_len, length-take (first + n) A, K.steps);
        have_len = len ∙ K.have_len;
        wide = omega (arith, size);
        rows = λ k g. omega (arith, front_row k (omega (arith, g, front_len)), K.rows k (omega (arith, g, front_len)));
        apart = λ k l g i. elim (K.apart k l g (omega (arith, i, front_len))) [
          | inl e ↦ inl (front_row k (omega (arith, g, i, front_len)) ∙ e ∙ sym (front_row l (omega (arith, i, front_len))))
          | inr f ↦ inr (omega (arith, f, front_row k (omega (arith, g, i, front_len)), front_row l (omega (arith, i, front_len))))
        ];
        columns = λ k j g e. K.columns k j (omega (arith, g, front_len)) (sym (ap (λ (x : Mark). x.cleared) (get_or-take n marks k (mark_else 0 0) (omega (arith, g, front_len)))) ∙ e);
        indices = (and_parts _ (list_all (λ b. ltb b (length v.bounds)) (drop m.raised raised)) (sym (all_append (λ b. ltb b (length v.bounds)) (take m.raised raised) (drop m.raised raised)) ∙ ap (λ xs. list_all (λ b. ltb b (length v.bounds)) xs) (take-append-drop m.raised raised) ∙ K.indices)).0;
        up = λ k l g i. omega (arith, front_mark k (omega (arith, g, i, front_len)), front_mark l (omega (arith, i, front_len)), K.up k l g (omega (arith, i, front_len)));
        levels = λ k g.
            let l : k ≤ n = omega (arith, g, front_len) in
            let L = K.levels k (omega arith) in
            let mark = front_mark k l in
            let low : mark_of marks raised k ≤ m.raised = omega (arith, mark_says, K.up k n l (omega arith)) in
            let same : take (first + k) (take (first + n) A) ≡ take (first + k) A = take_take (first + k) (first + n) A (omega arith) in
            let inside : (j : ℕ) → j < 64 * w → level_bit w live2 (take n marks) k j ≡ level_bit w live marks k j = λ j i.
            sym (ap (λ (ms : List Mark). level_bit w live ms k j) parts ∙ level_stays w live2 live (take n marks) m k j stood (omega (arith, front_len)) i (stands k l)
            (λ x y. sym (before x (omega (arith, y, stood))))
            (ap (λ r. has_bit live (64 * r + j) || clears m.cleared j) (sym stood) ∙ sym (set j i) ∙ ap (λ r. has_bit live2 (64 * r + j)) stood)) in
            let split : drop (mark_of marks raised k) raised ≡ drop (mark_of marks raised k) (take m.raised raised) ++ drop m.raised raised = ap (λ xs. drop (mark_of marks raised k) xs) (sym (take-append-drop m.raised raised)) ∙ drop-append-le (mark_of marks raised k) (take m.raised raised) (drop m.raised raised) (omega (arith, low, raised_len)) in
            subst (λ (B : List Atom). LevelShows v B (take (first + k) (take (first + n) A)) matrix t live2 have2 (take m.raised raised) (take n marks) k) (sym given)
            (subst (λ (B : List Atom). LevelShows v (take first A) B matrix t live2 have2 (take m.raised raised) (take n marks) k) (sym same) (record {
              row = record {
                opened = λ j i. inside j (omega (arith, K.table.matrix.wide)) ∙ L.row.opened j i;
                past = λ j i y. inside j y ∙ L.row.past j i y;
              };
              counted = λ b i.
                  let d = ap (λ xs. times xs b) split ∙ tally_append (λ x. eqb x b) (drop (mark_of marks raised k) (take m.raised raised)) (drop m.raised raised) in
                  omega (arith, less b (omega (arith, K.have_len)), L.counted b i, d, ap (λ q. times (drop q (take m.raised raised)) b) mark);
              mosts = L.mosts;
              leasts = L.leasts;
              few = omega (arith, mark, L.few);
              begun = omega (arith, mark, low, raised_len);
            }));
      }

pub copied_from : (w n : ℕ) (live live1 : List ℕ) → n ≡ length live → length live1 ≡ n + w → ((x : ℕ) → x < 64 * n → has_bit live1 x ≡ has_bit live x) → ((j : ℕ) → j < 64 * w → has_bit live1 (64 * n + j) ≡ has_bit live (64 * (n - w) + j)) → Copied w live live1
copied_from w n live live1 e len before row = record {
  len = len ∙ ap (λ m. m + w) e;
  before = subst (λ (m : ℕ). (x : ℕ) → x < 64 * m → has_bit live1 x ≡ has_bit live x) e before;
  row = subst (λ (m : ℕ). (j : ℕ) → j < 64 * w → has_bit live1 (64 * m + j) ≡ has_bit live (64 * (m - w) + j)) e row;
}

-- the part of a list that was added
pub added : (xs ys all : List ℕ) (k : ℕ) → all ≡ xs ++ ys → k ≡ length xs → take (length all - k) (drop k all) ≡ ys
added xs ys all k e f = take_rest all k ∙ ap (λ n. drop n all) f ∙ ap (λ zs. drop (length xs) zs) e ∙ drop-append_seam xs ys

-- a number for which `stands` shows no column has none
pub not_listed : (ns stands : List ℕ) (p : ℕ) → StandsShow ns stands → ((j : ℕ) → j < length ns → p < length stands → get_or stands p 0 ≡ j → get_or ns j 0 ≡ p → ⊥) → mem ns p ≡ false
not_listed ns stands p s n = false_from_ne_true _ (λ m.
    let w = index_in ns p m in
    let h = s w.0 w.1 in
    n w.0 w.1 (subst (λ q. q < length stands) w.2 h.0) (ap (λ q. get_or stands q 0) (sym w.2) ∙ h.1) w.2)

-- the row at word `at` loses exactly the placements that have an item whose index is in `rs` and whose count has reached its
-- limit
abbrev pub Closes : Matrix → Table → List ℕ → List ℕ → ℕ → List ℕ → List ℕ → Type 0
Closes matrix t hs rs at live1 live2 = (j : ℕ) → j < 64 * matrix.width → has_bit live2 (64 * at + j) ≡ (has_bit live1 (64 * at + j) && not (list_any (λ b. leb (get_or t.limits.items b 0) (get_or hs b 0) && has_bit matrix.rows.items (bit_index matrix.width b j)) rs))

pub pick_made : (v : View) (A : List Atom) (first : ℕ) (matrix : Matrix) (t : Table) (live have raised : List ℕ) (marks : List Mark) (live1 : List ℕ) → Kept v A first matrix t live have raised marks → Copied matrix.width live live1 →
    (p at : ℕ) (mk : Mark) (T live2 live3 have2 hs raised2 : List ℕ) (marks2 : List Mark) (rs s1 s2 : List ℕ) → at ≡ length live → mk.raised ≡ length raised → mk.row ≡ length live - matrix.width → mk.cleared ≡ None → T ≡ base v A → mem T p ≡ false →
    raised2 ≡ raised ++ rs → Noted v.bounds (items v p) rs → length rs ≤ 17 → marks2 ≡ marks ++ mk ∷ [] → s1 ≡ rs → s2 ≡ rs → hs ≡ have2 → length have2 ≡ length have →
    ((b : ℕ) → b < length have → get_or have2 b 0 ≡ get_or have b 0 + times s1 b) →
    length live2 ≡ length live1 → ((x : ℕ) → x < 64 * at → has_bit live2 x ≡ has_bit live1 x) → Closes matrix t hs s2 at live1 live2 →
    length live3 ≡ length live2 → ((x : ℕ) → x < 64 * at → has_bit live3 x ≡ has_bit live2 x) →
    ((j : ℕ) → j < length matrix.numbers.items → has_bit live3 (64 * at + j) ≡ (has_bit live2 (64 * at + j) && not (is_own matrix.numbers.items p j))) →
    ((j : ℕ) → has_bit live2 (64 * at + j) ≡ false → has_bit live3 (64 * at + j) ≡ false) → Kept v (A ++ Has p ∷ []) first matrix t live3 have2 raised2 marks2
pick_made v A first matrix t live have raised marks live1 K C p at mk T live2 live3 have2 hs raised2 marks2 rs s1 s2 ea em ero en eT m er noted few emarks e1 e2 eh len2 more len before closed len3 before3 own past =
    kept_as v (A ++ Has p ∷ []) first matrix t live3 have2 (raised ++ rs) (marks ++ mk ∷ []) raised2 marks2 er emarks
    (pick_new v A first matrix t live have raised marks live1 K C p live2 live3 have2 rs mk em ero en (ap (λ xs. mem xs p) (sym eT) ∙ m) noted few len2
    (λ b h. more b (omega (arith, K.have_len)) ∙ ap (λ xs. get_or have b 0 + times xs b) e1)
    len (λ x h. before x (omega (arith, ea)))
    (subst (λ (n : ℕ). Closes matrix t have2 rs n live1 live2) ea (subst (λ (xs : List ℕ). Closes matrix t have2 xs at live1 live2) e2 (subst (λ (xs : List ℕ). Closes matrix t xs s2 at live1 live2) eh closed)))
    len3 (λ x h. before3 x (omega (arith, ea)))
    (subst (λ (n : ℕ). (j : ℕ) → j < length matrix.numbers.items → has_bit live3 (64 * n + j) ≡ (has_bit live2 (64 * n + j) && not (is_own matrix.numbers.items p j))) ea own)
    (subst (λ (n : ℕ). (j : ℕ) → has_bit live2 (64 * n + j) ≡ false → has_bit live3 (64 * n + j) ≡ false) ea past))

-- taking out bit i takes out number p alone, if i is the column of p
pub own_taken : (v : View) (A : List Atom) (first : ℕ) (matrix : Matrix) (t : Table) (live have raised : List ℕ) (marks : List Mark) → Kept v A first matrix t live have raised marks → (p i at : ℕ) (live2 live3 : List ℕ) → (i < length matrix.numbers.items) × (get_or matrix.numbers.items i 0 ≡ p) →
    ((x : ℕ) → has_bit live3 x ≡ (has_bit live2 x && not (eqb (64 * at + i) x))) → (j : ℕ) → j < length matrix.numbers.items → has_bit live3 (64 * at + j) ≡ (has_bit live2 (64 * at + j) && not (is_own matrix.numbers.items p j))
own_taken v A first matrix t live have raised marks K p i at live2 live3 w taken j h = taken (64 * at + j) ∙ ap (λ b. has_bit live2 (64 * at + j) && not b) (same_in_row at i j ∙ same_truth _ _
    (λ e. eq-eqb p _ (sym w.1 ∙ ap (λ n. get_or matrix.numbers.items n 0) (eqb-true i j e)))
    (λ e. eq-eqb i j (distinct_at matrix.numbers.items i j K.table.matrix.once w.0 h (w.1 ∙ eqb-true p _ e))))

pub own_none : (ns : List ℕ) (p at : ℕ) (live2 : List ℕ) → mem ns p ≡ false → (j : ℕ) → j < length ns → has_bit live2 (64 * at + j) ≡ (has_bit live2 (64 * at + j) && not (is_own ns p j))
own_none ns p at live2 m j h = sym (own_spared (has_bit live2 (64 * at + j)) (is_own ns p j) (ne_eqb p _ (λ e. both_ways (mem ns p) m (ap (λ n. mem ns n) e ∙ listed_at ns j h))))

pub taken_before : (live2 live3 : List ℕ) (at i : ℕ) → ((x : ℕ) → has_bit live3 x ≡ (has_bit live2 x && not (eqb (64 * at + i) x))) → (x : ℕ) → x < 64 * at → has_bit live3 x ≡ has_bit live2 x
taken_before live2 live3 at i taken x h = taken x ∙ own_spared (has_bit live2 x) (eqb (64 * at + i) x) (ne_eqb (64 * at + i) x (λ e. absurd (omega (arith, e))))

pub taken_past : (live2 live3 : List ℕ) (at i : ℕ) → ((x : ℕ) → has_bit live3 x ≡ (has_bit live2 x && not (eqb (64 * at + i) x))) → (j : ℕ) → has_bit live2 (64 * at + j) ≡ false → has_bit live3 (64 * at + j) ≡ false
taken_past live2 live3 at i taken j e = taken (64 * at + j) ∙ none_and _ _ e

-- `Kept` for the given atoms alone
pub kept_start : (v : View) (A : List Atom) (matrix : Matrix) (t : Table) (live have raised : List ℕ) (marks : List Mark) → TableShows v A matrix t → HaveShows v (base v A) have → length have ≡ length v.bounds → length live ≡ matrix.width → raised ≡ [] → marks ≡ [] →
    RowOf (λ p. open_in v A p) matrix live → Kept v A (length A) matrix t live have raised marks
kept_start v A matrix t live have raised marks T H len wide er em R =
    subst (λ (xs : List ℕ). Kept v A (length A) matrix t live have xs marks) (sym er) (subst (λ (xs : List Mark). Kept v A (length A) matrix t live have [] xs) (sym em) (record {
      low = omega arith;
      table = subst (λ (B : List Atom). TableShows v B matrix t) (sym whole) T;
      steps = omega arith;
      have_len = len;
      wide = omega (arith, wide);
      rows = λ k h. omega (arith, first_row k h, wide);
      apart = λ k l h g. inl (first_row k (omega arith) ∙ sym (first_row l g));
      columns = λ k j h e. absurd (omega arith);
      indices = refl;
      up = λ k l h g. omega arith;
      levels = λ k h.
          let zero_k : k ≡ 0 = omega arith in
          let all : take (length A + k) A ≡ A = take_all (length A + k) A (omega arith) in
          let at : (j : ℕ) → level_bit matrix.width live [] k j ≡ has_bit live j = λ j. ap (λ n. level_bit matrix.width live [] n j) zero_k ∙ top_bit matrix.width live [] j ∙ ap (λ n. has_bit live n) (begins j) in
          subst (λ (B : List Atom). LevelShows v B (take (length A + k) A) matrix t live have [] [] k) (sym whole) (subst (λ (B : List Atom). LevelShows v A B matrix t live have [] [] k) (sym all) (record {
            row = record {
              opened = λ j l. at j ∙ R.inside j l;
              past = λ j l g. at j ∙ R.past j l g;
            };
            counted = λ b l. H b l ∙ omega arith;
            mosts = λ i. refl;
            leasts = λ i. refl;
            few = omega arith;
            begun = omega arith;
          }));
    }))
  where
    whole : take (length A) A ≡ A
    whole = take_all (length A) A (omega arith)

    begins : (j : ℕ) → 64 * (length live - matrix.width) + j ≡ j
    begins j = omega (arith, wide)

    first_row : (k : ℕ) → k ≤ 0 → row_of matrix.width live [] k ≡ length live - matrix.width
    first_row k h = let none : k ≡ 0 = omega arith in ap (λ n. row_of matrix.width live [] n) none ∙ row_top matrix.width live []
