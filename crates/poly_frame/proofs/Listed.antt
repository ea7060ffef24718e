-- How the columns of a smaller matrix are listed: those whose bit is set in a row.
use Rattle.std.proofs.Common.{Bool, List, Option, [], ap, arith, false, get_or, inl, inr, length, length-append, not, refl, sym, subst, take, true, eqb, ℕ, ◌%◌, ◌&&◌, ◌++◌, ◌*◌, ◌+◌, ◌-◌, ◌<◌, ◌∙◌, ◌∷◌, ◌≡◌, ◌≤◌}
use Rattle.std.specs.Int.{bit_at}
use Rattle.std.specs.List.{filter}
use Rattle.std.proofs.Math.Seq.{get_or-append_seam}
use Rattle.std.proofs.lemmas.List.{get_or_append_left, take_all}
use Rattle.std.proofs.lemmas.Bool.{and_parts, cases_eq, cases_lt, eq-eqb, ne_eqb, true≢false}
use Rattle.std.specs.declared.sync.Arc.{Arc}
use Rattle.std.specs.Global.{Global}
use Rattle.poly_tiling.specs.Lists.{distinct, mem}
use Rattle.poly_tiling.specs.Puzzle.{View}
use Rattle.poly_frame.specs.declared.frame.matrix.Lists.{Lists}
use Rattle.poly_frame.specs.Bits.{FirstIn, NoneIn, has_bit}
use Rattle.poly_frame.specs.Matrices.{HomesShow, ListedTo, StandsShow}
use Rattle.poly_frame.proofs.FrameQueries.{filter_gap, filter_rest, filter_yes}
use Rattle.poly_frame.proofs.FrameSteps.{listed_at, none_and, own_gone, own_spared}
use Rattle.poly_frame.proofs.FrameTable.{filter_len}
use Rattle.poly_frame.proofs.Matrices.{each_more, homes_some, stand_of}
use Rattle.poly_frame.proofs.Walks.{distinct_filter, mem_filter}
use Rattle.poly_frame.proofs.Words.{in_word}

-- bit t of word k says whether the row has number `64 * k + t`
pub bit_word : (row : List ℕ) (k w t : ℕ) → w ≡ get_or row k 0 → t < 64 → has_bit row (64 * k + t) ≡ eqb (bit_at w t) 1
bit_word row k w t e h =
    in_word row k t ∙ ap (λ n. eqb (bit_at (get_or row n 0) (t % 64)) 1) (omega arith) ∙ ap (λ n. eqb (bit_at (get_or row k 0) n) 1) (omega arith) ∙ ap (λ x. eqb (bit_at x t) 1) (sym e)

filter_on : (f : ℕ → Bool) (ns : List ℕ) (low high : ℕ) → low ≤ high → ((x : ℕ) → low ≤ x → x < high → x < length ns → f (get_or ns x 0) ≡ false) → filter f (take high ns) ≡ filter f (take low ns)
filter_on f ns low high h none = elim (cases_lt (length ns) high) [
  | inl past ↦
      ap (λ xs. filter f xs) (take_all high ns (omega (arith, past)))
      ∙ (elim (cases_lt low (length ns)) [
        | inl l ↦ sym (filter_rest f ns low (omega (arith, l)) (λ x a b. none x a (omega (arith, past, b)) b))
        | inr g ↦ ap (λ xs. filter f xs) (sym (take_all low ns (omega (arith, g))))
      ])
  | inr fits ↦ filter_gap f ns low high h (omega (arith, fits)) (λ x a b. none x a b (omega (arith, fits, b)))
]

module _ (ns homes row chosen theirs : List ℕ) where
  -- columns without a bit are passed over
  pub listed_on : (low high : ℕ) → ListedTo ns homes row chosen theirs low → low ≤ high → ((x : ℕ) → low ≤ x → x < high → x < length ns → has_bit row x ≡ false) → ListedTo ns homes row chosen theirs high
  listed_on low high L h none = record {
    fewer = omega (arith, L.fewer);
    numbers = λ f says. L.numbers f says ∙ sym (filter_on f ns low high h (λ x a b c. says x c ∙ none x a b c));
    len = L.len;
    each = L.each;
  }

  -- a column with a bit is listed
  pub listed_more : (chosen2 theirs2 : List ℕ) (j : ℕ) → ListedTo ns homes row chosen theirs j → j < length ns → has_bit row j ≡ true → chosen2 ≡ chosen ++ get_or ns j 0 ∷ [] → theirs2 ≡ theirs ++ get_or homes j 0 ∷ [] → ListedTo ns homes row chosen2 theirs2 (j + 1)
  listed_more chosen2 theirs2 j L h set e g =
      let p = get_or ns j 0 in
      let count : length chosen2 ≡ length chosen + 1 = ap length e ∙ length-append chosen (p ∷ []) in
      record {
        fewer = omega (arith, count, L.fewer);
        numbers = λ f says. e ∙ ap (λ xs. xs ++ p ∷ []) (L.numbers f says) ∙ sym (filter_yes f ns j h (says j h ∙ set));
        len = omega (arith, count, ap length g, length-append theirs (get_or homes j 0 ∷ []), L.len);
        each = λ stands S i l.
            let f = λ (i : ℕ). get_or homes (get_or stands (get_or chosen2 i 0) 0) 0 in
            let before : (i : ℕ) → i < length chosen → get_or theirs i 0 ≡ f i =
            λ i b. L.each stands S i b ∙ ap (λ n. get_or homes (get_or stands n 0) 0) (sym (ap (λ xs. get_or xs i 0) e ∙ get_or_append_left chosen (p ∷ []) 0 i b)) in
            let last : get_or chosen2 (length chosen) 0 ≡ p = ap (λ xs. get_or xs (length chosen) 0) e ∙ get_or-append_seam chosen p [] 0 in
            let here : get_or homes j 0 ≡ f (length chosen) = ap (λ n. get_or homes n 0) (sym (ap (λ n. get_or stands n 0) last ∙ (S j h).1)) in
            each_more theirs theirs2 (get_or homes j 0) f (length chosen) L.len g before here i (omega (arith, l, count));
      }

pub listed_none : (ns homes row chosen theirs : List ℕ) → chosen ≡ [] → theirs ≡ [] → ListedTo ns homes row chosen theirs 0
listed_none ns homes row chosen theirs e g = record {
  fewer = omega (arith, ap length e);
  numbers = λ f says. e ∙ ap (λ xs. filter f xs) (sym (take_none ns));
  len = ap length g ∙ sym (ap length e);
  each = λ stands S i l. absurd (omega (arith, l, ap length e));
}
  where
    take_none : (xs : List ℕ) → take 0 xs ≡ []
    take_none [] = refl
    take_none (x ∷ xs) = refl

-- the columns of the words before word k, and those of word k below `low`, are listed; `rest` has the bits that are left
pub record RestOf (ns homes row chosen theirs : List ℕ) (k rest : ℕ) : Type 0 where
  pub low : ℕ
  pub most : low ≤ 64
  pub listed : ListedTo ns homes row chosen theirs (64 * k + low)
  pub above : (t : ℕ) → low ≤ t → t < 64 → eqb (bit_at rest t) 1 ≡ has_bit row (64 * k + t)
  pub below : (t : ℕ) → t < low → eqb (bit_at rest t) 1 ≡ false

module _ (ns homes row chosen theirs : List ℕ) (k rest : ℕ) where
  pub rest_start : rest ≡ get_or row k 0 → ListedTo ns homes row chosen theirs (64 * k) → RestOf ns homes row chosen theirs k rest
  rest_start e L = record {
    low = 0;
    most = omega arith;
    listed = subst (λ (n : ℕ). ListedTo ns homes row chosen theirs n) (omega arith) L;
    above = λ t a b. sym (bit_word row k rest t e b);
    below = λ t h. absurd (omega (arith, h));
  }

  module _ (R : RestOf ns homes row chosen theirs k rest) where
    none_at : (high : ℕ) → high ≤ 64 → NoneIn (λ t. eqb (bit_at rest t) 1) 0 high → (x : ℕ) → 64 * k + R.low ≤ x → x < 64 * k + high → has_bit row x ≡ false
    none_at high h none x a b =
        ap (λ n. has_bit row n) (omega (arith, a)) ∙ sym (R.above (x - 64 * k) (omega (arith, a)) (omega (arith, a, b, h))) ∙ none (x - 64 * k) (omega arith) (omega (arith, a, b))

    pub rest_none : NoneIn (λ t. eqb (bit_at rest t) 1) 0 64 → ListedTo ns homes row chosen theirs (64 * (k + 1))
    rest_none none = listed_on ns homes row chosen theirs (64 * k + R.low) (64 * (k + 1)) R.listed (omega (arith, R.most)) (λ x a b l. none_at 64 (omega arith) none x a (omega (arith, b)))

    pub rest_past : (t : ℕ) → FirstIn (λ t. eqb (bit_at rest t) 1) 0 64 t → length ns ≤ 64 * k + t → ListedTo ns homes row chosen theirs (64 * (k + 1))
    rest_past t F h = listed_on ns homes row chosen theirs (64 * k + R.low) (64 * (k + 1)) R.listed (omega (arith, R.most)) (λ x a b l. none_at t (omega (arith, F.most)) F.before x a (omega (arith, l, h)))

    past_low : (t : ℕ) → FirstIn (λ t. eqb (bit_at rest t) 1) 0 64 t → R.low ≤ t
    past_low t F = elim (cases_lt t R.low) [
      | inl l ↦ absurd (true≢false (sym F.is ∙ R.below t l))
      | inr l ↦ omega (arith, l)
    ]

    pub rest_room : (t : ℕ) → FirstIn (λ t. eqb (bit_at rest t) 1) 0 64 t → length chosen ≤ 64 * k + t
    rest_room t F = omega (arith, R.listed.fewer, past_low t F)

    pub rest_more : (chosen2 theirs2 : List ℕ) (rest2 t : ℕ) → FirstIn (λ t. eqb (bit_at rest t) 1) 0 64 t → 64 * k + t < length ns → chosen2 ≡ chosen ++ get_or ns (64 * k + t) 0 ∷ [] → theirs2 ≡ theirs ++ get_or homes (64 * k + t) 0 ∷ [] →
        ((u : ℕ) → u < 64 → eqb (bit_at rest2 u) 1 ≡ (eqb (bit_at rest u) 1 && not (eqb t u))) → RestOf ns homes row chosen2 theirs2 k rest2
    rest_more chosen2 theirs2 rest2 t F h e g bits =
        let past = past_low t F in
        let on = listed_on ns homes row chosen theirs (64 * k + R.low) (64 * k + t) R.listed (omega (arith, past)) (λ x a b l. none_at t (omega (arith, F.most)) F.before x a b) in
        record {
          low = t + 1;
          most = omega (arith, F.most);
          listed = subst (λ (n : ℕ). ListedTo ns homes row chosen2 theirs2 n) (omega arith) (listed_more ns homes row chosen theirs chosen2 theirs2 (64 * k + t) on h (sym (R.above t past F.most) ∙ F.is) e g);
          above = λ u a b. bits u b ∙ own_spared _ (eqb t u) (ne_eqb t u (λ s. absurd (omega (arith, s, a)))) ∙ R.above u (omega (arith, past, a)) b;
          below = λ u b. elim (cases_eq t u) [
            | inl s ↦ bits u (omega (arith, b, F.most)) ∙ own_gone _ (eqb t u) (eq-eqb t u s)
            | inr d ↦ bits u (omega (arith, b, F.most)) ∙ none_and _ (not (eqb t u)) (F.before u (omega arith) (omega (arith, b, d)))
          ];
        }

-- the number of a column whose bit is set
abbrev pub by_stands : List ℕ → List ℕ → ℕ → Bool
by_stands stands row p = has_bit row (get_or stands p 0)

-- the columns of a matrix whose bits are set
module _ (ns homes row chosen theirs ns2 homes2 : List ℕ) (k : ℕ) (e : ns2 ≡ ns) (g : homes2 ≡ homes) (L : ListedTo ns2 homes2 row chosen theirs k) (wide : length ns ≤ k) where
  pub all_listed : ListedTo ns homes row chosen theirs k
  all_listed = subst (λ (xs : List ℕ). ListedTo xs homes row chosen theirs k) e (subst (λ (xs : List ℕ). ListedTo ns2 xs row chosen theirs k) g L)

  pub chosen_is : (f : ℕ → Bool) → ((j : ℕ) → j < length ns → f (get_or ns j 0) ≡ has_bit row j) → chosen ≡ filter f ns
  chosen_is f says = all_listed.numbers f says ∙ ap (λ xs. filter f xs) (take_all k ns wide)

  module _ (stands : List ℕ) (S : StandsShow ns stands) where
    pub chosen_by : chosen ≡ filter (by_stands stands row) ns
    chosen_by = chosen_is (by_stands stands row) (λ j h. ap (λ n. has_bit row n) (S j h).1)

    pub chosen_among : (p : ℕ) → mem chosen p ≡ true → mem ns p ≡ true
    chosen_among p m = (and_parts (mem ns p) (by_stands stands row p) (sym (mem_filter (by_stands stands row) ns p) ∙ ap (λ xs. mem xs p) (sym chosen_by) ∙ m)).0

    pub chosen_once : distinct ns ≡ true → distinct chosen ≡ true
    chosen_once d = ap distinct chosen_by ∙ distinct_filter (by_stands stands row) ns d

    pub chosen_fewer : length chosen ≤ length ns
    chosen_fewer = omega (arith, ap length chosen_by, filter_len (by_stands stands row) ns)

    pub chosen_below : (j : ℕ) → j < length chosen → get_or chosen j 0 < length stands
    chosen_below j h = (stand_of ns stands (get_or chosen j 0) S (chosen_among (get_or chosen j 0) (listed_at chosen j h))).0

    pub chosen_homes : (v : View) (lists : Option (Arc Lists Global)) → HomesShow v ns homes lists → HomesShow v chosen theirs lists
    chosen_homes v lists H = homes_some v ns stands homes S chosen theirs all_listed.len chosen_among (λ i l. all_listed.each stands S i l) lists H
