-- What a base reads from the log stays the same as the log grows, and as it drops guards that nothing reads.
use Rattle.std.proofs.Common.{List, [], ap, append_assoc, arith, drop, get_or, length, refl, subst, suc, sym, take, zero, ℕ, ◌++◌, ◌+◌, ◌<◌, ◌∙◌, ◌∷◌, ◌≡◌, ◌≤◌}
use Rattle.std.proofs.lemmas.List.{append-nil, drop_more, length-append, length_push, length-take-le, take-append-le, take-take, take_more}
use Rattle.std.proofs.lemmas.List.Elements.{filter-append}
use Rattle.std.specs.List.{All, filter}
use Rattle.poly_atom.specs.declared.atom.Atom.{Atom}
use Rattle.poly_atom.specs.Logs.{flat, forgotten}
use Rattle.poly_atom.proofs.Forgets.{drop-forgotten, is_stair-forgotten, length-forgotten, stair_of-forgotten}
use Rattle.poly_atom.proofs.Offsets.{flat_push}
use Rattle.poly_atom.proofs.Walks.{is_stair_stays, stair_stays}
use Rattle.poly_lists.specs.Words.{is_other}
use Rattle.poly_tasks.specs.declared.base.Base.{Base}
use Rattle.poly_tasks.specs.declared.excerpt.Excerpt.{Excerpt}
use Rattle.poly_tasks.specs.declared.excerpt.Excerpt.TheVariants.{Guards, Stair as StairExcerpt}
use Rattle.poly_tasks.specs.Meaning.{AreExcerpts, IsBase, IsExcerpt, base_of, edition_of, excerpt_of, excerpts_of}
use Rattle.poly_tasks.specs.Needed.{AreExcerptsFrom}

pub flat_none : (n : ℕ) (log : List (List Atom)) → length log ≤ n → flat (drop n log) ≡ []
flat_none zero [] h = refl
flat_none zero (g ∷ gs) h = absurd (omega (arith, h))
flat_none (suc n) [] h = refl
flat_none (suc n) (g ∷ gs) h = flat_none n gs (omega (arith, h))

-- one more change puts its guards after those that the log has from an index on
pub since_push : (n : ℕ) (log : List (List Atom)) (g : List Atom) → n ≤ length log → flat (drop n (log ++ g ∷ [])) ≡ flat (drop n log) ++ g
since_push zero log g h = flat_push log g
since_push (suc n) [] g h = absurd (omega (arith, h))
since_push (suc n) (x ∷ log) g h = since_push n log g (omega (arith, h))

-- what holds of each element holds of the first one, and of each of the others
pub all_head : {X : Type 0} (P : X → Type 0) (x : X) (xs : List X) → All P (x ∷ xs) → P x
all_head P x xs h = h 0 x (omega (arith))

pub all_tail : {X : Type 0} (P : X → Type 0) (x : X) (xs : List X) → All P (x ∷ xs) → All P xs
all_tail P x xs h = λ k d l. h (suc k) d (omega (arith, l))

excerpts_append : (log : List (List Atom)) (xs ys : List Excerpt) → excerpts_of log (xs ++ ys) ≡ excerpts_of log xs ++ excerpts_of log ys
excerpts_append log [] ys = refl
excerpts_append log (x ∷ xs) ys = ap (λ A. excerpt_of log x ++ A) (excerpts_append log xs ys) ∙ sym (append_assoc (excerpt_of log x) (excerpts_of log xs) (excerpts_of log ys))

-- the excerpts and one more
pub excerpts_and : (log : List (List Atom)) (xs : List Excerpt) (x : Excerpt) → excerpts_of log (xs ++ x ∷ []) ≡ excerpts_of log xs ++ excerpt_of log x
excerpts_and log xs x = excerpts_append log xs (x ∷ []) ∙ ap (λ A. excerpts_of log xs ++ A) (append-nil (excerpt_of log x))

-- the excerpts so far and the next one
pub excerpts_more : (log : List (List Atom)) (xs : List Excerpt) (i : ℕ) (d : Excerpt) → i < length xs → excerpts_of log (take (i + 1) xs) ≡ excerpts_of log (take i xs) ++ excerpt_of log (get_or xs i d)
excerpts_more log xs i d l = ap (λ ys. excerpts_of log ys) (take_more xs i d l) ∙ excerpts_and log (take i xs) (get_or xs i d)

pub excerpt_at : (log : List (List Atom)) (xs : List Excerpt) (i : ℕ) (d : Excerpt) → AreExcerpts log xs → i < length xs → IsExcerpt log (get_or xs i d)
excerpt_at log [] i d h l = absurd (omega (arith, l))
excerpt_at log (x ∷ xs) zero d h l = h.0
excerpt_at log (x ∷ xs) (suc i) d h l = excerpt_at log xs i d h.1 (omega (arith, l))

are_and : (log : List (List Atom)) (xs : List Excerpt) (x : Excerpt) → AreExcerpts log xs → IsExcerpt log x → AreExcerpts log (xs ++ x ∷ [])
are_and log [] x h k = (k, tt)
are_and log (y ∷ xs) x h k = (h.0, are_and log xs x h.1 k)

-- a base whose atoms are all stored as a list
pub base_listed : (log : List (List Atom)) (b c : Base) (A : List Atom) → c.lists ≡ A ∷ [] → c.index ≡ 0 → c.excerpts.items ≡ [] → A ≡ base_of log b → base_of log c ≡ base_of log b
base_listed log b c A lists index none is = (λ i. get_or (lists i) (index i) [] ++ excerpts_of log (none i)) ∙ append-nil A ∙ is

pub base_listed_is : (log : List (List Atom)) (b c : Base) (A : List Atom) → c.lists ≡ A ∷ [] → c.index ≡ 0 → c.excerpts.items ≡ [] → A ≡ base_of log b → c.others.items ≡ b.others.items → IsBase log b → IsBase log c
base_listed_is log b c A lists index none is others h = record {
  index = omega (arith, index, ap length lists);
  excerpts = subst (λ xs. AreExcerpts log xs) (sym none) tt;
  others = others ∙ h.others ∙ ap (filter is_other) (sym (base_listed log b c A lists index none is));
}

-- a base with one more excerpt
pub base_and : (log : List (List Atom)) (b c : Base) (x : Excerpt) → c.lists ≡ b.lists → c.index ≡ b.index → c.excerpts.items ≡ b.excerpts.items ++ x ∷ [] → base_of log c ≡ base_of log b ++ excerpt_of log x
base_and log b c x lists index excerpts =
    let A = get_or b.lists b.index [] in
    let first : get_or c.lists c.index [] ≡ A = (λ i. get_or (lists i) (index i) []) in
    let rest : excerpts_of log c.excerpts.items ≡ excerpts_of log b.excerpts.items ++ excerpt_of log x = ap (λ xs. excerpts_of log xs) excerpts ∙ excerpts_and log b.excerpts.items x in
    (λ i. first i ++ rest i) ∙ sym (append_assoc A (excerpts_of log b.excerpts.items) (excerpt_of log x))

pub is_base_and : (log : List (List Atom)) (b c : Base) (x : Excerpt) → c.lists ≡ b.lists → c.index ≡ b.index → c.excerpts.items ≡ b.excerpts.items ++ x ∷ [] → c.others.items ≡ b.others.items ++ filter is_other (excerpt_of log x) →
    IsBase log b → IsExcerpt log x → IsBase log c
is_base_and log b c x lists index excerpts others h k = record {
  index = subst (λ v. c.index < length v) (sym lists) (subst (λ i. i < length b.lists) (sym index) h.index);
  excerpts = subst (λ xs. AreExcerpts log xs) (sym excerpts) (are_and log b.excerpts.items x h.excerpts k);
  others =
      others ∙ ap (λ A. A ++ filter is_other (excerpt_of log x)) h.others ∙ sym (filter-append is_other (base_of log b) (excerpt_of log x))
      ∙ ap (filter is_other) (sym (base_and log b c x lists index excerpts));
}

excerpt_push : (log : List (List Atom)) (g : List Atom) (x : Excerpt) → IsExcerpt log x → excerpt_of (log ++ g ∷ []) x ≡ excerpt_of log x
excerpt_push log g (Guards e n) h = ap (λ A. take n A) (since_push e log g h.0) ∙ take-append-le n (flat (drop e log)) g h.1
excerpt_push log g (StairExcerpt s) h = stair_stays log g s h.edition_in

is_excerpt_push : (log : List (List Atom)) (g : List Atom) (x : Excerpt) → IsExcerpt log x → IsExcerpt (log ++ g ∷ []) x
is_excerpt_push log g (Guards e n) h = (omega (arith, h.0, length_push log g), omega (arith, h.1, ap length (since_push e log g h.0), length-append (flat (drop e log)) g))
is_excerpt_push log g (StairExcerpt s) h = is_stair_stays log g s h

excerpts_push : (log : List (List Atom)) (g : List Atom) (xs : List Excerpt) → AreExcerpts log xs → excerpts_of (log ++ g ∷ []) xs ≡ excerpts_of log xs
excerpts_push log g [] h = refl
excerpts_push log g (x ∷ xs) h = let a = excerpt_push log g x h.0 in let b = excerpts_push log g xs h.1 in λ i. a i ++ b i

are_push : (log : List (List Atom)) (g : List Atom) (xs : List Excerpt) → AreExcerpts log xs → AreExcerpts (log ++ g ∷ []) xs
are_push log g [] h = tt
are_push log g (x ∷ xs) h = (is_excerpt_push log g x h.0, are_push log g xs h.1)

-- with one more change in the log, a base reads the same
pub base_push : (log : List (List Atom)) (g : List Atom) (b : Base) → IsBase log b → base_of (log ++ g ∷ []) b ≡ base_of log b
base_push log g b h = ap (λ A. get_or b.lists b.index [] ++ A) (excerpts_push log g b.excerpts.items h.excerpts)

pub is_base_push : (log : List (List Atom)) (g : List Atom) (b : Base) → IsBase log b → IsBase (log ++ g ∷ []) b
is_base_push log g b h = record {
  index = h.index;
  excerpts = are_push log g b.excerpts.items h.excerpts;
  others = h.others ∙ ap (filter is_other) (sym (base_push log g b h));
}

excerpt_same : (e : ℕ) (log : List (List Atom)) (x : Excerpt) → e ≤ edition_of x → excerpt_of (forgotten e log) x ≡ excerpt_of log x
excerpt_same e log (Guards m n) h = ap (λ L. take n (flat L)) (drop-forgotten e m log h)
excerpt_same e log (StairExcerpt s) h = stair_of-forgotten e s log h

is_excerpt_still : (e : ℕ) (log : List (List Atom)) (x : Excerpt) → e ≤ edition_of x → IsExcerpt log x → IsExcerpt (forgotten e log) x
is_excerpt_still e log (Guards m n) h k = (omega (arith, k.0, length-forgotten e log), omega (arith, k.1, ap (λ L. length (flat L)) (drop-forgotten e m log h)))
is_excerpt_still e log (StairExcerpt s) h k = is_stair-forgotten e s log h k

excerpts_same : (e : ℕ) (log : List (List Atom)) (xs : List Excerpt) → AreExcerptsFrom e xs → excerpts_of (forgotten e log) xs ≡ excerpts_of log xs
excerpts_same e log [] h = refl
excerpts_same e log (x ∷ xs) h =
    let a = excerpt_same e log x (all_head (λ y. e ≤ edition_of y) x xs h) in
    let b = excerpts_same e log xs (all_tail (λ y. e ≤ edition_of y) x xs h) in
    λ i. a i ++ b i

are_still : (e : ℕ) (log : List (List Atom)) (xs : List Excerpt) → AreExcerptsFrom e xs → AreExcerpts log xs → AreExcerpts (forgotten e log) xs
are_still e log [] h k = tt
are_still e log (x ∷ xs) h k = (is_excerpt_still e log x (all_head (λ y. e ≤ edition_of y) x xs h) k.0, are_still e log xs (all_tail (λ y. e ≤ edition_of y) x xs h) k.1)

-- without guards that it isn't read from, a base reads the same
pub base_same : (e : ℕ) (log : List (List Atom)) (b : Base) → AreExcerptsFrom e b.excerpts.items → base_of (forgotten e log) b ≡ base_of log b
base_same e log b h = ap (λ A. get_or b.lists b.index [] ++ A) (excerpts_same e log b.excerpts.items h)

pub is_base_still : (e : ℕ) (log : List (List Atom)) (b : Base) → AreExcerptsFrom e b.excerpts.items → IsBase log b → IsBase (forgotten e log) b
is_base_still e log b h k = record {
  index = k.index;
  excerpts = are_still e log b.excerpts.items h k.excerpts;
  others = k.others ∙ ap (filter is_other) (sym (base_same e log b h));
}

-- if a list ends with the excerpts after the first k + 1, and the part before them with the excerpt at k, it ends with those after the first k
pub match_step : (log : List (List Atom)) (A : List Atom) (xs : List Excerpt) (k end before : ℕ) (d : Excerpt) → k < length xs → end ≤ length A → before ≤ length (take end A) →
    take before (take end A) ++ excerpt_of log (get_or xs k d) ≡ take end A → take end A ++ excerpts_of log (drop (k + 1) xs) ≡ A → take before A ++ excerpts_of log (drop k xs) ≡ A
match_step log A xs k end before d l low h one so =
    let rest = excerpts_of log (drop (k + 1) xs) in
    let cut : take before (take end A) ≡ take before A = take-take before end A (omega (arith, h, length-take-le end A low)) in
    ap (λ ys. take before A ++ excerpts_of log ys) (drop_more xs k d l)
    ∙ sym (append_assoc (take before A) (excerpt_of log (get_or xs k d)) rest)
    ∙ ap (λ B. B ++ rest) (ap (λ B. B ++ excerpt_of log (get_or xs k d)) (sym cut) ∙ one) ∙ so
