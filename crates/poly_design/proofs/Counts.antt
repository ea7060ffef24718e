-- How many members a set has after some of them were replaced.
use Rattle.std.proofs.Common.{◌≡◌, ◌∙◌, ℕ, zero, suc, ◌+◌, ◌≤◌, ◌⊎◌, ◌↔◌, inl, inr, List, [], ◌∷◌, length, get_or, refl, sym, ap, subst, arith}
use Rattle.std.specs.declared.cmp.Ordering.{Ordering}
use Rattle.std.specs.declared.cmp.Ordering.TheVariants.{Less, Equal, Greater}
use Rattle.std.specs.Ordering.{match_ordering, ordering_reverse}
use Rattle.std.specs.Cmp.{IsTotalOrder, tied_itself}
use Rattle.std.specs.List.{All, Contains, remove}
use Rattle.std.specs.BTreeSet.{insert_key}
use Rattle.std.proofs.lemmas.List.{get_or_default}
use Rattle.std.proofs.lemmas.List.Edits.{length-remove}
use Rattle.std.proofs.lemmas.List.Kept.{AllPairs-cons}
use Rattle.std.proofs.lemmas.List.Quantifiers.{all_pairs_remove}
use Rattle.std.proofs.lemmas.Map.Views.{All-insert_key}
use Rattle.poly_shape.specs.Order.{IsAscending}
use Rattle.poly_shape.proofs.Ascending.{length-part, not_below_itself}
use Rattle.poly_design.specs.Listed.{HasAt, IsCount, IsListOf}
use Rattle.poly_design.proofs.Sets.{first, first_or_later, lacks_nil, later, takes_remove}

-- `rest` has the members of `whole` that are not in `parts`; the lengths add up because `parts` has only members of `whole`
record IsRest {X : Type 0} (R : X → X → Ordering) (parts whole rest : List X) : Type 0 where
  pub ascending : IsAscending R rest
  pub exact : (x : X) → Contains rest x ↔ (Contains whole x × (Contains parts x → ⊥))
  pub long : length rest + length parts ≡ length whole

-- `union` has the members of both lists; the lengths add up because no member is in both
record IsUnion {X : Type 0} (R : X → X → Ordering) (parts others union : List X) : Type 0 where
  pub ascending : IsAscending R union
  pub exact : (x : X) → Contains union x ↔ (Contains others x ⊎ Contains parts x)
  pub long : length union ≡ length others + length parts

module _ {X : Type 0} {R : X → X → Ordering} (o : IsTotalOrder R) where
  tail_up : (x : X) (xs : List X) → IsAscending R (x ∷ xs) → IsAscending R xs
  tail_up x xs up i j d lt le = up (suc i) (suc j) d (omega arith) (omega arith)

  above_all : (x : X) (xs : List X) → IsAscending R (x ∷ xs) → All (λ y. R x y ≡ Less) xs
  above_all x xs up k d lt = up zero (suc k) d (omega arith) (omega arith)

  head_apart : (x : X) (xs : List X) → IsAscending R (x ∷ xs) → Contains xs x → ⊥
  head_apart x xs up (k, lt, e) = not_below_itself o x (subst (λ y. R x y ≡ Less) e (above_all x xs up k x lt))

  put_up : (xs : List X) (x : X) → IsAscending R xs → IsAscending R (insert_key R xs x)
  put_up [] x up = λ i j d lt le. absurd (omega arith)
  put_up (y ∷ ys) x up = (elim (R x y) as (λ r. R x y ≡ r → IsAscending R (match_ordering r (x ∷ y ∷ ys) (y ∷ ys) (y ∷ insert_key R ys x))) [
    | Less ↦ λ is. AllPairs-cons (λ a b. R a b ≡ Less) x (y ∷ ys) (below_all is) up
    | Equal ↦ λ is. up
    | Greater ↦ λ is. AllPairs-cons (λ a b. R a b ≡ Less) y (insert_key R ys x)
        (All-insert_key R x (λ z. R y z ≡ Less) ys (above_all y ys up) (o.antisymm y x ∙ ap ordering_reverse is))
        (put_up ys x (tail_up y ys up))
  ]) refl
    where
      below_all : R x y ≡ Less → All (λ z. R x z ≡ Less) (y ∷ ys)
      below_all is zero d lt = is
      below_all is (suc k) d lt = o.trans x y (get_or ys k d) is (up zero (suc k) d (omega arith) (omega arith))

  taken : (parts whole : List X) → IsAscending R parts → IsAscending R whole → ((x : X) → Contains parts x → Contains whole x) → (rest : List X) × IsRest R parts whole rest
  taken [] whole up vp part = (whole, record { ascending = vp; exact = λ x. (λ h. (h, lacks_nil x), λ h. h.0); long = omega arith })
  taken (y ∷ ys) whole up vp part =
      let at = part y (first y ys) in
      let here : HasAt whole at.0 y = record { within = at.1; is = λ d. get_or_default whole at.0 d y at.1 ∙ at.2 } in
      let takes = takes_remove o whole at.0 y vp here in
      let len = length-remove whole at.0 at.1 in
      let rest = taken ys (remove whole at.0) (tail_up y ys up) (all_pairs_remove (λ a b. R a b ≡ Less) whole at.0 at.1 vp)
      (λ x h. (takes x).1 (part x (later y ys x h), λ e. head_apart y ys up (subst (Contains ys) (sym e) h))) in
      let so = rest.1 in (
        rest.0,
        record {
          ascending = so.ascending;
          exact = λ x. (
            λ h.
                let both = (so.exact x).0 h in
                let still = (takes x).0 both.0 in
                (still.0, λ p. elim (first_or_later y ys x p) [ inl there ↦ both.1 there | inr e ↦ still.1 e ]),
            λ h. (so.exact x).1 ((takes x).1 (h.0, λ e. h.1 (subst (Contains (y ∷ ys)) e (first y ys))), λ there. h.1 (later y ys x there)),
          );
          long = omega (arith, len, so.long);
        },
      )

  module _ (same : (x y : X) → R x y ≡ Equal → x ≡ y) where
    put_long : (xs : List X) (x : X) → (Contains xs x → ⊥) → length (insert_key R xs x) ≡ length xs + 1
    put_long [] x lacks = refl
    put_long (y ∷ ys) x lacks = (elim (R x y) as (λ r. R x y ≡ r → length (match_ordering r (x ∷ y ∷ ys) (y ∷ ys) (y ∷ insert_key R ys x)) ≡ length (y ∷ ys) + 1) [
      | Less ↦ λ is. omega arith
      | Equal ↦ λ is. absurd (lacks (zero, omega arith, sym (same x y is)))
      | Greater ↦ λ is. let len = put_long ys x (λ h. lacks (later y ys x h)) in omega (arith, len)
    ]) refl

    put_from : (xs : List X) (x z : X) → Contains (insert_key R xs x) z → Contains xs z ⊎ (x ≡ z)
    put_from [] x z h = first_or_later x [] z h
    put_from (y ∷ ys) x z h = (elim (R x y) as (λ r. R x y ≡ r → Contains (match_ordering r (x ∷ y ∷ ys) (y ∷ ys) (y ∷ insert_key R ys x)) z → Contains (y ∷ ys) z ⊎ (x ≡ z)) [
      | Less ↦ λ is h. first_or_later x (y ∷ ys) z h
      | Equal ↦ λ is h. inl h
      | Greater ↦ λ is h. elim (first_or_later y (insert_key R ys x) z h) [
        | inl there ↦ elim (put_from ys x z there) [ inl old ↦ inl (later y ys z old) | inr e ↦ inr e ]
        | inr e ↦ inl (subst (Contains (y ∷ ys)) e (first y ys))
      ]
    ]) refl h

    put_old : (xs : List X) (x z : X) → Contains xs z → Contains (insert_key R xs x) z
    put_old [] x z h = absurd (lacks_nil z h)
    put_old (y ∷ ys) x z h = (elim (R x y) as (λ r. R x y ≡ r → Contains (match_ordering r (x ∷ y ∷ ys) (y ∷ ys) (y ∷ insert_key R ys x)) z) [
      | Less ↦ λ is. later x (y ∷ ys) z h
      | Equal ↦ λ is. h
      | Greater ↦ λ is. elim (first_or_later y ys z h) [
        | inl there ↦ later y (insert_key R ys x) z (put_old ys x z there)
        | inr e ↦ subst (Contains (y ∷ insert_key R ys x)) e (first y (insert_key R ys x))
      ]
    ]) refl

    put_new : (xs : List X) (x : X) → Contains (insert_key R xs x) x
    put_new [] x = first x []
    put_new (y ∷ ys) x = (elim (R x y) as (λ r. R x y ≡ r → Contains (match_ordering r (x ∷ y ∷ ys) (y ∷ ys) (y ∷ insert_key R ys x)) x) [
      | Less ↦ λ is. first x (y ∷ ys)
      | Equal ↦ λ is. subst (Contains (y ∷ ys)) (sym (same x y is)) (first y ys)
      | Greater ↦ λ is. later y (insert_key R ys x) x (put_new ys x)
    ]) refl

    united : (parts others : List X) → IsAscending R parts → IsAscending R others → ((x : X) → Contains parts x → Contains others x → ⊥) → (union : List X) × IsUnion R parts others union
    united [] others up vp apart = (others, record { ascending = vp; exact = λ x. (λ h. inl h, λ h. elim h [ inl old ↦ old | inr none ↦ absurd (lacks_nil x none) ]); long = omega arith })
    united (y ∷ ys) others up vp apart =
        let len = put_long others y (apart y (first y ys)) in
        let union = united ys (insert_key R others y) (tail_up y ys up) (put_up others y vp)
        (λ x h there. elim (put_from others y x there) [ inl old ↦ apart x (later y ys x h) old | inr e ↦ head_apart y ys up (subst (Contains ys) (sym e) h) ]) in
        let so = union.1 in (
          union.0,
          record {
            ascending = so.ascending;
            exact = λ x. (
              λ h. elim ((so.exact x).0 h) [
                | inl put ↦ elim (put_from others y x put) [ inl old ↦ inl old | inr e ↦ inr (subst (Contains (y ∷ ys)) e (first y ys)) ]
                | inr part ↦ inr (later y ys x part)
              ],
              λ h. elim h [
                | inl old ↦ (so.exact x).1 (inl (put_old others y x old))
                | inr part ↦ elim (first_or_later y ys x part) [
                  | inl there ↦ (so.exact x).1 (inr there)
                  | inr e ↦ (so.exact x).1 (inl (subst (Contains (insert_key R others y)) e (put_new others y)))
                ]
              ],
            );
            long = omega (arith, len, so.long);
          },
        )

    -- P and S agree outside Q; inside Q, `before` lists the members of P and `after` lists those of S. If P has n members,
    -- then S has m members, and m is n less the length of `before` plus the length of `after`.
    pub recounted : (P S Q : X → Type 0) (n m : ℕ) (before after : List X) → ((x : X) → Q x ⊎ (Q x → ⊥)) → ((x : X) → (Q x → ⊥) → P x ↔ S x)
        → IsCount R P n → IsListOf R (λ x. P x × Q x) before → IsListOf R (λ x. S x × Q x) after → m + length before ≡ n + length after → IsCount R S m
    recounted P S Q n m before after either outside count old new sum =
        let rest = taken before count.list old.ascending count.listed.ascending (λ x h. (count.listed.exact x).1 ((old.exact x).0 h).0) in
        let union = united after rest.0 new.ascending rest.1.ascending
        (λ x h there. let both = (rest.1.exact x).0 there in both.1 ((old.exact x).1 ((count.listed.exact x).0 both.0, ((new.exact x).0 h).1))) in
        record {
          list = union.0;
          listed = record {
            ascending = union.1.ascending;
            exact = λ x. (
              λ h. elim ((union.1.exact x).0 h) [
                | inl there ↦
                    let both = (rest.1.exact x).0 there in
                    let p = (count.listed.exact x).0 both.0 in
                    (outside x (λ q. both.1 ((old.exact x).1 (p, q)))).0 p
                | inr now ↦ ((new.exact x).0 now).0
              ],
              λ s. elim (either x) [
                | inl q ↦ (union.1.exact x).1 (inr ((new.exact x).1 (s, q)))
                | inr apart ↦ (union.1.exact x).1 (inl ((rest.1.exact x).1 ((count.listed.exact x).1 ((outside x apart).1 s), λ b. apart ((old.exact x).0 b).1)))
              ],
            );
          };
          whole = omega (arith, sum, union.1.long, rest.1.long, count.whole);
        }

    pub same_or_apart : (x y : X) → (x ≡ y) ⊎ (x ≡ y → ⊥)
    same_or_apart x y = (elim (R x y) as (λ r. R x y ≡ r → (x ≡ y) ⊎ (x ≡ y → ⊥)) [
      | Less ↦ λ is. inr (λ e. not_below_itself o x (subst (λ z. R x z ≡ Less) (sym e) is))
      | Equal ↦ λ is. inl (same x y is)
      | Greater ↦ λ is. inr (λ e. let t : Equal ≡ Greater = sym (tied_itself o x) ∙ subst (λ z. R x z ≡ Greater) (sym e) is in cc)
    ]) refl

    pub in_or_out : (xs : List X) (x : X) → Contains xs x ⊎ (Contains xs x → ⊥)
    in_or_out [] x = inr (lacks_nil x)
    in_or_out (y ∷ ys) x = elim (same_or_apart y x) [
      | inl e ↦ inl (subst (Contains (y ∷ ys)) e (first y ys))
      | inr other ↦ elim (in_or_out ys x) [
        | inl there ↦ inl (later y ys x there)
        | inr out ↦ inr (λ h. elim (first_or_later y ys x h) [ inl there ↦ out there | inr e ↦ other e ])
      ]
    ]

  -- a part has at most as many members as the whole
  pub count_part : (P Q : X → Type 0) (n : ℕ) (list : List X) → IsCount R P n → IsListOf R (λ x. P x × Q x) list → length list ≤ n
  count_part P Q n list count part =
      let le = length-part o list count.list part.ascending count.listed.ascending (λ x h. (count.listed.exact x).1 ((part.exact x).0 h).0) in
      omega (arith, le, count.whole)
