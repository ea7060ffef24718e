-- One entry more or less in an index.
use Rattle.std.proofs.Common.{None, Option, Some, ap, eqb, inl, inr, refl, subst, sym, ℕ, ◌&&◌, ◌∙◌, ◌≡◌, ◌⊎◌}
use Rattle.std.proofs.lemmas.Bool.{and_from, and_left, and_right, cases_eq, cond-false, cond-true, eq-eqb, ne_eqb}
use Rattle.poly_catalogue.specs.Rows.{but}
use Rattle.poly_catalogue.specs.Index.{Agree, IsPart, Once}

-- a position is this one, or it is another
pub same_place : (a b i k : ℕ) → ((a ≡ i) × (b ≡ k)) ⊎ ((a ≡ i) × (b ≡ k) → ⊥)
same_place a b i k = elim (cases_eq a i) [
  | inl x ↦ elim (cases_eq b k) [ inl y ↦ inl (x, y) | inr n ↦ inr (λ p. n p.1) ]
  | inr n ↦ inr (λ p. n p.0)
]

pub but_here : (f : ℕ → ℕ → Option ℕ) (i k : ℕ) (o : Option ℕ) (a b : ℕ) → a ≡ i → b ≡ k → but f i k o a b ≡ o
but_here f i k o a b x y = cond-true (eqb a i && eqb b k) o (f a b) (and_from (eqb a i) (eqb b k) (eq-eqb a i x) (eq-eqb b k y))

pub but_else : (f : ℕ → ℕ → Option ℕ) (i k : ℕ) (o : Option ℕ) (a b : ℕ) → ((a ≡ i) × (b ≡ k) → ⊥) → but f i k o a b ≡ f a b
but_else f i k o a b n = cond-false (eqb a i && eqb b k) o (f a b) (elim (cases_eq a i) [
  | inl x ↦ and_right (eqb a i) (eqb b k) (ne_eqb b k (λ y. n (x, y)))
  | inr m ↦ and_left (eqb a i) (eqb b k) (ne_eqb a i m)
])

some_is : {X : Type 0} (x y : X) (o : Option X) → o ≡ Some x → o ≡ Some y → x ≡ y
some_is x y o a b = cc

none_some : {X : Type 0} (x : X) (o : Option X) → o ≡ None → o ≡ Some x → ⊥
none_some x o a b = cc

-- an index stays right if the noted positions of its entries stay; the other positions may change
pub respects : (L B R L' B' R' : ℕ → ℕ → Option ℕ) → Agree L B R → ((a b : ℕ) → L' a b ≡ L a b) → ((a b p : ℕ) → L a b ≡ Some p → B' a b ≡ B a b) → ((a b : ℕ) → R' a b ≡ R a b) → Agree L' B' R'
respects L B R L' B' R' g l m r = record {
  entered = λ t k p h. let e = g.entered t k p (sym (l t k) ∙ h) in (e.0, m t k p (sym (l t k) ∙ h) ∙ e.1, r p e.0 ∙ e.2);
  backed = λ p j t h. let e = g.backed p j t (sym (r p j) ∙ h) in (e.0, l t e.0 ∙ e.1, m t e.0 p e.1 ∙ e.2);
}

-- two entries of the same number at the same position are equal
pub alone : (L B R : ℕ → ℕ → Option ℕ) → Agree L B R → Once L → (t k s l p j : ℕ) → L t k ≡ Some p → B t k ≡ Some j → L s l ≡ Some p → B s l ≡ Some j → (t ≡ s) × (k ≡ l)
alone L B R g once t k s l p j a b c d =
    let e = g.entered t k p a in
    let f = g.entered s l p c in
    let i : e.0 ≡ j = some_is e.0 j (B t k) e.1 b in
    let i' : f.0 ≡ j = some_is f.0 j (B s l) f.1 d in
    let x : R p j ≡ Some t = subst (λ z. R p z ≡ Some t) i e.2 in
    let y : R p j ≡ Some s = subst (λ z. R p z ≡ Some s) i' f.2 in
    let same : t ≡ s = some_is t s (R p j) x y in
    (same, once t k l p a (subst (λ z. L z l ≡ Some p) (sym same) c))

-- an entry is removed
pub taken : (L B R : ℕ → ℕ → Option ℕ) → Agree L B R → Once L → (t k p j : ℕ) → L t k ≡ Some p → B t k ≡ Some j → Agree (but L t k None) B (but R p j None)
taken L B R g once t k p j here index = record {
  entered = λ a b q h. elim (same_place a b t k) [
    | inl s ↦ absurd (none_some q (but L t k None a b) (but_here L t k None a b s.0 s.1) h)
    | inr n ↦
        let was : L a b ≡ Some q = sym (but_else L t k None a b n) ∙ h in
        let e = g.entered a b q was in
        (e.0, e.1, but_else R p j None q e.0 (λ s. n (alone L B R g once a b t k p j (subst (λ z. L a b ≡ Some z) s.0 was) (subst (λ z. B a b ≡ Some z) s.1 e.1) here index)) ∙ e.2)
  ];
  backed = λ q i a h. elim (same_place q i p j) [
    | inl s ↦ absurd (none_some a (but R p j None q i) (but_here R p j None q i s.0 s.1) h)
    | inr n ↦
        let e = g.backed q i a (sym (but_else R p j None q i n) ∙ h) in (
          e.0,
          but_else L t k None a e.0 (λ s.
              let hk : L a e.0 ≡ L t k = λ z. L (s.0 z) (s.1 z) in
              let bk : B a e.0 ≡ B t k = λ z. B (s.0 z) (s.1 z) in
              n (some_is q p (L a e.0) e.1 (hk ∙ here), some_is i j (B a e.0) e.2 (bk ∙ index))) ∙ e.1,
          e.2,
        )
  ];
}

-- an entry is added
pub given : (L B R : ℕ → ℕ → Option ℕ) → Agree L B R → (t k p j : ℕ) → L t k ≡ None → B t k ≡ Some j → R p j ≡ None → Agree (but L t k (Some p)) B (but R p j (Some t))
given L B R g t k p j lack index free = record {
  entered = λ a b q h. elim (same_place a b t k) [
    | inl s ↦
        let is : p ≡ q = some_is p q (but L t k (Some p) a b) (but_here L t k (Some p) a b s.0 s.1) h in
        let bk : B a b ≡ B t k = λ z. B (s.0 z) (s.1 z) in
        (j, bk ∙ index, but_here R p j (Some t) q j (sym is) refl ∙ ap Some (sym s.0))
    | inr n ↦
        let e = g.entered a b q (sym (but_else L t k (Some p) a b n) ∙ h) in
        (e.0, e.1, but_else R p j (Some t) q e.0 (λ s. none_some a (R q e.0) (let x : R q e.0 ≡ R p j = λ z. R (s.0 z) (s.1 z) in x ∙ free) e.2) ∙ e.2)
  ];
  backed = λ q i a h. elim (same_place q i p j) [
    | inl s ↦
        let is : t ≡ a = some_is t a (but R p j (Some t) q i) (but_here R p j (Some t) q i s.0 s.1) h in
        let bk : B a k ≡ B t k = ap (λ z. B z k) (sym is) in
        (k, but_here L t k (Some p) a k (sym is) refl ∙ ap Some (sym s.0), bk ∙ index ∙ ap Some (sym s.1))
    | inr n ↦
        let e = g.backed q i a (sym (but_else R p j (Some t) q i n) ∙ h) in
        (e.0, but_else L t k (Some p) a e.0 (λ s. none_some q (L a e.0) (let x : L a e.0 ≡ L t k = λ z. L (s.0 z) (s.1 z) in x ∙ lack) e.1) ∙ e.1, e.2)
  ];
}

pub part_once : (L N : ℕ → ℕ → Option ℕ) → IsPart L N → Once N → Once L
part_once L N part once t k l p a b = once t k l p (part t k p a) (part t l p b)

but_part : (L : ℕ → ℕ → Option ℕ) (t k : ℕ) → IsPart (but L t k None) L
but_part L t k a b q h = elim (same_place a b t k) [
  | inl s ↦ absurd (none_some q (but L t k None a b) (but_here L t k None a b s.0 s.1) h)
  | inr n ↦ sym (but_else L t k None a b n) ∙ h
]

-- an entry is removed, and the entry at another position of its row takes its position
pub taken_over : (L N B R B' R' : ℕ → ℕ → Option ℕ) → IsPart L N → Once N → Agree L B R → (t k p j m s l : ℕ) → L t k ≡ Some p → B t k ≡ Some j → (j ≡ m → ⊥) →
    R p m ≡ Some s → N s l ≡ Some p → ((a b : ℕ) → B' a b ≡ but B s l (Some j) a b) → ((a b : ℕ) → R' a b ≡ but (but R p j (Some s)) p m None a b) → Agree (but L t k None) B' R'
taken_over L N B R B' R' part once g t k p j m s l here index apart last has told put =
    let L1 : ℕ → ℕ → Option ℕ = but L t k None in
    let R1 : ℕ → ℕ → Option ℕ = but R p j None in
    let L2 : ℕ → ℕ → Option ℕ = but L1 s l None in
    let R2 : ℕ → ℕ → Option ℕ = but R1 p m None in
    let g1 = taken L B R g (part_once L N part once) t k p j here index in
    let e = g.backed p m s last in
    let same : e.0 ≡ l = once s e.0 l p (part s e.0 p e.1) has in
    let there : L s l ≡ Some p = subst (λ z. L s z ≡ Some p) same e.1 in
    let back : B s l ≡ Some m = subst (λ z. B s z ≡ Some m) same e.2 in
    let other : ((s ≡ t) × (l ≡ k) → ⊥) = λ z. apart (some_is j m (B t k) index (let x : B s l ≡ B t k = λ i. B (z.0 i) (z.1 i) in sym x ∙ back)) in
    let there1 : L1 s l ≡ Some p = but_else L t k None s l other ∙ there in
    let g2 = taken L1 B R1 g1 (part_once L1 N (λ a b q h. part a b q (but_part L t k a b q h)) once) s l p m there1 back in
    let g3 = respects L2 B R2 L2 B' R2 g2 (λ a b. refl) (λ a b q h. told a b ∙ but_else B s l (Some j) a b (λ z. none_some q (L2 a b) (but_here L1 s l None a b z.0 z.1) h)) (λ a b. refl) in
    let g4 = given L2 B' R2 g3 s l p j (but_here L1 s l None s l refl refl) (told s l ∙ but_here B s l (Some j) s l refl refl)
    (but_else R1 p m None p j (λ z. apart z.1) ∙ but_here R p j None p j refl refl) in
    respects (but L2 s l (Some p)) B' (but R2 p j (Some s)) L1 B' R' g4
    (λ a b. elim (same_place a b s l) [
      | inl z ↦ (let x : L1 a b ≡ L1 s l = λ i. L1 (z.0 i) (z.1 i) in x ∙ there1) ∙ sym (but_here L2 s l (Some p) a b z.0 z.1)
      | inr n ↦ sym (but_else L2 s l (Some p) a b n ∙ but_else L1 s l None a b n)
    ])
    (λ a b q h. refl)
    (λ a b. put a b ∙ elim (same_place a b p m) [
      | inl z ↦
          but_here (but R p j (Some s)) p m None a b z.0 z.1
          ∙ sym (but_else R2 p j (Some s) a b (λ w. apart (sym w.1 ∙ z.1)) ∙ but_here R1 p m None a b z.0 z.1)
      | inr n ↦ but_else (but R p j (Some s)) p m None a b n ∙ elim (same_place a b p j) [
        | inl w ↦ but_here R p j (Some s) a b w.0 w.1 ∙ sym (but_here R2 p j (Some s) a b w.0 w.1)
        | inr v ↦ but_else R p j (Some s) a b v ∙ sym (but_else R2 p j (Some s) a b v ∙ but_else R1 p m None a b n ∙ but_else R p j None a b v)
      ]
    ])
