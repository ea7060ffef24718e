use Rattle.std.proofs.Common.{List, ap, arith, length, refl, subst, sym, take, ◌++◌, ◌+◌, ◌-◌, ◌∙◌, ◌∷◌, [], ◌≡◌, ℕ}
use Rattle.poly_catalogue.specs.Index.{Agree, Once}
use Rattle.poly_catalogue.specs.Rows.{at, span}
use Rattle.poly_catalogue.proofs.Kept.{agree_as, index_as, lent, pushed_agree, pushed_index, pushed_once, taken_back}
use Rattle.poly_catalogue.proofs.listing.Listing.push.Goals as goal

pub add_entries-requires-clause-once : goal.add_entries-requires-clause-once
add_entries-requires-clause-once c =
    let ts : List (List ℕ) = c.self.inside.tilings.items in
    let T : List ℕ = c.args.tiling in
    let is : c.deref.result.now ≡ ts ++ T ∷ [] = c.deref.ensures.value ∙ c.push_reserved.ensures.items ∙ ap (λ (l : List (List ℕ)). l ++ T ∷ []) c.in_ok-reserve.ensures.items in
    subst (λ (us : List (List ℕ)). Once (at us)) (sym is) (pushed_once ts T c.self.invariant.once c.numbers.ensures.ascends)

pub add_entries-requires-clause-agree : goal.add_entries-requires-clause-agree
add_entries-requires-clause-agree c =
    let x = c.self.inside in
    let ts : List (List ℕ) = x.tilings.items in
    let bs : List (List ℕ) = x.positions in
    let bs1 : List (List ℕ) = c.push.new.self in
    let T : List ℕ = c.args.tiling in
    let n = c.len-last.result in
    let a : c.deref.result.now ≡ ts ++ T ∷ [] = c.deref.ensures.value ∙ c.push_reserved.ensures.items ∙ ap (λ (l : List (List ℕ)). l ++ T ∷ []) c.in_ok-reserve.ensures.items in
    agree_as (λ (us : List (List ℕ)). span (at us) n 0 0) (ts ++ T ∷ []) c.deref.result.now bs1 bs1 c.add_rows.new.rows.items c.deref_mut.result.now a refl c.deref_mut.ensures.value
    (pushed_agree ts bs bs1 x.rows.items c.add_rows.new.rows.items T n (omega (arith, ap length c.in_ok-reserve.ensures.items, c.reserve.new.self.ok.0)) c.self.invariant.agree c.push.ensures.kept c.in_ok-add_rows.ensures.same)

pub invariant_of-self-in-Ok : goal.invariant_of-self-in-Ok
invariant_of-self-in-Ok c =
    let x = c.self.inside in
    let ts : List (List ℕ) = x.tilings.items in
    let T : List ℕ = c.args.tiling in
    let bs1 : List (List ℕ) = c.add_entries.new.positions in
    let rs1 = c.add_entries.new.rows in
    let a : c.push_reserved.new.self.items ≡ ts ++ T ∷ [] = c.push_reserved.ensures.items ∙ ap (λ (l : List (List ℕ)). l ++ T ∷ []) c.in_ok-reserve.ensures.items in
    let d : c.deref.result.now ≡ ts ++ T ∷ [] = c.deref.ensures.value ∙ a in
    let g = subst (λ (us : List (List ℕ)). Agree (at us) (at bs1) (at rs1)) d c.in-Ok.ensures.ok in
    index_as (ts ++ T ∷ []) c.push_reserved.new.self.items bs1 bs1 rs1 _ a refl
    (lent rs1 c.add_rows.new.rows.items c.add_rows.new.rows.len (omega (arith, c.add_entries.auto.rows, c.deref_mut.ensures.len)))
    (pushed_index ts x.positions bs1 rs1 T (omega (arith, c.requires, ap length c.self.view_is)) c.self.invariant.once c.numbers.ensures.ascends
    (omega (arith, c.self.invariant.even, c.add_entries.ensures.even, c.in_ok-push.ensures.more)) g)

pub invariant_of-self-in-Err : goal.invariant_of-self-in-Err
invariant_of-self-in-Err c =
    let x = c.self.inside in
    let ts : List (List ℕ) = x.tilings.items in
    let T : List ℕ = c.args.tiling in
    let n = c.len-last.result in
    let bs1 : List (List ℕ) = c.add_entries.new.positions in
    let rs1 = c.add_entries.new.rows in
    let a : c.push_reserved.new.self.items ≡ ts ++ T ∷ [] = c.push_reserved.ensures.items ∙ ap (λ (l : List (List ℕ)). l ++ T ∷ []) c.in_ok-reserve.ensures.items in
    let d : c.deref.result.now ≡ ts ++ T ∷ [] = c.deref.ensures.value ∙ a in
    let g = subst (λ (us : List (List ℕ)). Agree (span (at us) n 0 0) (at bs1) (at rs1)) d c.in-Err.ensures.err in
    let e : n ≡ length ts = omega (arith, ap length c.in_ok-reserve.ensures.items, c.reserve.new.self.ok.0) in
    let long : length bs1 ≡ length ts + 1 = omega (arith, c.self.invariant.even, c.add_entries.ensures.even, c.in_ok-push.ensures.more) in
    index_as (take n (ts ++ T ∷ [])) c.truncate.new.self.items (take n bs1) c.pop.new.self rs1 _
    (c.truncate.ensures.items ∙ ap (λ (l : List (List ℕ)). take n l) a)
    (c.pop.ensures ∙ ap (λ k. take k bs1) (let m : length bs1 - 1 ≡ n = omega (arith, long, e) in m))
    (lent rs1 c.add_rows.new.rows.items c.add_rows.new.rows.len (omega (arith, c.add_entries.auto.rows, c.deref_mut.ensures.len)))
    (taken_back ts bs1 rs1 T n e (omega (arith, c.self.invariant.few)) c.self.invariant.once (omega (arith, long, e)) g)
