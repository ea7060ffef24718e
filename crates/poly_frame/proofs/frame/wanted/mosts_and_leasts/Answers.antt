use Rattle.std.proofs.Common.{List, [], ap, arith, get_or, length, map, sym, take, ℕ, ◌++◌, ◌+◌, ◌<◌, ◌∙◌, ◌∷◌, ◌≡◌}
use Rattle.std.proofs.lemmas.List.{map_more, take_all}
use Rattle.poly_tiling.specs.declared.bound.Bound.{Bound}
use Rattle.poly_frame.proofs.frame.wanted.mosts_and_leasts.Goals as goal

-- if the first k bounds are mapped and bound k is mapped too, the first k + 1 are
mapped_more : (f : Bound → ℕ) (bs : List Bound) (k : ℕ) (b : Bound) (old new : List ℕ) → k < length bs → b ≡ get_or bs k b → old ≡ map f (take k bs) → new ≡ old ++ f b ∷ [] → new ≡ map f (take (k + 1) bs)
mapped_more f bs k b old new h i o n = n ∙ ap (λ xs. xs ++ f b ∷ []) o ∙ ap (λ x. map f (take k bs) ++ f x ∷ []) i ∙ sym (map_more f bs k b h)

pub loop-b-init : goal.loop-b-init
loop-b-init c = record { len = c.in_ok-mosts.ensures.len; count = c.in_ok-leasts.ensures.len; room = c.in_ok-mosts.ensures.capacity; space = c.in_ok-leasts.ensures.capacity; mosts = c.in_ok-mosts.ensures.items; leasts = c.in_ok-leasts.ensures.items }

pub loop-b-preserved : goal.loop-b-preserved
loop-b-preserved c =
    let bs = c.args.bounds.now in
    let k = c.loop-b.b-index in
    let b = c.b-item.result in
    let inv = c.loop-b.invariant in
    record {
      len = omega (arith, c.push_reserved.ensures.len, inv.len);
      count = omega (arith, c.push_reserved-in-loop-b.ensures.len, inv.count);
      room = omega (arith, c.push_reserved.ensures.capacity, inv.room);
      space = omega (arith, c.push_reserved-in-loop-b.ensures.capacity, inv.space);
      mosts = mapped_more (λ x. x.most) bs k b c.loop-b.mosts.items c.push_reserved.new.self.items c.loop-b-test.true c.b-item.is inv.mosts c.push_reserved.ensures.items;
      leasts = mapped_more (λ x. x.least) bs k b c.loop-b.leasts.items c.push_reserved-in-loop-b.new.self.items c.loop-b-test.true c.b-item.is inv.leasts c.push_reserved-in-loop-b.ensures.items;
    }

pub push_reserved-requires : goal.push_reserved-requires
push_reserved-requires c = omega (arith, c.loop-b.invariant.len, c.loop-b.invariant.room, c.loop-b-test.true)

pub push_reserved-requires-in-loop-b : goal.push_reserved-requires-in-loop-b
push_reserved-requires-in-loop-b c = omega (arith, c.loop-b.invariant.count, c.loop-b.invariant.space, c.loop-b-test.true)

pub returns : goal.returns
returns c =
    let all = take_all c.loop-b.b-index c.args.bounds.now (omega (arith, c.loop-b-test.false)) in
    record {
      mosts = c.loop-b.invariant.mosts ∙ ap (λ (bs : List Bound). map (λ (b : Bound). b.most) bs) all;
      leasts = c.loop-b.invariant.leasts ∙ ap (λ (bs : List Bound). map (λ (b : Bound). b.least) bs) all;
      why = tt;
    }
