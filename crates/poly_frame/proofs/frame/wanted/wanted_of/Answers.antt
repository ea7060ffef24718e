use Rattle.std.proofs.Common.{List, ap, arith, drop, get_or, length, map, subst, sym, ◌+◌, ◌-◌, ◌<◌, ◌∙◌, ◌≡◌, ℕ}
use Rattle.poly_tiling.specs.declared.bound.Bound.{Bound}
use Rattle.poly_frame.specs.Plain.{most_by, least_by}
use Rattle.poly_frame.specs.FrameItems.{item_at}
use Rattle.poly_frame.specs.FrameTable.{LeastsShow, MostsShow}
use Rattle.poly_frame.proofs.FrameTable.{map_len, leasts_more, leasts_start, mosts_more, mosts_start}
use Rattle.poly_frame.proofs.frame.wanted.wanted_of.Goals as goal

pub loop-k-init : goal.loop-k-init
loop-k-init c =
    let v = c.args.view.now in
    let u = c.in_ok-mosts.ensures.mosts ∙ ap (λ bs. map (λ (b : Bound). b.most) bs) c.items-bounds.ensures.value in
    let a = c.in_ok-mosts.ensures.leasts ∙ ap (λ bs. map (λ (b : Bound). b.least) bs) c.items-bounds.ensures.value in
    record {
      low = omega arith;
      mosts_len = ap length u ∙ map_len (λ b. b.most) v.bounds;
      leasts_len = ap length a ∙ map_len (λ b. b.least) v.bounds;
      mosts = mosts_start v c.args.atoms.now c.in_ok-mosts.mosts.items c.items-bounds.ensures.well.items_up u;
      leasts = leasts_start v c.args.atoms.now c.in_ok-mosts.leasts.items c.items-bounds.ensures.well.items_up a;
    }

pub loop-k-preserved : goal.loop-k-preserved
loop-k-preserved c =
    let v = c.args.view.now in
    let A = c.args.atoms.now in
    let inv = c.loop-k.invariant in
    let k : c.loop-k.k - 1 < length A = omega (arith, inv.low, c.loop-k-test.true) in
    let next : c.loop-k.k - 1 + 1 ≡ c.loop-k.k = omega (arith, c.loop-k-test.true) in
    let lowered = subst (λ (bs : List Bound). (b : ℕ) → b < length bs → get_or c.lower_most.new.mosts.items b 0 ≡ most_by c.index-atoms-k.result (item_at bs b) (get_or c.loop-k.mosts.items b 0)) c.items-bounds.ensures.value c.lower_most.ensures.value in
    let raised = subst (λ (bs : List Bound). (b : ℕ) → b < length bs → get_or c.raise_least.new.leasts.items b 0 ≡ least_by c.index-atoms-k-in-loop-k.result (item_at bs b) (get_or c.loop-k.leasts.items b 0)) c.items-bounds.ensures.value c.raise_least.ensures.value in
    record {
      low = omega (arith, inv.low);
      mosts_len = c.lower_most.ensures.len ∙ ap length c.items-bounds.ensures.value;
      leasts_len = c.raise_least.ensures.len ∙ ap length c.items-bounds.ensures.value;
      mosts = mosts_more v A (c.loop-k.k - 1) c.index-atoms-k.result c.loop-k.mosts.items c.lower_most.new.mosts.items k (sym c.index-atoms-k.is)
          (subst (λ (n : ℕ). MostsShow v (drop n A) c.loop-k.mosts.items) (sym next) inv.mosts) lowered;
      leasts = leasts_more v A (c.loop-k.k - 1) c.index-atoms-k-in-loop-k.result c.loop-k.leasts.items c.raise_least.new.leasts.items k (sym c.index-atoms-k-in-loop-k.is)
          (subst (λ (n : ℕ). LeastsShow v (drop n A) c.loop-k.leasts.items) (sym next) inv.leasts) raised;
    }
