use Rattle.std.proofs.Common.{List, ap, arith, get_or, length, subst, take, ℕ, ◌+◌, ◌<◌, ◌∙◌, ◌++◌, ◌≡◌}
use Rattle.std.proofs.lemmas.List.{get_or-replicate, length-replicate, take_all}
use Rattle.poly_frame.specs.FrameItems.{item_of, times}
use Rattle.poly_frame.specs.FrameTable.{HaveShows}
use Rattle.poly_frame.proofs.FrameTable.{count_le, counted_more, length_take_le}
use Rattle.poly_frame.proofs.frame.table.counts_of.Goals as goal

pub raise-requires-clause-small : goal.raise-requires-clause-small
raise-requires-clause-small c = λ b h.
    let l : b < length c.args.view.now.bounds = omega (arith, c.loop-p.invariant.len) in
    omega (arith, c.loop-p.invariant.shown b l, count_le c.args.view.now (take c.loop-p.p-index c.args.members.now) (item_of c.args.view.now b), length_take_le c.loop-p.p-index c.args.members.now, c.deref.ensures.len, c.note_items.new.noted.ok, c.note_items.new.noted.small, c.requires.few)

pub loop-p-preserved : goal.loop-p-preserved
loop-p-preserved c =
    let indices = c.note_items.ensures.indices in
    let noted : c.deref.result.now ≡ indices.0 = c.deref.ensures.value ∙ indices.1 ∙ ap (λ xs. xs ++ indices.0) c.clear.ensures.items in
    record {
      len = c.raise.ensures.len ∙ c.loop-p.invariant.len;
      capacity = omega (arith, c.note_items.ensures.capacity, c.clear.ensures.capacity, c.loop-p.invariant.capacity);
      shown = counted_more c.args.view.now c.args.members.now c.loop-p.p-index c.loop-p.have.items c.raise.new.have.items indices.0 c.loop-p-test.true c.loop-p.invariant.shown indices.2
          (λ b h. c.raise.ensures.more b (omega (arith, c.loop-p.invariant.len)) ∙ ap (λ xs. get_or c.loop-p.have.items b 0 + times xs b) noted);
    }

pub loop-p-init : goal.loop-p-init
loop-p-init c =
    let n = length c.items.result.now in
    let same = ap length c.items.ensures.value in
    let zeros = c.in_ok-have.ensures.items_if_clones_equal (λ a e. e) in
    record {
      len = ap length zeros ∙ length-replicate n 0 ∙ same;
      capacity = omega (arith, c.in_ok-reserve.ensures.ok);
      shown = λ b h. ap (λ xs. get_or xs b 0) zeros ∙ get_or-replicate n b 0 0 (omega (arith, h, same));
    }

pub note_items-requires : goal.note_items-requires
note_items-requires c = omega (arith, c.clear.ensures.len, c.clear.ensures.capacity, c.loop-p.invariant.capacity)

pub returns : goal.returns
returns c = record {
  len = c.loop-p.invariant.len;
  value = subst (λ (T : List ℕ). HaveShows c.args.view.now T c.loop-p.have.items) (take_all c.loop-p.p-index c.args.members.now (omega (arith, c.loop-p-test.false))) c.loop-p.invariant.shown;
  why = tt;
}
