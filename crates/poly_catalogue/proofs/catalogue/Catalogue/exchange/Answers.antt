use Rattle.std.proofs.Common.{List, ap, arith, filter, length, refl, subst, sym, ◌++◌, ◌+◌, ◌∙◌, ◌≡◌, ℕ}
use Rattle.std.proofs.lemmas.Bool.{leb-true}
use Rattle.poly_tiling.specs.Puzzle.{is_tiling}
use Rattle.poly_catalogue.specs.Catalogued.{HasFlags}
use Rattle.poly_catalogue.specs.Listed.{AreOfEither, Keeps}
use Rattle.poly_catalogue.proofs.Sums.{either_more, kept_flags, kept_once, kept_room, room_after, same_catalogue, same_more}
use Rattle.poly_catalogue.proofs.catalogue.Catalogue.exchange.Goals as goal

pub keep-requires-clause-from : goal.keep-requires-clause-from
keep-requires-clause-from c =
    let is : c.add.new.listing ≡ c.args.self.now ++ c.args.tilings.items = c.in_ok-add.ensures.ok ∙ ap (λ (l : List (List ℕ)). l ++ c.args.tilings.items) c.self.view_is in
    subst (λ (l : List (List ℕ)). AreOfEither c.args.view.now c.args.delta.now l) (sym is) (either_more c.args.view.now c.args.delta.now c.args.self.now c.args.tilings.items c.requires.from c.requires.tilings)

pub invariant_of-self-2 : goal.invariant_of-self-2
invariant_of-self-2 c =
    let w = c.args.view.now in
    let old : List (List ℕ) = c.args.self.now in
    let more : List (List ℕ) = c.args.tilings.items in
    let is : c.add.new.listing ≡ old ++ more = c.in_ok-add.ensures.ok ∙ ap (λ (l : List (List ℕ)). l ++ more) c.self.view_is in
    let k = subst (λ (l : List (List ℕ)). Keeps (is_tiling w) l c.keep.new.listing) is c.keep.ensures.keeps in
    let room = leb-true (length (filter (is_tiling w) c.self.inside.listing) + c.len.result) 1000000 (sym c.has_room.ensures.room ∙ c.if-not-has_room.false) in
    let same : length (filter (is_tiling w) c.self.inside.listing) ≡ length (filter (is_tiling w) old) = ap (λ (l : List (List ℕ)). length (filter (is_tiling w) l)) c.self.view_is in
    record {
      few = room_after (is_tiling w) old more c.keep.new.listing c.requires.tilings k (omega (arith, room, same, c.len.ensures, c.args.tilings.ok.0));
      once = kept_once (is_tiling w) (old ++ more) c.keep.new.listing k c.requires.once;
      flags = kept_flags (is_tiling w) c.add.new.listing c.keep.new.listing (length c.add.new.flags.items) (length c.add.new.flags.items) c.keep.ensures.keeps refl c.add.ensures.flags;
      room = kept_room (is_tiling w) c.add.new.listing c.keep.new.listing (length c.add.new.counts.items) (length c.keep.new.counts.items) c.keep.ensures.keeps c.keep.ensures.long c.add.ensures.room;
    }

pub returns-clause-ok : goal.returns-clause-ok
returns-clause-ok c =
    let w = c.args.view.now in
    let old : List (List ℕ) = c.args.self.now in
    let more : List (List ℕ) = c.args.tilings.items in
    let is : c.add.new.listing ≡ old ++ more = c.in_ok-add.ensures.ok ∙ ap (λ (l : List (List ℕ)). l ++ more) c.self.view_is in
    let k = subst (λ (l : List (List ℕ)). Keeps (is_tiling w) l c.keep.new.listing) is c.keep.ensures.keeps in
    same_more (is_tiling w) old more c.keep.new.listing c.requires.tilings k

pub invariant_of-self : goal.invariant_of-self
invariant_of-self c =
    same_catalogue c.self.inside.listing c.self.inside.listing (length c.self.inside.flags.items) (length c.has_room.new.flags.items) (length c.self.inside.counts.items) (length c.self.inside.counts.items) refl
    (subst (λ n. HasFlags c.self.inside.listing n) (sym c.has_room.ensures.long) c.self.invariant.flags) c.self.invariant.room c.self.invariant

pub invariant_of-self-in_err-add : goal.invariant_of-self-in_err-add
invariant_of-self-in_err-add c = same_catalogue c.self.inside.listing c.add.new.listing (length c.self.inside.flags.items) (length c.add.new.flags.items) (length c.self.inside.counts.items) (length c.add.new.counts.items) c.in_err-add.ensures.err c.add.ensures.flags c.add.ensures.room c.self.invariant
