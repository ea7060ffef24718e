use Rattle.std.proofs.Common.{Err, List, [], ap, append-nil, arith, inl, inr, length, refl, subst, sym, take, ℕ, ◌+◌, ◌++◌, ◌-◌, ◌<◌, ◌∙◌, ◌∷◌, ◌≡◌}
use Rattle.std.proofs.Math.Seq.{take-append_seam}
use Rattle.std.proofs.lemmas.Bool.{eqb-false, eqb-true, leb-false}
use Rattle.std.proofs.lemmas.List.{length_push, nil_from_length}
use Rattle.std.proofs.lemmas.Result.{err_from_is_err_and}
use Rattle.std.specs.List.{filter}
use Rattle.poly_tiling.specs.Puzzle.{is_tiling}
use Rattle.poly_tiling.specs.declared.lister.TheConstants.{MAX_TILINGS}
use Rattle.poly_catalogue.specs.Listed.{AreOfEither, AreOnce, AreSame}
use Rattle.poly_book.proofs.apply.enter.Goals.{After-push, else-not-is_empty-via-else-not-is_empty, else-not-is_empty-via-then-not-is_empty+else-not-has_room}
use Rattle.poly_book.proofs.apply.enter.Goals as goal

popped : {X : Type 0} (xs : List X) (y : X) → take (length (xs ++ y ∷ []) - 1) (xs ++ y ∷ []) ≡ xs
popped xs y = ap (λ n. take n (xs ++ y ∷ [])) (omega (arith, length_push xs y)) ∙ take-append_seam xs (y ∷ [])

-- asking for room leaves the listed tilings as they were
listed_as_before : (c : After-push) → c.else-not-is_empty.listed ≡ c.args.listed.now
listed_as_before c = elim c.else-not-is_empty.branch [ else-not-is_empty-via-then-not-is_empty+else-not-has_room w ↦ w.listed-is ∙ w.has_room.ensures.stays | else-not-is_empty-via-else-not-is_empty w ↦ w.listed-is ]

pub has_room-requires : goal.has_room-requires
has_room-requires c = c.requires.from

pub returns-then-not-has_room : goal.returns-then-not-has_room
returns-then-not-has_room c =
    record {
      log = tt;
      listed = tt;
      log_stays = refl;
      listed_stays = c.has_room.ensures.stays;
      why = inl (refl, omega (arith, eqb-false _ _ (sym c.is_empty.ensures ∙ c.if-not-is_empty.true), c.args.entry.returned.ok.0), omega (arith, leb-false _ _ (sym c.if-not-has_room.ensures.room), c.len.ensures, c.args.entry.returned.ok.0));
    }

pub push-requires : goal.push-requires
push-requires c = c.requires.small

pub returns-in_err-push : goal.returns-in_err-push
returns-in_err-push c =
    let p = err_from_is_err_and c.from_residual.result c.from_residual.ensures.1 in
    rw (p.1, p.2) record {
      log = tt;
      listed = tt;
      log_stays = c.in_err-push.ensures.err;
      listed_stays = listed_as_before (goal.at.returns-in_err-push c).After-push;
      why = inr c.in_err-push.ensures.why;
    }

pub keep_only-requires : goal.keep_only-requires
keep_only-requires c = subst (λ ls. AreOfEither c.args.view.now c.args.delta.now ls) (sym (listed_as_before (goal.at.keep_only-requires c).After-push)) c.requires.from

pub returns-then-is_empty : goal.returns-then-is_empty
returns-then-is_empty c =
    let kept = listed_as_before (goal.at.returns-then-is_empty c).After-push in
    let on = λ (T : List ℕ). is_tiling c.args.view.now T in
    let none = nil_from_length c.args.entry.returned.items (omega (arith, eqb-true _ _ (sym c.is_empty-2.ensures ∙ c.if-is_empty.true), c.args.entry.returned.ok.0)) in
    record {
      log = c.in_ok-push.ensures.ok;
      listed = subst (λ ts. AreSame c.keep_only.new.self ts) (ap (λ ls. filter on ls) kept ∙ sym (append-nil (filter on c.args.listed.now)) ∙ ap (λ ts. filter on c.args.listed.now ++ ts) (sym none)) c.keep_only.ensures;
      log_stays = tt;
      listed_stays = tt;
      why = tt;
    }

pub exchange-requires-clause-from : goal.exchange-requires-clause-from
exchange-requires-clause-from c = subst (λ ls. AreOfEither c.args.view.now c.args.delta.now ls) (sym (listed_as_before (goal.at.exchange-requires-clause-from c).After-push)) c.requires.from

pub exchange-requires-clause-tilings : goal.exchange-requires-clause-tilings
exchange-requires-clause-tilings c = c.requires.tilings

pub exchange-requires-clause-once : goal.exchange-requires-clause-once
exchange-requires-clause-once c = subst (λ ls. AreOnce (ls ++ c.args.entry.returned.items)) (sym (listed_as_before (goal.at.exchange-requires-clause-once c).After-push)) c.requires.once

pub returns-in-Ok : goal.returns-in-Ok
returns-in-Ok c =
    let kept = listed_as_before (goal.at.returns-in-Ok c).After-push in
    record {
      log = c.in_ok-push.ensures.ok;
      listed = subst (λ ls. AreSame c.exchange.new.self (filter (λ T. is_tiling c.args.view.now T) ls ++ c.args.entry.returned.items)) kept c.in-Ok.ensures.ok;
      log_stays = tt;
      listed_stays = tt;
      why = tt;
    }

pub returns-in-Err : goal.returns-in-Err
returns-in-Err c =
    let kept = listed_as_before (goal.at.returns-in-Err c).After-push in
    let g = c.in-Err.ensures in
    let more = c.args.entry.returned.items in
    record {
      log = tt;
      listed = tt;
      log_stays = c.pop.ensures ∙ ap (λ es. take (length es - 1) es) c.in_ok-push.ensures.ok ∙ popped c.args.log.now c.args.entry.guards.items;
      listed_stays = g.err ∙ kept;
      why = elim g.why [
        | inl m ↦ inl (m, omega (arith, eqb-false _ _ (sym c.is_empty-2.ensures ∙ c.if-is_empty.false), c.args.entry.returned.ok.0), subst (λ ls. MAX_TILINGS < length (filter (λ T. is_tiling c.args.view.now T) ls) + length more) kept (g.full.0 (ap Err m)))
        | inr m ↦ inr m
      ];
    }
