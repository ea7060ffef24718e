-- How a session opens with its first line, and goes on with those after it.
use Rattle.std.proofs.Common.{◌≡◌, ◌+◌, ◌-◌, ◌<◌, ◌≤◌, ◌++◌, List, [], ◌∷◌, ℕ, None, Option, Some, suc, refl, sym, ◌∙◌, ap, subst, append_assoc, append-nil, Result, Ok, Err, take, length, length-append, arith, inl, inr}
use Rattle.std.specs.Prelude.{◌⊎◌}
use Rattle.std.proofs.lemmas.Bool.{le-ltb}
use Rattle.std.proofs.Math.Seq.{take-append-add, take-nil}
use Rattle.std.specs.Io.KnownBytes.{Appends, Consumes}
use Rattle.poly_grid.specs.declared.grid.Grid.{Grid}
use Rattle.poly_grid.specs.declared.refusal.Refusal.{Refusal}
use Rattle.poly_grid.specs.declared.refusal.Refusal.TheVariants.{Memory}
use Rattle.poly_design.specs.Layout.{Layout}
use Rattle.poly_cli.specs.declared.lines.TheConstants.{INPUT_LIMIT, LINE_LIMIT}
use Rattle.poly_cli.specs.declared.sessions.TheConstants.{LINE_COUNT}
use Rattle.poly_cli.specs.declared.lines.Lines.{Lines}
use Rattle.poly_cli.specs.declared.lines.Event.TheVariants as event
use Rattle.poly_cli.specs.declared.writing.Fault.{Fault}
use Rattle.poly_cli.specs.declared.writing.Fault.TheVariants.{Read, Write}
use Rattle.poly_cli.specs.declared.sessions.End.{End}
use Rattle.poly_cli.specs.declared.sessions.End.TheVariants.{Done, Refused}
use Rattle.poly_cli.specs.Cutting.{open_line, whole_lines, lines_before, lines_of, last_lines, ended, unended}
use Rattle.poly_cli.specs.Buffered.{ahead, room, kept, NextLine}
use Rattle.poly_text.specs.Replies.{ok_text, refusal_text}
use Rattle.poly_cli.specs.Runs.{AreReadWhole, Limits, Writes, Serves, limits_from, lines_heard}
use Rattle.poly_cli.specs.Slow.{Slow}
use Rattle.poly_cli.specs.States.{IsRefusedFor, State}
use Rattle.poly_cli.specs.Sessions.{or_empty, session_lines, Accepts, FirstSays, Refuses, Opens, opening_text, RunsOpened, RunsRefused, SessionSays, session_limits}
use Rattle.poly_cli.proofs.Known.{consumes_more, appends_none, appends_more}
use Rattle.poly_cli.proofs.Going.{before_more, lines_more, take_heard}

-- the first n elements of a list are its first element and n - 1 more
take_first : {X : Type 0} (n : ℕ) (x : X) (xs : List X) → 0 < n → take n (x ∷ xs) ≡ x ∷ take (n - 1) xs
take_first {X} n x xs some = let e : n ≡ suc (n - 1) = omega (arith, some) in subst (λ m. take m (x ∷ xs) ≡ x ∷ take (n - 1) xs) (sym e) refl

-- an input without a line feed has one line, even if it is empty
one_line : (limit : ℕ) (piece : List ℕ) (said : Option (List ℕ)) → whole_lines [] piece ≡ [] → said ≡ unended limit (open_line [] piece) → session_lines limit piece ≡ said ∷ []
one_line limit piece said whole is = rw (whole, is) (go (open_line [] piece))
  where
    go : (l : List ℕ) → or_empty (last_lines limit l) ≡ unended limit l ∷ []
    go [] = rw (le-ltb limit 0 (omega arith)) refl
    go (x ∷ xs) = refl

module _ (Failures : Refusal → Type 0) (failed : Option Refusal) (old new : Lines) (first left held : Option (List ℕ)) (fresh : ahead old ≡ []) (most : ℕ) (some : 0 < most) where
  abbrev pub Session : Result End Fault → Option (List ℕ) → Option (List ℕ) → Type 0
  Session r last held_last = (taken : List ℕ) × Consumes first last taken × SessionSays Failures failed (limits_from most old) taken r last held held_last

  -- the first line ended with a line feed
  module _ (n : NextLine event.Line old new first left) (same : new.limit ≡ old.limit) (said : Option (List ℕ)) (is : (bytes : List ℕ) → new.line.items ≡ kept new.limit bytes → said ≡ ended new.limit bytes) where
    all_taken : n.taken ≡ n.piece ++ ahead new
    all_taken = rw fresh at n.parts

    consumed : Consumes first left n.taken
    consumed = subst (λ z. Consumes first left z) (ap (λ z. n.taken ++ z) n.finds.1 ∙ append-nil n.taken) n.consumed

    is_first : lines_before old.limit n.piece ≡ said ∷ []
    is_first = rw n.finds.0.whole (ap (λ z. z ∷ []) (sym (subst (λ z. said ≡ ended z n.finds.0.bytes) same (is n.finds.0.bytes n.finds.0.line))))

    room_left : room old ≡ length n.piece + room new
    room_left = omega (arith, ap length fresh, n.counted, ap length all_taken, length-append n.piece (ahead new))

    lines_after : (rest : List ℕ) → lines_of old.limit (n.piece ++ rest) ≡ said ∷ lines_of old.limit rest
    lines_after rest = lines_more old.limit n.piece rest n.finds.0.after ∙ ap (λ z. z ++ lines_of old.limit rest) is_first

    within_after : (rest : List ℕ) → take (room old) (n.piece ++ rest) ≡ n.piece ++ take (room new) rest
    within_after rest = rw room_left (take-append-add n.piece rest (room new))

    heard_after : (rest : List ℕ) → lines_heard (limits_from most old) (n.piece ++ rest) ≡ said ∷ lines_heard (limits_from (most - 1) new) rest
    heard_after rest =
        rw (within_after rest, before_more old.limit n.piece (take (room new) rest) n.finds.0.after, is_first, same) (take_first most said (lines_before old.limit (take (room new) rest)) some)

    read_after : (bytes rest : List ℕ) → bytes ≡ n.piece ++ rest → said ∷ lines_heard (limits_from (most - 1) new) rest ≡ lines_heard (limits_from most old) bytes
    read_after bytes rest e = rw e (sym (heard_after rest))

    pub line_refused : (e : Refusal) (held_last : Option (List ℕ)) → Refuses failed said e → Appends held held_last (refusal_text e) → Session (Ok Refused) left held_last
    line_refused e held_last refuses wrote = (n.taken, consumed, (refusal_text e, said ∷ lines_heard (limits_from (most - 1) new) (ahead new), wrote, inl (read_after n.taken (ahead new) all_taken), (e, refuses, refl)))

    pub line_unanswered : (opened : Result Grid Refusal) (t : State) (f : Fault) (held_last : Option (List ℕ)) → Opens failed said opened t → Writes (Err f) held held_last (opening_text opened) → Session (Err f) left held_last
    line_unanswered opened t f held_last opens w = subst (λ g. Session (Err g) left held_last) (sym w.0)
        (n.taken, consumed, (w.1, w.2, said ∷ [], lines_heard (limits_from (most - 1) new) (ahead new), w.3, go opened opens w.4, inl (read_after n.taken (ahead new) all_taken)))
      where
        go : (o : Result Grid Refusal) → Opens failed said o t → w.1 ++ w.2 ≡ opening_text o → RunsOpened Failures failed (said ∷ []) (w.1 ++ w.2) ⊎ RunsRefused failed n.taken (said ∷ []) (w.1 ++ w.2)
        go (Ok x) a e = inl (t, [], a.0, refl, e ∙ sym (append-nil (ok_text 0)))
        go (Err x) a e = inr (x, a, e)

    abbrev pub after : Result (Unit {0}) Fault → Result End Fault
    after (Ok x) = Ok Done
    after (Err f) = Err f

    -- the lines after the first were served
    pub then_served : (t : State) (mid held_last last : Option (List ℕ)) (r : Result (Unit {0}) Fault) → Accepts failed said t → Appends held mid (ok_text 0)
        → (more : List ℕ) × Consumes left last more × Serves (limits_from (most - 1) new) (Slow Failures) t (ahead new ++ more) r last mid held_last → Session (after r) last held_last
    then_served t mid held_last last r accepts wrote s = (n.taken ++ s.0, consumes_more first left last n.taken s.0 consumed s.1, go r s.2)
      where
        bytes : n.taken ++ s.0 ≡ n.piece ++ (ahead new ++ s.0)
        bytes = ap (λ z. z ++ s.0) all_taken ∙ append_assoc n.piece (ahead new) s.0

        whole : session_lines old.limit (n.taken ++ s.0) ≡ said ∷ lines_of new.limit (ahead new ++ s.0)
        whole = rw (bytes, lines_after (ahead new ++ s.0), same) refl

        short : length (ahead new ++ s.0) ≤ room new → length (n.taken ++ s.0) ≤ room old
        short few = omega (arith, ap length bytes, length-append n.piece (ahead new ++ s.0), room_left, few)

        read : (lines : List (Option (List ℕ))) → AreReadWhole (limits_from (most - 1) new) (lines_of new.limit) (ahead new ++ s.0) last lines
            → AreReadWhole (limits_from most old) (session_lines old.limit) (n.taken ++ s.0) last (said ∷ lines)
        read lines (inl e) = inl (ap (λ z. said ∷ z) e ∙ read_after (n.taken ++ s.0) (ahead new ++ s.0) bytes)
        read lines (inr (ended, few, e)) = inr (ended, short few, rw whole (ap (λ z. said ∷ z) e ∙ sym (take_first most said (lines_of new.limit (ahead new ++ s.0)) some)))

        go : (q : Result (Unit {0}) Fault) → Serves (limits_from (most - 1) new) (Slow Failures) t (ahead new ++ s.0) q last mid held_last → SessionSays Failures failed (limits_from most old) (n.taken ++ s.0) (after q) last held held_last
        go (Ok x) v = (
          v.0,
          short v.1,
          rw whole (omega (arith, v.2, some)),
          (ok_text 0 ++ v.3.0, appends_more held mid held_last (ok_text 0) v.3.0 wrote v.3.1, rw whole (t, v.3.0, accepts, v.3.2, refl)),
        )
        go (Err Read) v = (ok_text 0 ++ v.0, appends_more held mid held_last (ok_text 0) v.0 wrote v.1, rw (bytes, heard_after (ahead new ++ s.0)) (t, v.0, accepts, v.2, refl))
        go (Err Write) v = (
          ok_text 0 ++ v.0,
          v.1,
          said ∷ v.2,
          v.3,
          appends_more held mid held_last (ok_text 0) v.0 wrote v.4,
          inl (t, v.0 ++ v.1, accepts, v.5, append_assoc (ok_text 0) v.0 v.1),
          read (v.2 ++ v.3) v.6,
        )

  -- the first line ended with the input
  module _ (n : NextLine event.End old new first left) (same : new.limit ≡ old.limit) (said : Option (List ℕ)) (is : (bytes : List ℕ) → new.line.items ≡ kept new.limit bytes → said ≡ unended new.limit bytes) where
    all_piece : n.taken ≡ n.piece
    all_piece = (rw fresh at n.parts) ∙ rw n.finds.1 (append-nil n.piece)

    consumed_end : Consumes first left n.taken
    consumed_end = subst (λ z. Consumes first left z) (ap (λ z. n.taken ++ z) n.finds.3 ∙ append-nil n.taken) n.consumed

    only_line : session_lines old.limit n.taken ≡ said ∷ []
    only_line = rw all_piece (one_line old.limit n.piece said n.finds.0.whole (subst (λ z. said ≡ unended z (open_line [] n.piece)) same (is (open_line [] n.piece) n.finds.0.line)))

    short : length n.taken ≤ room old
    short = omega (arith, n.counted)

    read_last : said ∷ take (most - 1) [] ≡ take most (session_lines old.limit n.taken)
    read_last = rw only_line (sym (take_first most said [] some))

    pub end_refused : (e : Refusal) (held_last : Option (List ℕ)) → Refuses failed said e → Appends held held_last (refusal_text e) → Session (Ok Refused) left held_last
    end_refused e held_last refuses wrote = (n.taken, consumed_end, (refusal_text e, said ∷ take (most - 1) [], wrote, inr (n.finds.2, short, read_last), (e, refuses, refl)))

    pub end_done : (t : State) (held_last : Option (List ℕ)) → Accepts failed said t → Appends held held_last (ok_text 0) → Session (Ok Done) left held_last
    end_done t held_last accepts wrote =
        (n.taken, consumed_end, (n.finds.2, short, rw only_line (omega (arith, some)), (ok_text 0, wrote, rw only_line (t, [], accepts, refl, sym (append-nil (ok_text 0))))))

    pub end_unanswered : (opened : Result Grid Refusal) (t : State) (f : Fault) (held_last : Option (List ℕ)) → Opens failed said opened t → Writes (Err f) held held_last (opening_text opened) → Session (Err f) left held_last
    end_unanswered opened t f held_last opens w = subst (λ g. Session (Err g) left held_last) (sym w.0)
        (n.taken, consumed_end, (w.1, w.2, said ∷ [], take (most - 1) [], w.3, go opened opens w.4, inr (n.finds.2, short, read_last)))
      where
        go : (o : Result Grid Refusal) → Opens failed said o t → w.1 ++ w.2 ≡ opening_text o → RunsOpened Failures failed (said ∷ []) (w.1 ++ w.2) ⊎ RunsRefused failed n.taken (said ∷ []) (w.1 ++ w.2)
        go (Ok x) a e = inl (t, [], a.0, refl, e ∙ sym (append-nil (ok_text 0)))
        go (Err x) a e = inr (x, a, e)

  -- no line was read whole
  pub fault_opened : (n : NextLine event.Fault old new first left) → Session (Err Read) left held
  fault_opened n =
      let taken : n.taken ≡ n.piece = (rw fresh at n.parts) ∙ rw n.finds.1 (append-nil n.piece) in
      let within : take (room old) (n.taken ++ n.over) ≡ n.taken = take_heard (room old) new.left n.taken n.over (omega (arith, n.counted, ap length fresh)) n.finds.2 in
      let none : lines_heard (limits_from most old) (n.taken ++ n.over) ≡ [] = rw (within, taken, n.finds.0.whole) (take-nil most) in
      (n.taken ++ n.over, n.consumed, ([], appends_none held, rw none refl))

abbrev limits_of : ℕ → ℕ → ℕ → Limits
limits_of line bytes lines = record { line = line; bytes = bytes; lines = lines }

-- a line that gives a design is refused if the engine, which had to begin with the design, refuses
pub begin_refused : (failed : Option Refusal) (line : Option (List ℕ)) (design : Layout) (e : Refusal) → FirstSays line (Ok design) → IsRefusedFor (λ cause. cause ≡ Memory) failed e → Refuses failed line e
begin_refused None line design e says memory = inl memory
begin_refused (Some failure) line design e says is = inr (inr (design, says, ap Some (sym is)))

-- the limits of a session that has read nothing yet
pub limits_are : (l : Lines) → l.limit ≡ LINE_LIMIT → l.left ≡ INPUT_LIMIT → ahead l ≡ [] → limits_from LINE_COUNT l ≡ session_limits
unfolding session_limits
limits_are l line left fresh =
    let bytes : room l ≡ INPUT_LIMIT = omega (arith, ap length fresh, left) in
    ap (λ (n : ℕ). limits_of n (room l) LINE_COUNT) line ∙ ap (λ (n : ℕ). limits_of LINE_LIMIT n LINE_COUNT) bytes

module _ (Failures : Refusal → Type 0) (failed : Option Refusal) (m : Limits) (left held held_last : Option (List ℕ)) where
  -- memory ran out before anything was read
  none_read : [] ≡ lines_heard m []
  none_read = rw (take-nil m.bytes) (sym (take-nil m.lines))

  pub unread_refused : Appends held held_last (refusal_text Memory) → SessionSays Failures failed m [] (Ok Refused) left held held_last
  unread_refused wrote = (refusal_text Memory, [], wrote, inl none_read, (refl, refl))

  pub unread_unanswered : (f : Fault) → Writes (Err f) held held_last (refusal_text Memory) → SessionSays Failures failed m [] (Err f) left held held_last
  unread_unanswered f w = subst (λ g. SessionSays Failures failed m [] (Err g) left held held_last) (sym w.0) (w.1, w.2, [], [], w.3, inr (refl, w.4), inl none_read)

pub with_limits : (Failures : Refusal → Type 0) (failed : Option Refusal) (m k : Limits) (r : Result End Fault) (first last held held_last : Option (List ℕ)) → m ≡ k → (taken : List ℕ) × Consumes first last taken × SessionSays Failures failed m taken r last held held_last
    → (taken : List ℕ) × Consumes first last taken × SessionSays Failures failed k taken r last held held_last
with_limits Failures failed m k r first last held held_last e run = subst (λ z. (taken : List ℕ) × Consumes first last taken × SessionSays Failures failed z taken r last held held_last) e run
