-- The lines that a session has answered, and how it goes on and ends.
use Rattle.std.proofs.Common.{◌≡◌, ◌+◌, ◌-◌, ◌<◌, ◌≤◌, ◌++◌, List, [], ◌∷◌, ℕ, refl, sym, ◌∙◌, ap, subst, append_assoc, append-nil, Option, Result, Ok, Err, take, length, length-append, arith, inl, inr}
use Rattle.std.proofs.lemmas.List.{take_all, take_at}
use Rattle.std.specs.Io.KnownBytes.{Appends, Consumes}
use Rattle.poly_cli.specs.declared.lines.Lines.{Lines}
use Rattle.poly_cli.specs.declared.lines.Event.{Event}
use Rattle.poly_cli.specs.declared.lines.Event.TheVariants as event
use Rattle.poly_cli.specs.declared.writing.Fault.{Fault}
use Rattle.poly_cli.specs.declared.writing.Fault.TheVariants.{Read}
use Rattle.poly_cli.specs.Cutting.{open_line, lines_before, lines_of, last_lines, ended, unended}
use Rattle.poly_cli.specs.Buffered.{ahead, room, kept, NextLine}
use Rattle.poly_cli.specs.Runs.{Runs, Writes, Serves, limits_from, lines_heard}
use Rattle.poly_cli.proofs.Known.{consumes_more, appends_more}
use Rattle.poly_cli.proofs.Going.{before_more, open_more, lines_none, none_text, some_text, take_front, take_heard, Goes, goes_line, goes_now, at_last}

-- what holds after `count` lines: `done` is the part of the bytes read that was cut, and `out` is the output of a run on its
-- lines
pub record Answered {S : Type 0} (Says : S → Option (List ℕ) → List ℕ → S → Type 0) (old now : Lines) (start s : S) (first left held_first held : Option (List ℕ)) (count : ℕ) : Type 0 where
  pub done : List ℕ
  pub taken : List ℕ
  pub out : List ℕ
  pub consumed : Consumes first left taken
  pub counted : now.left + length taken ≡ old.left
  pub parts : ahead old ++ taken ≡ done ++ ahead now
  pub limit : now.limit ≡ old.limit
  pub whole : open_line [] done ≡ []
  pub lines : length (lines_before old.limit done) ≡ count
  pub wrote : Appends held_first held out
  pub goes : Goes Says old.limit start s done out

module _ {S : Type 0} (Says : S → Option (List ℕ) → List ℕ → S → Type 0) (old now new : Lines) (start s : S) (first left last held_first held : Option (List ℕ)) (count : ℕ) (a : Answered Says old now start s first left held_first held count) where
  -- after the next line, too, the bytes read are those that were cut and those that are ahead
  cut_more : (e : Event) (n : NextLine e now new left last) → ahead old ++ (a.taken ++ n.taken) ≡ (a.done ++ n.piece) ++ ahead new
  cut_more e n =
      sym (append_assoc (ahead old) a.taken n.taken) ∙ ap (λ z. z ++ n.taken) a.parts ∙ append_assoc a.done (ahead now) n.taken ∙ ap (λ z. a.done ++ z) n.parts ∙ sym (append_assoc a.done n.piece (ahead new))

  cut_all : (e : Event) (n : NextLine e now new left last) → ahead new ≡ [] → ahead old ++ (a.taken ++ n.taken) ≡ a.done ++ n.piece
  cut_all e n none = cut_more e n ∙ rw none (append-nil (a.done ++ n.piece))

  left_more : (e : Event) (n : NextLine e now new left last) → new.left + length (ahead old ++ (a.taken ++ n.taken)) ≡ room old
  left_more e n = omega (arith, length-append (ahead old) (a.taken ++ n.taken), length-append a.taken n.taken, n.counted, a.counted)

  taken_more : (e : Event) (n : NextLine e now new left last) → n.over ≡ [] → Consumes first last (a.taken ++ n.taken)
  taken_more e n none = consumes_more first left last a.taken n.taken a.consumed (subst (λ z. Consumes left last z) (ap (λ z. n.taken ++ z) none ∙ append-nil n.taken) n.consumed)

  -- what holds after `count` lines also holds after one more line that was answered whole
  pub line_answered : (n : NextLine event.Line now new left last) (same : new.limit ≡ now.limit) (said : Option (List ℕ)) → ((bytes : List ℕ) → new.line.items ≡ kept new.limit bytes → said ≡ ended new.limit bytes)
      → (t : S) (out : List ℕ) (held_last : Option (List ℕ)) → Says s said out t → Appends held held_last out → Answered Says old new start t first last held_first held_last (count + 1)
  line_answered n same said is t out held_last says wrote =
      let limit : new.limit ≡ old.limit = same ∙ a.limit in
      let here : said ≡ ended old.limit n.finds.0.bytes = subst (λ z. said ≡ ended z n.finds.0.bytes) limit (is n.finds.0.bytes n.finds.0.line) in
      record {
        done = a.done ++ n.piece;
        taken = a.taken ++ n.taken;
        out = a.out ++ out;
        consumed = taken_more event.Line n n.finds.1;
        counted = omega (arith, length-append a.taken n.taken, n.counted, a.counted);
        parts = cut_more event.Line n;
        limit = limit;
        whole = open_more a.done n.piece a.whole ∙ n.finds.0.after;
        lines = ap length (before_more old.limit a.done n.piece a.whole ∙ rw n.finds.0.whole refl) ∙ length-append (lines_before old.limit a.done) (ended old.limit n.finds.0.bytes ∷ []) ∙ rw a.lines refl;
        wrote = appends_more held_first held held_last a.out out a.wrote wrote;
        goes = goes_line Says old.limit start s t a.done n.piece a.out out n.finds.0.bytes said a.whole n.finds.0.whole here says a.goes;
      }

  -- the session took some bytes, and it served the lines of a stream: the bytes that were ahead at the start, followed by the
  -- bytes taken
  abbrev pub Served : ℕ → Result (Unit {0}) Fault → Option (List ℕ) → Type 0
  Served most r held_last = (taken : List ℕ) × Consumes first last taken × Serves (limits_from most old) Says start (ahead old ++ taken) r last held_first held_last

  pub fault_served : (n : NextLine event.Fault now new left last) (most : ℕ) → count ≤ most → Served most (Err Read) held
  fault_served n most few =
      let heard = ahead old ++ (a.taken ++ n.taken) in
      let all : ahead old ++ (a.taken ++ (n.taken ++ n.over)) ≡ heard ++ n.over = ap (λ z. ahead old ++ z) (sym (append_assoc a.taken n.taken n.over)) ∙ sym (append_assoc (ahead old) (a.taken ++ n.taken) n.over) in
      let within : take (room old) (heard ++ n.over) ≡ heard = take_heard (room old) new.left heard n.over (left_more event.Fault n) n.finds.2 in
      let before : lines_before old.limit heard ≡ lines_before old.limit a.done = ap (lines_before old.limit) (cut_all event.Fault n n.finds.1) ∙ lines_none old.limit a.done n.piece a.whole n.finds.0.whole in
      let lines : lines_heard (limits_from most old) (ahead old ++ (a.taken ++ (n.taken ++ n.over))) ≡ lines_before old.limit a.done
      = rw (all, within, before) (take_all most (lines_before old.limit a.done) (omega (arith, a.lines, few))) in
      (a.taken ++ (n.taken ++ n.over), consumes_more first left last a.taken (n.taken ++ n.over) a.consumed n.consumed, (a.out, a.wrote, rw lines (goes_now Says old.limit start s a.done a.out a.goes)))

  -- if at most `count` lines are allowed, the session may answer nothing more and end with a read fault, whatever comes next
  pub limit_served : (e : Event) (n : NextLine e now new left last) → Served count (Err Read) held
  limit_served e n =
      let more = ahead now ++ (n.taken ++ n.over) in
      let all : ahead old ++ (a.taken ++ (n.taken ++ n.over)) ≡ a.done ++ more = sym (append_assoc (ahead old) a.taken (n.taken ++ n.over)) ∙ ap (λ z. z ++ (n.taken ++ n.over)) a.parts ∙ append_assoc a.done (ahead now) (n.taken ++ n.over) in
      let short : length a.done ≤ room old = omega (arith, ap length a.parts, length-append (ahead old) a.taken, length-append a.done (ahead now), a.counted) in
      let within : take (room old) (a.done ++ more) ≡ a.done ++ take (room old - length a.done) more = take_front (room old) a.done more short in
      let lines : lines_heard (limits_from count old) (ahead old ++ (a.taken ++ (n.taken ++ n.over))) ≡ lines_before old.limit a.done
      = rw (all, within, before_more old.limit a.done (take (room old - length a.done) more) a.whole) (take_at (lines_before old.limit a.done) _ count a.lines) in
      (a.taken ++ (n.taken ++ n.over), consumes_more first left last a.taken (n.taken ++ n.over) a.consumed n.consumed, (a.out, a.wrote, rw lines (goes_now Says old.limit start s a.done a.out a.goes)))

  short_all : (e : Event) (n : NextLine e now new left last) → length (ahead old ++ (a.taken ++ n.taken)) ≤ room old
  short_all e n = omega (arith, left_more e n)

  -- the input ends, and no line has begun
  pub end_served : (n : NextLine event.End now new left last) (most : ℕ) → new.line.items ≡ [] → count ≤ most → Served most (Ok tt) held
  end_served n most empty few =
      let bytes = cut_all event.End n n.finds.1 in
      let opens : open_line [] (a.done ++ n.piece) ≡ [] = open_more a.done n.piece a.whole ∙ none_text new.limit n.piece new.line.items n.finds.0 empty in
      let lines : lines_of old.limit (ahead old ++ (a.taken ++ n.taken)) ≡ lines_before old.limit a.done
      = rw (bytes, opens, lines_none old.limit a.done n.piece a.whole n.finds.0.whole) (append-nil (lines_before old.limit a.done)) in
      (a.taken ++ n.taken, taken_more event.End n n.finds.3, (n.finds.2, short_all event.End n, rw (lines, a.lines) few, (a.out, a.wrote, rw lines (goes_now Says old.limit start s a.done a.out a.goes))))

  -- the last line, which ends with the input
  module _ (n : NextLine event.End now new left last) (most : ℕ) (few : count < most) (some : new.line.items ≡ [] → ⊥) (same : new.limit ≡ now.limit) (said : Option (List ℕ))
      (is : (bytes : List ℕ) → new.line.items ≡ kept new.limit bytes → said ≡ unended new.limit bytes) (t : S) (out : List ℕ) (says : Says s said out t) where
    last_run : Runs Says start (lines_of old.limit (ahead old ++ (a.taken ++ n.taken))) (a.out ++ out)
    last_run =
        let limit : new.limit ≡ old.limit = same ∙ a.limit in
        let here : said ≡ unended old.limit (open_line [] n.piece) = subst (λ z. said ≡ unended z (open_line [] n.piece)) limit (is (open_line [] n.piece) n.finds.0.line) in
        rw (cut_all event.End n n.finds.1) (at_last Says old.limit start s t a.done n.piece a.out out said a.whole n.finds.0.whole (some_text new.limit n.piece new.line.items n.finds.0 some) here says a.goes)

    last_few : length (lines_of old.limit (ahead old ++ (a.taken ++ n.taken))) ≤ most
    last_few =
        let opens : open_line [] (a.done ++ n.piece) ≡ open_line [] n.piece = open_more a.done n.piece a.whole in
        let one : length (last_lines old.limit (open_line [] n.piece)) ≤ 1 = at_most_one (open_line [] n.piece) in
        rw (cut_all event.End n n.finds.1, opens, lines_none old.limit a.done n.piece a.whole n.finds.0.whole) (omega (arith, length-append (lines_before old.limit a.done) (last_lines old.limit (open_line [] n.piece)), a.lines, one, few))
      where
        at_most_one : (l : List ℕ) → length (last_lines old.limit l) ≤ 1
        at_most_one [] = omega arith
        at_most_one (x ∷ xs) = omega arith

    last_served : (held_last : Option (List ℕ)) → Appends held held_last out → Served most (Ok tt) held_last
    last_served held_last wrote = (a.taken ++ n.taken, taken_more event.End n n.finds.3, (n.finds.2, short_all event.End n, last_few, (a.out ++ out, appends_more held_first held held_last a.out out a.wrote wrote, last_run)))

    last_unserved : (held_last : Option (List ℕ)) (e : Fault) → Writes (Err e) held held_last out → Served most (Err e) held_last
    last_unserved held_last e w =
        let lines = lines_of old.limit (ahead old ++ (a.taken ++ n.taken)) in
        let all : lines ++ [] ≡ take most lines = append-nil lines ∙ sym (take_all most lines last_few) in
        subst (λ f. Served most (Err f) held_last) (sym w.0)
        (a.taken ++ n.taken, taken_more event.End n n.finds.3, (a.out ++ w.1, w.2, lines, [], appends_more held_first held held_last a.out w.1 a.wrote w.3, rw (append_assoc a.out w.1 w.2, w.4) last_run, inr (n.finds.2, short_all event.End n, all)))

    pub last_line : (held_last : Option (List ℕ)) (r : Result (Unit {0}) Fault) → Writes r held held_last out → Served most r held_last
    last_line held_last (Ok tt) w = last_served held_last w
    last_line held_last (Err e) w = last_unserved held_last e w

  -- a whole line was read, but writing its answer failed
  pub line_unserved : (n : NextLine event.Line now new left last) (most : ℕ) → count < most → new.limit ≡ now.limit → (said : Option (List ℕ)) → ((bytes : List ℕ) → new.line.items ≡ kept new.limit bytes → said ≡ ended new.limit bytes)
      → (t : S) (out : List ℕ) (held_last : Option (List ℕ)) (e : Fault) → Says s said out t → Writes (Err e) held held_last out → Served most (Err e) held_last
  line_unserved n most few same said is t out held_last e says w =
      let limit : new.limit ≡ old.limit = same ∙ a.limit in
      let here : said ≡ ended old.limit n.finds.0.bytes = subst (λ z. said ≡ ended z n.finds.0.bytes) limit (is n.finds.0.bytes n.finds.0.line) in
      let goes = goes_line Says old.limit start s t a.done n.piece a.out out n.finds.0.bytes said a.whole n.finds.0.whole here says a.goes in
      let whole : open_line [] (a.done ++ n.piece) ≡ [] = open_more a.done n.piece a.whole ∙ n.finds.0.after in
      let lines = lines_before old.limit (a.done ++ n.piece) in
      let number : length lines ≡ count + 1 = ap length (before_more old.limit a.done n.piece a.whole ∙ rw n.finds.0.whole refl) ∙ length-append (lines_before old.limit a.done) (ended old.limit n.finds.0.bytes ∷ []) ∙ rw a.lines refl in
      let more = take (most - length lines) (lines_before old.limit (ahead new)) in
      let all : lines_heard (limits_from most old) (ahead old ++ (a.taken ++ n.taken)) ≡ lines ++ more
      = rw (take_all (room old) (ahead old ++ (a.taken ++ n.taken)) (short_all event.Line n), cut_more event.Line n, before_more old.limit (a.done ++ n.piece) (ahead new) whole) (take_front most lines (lines_before old.limit (ahead new)) (omega (arith, number, few))) in
      subst (λ f. Served most (Err f) held_last) (sym w.0) (
        a.taken ++ n.taken,
        taken_more event.Line n n.finds.1,
        (
          a.out ++ w.1,
          w.2,
          lines,
          more,
          appends_more held_first held held_last a.out w.1 a.wrote w.3,
          rw (append_assoc a.out w.1 w.2, w.4) (goes_now Says old.limit start t (a.done ++ n.piece) (a.out ++ out) goes),
          inl (sym all),
        ),
      )
