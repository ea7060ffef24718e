use Rattle.std.proofs.Common.{Bool, List, ap, arith, false, length, sym, ◌++◌, ◌<◌, ◌∙◌, ◌∷◌, ℕ, ◌≡◌, ◌≤◌, get_or, take, [], rules}
use Rattle.std.specs.List.{filter}
use Rattle.std.proofs.lemmas.List.{get_or_read}
use Rattle.poly_frame.specs.Bits.{NoneIn, in_both}
use Rattle.poly_frame.proofs.FrameQueries.{filter_gap, filter_rest, filter_yes}
use Rattle.poly_frame.proofs.frame.queries.list_both.Goals as goal

-- if the rows have no number in common between two indices, no number there passes the test
fails : (ns rows rs live : List ℕ) (at from low high : ℕ) (f : ℕ → Bool) → rs ≡ rows → ((j : ℕ) → j < length ns → f (get_or ns j 0) ≡ in_both live at rows from j) → NoneIn (in_both live at rs from) low high →
    (x : ℕ) → low ≤ x → x < high → x < length ns → f (get_or ns x 0) ≡ false
fails ns rows rs live at from low high f same h none x l m k = h x k ∙ ap (λ xs. in_both live at xs from x) (sym same) ∙ none x l m

pub returns-then-j-len-clause-items : goal.returns-then-j-len-clause-items
returns-then-j-len-clause-items c = λ f h.
    let ns = c.args.matrix.now.numbers.items in
    let past : length ns ≤ c.in-Some.j = omega (arith, c.if-j-len.true, c.len.ensures, c.args.matrix.now.numbers.ok.0) in
    let none = fails ns c.args.matrix.now.rows.items c.deref.result.now c.args.live.now c.args.at c.args.from c.loop-j.low c.in-Some.j f c.deref.ensures.value h c.in-Some.ensures.before in
    c.loop-j.invariant.items f h ∙ filter_rest f ns c.loop-j.low c.loop-j.invariant.low (λ x l m. none x l (omega (arith, past)) m)

pub returns-clause-items : goal.returns-clause-items
returns-clause-items c = λ f h.
    let ns = c.args.matrix.now.numbers.items in
    let none = fails ns c.args.matrix.now.rows.items c.deref.result.now c.args.live.now c.args.at c.args.from c.loop-j.low _ f c.deref.ensures.value h c.in_default.ensures in
    c.loop-j.invariant.items f h ∙ filter_rest f ns c.loop-j.low c.loop-j.invariant.low (λ x l m. none x l (omega (arith, c.requires.wide)) m)

pub loop-j-preserved : goal.loop-j-preserved
loop-j-preserved c =
    let ns = c.args.matrix.now.numbers.items in
    let low : c.in-Some.j < length ns = omega (arith, c.if-j-len.false, c.len.ensures, c.args.matrix.now.numbers.ok.0) in
    record {
      low = omega (arith, low);
      len = search rules;
      capacity = search rules;
      items = λ f h.
          let read = get_or_read ns c.in-Some.j c.index.result.now low c.index.ensures 0 in
          let none = fails ns c.args.matrix.now.rows.items c.deref.result.now c.args.live.now c.args.at c.args.from c.loop-j.low c.in-Some.j f c.deref.ensures.value h c.in-Some.ensures.before in
          let yes = h c.in-Some.j low ∙ ap (λ xs. in_both c.args.live.now c.args.at xs c.args.from c.in-Some.j) (sym c.deref.ensures.value) ∙ c.in-Some.ensures.is in
          c.push_reserved.ensures.items ∙ ap (λ xs. xs ++ c.index.result.now ∷ []) (c.loop-j.invariant.items f h) ∙ ap (λ n. filter f (take c.loop-j.low ns) ++ n ∷ []) read
          ∙ ap (λ xs. xs ++ get_or ns c.in-Some.j 0 ∷ []) (sym (filter_gap f ns c.loop-j.low c.in-Some.j c.in-Some.ensures.least (omega (arith, low)) (λ x l m. none x l m (omega (arith, low))))) ∙ sym (filter_yes f ns c.in-Some.j low yes);
    }
