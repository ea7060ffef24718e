use Rattle.std.proofs.Common.{Bool, List, [], ap, cond, false, filter, get_or, length, map, nat_lt, subst, sym, take, true, ℕ, ◌+◌, ◌++◌, ◌<◌, ◌∙◌, ◌∷◌, ◌≡◌, ◌≤◌}
use Rattle.std.proofs.lemmas.Bool.{le-ltb, lt-ltb}
use Rattle.std.proofs.lemmas.List.{append-nil, map-append, take_all}
use Rattle.std.proofs.lemmas.List.Elements.{filter_more}
use Rattle.poly_tiling.specs.declared.bound.Bound.{Bound}
use Rattle.poly_tiling.specs.declared.item.Item.{Item}
use Rattle.poly_tiling.specs.Puzzle.{bound_in}
use Rattle.poly_place.proofs.delta.risen.Goals.{else-least_in-bound, then-least_in-bound+in_ok-push}
use Rattle.poly_place.proofs.delta.risen.Goals as goal

chosen_more : {X Y : Type 0} (f : X → Y) (p : X → Bool) (xs : List X) (i : ℕ) (x : X) (b : Bool) → i < length xs → x ≡ get_or xs i x → p x ≡ b →
    map f (filter p (take i xs)) ++ map f (cond b (x ∷ []) []) ≡ map f (filter p (take (i + 1) xs))
chosen_more f p xs i x b lt is e =
    let before = filter p (take i xs) in
    let one : cond (p (get_or xs i x)) (get_or xs i x ∷ []) [] ≡ cond b (x ∷ []) [] = (λ t. cond (p (sym is t)) (sym is t ∷ []) []) ∙ ap (λ c. cond c (x ∷ []) []) e in
    sym (ap (map f) (filter_more p xs i x lt ∙ ap (λ l. before ++ l) one) ∙ map-append f before (cond b (x ∷ []) []))

pub loop-bound-preserved : goal.loop-bound-preserved
loop-bound-preserved c =
    let from = c.args.from.now in
    let x = c.bound-item.result in
    let higher : Bound → Bool = λ b. nat_lt (bound_in from b.item (λ d. d.least)) b.least in
    let item : Bound → Item = λ b. b.item in
    let before = map item (filter higher (take c.loop-bound.bound-index c.args.to.now)) in
    elim c.if-least_in-bound.branch [
      | then-least_in-bound+in_ok-push w ↦
          ap (λ l. l.items) w.list-is ∙ w.in_ok-push.ensures.items ∙ ap (λ l. l ++ x.item ∷ []) c.loop-bound.invariant
          ∙ chosen_more item higher c.args.to.now c.loop-bound.bound-index x true c.loop-bound-test.true c.bound-item.is (lt-ltb (bound_in from x.item (λ d. d.least)) x.least (subst (λ n. n < x.least) c.least_in.ensures w.if-least_in-bound.true))
      | else-least_in-bound w ↦
          ap (λ l. l.items) w.list-is ∙ c.loop-bound.invariant ∙ sym (append-nil before)
          ∙ chosen_more item higher c.args.to.now c.loop-bound.bound-index x false c.loop-bound-test.true c.bound-item.is (le-ltb (bound_in from x.item (λ d. d.least)) x.least (subst (λ n. x.least ≤ n) c.least_in.ensures w.if-least_in-bound.false))
    ]

pub returns : goal.returns
returns c = c.loop-bound.invariant ∙ ap (λ l. map (λ b. b.item) (filter (λ b. nat_lt (bound_in c.args.from.now b.item (λ d. d.least)) b.least) l)) (take_all c.loop-bound.bound-index c.args.to.now c.loop-bound-test.false)
