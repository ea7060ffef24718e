-- What more nodes and more atoms change of a trail.
use Rattle.std.proofs.Common.{Err, IfOk, Ok, OnOk, Result, Some, [], List, ap, arith, get_or, inl, inr, length, sym, take, zero, suc, ℕ, ◌++◌, ◌+◌, ◌<◌, ◌∙◌, ◌∷◌, ◌≡◌, ◌≤◌}
use Rattle.std.proofs.lemmas.List.{get_or-take, get_or_append_left, get_or_push, length-take-le, length_push, take-append-le, take-take, take_all}
use Rattle.poly_atom.specs.declared.atom.Atom.{Atom}
use Rattle.poly_grid.specs.declared.refusal.Refusal.{Refusal}
use Rattle.poly_lists.specs.Linked.{AreEarlier, Extends, at_node}
use Rattle.poly_lists.specs.Trails.{IsAt, IsTrail}
use Rattle.poly_lists.specs.declared.nodes.Link.{Link}
use Rattle.poly_lists.proofs.Linking.{at_push, below_push, extends_self, no_node, step_grows}

-- more nodes
pub trail_over : (old new : List Link) (trail : List ℕ) (last : List Atom) → Extends old new → IsTrail old trail last → IsTrail new trail last
trail_over old new trail last f t = record {
  few = t.few;
  inside = λ i h. omega (arith, t.inside i h, f.longer);
  begin = λ i h. f.same (get_or trail i 0) (t.inside i h) ∙ t.begin i h;
}

-- more nodes, the last of which has the same list
pub at_over : (old new : List Link) (trail : List ℕ) (last : List Atom) (before : ℕ) → Extends old new → at_node new (length new) ≡ at_node old before → IsAt old trail last before → IsAt new trail last (length new)
at_over old new trail last before f same at = record {
  begun = trail_over old new trail last f at.begun;
  even = at.even;
  inside = omega arith;
  whole = same ∙ at.whole;
}

-- one atom more
pub trail_longer : (ls : List Link) (trail : List ℕ) (last new : List Atom) (a : Atom) → new ≡ last ++ a ∷ [] → IsTrail ls trail last → IsTrail ls trail new
trail_longer ls trail last new a is t = record {
  few = omega (arith, t.few, ap length is, length_push last a);
  inside = t.inside;
  begin = λ i h. t.begin i h ∙ sym (ap (λ l. take (i + 1) l) is ∙ take-append-le (i + 1) last (a ∷ []) (omega (arith, t.few, h)));
}

-- one node more
pub trail_push : (ls : List Link) (trail new : List ℕ) (last : List Atom) (n : ℕ) → new ≡ trail ++ n ∷ [] → IsTrail ls trail last → length trail + 1 ≡ length last → n ≤ length ls → at_node ls n ≡ last → IsTrail ls new last
trail_push ls trail new last n is t e inside whole =
    let longer : length new ≡ length trail + 1 = omega (arith, ap length is, length_push trail n) in
    let old : (i : ℕ) → i < length trail → get_or new i 0 ≡ get_or trail i 0 = λ i h. ap (λ l. get_or l i 0) is ∙ get_or_append_left trail (n ∷ []) 0 i h in
    let end : (i : ℕ) → length trail ≡ i → get_or new i 0 ≡ n = λ i h. ap (λ l. get_or l i 0) is ∙ get_or_push trail n 0 i h in
    record {
      few = omega (arith, longer, e);
      inside = λ i h. elim (below_push i (length trail) (omega (arith, h, longer))) [
        | inl m ↦ omega (arith, old i m, t.inside i m)
        | inr m ↦ omega (arith, end i m, inside)
      ];
      begin = λ i h. elim (below_push i (length trail) (omega (arith, h, longer))) [
        | inl m ↦ ap (at_node ls) (old i m) ∙ t.begin i m
        | inr m ↦ ap (at_node ls) (end i m) ∙ whole ∙ sym (take_all (i + 1) last (omega (arith, e, m)))
      ];
    }

-- fewer nodes, and as many atoms
pub trail_back : (ls : List Link) (trail : List ℕ) (last : List Atom) (n : ℕ) → n ≤ length trail → IsTrail ls trail last → IsTrail ls (take n trail) (take n last)
trail_back ls trail last n m t =
    let count : length (take n trail) ≡ n = length-take-le n trail m in
    let node : (i : ℕ) → i < length (take n trail) → get_or (take n trail) i 0 ≡ get_or trail i 0 = λ i h. get_or-take n trail i 0 (omega (arith, h, count)) in
    record {
      few = omega (arith, count, length-take-le n last (omega (arith, m, t.few)));
      inside = λ i h. omega (arith, node i h, t.inside i (omega (arith, h, count, m)));
      begin = λ i h. ap (at_node ls) (node i h) ∙ t.begin i (omega (arith, h, count, m)) ∙ sym (take-take (i + 1) n last (omega (arith, h, count)));
    }

at_back : (ls : List Link) (trail : List ℕ) (last : List Atom) (n : ℕ) → n ≤ length trail → IsTrail ls trail last → (get_or (0 ∷ trail) n 0 ≤ length ls) × (at_node ls (get_or (0 ∷ trail) n 0) ≡ take n last)
at_back ls trail last zero m t = (omega arith, no_node ls)
at_back ls trail last (suc n) m t =
    let more : n + 1 ≡ suc n = omega arith in
    (t.inside n (omega (arith, m)), t.begin n (omega (arith, m)) ∙ ap (λ k. take k last) more)

-- at the last node of a shorter trail
pub back_to : (ls : List Link) (trail new : List ℕ) (last newer : List Atom) (n node : ℕ) → n ≤ length trail → IsTrail ls trail last → new ≡ take n trail → newer ≡ take n last → node ≡ get_or (0 ∷ trail) n 0 → IsAt ls new newer node
back_to ls trail new last newer n node m t is are at =
    let found = at_back ls trail last n m t in
    record {
      begun = rw (is, are) (trail_back ls trail last n m t);
      even = omega (arith, ap length is, length-take-le n trail m, ap length are, length-take-le n last (omega (arith, m, t.few)));
      inside = omega (arith, at, found.0);
      whole = ap (at_node ls) at ∙ found.1 ∙ sym are;
    }

-- one node and one atom more
pub pushed_at : (old new : List Link) (trail trail' : List ℕ) (last last' : List Atom) (a : Atom) (n : ℕ) → AreEarlier 0 old → new ≡ old ++ (record { before = length old; atom = Some a }) ∷ [] → last' ≡ last ++ a ∷ [] → trail' ≡ trail ++ n ∷ [] → n ≡ length new → IsAt old trail last (length old) → IsAt new trail' last' (length new)
pushed_at old new trail trail' last last' a n h is atoms nodes e at =
    let l : Link = record { before = length old; atom = Some a } in
    let grows = step_grows old old new l is (extends_self old h) (omega arith) in
    let longer = trail_longer new trail last last' a atoms (trail_over old new trail last grows at.begun) in
    let count : length last' ≡ length last + 1 = omega (arith, ap length atoms, length_push last a) in
    let number : length new ≡ length old + 1 = omega (arith, ap length is, length_push old l) in
    let whole : at_node new (length new) ≡ last' = ap (λ ls. at_node ls (length new)) is ∙ at_push old l (length new) number ∙ ap (λ B. B ++ a ∷ []) at.whole ∙ sym atoms in
    record {
      begun = trail_push new trail trail' last' n nodes longer (omega (arith, count, at.even)) (omega (arith, e)) (ap (at_node new) e ∙ whole);
      even = omega (arith, ap length nodes, length_push trail n, count, at.even);
      inside = omega arith;
      whole = whole;
    }

-- the node has the list that was asked for
pub at_end : (r : Result ℕ Refusal) (ls : List Link) (trail : List ℕ) (last whole : List Atom) → IfOk r (λ n. IsAt ls trail last n) → OnOk r (last ≡ whole) → IfOk r (λ n. at_node ls n ≡ whole)
at_end (Ok n) ls trail last whole at is = at.whole ∙ is
at_end (Err e) ls trail last whole at is = tt
