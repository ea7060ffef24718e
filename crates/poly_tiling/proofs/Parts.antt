-- Parts of a list, which stay as they are while the list grows at its end.
use Rattle.std.proofs.Common.{List, [], ap, arith, drop, length, map, refl, take, ℕ, ◌++◌, ◌-◌, ◌∙◌, ◌∷◌, ◌≡◌, ◌≤◌}
use Rattle.std.proofs.lemmas.List.{drop-append-le, length-append, length-drop, map-append, take-append-le, take_all}
use Rattle.std.proofs.lemmas.List.Elements.{All-tail}
use Rattle.std.proofs.Math.Seq.{drop-append_seam}
use Rattle.poly_tiling.specs.Leading.{AreSpans, part}

part_more : (xs ys : List ℕ) (s : ℕ × ℕ) → s.0 ≤ s.1 → s.1 ≤ length xs → part (xs ++ ys) s ≡ part xs s
part_more xs ys s a b =
    ap (take (s.1 - s.0)) (drop-append-le s.0 xs ys (omega (arith, a, b)))
    ∙ take-append-le (s.1 - s.0) (drop s.0 xs) ys (omega (arith, length-drop s.0 xs, a, b))

parts_more : (xs ys : List ℕ) (spans : List (ℕ × ℕ)) → AreSpans xs spans → map (part (xs ++ ys)) spans ≡ map (part xs) spans
parts_more xs ys [] is = refl
parts_more xs ys (s ∷ spans) is =
    let here = is 0 s (omega arith) in
    ap (λ p. p ∷ map (part (xs ++ ys)) spans) (part_more xs ys s here.0 here.1)
    ∙ ap (λ ps. part xs s ∷ ps) (parts_more xs ys spans (All-tail (λ s. (s.0 ≤ s.1) × (s.1 ≤ length xs)) s spans is))

part_last : (xs ys : List ℕ) → part (xs ++ ys) (length xs, length (xs ++ ys)) ≡ ys
part_last xs ys = ap (take (length (xs ++ ys) - length xs)) (drop-append_seam xs ys) ∙ take_all (length (xs ++ ys) - length xs) ys (omega (arith, length-append xs ys))

-- one more part at the end
pub parts_push : (xs ys : List ℕ) (spans : List (ℕ × ℕ)) → AreSpans xs spans → map (part (xs ++ ys)) (spans ++ (length xs, length (xs ++ ys)) ∷ []) ≡ map (part xs) spans ++ ys ∷ []
parts_push xs ys spans is =
    map-append (part (xs ++ ys)) spans ((length xs, length (xs ++ ys)) ∷ [])
    ∙ ap (λ ps. ps ++ part (xs ++ ys) (length xs, length (xs ++ ys)) ∷ []) (parts_more xs ys spans is)
    ∙ ap (λ p. map (part xs) spans ++ p ∷ []) (part_last xs ys)
