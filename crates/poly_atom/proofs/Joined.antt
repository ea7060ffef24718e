-- A list that four lists were appended to, one after another.
use Rattle.std.proofs.Common.{List, append_assoc, ◌++◌, ◌∙◌, ◌≡◌}

pub joined_four : {X : Type 0} {one two three all a b b' c c' d d' : List X} → one ≡ a → two ≡ one ++ b' → b' ≡ b → three ≡ two ++ c' → c' ≡ c → all ≡ three ++ d' → d' ≡ d → all ≡ a ++ (b ++ (c ++ d))
joined_four {a} {b} {c} {d} e f fb g gc h hd =
    h ∙ (λ i. (g ∙ (λ j. (f ∙ (λ k. e k ++ fb k)) j ++ gc j)) i ++ hd i) ∙ append_assoc (a ++ b) c d ∙ append_assoc a b (c ++ d)
