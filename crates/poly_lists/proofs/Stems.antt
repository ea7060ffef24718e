-- The lists of a trie, by their index.
use Rattle.std.proofs.Common.{Bool, List, [], ap, arith, get_or, length, map, reverse, sym, true, ℕ, ◌++◌, ◌<◌, ◌∙◌, ◌≡◌}
use Rattle.std.proofs.lemmas.List.{append-nil, append_assoc, append_cancel_right, get_or-map, length-map, nil_from_length, reverse-append, reverse-reverse}
use Rattle.std.proofs.lemmas.List.Elements.{filter-append}
use Rattle.std.proofs.lemmas.Bool.{eq-eqb, eqb-true}
use Rattle.std.specs.Bool.{◌==◌}
use Rattle.std.specs.List.{filter}
use Rattle.poly_atom.specs.declared.atom.Atom.{Atom}
use Rattle.poly_lists.specs.Linked.{at_node, ended}
use Rattle.poly_lists.specs.Words.{is_other}
use Rattle.poly_lists.specs.declared.nodes.Link.{Link}

pub count_lists : (stem : List Atom) (ls : List Link) (ends : List ℕ) → length (map (λ B. stem ++ B) (ended ls ends)) ≡ length ends
count_lists stem ls ends = length-map (ended ls ends) (λ B. stem ++ B) ∙ length-map ends (λ e. at_node ls e)

-- the list at an index is the stem, followed by the list of the node at the index
pub list_at : (stem : List Atom) (ls : List Link) (ends : List ℕ) (lists : List (List Atom)) (i e : ℕ) → map (λ B. stem ++ B) (ended ls ends) ≡ lists → i < length ends → e ≡ get_or ends i e → get_or lists i [] ≡ stem ++ at_node ls e
list_at stem ls ends lists i e is h found =
    let ends_there : i < length (ended ls ends) = omega (arith, h, length-map ends (λ e. at_node ls e)) in
    ap (λ l. get_or l i []) (sym is) ∙ get_or-map (λ B. stem ++ B) (ended ls ends) i [] [] ends_there ∙ ap (λ B. stem ++ B) (get_or-map (λ e. at_node ls e) ends i e [] h ∙ ap (at_node ls) (sym found))

-- a list is read from its end, and the stem after the rest of it
pub read_over : (stem rest whole old middle new : List Atom) → whole ≡ stem ++ rest → middle ≡ old ++ reverse rest → new ≡ middle ++ reverse stem → new ≡ old ++ reverse whole
read_over stem rest whole old middle new is begun done =
    let both : reverse whole ≡ reverse rest ++ reverse stem = ap reverse is ∙ reverse-append stem rest in
    done ∙ ap (λ B. B ++ reverse stem) begun ∙ append_assoc old (reverse rest) (reverse stem) ∙ ap (λ B. old ++ B) (sym both)

-- the same, without each `Lacks`; the stem's other atoms may be read from another list
pub others_over : (stem others rest whole old middle new : List Atom) → filter is_other others ≡ filter is_other stem → whole ≡ stem ++ rest → middle ≡ old ++ reverse (filter is_other rest) → new ≡ middle ++ reverse (filter is_other others) → new ≡ old ++ reverse (filter is_other whole)
others_over stem others rest whole old middle new same is begun done =
    let both : filter is_other whole ≡ filter is_other others ++ filter is_other rest = ap (filter is_other) is ∙ filter-append is_other stem rest ∙ ap (λ l. l ++ filter is_other rest) (sym same) in
    read_over (filter is_other others) (filter is_other rest) (filter is_other whole) old middle new both begun done

-- if the rest has nothing but `Lacks`, the other atoms are those of the stem
pub only_lacks : (stem others rest whole : List Atom) → filter is_other others ≡ filter is_other stem → whole ≡ stem ++ rest → filter is_other rest ≡ [] → filter is_other others ≡ filter is_other whole
only_lacks stem others rest whole same is none =
    let both : filter is_other whole ≡ filter is_other stem = ap (filter is_other) is ∙ filter-append is_other stem rest ∙ ap (λ l. filter is_other stem ++ l) none ∙ append-nil (filter is_other stem) in
    same ∙ sym both

pub ended_at : (ls : List Link) (ends : List ℕ) (lists : List (List Atom)) (i e : ℕ) → ended ls ends ≡ lists → i < length ends → e ≡ get_or ends i e → get_or lists i [] ≡ at_node ls e
ended_at ls ends lists i e is h found = ap (λ l. get_or l i []) (sym is) ∙ get_or-map (λ n. at_node ls n) ends i e [] h ∙ ap (at_node ls) (sym found)

-- what was read from its end is turned round
pub read_forward : (whole none middle new : List Atom) → none ≡ [] → middle ≡ none ++ reverse whole → new ≡ reverse middle → new ≡ whole
read_forward whole none middle new empty begun done = done ∙ ap reverse (begun ∙ ap (λ l. l ++ reverse whole) empty) ∙ reverse-reverse whole

pub count_ended : (ls : List Link) (ends : List ℕ) → length (ended ls ends) ≡ length ends
count_ended ls ends = length-map ends (λ e. at_node ls e)

-- a list is another one exactly if the stem is what stands before the rest there
pub matched : (stem rest whole before list : List Atom) (b : Bool) → whole ≡ stem ++ rest → before ++ rest ≡ list → (b ≡ true → stem ≡ before) × (stem ≡ before → b ≡ true) → (b ≡ true → whole ≡ list) × (whole ≡ list → b ≡ true)
matched stem rest whole before list b is are f = (
  λ yes. is ∙ ap (λ s. s ++ rest) (f.0 yes) ∙ are,
  λ same. f.1 (append_cancel_right stem before rest (sym is ∙ same ∙ sym are)),
)

-- an empty stem
pub matched_empty : (stem before : List Atom) (b : Bool) → stem ≡ [] → b ≡ (length before == 0) → (b ≡ true → stem ≡ before) × (stem ≡ before → b ≡ true)
matched_empty stem before b none is = (
  λ yes. none ∙ sym (nil_from_length before (eqb-true (length before) 0 (sym is ∙ yes))),
  λ same. is ∙ eq-eqb (length before) 0 (ap length (sym same ∙ none)),
)
