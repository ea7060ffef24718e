use Rattle.std.proofs.Common.{List, [], ap, arith, drop, get_or, length, map, rules, sym, take, ℕ, ◌++◌, ◌<◌, ◌∙◌, ◌≡◌}
use Rattle.std.proofs.lemmas.List.{drop-append-le, drop_all, get_or-map, length-map, take-append-le, take_all}
use Rattle.poly_atom.specs.declared.atom.Atom.{Atom}
use Rattle.poly_report.proofs.leaf.Rests.read.Goals as goal

turned : (path stem : List Atom) → drop (length path) (path ++ stem) ++ take (length path) (path ++ stem) ≡ stem ++ path
turned path stem =
    let n = length path in
    let last = drop-append-le n path stem (omega arith) ∙ ap (λ xs. xs ++ stem) (drop_all n path (omega arith)) in
    let first = take-append-le n path stem (omega arith) ∙ take_all n path (omega arith) in
    ap (λ xs. xs ++ take n (path ++ stem)) last ∙ ap (λ xs. stem ++ xs) first

rest_at : (stem : List Atom) (paths : List (List Atom)) {all : List (List Atom)} (i : ℕ) {path filled new : List Atom} {n : ℕ}
    → new ≡ drop n filled ++ take n filled → all ≡ map (λ p. stem ++ p) paths → i < length all → path ≡ get_or paths i [] → n ≡ length path → filled ≡ path ++ stem → new ≡ get_or all i []
rest_at stem paths {all} i {path} {filled} {new} {n} turn view inside read count fill =
    let long : i < length paths = omega (arith, inside, ap length view, length-map paths (λ p. stem ++ p)) in
    turn ∙ ap (λ k. drop k filled ++ take k filled) count ∙ ap (λ xs. drop (length path) xs ++ take (length path) xs) fill ∙ turned path stem ∙ ap (λ p. stem ++ p) read ∙ sym (get_or-map (λ p. stem ++ p) paths i [] [] long) ∙ ap (λ (xs : List (List Atom)). get_or xs i []) (sym view)

pub returns-clause-ok : goal.returns-clause-ok
returns-clause-ok c =
    let count : c.len-count.result ≡ length c.read.new.buffer.items = omega (arith, c.len-count.ensures, c.read.new.buffer.ok) in
    let turn = c.rotate_left.ensures.items in
    rest_at c.self.inside.stem.items c.self.inside.paths c.args.index turn (sym c.self.view_is) c.requires c.in_ok-read.ensures.ok count (search rules)
