use Rattle.std.proofs.Common.{ap, arith, drop, length, map, take, ℕ, ◌++◌, ◌-◌, ◌∙◌, ◌≡◌, ◌≤◌}
use Rattle.std.proofs.lemmas.List.{length-map}
use Rattle.poly_atom.specs.Logs.{flat}
use Rattle.poly_atom.specs.LogKept.{rows}
use Rattle.poly_atom.proofs.Forgets.{front_is, kept-forgotten, rows-forgotten, written_over}
use Rattle.poly_atom.proofs.log.drop_before.Goals as goal

start_is : (c : goal.After-starts-1) → c.start_of-start.result ≡ length (flat (take c.args.edition (rows c.args.starts.now.items c.args.guards.now.items)))
start_is c = c.start_of-start.ensures.value ∙ (λ i. length (flat (take c.args.edition (rows (c.deref-2.ensures.value i) (c.deref.ensures.value i)))))

inside : (c : goal.After-starts-1) → c.start_of-start.result ≤ length c.args.guards.now.items
inside c = omega (arith, c.start_of-start.ensures.inside, ap length c.deref.ensures.value)

guards_are : (c : goal.After-starts-1) → c.shrink_to_fit.new.self.items ≡ drop c.start_of-start.result c.args.guards.now.items
guards_are c =
    let n = c.len.result - c.start_of-start.result in
    c.shrink_to_fit.ensures.items ∙ c.truncate.ensures.items ∙ ap (λ xs. take n xs) c.copy_within.ensures.items
    ∙ front_is c.args.guards.now.items c.start_of-start.result c.args.guards.now.len n (omega (arith, c.args.guards.now.ok.0)) (omega (arith, inside c, c.args.guards.now.ok.0)) (omega (arith, c.len.ensures))

starts_are : (c : goal.After-starts-1) → take c.args.starts.now.len (c.lower_all.new.starts ++ drop (length c.lower_all.new.starts) c.args.starts.now.items) ≡ map (λ s. s - c.start_of-start.result) c.args.starts.now.items
starts_are c =
    let f : ℕ → ℕ = λ s. s - c.start_of-start.result in
    let new : c.lower_all.new.starts ≡ map f c.args.starts.now.items = c.lower_all.ensures ∙ ap (map f) c.deref_mut.ensures.value in
    let same = ap length new ∙ length-map c.args.starts.now.items f in
    written_over c.args.starts.now.items c.lower_all.new.starts c.args.starts.now.len (omega (arith, c.args.starts.now.ok.0)) same ∙ new

pub returns-clause-value : goal.returns-clause-value
returns-clause-value c =
    (λ i. rows (starts_are c i) (guards_are c i)) ∙ rows-forgotten c.args.starts.now.items c.args.guards.now.items c.args.edition c.start_of-start.result c.requires (start_is c)

pub returns-clause-kept : goal.returns-clause-kept
returns-clause-kept c =
    rw (starts_are c, guards_are c) (kept-forgotten c.args.starts.now.items c.args.guards.now.items c.args.edition c.start_of-start.result c.requires (start_is c))
