use Rattle.std.proofs.Common.{ap, arith, get_or, length, take, ◌-◌, ◌∙◌, ◌≡◌, ◌<◌, sym, ◌++◌, ◌∷◌, []}
use Rattle.std.proofs.lemmas.List.{get_or_push, length_push, take_at}
use Rattle.poly_atom.specs.Logs.{flat}
use Rattle.poly_atom.specs.LogKept.{rows}
use Rattle.poly_atom.proofs.Offsets.{kept_cut, length-rows, rows_cut, start_is}
use Rattle.poly_atom.proofs.log.GuardLog.pop.Goals as goal

last_is : (c : goal.After-truncate) → c.self.inside.starts.items ≡ c.pop.new.self.items ++ c.in-Some.start ∷ []
last_is c = c.in-Some.ensures.items

length_is : (c : goal.After-truncate) → length c.pop.new.self.items ≡ length c.self.inside.starts.items - 1
length_is c = omega (arith, ap length (last_is c), length_push c.pop.new.self.items c.in-Some.start)

start_known : (c : goal.After-truncate) → c.in-Some.start ≡ length (flat (take (length c.self.inside.starts.items - 1) (rows c.self.inside.starts.items c.self.inside.guards.items)))
start_known c =
    let in_range : length c.self.inside.starts.items - 1 < length c.self.inside.starts.items = omega (arith, ap length (last_is c), length_push c.pop.new.self.items c.in-Some.start) in
    let at = get_or_push c.pop.new.self.items c.in-Some.start c.in-Some.start (length c.self.inside.starts.items - 1) (length_is c) in
    start_is c.self.inside.starts.items c.self.inside.guards.items (length c.self.inside.starts.items - 1) c.in-Some.start c.self.invariant in_range
    (sym (ap (λ s. get_or s (length c.self.inside.starts.items - 1) c.in-Some.start) (last_is c) ∙ at))

starts_are : (c : goal.After-truncate) → c.pop.new.self.items ≡ take (length c.self.inside.starts.items - 1) c.self.inside.starts.items
starts_are c = sym (ap (λ s. take (length c.self.inside.starts.items - 1) s) (last_is c) ∙ take_at c.pop.new.self.items (c.in-Some.start ∷ []) (length c.self.inside.starts.items - 1) (length_is c))

pub invariant_of-self : goal.invariant_of-self
invariant_of-self c =
    rw (starts_are c, c.truncate.ensures.items) (kept_cut c.self.inside.starts.items c.self.inside.guards.items (length c.self.inside.starts.items - 1) c.in-Some.start c.self.invariant (start_known c))

pub returns-in-Some : goal.returns-in-Some
returns-in-Some c =
    let rest = ap (λ n. take (n - 1) (rows c.self.inside.starts.items c.self.inside.guards.items)) (sym (length-rows c.self.inside.starts.items c.self.inside.guards.items)) ∙ ap (λ l. take (length l - 1) l) c.self.view_is in
    ap (λ s. rows s c.truncate.new.self.items) (starts_are c) ∙ ap (λ g. rows (take (length c.self.inside.starts.items - 1) c.self.inside.starts.items) g) c.truncate.ensures.items
    ∙ rows_cut c.self.inside.starts.items c.self.inside.guards.items (length c.self.inside.starts.items - 1) c.in-Some.start c.self.invariant (start_known c) ∙ rest
