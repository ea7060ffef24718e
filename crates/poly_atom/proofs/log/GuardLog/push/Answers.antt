use Rattle.std.proofs.Common.{ap, arith, length, ◌++◌, ◌∙◌, ◌∷◌, [], ◌≡◌}
use Rattle.poly_atom.specs.LogKept.{rows}
use Rattle.poly_atom.proofs.Offsets.{kept_push, rows_push}
use Rattle.poly_atom.proofs.log.GuardLog.push.Goals as goal

starts_are : (c : goal.After-drop-guards-2) → c.push_reserved.new.self.items ≡ c.self.inside.starts.items ++ length c.self.inside.guards.items ∷ []
starts_are c = c.push_reserved.ensures.items ∙ ap (λ s. s ++ c.len-start.result ∷ []) c.reserve.ensures.items ∙ ap (λ n. c.self.inside.starts.items ++ n ∷ []) (omega (arith, c.len-start.ensures, c.self.inside.guards.ok.0))

all_are : (c : goal.After-drop-guards-2) → c.extend_from_slice.new.self.items ≡ c.self.inside.guards.items ++ c.args.guards.items
all_are c = c.in_ok-extend_from_slice.ensures.items ∙ ap (λ g. c.self.inside.guards.items ++ g) c.deref.ensures.value

pub invariant_of-self-2 : goal.invariant_of-self-2
invariant_of-self-2 c =
    rw (starts_are c, all_are c) (kept_push c.self.inside.starts.items c.self.inside.guards.items c.args.guards.items c.self.invariant c.requires)

pub returns-clause-ok : goal.returns-clause-ok
returns-clause-ok c =
    ap (λ s. rows s c.extend_from_slice.new.self.items) (starts_are c) ∙ ap (λ g. rows (c.self.inside.starts.items ++ length c.self.inside.guards.items ∷ []) g) (all_are c)
    ∙ rows_push c.self.inside.starts.items c.self.inside.guards.items c.args.guards.items c.self.invariant ∙ ap (λ l. l ++ c.args.guards.items ∷ []) c.self.view_is
