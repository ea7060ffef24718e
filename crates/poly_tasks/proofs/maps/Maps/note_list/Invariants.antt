use Rattle.std.proofs.Common.{take, true, ℕ, ◌≡◌}
use Rattle.std.specs.List.{list_all}
use Rattle.poly_tasks.specs.Mapped.{IsWider, in_span, under}
use Rattle.poly_tasks.proofs.maps.Maps.note_list.Given as goal

abbrev pub invariant-loop-atom : goal.invariant-loop-atom
invariant-loop-atom l = record {
  wider : IsWider l.fn.self l.self;
  noted : (n : ℕ) → in_span l.span n ≡ true → list_all (λ a. under l.self a n) (take l.atom-index l.atoms) ≡ true;
}
