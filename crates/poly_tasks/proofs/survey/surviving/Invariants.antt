use Rattle.std.proofs.Common.{get_or, map, not, take, ℕ, ◌<◌, ◌≡◌, ◌≤◌}
use Rattle.poly_atom.specs.Hopeless.{hopeless}
use Rattle.poly_tasks.specs.Meaning.{own_of}
use Rattle.poly_tasks.specs.Touching.{IsSurvey}
use Rattle.poly_tasks.proofs.survey.surviving.Given as goal

abbrev pub invariant-loop-i : goal.invariant-loop-i
invariant-loop-i l = record {
  flags : l.flags.items ≡ map (λ p. not (hopeless l.touch.view.now (own_of l.log p.own))) (take l.i l.tasks);
  ready : IsSurvey l.touch l.log l.survey;
  far : (j : ℕ) → j < l.i → get_or l.reach j 0 ≤ l.far;
}
