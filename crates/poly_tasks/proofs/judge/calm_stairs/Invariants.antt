use Rattle.std.proofs.Common.{[], length, not, slice_index_or, take, true, ℕ, ◌++◌, ◌<◌, ◌∷◌, ◌≡◌}
use Rattle.std.specs.List.{list_any}
use Rattle.poly_atom.specs.Hopeless.{hopeless}
use Rattle.poly_tasks.proofs.judge.calm_stairs.Given as goal

abbrev pub invariant-loop-index : goal.invariant-loop-index
invariant-loop-index l = record {
  atoms : l.atoms.items ≡ l.fn.atoms.items;
  long : length l.calm.items ≡ l.index;
  each : (i : ℕ) → i < l.index → slice_index_or l.calm.items i true ≡ not (list_any (λ a. hopeless l.view (l.fn.atoms.items ++ a ∷ [])) (take i l.guards));
  stays : l.stays ≡ not (list_any (λ a. hopeless l.view (l.fn.atoms.items ++ a ∷ [])) (take l.index l.guards));
}
