use Rattle.std.proofs.Common.{map, nat_le, take, true, ◌-◌, ◌≡◌, ◌≤◌}
use Rattle.std.specs.List.{list_all}
use Rattle.poly_tasks.proofs.maps.shared_count.Given as goal

abbrev pub invariant-loop-count : goal.invariant-loop-count
invariant-loop-count l = record {
  low : l.count ≤ l.limit;
  same : map (λ r. r.atom) (take l.count l.runs) ≡ take l.count l.others;
  firsts : list_all (λ r. nat_le r.first l.number) (take l.count l.runs) ≡ true;
}

abbrev pub decreases-loop-count : goal.decreases-loop-count
decreases-loop-count l = l.limit - l.count
