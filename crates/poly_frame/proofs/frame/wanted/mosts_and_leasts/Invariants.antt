use Rattle.std.proofs.Common.{length, map, take, vec_capacity, vec_len, ◌≡◌, ◌≤◌}
use Rattle.poly_frame.proofs.frame.wanted.mosts_and_leasts.Given as goal

abbrev pub invariant-loop-b : goal.invariant-loop-b
invariant-loop-b l = record {
  len : vec_len l.mosts ≡ l.b-index;
  count : vec_len l.leasts ≡ l.b-index;
  room : length l.bounds ≤ vec_capacity l.mosts;
  space : length l.bounds ≤ vec_capacity l.leasts;
  mosts : l.mosts.items ≡ map (λ b. b.most) (take l.b-index l.bounds);
  leasts : l.leasts.items ≡ map (λ b. b.least) (take l.b-index l.bounds);
}
