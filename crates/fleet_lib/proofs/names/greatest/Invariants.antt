use Rattle.std.proofs.Common.{◌≤◌, take}
use Rattle.std.specs.List.{All, Contains}
use Rattle.fleet_lib.proofs.names.greatest.Given as goal

abbrev pub invariant-loop-number : goal.invariant-loop-number
invariant-loop-number l = record {
  there : Contains l.numbers l.most;
  most : All (λ n. n ≤ l.most) (take l.number-index l.numbers);
}
