-- This number of orders was judged.
use Rattle.std.proofs.Common.{◌≡◌, ◌≤◌, ◌-◌, ℕ, List, vec_len}
use Rattle.std.specs.List.{range_with_len}
use Rattle.live_fleet.specs.Act.{Act}
use Rattle.live_fleet.specs.Went.{At, at_of}
use Rattle.live_fleet.proofs.Steps.{Taking}
use Rattle.live_fleet.proofs.taking.take_client.Given as goal

abbrev pub invariant-loop : goal.invariant-loop
invariant-loop g l = record {
  taking : (acts : List Act) × Taking l.fn.client l.counter (at_of l.fn.fleet l.fn.out) acts (at_of l.fleet l.out);
  count : vec_len l.out.texts ≡ vec_len l.fn.out.texts;
}
