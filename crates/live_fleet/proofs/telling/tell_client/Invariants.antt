-- This number of notices was told.
use Rattle.std.proofs.Common.{◌≡◌, ◌≤◌, ◌-◌, ℕ, List, vec_len}
use Rattle.std.specs.List.{range_with_len}
use Rattle.live_fleet.specs.Act.{Act}
use Rattle.live_fleet.specs.Went.{At, at_of}
use Rattle.live_fleet.proofs.Tells.{Telling}
use Rattle.live_fleet.proofs.telling.tell_client.Given as goal

abbrev pub invariant-loop : goal.invariant-loop
invariant-loop g l = record {
  telling : (acts : List Act) × Telling l.fn.to l.fn.client l.counter (at_of l.fn.fleet l.fn.out) acts (at_of l.fleet l.out);
  count : vec_len l.out.texts ≡ vec_len l.fn.out.texts;
}
