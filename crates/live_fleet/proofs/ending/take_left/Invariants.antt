-- Some orders were judged, and each time fewer are left.
use Rattle.std.proofs.Common.{◌≡◌, List, length, vec_len}
use Rattle.fleet_world.specs.Keeps.{talk}
use Rattle.fleet_world.specs.Talk.{waiting}
use Rattle.live_fleet.specs.Act.{Act}
use Rattle.live_fleet.specs.Went.{At, at_of}
use Rattle.live_fleet.proofs.Ended.{Closing}
use Rattle.live_fleet.proofs.ending.take_left.Given as goal

abbrev pub invariant-loop : goal.invariant-loop
invariant-loop g l = record {
  closing : (acts : List Act) × Closing l.fn.client (at_of l.fn.fleet l.fn.out) acts (at_of l.fleet l.out);
  count : vec_len l.out.texts ≡ vec_len l.fn.out.texts;
}

abbrev pub decreases-loop : goal.decreases-loop
decreases-loop g l = length (waiting (talk l.fleet.session) l.fn.client).lane
