-- What is left are the clients from here on.
use Rattle.std.proofs.Common.{◌≡◌, ◌-◌, ℕ, List, vec_len}
use Rattle.std.specs.List.{range_with_len}
use Rattle.live_fleet.specs.Act.{Act}
use Rattle.live_fleet.specs.Ending.{TakesLeft}
use Rattle.live_fleet.specs.Went.{At, at_of}
use Rattle.live_fleet.proofs.Parts.{Leaves}
use Rattle.live_fleet.proofs.ending.take_all_left.Given as goal

abbrev pub invariant-loop-client : goal.invariant-loop-client
invariant-loop-client g l = record {
  leaves : (acts : List Act) × Leaves TakesLeft (range_with_len 0 l.fn.clients) (range_with_len l.client (l.fn.clients - l.client)) (at_of l.fn.fleet l.fn.out) acts (at_of l.fleet l.out);
  count : vec_len l.out.texts ≡ vec_len l.fn.out.texts;
}
