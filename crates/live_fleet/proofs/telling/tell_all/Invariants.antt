-- What is left are the conversations from here on.
use Rattle.std.proofs.Common.{◌≡◌, ◌≤◌, ◌-◌, ℕ, List, vec_len, length}
use Rattle.std.specs.List.{range_with_len}
use Rattle.live_fleet.specs.Act.{Act}
use Rattle.live_fleet.specs.Went.{At, at_of}
use Rattle.live_fleet.specs.Telling.{TellsAt}
use Rattle.live_fleet.proofs.Parts.{Leaves}
use Rattle.live_fleet.proofs.telling.tell_all.Given as goal

abbrev pub invariant-loop-to : goal.invariant-loop-to
invariant-loop-to g l = record {
  leaves : (acts : List Act) × Leaves (TellsAt l.speakers) (range_with_len 0 (length l.speakers)) (range_with_len l.to (length l.speakers - l.to)) (at_of l.fn.fleet l.fn.out) acts (at_of l.fleet l.out);
  count : vec_len l.out.texts ≡ vec_len l.fn.out.texts;
}
