-- What is left are the conversations from here on.
use Rattle.std.proofs.Common.{◌≡◌, ◌-◌, ℕ, List, length, vec_len}
use Rattle.std.specs.List.{range_with_len}
use Rattle.live_fleet.specs.Act.{Act}
use Rattle.live_fleet.specs.Party.{stage_of}
use Rattle.live_fleet.specs.Resting.{KeptAt}
use Rattle.live_fleet.proofs.Parts.{Leaves}
use Rattle.live_fleet.proofs.party.Party.note_kept.Given as goal

abbrev pub invariant-loop-to : goal.invariant-loop-to
invariant-loop-to g l = record {
  leaves : (acts : List Act) × Leaves (KeptAt l.number) (range_with_len 0 (length l.fn.self.speakers.items)) (range_with_len l.to (length l.fn.self.speakers.items - l.to)) (stage_of l.fn.self l.fn.out) acts (stage_of l.self l.out);
  speakers : vec_len l.self.speakers ≡ vec_len l.fn.self.speakers;
  count : vec_len l.out.texts ≡ vec_len l.fn.out.texts;
}
