-- What the line asks was done as many times.
use Rattle.std.proofs.Common.{◌≡◌, ℕ, List}
use Rattle.std.specs.Prelude.{replicate}
use Rattle.fleet_world.specs.Keeps.{talk}
use Rattle.fleet_talk.specs.Act.{act_asked}
use Rattle.fleet_talk.specs.Acts.{Talks}
use Rattle.fleet_talk.specs.Backed.{AllBacked}
use Rattle.fleet_talk.specs.Chapters.{KeepsTurned}
use Rattle.fleet_talk.specs.Lines.{line_shown}
use Rattle.fleet_talk.specs.Open.{fleet_of}
use Rattle.fleet_talk.specs.Says.{Says}
use Rattle.fleet_talk.proofs.going.answer.Given as goal

abbrev pub invariant-loop : goal.invariant-loop
invariant-loop g l = record {
  talks : (text : List ℕ) × Talks l.fn.pen.settings.roll (fleet_of l.fn.fleet) (replicate l.counter (act_asked (line_shown l.line) l.line.asked)) text (fleet_of l.fleet)
      × Says (g.W.Write.contents l.fn.ends.output) (g.W.Write.contents l.ends.output) l.fn.pen.out.items l.pen.out.items text;
  kept : KeepsTurned (g.S.ChapterSink.kept l.fn.ends.sink) (g.S.ChapterSink.kept l.ends.sink) (talk l.fn.fleet.session) (talk l.fleet.session);
  logged : AllBacked l.fn.pen.settings.roll (fleet_of l.fn.fleet) (fleet_of l.fleet) (replicate l.counter (act_asked (line_shown l.line) l.line.asked))
      (g.W.Write.contents l.fn.ends.output) (g.W.Write.contents l.ends.output) l.fn.pen.out.items (g.S.ChapterSink.journal l.fn.ends.sink) (g.S.ChapterSink.journal l.ends.sink);
  settings : l.pen.settings ≡ l.fn.pen.settings;
  input : l.ends.input ≡ l.fn.ends.input;
}
