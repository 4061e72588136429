-- The lines before the one at hand were answered.
use Rattle.std.proofs.Common.{◌≡◌, ◌∷◌, IfSome}
use Rattle.std.specs.Io.Buffered.{reader_remaining}
use Rattle.fleet_world.specs.Keeps.{talk}
use Rattle.fleet_talk.specs.Act.{acts_from}
use Rattle.fleet_talk.specs.Backed.{GoesLogged}
use Rattle.fleet_talk.specs.Chapters.{KeepsTurned}
use Rattle.fleet_talk.specs.Heard.{heard_lines}
use Rattle.fleet_talk.specs.Open.{fleet_of}
use Rattle.fleet_talk.specs.Talked.{Goes}
use Rattle.fleet_talk.proofs.going.go_on.Given as goal

abbrev pub invariant-loop-number : goal.invariant-loop-number
invariant-loop-number g l = record {
  goes : IfSome (reader_remaining g.I.Read.remaining l.fn.ends.input) (λ xs. Goes l.fn.pen.settings l.fn.entrance.door.now.refused.marks.items (fleet_of l.fn.fleet) (acts_from l.fn.pen.settings l.fn.entrance.door.now.refused.marks.items l.fn.entrance.first (l.fn.bytes.items ∷ heard_lines xs))
      (reader_remaining g.I.Read.remaining l.ends.input) (fleet_of l.fleet) l.number l.bytes.items
      (g.W.Write.contents l.fn.ends.output) (g.W.Write.contents l.ends.output) l.fn.pen.out.items l.pen.out.items);
  logged : IfSome (reader_remaining g.I.Read.remaining l.fn.ends.input) (λ xs. GoesLogged l.fn.pen.settings l.fn.entrance.door.now.refused.marks.items (fleet_of l.fn.fleet) (fleet_of l.fleet)
      (acts_from l.fn.pen.settings l.fn.entrance.door.now.refused.marks.items l.fn.entrance.first (l.fn.bytes.items ∷ heard_lines xs)) (reader_remaining g.I.Read.remaining l.ends.input) l.number l.bytes.items
      (g.W.Write.contents l.fn.ends.output) (g.W.Write.contents l.ends.output) l.fn.pen.out.items l.pen.out.items (g.S.ChapterSink.journal l.fn.ends.sink) (g.S.ChapterSink.journal l.ends.sink));
  kept : KeepsTurned (g.S.ChapterSink.kept l.fn.ends.sink) (g.S.ChapterSink.kept l.ends.sink) (talk l.fn.fleet.session) (talk l.fleet.session);
  settings : l.pen.settings ≡ l.fn.pen.settings;
}
