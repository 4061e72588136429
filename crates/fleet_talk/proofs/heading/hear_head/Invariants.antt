-- The lines of the head before this one were answered.
use Rattle.std.proofs.Common.{◌≡◌, IfSome}
use Rattle.std.specs.Io.Buffered.{reader_buffer, reader_remaining}
use Rattle.fleet_talk.specs.Due.{IsDone}
use Rattle.fleet_talk.specs.Heading.{Hears, drafted}
use Rattle.fleet_talk.proofs.heading.hear_head.Given as goal

abbrev pub invariant-loop-number : goal.invariant-loop-number
invariant-loop-number g l = record {
  hears : IfSome (reader_remaining g.I.Read.remaining l.fn.ends.input) (λ xs. Hears l.fn.pen.settings (drafted l.fn.head) xs (reader_remaining g.I.Read.remaining l.ends.input) (drafted l.head) l.number
      (g.W.Write.contents l.fn.ends.output) (g.W.Write.contents l.ends.output) l.fn.pen.out.items l.pen.out.items);
  settings : l.pen.settings ≡ l.fn.pen.settings;
  sink : l.ends.sink ≡ l.fn.ends.sink;
  done : IsDone (reader_buffer l.ends.input) l.pen.out.items;
}
