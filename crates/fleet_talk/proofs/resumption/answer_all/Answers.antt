-- The first line of an open fleet could not be read.
use Rattle.std.specs.Io.Buffered.{reader_remaining}
use Rattle.fleet_talk.specs.Open.{fleet_of}
use Rattle.fleet_talk.proofs.Resumptions.{none-read}
use Rattle.fleet_talk.proofs.Saying.{at-fault}
use Rattle.fleet_talk.proofs.resumption.answer_all.Goals as goal

pub returns-in_err-next_line-clause-broken : goal.returns-in_err-next_line-clause-broken
returns-in_err-next_line-clause-broken g c =
    let fault = c.in_err-next_line.field-0.0 in
    at-fault _ fault _ c.from_residual.ensures.1
    (none-read c.args.pen.now.settings c.args.door.now.refused.marks.items (fleet_of c.args.fleet.now) fault (reader_remaining g.I.Read.remaining c.args.ends.now.input) (g.W.Write.contents c.args.ends.now.output) c.args.pen.now.out.items c.in_err-next_line.ensures.midway)
