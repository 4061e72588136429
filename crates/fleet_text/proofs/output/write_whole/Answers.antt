use Rattle.std.proofs.Common.{rules}
use Rattle.fleet_text.proofs.Transfers.{front_more}
use Rattle.fleet_text.proofs.output.write_whole.Goals as goal

pub loop-written-preserved : goal.loop-written-preserved
loop-written-preserved g c = record {
  within = search rules;
  front = front_more (g.W.Write.contents c.args.writer.now) (g.W.Write.contents c.loop-written.writer) (g.W.Write.contents c.write.new.self) c.args.text.now c.loop-written.written c.in-Ok.count c.loop-written.invariant.front c.in-Ok.ensures.bytes;
}
