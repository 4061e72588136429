-- What the ring was sent is ahead.
use Rattle.rtrb.specs.Ring.{sent}
use Rattle.fleet_live.proofs.Sent.{sends, sends_within}
use Rattle.fleet_live.proofs.text_out.TextOut.send.Goals as goal

pub returns : goal.returns
returns c =
    record {
      told = sends (sent c.args.self.now.ring) (sent c.push_partial_slice.new.self) c.args.self.now.over.items c.args.text.now c.push_partial_slice.result.0.now c.push_partial_slice.result.1.now c.args.self.now.ahead c.args.self.now.over_ahead c.requires.none
          c.push_partial_slice.ensures.sent c.push_partial_slice.ensures.parts;
      within = sends_within c.args.text.now c.push_partial_slice.result.0.now c.push_partial_slice.result.1.now c.args.self.now.ahead c.requires.within c.push_partial_slice.ensures.parts;
    }
