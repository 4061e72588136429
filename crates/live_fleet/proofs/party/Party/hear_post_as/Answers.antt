-- The conversation does not speak for the client, or it does.
use Rattle.std.proofs.Common.{List}
use Rattle.live_fleet.proofs.Heard.{own-no, own-yes}
use Rattle.live_fleet.proofs.party.Party.hear_post_as.Goals as goal

pub returns-then-not-is_own : goal.returns-then-not-is_own
returns-then-not-is_own g c = record { ok = own-no c.refuse_client.result c.args.self.now.speakers.items c.args.place.to c.args.post.client c.args.self.now.clients c.is_own.result _ _ c.if-not-is_own.true c.is_own.ensures.own c.refuse_client.ensures.ok }

pub returns : goal.returns
returns g c = record { ok = own-yes c.post_as.result c.args.self.now.speakers.items c.args.place.to c.args.post.client c.args.self.now.clients c.is_own.result _ _ c.if-not-is_own.false c.is_own.ensures.own c.post_as.ensures.ok }
