-- Posts to this cell are refused, or they are not.
use Rattle.std.proofs.Common.{List}
use Rattle.live_fleet.proofs.Heard.{if-no, if-yes}
use Rattle.live_fleet.proofs.party.Party.post_let_in.Goals as goal

pub returns-then-not-is_let_in : goal.returns-then-not-is_let_in
returns-then-not-is_let_in g c =
    record { ok = if-no c.refuse_cell.result c.args.self.now.speakers.items c.args.place.to c.is_let_in.result _ _ _ c.if-not-is_let_in.true c.is_let_in.ensures c.refuse_cell.ensures.ok }

pub returns : goal.returns
returns g c = record { ok = if-yes c.post.result c.args.self.now.speakers.items c.args.place.to c.is_let_in.result _ _ _ c.if-not-is_let_in.false c.is_let_in.ensures c.post.ensures.ok }
