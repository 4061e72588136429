-- One more, of which nothing was handed on.
use Rattle.fleet_live.proofs.Beginning.{if_new_more}
use Rattle.fleet_live.proofs.conversations.Conversations.add.Goals as goal

pub returns : goal.returns
returns g c = if_new_more c.push.result c.args.self.now.texts.items c.push.new.self.texts.items _ c.requires c.in_ok-text.ensures c.push.ensures
