-- The lines that are told by a word and the client.
use Rattle.std.proofs.Common.{refl, string_bytes}
use Rattle.fleet_book.specs.declared.event.Event.TheVariants.{Post}
use Rattle.fleet_world.specs.declared.reply.Reply.TheVariants.{LaneFull, NoClient, Posted}
use Rattle.fleet_text.proofs.RunLines.{told}
use Rattle.fleet_text.proofs.runs.write_post.Goals as goal

pub returns-in-LaneFull : goal.returns-in-LaneFull
returns-in-LaneFull g c = told c.write_numbered.result (Post c.args.client c.args.order) c.args.reply LaneFull (string_bytes c.args.out.now) (string_bytes c.write_numbered.new.out) _ c.in-LaneFull.is (λ e. refl) c.write_numbered.ensures

pub returns-in-NoClient : goal.returns-in-NoClient
returns-in-NoClient g c = told c.write_numbered-in-NoClient.result (Post c.args.client c.args.order) c.args.reply NoClient (string_bytes c.args.out.now) (string_bytes c.write_numbered-in-NoClient.new.out) _ c.in-NoClient.is (λ e. refl) c.write_numbered-in-NoClient.ensures

pub returns-in-Posted : goal.returns-in-Posted
returns-in-Posted g c = told c.write_posted.result (Post c.args.client c.args.order) c.args.reply (Posted c.in-Posted.number) (string_bytes c.args.out.now) (string_bytes c.write_posted.new.out) _ c.in-Posted.is (λ e. refl) c.write_posted.ensures
