-- The lines that are told by a word and the client.
use Rattle.std.proofs.Common.{refl, string_bytes}
use Rattle.fleet_book.specs.declared.event.Event.TheVariants.{Collect}
use Rattle.fleet_world.specs.declared.reply.Reply.TheVariants.{NothingThere, NoClient, Collected}
use Rattle.fleet_text.proofs.RunLines.{told}
use Rattle.fleet_text.proofs.runs.write_collect.Goals as goal

pub returns-in-NothingThere : goal.returns-in-NothingThere
returns-in-NothingThere g c = told c.write_numbered.result (Collect c.args.client) c.args.reply NothingThere (string_bytes c.args.out.now) (string_bytes c.write_numbered.new.out) _ c.in-NothingThere.is (λ e. refl) c.write_numbered.ensures

pub returns-in-NoClient : goal.returns-in-NoClient
returns-in-NoClient g c = told c.write_numbered-in-NoClient.result (Collect c.args.client) c.args.reply NoClient (string_bytes c.args.out.now) (string_bytes c.write_numbered-in-NoClient.new.out) _ c.in-NoClient.is (λ e. refl) c.write_numbered-in-NoClient.ensures

pub returns-in-Collected : goal.returns-in-Collected
returns-in-Collected g c = told c.write_notice.result (Collect c.args.client) c.args.reply (Collected c.in-Collected.notice) (string_bytes c.args.out.now) (string_bytes c.write_notice.new.out) _ c.in-Collected.is (λ e. refl) c.write_notice.ensures
