-- The lines that are told by a word and the client.
use Rattle.std.proofs.Common.{refl, codes, decimal, string_bytes}
use Rattle.fleet_book.specs.declared.event.Event.TheVariants.{Give}
use Rattle.fleet_world.specs.declared.reply.Reply.TheVariants.{NothingPending, OutletFull, NoClient, Gave}
use Rattle.fleet_text.proofs.RunLines.{told, five}
use Rattle.fleet_text.proofs.runs.write_give.Goals as goal

pub returns-in-NothingPending : goal.returns-in-NothingPending
returns-in-NothingPending g c = told c.write_numbered.result (Give c.args.client) c.args.reply NothingPending (string_bytes c.args.out.now) (string_bytes c.write_numbered.new.out) _ c.in-NothingPending.is (λ e. refl) c.write_numbered.ensures

pub returns-in-OutletFull : goal.returns-in-OutletFull
returns-in-OutletFull g c = told c.write_numbered-in-OutletFull.result (Give c.args.client) c.args.reply OutletFull (string_bytes c.args.out.now) (string_bytes c.write_numbered-in-OutletFull.new.out) _ c.in-OutletFull.is (λ e. refl) c.write_numbered-in-OutletFull.ensures

pub returns-in-NoClient : goal.returns-in-NoClient
returns-in-NoClient g c = told c.write_numbered-in-NoClient.result (Give c.args.client) c.args.reply NoClient (string_bytes c.args.out.now) (string_bytes c.write_numbered-in-NoClient.new.out) _ c.in-NoClient.is (λ e. refl) c.write_numbered-in-NoClient.ensures

pub returns-in-Gave : goal.returns-in-Gave
returns-in-Gave g c =
    told c.write.result (Give c.args.client) c.args.reply (Gave c.in-Gave.seq) (string_bytes c.args.out.now) (string_bytes c.write.new.self) _ c.in-Gave.is
    (λ e. five (codes "gave ") (decimal c.args.client) (codes " ") (decimal c.in-Gave.seq) (codes "\n")) c.write.ensures.bytes
