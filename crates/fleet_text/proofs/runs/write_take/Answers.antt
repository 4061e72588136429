-- The lines that are told by a word and the client.
use Rattle.std.proofs.Common.{refl, codes, decimal, string_bytes}
use Rattle.fleet_book.specs.declared.event.Event.TheVariants.{Take}
use Rattle.fleet_world.specs.declared.reply.Reply.TheVariants.{LaneEmpty, NoClient, Took, TakeRefused}
use Rattle.fleet_text.specs.Output.{verdict_text, take_fault_text}
use Rattle.fleet_text.proofs.RunLines.{told, seven, five}
use Rattle.fleet_text.proofs.runs.write_take.Goals as goal

pub returns-in-LaneEmpty : goal.returns-in-LaneEmpty
returns-in-LaneEmpty g c = told c.write_numbered.result (Take c.args.client) c.args.reply LaneEmpty (string_bytes c.args.out.now) (string_bytes c.write_numbered.new.out) _ c.in-LaneEmpty.is (λ e. refl) c.write_numbered.ensures

pub returns-in-NoClient : goal.returns-in-NoClient
returns-in-NoClient g c = told c.write_numbered-in-NoClient.result (Take c.args.client) c.args.reply NoClient (string_bytes c.args.out.now) (string_bytes c.write_numbered-in-NoClient.new.out) _ c.in-NoClient.is (λ e. refl) c.write_numbered-in-NoClient.ensures

pub returns-in-Took : goal.returns-in-Took
returns-in-Took g c =
    told c.write.result (Take c.args.client) c.args.reply (Took c.in-Took.order_no c.in-Took.verdict) (string_bytes c.args.out.now) (string_bytes c.write.new.self) _ c.in-Took.is
    (λ e. seven (codes "took ") (decimal c.args.client) (codes " ") (decimal c.in-Took.order_no) (codes " ") (verdict_text c.in-Took.verdict) (codes "\n")) c.write.ensures.bytes

pub returns-in-TakeRefused : goal.returns-in-TakeRefused
returns-in-TakeRefused g c =
    told c.write-in-TakeRefused.result (Take c.args.client) c.args.reply (TakeRefused c.in-TakeRefused.fault) (string_bytes c.args.out.now) (string_bytes c.write-in-TakeRefused.new.self) _ c.in-TakeRefused.is
    (λ e. five (codes "take-refused ") (decimal c.args.client) (codes " ") (take_fault_text c.in-TakeRefused.fault) (codes "\n")) c.write-in-TakeRefused.ensures.bytes
