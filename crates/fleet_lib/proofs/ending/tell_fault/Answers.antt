-- Why a conversation broke off, or was not held.
use Rattle.std.proofs.Common.{Option, subst}
use Rattle.std.specs.Option.{option_map}
use Rattle.fleet_text.specs.declared.said.Complaint.{Complaint}
use Rattle.fleet_talk.specs.declared.fault.TalkFault.{TalkFault}
use Rattle.fleet_lib.specs.Ended.{TellsFault, file_shown}
use Rattle.fleet_lib.specs.Talk.{Complains}
use Rattle.fleet_lib.proofs.ending.tell_fault.Goals as goal

pub returns-in-Some : goal.returns-in-Some
returns-in-Some g c =
    subst (λ (why : Option TalkFault). TellsFault why c.args.texts.map.now (option_map file_shown c.args.texts.kept) c.args.fault (g.E.Write.contents c.args.error.now) (g.E.Write.contents c.complain.new.error) c.complain.result) c.in-Some.ensures
    (subst (λ (it : Complaint). Complains it (g.E.Write.contents c.args.error.now) (g.E.Write.contents c.complain.new.error) c.complain.result) c.complaint_of.ensures c.complain.ensures)

pub returns-in-None : goal.returns-in-None
returns-in-None g c =
    subst (λ (why : Option TalkFault). TellsFault why c.args.texts.map.now (option_map file_shown c.args.texts.kept) c.args.fault (g.E.Write.contents c.args.error.now) (g.E.Write.contents c.tell_kept_fault.new.error) c.tell_kept_fault.result) c.in-None.ensures c.tell_kept_fault.ensures
