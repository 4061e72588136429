-- Of a file, and without one.
use Rattle.std.proofs.Common.{Option, ap, subst, sym}
use Rattle.std.specs.Option.{option_map}
use Rattle.fleet_lib.specs.Ended.{KeptFile, TellsKeptFault, file_shown}
use Rattle.fleet_lib.proofs.ending.tell_kept_fault.Goals as goal

pub returns-in-Some : goal.returns-in-Some
returns-in-Some g c =
    subst (λ (file : Option KeptFile). TellsKeptFault c.args.texts.map.now file c.args.fault (g.E.Write.contents c.args.error.now) (g.E.Write.contents c.complain_of_kept.new.error) c.complain_of_kept.result)
    (sym (ap (option_map file_shown) c.in-Some.is)) c.complain_of_kept.ensures

pub returns-in-None : goal.returns-in-None
returns-in-None g c =
    subst (λ (file : Option KeptFile). TellsKeptFault c.args.texts.map.now file c.args.fault (g.E.Write.contents c.args.error.now) (g.E.Write.contents c.fail.new.error) c.fail.result)
    (sym (ap (option_map file_shown) c.in-None.is)) c.fail.ensures
