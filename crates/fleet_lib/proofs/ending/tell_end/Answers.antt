-- Each end is told as its own.
use Rattle.std.proofs.Common.{Bool, Result, subst, sym}
use Rattle.std.specs.Option.{option_map}
use Rattle.fleet_lib.specs.declared.kept.KeptFault.{KeptFault}
use Rattle.fleet_lib.specs.Ended.{TellsEnd, file_shown}
use Rattle.fleet_lib.proofs.ending.tell_end.Goals as goal

pub returns-in-Ok : goal.returns-in-Ok
returns-in-Ok g c =
    subst (λ (ended : Result Bool KeptFault). TellsEnd c.args.texts.map.now (option_map file_shown c.args.texts.kept) ended (g.E.Write.contents c.args.error.now) (g.E.Write.contents c.tell_limit.new.error) c.tell_limit.result)
    (sym c.in-Ok.is) c.tell_limit.ensures

pub returns-in-Err : goal.returns-in-Err
returns-in-Err g c =
    subst (λ (ended : Result Bool KeptFault). TellsEnd c.args.texts.map.now (option_map file_shown c.args.texts.kept) ended (g.E.Write.contents c.args.error.now) (g.E.Write.contents c.tell_fault.new.error) c.tell_fault.result)
    (sym c.in-Err.is) c.tell_fault.ensures
