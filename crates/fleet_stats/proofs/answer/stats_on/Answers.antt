-- Why there is no text for traces on a map.
use Rattle.std.proofs.Common.{map, subst}
use Rattle.std.proofs.lemmas.Result.{IfErr-weaker}
use Rattle.fleet_trace.specs.Trace.{trace_of}
use Rattle.fleet_stats.specs.Chapters.{IsUnfollowed}
use Rattle.fleet_stats.specs.Report.IsNoneOn.{untold, unsound}
use Rattle.fleet_stats.proofs.answer.stats_on.Goals as goal

pub returns-in-Ok-clause-fault : goal.returns-in-Ok-clause-fault
returns-in-Ok-clause-fault c =
    IfErr-weaker c.report_on.result _ _ (λ f why. unsound (map trace_of c.in-Ok.chapters.items) c.in-Ok.ensures.told (subst (λ cs. IsUnfollowed c.args.grid.now (map trace_of cs) f) c.deref.ensures.value why)) c.report_on.ensures.fault

pub returns-in-Err-clause-fault : goal.returns-in-Err-clause-fault
returns-in-Err-clause-fault c = untold c.in-Err.ensures.fault
