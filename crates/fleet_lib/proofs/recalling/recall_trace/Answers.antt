-- The notices of the chapter, or none.
use Rattle.std.proofs.Common.{rules, ◌≢◌, refl}
use Rattle.fleet_trace.specs.declared.fault.TraceFault.TheVariants as trace_fault
use Rattle.fleet_trace.specs.Trace.{trace_of}
use Rattle.fleet_lib.specs.Recalled.{untold}
use Rattle.fleet_lib.proofs.AddedChapters.{adds-told}
use Rattle.fleet_lib.proofs.recalling.recall_trace.Goals as goal

pub returns-in-Ok : goal.returns-in-Ok
returns-in-Ok c =
    let e = c.add_chapter.ensures in
    adds-told c.add_chapter.result c.args.trace.now (trace_of c.in-Ok.chapter) c.args.recalls.now c.add_chapter.new.self c.in-Ok.ensures.found e.most e.kept e.others e.wants

pub returns-in-Err : goal.returns-in-Err
returns-in-Err c =
    let named : c.in-Err._fault ≢ trace_fault.NoMemory = search rules in
    untold c.in-Err._fault c.in-Err.ensures.fault named refl refl
