use Rattle.fleet_text.specs.Kit.{kit_laws}
use Rattle.errands_lib.proofs.Jobs.{job_is}
use Rattle.errands_lib.proofs.answer.answer.Goals as goal

pub returns-in-Bundle : goal.returns-in-Bundle
returns-in-Bundle g c = job_is (kit_laws c.args.kit) c.answer_bundle.result c.args.job.now _ c.args.first.now c.args.second.now c.in-Bundle.is c.answer_bundle.ensures

pub returns-in-Map : goal.returns-in-Map
returns-in-Map g c = job_is (kit_laws c.args.kit) c.answer_map.result c.args.job.now _ c.args.first.now c.args.second.now c.in-Map.is c.answer_map.ensures

pub returns-in-Run : goal.returns-in-Run
returns-in-Run g c = job_is (kit_laws c.args.kit) c.answer_parts.result c.args.job.now _ c.args.first.now c.args.second.now c.in-Run.is c.answer_parts.ensures

pub returns-in-Judge : goal.returns-in-Judge
returns-in-Judge g c = job_is (kit_laws c.args.kit) c.answer_trace.result c.args.job.now _ c.args.first.now c.args.second.now c.in-Judge.is c.answer_trace.ensures
