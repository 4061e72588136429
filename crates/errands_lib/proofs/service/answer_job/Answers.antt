use Rattle.fleet_text.specs.Kit.{kit_laws}
use Rattle.errands_lib.proofs.Services.{serve_job_is}
use Rattle.errands_lib.proofs.service.answer_job.Goals as goal

pub returns : goal.returns
returns g c = serve_job_is (kit_laws c.args.kit) c.answer_serve.result c.args.job.now c.args.first.now c.args.second.now c.requires.serve c.answer_serve.ensures
