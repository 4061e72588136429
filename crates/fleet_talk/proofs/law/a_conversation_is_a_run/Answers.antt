use Rattle.fleet_talk.proofs.Runs.{said-run}
use Rattle.fleet_talk.proofs.law.a_conversation_is_a_run.Goals as goal

pub returns : goal.returns
returns g c m starts clients limits laws events text t can orderly talks = said-run m starts clients limits laws events text t can orderly talks
