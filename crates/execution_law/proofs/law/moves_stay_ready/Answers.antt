use Rattle.execution_law.proofs.Still.{ready_begun, ready_reported, ready_planned}
use Rattle.execution_law.proofs.law.moves_stay_ready.Goals as goal

pub returns : goal.returns
returns c = record {
  begun = λ run r t b lawful begins. ready_begun run r t b lawful begins;
  reported = λ run r c reports. ready_reported run r c reports;
  planned = λ run steps cell lawful extends. ready_planned run steps cell lawful extends;
}
