-- A chapter that is judged illegal is not said to be legal.
use Rattle.errands_lib.proofs.service.judge_served.Goals as goal

pub returns-in-Ok : goal.returns-in-Ok
returns-in-Ok c = c.in-Ok.ensures.ok

pub returns-in-Err-Illegal : goal.returns-in-Err-Illegal
returns-in-Err-Illegal c = tt
