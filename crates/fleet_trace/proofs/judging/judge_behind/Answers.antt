-- A history that has a state is legal.
use Rattle.fleet_trace.proofs.judging.judge_behind.Goals as goal

pub returns-clause-ok : goal.returns-clause-ok
returns-clause-ok g c = c.in_ok-_state.ensures.state.legal
