use Rattle.fleet_planner.proofs.Refused.{on_ok_map}
use Rattle.fleet_planner.proofs.mover.step_into.Goals as goal

pub step_by-requires-clause-goals : goal.step_by-requires-clause-goals
step_by-requires-clause-goals g c = c.requires.goals

pub step_by-requires-clause-shows : goal.step_by-requires-clause-shows
step_by-requires-clause-shows g c = c.requires.on

pub returns-clause-made : goal.returns-clause-made
returns-clause-made g c = c.step_by.ensures.made

pub returns-clause-still : goal.returns-clause-still
returns-clause-still g c = c.step_by.ensures.stays

pub returns-clause-on : goal.returns-clause-on
returns-clause-on g c = c.step_by.ensures.shows

pub returns-clause-conflict_free : goal.returns-clause-conflict_free
returns-clause-conflict_free g c = on_ok_map c.step_by.result (λ stepped. stepped.conflict_free) c.step_by.ensures.stepped

pub returns-clause-planned : goal.returns-clause-planned
returns-clause-planned g c =
    on_ok_map c.step_by.result (λ stepped. record { purposeful = stepped.purposeful; advances = stepped.advances; by_law = stepped.by_law }) c.step_by.ensures.stepped
