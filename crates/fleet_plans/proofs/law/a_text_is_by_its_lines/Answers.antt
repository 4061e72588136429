-- What is read is what the lines say.
use Rattle.fleet_plans.proofs.Grammar.{is-head, are-places, are-tracks}
use Rattle.fleet_plans.proofs.law.a_text_is_by_its_lines.Goals as goal

pub returns-clause-head : goal.returns-clause-head
returns-clause-head c = λ w h lines o is. is-head w h lines o is

pub returns-clause-places : goal.returns-clause-places
returns-clause-places c = λ w h head number lines places is. are-places w h head number lines places is

pub returns-clause-tracks : goal.returns-clause-tracks
returns-clause-tracks c = λ robots number lines tracks is. are-tracks robots number lines tracks is
