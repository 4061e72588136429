-- No `<` in the map's rows and in the text of traces.
use Rattle.fleet_view.proofs.Closed.{closed-chapters, closed-map, closed-verdicts}
use Rattle.fleet_view.proofs.law.input_ends_no_element.Goals as goal

pub returns-clause-rows : goal.returns-clause-rows
returns-clause-rows c = λ bytes m is. closed-map bytes m is

pub returns-clause-verdicts : goal.returns-clause-verdicts
returns-clause-verdicts c = λ vs. closed-verdicts vs

pub returns-clause-traces : goal.returns-clause-traces
returns-clause-traces c = λ ts. closed-chapters ts
