-- The figures count what the traces tell.
use Rattle.fleet_stats.proofs.Counted.{text-counted, json-counted}
use Rattle.fleet_stats.proofs.law.figures_are_counts.Goals as goal

pub returns-clause-text : goal.returns-clause-text
returns-clause-text c = text-counted

pub returns-clause-json : goal.returns-clause-json
returns-clause-json c = json-counted
