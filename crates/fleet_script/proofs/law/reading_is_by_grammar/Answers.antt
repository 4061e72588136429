use Rattle.fleet_script.specs.declared.script.ScriptFault.TheVariants.{Line}
use Rattle.fleet_script.proofs.Readings.{is_script, is_read, is_fault, is_named}
use Rattle.fleet_script.proofs.law.reading_is_by_grammar.Goals as goal

pub returns-clause-read : goal.returns-clause-read
returns-clause-read c = λ bytes p. (is_script bytes p, is_read bytes p)

pub returns-clause-first : goal.returns-clause-first
returns-clause-first c = λ bytes line. (is_fault bytes line, is_named bytes (Line line))
