use Rattle.fleet_script.proofs.Readings.{is_found, is_only, is_first, is_first_named}
use Rattle.fleet_script.proofs.script.read_script.Goals as goal

pub returns-clause-found : goal.returns-clause-found
returns-clause-found g c = is_found c.args.bytes.now c.read_lines.result c.read_lines.ensures

pub returns-clause-only : goal.returns-clause-only
returns-clause-only g c = is_only c.args.bytes.now c.read_lines.result c.read_lines.ensures

pub returns-clause-first : goal.returns-clause-first
returns-clause-first g c = is_first c.args.bytes.now c.read_lines.result c.read_lines.ensures

pub returns-clause-named : goal.returns-clause-named
returns-clause-named g c = is_first_named c.args.bytes.now c.read_lines.result c.read_lines.ensures
