use Rattle.std.proofs.Common.{Result, subst}
use Rattle.fleet_map.specs.Grammar.{Map, Gives, view}
use Rattle.fleet_map.specs.declared.fault.MapFault.{MapFault}
use Rattle.fleet_map.proofs.Faults.{is_first}
use Rattle.fleet_map.proofs.Forms.{form_is}
use Rattle.fleet_map.proofs.Shapes.{is_found, is_read}
use Rattle.fleet_map.proofs.map_text.read_map.Goals as goal

pub returns-clause-found : goal.returns-clause-found
returns-clause-found g c = is_found c.args.bytes.now c.read_lines.result c.read_lines.ensures.exact

pub returns-clause-only : goal.returns-clause-only
returns-clause-only g c = λ m t. subst (λ (r : Result Map MapFault). Gives view c.read_lines.result r) (is_read c.args.bytes.now m t) c.read_lines.ensures.exact

pub returns-clause-first : goal.returns-clause-first
returns-clause-first g c = is_first c.args.bytes.now c.read_lines.result c.read_lines.ensures.exact

pub returns-clause-sides : goal.returns-clause-sides
returns-clause-sides g c = form_is c.args.bytes.now c.read_lines.result (is_found c.args.bytes.now c.read_lines.result c.read_lines.ensures.exact)
