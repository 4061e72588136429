use Rattle.std.proofs.Common.{rules, ap, subst}
use Rattle.std.specs.List.{All}
use Rattle.fleet_grid.specs.Floor.{floor_of_map}
use Rattle.fleet_map.specs.Grammar.{view}
use Rattle.fleet_script.specs.Runs.{runs_plan}
use Rattle.fleet_script.specs.Script.{Plan}
use Rattle.fleet_script.specs.Shown.{plan}
use Rattle.fleet_serve.specs.Posted.{IsLine, IsLineOfOther}
use Rattle.fleet_text.specs.declared.said.Complaint.TheVariants as complaint
use Rattle.fleet_text.specs.Kit.{kit_laws}
use Rattle.fleet_text.specs.Outcome.{fault}
use Rattle.errands_lib.specs.Outcome.{IsServed, IsServedScript, other, lines}
use Rattle.errands_lib.proofs.Outcomes.{said_is, said_more}
use Rattle.errands_lib.proofs.service.serve_script.Goals as goal

pub returns-in-Some : goal.returns-in-Some
returns-in-Some g c =
    let script = runs_plan c.args.script in
    let m = floor_of_map (view c.args.map) in
    let first : IsLineOfOther script.clients script.events script.lines c.in-Some.line = search rules in
    said_is (IsServedScript (kit_laws c.args.kit) m script) c.faulty.result _ c.faulty.ensures (other first.at first.first (ap (λ n. fault (complaint.Script n)) first.stands))

pub returns-in-Ok : goal.returns-in-Ok
returns-in-Ok g c =
    let script = runs_plan c.args.script in
    let m = floor_of_map (view c.args.map) in
    let all : All (IsLine script.clients) script.events = search rules in
    said_more (IsServed (kit_laws c.args.kit) m (plan c.in-Ok.script)) (IsServedScript (kit_laws c.args.kit) m script) c.serve_lines.result
    (λ o p. lines all (subst (λ (x : Plan). IsServed (kit_laws c.args.kit) m x o) c.in-Ok.ensures p)) c.serve_lines.ensures
