-- The lines of a tick to these cells, one after the other.
use Rattle.std.proofs.Common.{◌++◌, flat_map, string_bytes}
use Rattle.std.proofs.lemmas.Result.{on_ok_weaker}
use Rattle.fleet_text.specs.Output.{arrival_text, tick_line}
use Rattle.fleet_text.proofs.RunLines.{on}
use Rattle.fleet_text.proofs.ticks.write_moves.Goals as goal

pub returns : goal.returns
returns g c =
    let old = string_bytes c.args.out.now in
    let line = tick_line c.args.tick c.args.to.now in
    let arrivals = flat_map (arrival_text c.args.to.now) c.args.arrived.now in
    let arrived = on old line arrivals _ _ c.in_ok-write_tick_line.ensures c.in_ok-write_arrivals.ensures in
    on_ok_weaker c.write_farewells.result (λ h. on old (line ++ arrivals) _ _ _ arrived h) c.write_farewells.ensures
