use Rattle.std.proofs.Common.{refl, ap, arith}
use Rattle.std.proofs.lemmas.Result.{IfOk-from_err}
use Rattle.fleet_planner.specs.Courses.{goals_of}
use Rattle.fleet_core.proofs.Refusals.{all_err, on_ok_map, on_err_map}
use Rattle.fleet_core.proofs.tick_draft.make_ready.Goals as goal

pub turn-requires : goal.turn-requires
turn-requires g c = c.requires

pub returns-in_err-reserve : goal.returns-in_err-reserve
returns-in_err-reserve g c = record {
  items = c.reserve.ensures.items;
  ready = IfOk-from_err c.from_residual.result _ c.from_residual.ensures.0;
  same = record { turns = refl; on = c.requires.may.aimed.on; size = refl; bridge = refl; keeps = c.requires.may.aimed.kept };
  refused = all_err c.from_residual.result refl;
}

pub returns : goal.returns
returns g c = record {
  items = c.reserve.ensures.items;
  ready = on_ok_map c.turn.result (λ goals. record { goals = goals; room = omega (arith, c.in_ok-reserve.ensures.ok) }) c.turn.ensures.goals;
  same = record { turns = c.turn.ensures.turns; on = c.turn.ensures.on; size = c.turn.ensures.size; bridge = c.turn.ensures.bridge; keeps = c.turn.ensures.keeps };
  refused = on_err_map c.turn.result (λ same. ap goals_of same) c.turn.ensures.refused;
}
