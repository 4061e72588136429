use Rattle.std.proofs.Common.{refl, ap, arith}
use Rattle.std.proofs.lemmas.Result.{IfOk-from_err}
use Rattle.fleet_planner.specs.Courses.{goals_of}
use Rattle.fleet_core.proofs.Refusals.{all_err, on_ok_map, on_err_map}
use Rattle.fleet_core.proofs.entries.make_begun.Goals as goal

pub begin-requires : goal.begin-requires
begin-requires g c = record { may = c.requires.may; turns = c.requires.turns }

pub returns-in_err-reserve : goal.returns-in_err-reserve
returns-in_err-reserve g c = record {
  items = c.reserve.ensures.items;
  goals = IfOk-from_err c.from_residual.result _ c.from_residual.ensures.0;
  room = IfOk-from_err c.from_residual.result _ c.from_residual.ensures.0;
  same = record { turns = refl; on = c.requires.may.may.aimed.on; size = refl; bridge = refl; keeps = c.requires.may.may.aimed.kept };
  refused = all_err c.from_residual.result refl;
}

pub returns : goal.returns
returns g c = record {
  items = c.reserve.ensures.items;
  goals = c.begin.ensures.goals;
  room = on_ok_map c.begin.result (λ goals. omega (arith, c.in_ok-reserve.ensures.ok)) c.begin.ensures.goals;
  same = record { turns = c.begin.ensures.turns; on = c.begin.ensures.on; size = c.begin.ensures.size; bridge = c.begin.ensures.bridge; keeps = c.begin.ensures.keeps };
  refused = on_err_map c.begin.result (λ same. ap goals_of same) c.begin.ensures.refused;
}
