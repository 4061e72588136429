use Rattle.std.proofs.Common.{◌≡◌, ◌<◌, Option, None, map, length, slice_index_or, ap, sym, subst, ◌∙◌, arith}
use Rattle.std.proofs.lemmas.List.{get_or_past, length-map}
use Rattle.fleet_planner.specs.Courses.{growth_in}
use Rattle.fleet_planner.specs.Searched.{IsTold, IsUntold}
use Rattle.fleet_planner.proofs.Merged.{own-at}
use Rattle.fleet_planner.proofs.searching.lacks_at.Goals as goal

pub lacks-requires : goal.lacks-requires
lacks-requires g c = record { grown = λ field e. c.requires c.args.robot field (own-at c.args.own.now c.args.robot c.index-own-robot.result c.if-robot-own.false c.index-own-robot.is ∙ e) }
