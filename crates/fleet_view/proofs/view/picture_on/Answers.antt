-- The picture of these chapters.
use Rattle.std.proofs.Common.{List, map, ap, ◌∙◌}
use Rattle.fleet_history.specs.declared.history.Chapter.{Chapter}
use Rattle.fleet_map.specs.Grammar.{view}
use Rattle.fleet_trace.specs.Trace.{trace_of}
use Rattle.fleet_view.specs.Picture.{picture_text}
use Rattle.fleet_view.proofs.view.picture_on.Goals as goal

pub returns-in-Ok-picture_of-clause-picture : goal.returns-in-Ok-picture_of-clause-picture
returns-in-Ok-picture_of-clause-picture c = λ bytes read. record {
  floor = view c.args.ground.now.floor;
  read = read;
  traces = map trace_of c.in-Ok.chapters.items;
  told = c.in-Ok.ensures.told;
  is = c.in-Ok-picture_of.ensures ∙ ap (λ (cs : List (Chapter _)). picture_text (view c.args.ground.now.floor) (map trace_of cs) c.args.tick) c.deref.ensures.value;
}
