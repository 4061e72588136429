-- A map that is read.
use Rattle.std.proofs.Common.{refl}
use Rattle.fleet_map.specs.Grammar.{view}
use Rattle.fleet_explain.specs.Explained.{fine}
use Rattle.fleet_explain.proofs.explanation.explain_map.Goals as goal

pub returns : goal.returns
returns c = fine (view c.in-Ok.floor) c.in-Ok.ensures.exact refl
