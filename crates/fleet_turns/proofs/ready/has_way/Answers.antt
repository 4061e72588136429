use Rattle.std.proofs.Common.{sym, ◌∙◌}
use Rattle.std.proofs.lemmas.Bool.{false≢true}
use Rattle.fleet_turns.proofs.OnFloor.{way_ends_on_floor}
use Rattle.fleet_turns.proofs.ready.has_way.Goals as goal

pub returns-else-is_floor : goal.returns-else-is_floor
returns-else-is_floor g c = (
  λ yes. absurd (false≢true (sym c.if-is_floor.false ∙ yes)),
  λ way. c.is_floor.ensures.1 (way_ends_on_floor c.args.grid.now c.args.cell c.args.goal c.requires way),
)
