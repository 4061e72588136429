use Rattle.std.proofs.Common.{sym, ◌∙◌}
use Rattle.fleet_field.proofs.Uses.{filled_new}
use Rattle.fleet_field.proofs.holds.put.Goals as goal

pub returns-in-None-clause-filled : goal.returns-in-None-clause-filled
returns-in-None-clause-filled g c =
    filled_new c.args.held.now.slots c.insert_reserved-key.new.self.slots c.insert_reserved-key.result c.insert_reserved-key.ensures.updates.others c.args.field
    c.requires.once c.insert_reserved-key.ensures.was_vacant c.insert_reserved-key.ensures.updates.changed (λ k at e same. c.in-None.ensures k at e (same ∙ sym c.goal.ensures))
