-- What the key shows, with one use more.
use Rattle.std.proofs.Common.{◌+◌, Some, sym, ap, ◌∙◌}
use Rattle.std.proofs.lemmas.Option.{same_Some}
use Rattle.fleet_field.specs.Field.{Aim}
use Rattle.fleet_field.specs.declared.store.Held.{Held}
use Rattle.fleet_field.proofs.holds.use_again.Goals as goal

pub returns-clause-more : goal.returns-clause-more
returns-clause-more g c = λ at is. c.set_uses.ensures.set at is ∙ ap (λ (h : Held Aim). Some (record at { uses = h.uses + 1 })) (same_Some _ _ (sym c.index.ensures ∙ is))
