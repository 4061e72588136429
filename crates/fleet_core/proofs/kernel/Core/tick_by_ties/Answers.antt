use Rattle.std.proofs.Common.{◌∙◌, refl}
use Rattle.fleet_core.proofs.OwnLaws.{not-grown}
use Rattle.fleet_core.proofs.Refusals.{not_true}
use Rattle.fleet_core.proofs.kernel.Core.tick_by_ties.Goals as goal

pub tick_as-requires : goal.tick_as-requires
tick_as-requires g c = record { ties = c.if-not-are_ties.ensures refl ∙ c.tie_laws.ensures; closures = λ e. absurd (not_true refl e) }

pub returns-then-not-are_ties : goal.returns-then-not-are_ties
returns-then-not-are_ties g c = record { answer = c.no_tick.ensures; least = λ e same. absurd (not-grown c.args.self.now.history e same) }

pub returns : goal.returns
returns g c = record { answer = c.tick_as.ensures.answer; least = c.tick_as.ensures.lowest refl }
