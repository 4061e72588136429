use Rattle.std.proofs.Common.{refl, sym, ap}
use Rattle.std.proofs.lemmas.Bool.{false≢true}
use Rattle.fleet_field.proofs.Ahead.{kept_at}
use Rattle.fleet_field.proofs.cache.FieldCache.has.Goals as goal

pub returns-in-Some : goal.returns-in-Some
returns-in-Some g c =
    rw (ap (λ s. s.kept) (sym c.self.view_is)) (λ yes. kept_at c.self.inside.kept.items c.in-Some._at c.args.goal c.in-Some.ensures.0 c.in-Some.ensures.1, λ has. refl)

pub returns-in-None : goal.returns-in-None
returns-in-None g c = rw (ap (λ s. s.kept) (sym c.self.view_is)) (λ yes. absurd (false≢true yes), λ has. absurd (c.in-None.ensures has))
