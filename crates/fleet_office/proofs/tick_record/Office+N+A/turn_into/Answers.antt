use Rattle.fleet_office.specs.Hall.{IsLawful, Turns, StopsTurn}
use Rattle.fleet_office.specs.Shown.{IsLastTick}
use Rattle.fleet_office.proofs.Over.{some-step-left, some-stop}
use Rattle.fleet_office.proofs.tick_record.Office+N+A.turn_into.Goals as goal

pub returns-clause-turned : goal.returns-clause-turned
returns-clause-turned g c =
    some-step-left (λ v. IsLawful g.N.OfficeName.rings g.N.OfficeName.start v.world v.ends v.total) (λ v r u. Turns v r u) (λ u. IsLastTick u.world c.turn_into.new.made)
    c.deref_mut-hall.result.now.state c.turn_into.new.self.state c.turn_into.result c.recall_laws.ensures.lawful c.turn_into.ensures.ok

pub returns-clause-stopped : goal.returns-clause-stopped
returns-clause-stopped g c =
    some-stop (λ v. IsLawful g.N.OfficeName.rings g.N.OfficeName.start v.world v.ends v.total) (λ v e u. StopsTurn v e u)
    c.deref_mut-hall.result.now.state c.turn_into.new.self.state c.turn_into.result c.recall_laws.ensures.lawful c.turn_into.ensures.err
