use Rattle.fleet_office.specs.Hall.{IsLawful, Settles, StopsSettling}
use Rattle.fleet_office.proofs.Over.{some-step, some-stop}
use Rattle.fleet_office.proofs.settle.Office+N+A.settle.Goals as goal

pub returns-clause-settled : goal.returns-clause-settled
returns-clause-settled g c =
    some-step (λ v. IsLawful g.N.OfficeName.rings g.N.OfficeName.start v.world v.ends v.total) (λ v r u. Settles v r u) c.deref_mut-hall.result.now.state c.settle.new.self.state c.settle.result c.recall_laws.ensures.lawful c.settle.ensures.ok

pub returns-clause-stopped : goal.returns-clause-stopped
returns-clause-stopped g c =
    some-stop (λ v. IsLawful g.N.OfficeName.rings g.N.OfficeName.start v.world v.ends v.total) (λ v e u. StopsSettling v e u) c.deref_mut-hall.result.now.state c.settle.new.self.state c.settle.result c.recall_laws.ensures.lawful c.settle.ensures.err
