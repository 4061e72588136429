use Rattle.fleet_office.specs.Hall.{IsLawful, Turns, StopsTurn}
use Rattle.fleet_office.proofs.Over.{some-step, some-stop}
use Rattle.fleet_office.proofs.office.turn_held.Goals as goal

pub turn-requires : goal.turn-requires
turn-requires g c = c.requires

pub returns : goal.returns
returns g c =
    let h = c.args.hall.now.state in
    let t = c.turn in
    record {
      ticker = t.ensures.ticker;
      kept = t.ensures.kept;
      turned = some-step (λ v. IsLawful g.N.OfficeName.rings g.N.OfficeName.start v.world v.ends v.total) (λ v r u. Turns v r u) h t.new.self.state t.result c.recall_laws.ensures.lawful t.ensures.ok;
      stopped = some-stop (λ v. IsLawful g.N.OfficeName.rings g.N.OfficeName.start v.world v.ends v.total) (λ v e u. StopsTurn v e u) h t.new.self.state t.result c.recall_laws.ensures.lawful t.ensures.err;
    }
