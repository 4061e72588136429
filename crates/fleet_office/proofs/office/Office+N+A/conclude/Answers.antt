use Rattle.std.proofs.Common.{◌≡◌, None, length}
use Rattle.fleet_history.specs.History.{history_of}
use Rattle.fleet_bound.specs.Bound.{WaitsAreBounded}
use Rattle.fleet_bound.specs.Roomy.{AdvancesIfRoomy, HasBound}
use Rattle.fleet_core.specs.Core.{ServesInTurns}
use Rattle.fleet_office.specs.Hall.{IsLawful}
use Rattle.fleet_office.specs.Views.{cores}
use Rattle.fleet_office.specs.Concluded.{IsLast, IsUnconcluded}
use Rattle.fleet_office.proofs.Ended.{last-as, last-since, last-planned}
use Rattle.fleet_office.proofs.Over.{some-kind, some-fault, ok-kind}
use Rattle.fleet_office.proofs.office.Office+N+A.conclude.Goals as goal

pub returns : goal.returns
returns g c =
    let rings = g.N.OfficeName.rings in
    let began = g.N.OfficeName.start in
    let hall = c.into_inner-hall.result.state in
    let lawful = c.recall_laws.ensures.lawful in
    let r = c.conclude.result in
    let e = c.conclude.ensures in
    record {
      drains = some-kind (λ h. IsLawful rings began h.world h.ends h.total) (λ h f. IsLast (length rings) h (cores c.args.clients.items) f.grid f.chapter.number (history_of f.chapter)) hall r lawful e.drains;
      legal = e.legal;
      since = last-since began (length rings) hall (cores c.args.clients.items) r (λ f. f.grid) (λ f. f.chapter.number) (λ f. history_of f.chapter) lawful.since e.drains;
      planned = last-planned began hall.world r (λ f. f.grid) (λ f. history_of f.chapter) lawful.since.ties lawful.since.turns e.planned;
      advancing = last-as began hall.world r (λ turns f. turns ≡ None → AdvancesIfRoomy f.grid (history_of f.chapter)) lawful.since.turns e.advancing;
      bounded = last-as began hall.world r (λ turns f. turns ≡ None → HasBound f.grid (history_of f.chapter) → WaitsAreBounded f.grid (history_of f.chapter)) lawful.since.turns e.bounded;
      served = last-as began hall.world r (λ turns f. ServesInTurns turns f.grid (history_of f.chapter)) lawful.since.turns e.served;
      told = e.told;
      tick = e.tick;
      all = e.all;
      distinct = ok-kind r (λ home. home.distinct) e.home;
      err = some-fault (λ h. IsLawful rings began h.world h.ends h.total) (λ h e. IsUnconcluded (length rings) h c.args.clients.items c.args.tickers.items e.0) hall r lawful e.err;
      back = e.back;
      on = e.on;
    }
