use Rattle.std.proofs.Common.{◌≡◌, subst, sym}
use Rattle.fleet_office.specs.Views.{AreOn, cores}
use Rattle.golden_office.proofs.Homes.{home_again}
use Rattle.golden_office.proofs.rows.stage.conclude_home.Goals as goal

pub returns-then-ne : goal.returns-then-ne
returns-then-ne g c = record { back = subst (λ cs. AreOn g.N.OfficeName.rings cs) (sym c.in-Err.ensures.back.0) c.requires.on }

pub conclude-requires-2 : goal.conclude-requires-2
conclude-requires-2 g c = record { on = subst (λ cs. AreOn g.N.OfficeName.rings cs) (sym c.in-Err.ensures.back.0) c.requires.on }

pub returns : goal.returns
returns g c =
    let on : AreOn g.N.OfficeName.rings (cores c.in-Err.back.1.clients.items) = subst (λ cs. AreOn g.N.OfficeName.rings cs) (sym c.in-Err.ensures.back.0) c.requires.on in
    record { back = home_again g.N.OfficeName.rings c.conclude-2.result (λ e. cores e.1.clients.items) (λ e. e.1.tickers.items ≡ c.in-Err.back.1.tickers.items) (cores c.in-Err.back.1.clients.items) on c.conclude-2.ensures.back }
