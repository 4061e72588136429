-- A report is taken.
use Rattle.std.proofs.Common.{◌≡◌, ℕ, ◌<◌, List, length, set, arith, sym, subst}
use Rattle.execution_law.specs.Change.{Reports}
use Rattle.live_vehicles.specs.declared.place.Place.{Place}
use Rattle.live_vehicles.specs.Follows.{HasTaken}
use Rattle.live_vehicles.proofs.Following.{taken}
use Rattle.live_vehicles.proofs.reporting.take.Goals as goal

pub returns-clause-taken : goal.returns-clause-taken
returns-clause-taken c = (
  c.in_ok-reached.ensures.robot,
  λ o x.
      let report = c.in_ok-reached.ensures.reported o x.executes in
      let is = c.in_ok-reached.ensures.robot in
      let step = c.in_ok-reached.reached.tick in
      let reports : Reports o.run c.args.robot report.2.0 = subst (λ (r : ℕ). Reports o.run r report.2.0) is report.2.1 in
      let returned : o.returned c.args.robot ≡ step = subst (λ (r : ℕ). o.returned r ≡ step) is report.1 in
      subst (λ (ps : List Place). HasTaken o c.args.robot step c.reached.new.self ps) (sym (c.note_reached.ensures (omega (arith, x.count, reports.inside))))
      (taken c.args.run.now c.reached.new.self c.args.places.now.items o x c.args.robot step report.2.0 reports returned report.2.2),
)
