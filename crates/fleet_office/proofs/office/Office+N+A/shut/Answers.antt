use Rattle.std.proofs.Common.{◌≤◌, subst, sym}
use Rattle.fleet_core.specs.Core.{Shuts}
use Rattle.fleet_office.proofs.Over.{some-outcome}
use Rattle.fleet_office.proofs.office.Office+N+A.shut.Goals as goal

pub returns : goal.returns
returns g c =
    let h = c.deref_mut-hall.result.now.state in
    let law = c.recall_laws.ensures.lawful in
    let e = c.shut.ensures in
    record {
      answer = (
        h,
        law,
        record {
          legal = law.legal;
          no_robot = e.no_robot;
          already = e.already;
          chapter_full = e.chapter_full;
          ok = some-outcome (λ v farewell. Shuts h.world c.args.robot farewell v) c.shut.new.self.state.world c.shut.result (λ farewell left. left.0) e.ok;
        },
      );
      no_robot = (
        (λ why. subst (λ n. n ≤ c.args.robot) law.since.robots (e.no_robot.0 why)),
        (λ few. e.no_robot.1 (subst (λ n. n ≤ c.args.robot) (sym law.since.robots) few)),
      );
    }
