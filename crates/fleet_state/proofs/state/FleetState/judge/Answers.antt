use Rattle.std.proofs.Common.{arith}
use Rattle.fleet_state.proofs.Parts.{inside, tally-count}
use Rattle.fleet_state.proofs.Judged.{verdict-is, has-place}
use Rattle.fleet_state.proofs.state.FleetState.judge.Goals as goal

pub returns-clause-verdict : goal.returns-clause-verdict
returns-clause-verdict g c h k =
    verdict-is (inside c.self.view_is k) c.args.client c.args.order c.facts-facts.result c.judge.result (omega (arith, c.requires.client, tally-count k)) (c.facts-facts.ensures h k) c.judge.ensures

pub returns-clause-place : goal.returns-clause-place
returns-clause-place g c h k =
    has-place k c.args.client c.args.order c.judge.result
    (verdict-is (inside c.self.view_is k) c.args.client c.args.order c.facts-facts.result c.judge.result (omega (arith, c.requires.client, tally-count k)) (c.facts-facts.ensures h k) c.judge.ensures)
