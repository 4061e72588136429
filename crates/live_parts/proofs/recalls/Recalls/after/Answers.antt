-- There are no more than are kept.
use Rattle.std.proofs.Common.{rules, ◌≤◌, length}
use Rattle.live_parts.proofs.Recalling.{few-later}
use Rattle.live_parts.proofs.recalls.Recalls.after.Goals as goal

pub returns-in-Some-clause-few : goal.returns-in-Some-clause-few
returns-in-Some-clause-few c =
    let few : length c.in-Some.recall.now.notices ≤ c.args.self.now.most = search rules in
    few-later c.after.result c.args.seq c.args.self.now.most c.in-Some.recall.now.notices c.after.ensures few
