-- A line that is a post of the client's, by its result.
use Rattle.std.proofs.Common.{rules, ◌≡◌, ◌∙◌, ap}
use Rattle.std.specs.Prelude.{Err}
use Rattle.fleet_serve.proofs.Runs.{post-of, counted-ok, counted-full, counted-closed, counted-spent}
use Rattle.fleet_serve.proofs.shift.run_line.Goals as goal

pub returns-in-Ok : goal.returns-in-Ok
returns-in-Ok g c events run =
    let x = c.args.guest.now in
    let y = c.post.new.self in
    let same : c.in-Post.client ≡ x.number = c.if-client-number.true ∙ c.number.ensures in
    let one = post-of c.args.event c.in-Post.client x.number c.in-Post.order c.in-Post.is same in
    counted-ok events g.N.ScriptName.orders x y c.args.event c.args.lane_full run c.in-Post.order one y.free c.in-Ok.ensures.ok.1
    (λ t. let bad = c.in-Ok.ensures.closed.1 t in cc)
    (λ t. let bad = c.in-Ok.ensures.spent.1 t in cc)

pub returns-in-Err-LaneFull : goal.returns-in-Err-LaneFull
returns-in-Err-LaneFull g c events run =
    let x = c.args.guest.now in
    let same : c.in-Post.client ≡ x.number = c.if-client-number.true ∙ c.number.ensures in
    let one = post-of c.args.event c.in-Post.client x.number c.in-Post.order c.in-Post.is same in
    counted-full events g.N.ScriptName.orders x c.post.new.self c.args.event c.args.lane_full run c.in-Post.order one c.saturating_add.result c.in-Err-LaneFull.ensures.refused.1
    (λ t. let bad = c.in-Err-LaneFull.ensures.closed.1 t in cc)
    (λ t. let bad = c.in-Err-LaneFull.ensures.spent.1 t in cc)
    c.saturating_add.ensures

pub returns-in-Err-Closed : goal.returns-in-Err-Closed
returns-in-Err-Closed g c events run =
    let x = c.args.guest.now in
    let same : c.in-Post.client ≡ x.number = c.if-client-number.true ∙ c.number.ensures in
    let one = post-of c.args.event c.in-Post.client x.number c.in-Post.order c.in-Post.is same in
    counted-closed events g.N.ScriptName.orders x c.post.new.self c.args.event c.args.lane_full run c.in-Post.order one c.in-Err-Closed.ensures.refused.1
    (c.in-Err-Closed.ensures.closed.0 (ap Err c.in-Err-Closed.field-0-is))

pub returns-in-Err-NumbersSpent : goal.returns-in-Err-NumbersSpent
returns-in-Err-NumbersSpent g c events run =
    let x = c.args.guest.now in
    let same : c.in-Post.client ≡ x.number = c.if-client-number.true ∙ c.number.ensures in
    let one = post-of c.args.event c.in-Post.client x.number c.in-Post.order c.in-Post.is same in
    counted-spent events g.N.ScriptName.orders x c.post.new.self c.args.event c.args.lane_full run c.in-Post.order one c.in-Err-NumbersSpent.ensures.refused.1
    (c.in-Err-NumbersSpent.ensures.spent.0 (search rules))
