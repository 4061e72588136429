-- Only a nearer neighbour counts, and each nearer neighbour was looked at.
use Rattle.std.proofs.Common.{◌≡◌, ◌∙◌, ℕ, Option, Some, None, sym, true≢false}
use Rattle.std.specs.Prelude.{slice_index}
use Rattle.std.proofs.lemmas.Result.{IfOk-weaker}
use Rattle.fleet_roomy.proofs.Nearness.{floor-at-end, less-is-nearer, some-weaker}
use Rattle.fleet_roomy.proofs.blocked.blocked_at.Goals as goal

pub returns-then-not-is_floor-clause-free : goal.returns-then-not-is_floor-clause-free
returns-then-not-is_floor-clause-free g c _ w (dir, near) nearer full = absurd (true≢false (sym (c.is_floor.ensures.1 near.from) ∙ c.if-not-is_floor.true))

pub returns-then-not-is_floor-2-clause-free : goal.returns-then-not-is_floor-2-clause-free
returns-then-not-is_floor-2-clause-free g c _ w (dir, near) nearer full =
    let (steps, walk, long) = nearer.near_is.walk in
    absurd (true≢false (sym (c.is_floor-2.ensures.1 (floor-at-end c.args.grid.now w c.args.goal steps near.to walk)) ∙ c.if-not-is_floor-2.true))

pub returns-clause-free : goal.returns-clause-free
returns-clause-free g c =
    IfOk-weaker c.full_ahead.result _ _
    (λ found none is w near nearer full.
    let (dir, beside) = near in
    none is dir w beside ((c.ways.ensures dir w beside).1 ((less-is-nearer c.args.grid.now c.args.goal c.in_ok-field.field c.in_ok-field.ensures w (slice_index c.args.cells.now c.args.robot)).1 nearer)) full)
    c.full_ahead.ensures.none

pub returns-clause-blocked : goal.returns-clause-blocked
returns-clause-blocked g c =
    IfOk-weaker c.full_ahead.result _ _
    (λ found some. some-weaker found _ _
    (λ w is.
    let (dir, beside, way, full) = is in
    ((dir, beside), (less-is-nearer c.args.grid.now c.args.goal c.in_ok-field.field c.in_ok-field.ensures w (slice_index c.args.cells.now c.args.robot)).0 ((c.ways.ensures dir w beside).0 way), full))
    some)
    c.full_ahead.ensures.some
