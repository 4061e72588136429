-- The ticks for each errand of the longest queue and each robot.
use Rattle.std.proofs.Common.{arith, ◌≡◌, ◌∙◌, ◌-◌, ℕ, max, ap, refl}
use Rattle.fleet_bound.proofs.idle.idle_ticks.Goals as goal

turned : (n : ℕ) → max (n - 1) 1 ≡ max 1 (n - 1)
turned n = omega arith

pub returns : goal.returns
returns c =
    let farthest : c.max-farthest.result ≡ max 1 (c.args.floor_count - 1) =
    c.max-farthest.ensures ∙ ap (λ (n : ℕ). max n 1) c.saturating_sub.ensures ∙ turned c.args.floor_count in
    rw farthest refl
