use Rattle.std.proofs.Common.{◌≢◌, ◌≤◌, ◌-◌, All, take, length}
use Rattle.fleet_talk.proofs.line_part.length_through.Given as goal

abbrev pub invariant-loop-at : goal.invariant-loop-at
invariant-loop-at l = (l.at ≤ length l.bytes) × All (λ x. x ≢ 10) (take l.at l.bytes)

abbrev pub decreases-loop-at : goal.decreases-loop-at
decreases-loop-at l = length l.bytes - l.at
