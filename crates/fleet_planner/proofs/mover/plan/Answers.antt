-- The step of the tick, as it was written to the list.
use Rattle.std.proofs.Common.{arith, ◌≡◌, ◌++◌, ◌∙◌, ℕ, List, length, take, drop, ap}
use Rattle.std.proofs.Math.Seq.{take-append_seam}
use Rattle.fleet_planner.proofs.mover.plan.Goals as goal

-- a list that was written whole
whole : {X : Type 0} (n : ℕ) (new old : List X) → n ≡ length new → take n (new ++ drop (length new) old) ≡ new
whole n new old e =
    ap (λ k. take k (new ++ drop (length new) old)) e ∙ take-append_seam new (drop (length new) old)

pub returns-clause-conflict_free : goal.returns-clause-conflict_free
returns-clause-conflict_free g c =
    let many : c.in_ok-to.to.len ≡ length c.step_into.new.to =
    omega (arith, c.in_ok-to.to.ok.0, c.step_into.auto.to, ap length c.as_mut_slice.ensures.value) in
    rw (whole c.in_ok-to.to.len c.step_into.new.to c.in_ok-to.to.items many) c.in_ok-step_into.ensures.conflict_free

pub returns-clause-planned : goal.returns-clause-planned
returns-clause-planned g c =
    let many : c.in_ok-to.to.len ≡ length c.step_into.new.to =
    omega (arith, c.in_ok-to.to.ok.0, c.step_into.auto.to, ap length c.as_mut_slice.ensures.value) in
    rw (whole c.in_ok-to.to.len c.step_into.new.to c.in_ok-to.to.items many) c.in_ok-step_into.ensures.planned
