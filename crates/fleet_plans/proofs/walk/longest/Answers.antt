-- One more track, longer or not.
use Rattle.std.proofs.Common.{ℕ, ◌+◌, ◌<◌, inl, List, [], length, sym, ap, ◌∙◌, arith}
use Rattle.std.specs.Borrow.{Bor}
use Rattle.std.proofs.lemmas.List.{get_or-map, length-map}
use Rattle.fleet_plans.specs.Shown.{texts}
use Rattle.fleet_plans.specs.inside.Walk.{IsLongest}
use Rattle.fleet_plans.proofs.Walks.{longer, no_longer}
use Rattle.fleet_plans.proofs.walk.longest.Goals as goal
use Rattle.fleet_plans.proofs.walk.longest.Goals.{then-track-most, else-track-most}

pub loop-track-init : goal.loop-track-init
loop-track-init c = record { most = λ r less. absurd (omega arith); one = inl (omega arith) }

pub loop-track-preserved : goal.loop-track-preserved
loop-track-preserved c =
    let tracks = c.args.tracks.now in
    let n = c.loop-track.track-index in
    let text = λ (x : Bor (List ℕ)). x.now in
    let inside : n < length (texts tracks) = omega (arith, length-map tracks text) in
    let here = ap (λ (t : List ℕ). length t) (get_or-map text tracks n (record { ref_ptr = (0, 0); now = [] }) [] (omega arith)) in
    let new = c.if-track-most.most in
    elim c.if-track-most.branch as (λ _. IsLongest (texts tracks) (n + 1) new) [
      | then-track-most w ↦ longer (texts tracks) n c.loop-track.most inside c.loop-track.invariant new (w.most-is ∙ sym here) (omega (arith, w.if-track-most.true, here))
      | else-track-most w ↦ no_longer (texts tracks) n c.loop-track.most inside c.loop-track.invariant new w.most-is (omega (arith, w.if-track-most.false, here))
    ]
