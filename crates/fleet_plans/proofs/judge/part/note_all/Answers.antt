-- One more robot is noted; or all are.
use Rattle.std.proofs.Common.{◌∙◌, inl, refl, arith}
use Rattle.fleet_plans.proofs.Seatings.{part_more, done_more}
use Rattle.fleet_plans.proofs.judge.part.note_all.Goals as goal

pub loop-k-init : goal.loop-k-init
loop-k-init c = record { last_count = refl; costs_count = refl; done = λ k less. absurd (omega (arith, less)); part = λ r less. inl (refl, refl) }

pub loop-k-preserved : goal.loop-k-preserved
loop-k-preserved c =
    let place = c.args.place.now in
    let time = c.args.time in
    let was = c.loop-k.invariant in
    let now = c.note_one.ensures in
    record {
      last_count = now.last_count ∙ was.last_count;
      costs_count = now.costs_count ∙ was.costs_count;
      done = done_more c.loop-k.last c.loop-k.costs place c.args.robots.now time c.note_one.new.last c.note_one.new.costs c.loop-k.k now.others was.done now.here;
      part =
          λ r less.
          part_more c.args.last.now c.args.costs.now place time c.loop-k.last c.loop-k.costs c.note_one.new.last c.note_one.new.costs r (was.part r less) (now.others r less);
    }
