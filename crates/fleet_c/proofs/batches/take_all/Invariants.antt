use Rattle.std.proofs.Common.{◌≡◌, ◌≤◌, ℕ}
use Rattle.std.specs.Prelude.{slice_index_or}
use Rattle.fleet_c.specs.Batches.{TookMany}
use Rattle.fleet_c.specs.declared.judgement.Judgement.{Judgement}
use Rattle.fleet_c.proofs.batches.take_all.Given as goal

abbrev pub invariant-loop-at : goal.invariant-loop-at
invariant-loop-at l = TookMany l.fn.fleet.refused.marks.items l.fn.fleet.core l.requests l.judgements l.at l.fleet.core
    × ((k : ℕ) (d : Judgement) → l.at ≤ k → slice_index_or l.judgements k d ≡ slice_index_or l.fn.judgements k d)
    × (l.fleet.refused ≡ l.fn.fleet.refused)
