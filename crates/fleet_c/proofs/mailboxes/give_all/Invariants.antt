use Rattle.std.proofs.Common.{◌≡◌, ◌<◌, ◌≤◌, ℕ}
use Rattle.std.specs.Prelude.{IsSomeAnd, slice_index_or}
use Rattle.fleet_c.specs.Batches.{without_many, notice_after}
use Rattle.fleet_c.specs.Forms.{note_of}
use Rattle.fleet_c.specs.declared.note.Note.{Note}
use Rattle.fleet_c.proofs.mailboxes.give_all.Given as goal

abbrev pub invariant-loop-at : goal.invariant-loop-at
invariant-loop-at l = (l.core.history ≡ l.fn.core.history)
    × (l.core ≡ without_many l.fn.core l.client l.at)
    × ((k : ℕ) → k < l.at → IsSomeAnd (notice_after l.fn.core l.client k) (λ notice. (d : Note) → slice_index_or l.notes k d ≡ note_of notice))
    × ((k : ℕ) (d : Note) → l.at ≤ k → slice_index_or l.notes k d ≡ slice_index_or l.fn.notes k d)
