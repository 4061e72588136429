-- The next deadline is a period later than this one, or more.
use Rattle.std.proofs.Common.{◌≤◌, ◌+◌, ℕ, subst, sym}
use Rattle.fleet_live.proofs.source.Source.end_turn.Goals as goal

pub note_next-requires : goal.note_next-requires
note_next-requires g c = (c.length-length.ensures.bound.0, subst (λ (n : ℕ). c.end_turn-due.result.0 + n ≤ c.end_turn-due.result.1) (sym c.length-length.ensures.value) c.end_turn-due.ensures.after)
