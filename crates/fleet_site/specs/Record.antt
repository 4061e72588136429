-- What is kept of changes.
use Rattle.std.specs.Prelude.{ℕ, List}
use Rattle.std.specs.declared.alloc.Global.{Global}
use Rattle.fleet_history.specs.declared.history.Opening.{Opening}
use Rattle.fleet_refit.specs.declared.change.Change.{Change}
use Rattle.fleet_refit.specs.declared.change.Dropped.{Dropped}
use Rattle.fleet_refit.specs.declared.seat.Standing.{Standing}
use Rattle.fleet_site.specs.declared.record.SiteRecord.{SiteRecord}

-- the chapter's number, its map's checksum, the changes, what was dropped, how each robot takes part, and what is known of all
pub record Record (A : Type 0) : Type 0 where
  pub chapter : ℕ
  pub map : ℕ
  pub changes : List Change
  pub dropped : List Dropped
  pub standings : List Standing
  pub everyone : Opening A

-- a record of the program, without its memory
abbrev pub record_of : SiteRecord → Record Global
record_of r = record { chapter = r.chapter; map = r.map; changes = r.changes.items; dropped = r.dropped.items; standings = r.standings.items; everyone = r.everyone }
