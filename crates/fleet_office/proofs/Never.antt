-- What cannot stand at once, apart from all that is known where it is asked.
use Rattle.std.proofs.Common.{◌≡◌, Result, Ok, Err}
use Rattle.fleet_core.specs.declared.faults.TakeFault.{TakeFault}
use Rattle.fleet_core.specs.declared.faults.TakeFault.TheVariants.{MailboxFull, ChapterFull, NoMemory}

-- what was done was not refused
pub not_refused : {X E P : Type 0} {x : X} {e : E} → ◌≡◌ {A = Result X E} (Ok x) (Err e) → P
not_refused {X} {E} {P} {x} {e} same = absurd cc

-- out of memory is neither a full chapter nor a full mailbox
pub not_full : {X P : Type 0} → ◌≡◌ {A = Result X TakeFault} (Err NoMemory) (Err ChapterFull) → P
not_full {X} {P} same = absurd cc

pub not_held : {X P : Type 0} → ◌≡◌ {A = Result X TakeFault} (Err NoMemory) (Err MailboxFull) → P
not_held {X} {P} same = absurd cc
