-- The faults of a call are told apart, each by a lemma: where all that a call knows is at hand, the search for it is long.
use Rattle.std.proofs.Common.{◌≡◌}
use Rattle.std.specs.Prelude.{Result, Ok, Err}
use Rattle.fleet_core.specs.declared.faults.ChapterFault.{ChapterFault}
use Rattle.fleet_core.specs.declared.faults.ChapterFault.TheVariants as chapter
use Rattle.fleet_core.specs.declared.faults.TakeFault.{TakeFault}
use Rattle.fleet_core.specs.declared.faults.TakeFault.TheVariants as take
use Rattle.fleet_core.specs.declared.faults.TickFault.{TickFault}
use Rattle.fleet_core.specs.declared.faults.TickFault.TheVariants as tick
use Rattle.fleet_core.specs.declared.faults.ShutFault.{ShutFault}
use Rattle.fleet_core.specs.declared.faults.ShutFault.TheVariants as shut

-- what was done was not refused
pub done : {X E P : Type 0} {x : X} {e : E} → ◌≡◌ {A = Result X E} (Ok x) (Err e) → P
done e = cc

-- ---- takes

pub take-mailbox_full-chapter_full : {X P : Type 0} → ◌≡◌ {A = Result X TakeFault} (Err take.MailboxFull) (Err take.ChapterFull) → P
take-mailbox_full-chapter_full e = cc

pub take-chapter_full-mailbox_full : {X P : Type 0} → ◌≡◌ {A = Result X TakeFault} (Err take.ChapterFull) (Err take.MailboxFull) → P
take-chapter_full-mailbox_full e = cc

pub take-no_memory-mailbox_full : {X P : Type 0} → ◌≡◌ {A = Result X TakeFault} (Err take.NoMemory) (Err take.MailboxFull) → P
take-no_memory-mailbox_full e = cc

pub take-no_memory-chapter_full : {X P : Type 0} → ◌≡◌ {A = Result X TakeFault} (Err take.NoMemory) (Err take.ChapterFull) → P
take-no_memory-chapter_full e = cc

-- ---- ticks

pub tick-clock_spent-chapter_full : {X P : Type 0} → ◌≡◌ {A = Result X TickFault} (Err tick.ClockSpent) (Err tick.ChapterFull) → P
tick-clock_spent-chapter_full e = cc

pub tick-chapter_full-clock_spent : {X P : Type 0} → ◌≡◌ {A = Result X TickFault} (Err tick.ChapterFull) (Err tick.ClockSpent) → P
tick-chapter_full-clock_spent e = cc

pub tick-no_memory-clock_spent : {X P : Type 0} → ◌≡◌ {A = Result X TickFault} (Err tick.NoMemory) (Err tick.ClockSpent) → P
tick-no_memory-clock_spent e = cc

pub tick-no_memory-chapter_full : {X P : Type 0} → ◌≡◌ {A = Result X TickFault} (Err tick.NoMemory) (Err tick.ChapterFull) → P
tick-no_memory-chapter_full e = cc

-- ---- shuts

pub shut-no_robot-already : {X P : Type 0} → ◌≡◌ {A = Result X ShutFault} (Err shut.NoRobot) (Err shut.Already) → P
shut-no_robot-already e = cc

pub shut-no_robot-chapter_full : {X P : Type 0} → ◌≡◌ {A = Result X ShutFault} (Err shut.NoRobot) (Err shut.ChapterFull) → P
shut-no_robot-chapter_full e = cc

pub shut-already-no_robot : {X P : Type 0} → ◌≡◌ {A = Result X ShutFault} (Err shut.Already) (Err shut.NoRobot) → P
shut-already-no_robot e = cc

pub shut-already-chapter_full : {X P : Type 0} → ◌≡◌ {A = Result X ShutFault} (Err shut.Already) (Err shut.ChapterFull) → P
shut-already-chapter_full e = cc

pub shut-chapter_full-no_robot : {X P : Type 0} → ◌≡◌ {A = Result X ShutFault} (Err shut.ChapterFull) (Err shut.NoRobot) → P
shut-chapter_full-no_robot e = cc

pub shut-chapter_full-already : {X P : Type 0} → ◌≡◌ {A = Result X ShutFault} (Err shut.ChapterFull) (Err shut.Already) → P
shut-chapter_full-already e = cc

pub shut-no_memory-no_robot : {X P : Type 0} → ◌≡◌ {A = Result X ShutFault} (Err shut.NoMemory) (Err shut.NoRobot) → P
shut-no_memory-no_robot e = cc

pub shut-no_memory-already : {X P : Type 0} → ◌≡◌ {A = Result X ShutFault} (Err shut.NoMemory) (Err shut.Already) → P
shut-no_memory-already e = cc

pub shut-no_memory-chapter_full : {X P : Type 0} → ◌≡◌ {A = Result X ShutFault} (Err shut.NoMemory) (Err shut.ChapterFull) → P
shut-no_memory-chapter_full e = cc

-- ---- chapters

pub chapter-no_memory-book_spent : {X P : Type 0} → ◌≡◌ {A = Result X ChapterFault} (Err chapter.NoMemory) (Err chapter.BookSpent) → P
chapter-no_memory-book_spent e = cc
