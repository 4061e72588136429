-- The codes of what the world answers.
use Rattle.std.specs.Prelude.{ℕ, Result, Ok, Err, Option}
use Rattle.fleet_book.specs.declared.verdict.Verdict.{Verdict}
use Rattle.fleet_core.specs.declared.faults.TickReport.{TickReport}
use Rattle.fleet_core.specs.declared.faults.TakeFault.{TakeFault}
use Rattle.fleet_core.specs.declared.faults.TakeFault.TheVariants as take
use Rattle.fleet_core.specs.declared.faults.TickFault.{TickFault}
use Rattle.fleet_core.specs.declared.faults.TickFault.TheVariants as tick
use Rattle.fleet_core.specs.declared.faults.ShutFault.{ShutFault}
use Rattle.fleet_core.specs.declared.faults.ShutFault.TheVariants as shut
use Rattle.fleet_core.specs.declared.faults.ChapterFault.{ChapterFault}
use Rattle.fleet_core.specs.declared.faults.ChapterFault.TheVariants as chapter
use Rattle.fleet_c.specs.declared.codes.TheConstants.{DONE, NO_MEMORY, NO_ROBOT, MAILBOX_FULL, CHAPTER_FULL, CLOCK_SPENT, ALREADY_SHUT, BOOK_SPENT}

-- the code of a take
abbrev pub take_code : Result Verdict TakeFault → ℕ
take_code (Ok v) = DONE
take_code (Err take.MailboxFull) = MAILBOX_FULL
take_code (Err take.ChapterFull) = CHAPTER_FULL
take_code (Err take.NoMemory) = NO_MEMORY

-- the code of a tick
abbrev pub tick_code : Result TickReport TickFault → ℕ
tick_code (Ok did) = DONE
tick_code (Err tick.ClockSpent) = CLOCK_SPENT
tick_code (Err tick.ChapterFull) = CHAPTER_FULL
tick_code (Err tick.NoMemory) = NO_MEMORY

-- the code of a shut
abbrev pub shut_code : Result (Option ℕ) ShutFault → ℕ
shut_code (Ok farewell) = DONE
shut_code (Err shut.NoRobot) = NO_ROBOT
shut_code (Err shut.Already) = ALREADY_SHUT
shut_code (Err shut.ChapterFull) = CHAPTER_FULL
shut_code (Err shut.NoMemory) = NO_MEMORY

-- the code of a change of chapters
abbrev pub chapter_code : {X : Type 0} → Result X ChapterFault → ℕ
chapter_code (Ok chapter) = DONE
chapter_code (Err chapter.BookSpent) = BOOK_SPENT
chapter_code (Err chapter.NoMemory) = NO_MEMORY
