-- What a turn takes, and what ends it.
use Rattle.std.proofs.Common.{◌≡◌, ◌↔◌, ◌<◌, ◌≤◌, ◌+◌, ℕ, suc, Bool, true, false, refl, ap, ◌∙◌, subst, arith}
use Rattle.std.specs.Prelude.{Result, Err}
use Rattle.std.specs.Int.{from_bool}
use Rattle.fleet_history.specs.History.{clock}
use Rattle.fleet_core.specs.Core.{HasNoEntries}
use Rattle.fleet_core.specs.declared.faults.TickFault.{TickFault}
use Rattle.fleet_core.specs.declared.faults.TickFault.TheVariants as fault
use Rattle.fleet_core.specs.declared.faults.TickReport.{TickReport}
use Rattle.fleet_office.specs.Hall.{HallView, IsTickCause, TakesFirst, TakesSome, held_count}
use Rattle.fleet_office.specs.inside.Causes.{cause_of}

-- a refused tick says what ended the turn
pub cause-met : {A : Type 0} (h : HallView A) (f : TickFault) (r : Result TickReport TickFault) → r ≡ Err f → ((r ≡ Err fault.ClockSpent) ↔ (clock h.world.history ≡ h.world.limits.clock)) →
    ((r ≡ Err fault.ChapterFull) ↔ ((clock h.world.history < h.world.limits.clock) × HasNoEntries h.world)) → IsTickCause h (cause_of f)
cause-met h fault.ClockSpent r is spent full = spent.0 is
cause-met h fault.ChapterFull r is spent full = full.0 is
cause-met h fault.NoMemory r is spent full = tt

as_held : (full : Bool) → from_bool full ≡ held_count full
as_held true = refl
as_held false = refl

-- one client's full mailbox is counted once
pub held-few : (full : Bool) → from_bool full ≤ 1
held-few true = omega arith
held-few false = omega arith

-- the orders of one client more were taken
pub first-taken : {A : Type 0} (k : ℕ) (h mid g : HallView A) (taken held more full : ℕ) (was_full : Bool) → full ≡ from_bool was_full →
    TakesFirst k h taken held mid → TakesSome mid k more was_full g → TakesFirst (k + 1) h (taken + more) (held + full) g
first-taken k h mid g taken held more full was_full is before some =
    let next : suc k ≡ k + 1 = omega arith in
    subst (λ n. TakesFirst n h (taken + more) (held + full) g) next (mid, taken, held, more, was_full, before, some, refl, ap (λ n. held + n) (is ∙ as_held was_full))
