-- What is tested of a chapter before its entries are gone through.
use Rattle.std.specs.Prelude.{ℕ, ◌+◌, ◌<◌, ◌≤◌, length}
use Rattle.fleet_book.specs.declared.limits.Limits.{Limits}
use Rattle.fleet_history.specs.History.{History}
use Rattle.fleet_history.specs.Next.{IsWithinChapters}
use Rattle.fleet_core.specs.Hooks.{HookLaws}
use Rattle.fleet_core.specs.Resuming.{AreLawsAt, AreLimitsAt}
use Rattle.fleet_reopen.specs.declared.fault.ReopenFault.{ReopenFault}
use Rattle.fleet_reopen.specs.declared.fault.ReopenFault.TheVariants as fault

-- its number, its entries and its clients' orders let another chapter follow, and so do the ticks before it
pub record IsCounted {A : Type 0} (limits : Limits) (number : ℕ) (h : History A) : Type 0 where
  pub tick : h.opening.tick ≤ limits.clock
  pub numbered : number + 1 < limits.chapters
  pub entries : length h.entries ≤ limits.chapter
  pub taken : IsWithinChapters h number limits.chapter

-- the laws, the limits and the counts go together
pub record IsFit {A : Type 0} (number : ℕ) (h : History A) (limits : Limits) (laws : HookLaws) : Type 0 where
  pub hooks : AreLawsAt h.opening laws
  pub same : AreLimitsAt h.opening limits
  pub counted : IsCounted limits number h

-- why they do not
abbrev pub IsMisfit : {A : Type 0} → ℕ → History A → Limits → HookLaws → ReopenFault → Type 0
IsMisfit number h limits laws fault.Laws = AreLawsAt h.opening laws → ⊥
IsMisfit number h limits laws fault.Differs = AreLawsAt h.opening laws × (AreLimitsAt h.opening limits → ⊥)
IsMisfit number h limits laws fault.Spent = AreLawsAt h.opening laws × AreLimitsAt h.opening limits × (IsCounted limits number h → ⊥)
IsMisfit number h limits laws _ = ⊥
