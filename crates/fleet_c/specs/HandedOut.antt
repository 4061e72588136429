-- What the calls on chapters that are handed out answer C.
use Rattle.std.specs.Prelude.{ℕ, ◌≡◌, ◌≢◌, Option, None, Some, IsSomeAnd, is_some, true, false}
use Rattle.fleet_history.specs.History.{history_of}
use Rattle.fleet_c.specs.Answers.{IsTurned}
use Rattle.fleet_c.specs.OwnsChapter.{HeldValue}
use Rattle.fleet_c.specs.Owns.{HeldCore}
use Rattle.fleet_c.specs.declared.codes.TheConstants.{DONE, NOT_OPEN, ALREADY_OPEN}

-- a closed handle is refused and stays closed; this is said of the chapter of an open one, which stays as it is
abbrev pub OfChapter : Option HeldValue → Option HeldValue → ℕ → (HeldValue → Type 0) → Type 0
OfChapter None new code Says = (code ≡ NOT_OPEN) × (new ≡ None)
OfChapter (Some c) new code Says = (new ≡ Some c) × Says c

-- the next chapter has begun, and the handle to a chapter has the one that ended
pub record IsHandedOut (w : HeldCore) (code : ℕ) (had has : Option HeldValue) (n : HeldCore) : Type 0 where
  pub turned : IsTurned w code n
  pub handed : code ≡ DONE → IsSomeAnd has (λ c. (c.number ≡ w.number) × (history_of c ≡ w.history))
  pub stays : code ≢ DONE → has ≡ had

-- the same, where the handle to a chapter is closed; else nothing is done
abbrev pub HandsOut : HeldCore → ℕ → Option HeldValue → Option HeldValue → HeldCore → Type 0
HandsOut w code had has n = (is_some had ≡ false → IsHandedOut w code had has n)
    × (is_some had ≡ true → (code ≡ ALREADY_OPEN) × (has ≡ had) × (n ≡ w))
