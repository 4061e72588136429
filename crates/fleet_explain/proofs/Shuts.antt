-- What is said of a shut that may not be.
use Rattle.std.proofs.Common.{◌≡◌, ℕ, ◌-◌, Bool, true, false, Option, Some, cond, refl, sym, subst}
use Rattle.std.specs.Prelude.{nat_lt, slice_get}
use Rattle.fleet_grid.specs.Floor.{Floor}
use Rattle.fleet_history.specs.declared.history.Entry.TheVariants.{Shut}
use Rattle.fleet_history.specs.History.{History, robots}
use Rattle.fleet_explain.specs.declared.detail.Detail.{Detail}
use Rattle.fleet_explain.specs.declared.detail.Detail.TheVariants.{Robots, ShutBefore}
use Rattle.fleet_explain.specs.Details.{why_not_shut, IsShutAt, IsDetail}

said : {A : Type 0} (m : Floor) (h : History A) (at : ℕ) (b : Bool) → IsShutAt h at (cond b ShutBefore (Robots (robots h))) → IsDetail m h at 8 (cond b ShutBefore (Robots (robots h)))
said m h at true is = (refl, is)
said m h at false is = (refl, is)

pub shut_told : {A : Type 0} (m : Floor) (h : History A) (at robot : ℕ) (farewell : Option ℕ) → slice_get h.entries (at - 1) ≡ Some (Shut robot farewell)
    → (d : Detail) → d ≡ why_not_shut (robots h) robot → IsDetail m h at 8 d
shut_told m h at robot farewell there d is =
    subst (λ (x : Detail). IsDetail m h at 8 x) (sym is) (said m h at (nat_lt robot (robots h)) (robot, farewell, there, refl))
