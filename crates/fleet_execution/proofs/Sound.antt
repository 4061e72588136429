-- What is kept stays sound.
use Rattle.std.proofs.Common.{◌≡◌, ℕ, ◌<◌, inl, inr, Option, Some, None, Result, Ok, Err, IfSome, IfOk, IfErr, refl, sym, subst}
use Rattle.execution_law.specs.Rule.{MayBegin}
use Rattle.fleet_execution.specs.declared.motion.Move.{Move}
use Rattle.fleet_execution.specs.declared.motion.NotUnderWay.{NotUnderWay}
use Rattle.fleet_execution.specs.declared.state.State.{State}
use Rattle.fleet_execution.specs.Course.{Course}
use Rattle.fleet_execution.specs.Executes.{AreReturned, Executes}
use Rattle.fleet_execution.specs.State.{desk_of, IsSized, IsSound}
use Rattle.fleet_execution.specs.Given.{Gives, IsReported}

pub sound_begun : {A : Type 0} (s t : State A) (result : Option Move) → IsSound s → IsSized t
    → (result ≡ None → (o : Course) → Executes (desk_of s) o → AreReturned o × ((r u : ℕ) → r < o.run.plan.robots → MayBegin o.run r u → ⊥) × Executes (desk_of t) o)
    → IfSome result (λ m. (o : Course) → Executes (desk_of s) o → Gives o m (desk_of t)) → IsSound t
sound_begun s t None sound sized none some = record { sized = sized; course = sound.course; executes = (none refl sound.course sound.executes).2 }
sound_begun s t (Some m) sound sized none some = elim ((some sound.course sound.executes).2) [
  | inl begins ↦ record { sized = sized; course = _; executes = begins.3 }
  | inr passes ↦ record { sized = sized; course = _; executes = passes.1 }
]

pub sound_reported : {A : Type 0} (s t : State A) (result : Result Move NotUnderWay) (P : Type 0) → IsSound s → IsSized t
    → IfErr result (λ e. (t ≡ s) × P) → IfOk result (λ m. (o : Course) → Executes (desk_of s) o → IsReported o m (desk_of t)) → IsSound t
sound_reported s t (Ok m) P sound sized refused reported =
    let is = reported sound.course sound.executes in
    record { sized = sized; course = _; executes = is.2.2 }
sound_reported {A} s t (Err e) P sound sized refused reported = subst (λ (y : State A). IsSound y) (sym refused.0) sound
