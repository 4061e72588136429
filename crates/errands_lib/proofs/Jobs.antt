-- What the program says to a job, and to what its readers had.
use Rattle.std.proofs.Common.{◌≡◌, ℕ, Option, Some, None, List, Result, Ok, Err, sym, subst}
use Rattle.std.specs.Prelude.{IfOk, IfSome}
use Rattle.std.specs.declared.alloc.AllocError.{AllocError}
use Rattle.errands_lib.specs.declared.job.Job.{Job}
use Rattle.fleet_text.specs.declared.said.Said.{Said}
use Rattle.fleet_text.specs.Said.{said}
use Rattle.fleet_text.specs.Kit.{KitLaws}
use Rattle.errands_lib.specs.Outcome.{IsJobOutcome}

-- what is said to the job at hand
pub job_is : (kit : KitLaws) (r : Result Said AllocError) (job named : Job) (first second : List ℕ) → job ≡ named → IfOk r (λ s. IsJobOutcome kit named first second (said s))
    → IfOk r (λ s. IsJobOutcome kit job first second (said s))
job_is kit (Ok s) job named first second e p = subst (λ (j : Job). IsJobOutcome kit j first second (said s)) (sym e) p
job_is kit (Err x) job named first second e p = tt

-- what follows of what both readers had
pub for_both : (all other : Option (List ℕ)) (P Q : List ℕ → List ℕ → Type 0) → ((x y : List ℕ) → P x y → Q x y) → IfSome all (λ x. IfSome other (λ y. P x y)) → IfSome all (λ x. IfSome other (λ y. Q x y))
for_both None other P Q f p = tt
for_both (Some x) None P Q f p = tt
for_both (Some x) (Some y) P Q f p = f x y p

-- what holds whatever both readers had
pub for_each : (all other : Option (List ℕ)) (P : List ℕ → List ℕ → Type 0) → ((x y : List ℕ) → P x y) → IfSome all (λ x. IfSome other (λ y. P x y))
for_each None other P p = tt
for_each (Some x) None P p = tt
for_each (Some x) (Some y) P p = p x y
