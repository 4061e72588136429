-- The cells of placements.
use Rattle.std.proofs.Common.{◌≡◌, ℕ, ◌+◌, ◌<◌, ◌≤◌, ◌⊎◌, inl, inr, List, [], ◌∷◌, ◌++◌, length, take, get_or, refl, sym, ◌∙◌, ap, subst, append_assoc, append-nil, arith}
use Rattle.std.specs.Prelude.{slice_index, slice_index_or}
use Rattle.std.proofs.lemmas.Bool.{cases_lt}
use Rattle.std.proofs.lemmas.List.{take_more}
use Rattle.std.specs.Prelude.{Option, Some, None, IfSome, MatchOption}
use Rattle.std.proofs.KnownBytes.{Appends-nil}
use Rattle.std.specs.Io.KnownBytes.{Appends}
use Rattle.execution_law.specs.declared.clearance.Clearance.{Clearance}
use Rattle.fleet_execution.specs.Course.{Course}
use Rattle.fleet_execution.specs.Desk.{Desk}
use Rattle.fleet_execution.specs.Executes.{Executes}
use Rattle.fleet_execute.specs.declared.fault.HoldFault.{HoldFault}
use Rattle.fleet_execute.specs.declared.fault.HoldFault.TheVariants.{NoMemory, Conflict}
use Rattle.fleet_execute.specs.declared.plan.Plan.{Plan}
use Rattle.fleet_execute.specs.Dialogue.{IsDialogue, BreaksOff}
use Rattle.fleet_execute.specs.Placed.{all_cells, start_of, IsBroken, IsExecution, IsPlanOf, IsUnfit}
use Rattle.fleet_execute.specs.Placed.IsBroken.{unopened, unfit, broken}
use Rattle.fleet_execute.specs.Placed.IsExecution.{held}

all_after : (xs ys : List (List ℕ)) → all_cells (xs ++ ys) ≡ all_cells xs ++ all_cells ys
all_after [] ys = refl
all_after (x ∷ xs) ys = ap (λ (l : List ℕ). x ++ l) (all_after xs ys) ∙ sym (append_assoc x (all_cells xs) (all_cells ys))

-- with one more placement
pub cells_more : (places : List (List ℕ)) (t : ℕ) → t < length places → all_cells (take (t + 1) places) ≡ all_cells (take t places) ++ slice_index_or places t []
cells_more places t inside =
    ap all_cells (take_more places t [] inside)
    ∙ (all_after (take t places) (get_or places t [] ∷ []) ∙ ap (λ (l : List ℕ). all_cells (take t places) ++ l) (append-nil (get_or places t [])))

-- a number that is above the cells before, and the next one
pub above_more : (cells : List ℕ) (at count new : ℕ) → ((i : ℕ) → i < at → (slice_index cells i < count) ⊎ (count ≡ 4294967295)) → count ≤ new → new ≤ 4294967295
    → (slice_index cells at < new) ⊎ (new ≡ 4294967295) → (i : ℕ) → i < at + 1 → (slice_index cells i < new) ⊎ (new ≡ 4294967295)
above_more cells at count new before more most own i inside = elim (cases_lt i at) [
  | inl small ↦ (elim (before i small) [
    | inl less ↦ inl (omega (arith, less, more))
    | inr full ↦ inr (omega (arith, full, more, most))
  ])
  | inr large ↦ (let is : at ≡ i = omega (arith, inside, large) in subst (λ (k : ℕ). (slice_index cells k < new) ⊎ (new ≡ 4294967295)) is own)
]

-- what is said of an option's value
pub some_found : {X : Type 0} (f : Option X) (N : Type 0) (P : X → Type 0) (x : X) → f ≡ Some x → MatchOption f N P → P x
some_found f N P x is m = subst (λ (o : Option _). MatchOption o N P) is m

-- it was not opened
pub never_opened : (clearance : Clearance) (places : List (List ℕ)) (known before : Option (List ℕ)) (fault : HoldFault) → (fault ≡ NoMemory) ⊎ ((fault ≡ Conflict 0) × IsUnfit places)
    → IfSome known (λ bytes. IsBroken clearance places bytes before before fault)
never_opened clearance places None before fault why = tt
never_opened clearance places (Some bytes) before fault (inl is) = unopened is (Appends-nil before)
never_opened clearance places (Some bytes) before fault (inr (is, none)) = unfit is none (Appends-nil before)

-- what is said of its plan is said of its placements
pub all_held : (clearance : Clearance) (places : List (List ℕ)) (plan : Plan) (d : Desk) (known before after : Option (List ℕ)) → IsPlanOf places plan → Executes d (start_of clearance places)
    → IfSome known (λ bytes. (o : Course) → Executes d o → (text : List ℕ) × IsDialogue plan o bytes text × Appends before after text)
    → IfSome known (λ bytes. (text : List ℕ) × IsExecution clearance places bytes text × Appends before after text)
all_held clearance places plan d None before after of x all = tt
all_held clearance places plan d (Some bytes) before after of x all = let (text, said, taken) = all (start_of clearance places) x in (text, held plan of said, taken)

pub all_broken : (clearance : Clearance) (places : List (List ℕ)) (plan : Plan) (d : Desk) (known before after : Option (List ℕ)) (fault : HoldFault) → IsPlanOf places plan → Executes d (start_of clearance places)
    → IfSome known (λ bytes. (o : Course) → Executes d o → BreaksOff plan o bytes before after fault) → IfSome known (λ bytes. IsBroken clearance places bytes before after fault)
all_broken clearance places plan d None before after fault of x all = tt
all_broken clearance places plan d (Some bytes) before after fault of x all = broken plan of (all (start_of clearance places) x)
