-- What a page of runs carries has no `<`.
use Rattle.std.proofs.Common.{◌≡◌, ℕ, zero, suc, ◌+◌, ◌/◌, ◌%◌, ◌==◌, ◌&&◌, ◌||◌, nat_lt, Bool, true, false, List, [], ◌∷◌, ◌++◌, flat_map, take, length, slice_index, refl, subst, inl, inr, Option, Some, None, codes, decimal, if◌then◌else◌, arith}
use Rattle.std.proofs.lemmas.Bool.{cases_Bool, eqb-true}
use Rattle.std.proofs.lemmas.Bool.Decides.{nat_tests}
use Rattle.std.specs.List.{list_all}
use Rattle.fleet_check.specs.declared.fault.StepFault.{StepFault}
use Rattle.fleet_check.specs.declared.fault.StepFault.TheVariants.{Length, OffFloor, NotAdjacent, NoMemory, Vertex, Swap}
use Rattle.fleet_plans.specs.Answer.{fault_text}
use Rattle.fleet_plans.specs.Valid.{place_at}
use Rattle.fleet_conflicts.specs.declared.conflicts.Conflict.{Conflict}
use Rattle.fleet_trace.specs.Trace.{Trace}
use Rattle.fleet_trace.specs.Text.{trace_text}
use Rattle.fleet_view.specs.declared.verdict.ChapterVerdict.{ChapterVerdict}
use Rattle.fleet_view.specs.Verdicts.{verdict_text}
use Rattle.fleet_view.specs.Closed.{is_other, HasNoTag}
use Rattle.fleet_view.specs.Placed.{sign, cell_signs, letter, signs_of, step_signs, steps_below, line_text, before, lines_below, places_text}
use Rattle.fleet_view.specs.Runs.{conflict_text, conflicts_text, plan_head, plan_run}
use Rattle.fleet_view.specs.Logs.{is_log_byte, is_begun, is_log, log_run}
use Rattle.fleet_view.specs.Pair.{trace_run}
use Rattle.fleet_view.proofs.Closed.{and-intro, and-left, and-right, both, decimal-closed, closed-trace, closed-verdict}

-- ---- placements

sign-closed : (part : ℕ) → is_other (sign part) ≡ true
sign-closed part = grind (arith, nat_tests)

more : (part : ℕ) (rest : List ℕ) → HasNoTag rest → HasNoTag (sign part ∷ rest)
more part rest e = and-intro (is_other (sign part)) (list_all is_other rest) (sign-closed part) e

cell-closed : (cell : ℕ) → HasNoTag (33 ∷ cell_signs cell)
cell-closed cell =
    let a : List ℕ = sign cell ∷ [] in
    let b : List ℕ = sign (cell / 64) ∷ a in
    let d : List ℕ = sign (cell / 4096) ∷ b in
    let e : List ℕ = sign (cell / 262144) ∷ d in
    let f : List ℕ = sign (cell / 16777216) ∷ e in
    more (cell / 1073741824) f (more (cell / 16777216) e (more (cell / 262144) d (more (cell / 4096) b (more (cell / 64) a (more cell [] refl)))))

by_letter : (b : Bool) (to : ℕ) (x y : Option ℕ) → HasNoTag (signs_of to x) → HasNoTag (signs_of to y) → HasNoTag (signs_of to (if b then x else y))
by_letter true to x y e f = e
by_letter false to x y e f = f

step-closed : (width from to : ℕ) → HasNoTag (step_signs width from to)
step-closed width from to =
    let a : Option ℕ = if from + 1 == to then Some 101 else None in
    let b : Option ℕ = if to + 1 == from then Some 119 else a in
    let d : Option ℕ = if from + width == to then Some 115 else b in
    let e : Option ℕ = if to + width == from then Some 110 else d in
    by_letter (to == from) to (Some 46) e refl
    (by_letter (to + width == from) to (Some 110) d refl
    (by_letter (from + width == to) to (Some 115) b refl
    (by_letter (to + 1 == from) to (Some 119) a refl
    (by_letter (from + 1 == to) to (Some 101) None refl (cell-closed to)))))

steps-closed : (width : ℕ) (from to : List ℕ) (r : ℕ) → HasNoTag (steps_below width from to r)
steps-closed width from to zero = refl
steps-closed width from to (suc r) = both (steps_below width from to r) (step_signs width (slice_index from r) (slice_index to r)) (steps-closed width from to r) (step-closed width (slice_index from r) (slice_index to r))

line-closed : (width : ℕ) (from to : List ℕ) → HasNoTag (line_text width from to)
line-closed width from to = both (steps_below width from to (length to)) (codes "\n") (steps-closed width from to (length to)) refl

lines-closed : (width : ℕ) (places : List (List ℕ)) (time : ℕ) → HasNoTag (lines_below width places time)
lines-closed width places zero = refl
lines-closed width places (suc time) = both (lines_below width places time) (line_text width (before places time) (place_at places time)) (lines-closed width places time) (line-closed width (before places time) (place_at places time))

-- ---- conflicts

two : (name : List ℕ) (i j : ℕ) → HasNoTag name → HasNoTag (name ++ decimal i ++ codes " " ++ decimal j)
two name i j e = both (name ++ decimal i ++ codes " ") (decimal j) (both (name ++ decimal i) (codes " ") (both name (decimal i) e (decimal-closed i)) refl) (decimal-closed j)

fault-closed : (f : StepFault) → HasNoTag (fault_text f)
fault-closed Length = refl
fault-closed (OffFloor r) = both (codes "off-floor ") (decimal r) refl (decimal-closed r)
fault-closed (NotAdjacent r) = both (codes "not-adjacent ") (decimal r) refl (decimal-closed r)
fault-closed NoMemory = refl
fault-closed (Vertex i j) = two (codes "vertex ") i j refl
fault-closed (Swap i j) = two (codes "swap ") i j refl

conflict-closed : (c : Conflict) → HasNoTag (conflict_text c)
conflict-closed c =
    both (codes "invalid ") (decimal c.time ++ (codes " " ++ (fault_text c.fault ++ codes "\n"))) refl
    (both (decimal c.time) (codes " " ++ (fault_text c.fault ++ codes "\n")) (decimal-closed c.time)
    (both (codes " ") (fault_text c.fault ++ codes "\n") refl (both (fault_text c.fault) (codes "\n") (fault-closed c.fault) refl)))

conflicts-closed : (cs : List Conflict) → HasNoTag (conflicts_text cs)
conflicts-closed [] = refl
conflicts-closed (c ∷ cs) = both (conflict_text c) (conflicts_text cs) (conflict-closed c) (conflicts-closed cs)

head-closed : (steps conflicts : ℕ) → HasNoTag (plan_head steps conflicts)
head-closed steps conflicts =
    both (codes "plan ") (decimal steps ++ (codes " " ++ (decimal conflicts ++ codes "\n"))) refl
    (both (decimal steps) (codes " " ++ (decimal conflicts ++ codes "\n")) (decimal-closed steps)
    (both (codes " ") (decimal conflicts ++ codes "\n") refl (both (decimal conflicts) (codes "\n") (decimal-closed conflicts) refl)))

pub plan-closed : (width : ℕ) (places : List (List ℕ)) (cs : List Conflict) → HasNoTag (plan_run width places cs)
plan-closed width places cs =
    let lines = both (plan_head (length places) (length cs)) (places_text width places) (head-closed (length places) (length cs)) (lines-closed width places (length places)) in
    both (plan_head (length places) (length cs) ++ places_text width places) (conflicts_text (take 20000 cs)) lines (conflicts-closed (take 20000 cs))

-- ---- logs and traces

byte-closed : (b : ℕ) → is_log_byte b ≡ true → is_other b ≡ true
byte-closed b e = elim (cases_Bool (b == 60)) [
  | inl same ↦ let is : b ≡ 60 = eqb-true b 60 same in let bad : is_log_byte 60 ≡ true = rw is at e in absurd cc
  | inr other ↦ rw other refl
]

bytes-closed : (text : List ℕ) → list_all is_log_byte text ≡ true → HasNoTag text
bytes-closed [] e = refl
bytes-closed (b ∷ bs) e =
    and-intro (is_other b) (list_all is_other bs) (byte-closed b (and-left (is_log_byte b) (list_all is_log_byte bs) e)) (bytes-closed bs (and-right (is_log_byte b) (list_all is_log_byte bs) e))

pub log-closed : (text : List ℕ) → is_log text ≡ true → HasNoTag (log_run text)
log-closed text e =
    let head = both (codes "log ") (decimal (length text) ++ codes "\n") refl (both (decimal (length text)) (codes "\n") (decimal-closed (length text)) refl) in
    both (codes "log " ++ (decimal (length text) ++ codes "\n")) text head (bytes-closed text (and-right (is_begun text) (list_all is_log_byte text) e))

pub trace-closed : {A : Type 0} (v : ChapterVerdict) (t : Trace A) → HasNoTag (trace_run v t)
trace-closed v t =
    let named = both (codes "trace ") (verdict_text v) refl (closed-verdict v) in
    both (codes "trace " ++ verdict_text v ++ trace_text t) (codes "\n") (both (codes "trace " ++ verdict_text v) (trace_text t) named (closed-trace t)) refl
