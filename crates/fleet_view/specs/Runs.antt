-- The page of runs: plans with all their placements, and traces that do not follow one another.
use Rattle.std.specs.Prelude.{◌≡◌, ℕ, Bool, true, false, ◌&&◌, nat_lt, List, [], ◌∷◌, ◌++◌, length, take, Option, Some, None, Ok, Err, codes, decimal}
use Rattle.std.specs.List.{flat_map}
use Rattle.std.specs.declared.alloc.Global.{Global}
use Rattle.std.specs.declared.vec.Vec.{Vec}
use Rattle.fleet_map.specs.declared.fault.MapFault.{MapFault}
use Rattle.fleet_map.specs.Grammar.{Map, map_of}
use Rattle.fleet_trace.specs.Trace.{Trace}
use Rattle.fleet_trace.specs.Text.{trace_text}
use Rattle.fleet_plans.specs.declared.answer.PlanAnswer.{PlanAnswer}
use Rattle.fleet_plans.specs.declared.answer.PlanAnswer.TheVariants as answer
use Rattle.fleet_plans.specs.Answer.{fault_text}
use Rattle.fleet_plans.specs.Form.{form_of}
use Rattle.fleet_plans.specs.Goals.{Nothing}
use Rattle.fleet_plans.specs.Study.{IsTextStudy}
use Rattle.fleet_plans.specs.Valid.{place_at}
use Rattle.fleet_conflicts.specs.declared.conflicts.Conflict.{Conflict}
use Rattle.fleet_conflicts.specs.Conflicts.{AreConflictsOf}
use Rattle.fleet_view.specs.declared.frame.TheConstants.{HEAD, VERDICTS, TRACES}
use Rattle.fleet_view.specs.declared.script.TheConstants.{TAIL}
use Rattle.fleet_view.specs.declared.ending.TheConstants.{END}
use Rattle.fleet_view.specs.Page.{map_text}
use Rattle.fleet_view.specs.Placed.{places_text}

-- ---- text

-- the line that `fleet check --all` prints
abbrev pub conflict_text : Conflict → List ℕ
conflict_text c = codes "invalid " ++ (decimal c.time ++ (codes " " ++ (fault_text c.fault ++ codes "\n")))

abbrev pub conflicts_text : List Conflict → List ℕ
conflicts_text cs = flat_map conflict_text cs

-- the number of placements and of conflicts
abbrev pub plan_head : ℕ → ℕ → List ℕ
plan_head steps conflicts = codes "plan " ++ (decimal steps ++ (codes " " ++ (decimal conflicts ++ codes "\n")))

-- then a line for each placement, and for each of the first 20,000 conflicts
abbrev pub plan_run : ℕ → List (List ℕ) → List Conflict → List ℕ
plan_run width places cs = plan_head (length places) (length cs) ++ places_text width places ++ conflicts_text (take 20000 cs)

-- the page of a map and of runs on it
abbrev pub runs_page : Map → List ℕ → List ℕ
runs_page m runs = HEAD.now ++ map_text m ++ VERDICTS.now ++ TRACES.now ++ runs ++ TAIL.now ++ END.now

-- ---- plans

-- a plan was read, valid or not
abbrev pub is_judged : PlanAnswer → Bool
is_judged (answer.Valid report) = true
is_judged (answer.Invalid f) = true
is_judged a = false

-- a valid plan has no conflicts
abbrev pub AreConflictsBy : PlanAnswer → List ℕ → List ℕ → List Conflict → Type 0
AreConflictsBy (answer.Invalid f) bytes plan cs = AreConflictsOf (form_of plan) bytes plan cs
AreConflictsBy a bytes plan cs = cs ≡ []

-- the text of a plan of which this is said, with these placements
pub record IsPlanRun (bytes plan : List ℕ) (width : ℕ) (said : PlanAnswer) (places : List (List ℕ)) (run : List ℕ) : Type 0 where
  pub conflicts : List Conflict
  pub listed : AreConflictsBy said bytes plan conflicts
  pub is : run ≡ plan_run width places conflicts

-- its page
pub record IsPlanPage (bytes plan : List ℕ) (m : Map) (said : PlanAnswer) (places : List (List ℕ)) (page : List ℕ) : Type 0 where
  pub run : List ℕ
  pub made : IsPlanRun bytes plan m.width said places run
  pub is : page ≡ runs_page m run

abbrev pub IsManyIf : Bool → List ℕ → List ℕ → Map → PlanAnswer → List (List ℕ) → Option (Vec ℕ Global) → Type 0
IsManyIf true bytes plan m said places (Some page) = IsPlanPage bytes plan m said places page.items
IsManyIf true bytes plan m said places None = ⊥
IsManyIf false bytes plan m said places page = page ≡ None

-- the page of a plan that is read, valid or not, and begins with more than 512 robots; nothing for any other text
pub data IsManyShown (bytes plan : List ℕ) (page : Option (Vec ℕ Global)) : Type 0 where
  no_map : (fault : MapFault) → map_of bytes ≡ Err fault → page ≡ None → IsManyShown bytes plan page
  on_map : (m : Map) → map_of bytes ≡ Ok m → (said : PlanAnswer) (places : List (List ℕ)) → IsTextStudy Nothing m plan said places
      → IsManyIf (is_judged said && nat_lt 512 (length (place_at places 0))) bytes plan m said places page → IsManyShown bytes plan page
