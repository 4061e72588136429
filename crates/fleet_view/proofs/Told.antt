-- What is made of a plan that was studied.
use Rattle.std.proofs.Common.{◌≡◌, ◌≢◌, ◌&&◌, nat_lt, ℕ, List, length, Option, Result, Ok, Err, refl, sym, ap, subst, ◌∙◌}
use Rattle.std.specs.declared.alloc.Global.{Global}
use Rattle.std.specs.declared.vec.Vec.{Vec}
use Rattle.fleet_map.specs.Grammar.{Map, map_of, Fails}
use Rattle.fleet_map.specs.declared.fault.MapFault.{MapFault}
use Rattle.fleet_map.specs.declared.fault.MapFault.TheVariants as map_fault
use Rattle.fleet_plans.specs.Goals.{Nothing}
use Rattle.fleet_plans.specs.declared.answer.PlanAnswer.{PlanAnswer}
use Rattle.fleet_plans.specs.declared.study.Study.{Study}
use Rattle.fleet_plans.specs.Study.{IsStudy, IsTextStudy, without_map, with_map}
use Rattle.fleet_plans.specs.Valid.{place_at}
use Rattle.fleet_view.specs.Runs.{is_judged, IsPlanRun, IsPlanPage, IsManyIf, IsManyShown, on_map, runs_page}

-- a text is one map
one_map : (n m : Map) (o : Result Map MapFault) → o ≡ Ok n → o ≡ Ok m → n ≡ m
one_map n m o first second = let same : Ok n ≡ Ok m = sym first ∙ second in cc

-- on the map of the text
pub studied : (bytes plan : List ℕ) (m : Map) (s : Study) → map_of bytes ≡ Ok m → IsStudy bytes plan s → IsTextStudy Nothing m plan s.answer s.places
studied bytes plan m s here (without_map f fails is) = let bad : Ok m ≡ Err f = sym here ∙ fails in absurd cc
studied bytes plan m s here (with_map n there width study) = subst (λ (x : Map). IsTextStudy Nothing x plan s.answer s.places) (one_map n m (map_of bytes) there here) study

pub many-told : (bytes plan : List ℕ) (m : Map) (s : Study) (page : Option (Vec ℕ Global)) → map_of bytes ≡ Ok m → IsStudy bytes plan s
    → IsManyIf (is_judged s.answer && nat_lt 512 (length (place_at s.places 0))) bytes plan m s.answer s.places page → IsManyShown bytes plan page
many-told bytes plan m s page here study shown = on_map m here s.answer s.places (studied bytes plan m s here study) shown

pub paged : (bytes plan : List ℕ) (m : Map) (said : PlanAnswer) (places : List (List ℕ)) (run same page : List ℕ) → IsPlanRun bytes plan m.width said places run → same ≡ run → page ≡ runs_page m same → IsPlanPage bytes plan m said places page
paged bytes plan m said places run same page made same-is is = record { run = run; made = made; is = subst (λ (r : List ℕ). page ≡ runs_page m r) same-is is }

-- a fault that does not say that memory ran out is what reading gives
pub map_fails : {X : Type 0} (fault : MapFault) (read : Result X MapFault) → Fails fault read → fault ≢ map_fault.NoMemory → read ≡ Err fault
map_fails map_fault.NoMemory read fails named = absurd (named refl)
map_fails (map_fault.Header line) read fails named = fails
map_fails map_fault.Size read fails named = fails
map_fails (map_fault.Row row) read fails named = fails
map_fails (map_fault.Cell row column) read fails named = fails
map_fails (map_fault.Trailing line) read fails named = fails
