-- What the program says of a script that is to be served.
use Rattle.std.proofs.Common.{◌≡◌, ℕ, ◌++◌, ◌<◌, inl, inr, List, length, Result, Ok, Err, refl, sym, ap, subst, ◌∙◌, codes, true}
use Rattle.std.specs.Prelude.{IfOk, ◌⊎◌, nat_lt}
use Rattle.std.specs.List.{All}
use Rattle.std.specs.declared.alloc.AllocError.{AllocError}
use Rattle.std.specs.declared.alloc.Global.{Global}
use Rattle.fleet_grid.specs.Floor.{Floor}
use Rattle.fleet_bound.specs.Bound.{WaitsAreBounded}
use Rattle.fleet_core.specs.Core.{opening_of}
use Rattle.fleet_history.specs.History.{History}
use Rattle.fleet_history.specs.Laws.{EachTick}
use Rattle.fleet_history.specs.Legal.{IsLegal}
use Rattle.fleet_planner.specs.Planned.{IsPlanned}
use Rattle.fleet_bound.specs.Roomy.{AdvancesIfRoomy, HasBound}
use Rattle.fleet_core.specs.Hooks.{HookLaws}
use Rattle.fleet_core.specs.declared.faults.OpenFault.{OpenFault}
use Rattle.fleet_core.specs.OpeningFaults.{IsRefused}
use Rattle.fleet_script.specs.Script.{Plan}
use Rattle.fleet_trace.specs.Trace.{Trace}
use Rattle.fleet_trace.specs.Text.{trace_text}
use Rattle.fleet_serve.specs.declared.served.ServeFault.{ServeFault}
use Rattle.fleet_serve.specs.declared.served.ServeFault.TheVariants as serve_fault
use Rattle.fleet_serve.specs.Posted.{TakesPosted, TakesAll, AreFullCounted}
use Rattle.fleet_text.specs.declared.said.Said.{Said}
use Rattle.errands_lib.specs.declared.job.Job.{Job}
use Rattle.errands_lib.specs.declared.job.Job.TheVariants as job
use Rattle.fleet_text.specs.Kit.{KitLaws, chosen_laws}
use Rattle.fleet_text.specs.Outcome.{Outcome}
use Rattle.errands_lib.specs.Answer.{limited}
use Rattle.errands_lib.specs.Outcome.{MayOpen, IsServed, IsServedText, IsUnserved, IsServeOutcome, IsJobOutcome, refused, ended, served}
use Rattle.fleet_text.specs.Said.{said}
use Rattle.errands_lib.specs.Asked.{is_serve}

-- what a serve on this map, with these laws, says of its chapter
pub record Ends (g own : Floor) (laws : HookLaws) (p : Plan) (lane_full : ℕ) (h : History Global) : Type 0 where
  pub floor : own ≡ g
  pub opening : h.opening ≡ opening_of p.starts p.clients p.limits laws
  pub planned : EachTick (IsPlanned own laws.ties) h
  pub advancing : AdvancesIfRoomy own h
  pub bounded : HasBound own h → WaitsAreBounded own h
  pub counted : AreFullCounted h p.events p.limits.orders p.clients lane_full

module _ (kit : KitLaws) (laws : HookLaws) (m g : Floor) (p : Plan) (same : g ≡ m) (chosen : laws ≡ chosen_laws kit p) where
  moved : (f : OpenFault) → IsRefused g p.starts p.clients p.limits laws f → IsRefused m p.starts p.clients p.limits (chosen_laws kit p) f
  moved f why = subst (λ (x : HookLaws). IsRefused m p.starts p.clients p.limits x f) chosen (subst (λ (x : Floor). IsRefused x p.starts p.clients p.limits laws f) same why)

  back : (f : OpenFault) → IsRefused m p.starts p.clients p.limits (chosen_laws kit p) f → IsRefused g p.starts p.clients p.limits laws f
  back f why = subst (λ (x : Floor). IsRefused x p.starts p.clients p.limits laws f) (sym same) (subst (λ (x : HookLaws). IsRefused m p.starts p.clients p.limits x f) (sym chosen) why)

  -- a serve came to its end
  pub served_is : {S : Type 0} (r : Result Said AllocError) (s : S) (own office : Floor) (number lane_full : ℕ) (h : History Global) → own ≡ m → number ≡ 0 → Ends g office laws p lane_full h
      → ((f : OpenFault) → IsRefused g p.starts p.clients p.limits laws f → (◌≡◌ {A = Result S ServeFault} (Ok s) (Err (serve_fault.Opening f))) ⊎ (◌≡◌ {A = Result S ServeFault} (Ok s) (Err serve_fault.NoMemory)))
      → TakesPosted h p.events p.clients → (lane_full ≡ 0 → length p.events < p.limits.orders → TakesAll h p.events p.clients)
      → IfOk r (λ x. IsLegal own h)
      → IfOk r (λ x. said x ≡ limited (nat_lt 0 lane_full) (trace_text (record { number = number; history = h }) ++ codes "\n"))
      → IfOk r (λ x. IsServed kit m p (said x))
  served_is (Err e) s own office number lane_full h judged first ends opens posted all legal is = tt
  served_is {S} (Ok x) s own office number lane_full h judged first ends opens posted all legal is =
      let text : said x ≡ limited (nat_lt 0 lane_full) (trace_text (record { number = 0; history = h }) ++ codes "\n") =
      is ∙ ap (λ (n : ℕ). limited (nat_lt 0 lane_full) (trace_text (record { number = n; history = h }) ++ codes "\n")) first in
      let floor : office ≡ m = ends.floor ∙ same in
      served lane_full (λ f why. never (opens f (back f why))) (record {
        history = h;
        opening = ends.opening ∙ ap (λ (x : HookLaws). opening_of p.starts p.clients p.limits x) chosen;
        planned = subst (λ (x : HookLaws). EachTick (IsPlanned m x.ties) h) chosen (subst (λ (y : Floor). EachTick (IsPlanned y laws.ties) h) floor ends.planned);
        advancing = subst (λ (y : Floor). AdvancesIfRoomy y h) floor ends.advancing;
        bounded = subst (λ (y : Floor). HasBound y h → WaitsAreBounded y h) floor ends.bounded;
        counted = ends.counted;
        legal = subst (λ (y : Floor). IsLegal y h) judged legal;
        posted = posted;
        all = all;
        said = text;
      })
    where
      never : {f : OpenFault} → (◌≡◌ {A = Result S ServeFault} (Ok s) (Err (serve_fault.Opening f))) ⊎ (◌≡◌ {A = Result S ServeFault} (Ok s) (Err serve_fault.NoMemory)) → ⊥
      never (inl e) = absurd cc
      never (inr e) = absurd cc

  -- it came to none
  fault_is : {S : Type 0} (fault : ServeFault) (o : Outcome)
      → ((f : OpenFault) → ◌≡◌ {A = Result S ServeFault} (Err fault) (Err (serve_fault.Opening f)) → IsRefused g p.starts p.clients p.limits laws f)
      → ((f : OpenFault) → IsRefused g p.starts p.clients p.limits laws f → (◌≡◌ {A = Result S ServeFault} (Err fault) (Err (serve_fault.Opening f))) ⊎ (◌≡◌ {A = Result S ServeFault} (Err fault) (Err serve_fault.NoMemory)))
      → IsUnserved fault o → IsServed kit m p o
  fault_is (serve_fault.Opening f) o why opens is = refused f (moved f (why f refl)) is
  fault_is serve_fault.ClockSpent o why opens is = ended (λ f w. later (opens f (back f w))) is
    where
      later : {S : Type 0} {f : OpenFault} → (◌≡◌ {A = Result S ServeFault} (Err serve_fault.ClockSpent) (Err (serve_fault.Opening f))) ⊎ (◌≡◌ {A = Result S ServeFault} (Err serve_fault.ClockSpent) (Err serve_fault.NoMemory)) → ⊥
      later (inl e) = absurd cc
      later (inr e) = absurd cc
  fault_is serve_fault.ChapterFull o why opens is = ended (λ f w. later (opens f (back f w))) is
    where
      later : {S : Type 0} {f : OpenFault} → (◌≡◌ {A = Result S ServeFault} (Err serve_fault.ChapterFull) (Err (serve_fault.Opening f))) ⊎ (◌≡◌ {A = Result S ServeFault} (Err serve_fault.ChapterFull) (Err serve_fault.NoMemory)) → ⊥
      later (inl e) = absurd cc
      later (inr e) = absurd cc
  fault_is serve_fault.Drain o why opens is = ended (λ f w. later (opens f (back f w))) is
    where
      later : {S : Type 0} {f : OpenFault} → (◌≡◌ {A = Result S ServeFault} (Err serve_fault.Drain) (Err (serve_fault.Opening f))) ⊎ (◌≡◌ {A = Result S ServeFault} (Err serve_fault.Drain) (Err serve_fault.NoMemory)) → ⊥
      later (inl e) = absurd cc
      later (inr e) = absurd cc
  fault_is serve_fault.NoMemory o why opens is = absurd is
  fault_is serve_fault.NoThread o why opens is = absurd is

  pub unserved_is : {S : Type 0} (r : Result Said AllocError) (fault : ServeFault)
      → ((f : OpenFault) → ◌≡◌ {A = Result S ServeFault} (Err fault) (Err (serve_fault.Opening f)) → IsRefused g p.starts p.clients p.limits laws f)
      → ((f : OpenFault) → IsRefused g p.starts p.clients p.limits laws f → (◌≡◌ {A = Result S ServeFault} (Err fault) (Err (serve_fault.Opening f))) ⊎ (◌≡◌ {A = Result S ServeFault} (Err fault) (Err serve_fault.NoMemory)))
      → IfOk r (λ x. IsUnserved fault (said x)) → IfOk r (λ x. IsServed kit m p (said x))
  unserved_is (Ok x) fault why opens is = fault_is fault (said x) why opens is
  unserved_is (Err e) fault why opens is = tt

-- what is said to a job that is to serve
pub serve_job_is : (kit : KitLaws) (r : Result Said AllocError) (j : Job) (first second : List ℕ) → is_serve j ≡ true → IfOk r (λ x. IsServeOutcome kit first second (said x)) → IfOk r (λ x. IsJobOutcome kit j first second (said x))
serve_job_is kit (Err e) j first second serve is = tt
serve_job_is kit (Ok x) (job.Serve a b) first second serve is = is
serve_job_is kit (Ok x) job.Bundle first second serve is = absurd cc
serve_job_is kit (Ok x) (job.Map a) first second serve is = absurd cc
serve_job_is kit (Ok x) (job.Run a b t) first second serve is = absurd cc
serve_job_is kit (Ok x) (job.Judge a b) first second serve is = absurd cc
