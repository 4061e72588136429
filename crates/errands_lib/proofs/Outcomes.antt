-- What the program says of what it was given.
use Rattle.std.proofs.Common.{◌≡◌, ◌↔◌, ℕ, zero, suc, ◌+◌, ◌<◌, ◌≤◌, Bool, true, false, ◌||◌, List, [], ◌∷◌, ◌++◌, length, drop, get_or, map, Result, Ok, Err, refl, sym, ap, subst, ◌∙◌, arith}
use Rattle.std.proofs.lemmas.List.{drop_more}
use Rattle.std.specs.Prelude.{IfOk, replicate}
use Rattle.std.specs.List.{list_any}
use Rattle.std.specs.declared.alloc.AllocError.{AllocError}
use Rattle.std.specs.declared.alloc.Global.{Global}
use Rattle.fleet_grid.specs.Floor.{Floor}
use Rattle.fleet_book.specs.declared.event.Event.{Event}
use Rattle.fleet_world.specs.declared.reply.Reply.{Reply}
use Rattle.fleet_core.specs.Core.{World}
use Rattle.fleet_text.specs.Output.{is_limit_met}
use Rattle.fleet_world.specs.declared.answered.Answered.{Answered}
use Rattle.fleet_world.specs.Answers.{replies_in}
use Rattle.fleet_world.specs.Played.{IsPlayed}
use Rattle.fleet_world.specs.Run.{State, Run, opened_state}
use Rattle.fleet_world.specs.Laws.{KeepsRings, KeepsEachRing}
use Rattle.fleet_world.proofs.RunLaws.{end-once}
use Rattle.fleet_history.specs.Legal.{IsLegal}
use Rattle.fleet_history.specs.Laws.{ArrivesInOrder, ArrivalsRise, EachTick, HasNoConflict, AcceptsNoneClosed}
use Rattle.fleet_history.specs.Numbering.{AreNumbered}
use Rattle.fleet_planner.specs.Planned.{IsPlanned}
use Rattle.fleet_bound.specs.Roomy.{AdvancesIfRoomy}
use Rattle.fleet_history.specs.History.{History}
use Rattle.fleet_trace.specs.declared.fault.JudgeFault.{JudgeFault}
use Rattle.fleet_trace.specs.declared.fault.JudgeFault.TheVariants as judge_fault
use Rattle.fleet_trace.specs.Judged.{IsFirstIllegal, IsJudgeFault}
use Rattle.fleet_text.specs.declared.said.Said.{Said}
use Rattle.fleet_text.specs.Outcome.{Outcome, IsMapNamed}
use Rattle.errands_lib.specs.Answer.{IsScriptOutcome, IsUnplayed, IsLawfulEnd, IsJudged, refused, ran, illegal, illegal_at, run_output, run_outcome}
use Rattle.fleet_core.specs.Hooks.{HookLaws}
use Rattle.fleet_script.specs.Script.{Plan}
use Rattle.fleet_text.specs.Kit.{KitLaws, chosen_laws}
use Rattle.fleet_map.specs.declared.fault.MapFault.{MapFault}
use Rattle.fleet_map.specs.declared.fault.MapFault.TheVariants as map_fault
use Rattle.fleet_map.specs.Grammar.{Fails, map_of}
use Rattle.fleet_book.specs.declared.limits.Limits.{Limits}
use Rattle.fleet_core.specs.declared.faults.OpenFault.{OpenFault}
use Rattle.fleet_core.specs.declared.faults.OpenFault.TheVariants as open_fault
use Rattle.fleet_world.specs.declared.faults.RunFault.{RunFault}
use Rattle.fleet_world.specs.declared.faults.RunFault.TheVariants as run_fault
use Rattle.fleet_core.specs.OpeningFaults.{IsNamed, IsRefused}
use Rattle.fleet_text.specs.Said.{said}
use Rattle.fleet_script.specs.Shown.{FailsAt}
use Rattle.fleet_script.specs.declared.script.ScriptFault.{ScriptFault}
use Rattle.fleet_script.specs.declared.script.ScriptFault.TheVariants as script_fault

-- a limit was met at one of these events, by the answers
any_times : (n : ℕ) (x : Reply) (xs : List Reply) → 1 ≤ n → list_any is_limit_met (replicate n x ++ xs) ≡ (is_limit_met x || list_any is_limit_met xs)
any_times zero x xs some = absurd (omega (arith, some))
any_times (suc zero) x xs some = refl
any_times (suc (suc n)) x xs some =
    let more = any_times (suc n) x xs (omega arith) in
    ap (λ b. is_limit_met x || b) more ∙ twice (is_limit_met x) (list_any is_limit_met xs)
  where
    twice : (a b : Bool) → (a || (a || b)) ≡ (a || b)
    twice true b = refl
    twice false b = refl

-- from one answer on
pub any_next : (answers : List Answered) (k : ℕ) (a : Answered) → k < length answers → get_or answers k a ≡ a
    → list_any is_limit_met (replies_in (drop k answers)) ≡ (is_limit_met a.reply || list_any is_limit_met (replies_in (drop (k + 1) answers)))
any_next answers k a less read =
    ap (λ l. list_any is_limit_met (replies_in l)) (drop_more answers k a less ∙ ap (λ (x : Answered). x ∷ drop (k + 1) answers) read)
    ∙ any_times a.times a.reply (replies_in (drop (k + 1) answers)) a.some

-- at an answer at which a limit was met, and at another
pub any_met : (answers : List Answered) (k : ℕ) (a : Answered) (all : Bool) → k < length answers → get_or answers k a ≡ a → is_limit_met a.reply ≡ true
    → list_any is_limit_met (replies_in (drop k answers)) ≡ all → true ≡ all
any_met answers k a all less read met before =
    ap (λ b. b || list_any is_limit_met (replies_in (drop (k + 1) answers))) (sym met) ∙ (sym (any_next answers k a less read) ∙ before)

pub any_passed : (answers : List Answered) (k : ℕ) (a : Answered) (all : Bool) → k < length answers → get_or answers k a ≡ a → is_limit_met a.reply ≡ false
    → list_any is_limit_met (replies_in (drop k answers)) ≡ all → list_any is_limit_met (replies_in (drop (k + 1) answers)) ≡ all
any_passed answers k a all less read not_met before =
    ap (λ b. b || list_any is_limit_met (replies_in (drop (k + 1) answers))) (sym not_met) ∙ (sym (any_next answers k a less read) ∙ before)

-- what is said is such an outcome
pub said_is : (P : Outcome → Type 0) (r : Result Said AllocError) (o : Outcome) → IfOk r (λ s. said s ≡ o) → P o → IfOk r (λ s. P (said s))
said_is P (Ok s) o e p = subst P (sym e) p
said_is P (Err x) o e p = tt

pub said_more : (P Q : Outcome → Type 0) (r : Result Said AllocError) → ((o : Outcome) → P o → Q o) → IfOk r (λ s. P (said s)) → IfOk r (λ s. Q (said s))
said_more P Q (Ok s) more p = more (said s) p
said_more P Q (Err x) more p = tt

-- what a run ends in is lawful on its own map
pub lawful_is : {A : Type 0} (m g : Floor) (last : State A) → g ≡ m → last.world.floor ≡ g → IsLegal last.world.floor last.world.history → KeepsRings last → KeepsEachRing last → ArrivesInOrder last.world.history
    → ArrivalsRise last.world.history → ((client : ℕ) → AreNumbered last.world.history client) → HasNoConflict last.world.floor last.world.history → AcceptsNoneClosed last.world.history
    → EachTick (IsPlanned last.world.floor last.world.ties) last.world.history
    → AdvancesIfRoomy last.world.floor last.world.history → IsLawfulEnd m last
lawful_is m g last e f legal rings each_ring arrivals numbers numbered conflicts closes planned advancing = record {
  legal = subst (λ (x : Floor). IsLegal x last.world.history) (f ∙ e) legal;
  rings = rings;
  each_ring = each_ring;
  once = end-once last (map (λ l. l.collected) last.clients) rings refl;
  arrivals = arrivals;
  numbers = numbers;
  numbered = numbered;
  conflicts = subst (λ (x : Floor). HasNoConflict x last.world.history) (f ∙ e) conflicts;
  closes = closes;
  planned = subst (λ (x : Floor). EachTick (IsPlanned x last.world.ties) last.world.history) (f ∙ e) planned;
  advancing = subst (λ (x : Floor). AdvancesIfRoomy x last.world.history) (f ∙ e) advancing;
}

pub ran_is : (kit : KitLaws) (laws : HookLaws) (m g : Floor) (p : Plan) (trace : Bool) (called shown : List Event) (replies : List Reply) (last : State Global) → g ≡ m → called ≡ p.events → shown ≡ p.events → laws ≡ chosen_laws kit p
    → ((f : OpenFault) → IsRefused g p.starts p.clients p.limits laws f → ⊥)
    → Run (opened_state g p.starts p.clients p.limits laws) called replies last → IsLawfulEnd m last → IsScriptOutcome kit trace m p (run_outcome replies (run_output trace shown replies last.world))
ran_is kit laws m g p trace called shown replies last e f d l opens r lawful = ran (record {
  opens = λ fault why. opens fault (subst (λ (x : HookLaws). IsRefused g p.starts p.clients p.limits x fault) (sym l) (subst (λ (x : Floor). IsRefused x p.starts p.clients p.limits (chosen_laws kit p) fault) (sym e) why));
  replies = replies;
  last = last;
  run = subst (λ (x : HookLaws). Run (opened_state m p.starts p.clients p.limits x) p.events replies last) l
      (subst (λ (x : Floor). Run (opened_state x p.starts p.clients p.limits laws) p.events replies last) e (subst (λ (x : List Event). Run (opened_state g p.starts p.clients p.limits laws) x replies last) f r));
  lawful = lawful;
  said = ap (λ (x : List Event). run_outcome replies (run_output trace x replies last.world)) d;
})

-- what is said of a run of lines that left the world so
pub played_is : (kit : KitLaws) (laws : HookLaws) (m g : Floor) (p : Plan) (trace : Bool) (called shown : List Event) (replies : List Reply) (w : World Global) → g ≡ m → called ≡ p.events → shown ≡ called → laws ≡ chosen_laws kit p
    → ((f : OpenFault) → IsRefused g p.starts p.clients p.limits laws f → ⊥)
    → IsPlayed (opened_state g p.starts p.clients p.limits laws) called replies w → IsScriptOutcome kit trace m p (run_outcome replies (run_output trace shown replies w))
played_is kit laws m g p trace called shown replies w e f d l opens r =
    let lawful = lawful_is m g r.last e r.same.floor r.legal r.rings r.each_ring r.arrivals r.numbers r.numbered r.conflicts r.closes r.planned r.advancing in
    subst (λ (x : World Global). IsScriptOutcome kit trace m p (run_outcome replies (run_output trace shown replies x))) r.world
    (ran_is kit laws m g p trace called shown replies r.last e f (d ∙ f) l opens r.run lawful)

-- a world that was opened was not to be refused
pub none_refused : {P : Type 0} (m : Floor) (starts : List ℕ) (clients : ℕ) (limits : Limits) (laws : HookLaws) (r : Result P RunFault) (played : P) → r ≡ Ok played
    → ((f : OpenFault) → IsNamed f → ((r ≡ Err (run_fault.Opening f)) ↔ IsRefused m starts clients limits laws f))
    → (f : OpenFault) → IsRefused m starts clients limits laws f → ⊥
none_refused {P} m starts clients limits laws r played is exact f why = (let no : r ≡ Err (run_fault.Opening f) = (exact f (named f why)).1 why in let bad = sym no ∙ is in absurd cc)
  where
    named : (f : OpenFault) → IsRefused m starts clients limits laws f → IsNamed f
    named open_fault.Limits w = tt
    named open_fault.NoRobots w = tt
    named (open_fault.Start r) w = tt
    named (open_fault.Shared i j) w = tt
    named open_fault.Hooks w = tt
    named open_fault.NoMemory w = w

-- what is said of a run that was given up is of a world that was to be refused
pub refused_is : (kit : KitLaws) (laws : HookLaws) (r : Result Said AllocError) (m g : Floor) (p : Plan) (trace : Bool) (x : RunFault) → g ≡ m → laws ≡ chosen_laws kit p
    → ((f : OpenFault) → IsNamed f → x ≡ run_fault.Opening f → IsRefused g p.starts p.clients p.limits laws f) → IfOk r (λ s. IsUnplayed x (said s)) → IfOk r (λ s. IsScriptOutcome kit trace m p (said s))
refused_is kit laws (Ok s) m g p trace (run_fault.Opening f) e l why is = refused f (subst (λ (x : HookLaws). IsRefused m p.starts p.clients p.limits x f) l (subst (λ (x : Floor). IsRefused x p.starts p.clients p.limits laws f) e (why f is.0 refl))) is.1
refused_is kit laws (Ok s) m g p trace (run_fault.NoMemory at) e l why is = absurd is
refused_is kit laws (Err y) m g p trace x e l why is = tt

-- what is said of an illegal trace
pub illegal_is : (r : Result Said AllocError) (m g : Floor) (h : History Global) (f : JudgeFault) (at rule : ℕ) → g ≡ m → f ≡ judge_fault.Illegal at rule → IsJudgeFault g h f → IfOk r (λ s. said s ≡ illegal_at at rule)
    → IfOk r (λ s. IsJudged m h (said s))
illegal_is (Ok s) m g h f at rule e named breaks is =
    let first : IsJudgeFault g h (judge_fault.Illegal at rule) = subst (λ (x : JudgeFault). IsJudgeFault g h x) named breaks in
    illegal at rule (subst (λ (x : Floor). IsFirstIllegal x h at rule) e first) is
illegal_is (Err x) m g h f at rule e named breaks is = tt

-- the map's text is at fault
pub map_fails : (f : MapFault) (map : List ℕ) → Fails f (map_of map) → IsMapNamed f → map_of map ≡ Err f
map_fails (map_fault.Header line) map e named = e
map_fails map_fault.Size map e named = e
map_fails (map_fault.Row row) map e named = e
map_fails (map_fault.Cell row col) map e named = e
map_fails (map_fault.Trailing line) map e named = e
map_fails map_fault.NoMemory map e named = absurd named

pub fails_line : {Y : Type 0} (f : ScriptFault) (line : ℕ) (read : Result Y ℕ) → f ≡ script_fault.Line line → FailsAt f read → read ≡ Err line
fails_line {Y} f line read e fails = subst (λ (x : ScriptFault). FailsAt x read) e fails
