-- The calm opening is alike, and in order where the opening is.
use Rattle.std.proofs.Common.{◌≡◌, ℕ, suc, inr, ◌+◌, ◌<◌, ◌≤◌, List, [], ◌∷◌, length, get_or, map, Some, refl, sym, ap, subst, ◌∙◌, arith}
use Rattle.std.specs.Prelude.{is_some, not, sum_by, count_by, ◌==◌, Result, Ok, Err, OnOk, IfErr}
use Rattle.std.proofs.lemmas.List.{get_or-map}
use Rattle.std.proofs.lemmas.List.Sums.{sum_by-cons}
use Rattle.fleet_grid.specs.Floor.{Floor}
use Rattle.fleet_queue.specs.declared.errand.Errand.{Errand}
use Rattle.fleet_history.specs.declared.history.RobotState.{RobotState}
use Rattle.fleet_history.specs.declared.history.Opening.{Opening}
use Rattle.fleet_history.specs.declared.history.Entry.{Entry}
use Rattle.fleet_history.specs.History.{unknown_client, start, with_entries}
use Rattle.fleet_history.specs.Legal.{IsRobotInOrder, IsClientInOrder, IsInOrder, IsLegal, is_none_left}
use Rattle.fleet_trace.specs.Judged.{AreAlike, IsEntryFault, IsJudgeFault}
use Rattle.fleet_trace.specs.declared.fault.JudgeFault.{JudgeFault}
use Rattle.fleet_trace.specs.declared.fault.JudgeFault.TheVariants.{Illegal, NoMemory}
use Rattle.fleet_trace.proofs.LikeOpenings.{flip, legal-alike, illegal-alike}
use Rattle.fleet_trace.proofs.EntryByEntry.{only_memory}
use Rattle.fleet_history.specs.History.{History}
use Rattle.fleet_trace.specs.inside.Calm.{first_wait, calm_robot, calm}

same-length : {A : Type 0} (xs : List (RobotState A)) → length (map calm_robot xs) ≡ length xs
same-length [] = refl
same-length (x ∷ xs) = ap suc (same-length xs)

kept : {A X : Type 0} (f : RobotState A → X) → ((x : RobotState A) → f (calm_robot x) ≡ f x) → (xs : List (RobotState A)) → map f (map calm_robot xs) ≡ map f xs
kept f same [] = refl
kept f same (x ∷ xs) = rw (same x, kept f same xs) refl

pub calm-alike : {A : Type 0} (o : Opening A) → AreAlike o (calm o)
calm-alike o = record {
  queue = refl;
  life = refl;
  clients = refl;
  count = same-length o.robots;
  cells = kept (λ x. x.cell) (λ x. refl) o.robots;
  shut = kept (λ x. x.shut) (λ x. refl) o.robots;
  errands = kept (λ x. x.errands) (λ x. refl) o.robots;
  arrival_laws = kept (λ x. x.arrival_law) (λ x. refl) o.robots;
  farewell_laws = kept (λ x. x.farewell_law) (λ x. refl) o.robots;
}

owed-kept : {A : Type 0} (c : ℕ) (xs : List (RobotState A)) → sum_by (λ x. count_by (λ e. e.client == c) x.errands) (map calm_robot xs) ≡ sum_by (λ x. count_by (λ e. e.client == c) x.errands) xs
owed-kept c [] = refl
owed-kept c (x ∷ xs) =
    sum_by-cons (λ x. count_by (λ e. e.client == c) x.errands) (calm_robot x) (map calm_robot xs) ∙ ap (λ (n : ℕ). count_by (λ e. e.client == c) x.errands + n) (owed-kept c xs)
    ∙ sym (sum_by-cons (λ x. count_by (λ e. e.client == c) x.errands) x xs)

wait-there : (errands : List Errand) → is_some (first_wait errands) ≡ not (is_none_left errands)
wait-there [] = refl
wait-there (x ∷ xs) = refl

wait-short : (errands : List Errand) (w : ℕ) → first_wait errands ≡ Some w → w ≤ 0
wait-short [] w e = cc
wait-short (x ∷ xs) w e = let zero_is : 0 ≡ w = cc in omega (arith, zero_is)

robot-calm : {A : Type 0} (m : Floor) (o : Opening A) (x : RobotState A) → IsRobotInOrder m o x → IsRobotInOrder m (calm o) (calm_robot x)
robot-calm m o x h = record {
  arrival_law = h.arrival_law;
  farewell_law = h.farewell_law;
  waits = wait-there x.errands;
  not_longer = λ w e. wait-short x.errands w e;
  room = h.room;
  known = h.known;
  numbered = h.numbered;
  on_floor = h.on_floor;
  reachable = h.reachable;
}

pub calm-in_order : {A : Type 0} (m : Floor) (o : Opening A) → IsInOrder m o → IsInOrder m (calm o)
calm-in_order m o h = record {
  some_robots = rw (same-length o.robots) h.some_robots;
  few_robots = rw (same-length o.robots) h.few_robots;
  some_clients = h.some_clients;
  few_clients = h.few_clients;
  queue = h.queue;
  life = h.life;
  placed = rw (kept (λ x. x.cell) (λ x. refl) o.robots) h.placed;
  robots = λ i d less. (let inside : i < length o.robots = omega (arith, less, same-length o.robots) in
      subst (λ (x : RobotState _). IsRobotInOrder m (calm o) x) (sym (get_or-map calm_robot o.robots i d d inside)) (robot-calm m o (get_or o.robots i d) (h.robots i d inside)));
  clients = λ c less. subst (λ (n : ℕ). IsClientInOrder o.life n (get_or o.clients c unknown_client)) (sym (owed-kept c o.robots)) (h.clients c less);
  names = record {
    apart = rw (kept (λ x. x.errands) (λ x. refl) o.robots) h.names.apart;
    rising = rw (kept (λ x. x.errands) (λ x. refl) o.robots) h.names.rising;
  };
}

-- what is judged after the calm opening is so after the opening
pub calm-fault : {A : Type 0} (m : Floor) (o : Opening A) (es : List (Entry A)) → IsInOrder m o → (fault : JudgeFault) → IsEntryFault m (with_entries (start (calm o)) es) fault → IsJudgeFault m (with_entries (start o) es) fault
calm-fault m o es order (Illegal at rule) h = inr (illegal-alike m (calm o) o es at rule order (flip (calm-alike o)) h)
calm-fault m o es order NoMemory h = tt

pub calm-legal : {A : Type 0} (m : Floor) (o : Opening A) (es : List (Entry A)) → IsInOrder m o → IsLegal m (with_entries (start (calm o)) es) → IsLegal m (with_entries (start o) es)
calm-legal m o es order legal = legal-alike m o (with_entries (start (calm o)) es) order (flip (calm-alike o)) legal

on_ok : {X E : Type 0} (r : Result X E) (P Q : Type 0) → (P → Q) → OnOk r P → OnOk r Q
on_ok (Ok x) P Q f h = f h
on_ok (Err e) P Q f h = h

if_err : {X E : Type 0} (r : Result X E) (P Q : E → Type 0) → ((e : E) → P e → Q e) → IfErr r P → IfErr r Q
if_err (Ok x) P Q f h = h
if_err (Err e) P Q f h = f e h

-- a legal history is refused for lack of memory alone
pub legal-memory : {A X : Type 0} (m : Floor) (h : History A) → IsLegal m h → (r : Result X JudgeFault) → IfErr r (λ fault. IsJudgeFault m h fault) → IfErr r (λ fault. fault ≡ NoMemory)
legal-memory m h legal r = if_err r _ _ (λ fault is. only_memory m h fault is legal)

-- the same of an opening that is equal to the calm one
module _ {A : Type 0} (m : Floor) (o x : Opening A) (es : List (Entry A)) (is : x ≡ calm o) (order : IsInOrder m o) where
  pub calm-order : IsInOrder m x
  calm-order = subst (λ (y : Opening A). IsInOrder m y) (sym is) (calm-in_order m o order)

  at_calm : (P : History A → Type 0) → P (with_entries (start x) es) → P (with_entries (start (calm o)) es)
  at_calm P h = subst (λ (y : Opening A). P (with_entries (start y) es)) is h

  pub calm-ok : {X E : Type 0} (r : Result X E) → OnOk r (IsLegal m (with_entries (start x) es)) → OnOk r (IsLegal m (with_entries (start o) es))
  calm-ok r = on_ok r _ _ (λ legal. calm-legal m o es order (at_calm (λ h. IsLegal m h) legal))

  pub calm-err : {X : Type 0} (r : Result X JudgeFault) → IfErr r (λ fault. IsEntryFault m (with_entries (start x) es) fault) → IfErr r (λ fault. IsJudgeFault m (with_entries (start o) es) fault)
  calm-err r = if_err r _ _ (λ fault h. calm-fault m o es order fault (at_calm (λ h. IsEntryFault m h fault) h))
