-- How a robot stands, once its errands and shuts are noted.
use Rattle.std.proofs.Common.{◌≡◌, ℕ, ◌<◌, List, [], ◌∷◌, cond, Bool, true, false, ◌||◌, Option, Some, None, length, map, refl, ap, ◌∙◌}
use Rattle.std.specs.Prelude.{is_some, unwrap_or, slice_index, slice_index_or}
use Rattle.std.specs.List.{list_any}
use Rattle.fleet_queue.specs.declared.errand.Errand.{Errand}
use Rattle.fleet_history.specs.declared.history.Entry.{Entry}
use Rattle.fleet_history.specs.History.{History, robots, front, place, unfinished, shuts, is_shut}
use Rattle.fleet_history.specs.Waits.{wait, wait_for}
use Rattle.fleet_core.specs.Core.{World}
use Rattle.fleet_c.specs.declared.chore.Chore.{Chore}
use Rattle.fleet_c.specs.declared.standing.Standing.{Standing}
use Rattle.fleet_c.specs.declared.standing.TheConstants.{SHUT, NOWHERE}
use Rattle.fleet_c.specs.Errands.{goal_of, state_of, standing_of}
use Rattle.fleet_c.specs.inside.Runs.{run, farther, nearer, noted, shut_by, begun, AreAll}

noted-runs : (r : ℕ) (all : List Chore) (s : Standing) → run (noted r) all s ≡ record s { errands = run (farther r) all s.errands; goal = run (nearer r) all s.goal }
noted-runs r [] s = refl
noted-runs r (c ∷ cs) s = noted-runs r cs (noted r c s)

twice : (b any : Bool) (s : ℕ) → cond any SHUT (cond b SHUT s) ≡ cond (b || any) SHUT s
twice true true s = refl
twice true false s = refl
twice false true s = refl
twice false false s = refl

shut-runs : {A : Type 0} (r : ℕ) (es : List (Entry A)) (s : Standing) → run (shut_by r) es s ≡ record s { state = cond (list_any (shuts r) es) SHUT s.state }
shut-runs r [] s = refl
shut-runs r (e ∷ es) s = shut-runs r es (shut_by r e s) ∙ ap (λ (i : ℕ). record s { state = i }) (twice (shuts r e) (list_any (shuts r) es) s.state)

busy : {A : Type 0} (h : History A) (r : ℕ) (f : Option Errand) → is_some (wait_for h r f) ≡ is_some f
busy h r None = refl
busy h r (Some f) = refl

state-is : (was any busy : Bool) → cond any SHUT (state_of was busy) ≡ state_of (was || any) busy
state-is true true busy = refl
state-is true false busy = refl
state-is false true busy = refl
state-is false false busy = refl

abbrev made : (wait errands cell goal state : ℕ) → Standing
made w e c g s = record { wait = w; errands = e; cell = c; goal = g; state = s }

parts_same : (w c e e' g g' s s' : ℕ) → e ≡ e' → g ≡ g' → s ≡ s' → made w e c g s ≡ made w e' c g' s'
parts_same w c e e' g g' s s' x y z = rw (x, y, z) refl

abbrev opened : {A : Type 0} → History A → ℕ → Bool
opened h r = slice_index_or (map (λ x. x.shut) h.opening.robots) r false

abbrev any : {A : Type 0} → History A → ℕ → Bool
any h r = list_any (shuts r) h.entries

now-is : {A : Type 0} (h : History A) (r : ℕ) → cond (any h r) SHUT (state_of (opened h r) (is_some (wait h r))) ≡ state_of (is_shut h r) (is_some (front h r))
now-is h r =
    ap (λ (b : Bool). cond (any h r) SHUT (state_of (opened h r) b)) (busy h r (front h r)) ∙ state-is (opened h r) (any h r) (is_some (front h r))

pub stands : {A : Type 0} (w : World A) (all : List Chore) (r : ℕ) → AreAll w.history all → r < robots w.history
    → run (shut_by r) w.history.entries (run (noted r) all (begun w r)) ≡ standing_of w r
stands w all r a l =
    let h = w.history in
    shut-runs r h.entries (run (noted r) all (begun w r))
    ∙ ap (λ (s : Standing). record s { state = cond (any h r) SHUT s.state }) (noted-runs r all (begun w r))
    ∙ parts_same (unwrap_or (wait h r) 0) (slice_index (place h) r) (run (farther r) all 0) (length (unfinished h r)) (run (nearer r) all NOWHERE) (goal_of (front h r))
    (cond (any h r) SHUT (state_of (opened h r) (is_some (wait h r)))) (state_of (is_shut h r) (is_some (front h r)))
    (a.longest r l) (a.goals r l) (now-is h r)

-- lists that are written one after the other
pub all-stand : {A : Type 0} (w : World A) (all : List Chore) (es : List (Entry A)) (xs ys zs : List Standing) → AreAll w.history all → es ≡ w.history.entries
    → ((r : ℕ) (d : Standing) → r < robots w.history → slice_index_or xs r d ≡ begun w r)
    → ((r : ℕ) (d : Standing) → r < robots w.history → slice_index_or ys r d ≡ run (noted r) all (slice_index_or xs r d))
    → ((r : ℕ) (d : Standing) → r < robots w.history → slice_index_or zs r d ≡ run (shut_by r) es (slice_index_or ys r d))
    → (r : ℕ) (d : Standing) → r < robots w.history → slice_index_or zs r d ≡ standing_of w r
all-stand w all es xs ys zs a same first second third r d l =
    third r d l ∙ ap (run (shut_by r) es) (second r d l ∙ ap (run (noted r) all) (first r d l))
    ∙ ap (λ (t : List (Entry _)). run (shut_by r) t (run (noted r) all (begun w r))) same ∙ stands w all r a l
