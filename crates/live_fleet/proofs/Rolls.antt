-- How robots stand, by what is read of them.
use Rattle.std.proofs.Common.{◌≡◌, ◌∙◌, ℕ, zero, suc, ◌+◌, ◌==◌, ◌||◌, Bool, false, List, [], ◌∷◌, ◌++◌, map, Option, refl, sym, ap, arith, append_assoc, append-nil}
use Rattle.std.specs.Prelude.{is_some, slice_index, slice_index_or, unwrap_or}
use Rattle.std.specs.List.{flat_map, list_any, range_with_len}
use Rattle.std.specs.declared.alloc.Global.{Global}
use Rattle.fleet_core.specs.Core.{World}
use Rattle.fleet_core.specs.declared.open_errands.OpenErrand.{OpenErrand}
use Rattle.fleet_history.specs.History.{front, is_shut, place, shuts}
use Rattle.fleet_history.specs.Waits.{wait}
use Rattle.fleet_history.specs.declared.history.Entry.{Entry}
use Rattle.fleet_history.specs.declared.history.Entry.TheVariants as entry
use Rattle.fleet_history.specs.declared.history.RobotState.{RobotState}
use Rattle.fleet_queue.specs.declared.errand.Errand.{Errand}
use Rattle.live_fleet.specs.declared.robots.Duty.{Duty}
use Rattle.live_fleet.specs.declared.robots.RobotRow.{RobotRow}
use Rattle.live_fleet.specs.Robots.{all_open, duty_of, errands_of, goal_of, row_of, shut_in}

-- one more number
range_more : {A : Type 0} (f : ℕ → List A) (a n k : ℕ) → a + n ≡ k → flat_map f (range_with_len a (suc n)) ≡ flat_map f (range_with_len a n) ++ f k
range_more f a zero k e = let s : a ≡ k = omega (arith, e) in append-nil (f a) ∙ ap f s
range_more f a (suc n) k e =
    let s : (a + 1) + n ≡ k = omega (arith, e) in
    ap (λ (l : List _). f a ++ l) (range_more f (a + 1) n k s) ∙ sym (append_assoc (f a) (flat_map f (range_with_len (a + 1) n)) (f k))

flat_range_more : {A : Type 0} (f : ℕ → List A) (n : ℕ) → flat_map f (range_with_len 0 (n + 1)) ≡ flat_map f (range_with_len 0 n) ++ f n
flat_range_more f n = let s : n + 1 ≡ suc n = omega arith in ap (λ (k : ℕ). flat_map f (range_with_len 0 k)) s ∙ range_more f 0 n n (omega arith)

-- the errands of one more client
pub open-more : (f : ℕ → List OpenErrand) (n : ℕ) (all now got more : List OpenErrand) → all ≡ flat_map f (range_with_len 0 n) → now ≡ all ++ got → got ≡ more → more ≡ f n → now ≡ flat_map f (range_with_len 0 (n + 1))
open-more f n all now got more before added same is =
    added ∙ (ap (λ (l : List OpenErrand). l ++ got) before ∙ (ap (λ (l : List OpenErrand). flat_map f (range_with_len 0 n) ++ l) (same ∙ is) ∙ sym (flat_range_more f n)))

-- which robots a chapter shuts
any_shut : {A : Type 0} (r : ℕ) (es : List (Entry A)) → list_any (λ x. x == r) (flat_map shut_in es) ≡ list_any (shuts r) es
any_shut r [] = refl
any_shut r (entry.Take client order verdict ∷ es) = any_shut r es
any_shut r (entry.Tick to arrived farewells ∷ es) = any_shut r es
any_shut r (entry.Shut robot farewell ∷ es) = ap (λ (b : Bool). (robot == r) || b) (any_shut r es)

row : (robot cell goal errands wait_now : ℕ) → Duty → RobotRow
row robot cell goal errands wait_now duty = record { robot = robot; cell = cell; goal = goal; errands = errands; wait = wait_now; duty = duty }

same_row : (r c c2 g g2 e e2 t t2 : ℕ) (d d2 : Duty) → c ≡ c2 → g ≡ g2 → e ≡ e2 → t ≡ t2 → d ≡ d2 → row r c g e t d ≡ row r c2 g2 e2 t2 d2
same_row r c c2 g g2 e e2 t t2 d d2 cell goal errands waits duty =
    ap (λ (x : ℕ). row r x g e t d) cell ∙ (ap (λ (x : ℕ). row r c2 x e t d) goal ∙ (ap (λ (x : ℕ). row r c2 g2 x t d) errands ∙ (ap (λ (x : ℕ). row r c2 g2 e2 x d) waits ∙ ap (row r c2 g2 e2 t2) duty)))

is_shut_by : (w : World Global) (r : ℕ) (states : List (RobotState Global)) (shut : List ℕ) → states ≡ w.history.opening.robots → shut ≡ flat_map shut_in w.history.entries
    → (slice_index_or (map (λ x. x.shut) states) r false || list_any (λ x. x == r) shut) ≡ is_shut w.history r
is_shut_by w r states shut begun since =
    ap (λ (l : List (RobotState Global)). slice_index_or (map (λ x. x.shut) l) r false || list_any (λ x. x == r) shut) begun
    ∙ (ap (λ (l : List ℕ). slice_index_or (map (λ x. x.shut) w.history.opening.robots) r false || list_any (λ x. x == r) l) since
    ∙ ap (λ (b : Bool). slice_index_or (map (λ x. x.shut) w.history.opening.robots) r false || b) (any_shut r w.history.entries))

-- the row of a robot
pub row-of : (w : World Global) (r : ℕ) (states : List (RobotState Global)) (shut : List ℕ) (all : List OpenErrand) (first : Option Errand) (waits : Option ℕ) (now_shut busy : Bool) (cell goal errands waited : ℕ) (duty : Duty)
    → states ≡ w.history.opening.robots → shut ≡ flat_map shut_in w.history.entries → all ≡ all_open w.history → first ≡ front w.history r → waits ≡ wait w.history r → cell ≡ slice_index (place w.history) r → goal ≡ goal_of cell first
    → errands ≡ errands_of all r → waited ≡ unwrap_or waits 0 → now_shut ≡ (slice_index_or (map (λ x. x.shut) states) r false || list_any (λ x. x == r) shut) → busy ≡ is_some waits → duty ≡ duty_of now_shut busy
    → record { robot = r; cell = cell; goal = goal; errands = errands; wait = waited; duty = duty } ≡ row_of w r
unfolding row
row-of w r states shut all first waits now_shut busy cell goal errands waited duty begun since open_now first_is waits_is cell_is goal_is errands_is waited_is shut_is busy_is duty_is =
    same_row r cell (slice_index (place w.history) r) goal (goal_of (slice_index (place w.history) r) (front w.history r)) errands (errands_of (all_open w.history) r) waited (unwrap_or (wait w.history r) 0) duty (duty_of (is_shut w.history r) (is_some (wait w.history r)))
    cell_is
    (goal_is ∙ (ap (λ (x : ℕ). goal_of x first) cell_is ∙ ap (goal_of (slice_index (place w.history) r)) first_is))
    (errands_is ∙ ap (λ (l : List OpenErrand). errands_of l r) open_now)
    (waited_is ∙ ap (λ (o : Option ℕ). unwrap_or o 0) waits_is)
    (duty_is ∙ (ap (λ (b : Bool). duty_of b busy) (shut_is ∙ is_shut_by w r states shut begun since) ∙ ap (duty_of (is_shut w.history r)) (busy_is ∙ ap is_some waits_is)))
