-- An errand that an entry accepts finds the room that was made for it.
use Rattle.std.proofs.Common.{◌≡◌, ◌≢◌, ◌∙◌, ℕ, ◌+◌, ◌<◌, ◌≤◌, Bool, true, false, None, List, [], ◌∷◌, length, not, get_or, refl, sym, ap, subst, arith}
use Rattle.std.specs.Prelude.{count_by, slice_index, ◌==◌, if◌then◌else◌}
use Rattle.std.specs.List.{flat_map}
use Rattle.std.proofs.lemmas.List.{length-append, length-drop}
use Rattle.std.proofs.lemmas.Bool.{eq-eqb}
use Rattle.std.proofs.lemmas.List.Concat.{flat_map-cons}
use Rattle.std.proofs.lemmas.List.Sums.{count_by-le-length, count_by_more_yes, length-filter, sum_by-take-le}
use Rattle.fleet_queue.specs.declared.errand.Errand.{Errand}
use Rattle.fleet_queue.specs.Queue.{Queue}
use Rattle.fleet_book.specs.declared.order.Order.TheVariants.{Go, Close, Withdraw}
use Rattle.fleet_book.specs.declared.verdict.Verdict.{Verdict}
use Rattle.fleet_book.specs.declared.verdict.Verdict.TheVariants as verdict
use Rattle.fleet_grid.specs.Floor.{Floor}
use Rattle.fleet_history.specs.declared.history.Entry.{Entry}
use Rattle.fleet_history.specs.declared.history.Entry.TheVariants.{Take, Tick, Shut}
use Rattle.fleet_history.specs.History.{History, robots, unfinished, arrivals, accepted, joined, accepted_by, errand_for, errands_at, is_withdrawn}
use Rattle.fleet_history.specs.Verdicts.{IsVerdict, standing}
use Rattle.fleet_history.proofs.Legal.{accepted-robot, accepted-rule}
use Rattle.fleet_history.proofs.InOrder.{legal-room}
use Rattle.fleet_history.proofs.Sums.{count_cons}
use Rattle.fleet_state.specs.State.{State, IsStateOf}
use Rattle.fleet_state.specs.Robots.{HasPlace}
use Rattle.fleet_state.specs.Follows.{IsPlaced}
use Rattle.fleet_state.proofs.Parts.{queue-of}
use Rattle.fleet_trace.specs.Judged.{JudgedBy}
use Rattle.fleet_trace.specs.inside.Rooms.{is_for, room_for}
use Rattle.fleet_trace.proofs.EntryByEntry.{upto}

-- ---- how many errands join a queue

one-if : (b : Bool) (e : Errand) → length (if b then e ∷ [] else []) ≡ (if b then 1 else 0)
one-if true e = refl
one-if false e = refl

go_joined : (A : Type 0) (r client robot cell : ℕ) (v : Verdict) → length (errand_for r client (Go robot cell) v) ≡ (if is_for {A = A} r (Take client (Go robot cell) v) then 1 else 0)
go_joined A r client robot cell (verdict.Accepted n) = one-if (robot == r) (record { client = client; number = n; cell = cell })
go_joined A r client robot cell verdict.Closed = refl
go_joined A r client robot cell verdict.Withdrawn = refl
go_joined A r client robot cell verdict.ClientClosed = refl
go_joined A r client robot cell verdict.NoRobot = refl
go_joined A r client robot cell verdict.RobotShut = refl
go_joined A r client robot cell verdict.NoCell = refl
go_joined A r client robot cell verdict.Blocked = refl
go_joined A r client robot cell verdict.Unreachable = refl
go_joined A r client robot cell verdict.QueueFull = refl
go_joined A r client robot cell verdict.LifeSpent = refl
go_joined A r client robot cell verdict.NoErrand = refl
go_joined A r client robot cell verdict.TooLate = refl

joined_by : {A : Type 0} (r : ℕ) (e : Entry A) → length (accepted_by r e) ≡ (if is_for r e then 1 else 0)
joined_by {A} r (Take client (Go robot cell) v) = go_joined A r client robot cell v
joined_by r (Take client Close v) = refl
joined_by r (Take client (Withdraw number) v) = refl
joined_by r (Tick to arrived farewells) = refl
joined_by r (Shut robot farewell) = refl

all_joined : {A : Type 0} (r : ℕ) (es : List (Entry A)) → length (flat_map (accepted_by r) es) ≡ count_by (is_for r) es
all_joined r [] = refl
all_joined r (e ∷ es) =
    ap length (flat_map-cons (accepted_by r) e es)
    ∙ length-append (accepted_by r e) (flat_map (accepted_by r) es)
    ∙ ap (λ n. n + length (flat_map (accepted_by r) es)) (joined_by r e)
    ∙ ap (λ n. (if is_for r e then 1 else 0) + n) (all_joined r es)
    ∙ sym (count_cons (is_for r) e es)

-- a robot has at most the errands of its opening and those that were accepted for it
unfinished_few : {A : Type 0} (h : History A) (r : ℕ) → length (unfinished h r) ≤ length (errands_at h.opening r) + count_by (is_for r) h.entries
unfinished_few h r =
    omega (
      arith,
      length-drop (length (arrivals h r)) (accepted h r),
      length-filter (λ x. not (is_withdrawn h x)) (joined h r),
      count_by-le-length (λ x. not (is_withdrawn h x)) (joined h r),
      length-append (errands_at h.opening r) (flat_map (accepted_by r) h.entries),
      all_joined r h.entries,
    )

refl_for : (r : ℕ) → (r == r) ≡ true
refl_for r = eq-eqb r r refl

-- ---- the room for one more

-- the rooms of a state are those of all entries after the opening
abbrev pub HasRooms : {A : Type 0} → History A → State A → Type 0
HasRooms h s = (r : ℕ) → r < robots h → slice_index s.rooms r ≡ room_for h.opening h.entries r

module _ {A : Type 0} (m : Floor) (h : History A) (i : ℕ) (s : State A) (k : IsStateOf m (upto m h i) s) (rooms : HasRooms h s) (less : i < length h.entries) where
  go_placed : (client robot cell n : ℕ) → get_or h.entries i (Take client (Go robot cell) (verdict.Accepted n)) ≡ Take client (Go robot cell) (verdict.Accepted n)
      → IsVerdict m (upto m h i) client (Go robot cell) (verdict.Accepted n) → HasPlace s.queues (Go robot cell) (verdict.Accepted n)
  go_placed client robot cell n is v =
      let e : Entry A = Take client (Go robot cell) (verdict.Accepted n) in
      let known : robot < robots h = accepted-robot m (upto m h i) client n robot cell v in
      let q = queue-of k robot known in
      let full = v.are_facts.full known in
      let open_still = (accepted-rule (standing (upto m h i) client (Go robot cell)) v.facts n robot cell v.judged).room in
      let not_full : length (unfinished (upto m h i) robot) ≢ h.opening.queue = λ same. (let bad = full.1 same in cc) in
      let mine : is_for {A = A} robot e ≡ true = refl_for robot in
      let more = count_by_more_yes (is_for robot) h.entries i e less (ap (is_for robot) is ∙ mine) in
      subst (λ (x : Queue). length x.items < x.capacity) (sym q)
      (omega (
        arith,
        not_full,
        legal-room m (upto m h i) robot k.legal known,
        unfinished_few (upto m h i) robot,
        rooms robot known,
        more,
        sum_by-take-le (λ (x : Entry A). if is_for robot x then 1 else 0) h.entries (i + 1),
      ))

  pub placed : (e : Entry A) → get_or h.entries i e ≡ e → JudgedBy m h.opening.robots s e None → IsPlaced s.queues e
  placed (Tick to arrived farewells) is judged = tt
  placed (Shut robot farewell) is judged = tt
  placed (Take client Close v) is judged = tt
  placed (Take client (Withdraw number) v) is judged = tt
  placed (Take client (Go robot cell) (verdict.Accepted n)) is judged = go_placed client robot cell n is (judged (upto m h i) (record { is = k; same = refl })).1
  placed (Take client (Go robot cell) verdict.Closed) is judged = tt
  placed (Take client (Go robot cell) verdict.Withdrawn) is judged = tt
  placed (Take client (Go robot cell) verdict.ClientClosed) is judged = tt
  placed (Take client (Go robot cell) verdict.NoRobot) is judged = tt
  placed (Take client (Go robot cell) verdict.RobotShut) is judged = tt
  placed (Take client (Go robot cell) verdict.NoCell) is judged = tt
  placed (Take client (Go robot cell) verdict.Blocked) is judged = tt
  placed (Take client (Go robot cell) verdict.Unreachable) is judged = tt
  placed (Take client (Go robot cell) verdict.QueueFull) is judged = tt
  placed (Take client (Go robot cell) verdict.LifeSpent) is judged = tt
  placed (Take client (Go robot cell) verdict.NoErrand) is judged = tt
  placed (Take client (Go robot cell) verdict.TooLate) is judged = tt
