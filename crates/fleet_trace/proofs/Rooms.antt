-- For how many errands the queues of a trace need memory, entry by entry.
use Rattle.std.proofs.Common.{◌≡◌, ℕ, ◌+◌, ◌<◌, ◌≤◌, List, [], Bool, true, false, Some, None, length, map, take, min, get_or, sym, refl, ap, ◌∙◌, arith, slice_index}
use Rattle.std.specs.Prelude.{All, count_by, if◌then◌else◌, ◌==◌}
use Rattle.std.proofs.lemmas.List.{get_or-map}
use Rattle.std.proofs.lemmas.List.Sums.{count_by_more_yes, count_by_more_no}
use Rattle.fleet_history.specs.declared.history.Entry.{Entry}
use Rattle.fleet_history.specs.declared.history.Opening.{Opening}
use Rattle.fleet_history.specs.declared.history.RobotState.{RobotState}
use Rattle.fleet_history.proofs.Legal.{unknown_robot}
use Rattle.fleet_state.specs.Opened.{HaveRooms, errands_in}
use Rattle.fleet_trace.specs.inside.Rooms.{robot_joined, is_for, room_for}

errands-at : {A : Type 0} (xs : List (RobotState A)) (r : ℕ) → r < length xs → errands_in xs r ≡ (get_or xs r unknown_robot).errands
errands-at xs r l = get_or-map (λ x. x.errands) xs r unknown_robot [] l

least : (q a : ℕ) → a ≤ q → a ≡ min q (a + 0)
least q a l = omega arith

-- the rooms before the first entry
pub rooms-opened : {A : Type 0} (o : Opening A) (r : ℕ) → All (λ x. length x.errands ≤ o.queue) o.robots → r < length o.robots →
    slice_index (map (λ x. length x.errands) o.robots) r ≡ room_for o [] r
rooms-opened o r few l =
    get_or-map (λ x. length x.errands) o.robots r unknown_robot 0 l ∙ ap length (sym (errands-at o.robots r l))
    ∙ least o.queue (length (errands_in o.robots r)) (rw (errands-at o.robots r l) (few r unknown_robot l))

more : (q a k n : ℕ) → n ≡ k + 1 → min q (a + n) ≡ min q (min q (a + k) + 1)
more q a k n e = omega arith

-- the room once one more entry is known
pub room-more : {A : Type 0} (o : Opening A) (entries : List (Entry A)) (i : ℕ) (e : Entry A) (r : ℕ) → i < length entries → e ≡ get_or entries i e →
    room_for o (take (i + 1) entries) r ≡ (if is_for r e then min o.queue (room_for o (take i entries) r + 1) else room_for o (take i entries) r)
room-more o entries i e r l at = go (is_for r e) refl
  where
    go : (b : Bool) → is_for r e ≡ b → room_for o (take (i + 1) entries) r ≡ (if b then min o.queue (room_for o (take i entries) r + 1) else room_for o (take i entries) r)
    go true is = more o.queue (length (errands_in o.robots r)) (count_by (is_for r) (take i entries)) (count_by (is_for r) (take (i + 1) entries)) (count_by_more_yes (is_for r) entries i e l (ap (is_for r) (sym at) ∙ is))
    go false is = ap (λ n. min o.queue (length (errands_in o.robots r) + n)) (count_by_more_no (is_for r) entries i e l (ap (is_for r) (sym at) ∙ is))

-- each room is at most what a robot may have
pub room-within : {A : Type 0} (o : Opening A) (entries : List (Entry A)) (r : ℕ) → room_for o entries r ≤ o.queue
room-within o entries r = omega arith

-- the errands of the opening find room
pub rooms-have : {A : Type 0} (o : Opening A) (entries : List (Entry A)) (rooms : List ℕ) → All (λ x. length x.errands ≤ o.queue) o.robots → length rooms ≡ length o.robots →
    ((r : ℕ) → r < length o.robots → slice_index rooms r ≡ room_for o entries r) → HaveRooms rooms o.robots
rooms-have o entries rooms few count each = record {
  count = count;
  each = λ r l.
      let fits : length (errands_in o.robots r) ≤ o.queue = rw (errands-at o.robots r l) (few r unknown_robot l) in
      rw (each r l) (omega (arith, fits));
}

-- the entry accepts no errand
pub room-kept : {A : Type 0} (o : Opening A) (entries : List (Entry A)) (i : ℕ) (e : Entry A) (r : ℕ) → i < length entries → e ≡ get_or entries i e → robot_joined e ≡ None →
    room_for o (take i entries) r ≡ room_for o (take (i + 1) entries) r
room-kept o entries i e r l at none = sym (room-more o entries i e r l at ∙ rw none refl)

-- it accepts one for this robot
pub room-joined : {A : Type 0} (o : Opening A) (entries : List (Entry A)) (i : ℕ) (e : Entry A) (robot r n : ℕ) → i < length entries → e ≡ get_or entries i e → robot_joined e ≡ Some robot →
    n ≡ room_for o (take i entries) r → (if robot == r then min o.queue (n + 1) else n) ≡ room_for o (take (i + 1) entries) r
room-joined o entries i e robot r n l at some before = rw before (sym (room-more o entries i e r l at ∙ rw some refl))
