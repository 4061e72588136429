-- What the robots aim at, by their keys.
use Rattle.std.proofs.Common.{◌≡◌, ℕ, ◌+◌, inl, inr, List, length, Option, Some, None, IsSome, MatchOption, ◌↔◌, refl, sym, ap, subst, ◌∙◌, arith, rules, slice_index_or}
use Rattle.std.proofs.lemmas.Bool.{cases_eq, cases_lt}
use Rattle.std.proofs.lemmas.List.{get_or-map, get_or_past, length-map}
use Rattle.fleet_grid.specs.Floor.{Floor, IsFloor, IsNeighbour}
use Rattle.std.proofs.lemmas.Nat.Bits.{bit_at-zero}
use Rattle.fleet_grid.specs.Direction.{dir_number}
use Rattle.fleet_grid.specs.Ways.{IsWay, IsLess, AreNearer}
use Rattle.fleet_grid.specs.Walk.{IsDistance, AreApart}
use Rattle.fleet_field.specs.Field.{Aim, IsField}
use Rattle.fleet_field.specs.declared.store.Held.{Held}
use Rattle.fleet_field.specs.Store.{shown, Serves, IsHold, IsHeldMore}
use Rattle.fleet_field.proofs.Shares.{none_some}
use Rattle.fleet_planner.specs.Aims.{goal_in, distance_in, goals_of, aim_at, goal, distance, AreOn, AreFloor}
use Rattle.fleet_planner.specs.Keys.{field_in, field_at, fields_of, key_at, holders, uses_in, AreOwn, AreKept}
use Rattle.fleet_planner.proofs.Counts.{some_of, holder_of}

-- places

pub aim_at-fields : (store : List (Option (Held Aim))) (keys : List (Option ℕ)) (robot : ℕ) → aim_at (fields_of store keys) robot ≡ field_at store (key_at keys robot)
aim_at-fields store keys robot = elim (cases_lt robot (length keys)) [
  | inl less ↦ get_or-map (field_at store) keys robot None None less
  | inr past ↦ (
      let long : length (fields_of store keys) ≡ length keys = length-map keys (field_at store) in
      get_or_past (fields_of store keys) robot None (omega (arith, long, past)) ∙ sym (ap (field_at store) (get_or_past keys robot None past)))
]

pub goals_of-at : (aims : List (Option Aim)) (robot : ℕ) → slice_index_or (goals_of aims) robot None ≡ goal aims robot
goals_of-at aims robot = elim (cases_lt robot (length aims)) [
  | inl less ↦ get_or-map goal_in aims robot None None less
  | inr past ↦ (
      let long : length (goals_of aims) ≡ length aims = length-map aims goal_in in
      get_or_past (goals_of aims) robot None (omega (arith, long, past)) ∙ sym (ap goal_in (get_or_past aims robot None past)))
]

pub length-goals : (store : List (Option (Held Aim))) (keys : List (Option ℕ)) → length (goals_of (fields_of store keys)) ≡ length keys
length-goals store keys = length-map (fields_of store keys) goal_in ∙ length-map keys (field_at store)

-- the map

field_of : (o : Option (Held Aim)) (aim : Aim) → field_in o ≡ Some aim → (held : Held Aim) × (o ≡ Some held) × (held.field ≡ aim)
field_of None aim e = search (rules, e)
field_of (Some held) aim e = (held, refl, search (rules, e))

key_of_field : (store : List (Option (Held Aim))) (key : Option ℕ) (aim : Aim) → field_at store key ≡ Some aim → (k : ℕ) × (held : Held Aim) × (shown store k ≡ Some held) × (held.field ≡ aim)
key_of_field store None aim e = search (rules, e)
key_of_field store (Some k) aim e = (let f = field_of (shown store k) aim e in (k, f.0, f.1, f.2))

goal_of_field : (o : Option Aim) (cell : ℕ) → goal_in o ≡ Some cell → (aim : Aim) × (o ≡ Some aim) × (aim.goal ≡ cell)
goal_of_field None cell e = search (rules, e)
goal_of_field (Some aim) cell e = (aim, refl, search (rules, e))

-- each field that the store holds belongs to a robot, so that it is on the map
pub serves_on : (m : Floor) (store : List (Option (Held Aim))) (keys : List (Option ℕ)) → AreOwn store keys → AreOn m (fields_of store keys) → Serves m store
serves_on m store keys own on key held e =
    let count : uses_in (shown store key) ≡ holders keys key + 0 = own.counted.counted key in
    let uses : uses_in (shown store key) ≡ held.uses = ap uses_in e in
    let some = own.counted.used key held e in
    let robot = holder_of keys key (omega (arith, count, uses, some)) in
    let aim : aim_at (fields_of store keys) robot.0 ≡ Some held.field = aim_at-fields store keys robot.0 ∙ (ap (field_at store) robot.1 ∙ ap field_in e) in
    (on robot.0 held.field aim).field

pub on_serves : (m : Floor) (store : List (Option (Held Aim))) (keys : List (Option ℕ)) → Serves m store → AreFloor m (goals_of (fields_of store keys)) → AreOn m (fields_of store keys)
on_serves m store keys serves floor robot aim e =
    let f = key_of_field store (key_at keys robot) aim (sym (aim_at-fields store keys robot) ∙ e) in
    record {
      floor = floor robot aim.goal (goals_of-at (fields_of store keys) robot ∙ ap goal_in e);
      field = subst (λ (x : Aim). IsField m x.goal x) f.3 (serves f.0 f.1 f.2);
    }

-- the goals of aims on the map are floor
pub floor_on : (m : Floor) (aims : List (Option Aim)) → AreOn m aims → AreFloor m (goals_of aims)
floor_on m aims on robot cell e =
    let a = goal_of_field (aim_at aims robot) cell (sym (goals_of-at aims robot) ∙ e) in
    subst (IsFloor m) a.2 (on robot a.0 a.1).floor

pub serves_kept : (m : Floor) (old new : List (Option (Held Aim))) → AreKept old new → Serves m old → Serves m new
serves_kept m old new kept serves key held e =
    let was = kept key held e in
    subst (λ (x : Aim). IsField m x.goal x) was.2 (serves key was.0 was.1)

-- a key that is still shown shows its field
pub field_kept : (old new : List (Option (Held Aim))) (key : ℕ) → AreKept old new → IsSome (shown new key) → field_in (shown new key) ≡ field_in (shown old key)
field_kept old new key kept some =
    let h = some_of (shown new key) some in
    let was = kept key h.0 h.1 in
    ap field_in h.1 ∙ (ap Some (sym was.2) ∙ sym (ap field_in was.1))

pub field_held : (m : Floor) (aimed : ℕ) (old new : List (Option (Held Aim))) (key : ℕ) → IsHold m aimed old new key → (k : ℕ) → IsSome (shown old k) → field_in (shown new k) ≡ field_in (shown old k)
field_held m aimed old new key hold k some = elim (cases_eq k key) [
  | inl same ↦ subst (λ (x : ℕ). field_in (shown new x) ≡ field_in (shown old x)) (sym same) (at (shown old key) refl (subst (λ (x : ℕ). IsSome (shown old x)) same some) hold.held)
  | inr ne ↦ ap field_in (hold.others k ne)
]
  where
    at : (o : Option (Held Aim)) → shown old key ≡ o → IsSome (shown old key) → IsHeldMore m aimed o (shown new key) → field_in (shown new key) ≡ field_in (shown old key)
    at None e s p = (let h = some_of (shown old key) s in absurd (none_some h.0 (shown old key) e h.1))
    at (Some was) e s p = ap field_in p.1 ∙ sym (ap field_in e)

-- for the step: the distances are those on the map
pub measured_on : (m : Floor) (aims : List (Option Aim)) → AreOn m aims → (robot aimed cell : ℕ) → goal aims robot ≡ Some aimed → MatchOption (distance aims robot cell) (AreApart (IsNeighbour m) cell aimed) (IsDistance (IsNeighbour m) cell aimed)
measured_on m aims on robot aimed cell e =
    let a = goal_of_field (aim_at aims robot) aimed e in
    let field : IsField m aimed a.0 = subst (λ (x : ℕ). IsField m x a.0) a.2 (on robot a.0 a.1).field in
    subst (λ (o : Option Aim). MatchOption (distance_in o cell) (AreApart (IsNeighbour m) cell aimed) (IsDistance (IsNeighbour m) cell aimed)) (sym a.1) (field.each cell)

-- what the store says of a robot's key
pub goal_shown : (store : List (Option (Held Aim))) (own : Option ℕ) (key found : ℕ) → own ≡ Some key → IsSome (shown store key) → ((held : Held Aim) → shown store key ≡ Some held → found ≡ held.field.goal) → Some found ≡ goal_in (field_at store own)
goal_shown store own key found e some says =
    let h = some_of (shown store key) some in
    ap Some (says h.0 h.1) ∙ sym (ap (λ (k : Option ℕ). goal_in (field_at store k)) e ∙ ap (λ (o : Option (Held Aim)). goal_in (field_in o)) h.1)

pub distance_shown : (store : List (Option (Held Aim))) (own : Option ℕ) (key cell : ℕ) (found : Option ℕ) → own ≡ Some key → IsSome (shown store key) → ((held : Held Aim) → shown store key ≡ Some held → found ≡ slice_index_or held.field.away cell None) → found ≡ distance_in (field_at store own) cell
distance_shown store own key cell found e some says =
    let h = some_of (shown store key) some in
    says h.0 h.1 ∙ sym (ap (λ (k : Option ℕ). distance_in (field_at store k) cell) e ∙ ap (λ (o : Option (Held Aim)). distance_in (field_in o) cell) h.1)

pub ways_shown : (store : List (Option (Held Aim))) (own : Option ℕ) (key : ℕ) (m : Floor) (cell ways : ℕ) → own ≡ Some key → IsSome (shown store key) → ((held : Held Aim) → shown store key ≡ Some held → AreNearer m (λ c. slice_index_or held.field.away c None) cell ways) →
    AreNearer m (distance_in (field_at store own)) cell ways
ways_shown store own key m cell ways e some says dir w n =
    let h = some_of (shown store key) some in
    let at : (c : ℕ) → slice_index_or h.0.field.away c None ≡ distance_in (field_at store own) c = λ c. sym (ap (λ (k : Option ℕ). distance_in (field_at store k) c) e ∙ ap (λ (o : Option (Held Aim)). distance_in (field_in o) c) h.1) in
    subst (λ (x : Option ℕ). IsWay ways dir ↔ IsLess x (distance_in (field_at store own) cell)) (at w)
    (subst (λ (x : Option ℕ). IsWay ways dir ↔ IsLess (slice_index_or h.0.field.away w None) x) (at cell) (says h.0 h.1 dir w n))

pub goal_there : (store : List (Option (Held Aim))) (own : Option ℕ) (key : ℕ) → own ≡ Some key → IsSome (shown store key) → goal_in (field_at store own) ≡ None → ⊥
goal_there store own key e some none =
    let h = some_of (shown store key) some in
    let at : goal_in (field_at store own) ≡ Some h.0.field.goal = ap (λ (k : Option ℕ). goal_in (field_at store k)) e ∙ ap (λ (o : Option (Held Aim)). goal_in (field_in o)) h.1 in
    cc (at, none)

-- a robot without a key has no distances, so no way leads nearer
pub ways_none : (store : List (Option (Held Aim))) (own : Option ℕ) (m : Floor) (cell : ℕ) → own ≡ None → AreNearer m (distance_in (field_at store own)) cell 0
ways_none store own m cell e dir w n = (
  λ way. (let zero = bit_at-zero (dir_number dir) in cc (zero, way)),
  λ less. absurd (subst (λ (k : Option ℕ). IsLess (distance_in (field_at store k) w) (distance_in (field_at store k) cell)) e less),
)
