-- The robots of an opening, and the seats that they come from.
use Rattle.std.proofs.Common.{◌≡◌, ◌≢◌, ◌∙◌, ◌+◌, ◌<◌, ◌≤◌, ℕ, zero, suc, List, [], ◌∷◌, Some, Bool, true, false, ap, arith, inl, inr, refl, subst, sym, length, cond, get_or}
use Rattle.std.specs.Prelude.{map, filter, count_by, sum_by, slice_get, slice_index, slice_set, ◌==◌, if◌then◌else◌}
use Rattle.std.proofs.lemmas.Bool.{cases_Bool, cases_lt}
use Rattle.std.proofs.lemmas.List.{get_or-map, get_or-set_other, get_or_past, length-map}
use Rattle.std.proofs.lemmas.List.Sums.{sum_by-cons}
use Rattle.std.proofs.lemmas.Option.{slice_get-get_or}
use Rattle.fleet_queue.specs.declared.errand.Errand.{Errand}
use Rattle.fleet_history.specs.declared.history.Opening.{Opening}
use Rattle.fleet_history.specs.declared.history.RobotState.{RobotState}
use Rattle.fleet_history.specs.History.{errands_at}
use Rattle.fleet_history.proofs.Legal.{unknown_robot}
use Rattle.fleet_refit.specs.declared.seat.Seat.{Seat}
use Rattle.fleet_refit.specs.Map.{walled}
use Rattle.fleet_refit.specs.Opening.{moving_robots, numbers_from}
use Rattle.fleet_refit.specs.Site.{is_held, is_moving}
use Rattle.fleet_refit.proofs.Counting.{nth, owing}

-- ---- where a robot comes from

-- a seat whose robot it is, and which moves
pub record Origin {A : Type 0} (seats : List (Seat A)) (z : RobotState A) : Type 0 where
  pub number : ℕ
  pub seat : Seat A
  pub at : slice_get seats number ≡ Some seat
  pub moves : is_moving seat.standing ≡ true
  pub robot : seat.robot ≡ z

abbrev pub after-one : {A : Type 0} (seats : List (Seat A)) (x : Seat A) (z : RobotState A) → Origin seats z → Origin (x ∷ seats) z
after-one seats x z from = record { number = suc from.number; seat = from.seat; at = from.at; moves = from.moves; robot = from.robot }

-- the robots that move where the first is this seat's, and is known to move or not
abbrev pub movers_if : {A : Type 0} → Bool → Seat A → List (Seat A) → List (RobotState A)
movers_if b x seats = map (λ y. y.robot) (cond b (x ∷ filter (λ y. is_moving y.standing) seats) (filter (λ y. is_moving y.standing) seats))

origin-if : {A : Type 0} (x : Seat A) (seats : List (Seat A)) (z : RobotState A) → ((k : ℕ) → slice_get (moving_robots seats) k ≡ Some z → Origin seats z) → (b : Bool) → is_moving x.standing ≡ b →
    (k : ℕ) → slice_get (movers_if b x seats) k ≡ Some z → Origin (x ∷ seats) z
origin-if x seats z rest true moves zero e = let same : x.robot ≡ z = cc in record { number = 0; seat = x; at = refl; moves = moves; robot = same }
origin-if x seats z rest true moves (suc k) e = after-one seats x z (rest k e)
origin-if x seats z rest false moves k e = after-one seats x z (rest k e)

pub origin : {A : Type 0} (seats : List (Seat A)) (k : ℕ) (z : RobotState A) → slice_get (moving_robots seats) k ≡ Some z → Origin seats z
origin [] k z e = cc
origin (x ∷ seats) k z e = origin-if x seats z (λ l f. origin seats l z f) (is_moving x.standing) refl k e

-- two robots come from two seats, in order
pub record Origins {A : Type 0} (seats : List (Seat A)) (z w : RobotState A) : Type 0 where
  pub one : Origin seats z
  pub two : Origin seats w
  pub order : one.number < two.number

after-two : {A : Type 0} (seats : List (Seat A)) (x : Seat A) (z w : RobotState A) → Origins seats z w → Origins (x ∷ seats) z w
after-two seats x z w from = record { one = after-one seats x z from.one; two = after-one seats x w from.two; order = omega (arith, from.order) }

origins-if : {A : Type 0} (x : Seat A) (seats : List (Seat A)) (z w : RobotState A) →
    ((k l : ℕ) → k < l → slice_get (moving_robots seats) k ≡ Some z → slice_get (moving_robots seats) l ≡ Some w → Origins seats z w) → (b : Bool) → is_moving x.standing ≡ b →
    (k l : ℕ) → k < l → slice_get (movers_if b x seats) k ≡ Some z → slice_get (movers_if b x seats) l ≡ Some w → Origins (x ∷ seats) z w
origins-if x seats z w rest true moves k zero less e f = absurd (omega (arith, less))
origins-if x seats z w rest true moves zero (suc l) less e f =
    let same : x.robot ≡ z = cc in
    record { one = record { number = 0; seat = x; at = refl; moves = moves; robot = same }; two = after-one seats x w (origin seats l w f); order = omega arith }
origins-if x seats z w rest true moves (suc k) (suc l) less e f = after-two seats x z w (rest k l (omega (arith, less)) e f)
origins-if x seats z w rest false moves k l less e f = after-two seats x z w (rest k l less e f)

pub origins : {A : Type 0} (seats : List (Seat A)) (k l : ℕ) (z w : RobotState A) → k < l → slice_get (moving_robots seats) k ≡ Some z → slice_get (moving_robots seats) l ≡ Some w → Origins seats z w
origins [] k l z w less e f = cc
origins (x ∷ seats) k l z w less e f = origins-if x seats z w (λ i j p q t. origins seats i j z w p q t) (is_moving x.standing) refl k l less e f

-- ---- how many they are

pub movers-few : {A : Type 0} (seats : List (Seat A)) → length (moving_robots seats) ≤ length seats
movers-few [] = omega arith
movers-few (x ∷ seats) =
    let rest = movers-few seats in
    elim (cases_Bool (is_moving x.standing)) [ inl e ↦ rw (e) (omega (arith, rest)) | inr e ↦ rw (e) (omega (arith, rest)) ]

pub movers-numbers : {A : Type 0} (first : ℕ) (seats : List (Seat A)) → length (numbers_from first seats) ≡ length (moving_robots seats)
movers-numbers first [] = refl
movers-numbers first (x ∷ seats) =
    let rest = movers-numbers (first + 1) seats in
    elim (cases_Bool (is_moving x.standing)) [ inl e ↦ rw (e) (omega (arith, rest)) | inr e ↦ rw (e) rest ]

-- they have no more errands of a client than all have
pub movers-owe : {A : Type 0} (seats : List (Seat A)) (c : ℕ) → sum_by (λ x. count_by (λ e. e.client == c) x.errands) (moving_robots seats) ≤ owing seats c
movers-owe [] c = omega arith
movers-owe {A} (x ∷ seats) c =
    let of : RobotState A → ℕ = λ z. count_by (λ e. e.client == c) z.errands in
    let rest = movers-owe seats c in
    let all = sum_by-cons of x.robot (map (λ (y : Seat A). y.robot) seats) in
    elim (cases_Bool (is_moving x.standing)) [
      | inl e ↦ rw (e) (omega (arith, rest, all, sum_by-cons of x.robot (moving_robots seats)))
      | inr e ↦ rw (e) (omega (arith, rest, all))
    ]

-- ---- their errands

pub seat-errands : {A : Type 0} (seats : List (Seat A)) (r : ℕ) (x : Seat A) → slice_get seats r ≡ Some x → nth seats r ≡ x.robot.errands
seat-errands [] r x at = cc
seat-errands {A} (y ∷ seats) zero x at = let same : y ≡ x = cc in ap (λ (z : Seat A). z.robot.errands) same
seat-errands (y ∷ seats) (suc r) x at = seat-errands seats r x at

-- where a robot of an opening has any errands, it is there
pub robot-errands : {A : Type 0} (o : Opening A) (k i : ℕ) (e : Errand) → slice_get (errands_at o k) i ≡ Some e → (z : RobotState A) × (slice_get o.robots k ≡ Some z) × (slice_get z.errands i ≡ Some e)
robot-errands {A} o k i e at = elim (cases_lt k (length o.robots)) [
  | inl inside ↦ (
    get_or o.robots k unknown_robot,
    slice_get-get_or o.robots k unknown_robot inside,
    subst (λ l. slice_get l i ≡ Some e) (get_or-map (λ (x : RobotState A). x.errands) o.robots k unknown_robot [] inside) at,
  )
  | inr past ↦ absurd (
      let none : errands_at o k ≡ [] = get_or_past (map (λ (x : RobotState A). x.errands) o.robots) k [] (omega (arith, past, length-map o.robots (λ (x : RobotState A). x.errands))) in
      let q : slice_get {X = Errand} [] i ≡ Some e = subst (λ l. slice_get l i ≡ Some e) none at in cc)
]

-- ---- walls

one-wall : (b : Bool) (letters : List ℕ) (cell c : ℕ) → (b ≡ true → cell ≢ c) → slice_index (if b then slice_set letters cell 64 else letters) c ≡ slice_index letters c
one-wall true letters cell c apart = get_or-set_other letters cell c 64 0 (λ e. apart refl (sym e))
one-wall false letters cell c apart = refl

-- where no robot is held, no letter changes
pub walled-elsewhere : {A : Type 0} (letters : List ℕ) (seats : List (Seat A)) (c : ℕ) → ((r : ℕ) (x : Seat A) → slice_get seats r ≡ Some x → is_held x.standing ≡ true → x.robot.cell ≢ c) →
    slice_index (walled letters seats) c ≡ slice_index letters c
walled-elsewhere letters [] c apart = refl
walled-elsewhere letters (x ∷ seats) c apart =
    walled-elsewhere (if is_held x.standing then slice_set letters x.robot.cell 64 else letters) seats c (λ r y at held. apart (suc r) y at held)
    ∙ one-wall (is_held x.standing) letters x.robot.cell c (λ held. apart 0 x refl held)
