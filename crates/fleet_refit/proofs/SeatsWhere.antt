-- Where each robot is found once those that move have become others.
use Rattle.std.proofs.Common.{◌≡◌, ◌∙◌, ◌+◌, ◌⊎◌, ℕ, zero, suc, List, [], ◌∷◌, Some, Bool, true, false, ap, arith, inl, inr, refl, subst, sym, length}
use Rattle.std.specs.Prelude.{slice_get, slice_index, slice_set, if◌then◌else◌}
use Rattle.std.proofs.lemmas.Bool.{cases_Bool, cases_eq}
use Rattle.std.proofs.lemmas.List.{get_or-set_other}
use Rattle.fleet_grid.specs.Floor.{is_floor_letter}
use Rattle.fleet_history.specs.declared.history.RobotState.{RobotState}
use Rattle.fleet_refit.specs.declared.seat.Seat.{Seat}
use Rattle.fleet_refit.specs.After.{moving_count, seats_after}
use Rattle.fleet_refit.specs.Map.{walled}
use Rattle.fleet_refit.specs.Opening.{numbers_from}
use Rattle.fleet_refit.specs.Site.{is_held, is_moving, moving}
use Rattle.fleet_refit.proofs.SeatsAfter.{count-false, count-true, moving-on, none-moves, numbers-false, numbers-true, other-on}

-- ---- robots

-- a seat that has a robot of the others, under its number
pub record IsNew {A : Type 0} (first : ℕ) (seats : List (Seat A)) (robots : List (RobotState A)) (r : ℕ) (y : Seat A) : Type 0 where
  pub index : ℕ
  pub robot : RobotState A
  pub at : slice_get robots index ≡ Some robot
  pub number : slice_get (numbers_from first seats) index ≡ Some (first + r)
  pub is : y ≡ moving robot

-- a seat that is as it was
pub record IsOld {A : Type 0} (seats : List (Seat A)) (r : ℕ) (y : Seat A) : Type 0 where
  pub was : slice_get seats r ≡ Some y
  pub stays : is_moving y.standing ≡ false

new-later : {A : Type 0} (first : ℕ) (x : Seat A) (xs : List (Seat A)) (z : RobotState A) (zs : List (RobotState A)) (r : ℕ) (y : Seat A) → is_moving x.standing ≡ true → IsNew (first + 1) xs zs r y →
    IsNew first (x ∷ xs) (z ∷ zs) (suc r) y
new-later first x xs z zs r y e new = record {
  index = suc new.index;
  robot = new.robot;
  at = new.at;
  number = ap (λ l. slice_get l (suc new.index)) (numbers-true first x xs e) ∙ new.number ∙ ap Some (omega arith);
  is = new.is;
}

new-past : {A : Type 0} (first : ℕ) (x : Seat A) (xs : List (Seat A)) (zs : List (RobotState A)) (r : ℕ) (y : Seat A) → is_moving x.standing ≡ false → IsNew (first + 1) xs zs r y →
    IsNew first (x ∷ xs) zs (suc r) y
new-past first x xs zs r y e new = record {
  index = new.index;
  robot = new.robot;
  at = new.at;
  number = ap (λ l. slice_get l new.index) (numbers-false first x xs e) ∙ new.number ∙ ap Some (omega arith);
  is = new.is;
}

old-later : {A : Type 0} (x : Seat A) (xs : List (Seat A)) (r : ℕ) (y : Seat A) → IsOld xs r y → IsOld (x ∷ xs) (suc r) y
old-later x xs r y old = record { was = old.was; stays = old.stays }

pub after-at : {A : Type 0} (first : ℕ) (seats : List (Seat A)) (robots : List (RobotState A)) (r : ℕ) (y : Seat A) → moving_count seats ≡ length robots → slice_get (seats_after seats robots) r ≡ Some y →
    IsNew first seats robots r y ⊎ IsOld seats r y
after-at first [] robots r y many at = cc
after-at first (x ∷ xs) [] r y many at = inr (record { was = at; stays = none-moves (x ∷ xs) r y many at })
after-at {A} first (x ∷ xs) (z ∷ zs) zero y many at = elim (cases_Bool (is_moving x.standing)) [
  | inl e ↦
      let there : Some (moving z) ≡ Some y = subst (λ (l : List (Seat A)). slice_get l 0 ≡ Some y) (moving-on x xs z zs e) at in
      let same : moving z ≡ y = cc in
      inl (record { index = 0; robot = z; at = refl; number = ap (λ l. slice_get l 0) (numbers-true first x xs e) ∙ ap Some (omega arith); is = sym same })
  | inr e ↦
      let there : Some x ≡ Some y = subst (λ (l : List (Seat A)). slice_get l 0 ≡ Some y) (other-on x xs (z ∷ zs) e) at in
      let same : x ≡ y = cc in
      inr (record { was = there; stays = ap (λ (w : Seat A). is_moving w.standing) (sym same) ∙ e })
]
after-at {A} first (x ∷ xs) (z ∷ zs) (suc r) y many at = elim (cases_Bool (is_moving x.standing)) [
  | inl e ↦
      let there : slice_get (seats_after xs zs) r ≡ Some y = subst (λ (l : List (Seat A)). slice_get l (suc r) ≡ Some y) (moving-on x xs z zs e) at in
      let fewer : moving_count xs ≡ length zs = let n = count-true x xs e in omega (arith, many, n) in
      elim (after-at (first + 1) xs zs r y fewer there) [ inl new ↦ inl (new-later first x xs z zs r y e new) | inr old ↦ inr (old-later x xs r y old) ]
  | inr e ↦
      let there : slice_get (seats_after xs (z ∷ zs)) r ≡ Some y = subst (λ (l : List (Seat A)). slice_get l (suc r) ≡ Some y) (other-on x xs (z ∷ zs) e) at in
      elim (after-at (first + 1) xs (z ∷ zs) r y (sym (count-false x xs e) ∙ many) there) [ inl new ↦ inl (new-past first x xs (z ∷ zs) r y e new) | inr old ↦ inr (old-later x xs r y old) ]
]

-- the robot of each number that moves
pub at-number : {A : Type 0} (first : ℕ) (seats : List (Seat A)) (robots : List (RobotState A)) (k number : ℕ) (z : RobotState A) → slice_get (numbers_from first seats) k ≡ Some number →
    slice_get robots k ≡ Some z → (r : ℕ) × (number ≡ first + r) × (slice_get (seats_after seats robots) r ≡ Some (moving z))
at-number first [] robots k number z numbered at = cc
at-number first (x ∷ xs) [] k number z numbered at = cc
at-number {A} first (x ∷ xs) (w ∷ ws) zero number z numbered at = elim (cases_Bool (is_moving x.standing)) [
  | inl e ↦
      let there : Some first ≡ Some number = subst (λ l. slice_get l 0 ≡ Some number) (numbers-true first x xs e) numbered in
      let is : first ≡ number = cc in
      let same : w ≡ z = cc in
      (0, omega (arith, is), ap (λ (l : List (Seat A)). slice_get l 0) (moving-on x xs w ws e) ∙ ap (λ (v : RobotState A). Some (moving v)) same)
  | inr e ↦
      let (r, is, there) = at-number (first + 1) xs (w ∷ ws) zero number z (subst (λ l. slice_get l 0 ≡ Some number) (numbers-false first x xs e) numbered) at in
      (suc r, omega (arith, is), ap (λ (l : List (Seat A)). slice_get l (suc r)) (other-on x xs (w ∷ ws) e) ∙ there)
]
at-number {A} first (x ∷ xs) (w ∷ ws) (suc k) number z numbered at = elim (cases_Bool (is_moving x.standing)) [
  | inl e ↦
      let (r, is, there) = at-number (first + 1) xs ws k number z (subst (λ l. slice_get l (suc k) ≡ Some number) (numbers-true first x xs e) numbered) at in
      (suc r, omega (arith, is), ap (λ (l : List (Seat A)). slice_get l (suc r)) (moving-on x xs w ws e) ∙ there)
  | inr e ↦
      let (r, is, there) = at-number (first + 1) xs (w ∷ ws) (suc k) number z (subst (λ l. slice_get l (suc k) ≡ Some number) (numbers-false first x xs e) numbered) at in
      (suc r, omega (arith, is), ap (λ (l : List (Seat A)). slice_get l (suc r)) (other-on x xs (w ∷ ws) e) ∙ there)
]

-- the others are as they were
pub at-other : {A : Type 0} (seats : List (Seat A)) (robots : List (RobotState A)) (r : ℕ) (y : Seat A) → slice_get seats r ≡ Some y → is_moving y.standing ≡ false → slice_get (seats_after seats robots) r ≡ Some y
at-other [] robots r y was stays = cc
at-other (x ∷ xs) [] r y was stays = was
at-other {A} (x ∷ xs) (z ∷ zs) zero y was stays =
    let same : x ≡ y = cc in
    ap (λ (l : List (Seat A)). slice_get l 0) (other-on x xs (z ∷ zs) (ap (λ (w : Seat A). is_moving w.standing) same ∙ stays)) ∙ ap Some same
at-other {A} (x ∷ xs) (z ∷ zs) (suc r) y was stays = elim (cases_Bool (is_moving x.standing)) [
  | inl e ↦ ap (λ (l : List (Seat A)). slice_get l (suc r)) (moving-on x xs z zs e) ∙ at-other xs zs r y was stays
  | inr e ↦ ap (λ (l : List (Seat A)). slice_get l (suc r)) (other-on x xs (z ∷ zs) e) ∙ at-other xs (z ∷ zs) r y was stays
]

-- ---- walls

wall-there : (letters : List ℕ) (cell : ℕ) → is_floor_letter (slice_index (slice_set letters cell 64) cell) ≡ false
wall-there [] cell = refl
wall-there (l ∷ letters) zero = refl
wall-there (l ∷ letters) (suc cell) = wall-there letters cell

one-less : (b : Bool) (letters : List ℕ) (cell c : ℕ) → is_floor_letter (slice_index (if b then slice_set letters cell 64 else letters) c) ≡ true → is_floor_letter (slice_index letters c) ≡ true
one-less true letters cell c floor = elim (cases_eq c cell) [
  | inl same ↦ absurd (let z : true ≡ false = sym floor ∙ ap (λ n. is_floor_letter (slice_index (slice_set letters cell 64) n)) same ∙ wall-there letters cell in cc)
  | inr apart ↦ subst (λ l. is_floor_letter l ≡ true) (get_or-set_other letters cell c 64 0 apart) floor
]
one-less false letters cell c floor = floor

-- what is floor among robots that are held is floor
pub floor-below : {A : Type 0} (letters : List ℕ) (seats : List (Seat A)) (c : ℕ) → is_floor_letter (slice_index (walled letters seats) c) ≡ true → is_floor_letter (slice_index letters c) ≡ true
floor-below letters [] c floor = floor
floor-below letters (x ∷ xs) c floor =
    one-less (is_held x.standing) letters x.robot.cell c (floor-below (if is_held x.standing then slice_set letters x.robot.cell 64 else letters) xs c floor)

-- and no robot that is held stands there
pub floor-apart : {A : Type 0} (letters : List ℕ) (seats : List (Seat A)) (r : ℕ) (x : Seat A) → slice_get seats r ≡ Some x → is_held x.standing ≡ true →
    is_floor_letter (slice_index (walled letters seats) x.robot.cell) ≡ true → ⊥
floor-apart letters [] r x at held floor = cc
floor-apart {A} letters (y ∷ ys) zero x at held floor =
    let same : y ≡ x = cc in
    let below : is_floor_letter (slice_index (if is_held y.standing then slice_set letters y.robot.cell 64 else letters) x.robot.cell) ≡ true =
    floor-below (if is_held y.standing then slice_set letters y.robot.cell 64 else letters) ys x.robot.cell floor in
    let wall : is_floor_letter (slice_index (if is_held y.standing then slice_set letters y.robot.cell 64 else letters) x.robot.cell) ≡ false =
    ap (λ (w : Seat A). is_floor_letter (slice_index (if is_held w.standing then slice_set letters w.robot.cell 64 else letters) x.robot.cell)) same
    ∙ ap (λ b. is_floor_letter (slice_index (if b then slice_set letters x.robot.cell 64 else letters) x.robot.cell)) held ∙ wall-there letters x.robot.cell in
    let z : true ≡ false = sym below ∙ wall in cc
floor-apart letters (y ∷ ys) (suc r) x at held floor = floor-apart (if is_held y.standing then slice_set letters y.robot.cell 64 else letters) ys r x at held floor
