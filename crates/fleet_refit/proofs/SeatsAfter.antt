-- Robots of which those that move become others.
use Rattle.std.proofs.Common.{◌≡◌, ◌∙◌, ◌+◌, ◌<◌, ◌≤◌, ℕ, suc, List, [], ◌∷◌, ◌++◌, Some, true, false, ap, arith, inl, inr, refl, sym, drop, length, cond, get_or, zero-add}
use Rattle.std.specs.Prelude.{map, count_by, sum_by, slice_get, slice_set, ◌==◌, if◌then◌else◌}
use Rattle.std.proofs.lemmas.Bool.{cases_Bool}
use Rattle.std.proofs.lemmas.List.{append-nil, append_assoc, drop_more, drop_all}
use Rattle.std.proofs.lemmas.List.Sums.{sum_by-cons}
use Rattle.fleet_history.specs.declared.history.RobotState.{RobotState}
use Rattle.fleet_history.proofs.Sums.{count_at, count_cons}
use Rattle.fleet_refit.specs.declared.seat.Seat.{Seat}
use Rattle.fleet_refit.specs.declared.seat.Standing.{Standing}
use Rattle.fleet_refit.specs.declared.seat.Standing.TheVariants as standing
use Rattle.fleet_refit.specs.After.{moving_count, seats_after}
use Rattle.fleet_refit.specs.Map.{walled}
use Rattle.fleet_refit.specs.Opening.{moving_robots, numbers_from}
use Rattle.fleet_refit.specs.Site.{is_held, is_moving, moving}
use Rattle.fleet_refit.proofs.Counting.{owing}

-- ---- how many move

pub count-true : {A : Type 0} (x : Seat A) (xs : List (Seat A)) → is_moving x.standing ≡ true → moving_count (x ∷ xs) ≡ 1 + moving_count xs
count-true {A} x xs e = count_cons (λ (y : Seat A). is_moving y.standing) x xs ∙ ap (λ b. cond b 1 0 + moving_count xs) e

pub count-false : {A : Type 0} (x : Seat A) (xs : List (Seat A)) → is_moving x.standing ≡ false → moving_count (x ∷ xs) ≡ moving_count xs
count-false {A} x xs e = count_cons (λ (y : Seat A). is_moving y.standing) x xs ∙ ap (λ b. cond b 1 0 + moving_count xs) e ∙ zero-add (moving_count xs)

-- where none is counted, none moves
pub none-moves : {A : Type 0} (seats : List (Seat A)) (r : ℕ) (x : Seat A) → moving_count seats ≡ 0 → slice_get seats r ≡ Some x → is_moving x.standing ≡ false
none-moves {A} seats r x none at = elim (cases_Bool (is_moving x.standing)) [
  | inl e ↦ absurd (let some = count_at (λ (y : Seat A). is_moving y.standing) seats r x at e in omega (arith, none, some))
  | inr e ↦ e
]

-- ---- one robot after another

-- where the loop is: what is left makes the list whole
pub record IsLeft {A : Type 0} (seats : List (Seat A)) (robots : List (RobotState A)) (place next : ℕ) (done : List (Seat A)) : Type 0 where
  pub count : moving_count (drop place seats) + next ≡ length robots
  pub behind : next ≤ place
  pub whole : done ++ seats_after (drop place seats) (drop next robots) ≡ seats_after seats robots

pub left-all : {A : Type 0} (seats : List (Seat A)) (robots : List (RobotState A)) → moving_count seats ≡ length robots → IsLeft seats robots 0 0 []
left-all seats robots many = record { count = omega (arith, many); behind = omega arith; whole = refl }

here : {X : Type 0} (xs : List X) (i : ℕ) (x : X) → i < length xs → x ≡ get_or xs i x → drop i xs ≡ x ∷ drop (i + 1) xs
here xs i x inside at = drop_more xs i x inside ∙ ap (λ y. y ∷ drop (i + 1) xs) (sym at)

pub next-inside : {A : Type 0} (seats : List (Seat A)) (robots : List (RobotState A)) (place next : ℕ) (done : List (Seat A)) (x : Seat A) → IsLeft seats robots place next done → place < length seats →
    x ≡ get_or seats place x → is_moving x.standing ≡ true → next < length robots
next-inside seats robots place next done x left inside at moves =
    omega (arith, left.count, ap moving_count (here seats place x inside at), count-true x (drop (place + 1) seats) moves)

pub moving-on : {A : Type 0} (x : Seat A) (xs : List (Seat A)) (z : RobotState A) (zs : List (RobotState A)) → is_moving x.standing ≡ true → seats_after (x ∷ xs) (z ∷ zs) ≡ moving z ∷ seats_after xs zs
moving-on x xs z zs e = ap (λ b. if b then moving z ∷ seats_after xs zs else x ∷ seats_after xs (z ∷ zs)) e

nothing-on : {A : Type 0} (xs : List (Seat A)) → seats_after xs [] ≡ xs
nothing-on [] = refl
nothing-on (x ∷ xs) = refl

pub other-on : {A : Type 0} (x : Seat A) (xs : List (Seat A)) (zs : List (RobotState A)) → is_moving x.standing ≡ false → seats_after (x ∷ xs) zs ≡ x ∷ seats_after xs zs
other-on x xs [] e = ap (λ l. x ∷ l) (sym (nothing-on xs))
other-on x xs (z ∷ zs) e = ap (λ b. if b then moving z ∷ seats_after xs zs else x ∷ seats_after xs (z ∷ zs)) e

pub left-moving : {A : Type 0} (seats : List (Seat A)) (robots : List (RobotState A)) (place next : ℕ) (done : List (Seat A)) (x : Seat A) (z : RobotState A) → IsLeft seats robots place next done →
    place < length seats → x ≡ get_or seats place x → is_moving x.standing ≡ true → z ≡ get_or robots next z → IsLeft seats robots (place + 1) (next + 1) (done ++ moving z ∷ [])
left-moving seats robots place next done x z left inside at moves from =
    let rest = drop (place + 1) seats in
    let more = here robots next z (next-inside seats robots place next done x left inside at moves) from in
    let step : seats_after (drop place seats) (drop next robots) ≡ moving z ∷ seats_after rest (drop (next + 1) robots) =
    ap (λ l. seats_after l (drop next robots)) (here seats place x inside at) ∙ ap (λ l. seats_after (x ∷ rest) l) more ∙ moving-on x rest z (drop (next + 1) robots) moves in
    record {
      count = omega (arith, left.count, ap moving_count (here seats place x inside at), count-true x rest moves);
      behind = omega (arith, left.behind);
      whole = append_assoc done (moving z ∷ []) (seats_after rest (drop (next + 1) robots)) ∙ ap (λ l. done ++ l) (sym step) ∙ left.whole;
    }

pub left-other : {A : Type 0} (seats : List (Seat A)) (robots : List (RobotState A)) (place next : ℕ) (done : List (Seat A)) (x : Seat A) → IsLeft seats robots place next done →
    place < length seats → x ≡ get_or seats place x → is_moving x.standing ≡ false → IsLeft seats robots (place + 1) next (done ++ x ∷ [])
left-other seats robots place next done x left inside at stays =
    let rest = drop (place + 1) seats in
    let step : seats_after (drop place seats) (drop next robots) ≡ x ∷ seats_after rest (drop next robots) =
    ap (λ l. seats_after l (drop next robots)) (here seats place x inside at) ∙ other-on x rest (drop next robots) stays in
    record {
      count = omega (arith, left.count, ap moving_count (here seats place x inside at), count-false x rest stays);
      behind = omega (arith, left.behind);
      whole = append_assoc done (x ∷ []) (seats_after rest (drop next robots)) ∙ ap (λ l. done ++ l) (sym step) ∙ left.whole;
    }

pub left-none : {A : Type 0} (seats : List (Seat A)) (robots : List (RobotState A)) (place next : ℕ) (done : List (Seat A)) → IsLeft seats robots place next done → length seats ≤ place →
    done ≡ seats_after seats robots
left-none seats robots place next done left past =
    sym (append-nil done) ∙ ap (λ l. done ++ seats_after l (drop next robots)) (sym (drop_all place seats past)) ∙ left.whole

-- ---- what they are then

pub after-length : {A : Type 0} (seats : List (Seat A)) (robots : List (RobotState A)) → length (seats_after seats robots) ≡ length seats
after-length [] robots = refl
after-length (x ∷ xs) [] = refl
after-length (x ∷ xs) (z ∷ zs) = elim (cases_Bool (is_moving x.standing)) [
  | inl e ↦ ap length (moving-on x xs z zs e) ∙ ap suc (after-length xs zs)
  | inr e ↦ ap length (other-on x xs (z ∷ zs) e) ∙ ap suc (after-length xs (z ∷ zs))
]

robots-true : {A : Type 0} (x : Seat A) (xs : List (Seat A)) → is_moving x.standing ≡ true → moving_robots (x ∷ xs) ≡ x.robot ∷ moving_robots xs
robots-true x xs e = rw (e) refl

robots-false : {A : Type 0} (x : Seat A) (xs : List (Seat A)) → is_moving x.standing ≡ false → moving_robots (x ∷ xs) ≡ moving_robots xs
robots-false x xs e = rw (e) refl

pub counted : {A : Type 0} (seats : List (Seat A)) → length (moving_robots seats) ≡ moving_count seats
counted [] = refl
counted (x ∷ xs) = elim (cases_Bool (is_moving x.standing)) [
  | inl e ↦ let all = ap length (robots-true x xs e) in let rest = counted xs in let n = count-true x xs e in omega (arith, all, rest, n)
  | inr e ↦ ap length (robots-false x xs e) ∙ counted xs ∙ sym (count-false x xs e)
]

none-at-all : {X : Type 0} (xs : List X) → length xs ≡ 0 → xs ≡ []
none-at-all [] e = refl
none-at-all (x ∷ xs) e = absurd (omega (arith, e))

-- the robots that move are the others
pub after-robots : {A : Type 0} (seats : List (Seat A)) (robots : List (RobotState A)) → moving_count seats ≡ length robots → moving_robots (seats_after seats robots) ≡ robots
after-robots [] robots many = sym (none-at-all robots (sym many))
after-robots (x ∷ xs) [] many = none-at-all (moving_robots (x ∷ xs)) (counted (x ∷ xs) ∙ many)
after-robots (x ∷ xs) (z ∷ zs) many = elim (cases_Bool (is_moving x.standing)) [
  | inl e ↦ ap moving_robots (moving-on x xs z zs e) ∙ ap (λ l. z ∷ l) (after-robots xs zs (let n = count-true x xs e in omega (arith, many, n)))
  | inr e ↦ ap moving_robots (other-on x xs (z ∷ zs) e) ∙ robots-false x (seats_after xs (z ∷ zs)) e ∙ after-robots xs (z ∷ zs) (sym (count-false x xs e) ∙ many)
]

pub numbers-true : {A : Type 0} (first : ℕ) (x : Seat A) (xs : List (Seat A)) → is_moving x.standing ≡ true → numbers_from first (x ∷ xs) ≡ first ∷ numbers_from (first + 1) xs
numbers-true first x xs e = ap (λ b. if b then first ∷ numbers_from (first + 1) xs else numbers_from (first + 1) xs) e

pub numbers-false : {A : Type 0} (first : ℕ) (x : Seat A) (xs : List (Seat A)) → is_moving x.standing ≡ false → numbers_from first (x ∷ xs) ≡ numbers_from (first + 1) xs
numbers-false first x xs e = ap (λ b. if b then first ∷ numbers_from (first + 1) xs else numbers_from (first + 1) xs) e

-- they have their numbers
pub after-numbers : {A : Type 0} (first : ℕ) (seats : List (Seat A)) (robots : List (RobotState A)) → numbers_from first (seats_after seats robots) ≡ numbers_from first seats
after-numbers first [] robots = refl
after-numbers first (x ∷ xs) [] = refl
after-numbers first (x ∷ xs) (z ∷ zs) = elim (cases_Bool (is_moving x.standing)) [
  | inl e ↦ ap (numbers_from first) (moving-on x xs z zs e) ∙ ap (λ l. first ∷ l) (after-numbers (first + 1) xs zs) ∙ sym (numbers-true first x xs e)
  | inr e ↦ ap (numbers_from first) (other-on x xs (z ∷ zs) e) ∙ numbers-false first x (seats_after xs (z ∷ zs)) e ∙ after-numbers (first + 1) xs (z ∷ zs) ∙ sym (numbers-false first x xs e)
]

not-held : (k : Standing) → is_moving k ≡ true → is_held k ≡ false
not-held standing.Moving e = refl
not-held standing.Held e = cc
not-held standing.Gone e = refl

-- no wall comes or goes
pub after-walls : {A : Type 0} (letters : List ℕ) (seats : List (Seat A)) (robots : List (RobotState A)) → walled letters (seats_after seats robots) ≡ walled letters seats
after-walls letters [] robots = refl
after-walls letters (x ∷ xs) [] = refl
after-walls letters (x ∷ xs) (z ∷ zs) = elim (cases_Bool (is_moving x.standing)) [
  | inl e ↦ ap (walled letters) (moving-on x xs z zs e) ∙ after-walls letters xs zs ∙
      ap (λ b. walled (if b then slice_set letters x.robot.cell 64 else letters) xs) (sym (not-held x.standing e))
  | inr e ↦ ap (walled letters) (other-on x xs (z ∷ zs) e) ∙ after-walls (if is_held x.standing then slice_set letters x.robot.cell 64 else letters) xs (z ∷ zs)
]

-- how many errands of a client they have
pub after-owing : {A : Type 0} (seats : List (Seat A)) (robots : List (RobotState A)) (c : ℕ) → moving_count seats ≡ length robots →
    owing (seats_after seats robots) c + sum_by (λ x. count_by (λ e. e.client == c) x.errands) (moving_robots seats) ≡ owing seats c + sum_by (λ x. count_by (λ e. e.client == c) x.errands) robots
after-owing {A} [] robots c many =
    let none = ap (sum_by (λ (y : RobotState A). count_by (λ e. e.client == c) y.errands)) (none-at-all robots (sym many)) in
    omega (arith, none)
after-owing {A} (x ∷ xs) [] c many =
    ap (λ l. owing (x ∷ xs) c + sum_by (λ (y : RobotState A). count_by (λ e. e.client == c) y.errands) l) (none-at-all (moving_robots (x ∷ xs)) (counted (x ∷ xs) ∙ many))
after-owing {A} (x ∷ xs) (z ∷ zs) c many =
    let of : RobotState A → ℕ = λ y. count_by (λ e. e.client == c) y.errands in
    let old = sum_by-cons of x.robot (map (λ (y : Seat A). y.robot) xs) in
    elim (cases_Bool (is_moving x.standing)) [
      | inl e ↦
          let rest = after-owing xs zs c (let n = count-true x xs e in omega (arith, many, n)) in
          let new : owing (seats_after (x ∷ xs) (z ∷ zs)) c ≡ of z + owing (seats_after xs zs) c =
          ap (λ l. owing l c) (moving-on x xs z zs e) ∙ sum_by-cons of z (map (λ (y : Seat A). y.robot) (seats_after xs zs)) in
          let moved : sum_by of (moving_robots (x ∷ xs)) ≡ of x.robot + sum_by of (moving_robots xs) = ap (sum_by of) (robots-true x xs e) ∙ sum_by-cons of x.robot (moving_robots xs) in
          omega (arith, rest, new, moved, old, sum_by-cons of z zs)
      | inr e ↦
          let rest = after-owing xs (z ∷ zs) c (sym (count-false x xs e) ∙ many) in
          let new : owing (seats_after (x ∷ xs) (z ∷ zs)) c ≡ of x.robot + owing (seats_after xs (z ∷ zs)) c =
          ap (λ l. owing l c) (other-on x xs (z ∷ zs) e) ∙ sum_by-cons of x.robot (map (λ (y : Seat A). y.robot) (seats_after xs (z ∷ zs))) in
          let moved : sum_by of (moving_robots (x ∷ xs)) ≡ sum_by of (moving_robots xs) = ap (sum_by of) (robots-false x xs e) in
          omega (arith, rest, new, moved, old)
    ]
