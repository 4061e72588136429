-- One change keeps a site in order, and loses no errand unlisted.
use Rattle.std.proofs.Common.{◌≡◌, ◌∙◌, ◌+◌, ◌<◌, ◌≤◌, ◌⊎◌, ℕ, zero, suc, List, [], ◌∷◌, ◌++◌, Option, Some, None, Bool, true, false, not, ap, arith, inl, inr, refl, subst, sym, length, eqb, length-append}
use Rattle.std.specs.Prelude.{map, count_by, slice_get, slice_index_or, slice_set, nat_lt, ◌==◌}
use Rattle.std.specs.List.{position}
use Rattle.std.proofs.lemmas.Bool.{cases_lt, cases_Bool, eqb-true, le-ltb, lt-ltb, or_parts}
use Rattle.std.proofs.lemmas.List.Elements.{All-nil}
use Rattle.std.proofs.lemmas.List.Sums.{sum_by-cons}
use Rattle.fleet_grid.specs.Floor.{Floor, IsFloor, is_floor}
use Rattle.fleet_hooks.specs.declared.law.StampLaw.{StampLaw}
use Rattle.fleet_queue.specs.declared.errand.Errand.{Errand}
use Rattle.fleet_history.specs.declared.history.ClientState.{ClientState}
use Rattle.fleet_history.specs.declared.history.RobotState.{RobotState}
use Rattle.fleet_history.specs.History.{unknown_client}
use Rattle.fleet_refit.specs.declared.change.Change.{Change}
use Rattle.fleet_refit.specs.declared.change.Change.TheVariants as change
use Rattle.fleet_refit.specs.declared.change.ChangeFault.{ChangeFault}
use Rattle.fleet_refit.specs.declared.change.Dropped.{Dropped}
use Rattle.fleet_refit.specs.declared.seat.Seat.{Seat}
use Rattle.fleet_refit.specs.declared.seat.Standing.{Standing}
use Rattle.fleet_refit.specs.declared.seat.Standing.TheVariants as standing
use Rattle.fleet_refit.specs.Account.{AreSome}
use Rattle.fleet_refit.specs.Changed.{Changes, ComesTo, IsOther, Leaves, Replaces, Stands, newcomer}
use Rattle.fleet_refit.specs.Fault.{fault_if, fault_of, floor_fault, free_fault, hold_fault, is_void, or_fault, seat_fault, standing_fault, stands_on, taken_fault}
use Rattle.fleet_refit.specs.InOrder.{AreStanding, IsKnown, IsSiteInOrder, errands_of}
use Rattle.fleet_refit.specs.Map.{with_letter}
use Rattle.fleet_refit.specs.Site.{SiteView, is_gone, moving, with_map, with_seats}
use Rattle.fleet_refit.proofs.Counting.{nth, owing}
use Rattle.fleet_refit.proofs.Losing.{LosesAs, LosesThere, come-as, cut-there, leave-there, loses-nothing, stand-there, stays-there}
use Rattle.fleet_refit.proofs.Ordered.{Follows, follows-in_order, follows-steps, follows-there, in_order-there}
use Rattle.fleet_refit.proofs.Shorter.{some-all}
use Rattle.fleet_refit.proofs.Places.{free, free-for, get-push, standing-letter, standing-more, standing-moved, wall-free}
use Rattle.fleet_refit.proofs.Steps.{Steps, steps-length, steps-set}

-- ---- no fault

or-none : (a b : Option ChangeFault) → or_fault a b ≡ None → (a ≡ None) × (b ≡ None)
or-none None b e = (refl, e)
or-none (Some f) b e = cc

if-none : (b : Bool) (f : ChangeFault) (more : Option ChangeFault) → fault_if b f more ≡ None → (b ≡ false) × (more ≡ None)
if-none true f more e = cc
if-none false f more e = (refl, e)

taken-none : (o : Option ℕ) → taken_fault None o ≡ None → o ≡ None
taken-none None e = refl
taken-none (Some q) e = cc

taken-me : (me : ℕ) (o : Option ℕ) → taken_fault (Some me) o ≡ None → (o ≡ None) ⊎ (o ≡ Some me)
taken-me me None e = inl refl
taken-me me (Some q) e = elim (cases_Bool (eqb q me)) [ inl t ↦ inr (ap Some (eqb-true q me t)) | inr t ↦ cc ]

negated : (b : Bool) → not b ≡ false → b ≡ true
negated true e = refl
negated false e = sym e

-- a cell without fault is floor
floor-cell : {A : Type 0} (s : SiteView A) (mine : Option ℕ) (cell : ℕ) → floor_fault s mine cell ≡ None → IsFloor s.map cell × (taken_fault mine (position (stands_on cell) s.seats) ≡ None)
floor-cell s mine cell none =
    let inside = if-none _ _ _ none in
    let floor = if-none _ _ _ inside.1 in
    (negated (is_floor s.map cell) floor.0, floor.1)

here-standing : (k : Standing) → standing_fault k ≡ None → is_gone k ≡ false
here-standing standing.Moving e = refl
here-standing standing.Held e = refl
here-standing standing.Gone e = cc

here-hold : (k : Standing) → hold_fault k ≡ None → is_gone k ≡ false
here-hold standing.Moving e = refl
here-hold standing.Held e = refl
here-hold standing.Gone e = cc

here-free : (k : Standing) → free_fault k ≡ None → is_gone k ≡ false
here-free standing.Moving e = refl
here-free standing.Held e = refl
here-free standing.Gone e = cc

lawful : (l : StampLaw) → is_void l ≡ false → l.low ≤ l.high
lawful l e = elim (cases_lt l.high l.low) [ inl less ↦ absurd (let z : true ≡ false = sym (lt-ltb l.high l.low less) ∙ e in cc) | inr le ↦ le ]

-- ---- what a change comes to

-- nothing else of the site changes, and it stays in order
abbrev pub Goes : {A : Type 0} → SiteView A → SiteView A → List Dropped → Type 0
Goes s t out = Follows s t out × (IsSiteInOrder s → IsSiteInOrder t)

abbrev goes-as : {A : Type 0} (s t u : SiteView A) (out none : List Dropped) → t ≡ u → out ≡ none → Goes s u none → Goes s t out
goes-as {A} s t u out none is nothing goes = subst (λ (v : SiteView A). Goes s v out) (sym is) (subst (λ l. Goes s u l) (sym nothing) goes)

-- the map alone changes
follows-map : {A : Type 0} (s : SiteView A) (m : Floor) → Follows s (with_map s m) []
follows-map s m = record {
  accounted = record {
    clients = refl;
    order = λ r. some-all (errands_of s r);
    each = λ r test. omega arith;
    owed = λ c. omega arith;
  };
  tick = refl;
  queue = refl;
  life = refl;
  robots = λ tick queue clients known. known;
}

goes-map : {A : Type 0} (s : SiteView A) (m : Floor) → (AreStanding s.map s.seats → AreStanding m s.seats) → Goes s (with_map s m) []
goes-map s m stand = (follows-map s m, λ is. follows-in_order s (with_map s m) [] (follows-map s m) is.few_robots (stand is.standing) is)

-- one robot becomes another, and stands where it stood or is taken away
goes-one : {A : Type 0} (Becomes : Seat A → Seat A → Type 0) (s t : SiteView A) (robot : ℕ) (out : List Dropped) → Replaces Becomes s robot t →
    ((x y : Seat A) → slice_get s.seats robot ≡ Some x → Becomes x y → LosesThere robot x y out) → Goes s t out
goes-one {A} Becomes s t robot out one so =
    let steps : Steps LosesThere 0 s.seats (slice_set s.seats robot one.new) out = steps-set stays-there 0 s.seats robot one.old one.new out one.was
    (subst (λ k. LosesThere k one.old one.new out) (omega arith) (so one.old one.new one.was one.becomes)) in
    goes-as s t (with_seats s (slice_set s.seats robot one.new)) out out one.is refl (follows-there s (slice_set s.seats robot one.new) out steps, in_order-there s (slice_set s.seats robot one.new) out steps)

-- a robot is carried
goes-carried : {A : Type 0} (s t : SiteView A) (robot cell : ℕ) → IsFloor s.map cell → (position (stands_on cell) s.seats ≡ None) ⊎ (position (stands_on cell) s.seats ≡ Some robot) →
    Replaces (ComesTo cell) s robot t → Goes s t []
goes-carried {A} s t robot cell floor first one =
    let ys = slice_set s.seats robot one.new in
    let at : one.new.robot.cell ≡ cell = ap (λ z. z.robot.cell) one.becomes in
    let steps : Steps LosesAs 0 s.seats ys [] = steps-set (λ n x. loses-nothing n x.robot) 0 s.seats robot one.old one.new [] one.was
    (subst (λ k. LosesAs k one.old one.new []) (omega arith) (come-as cell robot one.old one.new one.becomes)) in
    let follows = follows-steps s ys [] steps in
    goes-as s t (with_seats s ys) [] [] one.is refl (
      follows,
      λ is. follows-in_order s (with_seats s ys) [] follows (omega (arith, steps-length 0 s.seats ys [] steps, is.few_robots))
          (standing-moved s.map s.seats robot one.new (subst (λ c. (r : ℕ) (x : Seat A) → slice_get s.seats r ≡ Some x → is_gone x.standing ≡ false → x.robot.cell ≡ c → r ≡ robot) (sym at)
          (free-for s.map s.seats robot cell is.standing first)) (subst (IsFloor s.map) (sym at) floor) is.standing) is,
    )

-- ---- a robot more

nth-more : {A : Type 0} (xs : List (Seat A)) (x : Seat A) (r : ℕ) → x.robot.errands ≡ [] → nth (xs ++ x ∷ []) r ≡ nth xs r
nth-more [] x zero none = none
nth-more [] x (suc r) none = refl
nth-more (y ∷ xs) x zero none = refl
nth-more (y ∷ xs) x (suc r) none = nth-more xs x r none

owing-more : {A : Type 0} (xs : List (Seat A)) (x : Seat A) (c : ℕ) → x.robot.errands ≡ [] → owing (xs ++ x ∷ []) c ≡ owing xs c
owing-more {A} [] x c none =
    let of : RobotState A → ℕ = λ z. count_by (λ e. e.client == c) z.errands in
    sum_by-cons of x.robot [] ∙ ap (λ l. count_by (λ (e : Errand). e.client == c) l + 0) none
owing-more {A} (y ∷ xs) x c none =
    let of : RobotState A → ℕ = λ z. count_by (λ e. e.client == c) z.errands in
    sum_by-cons of y.robot (map (λ z. z.robot) (xs ++ x ∷ [])) ∙ ap (λ n. of y.robot + n) (owing-more xs x c none) ∙ sym (sum_by-cons of y.robot (map (λ z. z.robot) xs))

known-new : {A : Type 0} (tick queue : ℕ) (clients : List ClientState) (cell : ℕ) (arrivals farewells : StampLaw) → is_void arrivals ≡ false → is_void farewells ≡ false →
    IsKnown {A = A} tick queue clients (newcomer cell arrivals farewells)
known-new tick queue clients cell arrivals farewells a f = record {
  arrival_law = lawful arrivals a;
  farewell_law = lawful farewells f;
  waits = refl;
  not_longer = λ w e. cc;
  room = omega arith;
  known = All-nil (λ (e : Errand). e.client < length clients);
  numbered = All-nil (λ (e : Errand). (1 ≤ e.number) × (e.number ≤ (slice_index_or clients e.client unknown_client).accepted));
}

goes-more : {A : Type 0} (s : SiteView A) (cell : ℕ) (arrivals farewells : StampLaw) → IsFloor s.map cell → position (stands_on cell) s.seats ≡ None → length s.seats < 512 →
    is_void arrivals ≡ false → is_void farewells ≡ false → Goes s (with_seats s (s.seats ++ moving (newcomer cell arrivals farewells) ∷ [])) []
goes-more {A} s cell arrivals farewells floor nobody few a f =
    let new : Seat A = moving (newcomer cell arrivals farewells) in
    let follows : Follows s (with_seats s (s.seats ++ new ∷ [])) [] = record {
      accounted = record {
        clients = refl;
        order = λ r. subst (λ l. AreSome l (nth s.seats r)) (sym (nth-more s.seats new r refl)) (some-all (nth s.seats r));
        each = λ r test. omega (arith, ap (count_by test) (nth-more s.seats new r refl));
        owed = λ c. omega (arith, owing-more s.seats new c refl);
      };
      tick = refl;
      queue = refl;
      life = refl;
      robots = λ tick queue clients known r y at. elim (get-push s.seats r new y at) [
        | inl p ↦ subst (λ (z : Seat A). IsKnown tick queue clients z.robot) (sym p.1) (known-new tick queue clients cell arrivals farewells a f)
        | inr was ↦ known r y was
      ];
    } in (
      follows,
      λ is. follows-in_order s (with_seats s (s.seats ++ new ∷ [])) [] follows (omega (arith, length-append s.seats (new ∷ []), few)) (standing-more s.map s.seats new (free s.seats cell nobody) floor is.standing) is,
    )

-- ---- each change

seat-here : {A : Type 0} (of : Standing → Option ChangeFault) (seats : List (Seat A)) (robot : ℕ) (x : Seat A) → seat_fault of (slice_get seats robot) ≡ None → slice_get seats robot ≡ Some x → of x.standing ≡ None
seat-here {A} of seats robot x none at = subst (λ (o : Option (Seat A)). seat_fault of o ≡ None) at none

pub goes-change : {A : Type 0} (s t : SiteView A) (c : Change) (out : List Dropped) → fault_of s c ≡ None → Changes s c t out → Goes s t out
goes-change s t (change.Block cell) out can (is, nothing) =
    let floor = floor-cell s None cell can in
    goes-as s t (with_map s (with_letter s.map cell 64)) out [] is nothing
    (goes-map s (with_letter s.map cell 64) (standing-letter s.map s.seats cell 64 (free s.seats cell (taken-none _ floor.1))))
goes-change s t (change.Open cell) out can (is, nothing) =
    let inside = if-none _ _ _ can in
    let wall = if-none _ _ _ inside.1 in
    goes-as s t (with_map s (with_letter s.map cell 46)) out [] is nothing
    (goes-map s (with_letter s.map cell 46) (λ are. standing-letter s.map s.seats cell 46 (wall-free s.map s.seats cell wall.0 are) are))
goes-change s t (change.Join cell arrivals farewells) out can (is, nothing) =
    let two = or-none _ _ can in
    let floor = floor-cell s None cell two.0 in
    let few = if-none _ _ _ two.1 in
    let laws = if-none _ _ _ few.1 in
    let both = or_parts (is_void arrivals) (is_void farewells) laws.0 in
    goes-as s t (with_seats s (s.seats ++ moving (newcomer cell arrivals farewells) ∷ [])) out [] is nothing
    (goes-more s cell arrivals farewells floor.0 (taken-none _ floor.1) (below (length s.seats) few.0) both.0 both.1)
  where
    ne_less : (n : ℕ) → 512 ≤ n → nat_lt n 512 ≡ false
    ne_less n g = le-ltb n 512 g

    below : (n : ℕ) → not (nat_lt n 512) ≡ false → n < 512
    below n e = elim (cases_lt n 512) [ inl l ↦ l | inr g ↦ let z : true ≡ false = ap not (sym (ne_less n g)) ∙ e in cc ]
goes-change s t (change.Leave robot) out can one = goes-one (Leaves robot out) s t robot out one (λ x y at is. leave-there robot out x y is)
goes-change s t (change.Hold robot) out can (one, nothing) =
    goes-as s t t out [] refl nothing
    (goes-one (Stands standing.Held) s t robot [] one (λ x y at is. stand-there standing.Held robot x y (here-hold x.standing (seat-here hold_fault s.seats robot x can at)) is))
goes-change s t (change.Free robot) out can (one, nothing) =
    goes-as s t t out [] refl nothing
    (goes-one (Stands standing.Moving) s t robot [] one (λ x y at is. stand-there standing.Moving robot x y (here-free x.standing (seat-here free_fault s.seats robot x can at)) is))
goes-change s t (change.Move robot cell) out can (one, nothing) =
    let two = or-none _ _ can in
    let floor = floor-cell s (Some robot) cell two.1 in
    goes-as s t t out [] refl nothing (goes-carried s t robot cell floor.0 (taken-me robot _ floor.1) one)
goes-change s t (change.Cancel client number) out can one = goes-one _ s t one.robot out one.cut (λ x y at is. cut-there (IsOther client number) one.robot out x y is)
