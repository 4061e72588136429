-- A site in order is in order once its fleet has played a chapter.
use Rattle.std.proofs.Common.{◌≡◌, ◌∙◌, ◌+◌, ◌<◌, ◌≤◌, ◌⊎◌, ℕ, zero, suc, List, [], ◌∷◌, Some, true, false, ap, arith, inl, inr, refl, subst, sym, length, get_or}
use Rattle.std.specs.Prelude.{map, slice_get, slice_index, slice_index_or}
use Rattle.std.proofs.lemmas.Bool.{cases_eq, cases_lt}
use Rattle.std.proofs.lemmas.List.{length-map}
use Rattle.std.proofs.lemmas.Option.{get_or_from_slice_get, slice_get_within}
use Rattle.fleet_grid.specs.Floor.{IsFloor}
use Rattle.fleet_queue.specs.declared.errand.Errand.{Errand}
use Rattle.fleet_history.specs.declared.history.Opening.{Opening}
use Rattle.fleet_history.specs.declared.history.RobotState.{RobotState}
use Rattle.fleet_history.specs.History.{errands_at, unknown_client}
use Rattle.fleet_history.specs.Legal.{AreNamesInOrder, IsClientInOrder, IsInOrder}
use Rattle.fleet_history.proofs.Legal.{unknown_robot}
use Rattle.fleet_refit.specs.declared.seat.Seat.{Seat}
use Rattle.fleet_refit.specs.declared.seat.Standing.{Standing}
use Rattle.fleet_refit.specs.declared.seat.Standing.TheVariants as standing
use Rattle.fleet_refit.specs.After.{IsPlayed, after_site, moving_count, seats_after}
use Rattle.fleet_refit.specs.InOrder.{AreStanding, IsKnown, IsSiteInOrder, errands_of, everyone, open_of}
use Rattle.fleet_refit.specs.Map.{plan_map}
use Rattle.fleet_refit.specs.Opening.{opening_of}
use Rattle.fleet_refit.specs.Site.{SiteView, is_gone, is_held, is_moving}
use Rattle.fleet_refit.proofs.ChapterEnd.{IsLater, played-later}
use Rattle.fleet_refit.proofs.Counting.{nth}
use Rattle.fleet_refit.proofs.First.{cell-placed}
use Rattle.fleet_refit.proofs.Movers.{origin, robot-errands, seat-errands}
use Rattle.fleet_refit.proofs.Places.{same-at}
use Rattle.fleet_refit.proofs.SeatsAfter.{after-length, after-owing, counted}
use Rattle.fleet_refit.proofs.SeatsWhere.{IsNew, IsOld, after-at, floor-apart, floor-below}

-- ---- how robots take part

held-else : (k : Standing) → is_gone k ≡ false → is_moving k ≡ false → is_held k ≡ true
held-else standing.Moving here stays = cc
held-else standing.Held here stays = refl
held-else standing.Gone here stays = cc

-- ---- whose an errand is

seat-of : {A : Type 0} (seats : List (Seat A)) (r i : ℕ) (e : Errand) → slice_get (nth seats r) i ≡ Some e → (x : Seat A) × (slice_get seats r ≡ Some x) × (slice_get x.robot.errands i ≡ Some e)
seat-of [] r i e at = cc
seat-of (x ∷ xs) zero i e at = (x, refl, at)
seat-of (x ∷ xs) (suc r) i e at = seat-of xs r i e at

opening-errands : {A : Type 0} (robots : List (RobotState A)) (k : ℕ) (z : RobotState A) → slice_get robots k ≡ Some z → get_or (map (λ (x : RobotState A). x.errands) robots) k [] ≡ z.errands
opening-errands [] k z at = cc
opening-errands {A} (y ∷ ys) zero z at = let same : y ≡ z = cc in ap (λ (x : RobotState A). x.errands) same
opening-errands (y ∷ ys) (suc k) z at = opening-errands ys k z at

-- ---- what is known of a robot that is as it was

at-most : (a b c : ℕ) → a ≤ b → b ≤ c → a ≤ c
at-most a b c f g = omega (arith, f, g)

known-later : {A : Type 0} (o p : Opening A) (x : RobotState A) → IsLater o p → IsKnown o.tick o.queue o.clients x → IsKnown p.tick p.queue p.clients x
known-later o p x later is = record {
  arrival_law = is.arrival_law;
  farewell_law = is.farewell_law;
  waits = is.waits;
  not_longer = λ w e. omega (arith, is.not_longer w e, later.tick);
  room = omega (arith, is.room, later.queue);
  known = λ k d l. omega (arith, is.known k d l, later.clients);
  numbered = λ k d l. let n = is.numbered k d l in (n.0, at-most _ _ _ n.1 (later.more (get_or x.errands k d).client (is.known k d l)));
}

one-number : (xs : List ℕ) (k l r q : ℕ) → k ≡ l → slice_get xs k ≡ Some (0 + r) → slice_get xs l ≡ Some (0 + q) → r ≡ q
one-number xs k l r q same one two =
    let n : 0 + r ≡ 0 + q = same-at xs k (0 + r) (0 + q) one (subst (λ j. slice_get xs j ≡ Some (0 + q)) (sym same) two) in
    omega (arith, n)

-- what is told of is bounded still, if robots that are as they were have errands too
still-told : (counts counts2 noticed noticed2 all all2 some some2 : ℕ) → noticed + all ≤ counts → noticed2 + some2 + counts ≤ counts2 + (noticed + some) → all2 + some ≡ all + some2 → noticed2 + all2 ≤ counts2
still-told counts counts2 noticed noticed2 all all2 some some2 before told same = omega (arith, before, told, same)

module _ {A : Type 0} (s : SiteView A) (o : Opening A) (is : IsSiteInOrder s) (later : IsLater (opening_of s) o) (on : IsInOrder (plan_map s) o) where
  many : moving_count s.seats ≡ length o.robots
  many = sym (later.robots ∙ counted s.seats)

  found : (r : ℕ) (y : Seat A) → slice_get (seats_after s.seats o.robots) r ≡ Some y → IsNew 0 s.seats o.robots r y ⊎ IsOld s.seats r y
  found r y there = after-at 0 s.seats o.robots r y many there

  -- ---- where robots stand

  cell-of : (k : ℕ) (z : RobotState A) → slice_get o.robots k ≡ Some z → slice_index (map (λ (x : RobotState A). x.cell) o.robots) k ≡ z.cell
  cell-of k z there = cell-placed o.robots k z there

  inside : (k : ℕ) (z : RobotState A) → slice_get o.robots k ≡ Some z → k < length (map (λ (x : RobotState A). x.cell) o.robots)
  inside k z there = let n = length-map o.robots (λ (x : RobotState A). x.cell) in omega (arith, slice_get_within o.robots k z there, n)

  on-plan : (k : ℕ) (z : RobotState A) → slice_get o.robots k ≡ Some z → IsFloor (plan_map s) z.cell
  on-plan k z there = subst (IsFloor (plan_map s)) (cell-of k z there) (on.placed.on_floor k (inside k z there))

  one-cell : (k l : ℕ) (z w : RobotState A) → slice_get o.robots k ≡ Some z → slice_get o.robots l ≡ Some w → z.cell ≡ w.cell → k ≡ l
  one-cell k l z w one two same =
      let cell = cell-of k z one ∙ same ∙ sym (cell-of l w two) in
      elim (cases_eq k l) [
        | inl e ↦ e
        | inr differ ↦ absurd (elim (cases_lt k l) [
          | inl less ↦ on.placed.distinct k l less (inside l w two) cell
          | inr more ↦ on.placed.distinct l k (omega (arith, more, differ)) (inside k z one) (sym cell)
        ])
      ]

  -- no robot that moves comes to the cell of one that is held
  apart-from : (r q : ℕ) (x y : Seat A) → IsNew 0 s.seats o.robots r x → IsOld s.seats q y → is_gone y.standing ≡ false → x.robot.cell ≡ y.robot.cell → ⊥
  apart-from r q x y new old here same =
      let cell : new.robot.cell ≡ y.robot.cell = sym (ap (λ (w : Seat A). w.robot.cell) new.is) ∙ same in
      floor-apart s.map.letters s.seats q y old.was (held-else y.standing here old.stays) (subst (IsFloor (plan_map s)) cell (on-plan new.index new.robot new.at))

  all-standing : AreStanding s.map (seats_after s.seats o.robots)
  all-standing = record {
    on_floor = λ r y there here. elim (found r y there) [
      | inl new ↦ subst (λ (w : Seat A). IsFloor s.map w.robot.cell) (sym new.is) (floor-below s.map.letters s.seats new.robot.cell (on-plan new.index new.robot new.at))
      | inr old ↦ is.standing.on_floor r y old.was here
    ];
    apart = λ r q x y first second one two same. elim (found r x first) [
      | inl new ↦ elim (found q y second) [
        | inl other ↦
            let cell : new.robot.cell ≡ other.robot.cell = sym (ap (λ (w : Seat A). w.robot.cell) new.is) ∙ same ∙ ap (λ (w : Seat A). w.robot.cell) other.is in
            one-number _ new.index other.index r q (one-cell new.index other.index new.robot other.robot new.at other.at cell) new.number other.number
        | inr old ↦ absurd (apart-from r q x y new old two same)
      ]
      | inr old ↦ elim (found q y second) [
        | inl new ↦ absurd (apart-from q r y x new old one (sym same))
        | inr other ↦ is.standing.apart r q x y old.was other.was one two same
      ]
    ];
  }

  -- ---- what is known of robots and clients

  known-new : (k : ℕ) (z : RobotState A) → slice_get o.robots k ≡ Some z → IsKnown o.tick o.queue o.clients z
  known-new k z there =
      let known = on.robots k unknown_robot (slice_get_within o.robots k z there) in
      subst (λ (w : RobotState A). IsKnown o.tick o.queue o.clients w) (get_or_from_slice_get o.robots k z unknown_robot there) (record {
        arrival_law = known.arrival_law;
        farewell_law = known.farewell_law;
        waits = known.waits;
        not_longer = known.not_longer;
        room = known.room;
        known = known.known;
        numbered = known.numbered;
      })

  known : (r : ℕ) (y : Seat A) → slice_get (seats_after s.seats o.robots) r ≡ Some y → IsKnown o.tick o.queue o.clients y.robot
  known r y there = elim (found r y there) [
    | inl new ↦ subst (λ (w : Seat A). IsKnown o.tick o.queue o.clients w.robot) (sym new.is) (known-new new.index new.robot new.at)
    | inr old ↦ known-later (opening_of s) o y.robot later (is.robots r y old.was)
  ]

  client : (c : ℕ) → c < length o.clients → IsClientInOrder o.life (open_of (after_site s o) c) (slice_index_or o.clients c unknown_client)
  client c l =
      let before = is.clients c (omega (arith, l, later.clients)) in
      let now = on.clients c l in
      let told = later.told c (omega (arith, l, later.clients)) in
      record {
        fewer = now.fewer;
        within_life = now.within_life;
        close_taken = now.close_taken;
        told = now.told;
        not_early = still-told _ _ _ _ _ _ _ _ before.not_early told (after-owing s.seats o.robots c many);
        small = now.small;
        small_notices = now.small_notices;
      }

  -- ---- names

  errands-new : (k : ℕ) (z : RobotState A) (i : ℕ) (e : Errand) → slice_get o.robots k ≡ Some z → slice_get z.errands i ≡ Some e → slice_get (errands_at o k) i ≡ Some e
  errands-new k z i e there has = subst (λ l. slice_get l i ≡ Some e) (sym (opening-errands o.robots k z there)) has

  errands-old : (q : ℕ) (y : Seat A) (i : ℕ) (e : Errand) → slice_get s.seats q ≡ Some y → slice_get y.robot.errands i ≡ Some e → slice_get (errands_of s q) i ≡ Some e
  errands-old q y i e there has = subst (λ l. slice_get l i ≡ Some e) (sym (seat-errands s.seats q y there)) has

  -- a robot that moves has no errand of one that is as it was
  never-both : (k q i j : ℕ) (x y : Errand) (w : Seat A) → slice_get (errands_at o k) i ≡ Some x → IsOld s.seats q w → slice_get w.robot.errands j ≡ Some y → x.client ≡ y.client → x.number ≡ y.number → ⊥
  never-both k q i j x y w first old second same number = elim (later.names k i x first) [
    | inl was ↦
        let (z, there, has) = robot-errands (opening_of s) k was.0 x was.1 in
        let from = origin s.seats k z there in
        let mine = errands-old from.number from.seat was.0 x from.at (subst (λ (v : RobotState A). slice_get v.errands was.0 ≡ Some x) (sym from.robot) has) in
        let one = is.names.apart from.number q was.0 j x y mine (errands-old q w j y old.was second) same number in
        let seat : from.seat ≡ w = same-at s.seats q from.seat w (subst (λ n. slice_get s.seats n ≡ Some from.seat) one from.at) old.was in
        let no : true ≡ false = sym from.moves ∙ ap (λ (v : Seat A). is_moving v.standing) seat ∙ old.stays in cc
    | inr above ↦
        let within = slice_get_within w.robot.errands j y second in
        let read : get_or w.robot.errands j y ≡ y = get_or_from_slice_get w.robot.errands j y y second in
        let reached : y.number ≤ (slice_index_or s.clients y.client unknown_client).accepted =
        subst (λ (e : Errand). e.number ≤ (slice_index_or s.clients e.client unknown_client).accepted) read ((is.robots q w old.was).numbered j y within).1 in
        let client : (slice_index_or s.clients x.client unknown_client).accepted ≡ (slice_index_or s.clients y.client unknown_client).accepted = ap (λ c. (slice_index_or s.clients c unknown_client).accepted) same in
        let over : (slice_index_or s.clients x.client unknown_client).accepted < x.number = above in
        omega (arith, over, reached, client, number)
  ]

  new-errand : (r i : ℕ) (e : Errand) (w : Seat A) (new : IsNew 0 s.seats o.robots r w) → slice_get w.robot.errands i ≡ Some e → slice_get (errands_at o new.index) i ≡ Some e
  new-errand r i e w new has = errands-new new.index new.robot i e new.at (subst (λ (v : Seat A). slice_get v.robot.errands i ≡ Some e) new.is has)

  names : AreNamesInOrder (everyone (after_site s o))
  names = record {
    apart = λ r q i j x y first second same number.
        let (w, there, one) = seat-of (seats_after s.seats o.robots) r i x first in
        let (v, here, two) = seat-of (seats_after s.seats o.robots) q j y second in
        elim (found r w there) [
          | inl new ↦ elim (found q v here) [
            | inl other ↦
                let index = on.names.apart new.index other.index i j x y (new-errand r i x w new one) (new-errand q j y v other two) same number in
                one-number _ new.index other.index r q index new.number other.number
            | inr old ↦ absurd (never-both new.index q i j x y v (new-errand r i x w new one) old two same number)
          ]
          | inr old ↦ elim (found q v here) [
            | inl new ↦ absurd (never-both new.index r j i y x w (new-errand q j y v new two) old one (sym same) (sym number))
            | inr other ↦ is.names.apart r q i j x y (errands-old r w i x old.was one) (errands-old q v j y other.was two) same number
          ]
        ];
    rising = λ r i j x y less first second same.
        let (w, there, one) = seat-of (seats_after s.seats o.robots) r i x first in
        let (v, here, two) = seat-of (seats_after s.seats o.robots) r j y second in
        let seat : v ≡ w = same-at (seats_after s.seats o.robots) r v w here there in
        let other : slice_get w.robot.errands j ≡ Some y = subst (λ (u : Seat A). slice_get u.robot.errands j ≡ Some y) seat two in
        elim (found r w there) [
          | inl new ↦ on.names.rising new.index i j x y less (new-errand r i x w new one) (new-errand r j y w new other) same
          | inr old ↦ is.names.rising r i j x y less (errands-old r w i x old.was one) (errands-old r w j y old.was other) same
        ];
  }

  later-in_order : IsSiteInOrder (after_site s o)
  later-in_order = record {
    few_robots = omega (arith, is.few_robots, after-length s.seats o.robots);
    some_clients = on.some_clients;
    few_clients = on.few_clients;
    queue = on.queue;
    life = on.life;
    standing = all-standing;
    robots = known;
    clients = client;
    names = names;
  }

-- for a site that is known to be the one after it
pub after-in_order : {A : Type 0} (s t : SiteView A) (o : Opening A) → t ≡ after_site s o → IsSiteInOrder s → IsPlayed s o → IsInOrder (plan_map s) o → IsSiteInOrder t
after-in_order {A} s t o same is played on = subst (λ (u : SiteView A). IsSiteInOrder u) (sym same) (later-in_order s o is (played-later s o played) on)
