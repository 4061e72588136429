-- A site in order stays so, one change after another.
use Rattle.std.proofs.Common.{◌≡◌, ◌∙◌, ◌+◌, ◌<◌, ◌≤◌, ◌^◌, ℕ, zero, List, [], ◌++◌, Some, arith, refl, subst, sym, length, zero-add}
use Rattle.std.specs.Prelude.{count_by, slice_get, slice_index_or, ◌==◌}
use Rattle.fleet_history.specs.declared.history.ClientState.{ClientState}
use Rattle.fleet_history.specs.declared.history.RobotState.{RobotState}
use Rattle.fleet_history.specs.History.{unknown_client}
use Rattle.fleet_history.specs.Legal.{AreNamesInOrder, IsClientInOrder}
use Rattle.fleet_history.proofs.Sums.{count_append}
use Rattle.fleet_refit.specs.declared.change.Dropped.{Dropped}
use Rattle.fleet_refit.specs.declared.seat.Seat.{Seat}
use Rattle.fleet_refit.specs.Account.{AreAccounted, AreSome, was_of}
use Rattle.fleet_refit.specs.InOrder.{AreStanding, IsKnown, IsSiteInOrder, errands_of, everyone, open_of}
use Rattle.fleet_refit.specs.Site.{SiteView, with_seats}
use Rattle.fleet_refit.proofs.Counting.{steps-each, steps-order, steps-owed}
use Rattle.fleet_refit.proofs.Losing.{Loses, LosesAs, LosesThere}
use Rattle.fleet_refit.proofs.Shorter.{All-some, some-all, some-at, some-length, some-some, some-two}
use Rattle.fleet_refit.proofs.Places.{standing-steps}
use Rattle.fleet_refit.proofs.Steps.{Steps, steps-at, steps-length, steps-weaker}

-- ---- robots

pub known-less : {A : Type 0} (tick queue : ℕ) (clients : List ClientState) (robot : ℕ) (x y : RobotState A) (out : List Dropped) → Loses robot x y out → IsKnown tick queue clients x →
    IsKnown tick queue clients y
known-less tick queue clients robot x y out loses is = record {
  arrival_law = subst (λ l. l.low ≤ l.high) (sym loses.arrival_law) is.arrival_law;
  farewell_law = subst (λ l. l.low ≤ l.high) (sym loses.farewell_law) is.farewell_law;
  waits = loses.waits is.waits;
  not_longer = loses.longer tick is.not_longer;
  room = omega (arith, some-length loses.some, is.room);
  known = All-some (λ e. e.client < length clients) loses.some is.known;
  numbered = All-some (λ e. (1 ≤ e.number) × (e.number ≤ (slice_index_or clients e.client unknown_client).accepted)) loses.some is.numbered;
}

-- ---- clients

pub client-less : (life owed less : ℕ) (s : ClientState) → less ≤ owed → IsClientInOrder life owed s → IsClientInOrder life less s
client-less life owed less s fewer is = record {
  fewer = is.fewer;
  within_life = is.within_life;
  close_taken = is.close_taken;
  told = is.told;
  not_early = omega (arith, fewer, is.not_early);
  small = is.small;
  small_notices = is.small_notices;
}

-- ---- names

pub names-less : {A : Type 0} (s t : SiteView A) → ((r : ℕ) → AreSome (errands_of t r) (errands_of s r)) → AreNamesInOrder (everyone s) → AreNamesInOrder (everyone t)
names-less s t some names = record {
  apart = λ r q i j x y at there client number.
      let (k, one) = some-at (some r) i x at in
      let (l, two) = some-at (some q) j y there in
      names.apart r q k l x y one two client number;
  rising = λ r i j x y less at there client.
      let (k, l, order, one, two) = some-two (some r) i j x y less at there in
      names.rising r k l x y order one two client;
}

-- ---- a site

-- what a change makes of a site but for where robots stand: errands become fewer, or a robot without errands comes
pub record Follows {A : Type 0} (s t : SiteView A) (out : List Dropped) : Type 0 where
  pub accounted : AreAccounted s t out
  pub tick : t.tick ≡ s.tick
  pub queue : t.queue ≡ s.queue
  pub life : t.life ≡ s.life
  pub robots : (tick queue : ℕ) (clients : List ClientState) → ((r : ℕ) (x : Seat A) → slice_get s.seats r ≡ Some x → IsKnown tick queue clients x.robot) →
      (r : ℕ) (y : Seat A) → slice_get t.seats r ≡ Some y → IsKnown tick queue clients y.robot

-- so only where robots stand, and how many they are, is left to show
pub follows-in_order : {A : Type 0} (s t : SiteView A) (out : List Dropped) → Follows s t out → length t.seats ≤ 512 → AreStanding t.map t.seats → IsSiteInOrder s → IsSiteInOrder t
follows-in_order {A} s t out so few standing is =
    let same = so.accounted.clients in
    record {
      few_robots = few;
      some_clients = subst (λ (l : List ClientState). 1 ≤ length l) (sym same) is.some_clients;
      few_clients = subst (λ (l : List ClientState). length l ≤ 64) (sym same) is.few_clients;
      queue = subst (λ n. (1 ≤ n) × (n ≤ 65536)) (sym so.queue) is.queue;
      life = subst (λ n. (1 ≤ n) × (n ≤ 2 ^ 40)) (sym so.life) is.life;
      standing = standing;
      robots =
          let known = subst (λ n. (r : ℕ) (x : Seat A) → slice_get s.seats r ≡ Some x → IsKnown n t.queue t.clients x.robot) (sym so.tick)
          (subst (λ n. (r : ℕ) (x : Seat A) → slice_get s.seats r ≡ Some x → IsKnown s.tick n t.clients x.robot) (sym so.queue)
          (subst (λ l. (r : ℕ) (x : Seat A) → slice_get s.seats r ≡ Some x → IsKnown s.tick s.queue l x.robot) (sym same) is.robots)) in
          so.robots t.tick t.queue t.clients known;
      clients = λ c inside.
          let before = is.clients c (subst (λ (l : List ClientState). c < length l) same inside) in
          subst (λ n. IsClientInOrder n (open_of t c) (slice_index_or t.clients c unknown_client)) (sym so.life)
          (subst (λ (l : List ClientState). IsClientInOrder s.life (open_of t c) (slice_index_or l c unknown_client)) (sym same)
          (client-less s.life (open_of s c) (open_of t c) (slice_index_or s.clients c unknown_client) (omega (arith, so.accounted.owed c)) before));
      names = names-less s t so.accounted.order is.names;
    }

pub follows-steps : {A : Type 0} (s : SiteView A) (ys : List (Seat A)) (out : List Dropped) → Steps LosesAs 0 s.seats ys out → Follows s (with_seats s ys) out
follows-steps s ys out steps = record {
  accounted = record {
    clients = refl;
    order = λ r. steps-order 0 s.seats ys out r steps;
    each = λ r test. subst (λ k. count_by test (errands_of s r) ≡ count_by test (errands_of (with_seats s ys) r) + count_by (was_of k test) out) (zero-add r) (steps-each 0 s.seats ys out r test steps);
    owed = λ c. steps-owed 0 s.seats ys out c steps;
  };
  tick = refl;
  queue = refl;
  life = refl;
  robots = λ tick queue clients known r y at.
      let (x, was, lost, loses) = steps-at 0 s.seats ys out steps r y at in
      known-less tick queue clients (0 + r) x.robot y.robot lost loses (known r x was);
}

there-as : {A : Type 0} (n : ℕ) (xs ys : List (Seat A)) (out : List Dropped) → Steps LosesThere n xs ys out → Steps LosesAs n xs ys out
there-as n xs ys out steps = steps-weaker (λ k x y lost both. both.1) n xs ys out steps

-- robots that remain where they are
pub follows-there : {A : Type 0} (s : SiteView A) (ys : List (Seat A)) (out : List Dropped) → Steps LosesThere 0 s.seats ys out → Follows s (with_seats s ys) out
follows-there s ys out steps = follows-steps s ys out (there-as 0 s.seats ys out steps)

pub in_order-there : {A : Type 0} (s : SiteView A) (ys : List (Seat A)) (out : List Dropped) → Steps LosesThere 0 s.seats ys out → IsSiteInOrder s → IsSiteInOrder (with_seats s ys)
in_order-there s ys out steps is =
    follows-in_order s (with_seats s ys) out (follows-there s ys out steps) (omega (arith, steps-length 0 s.seats ys out steps, is.few_robots)) (standing-steps s.map s.seats ys out steps is.standing) is

-- ---- one site after another

pub accounted-both : {A : Type 0} (s t u : SiteView A) (first second : List Dropped) → AreAccounted s t first → AreAccounted t u second → AreAccounted s u (first ++ second)
accounted-both s t u first second a b = record {
  clients = b.clients ∙ a.clients;
  order = λ r. some-some (b.order r) (a.order r);
  each = λ r test. omega (arith, a.each r test, b.each r test, count_append (was_of r test) first second);
  owed = λ c. omega (arith, a.owed c, b.owed c, count_append (λ (d : Dropped). d.client == c) first second);
}

pub accounted-none : {A : Type 0} (s : SiteView A) → AreAccounted s s []
accounted-none s = record {
  clients = refl;
  order = λ r. some-all (errands_of s r);
  each = λ r test. omega arith;
  owed = λ c. omega arith;
}
