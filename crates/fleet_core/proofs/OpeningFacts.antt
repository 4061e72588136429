-- What holds of a world at its opening.
use Rattle.std.proofs.Common.{◌≡◌, ℕ, zero, suc, ◌+◌, ◌<◌, ◌≤◌, List, [], ◌∷◌, ◌++◌, length, map, get_or, replicate, sym, refl, ap, ◌∙◌, subst, arith, inl, inr, Option, Some, None, false}
use Rattle.std.specs.Prelude.{is_some, slice_get, slice_index, slice_index_or, All, sum_by, count_by, ◌==◌}
use Rattle.std.specs.List.{range_with_len}
use Rattle.std.proofs.lemmas.List.{length-map, length-replicate, get_or-replicate, get_or_past, ext_get_or}
use Rattle.std.proofs.lemmas.List.FromFn.{length-range_with_len}
use Rattle.std.proofs.lemmas.List.Elements.{All-nil}
use Rattle.std.proofs.lemmas.List.Sums.{sum_by-cons}
use Rattle.std.proofs.lemmas.Bool.{cases_lt}
use Rattle.fleet_grid.specs.Floor.{Floor, IsFloor, IsNeighbour}
use Rattle.fleet_grid.specs.Step.{IsPlacement}
use Rattle.fleet_grid.specs.Walk.{AreJoined}
use Rattle.fleet_queue.specs.declared.errand.Errand.{Errand}
use Rattle.fleet_book.specs.declared.limits.Limits.{Limits}
use Rattle.fleet_hooks.specs.Law.{IsStampLaw}
use Rattle.fleet_hooks.specs.declared.law.StampLaw.{StampLaw}
use Rattle.fleet_history.specs.declared.history.Opening.{Opening}
use Rattle.fleet_history.specs.declared.history.RobotState.{RobotState}
use Rattle.fleet_history.specs.declared.history.ClientState.{ClientState}
use Rattle.fleet_history.specs.History.{History, start, robots, clients, unknown_client, unfinished, owed}
use Rattle.fleet_history.specs.Notices.{noticed_count}
use Rattle.fleet_history.proofs.Chapters.{chapters-begin}
use Rattle.fleet_state.proofs.Parts.{listed}
use Rattle.fleet_state.proofs.Ranges.{map-range_more}
use Rattle.fleet_history.specs.Legal.{farewell_law, IsLegal, IsRobotInOrder, IsClientInOrder, owed_at, opened, no_law}
use Rattle.fleet_history.proofs.Withdrawals.{unfinished-start}
use Rattle.fleet_core.specs.Hooks.{HookLaws, law_at, HaveCount, AreOrderly, AreArrivals, AreFarewells}
use Rattle.fleet_core.specs.Pending.{Pending, no_pending}
use Rattle.fleet_core.specs.Opening.{CanOpen}
use Rattle.fleet_core.specs.Core.{robot_at, opening_of}
use Rattle.fleet_core.specs.inside.Kept.{AreBoxes, IsWithin}

-- one robot more at the opening
pub robots_more : {A : Type 0} (starts : List ℕ) (arrivals farewells : List StampLaw) (r : ℕ) (errands : List Errand) (before behind : List (RobotState A)) →
    before ≡ map (robot_at starts arrivals farewells) (range_with_len 0 r) → errands ≡ [] →
    behind ≡ before ++ record { cell = slice_index starts r; shut = false; wait = None; errands = errands; arrival_law = law_at arrivals r; farewell_law = law_at farewells r } ∷ [] →
    behind ≡ map (robot_at starts arrivals farewells) (range_with_len 0 (r + 1))
robots_more {A = A} starts arrivals farewells r errands before behind so none more =
    let robot : List Errand → RobotState A = λ es. record { cell = slice_index starts r; shut = false; wait = None; errands = es; arrival_law = law_at arrivals r; farewell_law = law_at farewells r } in
    more ∙ ap (λ (xs : List (RobotState A)). xs ++ robot errands ∷ []) so ∙ ap (λ (es : List Errand). map (robot_at starts arrivals farewells) (range_with_len 0 r) ++ robot es ∷ []) none
    ∙ sym (map-range_more (robot_at starts arrivals farewells) r)

from_none : (r : ℕ) → r ≡ 0 + r
from_none r = omega arith

-- a word of each robot
field_at : {X Y : Type 0} (p : X → Y) (f : ℕ → X) (a n r k : ℕ) (d : Y) → r < n → k ≡ a + r → get_or (map p (map f (range_with_len a n))) r d ≡ p (f k)
field_at p f a zero r k d l e = absurd (omega arith)
field_at p f a (suc n) zero k d l e = let s : a ≡ k = omega arith in ap (λ i. p (f i)) s
field_at p f a (suc n) (suc r) k d l e = field_at p f (a + 1) n r k d (omega arith) (omega arith)

length-fields : {X Y : Type 0} (p : X → Y) (f : ℕ → X) (n : ℕ) → length (map p (map f (range_with_len 0 n))) ≡ n
length-fields p f n = length-map (map f (range_with_len 0 n)) p ∙ length-map (range_with_len 0 n) f ∙ length-range_with_len 0 n

-- a word that is the same for each robot and for none
same_field : {X Y : Type 0} (p : X → Y) (f : ℕ → X) (n r : ℕ) (d : Y) → ((k : ℕ) → p (f k) ≡ d) → get_or (map p (map f (range_with_len 0 n))) r d ≡ d
same_field p f n r d same =
    elim (cases_lt r n) [
      | inl l ↦ field_at p f 0 n r r d l (omega arith) ∙ same r
      | inr l ↦ get_or_past (map p (map f (range_with_len 0 n))) r d (omega (arith, length-fields p f n))
    ]

module _ (A : Type 0) (starts : List ℕ) (arrivals farewells : List StampLaw) where
  abbrev opened_robots : List (RobotState A)
  opened_robots = map (robot_at starts arrivals farewells) (range_with_len 0 (length starts))

  cells_of : map (λ (x : RobotState A). x.cell) opened_robots ≡ starts
  cells_of =
      ext_get_or 0 (map (λ (x : RobotState A). x.cell) opened_robots) starts (length-fields (λ (x : RobotState A). x.cell) (robot_at starts arrivals farewells) (length starts))
      (λ r l. field_at (λ (x : RobotState A). x.cell) (robot_at starts arrivals farewells) 0 (length starts) r r 0 (subst (λ (k : ℕ). r < k) (length-fields (λ (x : RobotState A). x.cell) (robot_at {A = A} starts arrivals farewells) (length starts)) l) (from_none r))

  no_errands : (r : ℕ) → slice_index_or (map (λ (x : RobotState A). x.errands) opened_robots) r [] ≡ []
  no_errands r = same_field (λ (x : RobotState A). x.errands) (robot_at starts arrivals farewells) (length starts) r [] (λ k. refl)

  none_shut : (r : ℕ) → slice_index_or (map (λ (x : RobotState A). x.shut) opened_robots) r false ≡ false
  none_shut r = same_field (λ (x : RobotState A). x.shut) (robot_at starts arrivals farewells) (length starts) r false (λ k. refl)

  pub arrival_laws : (r : ℕ) → r < length starts → slice_index_or (map (λ (x : RobotState A). x.arrival_law) opened_robots) r no_law ≡ law_at arrivals r
  arrival_laws r l = field_at (λ (x : RobotState A). x.arrival_law) (robot_at starts arrivals farewells) 0 (length starts) r r no_law l (from_none r)

  pub farewell_laws : (r : ℕ) → r < length starts → slice_index_or (map (λ (x : RobotState A). x.farewell_law) opened_robots) r no_law ≡ law_at farewells r
  farewell_laws r l = field_at (λ (x : RobotState A). x.farewell_law) (robot_at starts arrivals farewells) 0 (length starts) r r no_law l (from_none r)

  pub robot_count : length opened_robots ≡ length starts
  robot_count = length-map (range_with_len 0 (length starts)) (robot_at {A = A} starts arrivals farewells) ∙ length-range_with_len 0 (length starts)

none_owed_in : {X : Type 0} (f : X → List Errand) (xs : List X) (c : ℕ) → ((x : X) → f x ≡ []) → sum_by (λ x. count_by (λ e. e.client == c) (f x)) xs ≡ 0
none_owed_in f [] c none = refl
none_owed_in f (x ∷ xs) c none =
    let z : count_by (λ (e : Errand). e.client == c) (f x) ≡ 0 = ap (count_by (λ (e : Errand). e.client == c)) (none x) in
    omega (arith, sum_by-cons (λ x. count_by (λ (e : Errand). e.client == c) (f x)) x xs, none_owed_in f xs c none)

none_owed_at : (A : Type 0) (f : ℕ → RobotState A) (ks : List ℕ) (c : ℕ) → ((k : ℕ) → (f k).errands ≡ []) → sum_by (λ (x : RobotState A). count_by (λ e. e.client == c) x.errands) (map f ks) ≡ 0
none_owed_at A f [] c none = refl
none_owed_at A f (k ∷ ks) c none =
    let z : count_by (λ (e : Errand). e.client == c) (f k).errands ≡ 0 = ap (count_by (λ (e : Errand). e.client == c)) (none k) in
    omega (arith, sum_by-cons (λ (x : RobotState A). count_by (λ e. e.client == c) x.errands) (f k) (map f ks), none_owed_at A f ks c none)

in_order_robot : {A : Type 0} (m : Floor) (o : Opening A) (x : RobotState A) → x.wait ≡ None → x.errands ≡ [] → IsStampLaw x.arrival_law → IsStampLaw x.farewell_law → IsRobotInOrder m o x
in_order_robot m o x w e a f = record {
  arrival_law = a;
  farewell_law = f;
  waits = rw (w, e) refl;
  not_longer = λ v is. absurd (no_some v (sym w ∙ is));
  room = rw e (omega arith);
  known = rw e (All-nil (λ (e : Errand). e.client < length o.clients));
  numbered = rw e (All-nil (λ (e : Errand). (1 ≤ e.number) × (e.number ≤ (slice_index_or o.clients e.client unknown_client).accepted)));
  on_floor = rw e (All-nil (λ (e : Errand). IsFloor m e.cell));
  reachable = rw e (All-nil (λ (e : Errand). AreJoined (IsNeighbour m) x.cell e.cell));
}
  where
    no_some : (v : ℕ) → None ≡ Some v → ⊥
    no_some v q = cc

-- a client that did nothing is in order
nobody_in_order : (life owed : ℕ) → owed ≡ 0 → IsClientInOrder life owed unknown_client
nobody_in_order life owed none = record {
  fewer = omega arith;
  within_life = omega arith;
  close_taken = λ e. cc;
  told = omega arith;
  not_early = omega (arith, none);
  small = omega arith;
  small_notices = omega arith;
}

in_order_robots : {A : Type 0} (m : Floor) (o : Opening A) (f : ℕ → RobotState A) (ks : List ℕ) → ((k : ℕ) → IsRobotInOrder m o (f k)) → All (IsRobotInOrder m o) (map f ks)
in_order_robots m o f [] each k d l = absurd (omega arith)
in_order_robots m o f (x ∷ ks) each zero d l = each x
in_order_robots m o f (x ∷ ks) each (suc k) d l = in_order_robots m o f ks each k d (omega arith)

orderly_at : (laws : List StampLaw) (r : ℕ) → All IsStampLaw laws → IsStampLaw (law_at laws r)
orderly_at laws r all =
    elim (cases_lt r (length laws)) [
      | inl l ↦ all r no_law l
      | inr l ↦ rw (get_or_past laws r no_law l) (omega arith)
    ]

pub legal-opened : {A : Type 0} (m : Floor) (starts : List ℕ) (n : ℕ) (limits : Limits) (laws : HookLaws) → CanOpen m starts n limits laws → AreOrderly laws → IsLegal {A = A} m (start (opening_of starts n limits laws))
legal-opened {A = A} m starts n limits laws can orderly =
    let o : Opening A = opening_of starts n limits laws in
    let count = length-replicate n unknown_client in
    let robots = robot_count A starts laws.arrivals laws.farewells in
    opened (record {
      some_robots = subst (λ (k : ℕ). 1 ≤ k) (sym robots) can.robots.0;
      few_robots = subst (λ (k : ℕ). k ≤ 512) (sym robots) can.robots.1;
      some_clients = subst (λ (k : ℕ). 1 ≤ k) (sym count) can.range.1.0;
      few_clients = subst (λ (k : ℕ). k ≤ 64) (sym count) can.range.1.1;
      queue = can.range.0.queue;
      life = can.range.0.life;
      placed = subst (IsPlacement m) (sym (cells_of A starts laws.arrivals laws.farewells)) can.placed;
      robots = in_order_robots m o (robot_at starts laws.arrivals laws.farewells) (range_with_len 0 (length starts))
          (λ k. in_order_robot m o (robot_at starts laws.arrivals laws.farewells k) refl refl (orderly_at laws.arrivals k orderly.arrivals) (orderly_at laws.farewells k orderly.farewells));
      clients = λ c l. subst (IsClientInOrder o.life (owed_at o c)) (sym (get_or-replicate n c unknown_client unknown_client (subst (λ (k : ℕ). c < k) count l)))
          (nobody_in_order o.life (owed_at o c) (none_owed_at A (robot_at starts laws.arrivals laws.farewells) (range_with_len 0 (length starts)) c (λ k. refl)));
      names = record {
        apart = λ r q i j x y e f a b. absurd (no_first i x (subst (λ es. slice_get es i ≡ Some x) (no_errands A starts laws.arrivals laws.farewells r) e));
        rising = λ r i j x y before e f same. absurd (no_first i x (subst (λ es. slice_get es i ≡ Some x) (no_errands A starts laws.arrivals laws.farewells r) e));
      };
    })
  where
    no_first : (i : ℕ) (x : Errand) → slice_get [] i ≡ Some x → ⊥
    no_first i x e = cc

none_owed : {A : Type 0} (h : History A) (c a n : ℕ) → ((r : ℕ) → unfinished h r ≡ []) → sum_by (λ r. count_by (λ e. e.client == c) (unfinished h r)) (range_with_len a n) ≡ 0
none_owed h c a n none = none_owed_in (unfinished h) (range_with_len a n) c none

-- nobody has an errand at the opening
pub unfinished-opened : (A : Type 0) (starts : List ℕ) (n : ℕ) (limits : Limits) (laws : HookLaws) (r : ℕ) → unfinished {A = A} (start (opening_of starts n limits laws)) r ≡ []
unfinished-opened A starts n limits laws r =
    let h : History A = start (opening_of starts n limits laws) in
    unfinished-start h.opening r ∙ no_errands A starts laws.arrivals laws.farewells r

-- ---- what is kept

none_le : (n : ℕ) → 0 ≤ n
none_le n = omega arith

get_replicate : (n c : ℕ) → slice_index (replicate n 0) c ≡ 0
get_replicate zero c = refl
get_replicate (suc n) zero = refl
get_replicate (suc n) (suc c) = get_replicate n c

pub boxes-opened : {A : Type 0} (m : Floor) (starts : List ℕ) (n : ℕ) (limits : Limits) (laws : HookLaws) → CanOpen m starts n limits laws →
    AreBoxes {A = A} (start (opening_of starts n limits laws)) (record { boxes = replicate n (record { notices = []; limit = limits.mailbox }); noticed = replicate n 0 })
boxes-opened {A = A} m starts n limits laws can =
    let h : History A = start (opening_of starts n limits laws) in
    let box : Pending = record { notices = []; limit = limits.mailbox } in
    let count = length-replicate n unknown_client in
    let no_owed : (c : ℕ) → owed h c ≡ 0 = λ c. none_owed h c 0 (length h.opening.robots) (unfinished-opened A starts n limits laws) in
    record {
      count = length-replicate n box ∙ sym count;
      room = λ c l. subst (λ (k : ℕ). length (slice_index_or (replicate n box) c no_pending).notices + k ≤ (slice_index_or (replicate n box) c no_pending).limit) (sym (no_owed c))
          (subst (λ (b : Pending). length b.notices + 0 ≤ b.limit) (sym (get_or-replicate n c box no_pending (subst (λ (k : ℕ). c < k) count l))) (none_le limits.mailbox));
      told = λ c l. subst (λ (b : Pending). length b.notices ≤ noticed_count h c) (sym (get_or-replicate n c box no_pending (subst (λ (k : ℕ). c < k) count l))) (none_le (noticed_count h c));
      noticed = listed 0 (clients h) (noticed_count h) (replicate n 0) (length-replicate n 0 ∙ sym count)
          (λ c l. get_replicate n c ∙ sym (ap (λ (s : ClientState). s.noticed + 0) (get_or-replicate n c unknown_client unknown_client (subst (λ (k : ℕ). c < k) count l))));
    }

pub within-opened : {A : Type 0} (m : Floor) (starts : List ℕ) (n : ℕ) (limits : Limits) (laws : HookLaws) → CanOpen m starts n limits laws →
    IsWithin {A = A} limits 0 (start (opening_of starts n limits laws))
within-opened {A = A} m starts n limits laws can =
    let h : History A = start (opening_of starts n limits laws) in
    let count = length-replicate n unknown_client in
    record {
      valid = can.range.0;
      entries = none_le limits.chapter;
      clock = none_le limits.clock;
      numbered = can.range.0.chapters.0;
      chapters = chapters-begin h limits.chapter (λ c l. ap (λ (s : ClientState). s.taken) (get_or-replicate n c unknown_client unknown_client (subst (λ (k : ℕ). c < k) count l)));
    }

-- ---- the closures at the opening

pub arrivals-opened : {A : Type 0} (starts : List ℕ) (n : ℕ) (limits : Limits) (laws : HookLaws) → HaveCount (length starts) laws →
    AreArrivals {A = A} (start (opening_of starts n limits laws)) laws.arrivals
arrivals-opened {A = A} starts n limits laws have =
    let robots = robot_count A starts laws.arrivals laws.farewells in
    record {
      count = have.arrivals ∙ sym robots;
      each = λ r l. sym (arrival_laws A starts laws.arrivals laws.farewells r (subst (λ (k : ℕ). r < k) robots l));
    }

map_some_at : (xs : List StampLaw) (r : ℕ) → r < length xs → slice_index_or (map Some xs) r None ≡ Some (law_at xs r)
map_some_at [] r l = absurd (omega arith)
map_some_at (x ∷ xs) zero l = refl
map_some_at (x ∷ xs) (suc r) l = map_some_at xs r (omega arith)

some_within : (xs : List (Option StampLaw)) (r n : ℕ) (x : StampLaw) → slice_index_or xs r None ≡ Some x → length xs ≡ n → r < n
some_within xs r n x e s =
    elim (cases_lt r (length xs)) [
      | inl l ↦ omega arith
      | inr l ↦ (let q : None ≡ Some x = sym (get_or_past xs r None l) ∙ e in absurd (no_law_of x q))
    ]
  where
    no_law_of : (x : StampLaw) → None ≡ Some x → ⊥
    no_law_of x q = cc

pub farewells-opened : {A : Type 0} (starts : List ℕ) (n : ℕ) (limits : Limits) (laws : HookLaws) → HaveCount (length starts) laws →
    AreFarewells {A = A} (start (opening_of starts n limits laws)) (map Some laws.farewells)
farewells-opened {A = A} starts n limits laws have =
    let robots = robot_count A starts laws.arrivals laws.farewells in
    record {
      count = length-map laws.farewells Some ∙ have.farewells ∙ sym robots;
      each = λ r law e.
          let l : r < length laws.farewells = some_within (map Some laws.farewells) r (length laws.farewells) law e (length-map laws.farewells Some) in
          let at = map_some_at laws.farewells r l in
          let q : Some (law_at laws.farewells r) ≡ Some law = sym at ∙ e in
          let s : law_at laws.farewells r ≡ law = cc in
          sym s ∙ sym (farewell_laws A starts laws.arrivals laws.farewells r (subst (λ (k : ℕ). r < k) have.farewells l));
      unspent = λ r l d. ap (λ (o : Option StampLaw). is_some o) (map_some_at laws.farewells r (subst (λ (k : ℕ). r < k) (robots ∙ sym have.farewells) l));
    }

-- closures with their robots' laws, of which none was called yet
pub farewells-unspent : {A : Type 0} (h : History A) (laws : List StampLaw) → length laws ≡ robots h → ((r : ℕ) → r < robots h → law_at laws r ≡ farewell_law h r) →
    AreFarewells h (map Some laws)
farewells-unspent h laws count each = record {
  count = length-map laws Some ∙ count;
  each = λ r law e.
      let l : r < length laws = some_within (map Some laws) r (length laws) law e (length-map laws Some) in
      let q : Some (law_at laws r) ≡ Some law = sym (map_some_at laws r l) ∙ e in
      let s : law_at laws r ≡ law = cc in
      sym s ∙ each r (subst (λ (k : ℕ). r < k) count l);
  unspent = λ r l d. ap (λ (o : Option StampLaw). is_some o) (map_some_at laws r (subst (λ (k : ℕ). r < k) (sym count) l));
}

pub some_laws : {X : Type 0} (law : X → StampLaw) (xs : List X) → map Some (map law xs) ≡ map (λ x. Some (law x)) xs
some_laws law [] = refl
some_laws law (x ∷ xs) = ap (λ t. Some (law x) ∷ t) (some_laws law xs)
