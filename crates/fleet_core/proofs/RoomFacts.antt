-- Queues whose errands go to roomy cells, by a list of how roomy each cell is.
use Rattle.std.proofs.Common.{◌≡◌, ◌∙◌, ℕ, ◌+◌, ◌<◌, ◌≤◌, List, map, get_or, take, Bool, true, false, ◌&&◌, Some, IsTrue, sym, refl, ap, subst, arith}
use Rattle.std.specs.Prelude.{All, ◌↔◌, slice_index, slice_get}
use Rattle.std.specs.List.{list_all, range_with_len}
use Rattle.std.proofs.lemmas.Bool.{le-leb, leb-true}
use Rattle.std.proofs.lemmas.List.Folds.{list_all-map, list_all_at, list_all_more}
use Rattle.std.proofs.lemmas.List.FromFn.{get_or-map-range_with_len, length-map-range_with_len}
use Rattle.std.proofs.lemmas.List.Sums.{AllPass-from_list_all, list_all-from_AllPass}
use Rattle.std.proofs.lemmas.Option.{get_or_from_slice_get, slice_get_within}
use Rattle.fleet_bridge.specs.Roominess.{AreRoomyFor}
use Rattle.fleet_grid.specs.Counts.{floor_count}
use Rattle.fleet_grid.specs.Floor.{Floor}
use Rattle.fleet_queue.specs.declared.errand.Errand.{Errand}
use Rattle.fleet_queue.specs.Queue.{Queue}
use Rattle.fleet_history.specs.History.{History, robots, unfinished}
use Rattle.fleet_history.specs.Legal.{IsLegal}
use Rattle.fleet_history.proofs.Reach.{legal-reach}
use Rattle.fleet_state.specs.State.{by_robot}
use Rattle.fleet_hooks.specs.declared.law.TieLaw.{TieLaw}
use Rattle.fleet_bound.specs.Idle.{idle_ticks, longest_after, wait_limit}
use Rattle.fleet_bound.specs.Roomy.{AreOpenRoomy, IsIdleByPlan}
use Rattle.fleet_bound.proofs.OpenRoomy.{open-idles}
use Rattle.fleet_core.specs.inside.Roomy.{has_room, have_room}

-- ---- one queue, errand by errand

pub room-more : (p : Errand → Bool) (xs : List Errand) (at : ℕ) (x : Errand) → slice_get xs at ≡ Some x → p x ≡ true → list_all p (take at xs) ≡ true → list_all p (take (at + 1) xs) ≡ true
room-more p xs at x there passes before =
    let here : p (get_or xs at x) ≡ true = ap p (get_or_from_slice_get xs at x x there) ∙ passes in
    list_all_more p xs at x (slice_get_within xs at x there) ∙ ap (λ (b : Bool). b && p (get_or xs at x)) before ∙ here

pub room-fails : (p : Errand → Bool) (xs : List Errand) (at : ℕ) (x : Errand) → slice_get xs at ≡ Some x → p x ≡ false → false ≡ list_all p xs
room-fails p xs at x there fails =
    sym (list_all_at p xs at x (slice_get_within xs at x there) (ap p (get_or_from_slice_get xs at x x there) ∙ fails))

-- ---- all queues

module _ (most : List ℕ) (n : ℕ) where
  each-room : (xs : List Errand) → list_all (has_room most n) xs ≡ true → All (λ x. n ≤ slice_index most x.cell) xs
  each-room xs all k d l = leb-true n (slice_index most (get_or xs k d).cell) (AllPass-from_list_all (has_room most n) xs all k d l)

  room-each : (xs : List Errand) → All (λ x. n ≤ slice_index most x.cell) xs → list_all (has_room most n) xs ≡ true
  room-each xs all = list_all-from_AllPass (has_room most n) xs (λ k d l. le-leb n (slice_index most (get_or xs k d).cell) (all k d l))

  abbrev all_room : List Errand → Bool
  all_room xs = list_all (has_room most n) xs

  by-range : (f : ℕ → List Errand) (count : ℕ) → list_all all_room (map f (range_with_len 0 count)) ≡ true → (r : ℕ) → r < count → all_room (f r) ≡ true
  by-range f count all r l = subst (λ xs. all_room xs ≡ true) (get_or-map-range_with_len f 0 count r r (f r) l (omega arith))
      (AllPass-from_list_all all_room (map f (range_with_len 0 count)) all r (f r) (omega (arith, l, length-map-range_with_len f 0 count)))

  range-by : (f : ℕ → List Errand) (count : ℕ) → ((r : ℕ) → r < count → all_room (f r) ≡ true) → list_all all_room (map f (range_with_len 0 count)) ≡ true
  range-by f count each = list_all-from_AllPass all_room (map f (range_with_len 0 count))
      (λ k d l. let inside : k < count = omega (arith, l, length-map-range_with_len f 0 count) in
      subst (λ xs. all_room xs ≡ true) (sym (get_or-map-range_with_len f 0 count k k d inside (omega arith))) (each k inside))

  queues-room : (queues : List Queue) (f : ℕ → List Errand) (count : ℕ) → map (λ q. q.items) queues ≡ map f (range_with_len 0 count) →
      list_all (have_room most n) queues ≡ list_all all_room (map f (range_with_len 0 count))
  queues-room queues f count same = sym (list_all-map all_room (λ (q : Queue). q.items) queues) ∙ ap (list_all all_room) same

-- ---- what a core says

pub roomy-told : {A : Type 0} (m : Floor) (h : History A) (most : List ℕ) (queues : List Queue) (count : ℕ) (told : Bool) → IsLegal m h → robots h ≤ 512 → count ≡ robots h →
    map (λ q. q.items) queues ≡ by_robot h (unfinished h) → told ≡ list_all (have_room most count) queues → AreRoomyFor m most → (IsTrue told ↔ AreOpenRoomy m h)
roomy-told m h most queues count told legal few same hold tells are =
    let n = robots h in
    let all : told ≡ list_all (all_room most n) (map (unfinished h) (range_with_len 0 n)) =
    tells ∙ ap (λ (k : ℕ). list_all (have_room most k) queues) same ∙ queues-room most n queues (unfinished h) n hold in (
      (λ passes r l k d inside.
          let x = get_or (unfinished h r) k d in
          let far : n ≤ slice_index most x.cell = each-room most n (unfinished h r) (by-range most n (unfinished h) n (sym all ∙ passes) r l) k d inside in
          (are.each x.cell n (legal-reach m h r legal l k d inside).floor (omega (arith, few))).0 far),
      (λ given. all ∙ range-by most n (unfinished h) n (λ r l. room-each most n (unfinished h r)
          (λ k d inside. (are.each (get_or (unfinished h r) k d).cell n (legal-reach m h r legal l k d inside).floor (omega (arith, few))).1 (given r l k d inside)))),
    )

-- the number that is told, of a core's history
pub ticks-are : (told longest count cells k n floor : ℕ) → told ≡ idle_ticks longest count cells → longest ≡ k → count ≡ n → cells ≡ floor → told ≡ idle_ticks k n floor
ticks-are told longest count cells k n floor tells queues same on = tells ∙ rw (queues, same, on) refl

pub limit-is : (told count cells n floor : ℕ) → told ≡ idle_ticks 1 count cells → count ≡ n → cells ≡ floor → told ≡ wait_limit n floor
limit-is told count cells n floor tells same on =
    let once : idle_ticks 1 n floor ≡ wait_limit n floor = omega (arith) in
    ticks-are told 1 count cells 1 n floor tells refl same on ∙ once

-- a number that is told where the errands are roomy
pub idle-told : {A : Type 0} (m : Floor) (ties : List TieLaw) (h : History A) (most : List ℕ) (told : Bool) (ticks : ℕ) → told ≡ true → (AreRoomyFor m most → (IsTrue told ↔ AreOpenRoomy m h)) →
    ticks ≡ idle_ticks (longest_after h) (robots h) (floor_count m) → AreRoomyFor m most → IsIdleByPlan m ties h ticks
idle-told m ties h most told ticks passes tells is are = subst (IsIdleByPlan m ties h) (sym is) (open-idles m h ties ((tells are).0 passes))
