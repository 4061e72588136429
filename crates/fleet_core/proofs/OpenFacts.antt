-- The open errands of a client, queue by queue, and how many errands all queues have.
use Rattle.std.proofs.Common.{◌≡◌, ◌∙◌, ℕ, ◌+◌, ◌^◌, ◌<◌, ◌≤◌, List, [], ◌++◌, length, map, get_or, drop, Some, sym, ap, arith, append_assoc}
use Rattle.std.specs.Prelude.{All, slice_get}
use Rattle.std.specs.List.{sum_by}
use Rattle.std.proofs.lemmas.List.{append-nil, at_drop_more, at_drop_all, get_or_default}
use Rattle.std.proofs.lemmas.List.Folds.{fold-map}
use Rattle.std.proofs.lemmas.List.Sums.{sum_by-le}
use Rattle.std.proofs.lemmas.Option.{slice_get_within, get_or_from_slice_get}
use Rattle.fleet_grid.specs.Floor.{Floor}
use Rattle.fleet_queue.specs.declared.errand.Errand.{Errand}
use Rattle.fleet_queue.specs.Queue.{Queue}
use Rattle.fleet_history.specs.History.{History, robots, unfinished}
use Rattle.fleet_history.proofs.InOrder.{legal-room}
use Rattle.fleet_history.proofs.Legal.{legal-opening}
use Rattle.fleet_state.specs.Robots.{no_queue}
use Rattle.fleet_state.specs.State.{State, IsStateOf, queue_after}
use Rattle.fleet_state.proofs.Parts.{items-of, queue-count, queue-of, robots-few}
use Rattle.fleet_core.specs.declared.open_errands.OpenErrand.{OpenErrand}
use Rattle.fleet_core.specs.OpenErrands.{open_if, open_in, open_from, queued}

-- ---- open errands

-- what was found before, one errand more, and those of the rest
pub open-more : (client robot at : ℕ) (xs : List Errand) (x : Errand) (found more all : List OpenErrand) → slice_get xs at ≡ Some x → more ≡ found ++ open_if client robot (at + 1) x →
    found ++ open_in client robot (at + 1) (drop at xs) ≡ all → more ++ open_in client robot (at + 1 + 1) (drop (at + 1) xs) ≡ all
open-more client robot at xs x found more all there is before =
    let rest : List OpenErrand = open_in client robot (at + 1 + 1) (drop (at + 1) xs) in
    let step : open_in client robot (at + 1) (drop at xs) ≡ open_if client robot (at + 1) (get_or xs at x) ++ rest = at_drop_more (open_in client robot (at + 1)) xs at x (slice_get_within xs at x there) in
    ap (λ l. l ++ rest) is ∙ append_assoc found (open_if client robot (at + 1) x) rest
    ∙ ap (λ l. found ++ l) (sym (step ∙ ap (λ y. open_if client robot (at + 1) y ++ rest) (get_or_from_slice_get xs at x x there))) ∙ before

-- an errand that is not there is past the end
pub open-past : (client robot at : ℕ) (xs : List Errand) (found all : List OpenErrand) → length xs ≤ at → found ++ open_in client robot (at + 1) (drop at xs) ≡ all → found ≡ all
open-past client robot at xs found all past is =
    sym (append-nil found) ∙ ap (λ l. found ++ l) (sym (at_drop_all (open_in client robot (at + 1)) xs at past)) ∙ is

abbrev pub items_of : List Queue → List (List Errand)
items_of queues = map (λ q. q.items) queues

-- what was found before, one queue more, and those of the rest
pub queues-more : (client robot : ℕ) (queues : List Queue) (q : Queue) (found more all : List OpenErrand) → robot < length queues → q ≡ get_or queues robot q → more ≡ found ++ open_in client robot 1 q.items →
    found ++ open_from client robot (items_of (drop robot queues)) ≡ all → more ++ open_from client (robot + 1) (items_of (drop (robot + 1) queues)) ≡ all
queues-more client robot queues q found more all within there is before =
    let rest : List OpenErrand = open_from client (robot + 1) (items_of (drop (robot + 1) queues)) in
    let step : open_from client robot (items_of (drop robot queues)) ≡ open_in client robot 1 (get_or queues robot q).items ++ rest = at_drop_more (λ l. open_from client robot (items_of l)) queues robot q within in
    ap (λ l. l ++ rest) is ∙ append_assoc found (open_in client robot 1 q.items) rest
    ∙ ap (λ l. found ++ l) (sym (step ∙ ap (λ (x : Queue). open_in client robot 1 x.items ++ rest) (sym there))) ∙ before

pub queues-past : (client robot : ℕ) (queues : List Queue) (found all : List OpenErrand) → length queues ≤ robot → found ++ open_from client robot (items_of (drop robot queues)) ≡ all → found ≡ all
queues-past client robot queues found all past is =
    sym (append-nil found) ∙ ap (λ l. found ++ l) (sym (at_drop_all (λ l. open_from client robot (items_of l)) queues robot past)) ∙ is

-- nothing was found before
pub all-found : (client : ℕ) (queues : List (List Errand)) (none found : List OpenErrand) → none ≡ [] → found ≡ none ++ open_from client 0 queues → found ≡ open_from client 0 queues
all-found client queues none found empty is = is ∙ ap (λ (l : List OpenErrand). l ++ open_from client 0 queues) empty

-- ---- how long the queues are

pub sum-items : (queues : List Queue) → sum_by length (items_of queues) ≡ sum_by (λ q. length q.items) queues
sum-items queues = fold-map (λ (a : ℕ) (xs : List Errand). a + length xs) (λ (q : Queue). q.items) 0 queues

module _ {A : Type 0} {m : Floor} {h : History A} {s : State A} (k : IsStateOf m h s) where
  short : All (λ (q : Queue). length q.items ≤ 65536) s.queues
  short = λ r d l.
      (let inside : r < robots h = omega (arith, l, queue-count k) in
      let same : get_or s.queues r d ≡ queue_after s.rooms h r = get_or_default s.queues r d no_queue l ∙ queue-of k r inside in
      let few : length (get_or s.queues r d).items ≡ length (unfinished h r) = ap (λ (q : Queue). length q.items) same in
      omega (arith, few, legal-room m h r k.legal inside, (legal-opening m h k.legal).queue.1))

  pub sum-fits : sum_by (λ q. length q.items) s.queues < 2 ^ 64
  sum-fits = omega (arith, sum_by-le (λ (q : Queue). length q.items) 65536 s.queues short, robots-few k)

  pub sum-is : sum_by (λ q. length q.items) s.queues ≡ queued h
  sum-is = sym (sum-items s.queues) ∙ ap (λ (l : List (List Errand)). sum_by length l) (items-of k)
