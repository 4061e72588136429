-- The longest queue of a fleet.
use Rattle.std.proofs.Common.{◌≡◌, ℕ, suc, ◌+◌, ◌<◌, ◌≤◌, inl, inr, List, [], ◌∷◌, length, map, sym, refl, ap, ◌∙◌, arith}
use Rattle.std.specs.Prelude.{max, fold, slice_index_or}
use Rattle.std.specs.List.{range_with_len}
use Rattle.std.proofs.lemmas.List.{length-map, get_or-map}
use Rattle.std.proofs.lemmas.List.Folds.{fold-map}
use Rattle.fleet_grid.specs.Floor.{Floor}
use Rattle.fleet_queue.specs.Queue.{Queue}
use Rattle.fleet_history.specs.History.{History, robots, unfinished}
use Rattle.fleet_history.specs.Legal.{IsLegal}
use Rattle.fleet_history.proofs.Legal.{legal-opening}
use Rattle.fleet_history.proofs.InOrder.{legal-room}
use Rattle.fleet_bound.specs.Idle.{longest_queue, longest_after}
use Rattle.fleet_bound.proofs.Greatest.{greatest_of-item, greatest_of-met}

-- as a number of each robot
pub longest-by_robot : {A : Type 0} (h : History A) → longest_after h ≡ fold max 0 (map (λ r. length (unfinished h r)) (range_with_len 0 (robots h)))
longest-by_robot h =
    let range : List ℕ = range_with_len 0 (robots h) in
    fold-map max length 0 (map (unfinished h) range) ∙ fold-map (λ b xs. max b (length xs)) (unfinished h) 0 range ∙ sym (fold-map max (λ r. length (unfinished h r)) 0 range)

pub longest-item : {A : Type 0} (h : History A) (r : ℕ) → r < robots h → length (unfinished h r) ≤ longest_after h
longest-item h r l = omega (arith, longest-by_robot h, greatest_of-item (λ q. length (unfinished h q)) 0 (robots h) r l)

-- no queue has more errands than there may be
pub longest-room : {A : Type 0} (m : Floor) (h : History A) → IsLegal m h → longest_after h ≤ 65536
longest-room m h legal = elim (greatest_of-met (λ q. length (unfinished h q)) 0 (robots h)) [
  | inl none ↦ omega (arith, longest-by_robot h, none)
  | inr met ↦ omega (arith, longest-by_robot h, met.2, legal-room m h met.0 legal met.1, (legal-opening m h legal).queue.1)
]

list_is : {X : Type 0} (f : ℕ → X) (a : ℕ) (xs : List X) (d : X) → ((k : ℕ) → k < length xs → slice_index_or xs k d ≡ f (a + k)) → xs ≡ map f (range_with_len a (length xs))
list_is f a [] d each = refl
list_is {X = X} f a (x ∷ xs) d each =
    let here : x ≡ f a = each 0 (omega arith) ∙ ap f (omega arith) in
    let rest : xs ≡ map f (range_with_len (a + 1) (length xs)) = list_is f (a + 1) xs d (λ k l. each (suc k) (omega arith) ∙ ap f (omega arith)) in
    ap (λ (y : X). y ∷ xs) here ∙ ap (λ ys. f a ∷ ys) rest

-- queues that hold what the history leaves unfinished
pub longest-queues : {A : Type 0} (h : History A) (queues : List Queue) (d : Queue) → length queues ≡ robots h →
    ((r : ℕ) → r < robots h → (slice_index_or queues r d).items ≡ unfinished h r) → longest_queue (map (λ q. q.items) queues) ≡ longest_after h
longest-queues h queues d count each =
    let all : length (map (λ q. q.items) queues) ≡ robots h = length-map queues (λ q. q.items) ∙ count in
    let same = list_is (unfinished h) 0 (map (λ q. q.items) queues) d.items (λ k l.
    get_or-map (λ (q : Queue). q.items) queues k d d.items (omega (arith, all, count)) ∙ each k (omega (arith, all)) ∙ ap (unfinished h) (let e : k ≡ 0 + k = omega arith in e)) in
    ap longest_queue (same ∙ ap (λ n. map (unfinished h) (range_with_len 0 n)) all)
