use Rattle.std.proofs.Common.{arith, ◌≡◌, ◌+◌, ◌<◌, ◌∙◌, ℕ, List, length, take, get_or, ap}
use Rattle.std.specs.List.{sum_by}
use Rattle.std.proofs.lemmas.List.{take_all}
use Rattle.std.proofs.lemmas.List.Sums.{sum_by_more, sum_by-take-le}
use Rattle.fleet_queue.specs.Queue.{Queue}
use Rattle.fleet_core.proofs.queues.sum_of.Goals as goal

abbrev len_of : Queue → ℕ
len_of q = length q.items

-- the errands of one more queue
one-more : (queues : List Queue) (i sum n : ℕ) (q : Queue) → i < length queues → q ≡ get_or queues i q → n ≡ len_of q → sum ≡ sum_by len_of (take i queues) → sum + n ≡ sum_by len_of (take (i + 1) queues)
one-more queues i sum n q l is counted so_far =
    let here : n ≡ len_of (get_or queues i q) = counted ∙ ap len_of is in
    omega (arith, here, so_far, sum_by_more len_of queues i q l)

pub overflow_add-sum : goal.overflow_add-sum
overflow_add-sum g c =
    let queues = c.args.queues.now in
    let i = c.loop-queue.queue-index in
    let sum = one-more queues i c.loop-queue.sum c.len.result c.queue-item.result c.loop-queue-test.true c.queue-item.is c.len.ensures.len c.loop-queue.invariant in
    omega (arith, sum, sum_by-take-le len_of queues (i + 1), c.requires)

pub loop-queue-preserved : goal.loop-queue-preserved
loop-queue-preserved g c =
    one-more c.args.queues.now c.loop-queue.queue-index c.loop-queue.sum c.len.result c.queue-item.result c.loop-queue-test.true c.queue-item.is c.len.ensures.len c.loop-queue.invariant

pub returns : goal.returns
returns g c = c.loop-queue.invariant ∙ ap (sum_by len_of) (take_all c.loop-queue.queue-index c.args.queues.now c.loop-queue-test.false)
