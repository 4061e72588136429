-- The state at the opening of a chapter that is legal.
use Rattle.std.proofs.Common.{◌≡◌, ◌∙◌, ◌≤◌, List, length, ap, arith}
use Rattle.fleet_history.specs.History.{start, with_entries}
use Rattle.fleet_history.proofs.Legal.{legal-opening}
use Rattle.fleet_state.proofs.Parts.{queue-limit}
use Rattle.fleet_queue.specs.Queue.{Queue}
use Rattle.fleet_state.specs.Robots.{queue_at}
use Rattle.fleet_stats.specs.Noted.{left_below, left_of}
use Rattle.fleet_stats.specs.Rows.{shown}
use Rattle.fleet_stats.proofs.Followed.{queues-left, chapter-noted}
use Rattle.fleet_stats.proofs.follow.follow_chapter.Goals as goal

pub open-requires-clause-order : goal.open-requires-clause-order
open-requires-clause-order c = (c.requires.0, legal-opening c.requires.0 (with_entries (start c.args.opening.now) c.args.entries.now) c.requires.1.legal)

pub open-requires-clause-room : goal.open-requires-clause-room
open-requires-clause-room c =
    let order = legal-opening c.requires.0 (with_entries (start c.args.opening.now) c.args.entries.now) c.requires.1.legal in
    λ k d less. (order.robots k d less).room

pub follow_entries-requires : goal.follow_entries-requires
follow_entries-requires c =
    let order = legal-opening c.requires.0 (with_entries (start c.args.opening.now) c.args.entries.now) c.requires.1.legal in
    let is = c.in_ok-state.ensures.of c.requires.0 order in
    record { floor = c.requires.0; sound = c.requires.1; is = is; full = c.in_ok-state.ensures.full (omega (arith, queue-limit is)) }

pub returns : goal.returns
returns c =
    let h = with_entries (start c.args.opening.now) c.args.entries.now in
    let lefts : c.in_ok-notes.field-0.items ≡ left_of h =
    c.in_ok-notes.ensures ∙ ap (λ (qs : List Queue). left_below (λ r. (queue_at qs r).items) (length qs)) c.queues.ensures.queues ∙ queues-left c.in_ok-follow_entries.ensures.ended.is in
    chapter-noted h (shown c.args.notes.now) (shown c.follow_entries.new.notes) c.in_ok-notes.field-0.items c.in_ok-follow_entries.ensures.noted lefts
