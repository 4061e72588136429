-- The state at the opening, its planner and its mailboxes.
use Rattle.std.proofs.Common.{arith, ◌≡◌, ◌∙◌, ◌≤◌, ℕ, List, length, map, ap, sym}
use Rattle.fleet_history.specs.declared.history.ClientState.{ClientState}
use Rattle.fleet_history.specs.History.{start}
use Rattle.fleet_state.proofs.Parts.{queue-limit, clients-few, tally-count}
use Rattle.fleet_core.proofs.resuming.resumed_at.Goals as goal

no_more : (a b c : ℕ) → a ≡ b → b ≡ c → a ≤ c
no_more a b c is same = omega (arith, is, same)

pub resume-requires-clause-few : goal.resume-requires-clause-few
resume-requires-clause-few g c =
    let can = c.requires.2 in
    clients-few (c.in_ok-state.ensures.of c.args.grid.now can.order)

pub resume-requires-clause-is : goal.resume-requires-clause-is
resume-requires-clause-is g c =
    let can = c.requires.2 in
    (c.args.grid.now, start c.args.opening.now, c.in_ok-state.ensures.of c.args.grid.now can.order)

pub resume-requires-clause-same : goal.resume-requires-clause-same
resume-requires-clause-same g c =
    let can = c.requires.2 in
    ap (λ (cs : List ClientState). length cs) c.as_slice-clients.ensures ∙ sym (tally-count (c.in_ok-state.ensures.of c.args.grid.now can.order))

pub resume-requires-2 : goal.resume-requires-2
resume-requires-2 g c =
    let can = c.requires.2 in
    (start c.args.opening.now, c.in_ok-state.ensures.of c.args.grid.now can.order)

pub returns-in-Ok : goal.returns-in-Ok
returns-in-Ok g c =
    let can = c.requires.2 in
    let here = c.in_ok-state.ensures.of c.args.grid.now can.order in
    record {
      is = here;
      room = c.in_ok-state.ensures.full (no_more c.in_ok-state.state.queue c.args.opening.now.queue c.args.limits.queue (queue-limit here) can.same.queue);
      aimed = c.in-Ok.ensures.aimed (start c.args.opening.now) here;
      plain = c.in-Ok.ensures.chosen;
      boxes = c.in_ok-mailboxes.ensures.boxes c.args.grid.now (start c.args.opening.now) here;
      noticed = c.in_ok-mailboxes.ensures.noticed ∙ ap (λ (cs : List ClientState). map (λ k. k.noticed) cs) c.as_slice-clients.ensures;
    }
