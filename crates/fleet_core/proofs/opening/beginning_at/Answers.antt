-- The state, the planner and the mailboxes at the opening.
use Rattle.std.proofs.Common.{arith, ◌≡◌, ◌∙◌, ◌≤◌, ℕ, length, ap, sym, subst}
use Rattle.std.proofs.lemmas.Result.{IfOk-from_err}
use Rattle.fleet_history.specs.declared.history.Opening.{Opening}
use Rattle.fleet_history.specs.History.{start}
use Rattle.fleet_history.specs.Legal.{IsInOrder}
use Rattle.fleet_history.proofs.Legal.{legal-opening}
use Rattle.fleet_history.proofs.Ticks.{each_tick-start}
use Rattle.mover.specs.Moving.{IsPlannedAs}
use Rattle.fleet_core.proofs.Manners.{no-turns}
use Rattle.fleet_state.specs.State.{IsStateOf}
use Rattle.fleet_state.proofs.Parts.{queue-limit}
use Rattle.fleet_core.specs.Core.{opening_of}
use Rattle.fleet_core.specs.inside.Mailboxes.{Mailboxes}
use Rattle.fleet_core.proofs.WaitBound.{bound-opened}
use Rattle.fleet_planner.proofs.GoalsKept.{aimed-start}
use Rattle.fleet_core.proofs.OpeningFacts.{legal-opened, boxes-opened, within-opened, robot_count, unfinished-opened}
use Rattle.fleet_core.proofs.opening.beginning_at.Goals as goal

no_more : (a b : ℕ) → a ≡ b → a ≤ b
no_more a b same = omega (arith, same)

pub opened-requires : goal.opened-requires
opened-requires g c = (c.args.grid.now, c.requires)

pub returns-in_err-opening : goal.returns-in_err-opening
returns-in_err-opening g c = IfOk-from_err c.from_residual.result _ c.from_residual.ensures.0

pub returns-in-Err : goal.returns-in-Err
returns-in-Err g c = tt

pub means-requires : goal.means-requires
means-requires g c = c.requires.robots.1

pub returns-in-Ok : goal.returns-in-Ok
returns-in-Ok g c =
    let o : Opening g.row.A.Denot = opening_of c.args.starts.now c.args.clients c.args.limits c.args.laws.now in
    let n = length c.args.starts.now in
    let begun = c.in_ok-opening.ensures in
    let means = c.in-Ok.ensures in
    let many = robot_count g.row.A.Denot c.args.starts.now c.args.laws.now.arrivals c.args.laws.now.farewells in
    let i : IsInOrder c.args.grid.now o = legal-opening c.args.grid.now (start o) (legal-opened c.args.grid.now c.args.starts.now c.args.clients c.args.limits c.args.laws.now c.requires begun.orderly) in
    let here : IsStateOf c.args.grid.now (start o) c.in_ok-opening.state =
    subst (λ (x : Opening g.row.A.Denot). IsStateOf c.args.grid.now (start x) c.in_ok-opening.state) begun.opening (begun.of c.args.grid.now (subst (IsInOrder c.args.grid.now) (sym begun.opening) i)) in
    record {
      plain = means.plain;
      opening = begun.opening;
      mailboxes = ap (λ (x : Mailboxes). x.boxes) means.mailboxes;
      kept = rw begun.opening
          record {
            is = here;
            room = begun.full (no_more c.in_ok-opening.state.queue c.args.limits.queue (queue-limit here));
            within = within-opened c.args.grid.now c.args.starts.now c.args.clients c.args.limits c.args.laws.now c.requires;
            boxed = rw means.mailboxes (boxes-opened c.args.grid.now c.args.starts.now c.args.clients c.args.limits c.args.laws.now c.requires);
            aimed = aimed-start c.args.grid.now o n c.in-Ok.planner.planner many (unfinished-opened g.row.A.Denot c.args.starts.now c.args.clients c.args.limits c.args.laws.now)
                means.planner.none means.planner.on means.planner.size means.planner.bridge means.planner.keeps;
            turns = no-turns c.args.grid.now _ c.in-Ok.planner.turns means.plain;
            tied = record { count = c.requires.hooks.ties ∙ sym many; planned = each_tick-start (IsPlannedAs c.in-Ok.planner.turns c.args.grid.now c.args.laws.now.ties) o };
            bounded = λ none. bound-opened c.args.grid.now c.args.starts.now c.args.clients c.args.limits c.args.laws.now c.requires begun.orderly;
          };
    }
