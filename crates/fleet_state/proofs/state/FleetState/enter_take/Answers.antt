use Rattle.std.proofs.Common.{arith, ap}
use Rattle.fleet_history.specs.declared.history.Entry.TheVariants as entry
use Rattle.fleet_history.specs.History.{after}
use Rattle.fleet_history.proofs.Counts.{legal-counts}
use Rattle.fleet_state.specs.declared.clients.Tally.{Tally}
use Rattle.fleet_state.proofs.Parts.{inside, account-of, tally-count, tally-of}
use Rattle.fleet_state.proofs.Laws.{taken-small, noticed-small}
use Rattle.fleet_state.proofs.Accounts.{may-enter}
use Rattle.fleet_state.proofs.Entered.{taken-is, life-of}
use Rattle.fleet_state.proofs.state.FleetState.enter_take.Goals as goal

pub take-requires-2-clause-client : goal.take-requires-2-clause-client
take-requires-2-clause-client g c = omega (arith, tally-count (inside c.self.view_is c.requires.may.is), c.requires.may.fits.0)

pub take-requires-2-clause-may : goal.take-requires-2-clause-may
take-requires-2-clause-may g c =
    let may = c.requires.may in
    let i = inside c.self.view_is may.is in
    rw (life-of i, account-of i c.args.client may.fits.0)
    (may-enter may.floor may.history c.args.client c.args.order c.args.verdict may.is.legal may.fits.1 (legal-counts may.floor may.history c.args.client may.is.legal may.fits.0).within_life)

pub take-requires-2-clause-taken : goal.take-requires-2-clause-taken
take-requires-2-clause-taken g c =
    let may = c.requires.may in
    omega (arith, ap (λ (t : Tally). t.taken) (tally-of (inside c.self.view_is may.is) c.args.client may.fits.0), taken-small may.floor may.history c.args.client may.is.legal may.fits.0 may.few)

pub take-requires-2-clause-noticed : goal.take-requires-2-clause-noticed
take-requires-2-clause-noticed g c =
    let may = c.requires.may in
    omega (arith, ap (λ (t : Tally). t.noticed) (tally-of (inside c.self.view_is may.is) c.args.client may.fits.0), noticed-small may.floor may.history c.args.client may.is.legal may.fits.0 may.few)

pub invariant_of-self : goal.invariant_of-self
invariant_of-self g c =
    let may = c.requires.may in
    record {
      floor = may.floor;
      history = after may.history (entry.Take c.args.client c.args.order c.args.verdict);
      is = rw c.take-2.ensures (taken-is (inside c.self.view_is may.is) c.args.client c.args.order c.args.verdict c.take.new.self may.fits.0 may.fits.1 c.take.ensures);
    }

pub returns-clause-follows : goal.returns-clause-follows
returns-clause-follows g c m h k fits =
    rw c.take-2.ensures (taken-is (inside c.self.view_is k) c.args.client c.args.order c.args.verdict c.take.new.self fits.0 fits.1 c.take.ensures)
