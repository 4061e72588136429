use Rattle.std.proofs.Common.{arith, ◌+◌, ◌^◌, ◌<◌, ◌≤◌, ap, sym, subst}
use Rattle.fleet_history.specs.History.{history_of, clients}
use Rattle.fleet_core.specs.Core.{pending}
use Rattle.fleet_core.specs.inside.Kept.{AreBoxes}
use Rattle.fleet_core.specs.inside.Mailboxes.{Mailboxes}
use Rattle.fleet_core.proofs.CoreKept.{boxes-with, either-way}
use Rattle.fleet_core.proofs.Refusals.{on_ok_map, on_err_map}
use Rattle.fleet_core.proofs.kernel.Core.widen.Goals as goal

pub widen-requires-clause-known : goal.widen-requires-clause-known
widen-requires-clause-known g c =
    let known : c.args.client < clients (history_of c.self.inside.chapter) = subst (λ w. c.args.client < clients w.history) (sym c.self.view_is) c.requires.client in
    omega (arith, c.self.invariant.boxed.count)

pub invariant_of-self : goal.invariant_of-self
invariant_of-self g c =
    let h = history_of c.self.inside.chapter in
    let known : c.args.client < clients h = subst (λ w. c.args.client < clients w.history) (sym c.self.view_is) c.requires.client in
    let k = c.self.invariant in
    record {
      is = k.is;
      room = k.room;
      within = k.within;
      boxed = either-way c.widen.result (AreBoxes h) c.widen.new.self _ c.self.inside.mailboxes c.widen.ensures.ok c.widen.ensures.err (boxes-with k.is.legal k.boxed c.args.client _ known (omega arith) (omega arith)) k.boxed;
      aimed = k.aimed;
      turns = k.turns;
      tied = k.tied;
      bounded = k.bounded;
    }

pub widen-requires-clause-small : goal.widen-requires-clause-small
widen-requires-clause-small g c = subst (λ w. (pending w c.args.client).limit + c.args.extra ≤ 2 ^ 60) (sym c.self.view_is) c.requires.small

pub returns-clause-ok : goal.returns-clause-ok
returns-clause-ok g c =
    rw (← c.self.view_is)
    (on_ok_map c.widen.result
    (λ e. ap (λ (x : Mailboxes). record { floor = c.self.inside.grid; limits = c.self.inside.limits; ties = c.self.inside.ties.items; turns = c.self.inside.planner.turns; number = c.self.inside.chapter.number; history = history_of c.self.inside.chapter; mailboxes = x.boxes }) e)
    c.widen.ensures.ok)

pub returns-clause-err : goal.returns-clause-err
returns-clause-err g c =
    rw (← c.self.view_is)
    (on_err_map c.widen.result
    (λ e. ap (λ (x : Mailboxes). record { floor = c.self.inside.grid; limits = c.self.inside.limits; ties = c.self.inside.ties.items; turns = c.self.inside.planner.turns; number = c.self.inside.chapter.number; history = history_of c.self.inside.chapter; mailboxes = x.boxes }) e)
    c.widen.ensures.err)
