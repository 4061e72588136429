use Rattle.std.proofs.Common.{arith, ◌<◌, sym, subst}
use Rattle.std.proofs.lemmas.List.{length-drop}
use Rattle.fleet_history.specs.History.{history_of, clients}
use Rattle.fleet_core.specs.inside.Mailboxes.{box_at}
use Rattle.fleet_core.proofs.CoreKept.{boxes-with}
use Rattle.fleet_core.proofs.kernel.Core.give.Goals as goal

pub pop-requires : goal.pop-requires
pop-requires g c =
    let known : c.args.client < clients (history_of c.self.inside.chapter) = subst (λ w. c.args.client < clients w.history) (sym c.self.view_is) c.requires in
    omega (arith, c.self.invariant.boxed.count)

pub invariant_of-self : goal.invariant_of-self
invariant_of-self g c =
    let known : c.args.client < clients (history_of c.self.inside.chapter) = subst (λ w. c.args.client < clients w.history) (sym c.self.view_is) c.requires in
    let k = c.self.invariant in
    let box = box_at c.self.inside.mailboxes.boxes c.args.client in
    record {
      is = k.is;
      room = k.room;
      within = k.within;
      boxed = rw c.pop.ensures.rest (boxes-with k.is.legal k.boxed c.args.client _ known (omega (arith, length-drop 1 box.notices)) (omega arith));
      aimed = k.aimed;
      turns = k.turns;
      tied = k.tied;
      bounded = k.bounded;
    }
