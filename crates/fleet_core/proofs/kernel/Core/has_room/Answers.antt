use Rattle.std.proofs.Common.{arith, ◌+◌, ◌<◌, subst, sym}
use Rattle.std.proofs.lemmas.Bool.{leb-false}
use Rattle.fleet_history.specs.History.{history_of, clients}
use Rattle.fleet_state.proofs.Parts.{tally-count}
use Rattle.fleet_core.specs.Core.{HasNoRoom}
use Rattle.fleet_core.proofs.CoreKept.{counts-small}
use Rattle.fleet_core.proofs.kernel.Core.has_room.Goals as goal

pub len_of-requires : goal.len_of-requires
len_of-requires g c =
    let known : c.args.client < clients (history_of c.self.inside.chapter) = subst (λ w. c.args.client < clients w.history) (sym c.self.view_is) c.requires in
    omega (arith, c.self.invariant.boxed.count)

pub owed-requires : goal.owed-requires
owed-requires g c =
    let known : c.args.client < clients (history_of c.self.inside.chapter) = subst (λ w. c.args.client < clients w.history) (sym c.self.view_is) c.requires in
    omega (arith, tally-count c.self.invariant.is)

pub overflow_add-result : goal.overflow_add-result
overflow_add-result g c =
    let known : c.args.client < clients (history_of c.self.inside.chapter) = subst (λ w. c.args.client < clients w.history) (sym c.self.view_is) c.requires in
    let k = c.self.invariant in
    omega (arith, c.len_of.ensures.small, c.owed.ensures c.self.inside.grid (history_of c.self.inside.chapter) k.is, counts-small k.within c.self.inside.grid k.is.legal c.args.client known)

pub overflow_add-result-2 : goal.overflow_add-result-2
overflow_add-result-2 g c =
    let known : c.args.client < clients (history_of c.self.inside.chapter) = subst (λ w. c.args.client < clients w.history) (sym c.self.view_is) c.requires in
    let k = c.self.invariant in
    omega (arith, c.len_of.ensures.small, c.owed.ensures c.self.inside.grid (history_of c.self.inside.chapter) k.is, counts-small k.within c.self.inside.grid k.is.legal c.args.client known)

pub returns-clause-no : goal.returns-clause-no
returns-clause-no g c e =
    let more = leb-false (c.len_of.result + c.owed.result + 2) c.limit_of.result e in
    let owed = c.owed.ensures c.self.inside.grid (history_of c.self.inside.chapter) c.self.invariant.is in
    subst (λ w. HasNoRoom w c.args.client) c.self.view_is
    (omega (arith, more, owed, c.len_of.ensures.value, c.limit_of.ensures))
