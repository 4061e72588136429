use Rattle.std.proofs.Common.{◌<◌, sym, refl, subst, length}
use Rattle.std.proofs.lemmas.Result.{err_from_is_err_and}
use Rattle.fleet_history.specs.declared.history.Entry.TheVariants as entry
use Rattle.fleet_history.specs.History.{history_of, clients}
use Rattle.fleet_history.proofs.Legal.{legal-placement}
use Rattle.fleet_state.proofs.Parts.{cells-of, queue-count, tally-count}
use Rattle.mover.specs.Moving.{HasTurns}
use Rattle.fleet_bound.proofs.Errands.{accepted-gone}
use Rattle.fleet_core.specs.Core.{HasRoom, HasEntries}
use Rattle.fleet_core.specs.Hooks.{AreFarewells}
use Rattle.fleet_core.proofs.EntriesKept.{box-known, kept-take, may-follow, notice-room, notice-small, takes-so}
use Rattle.fleet_core.proofs.ClosuresKept.{farewells-take}
use Rattle.fleet_core.proofs.FaultCases.{done, take-chapter_full-mailbox_full, take-mailbox_full-chapter_full, take-no_memory-chapter_full, take-no_memory-mailbox_full}
use Rattle.fleet_core.proofs.Refusals.{kept-refused, not_both, not_same}
use Rattle.fleet_core.proofs.kernel.Core.take.Goals as goal

pub has_room-requires : goal.has_room-requires
has_room-requires g c = c.requires

pub judge-verdict-requires-clause-client : goal.judge-verdict-requires-clause-client
judge-verdict-requires-clause-client g c =
    let known : c.args.client < clients (history_of c.self.inside.chapter) = subst (λ w. c.args.client < clients w.history) (sym c.self.view_is) c.requires in
    subst (λ n. c.args.client < n) (sym (tally-count c.self.invariant.is)) known

pub judge-verdict-requires-clause-placed : goal.judge-verdict-requires-clause-placed
judge-verdict-requires-clause-placed g c = rw (cells-of c.self.invariant.is) (legal-placement c.self.inside.grid (history_of c.self.inside.chapter) c.self.invariant.is.legal)

pub make_begun-requires : goal.make_begun-requires
make_begun-requires g c = record {
  may = record {
    may = record { history = history_of c.self.inside.chapter; is = c.self.invariant.is; aimed = c.self.invariant.aimed };
    client = c.args.client;
    verdict = c.judge-verdict.ensures.verdict (history_of c.self.inside.chapter) c.self.invariant.is;
  };
  turns = subst (λ n. HasTurns c.self.inside.grid n c.self.inside.planner.turns) (sym (queue-count c.self.invariant.is)) c.self.invariant.turns;
}

-- refused

pub invariant_of-self : goal.invariant_of-self
invariant_of-self g c = rw c.make_begun.ensures.items (kept-refused c.self.invariant c.in_err-make_begun.ensures.refused c.make_begun.ensures.same)

pub returns-in_err-make_begun : goal.returns-in_err-make_begun
returns-in_err-make_begun g c =
    let p = err_from_is_err_and c.from_residual.result c.from_residual.ensures.1 in
    let yes = c.if-not-has_room.ensures.yes refl in
    let room = c.if-is_full.ensures.room refl in
    rw (p.1, p.2)
    record {
      mailbox_full = (take-no_memory-mailbox_full, λ no. absurd (not_both no yes));
      chapter_full = (take-no_memory-chapter_full, λ full. absurd (not_same room full.1));
      room = tt;
      entries = tt;
      ok = tt;
      arrives = tt;
      err = rw (c.make_begun.ensures.items, c.make_begun.ensures.same.turns) c.self.view_is;
      farewells = λ spare a. rw c.make_begun.ensures.items (subst (λ w. AreFarewells w.history spare) (sym c.self.view_is) a);
    }

-- entered

pub enter_take-requires-clause-may : goal.enter_take-requires-clause-may
enter_take-requires-clause-may g c =
    let k = c.self.invariant in
    let known = subst (λ w. c.args.client < clients w.history) (sym c.self.view_is) c.requires in
    may-follow k (entry.Take c.args.client c.args.order c.judge-verdict.result) (known, c.judge-verdict.ensures.verdict (history_of c.self.inside.chapter) k.is)

pub enter_take-requires-clause-place : goal.enter_take-requires-clause-place
enter_take-requires-clause-place g c = c.judge-verdict.ensures.place (history_of c.self.inside.chapter) c.self.invariant.is c.self.invariant.room

pub returns-then-not-has_room : goal.returns-then-not-has_room
returns-then-not-has_room g c =
    let no = c.if-not-has_room.ensures.no refl in
    record {
      mailbox_full = (λ e. no, λ n. refl);
      chapter_full = (take-mailbox_full-chapter_full, λ p. absurd (not_both no p.0));
      room = tt;
      entries = tt;
      ok = tt;
      arrives = tt;
      err = refl;
      farewells = λ spare k. k;
    }

pub returns-then-is_full : goal.returns-then-is_full
returns-then-is_full g c =
    let yes = c.if-not-has_room.ensures.yes refl in
    let full = c.if-is_full.ensures.full refl in
    record {
      mailbox_full = (take-chapter_full-mailbox_full, λ no. absurd (not_both no yes));
      chapter_full = (λ e. (yes, full), λ p. refl);
      room = tt;
      entries = tt;
      ok = tt;
      arrives = tt;
      err = refl;
      farewells = λ spare k. k;
    }

pub returns-clause-room : goal.returns-clause-room
returns-clause-room g c = c.if-not-has_room.ensures.yes refl

pub returns-clause-entries : goal.returns-clause-entries
returns-clause-entries g c = c.if-is_full.ensures.room refl

pub returns-clause-err : goal.returns-clause-err
returns-clause-err g c = tt

pub returns-clause-mailbox_full : goal.returns-clause-mailbox_full
returns-clause-mailbox_full g c = let yes = c.if-not-has_room.ensures.yes refl in (done, λ no. absurd (not_both no yes))

pub returns-clause-chapter_full : goal.returns-clause-chapter_full
returns-clause-chapter_full g c = let room = c.if-is_full.ensures.room refl in (done, λ p. absurd (not_same room p.1))

pub taken-order_no-requires : goal.taken-order_no-requires
taken-order_no-requires g c =
    let k = c.self.invariant in
    let h = history_of c.self.inside.chapter in
    let known : c.args.client < clients h = subst (λ w. c.args.client < clients w.history) (sym c.self.view_is) c.requires in
    subst (λ n. c.args.client < n) (sym (tally-count (c.enter_take.ensures.follows c.self.inside.grid h k.is (known, c.judge-verdict.ensures.verdict h k.is)))) known

pub push_verdict-requires : goal.push_verdict-requires
push_verdict-requires g c =
    let k = c.self.invariant in
    let known = subst (λ w. c.args.client < clients w.history) (sym c.self.view_is) c.requires in
    record {
      known = box-known k c.args.client known;
      small = notice-small k c.args.client known;
      room = notice-room k c.args.client known (subst (λ w. HasRoom w c.args.client) (sym c.self.view_is) (c.if-not-has_room.ensures.yes refl));
    }

pub add-requires : goal.add-requires
add-requires g c = c.in_ok-make_begun.ensures.room

pub invariant_of-self-2 : goal.invariant_of-self-2
invariant_of-self-2 g c =
    let k = c.self.invariant in
    let h = history_of c.self.inside.chapter in
    let known = subst (λ w. c.args.client < clients w.history) (sym c.self.view_is) c.requires in
    let is = c.judge-verdict.ensures.verdict h k.is in
    let next = c.enter_take.ensures.follows c.self.inside.grid h k.is (known, is) in
    let few : length h.entries < c.self.inside.limits.chapter = subst HasEntries (sym c.self.view_is) (c.if-is_full.ensures.room refl) in
    let room = subst (λ w. HasRoom w c.args.client) (sym c.self.view_is) (c.if-not-has_room.ensures.yes refl) in
    rw (c.add.ensures, c.make_begun.ensures.items, c.push_verdict.ensures)
    (kept-take k c.args.client known c.args.order c.judge-verdict.result is c.taken-order_no.result (c.taken-order_no.ensures c.self.inside.grid _ next) few next c.enter_take.ensures.rooms c.in_ok-make_begun.ensures.goals c.make_begun.ensures.same room)

pub returns-clause-ok : goal.returns-clause-ok
returns-clause-ok g c =
    let k = c.self.invariant in
    let h = history_of c.self.inside.chapter in
    let known = subst (λ w. c.args.client < clients w.history) (sym c.self.view_is) c.requires in
    let is = c.judge-verdict.ensures.verdict h k.is in
    let next = c.enter_take.ensures.follows c.self.inside.grid h k.is (known, is) in
    rw (← c.self.view_is, c.add.ensures, c.make_begun.ensures.items, c.push_verdict.ensures)
    (takes-so k c.args.client known c.args.order c.judge-verdict.result is c.taken-order_no.result (c.taken-order_no.ensures c.self.inside.grid _ next) c.make_begun.ensures.same)

pub returns-clause-farewells : goal.returns-clause-farewells
returns-clause-farewells g c spare a =
    let h = history_of c.self.inside.chapter in
    rw (c.add.ensures, c.make_begun.ensures.items)
    (farewells-take h spare (subst (λ w. AreFarewells w.history spare) (sym c.self.view_is) a) c.self.inside.grid c.args.client c.args.order c.judge-verdict.result c.self.invariant.is.legal (c.judge-verdict.ensures.verdict h c.self.invariant.is))

pub returns-clause-arrives : goal.returns-clause-arrives
returns-clause-arrives g c =
    let k = c.self.invariant in
    rw (← c.self.view_is)
    (accepted-gone c.self.inside.grid (history_of c.self.inside.chapter) c.args.client c.args.order c.judge-verdict.result k.is.legal (c.judge-verdict.ensures.verdict (history_of c.self.inside.chapter) k.is))
