use Rattle.std.proofs.Common.{◌≡◌, ◌+◌, ◌<◌, ◌≤◌, ℕ, length, sym, subst, arith}
use Rattle.std.specs.Prelude.{Result, Ok, Err, OnOk}
use Rattle.fleet_core.specs.Core.{World, pending, widened, HasRoom}
use Rattle.fleet_office.specs.Draining.{used}
use Rattle.fleet_office.proofs.Drains.{widens_by, widens_none, room_wide}
use Rattle.fleet_office.proofs.taking.make_room.Goals as goal
use Rattle.fleet_office.proofs.taking.make_room.Goals.{then-left, else-left}

room_by : {A X E : Type 0} (w u : World A) (c extra : ℕ) (r : Result X E) → c < length w.mailboxes → OnOk r (u ≡ widened w c extra) → used w c + 2 ≤ (pending w c).limit + extra → OnOk r (HasRoom u c)
room_by w u c extra (Ok x) inside ok few = subst (λ v. HasRoom v c) (sym ok) (room_wide w c ((pending w c).limit + extra) inside few)
room_by w u c extra (Err e) inside ok few = tt

pub pending_count-requires : goal.pending_count-requires
pending_count-requires g c = c.requires.client

pub owed-requires : goal.owed-requires
owed-requires g c = c.requires.client

pub room_of-limit-requires : goal.room_of-limit-requires
room_of-limit-requires g c = c.requires.client

pub returns-then-used-limit : goal.returns-then-used-limit
returns-then-used-limit g c = record {
  widens = widens_none c.args.core.now c.args.client c.args.left c.requires.there;
  room = omega (arith, c.pending_count.ensures, c.owed.ensures, c.room_of-limit.ensures, c.if-used-limit.true);
}

pub returns : goal.returns
returns g c =
    let few : c.if-left.orders ≤ c.args.left = elim c.if-left.branch [ then-left w ↦ omega (arith, w.orders-is) | else-left w ↦ omega (arith, w.if-left, w.orders-is) ] in
    let some : 1 ≤ c.if-left.orders = elim c.if-left.branch [ then-left w ↦ omega (arith, w.orders-is, c.requires.some) | else-left w ↦ omega (arith, w.orders-is) ] in
    record {
      widens = widens_by c.args.core.now c.widen.new.self c.args.client c.args.left _ c.widen.result c.requires.there c.widen.ensures.ok c.widen.ensures.err
          (omega (arith, few, c.pending_count.ensures, c.owed.ensures, c.room_of-limit.ensures, c.if-used-limit.false));
      room = room_by c.args.core.now c.widen.new.self c.args.client _ c.widen.result c.requires.there c.widen.ensures.ok
          (omega (arith, some, c.pending_count.ensures, c.owed.ensures, c.room_of-limit.ensures, c.if-used-limit.false));
    }
