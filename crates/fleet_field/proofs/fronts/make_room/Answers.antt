use Rattle.std.proofs.Common.{◌≡◌, ℕ, ◌*◌, ◌≤◌, Result, Ok, Err, is_ok, cond, length, sym, ◌∙◌, arith}
use Rattle.std.specs.Prelude.{OnOk}
use Rattle.fleet_field.proofs.fronts.make_room.Goals as goal

long_enough : {V E : Type 0} (r : Result V E) (room before after : ℕ) → after ≡ cond (is_ok r) room before → OnOk r (room ≤ after)
long_enough (Ok v) room before after e = omega (arith, e)
long_enough (Err d) room before after e = tt

pub returns-then-room-len : goal.returns-then-room-len
returns-then-room-len g c = omega (arith, c.if-room-len.true, c.len.ensures, c.args.next.now.ok.0)

pub returns : goal.returns
returns g c =
    long_enough c.resize.result (4 * c.args.count) c.args.next.now.len (length c.resize.new.self.items) (sym c.resize.new.self.ok.0 ∙ c.resize.ensures.len)
