use Rattle.std.proofs.Common.{◌≡◌, List, Option, refl, sym, subst, arith}
use Rattle.fleet_field.specs.Field.{Aim}
use Rattle.fleet_field.specs.inside.Uses.{IsFilled}
use Rattle.fleet_field.specs.Store.{IsOnce}
use Rattle.fleet_field.specs.declared.store.Held.{Held}
use Rattle.fleet_field.proofs.Uses.{few_filled}
use Rattle.fleet_field.proofs.Together.{there_with, on_err}
use Rattle.slab.specs.Slab.{HasRoomFor}
use Rattle.fleet_field.proofs.holds.hold_with.Goals as goal

pub put_all-requires-clause-room : goal.put_all-requires-clause-room
put_all-requires-clause-room g c = subst (HasRoomFor c.reserve.new.self) c.len.ensures c.in_ok-reserve.ensures.room

pub put_all-requires-clause-once : goal.put_all-requires-clause-once
put_all-requires-clause-once g c = subst IsOnce (sym c.reserve.ensures.slots) c.requires.once

pub use_all-requires-clause-there : goal.use_all-requires-clause-there
use_all-requires-clause-there g c =
    let same : c.reserve.new.self.slots ≡ c.args.held.now.slots = c.reserve.ensures.slots in
    there_with c.args.goals.now c.args.fields.items c.args.held.now.slots c.put_all.new.held.slots
    (subst (λ (s : List (Option (Held Aim))). IsFilled c.args.fields.items s c.put_all.new.held.slots) same c.put_all.ensures.filled) c.put_all.ensures.there c.requires.each

pub use_all-requires-clause-fewer : goal.use_all-requires-clause-fewer
use_all-requires-clause-fewer g c =
    let same : c.reserve.new.self.slots ≡ c.args.held.now.slots = c.reserve.ensures.slots in
    few_filled c.args.fields.items c.args.goals.now c.args.held.now.slots c.put_all.new.held.slots
    (subst (λ (s : List (Option (Held Aim))). IsFilled c.args.fields.items s c.put_all.new.held.slots) same c.put_all.ensures.filled) c.requires.fewer

pub returns-clause-used : goal.returns-clause-used
returns-clause-used g c =
    let same : c.reserve.new.self.slots ≡ c.args.held.now.slots = c.reserve.ensures.slots in
    record {
      all = c.put_all.new.held.slots;
      filled = subst (λ (s : List (Option (Held Aim))). IsFilled c.args.fields.items s c.put_all.new.held.slots) same c.put_all.ensures.filled;
      used = c.use_all.ensures.used;
      shown = c.use_all.ensures.shown;
    }

pub returns-in_err-reserve-clause-refused : goal.returns-in_err-reserve-clause-refused
returns-in_err-reserve-clause-refused g c =
    on_err (c.reserve.new.self.slots ≡ c.args.held.now.slots) c.from_residual-in_err-reserve.result c.reserve.ensures.slots

pub use_all-requires-clause-once : goal.use_all-requires-clause-once
use_all-requires-clause-once g c = c.put_all.ensures.filled.once

pub use_all-requires-clause-room : goal.use_all-requires-clause-room
use_all-requires-clause-room g c = omega (arith, c.in_ok-keys.ensures.capacity)

pub use_all-requires-clause-empty : goal.use_all-requires-clause-empty
use_all-requires-clause-empty g c = c.in_ok-keys.ensures.items

pub returns-clause-refused : goal.returns-clause-refused
returns-clause-refused g c = tt

pub returns-in_err-keys-clause-refused : goal.returns-in_err-keys-clause-refused
returns-in_err-keys-clause-refused g c = on_err (c.args.held.now.slots ≡ c.args.held.now.slots) c.from_residual.result refl
