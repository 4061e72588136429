use Rattle.std.proofs.Common.{◌≡◌, ℕ, List, Option, None, length, ap, ◌∙◌, arith}
use Rattle.std.proofs.lemmas.List.{length-replicate}
use Rattle.fleet_planner.proofs.Turned.{own_none, fields_none, on_none}
use Rattle.fleet_planner.proofs.aims.Aims.new.Goals as goal

pub invariant_of-result : goal.invariant_of-result
invariant_of-result g c =
    let count : length c.in_ok-keys.keys.items ≡ c.args.robots = ap (λ (keys : List (Option ℕ)). length keys) c.in_ok-keys.ensures ∙ length-replicate c.args.robots None in
    let room = c.in_ok-fresh.ensures.capacity in
    (own_none c.args.robots c.in_ok-store.store c.in_ok-keys.keys.items c.requires c.in_ok-store.ensures c.in_ok-keys.ensures, c.in_ok-fresh.ensures.items, omega (arith, count, room))

pub returns-clause-none : goal.returns-clause-none
returns-clause-none g c = fields_none c.args.robots c.in_ok-store.store c.in_ok-keys.keys.items c.in_ok-keys.ensures

pub returns-clause-on : goal.returns-clause-on
returns-clause-on g c = λ m. on_none m c.args.robots c.in_ok-store.store c.in_ok-keys.keys.items c.in_ok-keys.ensures
