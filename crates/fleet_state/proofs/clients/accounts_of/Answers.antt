use Rattle.std.proofs.Common.{arith, ◌≡◌, ◌∙◌, ap, map, length, refl}
use Rattle.std.specs.List.{range_with_len}
use Rattle.fleet_state.specs.Opened.{account_in}
use Rattle.fleet_state.proofs.Ranges.{map-range_more}
use Rattle.fleet_state.proofs.clients.accounts_of.Goals as goal

pub loop-c-preserved : goal.loop-c-preserved
loop-c-preserved g c =
    rw (c.in_ok-push.ensures.items, map-range_more (account_in c.args.clients.now c.args.robots.now) c.loop-c.c, c.loop-c.invariant, c.owed_of.ensures) refl

pub returns : goal.returns
returns g c =
    let last : c.loop-c.c ≡ length c.args.clients.now = omega (arith, c.loop-c.auto.c-end) in
    c.loop-c.invariant ∙ ap (λ n. map (account_in c.args.clients.now c.args.robots.now) (range_with_len 0 n)) last

pub owed_of-requires : goal.owed_of-requires
owed_of-requires g c = c.requires.small c.loop-c.c c.loop-c-test.true

pub overflow_cast-c : goal.overflow_cast-c
overflow_cast-c g c = omega (arith, c.requires.few, c.loop-c-test.true)

pub bounds-clients-c : goal.bounds-clients-c
bounds-clients-c g c = c.loop-c-test.true
