use Rattle.std.proofs.Common.{◌≡◌, ◌<◌, ℕ, Option, Some, None, refl, sym, subst, arith, rules}
use Rattle.std.specs.Prelude.{replicate}
use Rattle.std.proofs.lemmas.List.{get_or-replicate}
use Rattle.std.proofs.lemmas.Nat.{mod_below}
use Rattle.bench.proofs.fleet.Fleet.new.Goals as goal

pub returns-clause-way : goal.returns-clause-way
returns-clause-way c =
    let starts = c.args.starts.ok.0 in
    let robots = c.len-robots.ensures in
    let aims = c.in_ok-aims.ensures in
    let zeros : c.in_ok-waits.waits.items ≡ replicate c.len-robots.result (Some 0) = c.in_ok-waits.ensures.items_if_clones_equal (λ y e. search (rules, e)) in
    record {
      placed = c.requires.placed;
      few = omega (arith, starts, c.requires.few);
      next = omega (arith, starts, robots, c.in_ok-to.to.ok.0, c.in_ok-to.ensures.len);
      waited = omega (arith, starts, robots, c.in_ok-waits.waits.ok.0, c.in_ok-waits.ensures.len);
      aimed = omega (arith, starts, robots, aims.count);
      within = c.requires.within;
      waits_of = λ r less. rw (zeros, get_or-replicate {A = Option ℕ} c.len-robots.result r (Some 0) None (omega (arith, less, starts, robots))) refl;
      aim_of = λ r less. subst (λ (k : ℕ). k < c.args.fields) (sym (aims.each r (omega (arith, less, starts, robots)))) (mod_below r c.args.fields c.requires.some);
    }

pub returns-clause-aims : goal.returns-clause-aims
returns-clause-aims c r less = c.in_ok-aims.ensures.each r (omega (arith, less, c.len-robots.ensures))
