-- The goals with one more.
use Rattle.std.proofs.Common.{ℕ, List, sym, subst, arith}
use Rattle.bench.specs.Fleet.{AreWithin}
use Rattle.bench.proofs.Throws.{within_none, within_more}
use Rattle.bench.proofs.site.Site.goals.Goals as goal

pub loop-init : goal.loop-init
loop-init c =
    let s = c.args.self.now in
    record {
      count = c.in_ok-goals.ensures.len;
      room = omega (arith, c.in_ok-goals.ensures.capacity);
      within = subst (AreWithin s.grid s.home) (sym {A = List ℕ} c.in_ok-goals.ensures.items) (within_none s.grid s.home);
    }

pub push_reserved-requires : goal.push_reserved-requires
push_reserved-requires c = omega (arith, c.loop.invariant.count, c.loop.invariant.room, c.loop-test.true)

pub loop-preserved : goal.loop-preserved
loop-preserved c =
    let s = c.args.self.now in
    record {
      count = omega (arith, c.push_reserved.ensures.len, c.loop.invariant.count);
      room = omega (arith, c.push_reserved.ensures.capacity, c.loop.invariant.room);
      within = subst (AreWithin s.grid s.home) (sym {A = List ℕ} c.push_reserved.ensures.items) (within_more s.grid s.home c.loop.goals.items c.cell.result c.loop.invariant.within c.cell.ensures);
    }

pub returns-clause-within : goal.returns-clause-within
returns-clause-within c = c.loop.invariant.within
