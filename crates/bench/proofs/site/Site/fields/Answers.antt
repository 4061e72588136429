-- The fields with one more.
use Rattle.std.proofs.Common.{List, sym, subst, arith}
use Rattle.fleet_field.specs.Field.{Aim}
use Rattle.bench.specs.Fleet.{Serves}
use Rattle.bench.proofs.Throws.{serves_none, serves_more}
use Rattle.bench.proofs.site.Site.fields.Goals as goal

pub loop-init : goal.loop-init
loop-init c =
    let s = c.args.self.now in
    record {
      count = c.in_ok-fields.ensures.len;
      room = omega (arith, c.in_ok-fields.ensures.capacity);
      serves = subst (Serves s.grid s.home) (sym {A = List Aim} c.in_ok-fields.ensures.items) (serves_none s.grid s.home);
    }

pub from-requires : goal.from-requires
from-requires c = c.cell-goal.ensures.on_floor

pub push_reserved-requires : goal.push_reserved-requires
push_reserved-requires c = omega (arith, c.loop.invariant.count, c.loop.invariant.room, c.loop-test.true)

pub loop-preserved : goal.loop-preserved
loop-preserved c =
    let s = c.args.self.now in
    record {
      count = omega (arith, c.push_reserved.ensures.len, c.loop.invariant.count);
      room = omega (arith, c.push_reserved.ensures.capacity, c.loop.invariant.room);
      serves = subst (Serves s.grid s.home) (sym {A = List Aim} c.push_reserved.ensures.items)
          (serves_more s.grid s.home c.loop.fields.items c.cell-goal.result c.in_ok-field.field c.loop.invariant.serves c.in_ok-field.ensures c.cell-goal.ensures);
    }

pub returns-clause-serves : goal.returns-clause-serves
returns-clause-serves c = c.loop.invariant.serves
