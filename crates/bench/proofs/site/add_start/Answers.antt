-- The starts with one more, and with a cell that was taken before.
use Rattle.std.proofs.Common.{arith, refl}
use Rattle.bench.proofs.Throws.{start_inside, starts_still, starts_more}
use Rattle.bench.proofs.site.add_start.Goals as goal

pub take-requires : goal.take-requires
take-requires c = record {
  inside = omega (arith, start_inside c.args.site.now.grid c.args.site.now.home c.args.taken.now.items c.args.starts.now.items c.args.cell c.requires.starts c.requires.within, c.args.taken.now.ok.0);
}

pub returns-then-not-take-clause-few : goal.returns-then-not-take-clause-few
returns-then-not-take-clause-few c = omega arith

pub returns-then-not-take-clause-room : goal.returns-then-not-take-clause-room
returns-then-not-take-clause-room c = refl

pub returns-then-not-take-clause-starts : goal.returns-then-not-take-clause-starts
returns-then-not-take-clause-starts c =
    rw c.take.ensures.taken (starts_still c.args.site.now.grid c.args.site.now.home c.args.taken.now.items c.args.starts.now.items c.args.cell c.requires.starts)

pub push_reserved-requires : goal.push_reserved-requires
push_reserved-requires c = c.requires.room

pub returns-clause-few : goal.returns-clause-few
returns-clause-few c = omega (arith, c.push_reserved.ensures.len)

pub returns-clause-room : goal.returns-clause-room
returns-clause-room c = c.push_reserved.ensures.capacity

pub returns-clause-starts : goal.returns-clause-starts
returns-clause-starts c =
    let free = c.take.ensures.free c.if-not-take.false in
    rw (c.push_reserved.ensures.items, c.take.ensures.taken) (starts_more c.args.site.now.grid c.args.site.now.home c.args.taken.now.items c.args.starts.now.items c.args.cell c.requires.starts c.requires.within free)
