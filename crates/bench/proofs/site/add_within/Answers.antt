-- The cells with one more, and as they were.
use Rattle.std.proofs.Common.{refl, sym, subst, List, ℕ, arith}
use Rattle.bench.specs.Fleet.{AreWithin}
use Rattle.bench.proofs.Throws.{within_more}
use Rattle.bench.proofs.site.add_within.Goals as goal

pub is_within-requires : goal.is_within-requires
is_within-requires c = c.requires.home

pub returns-then-cell-home-clause-more : goal.returns-then-cell-home-clause-more
returns-then-cell-home-clause-more c = omega arith

pub returns-then-cell-home-clause-within : goal.returns-then-cell-home-clause-within
returns-then-cell-home-clause-within c = c.requires.within

pub returns-clause-more : goal.returns-clause-more
returns-clause-more c = omega (arith, c.in_ok-push.ensures.len)

pub returns-clause-within : goal.returns-clause-within
returns-clause-within c =
    let m = c.args.grid.now in
    subst (AreWithin m c.args.home) (sym {A = List ℕ} c.in_ok-push.ensures.items) (within_more m c.args.home c.args.cells.now.items c.args.cell c.requires.within (c.if-not-is_within.ensures refl))
