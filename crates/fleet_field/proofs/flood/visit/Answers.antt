use Rattle.std.proofs.Common.{inl, inr, refl, arith}
use Rattle.std.proofs.lemmas.List.{length-set, take_more_set}
use Rattle.fleet_field.proofs.flood.visit.Goals as goal

pub bounds-dist-cell : goal.bounds-dist-cell
bounds-dist-cell c = c.requires.inside

pub returns-then-dist-cell-clause-len : goal.returns-then-dist-cell-clause-len
returns-then-dist-cell-clause-len c = refl

pub returns-then-dist-cell-clause-kept : goal.returns-then-dist-cell-clause-kept
returns-then-dist-cell-clause-kept c = refl

pub returns-then-dist-cell-clause-most : goal.returns-then-dist-cell-clause-most
returns-then-dist-cell-clause-most c = omega arith

pub returns-then-dist-cell-clause-visit : goal.returns-then-dist-cell-clause-visit
returns-then-dist-cell-clause-visit c = inl (λ e. omega (arith, e), refl, refl)

pub bounds-dist-cell-2 : goal.bounds-dist-cell-2
bounds-dist-cell-2 c = c.requires.inside

pub bounds-next-count : goal.bounds-next-count
bounds-next-count c = c.requires.room

pub returns-clause-len : goal.returns-clause-len
returns-clause-len c = length-set c.args.dist.now c.args.cell c.args.level

pub returns-clause-kept : goal.returns-clause-kept
returns-clause-kept c = length-set c.args.next.now c.args.count c.args.cell

pub returns-clause-most : goal.returns-clause-most
returns-clause-most c = omega arith

pub returns-clause-visit : goal.returns-clause-visit
returns-clause-visit c = inr (omega arith, refl, take_more_set c.args.next.now c.args.count c.args.cell c.requires.room)
