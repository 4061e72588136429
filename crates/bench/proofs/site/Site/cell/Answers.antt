-- A cell of the part, by its number.
use Rattle.std.proofs.Common.{◌<◌, length, sym, subst, arith}
use Rattle.std.proofs.lemmas.List.{get_or_read}
use Rattle.bench.specs.Fleet.{IsWithin}
use Rattle.bench.proofs.site.Site.cell.Goals as goal

pub below-requires : goal.below-requires
below-requires c = omega (arith, c.args.self.now.some, c.len.ensures)

pub index-requires : goal.index-requires
index-requires c = omega (arith, c.below.ensures.below, c.len.ensures)

pub returns : goal.returns
returns c =
    let s = c.args.self.now in
    let inside : c.below.result < length s.cells.items = omega (arith, c.below.ensures.below, c.len.ensures, s.cells.ok.0) in
    subst (IsWithin s.grid s.home) (sym (get_or_read s.cells.items _ _ inside c.index.ensures 0)) (s.within c.below.result inside)
