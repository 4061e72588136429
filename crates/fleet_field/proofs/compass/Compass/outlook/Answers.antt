-- The byte of a floor cell.
use Rattle.std.proofs.Common.{◌≡◌, ℕ, ◌/◌, get_or, None, sym, subst, ◌∙◌, arith}
use Rattle.std.proofs.lemmas.List.{get_or_read}
use Rattle.fleet_grid.specs.Ways.{AreNearer, AreOpen}
use Rattle.fleet_field.specs.Compass.{low}
use Rattle.fleet_field.specs.Field.{Aim}
use Rattle.fleet_field.proofs.Nearer.{are_nearer, byte_inside, exits_at}
use Rattle.fleet_field.proofs.compass.Compass.outlook.Goals as goal

pub index-byte-requires : goal.index-byte-requires
index-byte-requires g c =
    let f = c.self.inside in
    let inside = byte_inside c.args.grid.now f.height f.width f.goal c.args.cell f.ways.items c.args.self.now c.self.invariant c.self.view_is c.requires.field c.requires.floor in
    omega (arith, inside, f.ways.ok.0)

pub returns-then-width-self-clause-exits : goal.returns-then-width-self-clause-exits
returns-then-width-self-clause-exits g c =
    let f = c.self.inside in
    let inside = byte_inside c.args.grid.now f.height f.width f.goal c.args.cell f.ways.items c.args.self.now c.self.invariant c.self.view_is c.requires.field c.requires.floor in
    subst (λ (byte : ℕ). AreOpen c.args.grid.now c.args.cell (byte / 16)) (sym (get_or_read f.ways.items _ _ inside c.index-byte.ensures 0))
    (exits_at c.args.grid.now f.height f.width f.goal c.args.cell f.ways.items c.args.self.now c.self.view_is c.requires.field c.requires.floor inside)

pub returns-clause-exits : goal.returns-clause-exits
returns-clause-exits g c =
    let f = c.self.inside in
    let inside = byte_inside c.args.grid.now f.height f.width f.goal c.args.cell f.ways.items c.args.self.now c.self.invariant c.self.view_is c.requires.field c.requires.floor in
    subst (λ (byte : ℕ). AreOpen c.args.grid.now c.args.cell (byte / 16)) (sym (get_or_read f.ways.items _ _ inside c.index-byte.ensures 0))
    (exits_at c.args.grid.now f.height f.width f.goal c.args.cell f.ways.items c.args.self.now c.self.view_is c.requires.field c.requires.floor inside)

pub returns-clause-nearer : goal.returns-clause-nearer
returns-clause-nearer g c =
    let f = c.self.inside in
    let inside = byte_inside c.args.grid.now f.height f.width f.goal c.args.cell f.ways.items c.args.self.now c.self.invariant c.self.view_is c.requires.field c.requires.floor in
    subst (λ (byte : ℕ). AreNearer c.args.grid.now (λ i. get_or c.args.self.now.away i None) c.args.cell (low byte)) (sym (get_or_read f.ways.items _ _ inside c.index-byte.ensures 0))
    (subst (λ (a : Aim). AreNearer c.args.grid.now (λ i. get_or a.away i None) c.args.cell (low (get_or f.ways.items c.args.cell 0))) c.self.view_is
    (are_nearer c.args.grid.now f.height f.width f.goal f.ways.items c.self.invariant (sym c.width.ensures.value ∙ c.if-width-self.false) c.args.cell))
