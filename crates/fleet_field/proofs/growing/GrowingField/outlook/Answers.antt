use Rattle.std.proofs.Common.{◌≡◌, ℕ, ◌↔◌, subst}
use Rattle.fleet_grid.specs.declared.dir.Dir.TheVariants.{North, East, South, West}
use Rattle.fleet_grid.specs.Floor.{Floor}
use Rattle.fleet_grid.specs.Ways.{IsLess}
use Rattle.fleet_grid.specs.Distance.{distance}
use Rattle.fleet_field.proofs.growing.GrowingField.outlook.Goals as goal

-- through a test, and to the goal as it was
through : {P Q : Type 0} (m : Floor) (w cell x y : ℕ) → x ≡ y → P ↔ Q → Q ↔ IsLess (distance m w x) (distance m cell x) → P ↔ IsLess (distance m w y) (distance m cell y)
through {P} {Q} m w cell x y e a b =
    subst (λ (z : ℕ). P ↔ IsLess (distance m w z) (distance m cell z)) e (λ p. b.0 (a.0 p), λ r. a.1 (b.1 r))

pub returns-clause-nearer : goal.returns-clause-nearer
returns-clause-nearer g c North w n = through c.args.grid.now w c.args.cell c.reach.new.self.goal c.args.self.now.goal c.reach.ensures.goal c.of-nearer.ensures.north (c.is_nearer.ensures w n)
returns-clause-nearer g c East w n = through c.args.grid.now w c.args.cell c.reach.new.self.goal c.args.self.now.goal c.reach.ensures.goal c.of-nearer.ensures.east (c.is_nearer-2.ensures w n)
returns-clause-nearer g c South w n = through c.args.grid.now w c.args.cell c.reach.new.self.goal c.args.self.now.goal c.reach.ensures.goal c.of-nearer.ensures.south (c.is_nearer-3.ensures w n)
returns-clause-nearer g c West w n = through c.args.grid.now w c.args.cell c.reach.new.self.goal c.args.self.now.goal c.reach.ensures.goal c.of-nearer.ensures.west (c.is_nearer-4.ensures w n)
