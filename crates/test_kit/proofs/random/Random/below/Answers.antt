-- The next seed, and the number that it gives.
use Rattle.std.proofs.Common.{◌*◌, refl, sym}
use Rattle.std.proofs.lemmas.Nat.{mod_below}
use native.Mathlib.Nat.{add-mod}
use Rattle.test_kit.proofs.random.Random.below.Goals as goal

pub returns-clause-below : goal.returns-clause-below
returns-clause-below c = mod_below _ c.args.bound c.requires

pub returns-clause-drawn : goal.returns-clause-drawn
returns-clause-drawn c = refl

pub returns-clause-seed : goal.returns-clause-seed
returns-clause-seed c = sym (add-mod (c.args.self.now.seed * 6364136223846793005) 1442695040888963407 18446744073709551616)
