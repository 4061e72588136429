-- Edges to the east and the south of a place.
use Rattle.std.proofs.Common.{◌≡◌, ◌⊎◌, inl, inr, Bool, true, false, ◌||◌, refl}
use Rattle.fleet_bridge.proofs.Squares.{neither}
use Rattle.fleet_bridge.proofs.Rounds.{from_none}
use Rattle.fleet_bridge.proofs.places.has_bare.Goals as goal

either : (a b : Bool) → (a || b) ≡ true → (a ≡ true) ⊎ (b ≡ true)
either true b e = inl refl
either false b e = inr e

pub is_bare_east-requires-clause-laid_out : goal.is_bare_east-requires-clause-laid_out
is_bare_east-requires-clause-laid_out g c = c.requires.laid_out

pub is_bare_east-requires-clause-inside : goal.is_bare_east-requires-clause-inside
is_bare_east-requires-clause-inside g c = c.requires.inside

pub is_bare_south-requires-clause-laid_out : goal.is_bare_south-requires-clause-laid_out
is_bare_south-requires-clause-laid_out g c = c.requires.laid_out

pub is_bare_south-requires-clause-inside : goal.is_bare_south-requires-clause-inside
is_bare_south-requires-clause-inside g c = c.requires.inside

pub returns-clause-none : goal.returns-clause-none
returns-clause-none g c =
    λ no cell at.
    let both = neither c.is_bare_east.result c.is_bare_south.result no in
    from_none c.args.places.now.grid.now cell c.requires.laid_out.form (c.is_bare_east.ensures.none both.0 cell at) (c.is_bare_south.ensures.none both.1 cell at)

pub returns-clause-open : goal.returns-clause-open
returns-clause-open g c = λ yes. elim (either c.is_bare_east.result c.is_bare_south.result yes) [ inl e ↦ c.is_bare_east.ensures.open e | inr e ↦ c.is_bare_south.ensures.open e ]
