-- The places that were looked at together.
use Rattle.std.proofs.Common.{inl, inr}
use Rattle.std.proofs.lemmas.Bool.{cases_lt}
use Rattle.fleet_bridge.proofs.detours.doubt_within.Goals as goal

pub returns : goal.returns
returns g c = λ v lt. elim (cases_lt v c.args.from) [
  | inl less ↦ c.requires.before v less
  | inr more ↦ c.have_bare.ensures c.if-have_bare.false v more lt
]

pub have_bare-requires-clause-laid_out : goal.have_bare-requires-clause-laid_out
have_bare-requires-clause-laid_out g c = c.requires.laid_out

pub have_bare-requires-clause-inside : goal.have_bare-requires-clause-inside
have_bare-requires-clause-inside g c = c.requires.inside

pub doubt_among-requires-clause-laid_out : goal.doubt_among-requires-clause-laid_out
doubt_among-requires-clause-laid_out g c = c.requires.laid_out

pub doubt_among-requires-clause-inside : goal.doubt_among-requires-clause-inside
doubt_among-requires-clause-inside g c = c.requires.inside

pub doubt_among-requires-clause-before : goal.doubt_among-requires-clause-before
doubt_among-requires-clause-before g c = c.requires.before

pub doubt_among-requires-clause-order : goal.doubt_among-requires-clause-order
doubt_among-requires-clause-order g c = c.requires.order
