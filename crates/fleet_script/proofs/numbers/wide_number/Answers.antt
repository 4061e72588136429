use Rattle.std.proofs.Common.{◌^◌, arith, rules}
use Rattle.fleet_map.proofs.TextLemmas.{number_is}
use Rattle.fleet_script.proofs.numbers.wide_number.Goals as goal

pub returns : goal.returns
returns c = number_is c.args.word.now (2 ^ 64) c.loop-digit.number c.loop-digit.digit-index (search rules) (omega arith) c.loop-digit.invariant.digits c.loop-digit.invariant.number
