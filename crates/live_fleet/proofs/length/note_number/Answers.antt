-- It is an accepted errand's, or there is none.
use Rattle.std.proofs.Common.{◌≡◌, ◌<◌, ◌^◌, ℕ, rules, subst, sym}
use Rattle.fleet_book.specs.declared.verdict.Verdict.{Verdict}
use Rattle.live_fleet.specs.Length.{number_in}
use Rattle.live_fleet.proofs.Short.{number-other}
use Rattle.live_fleet.proofs.length.note_number.Goals as goal

pub returns-in_default : goal.returns-in_default
returns-in_default c = number-other c.args.verdict c.in_default.not-Accepted
