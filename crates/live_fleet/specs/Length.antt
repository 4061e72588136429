-- The numbers of a notice.
use Rattle.std.specs.Prelude.{ℕ}
use Rattle.fleet_book.specs.declared.verdict.Verdict.{Verdict}
use Rattle.fleet_book.specs.declared.verdict.Verdict.TheVariants as verdict

-- the number in a verdict; 0 where it has none
abbrev pub number_in : Verdict → ℕ
number_in (verdict.Accepted number) = number
number_in _ = 0
