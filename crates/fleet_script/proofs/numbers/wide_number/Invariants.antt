use Rattle.std.proofs.Common.{◌≡◌, ℕ, ◌≤◌, ◌<◌, ◌+◌, ◌-◌, ◌*◌, ◌^◌, true, take, get_or, min, fold}
use Rattle.std.specs.Char.{is_ascii_digit}
use Rattle.fleet_script.proofs.numbers.wide_number.Given as goal

abbrev pub invariant-loop-digit : goal.invariant-loop-digit
invariant-loop-digit l = record {
  digits : (k : ℕ) → k < l.digit-index → is_ascii_digit (get_or l.word k 0) ≡ true;
  number : l.number ≡ min (fold (λ n d. 10 * n + (d - 48)) 0 (take l.digit-index l.word)) (2 ^ 64);
  most : l.number ≤ 2 ^ 64;
}
