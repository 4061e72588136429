-- The count of ticks that a line gives.
use Rattle.std.proofs.Common.{◌≡◌, ℕ, ◌≤◌, List, [], ◌∷◌, leb, true, Some, refl, sym, arith, le-leb}
use Rattle.fleet_script.specs.Numbers.{one_in}
use Rattle.fleet_script.specs.Script.{ticks_in}
use Rattle.fleet_map.specs.Text.{words_of}
use Rattle.fleet_script.proofs.lines.tick_count.Goals as goal

is_count : (words : List (List ℕ)) (n : ℕ) → 1 ≤ n → one_in 1000000 words ≡ Some n → Some n ≡ ticks_in words
is_count [] n some read = absurd cc
is_count (word ∷ words) n some read = let low : leb 1 n ≡ true = le-leb 1 n some in rw (read, low) refl

pub returns-in-Some-clause-exact : goal.returns-in-Some-clause-exact
returns-in-Some-clause-exact c = is_count (words_of c.args.words.now) c.in-Some.count (omega arith) (sym c.in-Some.ensures)
