-- For how many cells and robots a shield was made.
use Rattle.std.specs.Prelude.{ℕ}

-- how many cells, and how many robots
pub record Size : Type 0 where
  pub cells : ℕ
  pub robots : ℕ
