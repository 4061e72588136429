-- The test is that of the texts in small letters.
use Rattle.std.proofs.Common.{◌≡◌, ℕ, List, Bool, true, false, true≢false, IsTrue, map, bytes_eq, sym, refl}
use Rattle.std.specs.Char.{to_ascii_lowercase}
use Rattle.std.proofs.lemmas.Slice.Eq.{bytes_eq-Decides}
use Rattle.fleet_plans.proofs.misspelt.is_same.Goals as goal

decided : (r : Bool) (a b : List ℕ) → (IsTrue r → a ≡ b) → (a ≡ b → IsTrue r) → r ≡ bytes_eq a b
decided true a b same back = sym ((bytes_eq-Decides a b).1 (same refl))
decided false a b same back = go (bytes_eq a b) (bytes_eq-Decides a b).0
  where
    go : (t : Bool) → (t ≡ true → a ≡ b) → false ≡ t
    go true so = absurd (true≢false (sym (back (so refl))))
    go false so = refl

pub returns : goal.returns
returns c = decided c.eq_ignore_ascii_case.result (map to_ascii_lowercase c.args.first.now) (map to_ascii_lowercase c.args.second.now) c.eq_ignore_ascii_case.ensures.test.0 c.eq_ignore_ascii_case.ensures.test.1
