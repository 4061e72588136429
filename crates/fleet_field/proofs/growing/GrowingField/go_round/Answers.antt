use Rattle.std.proofs.Common.{◌≡◌, ℕ, ◌+◌, ◌<◌, ◌↔◌, IsTrue, Bool, false, inr, List, [], ◌∷◌, length, refl, sym, ◌∙◌, arith}
use Rattle.std.proofs.lemmas.Bool.{false≢true}
use Rattle.fleet_field.proofs.growing.GrowingField.go_round.Goals as goal

-- two lists are empty if they have no element together
none_there : (xs ys : List ℕ) (test : Bool) → IsTrue test ↔ (0 < length xs + length ys) → test ≡ false → (xs ≡ []) × (ys ≡ [])
none_there [] [] test h e = (refl, refl)
none_there (x ∷ xs) ys test h e = absurd (false≢true (sym e ∙ h.1 (omega arith)))
none_there [] (y ∷ ys) test h e = absurd (false≢true (sym e ∙ h.1 (omega arith)))

pub returns-clause-done : goal.returns-clause-done
returns-clause-done g c =
    let none = none_there c.loop-self.self.now.items c.loop-self.self.next.items c.has_more.result c.has_more.ensures c.loop-self-test.false in
    inr (record { left = none.0; emptied = none.1 })
