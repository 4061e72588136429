-- Clients one by one, before their lines and after them.
use Rattle.std.proofs.Common.{◌≡◌, ℕ, suc, List, ◌∷◌, refl, ap, subst, arith}
use Rattle.fleet_lanes.specs.Ends.{ClientView, EndView}
use Rattle.fleet_book.specs.declared.limits.Limits.{Limits}
use Rattle.fleet_office.specs.Views.{ArePairs}
use Rattle.fleet_office.proofs.Places.{within, there_is}
use Rattle.fleet_serve.specs.Posted.{IsNew, AreNew}

-- the first of those left, and the others
pub new-head : {A : Type 0} (most : ℕ) (xs ys : List (ClientView A)) (x : ClientView A) → xs ≡ x ∷ ys → AreNew most xs → IsNew x most
new-head most xs ys x is new = subst (AreNew most) is new 0 x refl

pub new-tail : {A : Type 0} (most : ℕ) (xs ys : List (ClientView A)) (x : ClientView A) → xs ≡ x ∷ ys → AreNew most xs → AreNew most ys
new-tail most xs ys x is new = λ k y at. subst (AreNew most) is new (suc k) y at

-- the clients of a new desk
pub new-pairs : {A : Type 0} (clients : List (ClientView A)) (ends : List (EndView A)) (limits : Limits) → ArePairs clients ends limits → AreNew limits.orders clients
new-pairs clients ends limits pairs = λ k x at.
    let e = there_is ends k (omega (arith, within clients k x at, pairs.count)) in
    let is = (pairs.each k x e.0 at e.1).client in
    record { sent = ap (λ v. v.sent) is; orders = ap (λ v. v.orders) is }
