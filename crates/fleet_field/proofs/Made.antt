-- From what the threads gave to the fields.
use Rattle.std.proofs.Common.{◌≡◌, ℕ, suc, ◌+◌, ◌<◌, List, [], ◌∷◌, ◌++◌, take, length, slice_index, Result, Ok, Err, IfOk, MatchResult, map, refl, sym, subst, arith}
use Rattle.std.proofs.lemmas.List.{take_more}
use Rattle.std.specs.Borrow.{Bor}
use Rattle.std.specs.List.{AllZip}
use Rattle.fleet_grid.specs.Floor.{Floor, IsFloor}
use Rattle.fleet_field.specs.Field.{Aim, IsField}
use Rattle.fleet_field.specs.Several.{AreFields}
use Rattle.fleet_field.specs.inside.Work.{IsMadeOf, AreMadeOf}

each_of : {X E : Type 0} (post : Bor ℕ → Result X E → Type 0) (ats : List (Bor ℕ)) (made : List X) → AllZip post ats (map Ok made) → AreMadeOf post (map (λ at. at.now) ats) made
each_of post [] [] z = tt
each_of post [] (x ∷ xs) z = absurd z
each_of post (at ∷ ats) [] z = absurd z
each_of post (at ∷ ats) (x ∷ xs) z = ((at, refl, z.0), each_of post ats xs z.1)

pub all_of : {V X E F : Type 0} (post : Bor ℕ → Result X E → Type 0) (ats : List (Bor ℕ)) (goals : List ℕ) (tried : List (Result X E)) (items : V → List X) (r : Result V F) (Q : F → Type 0) → map (λ at. at.now) ats ≡ goals
    → AllZip post ats tried → MatchResult r (λ v. (made : List X) × (tried ≡ map Ok made) × (items v ≡ made)) Q → IfOk r (λ v. AreMadeOf post goals (items v))
all_of {V} {X} post ats goals tried items (Ok v) Q of z p =
    let made = each_of post ats p.0 (subst (AllZip post ats) p.1 z) in
    subst (λ (l : List X). AreMadeOf post goals l) (sym p.2) (subst (λ (l : List ℕ). AreMadeOf post l p.0) of made)
all_of post ats goals tried items (Err e) Q of z p = tt

-- one goal more
push : {X E : Type 0} (post : Bor ℕ → Result X E → Type 0) (goals : List ℕ) (made : List X) (goal : ℕ) (one : X) → AreMadeOf post goals made → IsMadeOf post goal one → AreMadeOf post (goals ++ goal ∷ []) (made ++ one ∷ [])
push post [] [] goal one z is = (is, tt)
push post [] (x ∷ xs) goal one z is = absurd z
push post (g ∷ gs) [] goal one z is = absurd z
push post (g ∷ gs) (x ∷ xs) goal one z is = (z.0, push post gs xs goal one z.1 is)

pub made_more : {X E : Type 0} (post : Bor ℕ → Result X E → Type 0) (goals : List ℕ) (made : List X) (i : ℕ) (one : X) → i < length goals → AreMadeOf post (take i goals) made → IsMadeOf post (slice_index goals i) one → AreMadeOf post (take (i + 1) goals) (made ++ one ∷ [])
made_more {X} post goals made i one less z is = subst (λ (gs : List ℕ). AreMadeOf post gs (made ++ one ∷ [])) (sym (take_more goals i 0 less)) (push post (take i goals) made (slice_index goals i) one z is)

-- the field that was made of a goal, if that is a floor cell
abbrev IsMade : Floor → ℕ → Aim → Type 0
IsMade m goal field = (at : Bor ℕ) × (at.now ≡ goal) × (IsFloor m at.now → IsField m at.now field)

all_made : (m : Floor) (goals : List ℕ) (fields : List Aim) → ((i : ℕ) → i < length goals → IsFloor m (slice_index goals i)) → AllZip (IsMade m) goals fields → AreFields m goals fields
all_made m [] [] floor z = tt
all_made m [] (f ∷ fs) floor z = absurd z
all_made m (g ∷ gs) [] floor z = absurd z
all_made m (g ∷ gs) (f ∷ fs) floor z =
    let floor_at = subst (IsFloor m) (sym z.0.1) (floor 0 (omega arith)) in
    (subst (λ (goal : ℕ). IsField m goal f) z.0.1 (z.0.2 floor_at), all_made m gs fs (λ i less. floor (suc i) (omega (arith, less))) z.1)

pub made_all : {V E : Type 0} (m : Floor) (goals : List ℕ) (items : V → List Aim) (r : Result V E) → ((i : ℕ) → i < length goals → IsFloor m (slice_index goals i))
    → IfOk r (λ v. AllZip (IsMade m) goals (items v)) → IfOk r (λ v. AreFields m goals (items v))
made_all m goals items (Ok v) floor z = all_made m goals (items v) floor z
made_all m goals items (Err e) floor z = tt
