-- What is left of a list without the first element that passes a test.
use Rattle.std.proofs.Common.{◌≡◌, ℕ, suc, zero, ◌+◌, ◌-◌, ◌<◌, Bool, true, false, List, [], ◌∷◌, ◌++◌, length, drop, take, get_or, refl, ap, ◌∙◌, cond, Some, None, arith, not}
use Rattle.std.specs.Prelude.{◌||◌}
use Rattle.std.proofs.lemmas.Grind.{common_steps}
use Rattle.std.proofs.lemmas.List.Quantifiers.{position-Some}
use Rattle.std.proofs.lemmas.List.Folds.{list_any_at}
use Rattle.std.specs.List.{list_any, position, position_or_len, remove}
use Rattle.fleet_queue.specs.declared.errand.Errand.{Errand}
use Rattle.fleet_queue.specs.Queue.{without_first, without_behind_front}

-- an element that passes, with none before it that does, is the one that goes
removed_at : (p : Errand → Bool) (d : Errand) (es : List Errand) (k : ℕ) → k < length es → p (get_or es k d) ≡ true
    → ((i : ℕ) → i < k → p (get_or es i d) ≡ false) → remove es k ≡ without_first p es
removed_at p d [] k h _ _ = absurd (omega arith)
removed_at p d (e ∷ es) zero h here below = let passes : p e ≡ true = here in rw passes refl
removed_at p d (e ∷ es) (suc k) h here below =
    let first : p e ≡ false = below 0 (omega arith) in
    let rest = removed_at p d es k (omega arith) here (λ i l. below (suc i) (omega arith)) in
    rw first (ap (λ r. e ∷ r) rest)

or_parts : (a b : Bool) → (a || b) ≡ false → (a ≡ false) × (b ≡ false)
or_parts true b e = cc
or_parts false b e = (refl, e)

at_head : (b r : Bool) (n m : ℕ) → (b || r) ≡ true → (r ≡ true → n < m) → cond (not b) (1 + n) 0 < suc m
at_head true r n m e h = omega arith
at_head false r n m e h = let l = h e in omega arith

-- where some element passes, there is a first place
any_is_placed : (p : Errand → Bool) (es : List Errand) → list_any p es ≡ true → position_or_len p es < length es
any_is_placed p [] e = cc
any_is_placed p (x ∷ xs) e = at_head (p x) (list_any p xs) (position_or_len p xs) (length xs) e (any_is_placed p xs)

bool_cases : (b : Bool) → (b ≡ true → b ≡ false) → b ≡ false
bool_cases true h = h refl
bool_cases false h = refl

no_place : (p : Errand → Bool) (es : List Errand) → position p es ≡ None → list_any p es ≡ false
no_place p es none = bool_cases (list_any p es) (λ some. let l = any_is_placed p es some in grind (arith, common_steps))

none_goes : (p : Errand → Bool) (es : List Errand) → list_any p es ≡ false → without_first p es ≡ es
none_goes p [] e = refl
none_goes p (x ∷ xs) e =
    let fails = or_parts (p x) (list_any p xs) e in
    rw (fails.0) (ap (λ r. x ∷ r) (none_goes p xs fails.1))

-- none after the front passes
pub none_behind : (p : Errand → Bool) (es bs : List Errand) → bs ≡ drop 1 es → position p bs ≡ None
    → (list_any p (drop 1 es) ≡ false) × (without_behind_front p es ≡ es)
none_behind p [] bs b none = (refl, refl)
none_behind p (e ∷ es) bs b none =
    let fails = no_place p es (rw b at none) in
    (fails, ap (λ r. e ∷ r) (none_goes p es fails))

take_all_but : (xs : List Errand) (y : Errand) (n : ℕ) → n ≡ length xs → take n (xs ++ y ∷ []) ≡ xs
take_all_but xs y n e = grind (arith, common_steps)

-- one after the front passes
pub first_behind : (p : Errand → Bool) (es bs : List Errand) (k : ℕ) (d : Errand) → bs ≡ drop 1 es → position p bs ≡ Some k
    → (1 + k < length es) × (list_any p (drop 1 es) ≡ true) × ((y : Errand) → take (length es - 1) (remove es (1 + k) ++ y ∷ []) ≡ without_behind_front p es)
first_behind p [] bs k d b found = absurd (omega (arith, position-Some p [] k d (rw b at found)))
first_behind p (e ∷ es) bs k d b found =
    let f = position-Some p es k d (rw b at found) in
    let gone = removed_at p d es k f.0 f.1 f.2 in
    let n : length (remove es k) + 1 ≡ length es = grind (arith, common_steps) in (
      omega arith,
      list_any_at p es k d f.0 f.1,
      λ y.
          let shift : 1 + k ≡ suc k = omega arith in
          let whole : remove (e ∷ es) (1 + k) ≡ e ∷ without_first p es = ap (λ i. remove (e ∷ es) i) shift ∙ ap (λ r. e ∷ r) gone in
          let l : length (remove es k) ≡ length (without_first p es) = ap length gone in
          rw whole (take_all_but (e ∷ without_first p es) y (suc (length es) - 1) (omega arith)),
    )
