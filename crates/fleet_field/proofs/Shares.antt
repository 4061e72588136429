-- What a change at one key leaves of a store.
use Rattle.std.proofs.Common.{◌≡◌, ◌≢◌, ℕ, ◌+◌, ◌<◌, ◌≤◌, inl, inr, List, [], Option, Some, None, IsSome, Bool, true, false, cond, nat_le, ◌-◌, refl, sym, ap, subst, ◌∙◌, arith, rules}
use Rattle.std.proofs.lemmas.Bool.{cases_eq, false≢true, lt-leb, le-leb}
use Rattle.fleet_grid.specs.Floor.{Floor}
use Rattle.fleet_field.specs.Field.{Aim, IsField}
use Rattle.fleet_field.specs.declared.store.Held.{Held}
use Rattle.fleet_field.specs.Store.{shown, Serves, IsOnce, IsHold, IsHeldMore, IsRelease, HasUsesLeft, after_release}

pub some_once : (a b : Held Aim) → Some a ≡ Some b → a ≡ b
some_once a b e = search (rules, e)

pub none_some : (a : Held Aim) (o : Option (Held Aim)) → o ≡ None → o ≡ Some a → ⊥
none_some a None e f = search (rules, f)
none_some a (Some b) e f = search (rules, e)

module _ (old new : List (Option (Held Aim))) (key : ℕ) (others : (other : ℕ) → other ≢ key → shown new other ≡ shown old other) where
  pub once_by : IsOnce old → ((h : Held Aim) → shown new key ≡ Some h → (k : ℕ) (at : Held Aim) → k ≢ key → shown old k ≡ Some at → at.field.goal ≡ h.field.goal → ⊥) → IsOnce new
  once_by once fresh j k a b ea eb e = elim (cases_eq j key) [
    | inl ej ↦ elim (cases_eq k key) [
      | inl ek ↦ ej ∙ sym ek
      | inr nk ↦ absurd (fresh a (ap (shown new) (sym ej) ∙ ea) k b nk (sym (others k nk) ∙ eb) (sym e))
    ]
    | inr nj ↦ elim (cases_eq k key) [
      | inl ek ↦ absurd (fresh b (ap (shown new) (sym ek) ∙ eb) j a nj (sym (others j nj) ∙ ea) e)
      | inr nk ↦ once j k a b (sym (others j nj) ∙ ea) (sym (others k nk) ∙ eb) e
    ]
  ]

  -- the key shows the same goal as before
  pub once_same : IsOnce old → (was is : Held Aim) → shown old key ≡ Some was → shown new key ≡ Some is → is.field.goal ≡ was.field.goal → IsOnce new
  once_same once was is e f same = once_by once (λ h eh k at ne ek eg.
      let one : is ≡ h = some_once is h (sym f ∙ eh) in
      ne (once k key at was ek e (eg ∙ (sym (ap (λ (x : Held Aim). x.field.goal) one) ∙ same))))

  pub once_new : IsOnce old → (is : Held Aim) → shown new key ≡ Some is → ((k : ℕ) (at : Held Aim) → shown old k ≡ Some at → at.field.goal ≡ is.field.goal → ⊥) → IsOnce new
  once_new once is f fresh = once_by once (λ h eh k at ne ek eg.
      let one : is ≡ h = some_once is h (sym f ∙ eh) in
      fresh k at ek (eg ∙ sym (ap (λ (x : Held Aim). x.field.goal) one)))

  pub once_less : IsOnce old → shown new key ≡ None → IsOnce new
  once_less once f = once_by once (λ h eh k at ne ek eg. none_some h (shown new key) f eh)

  pub serves_by : (m : Floor) → Serves m old → (is : Held Aim) → shown new key ≡ Some is → IsField m is.field.goal is.field → Serves m new
  serves_by m serves is f right k held e = elim (cases_eq k key) [
    | inl ek ↦ (let one : is ≡ held = some_once is held (sym f ∙ (ap (shown new) (sym ek) ∙ e)) in subst (λ (h : Held Aim). IsField m h.field.goal h.field) one right)
    | inr nk ↦ serves k held (sym (others k nk) ∙ e)
  ]

  pub hold_more : (m : Floor) (aimed : ℕ) → IsOnce old → (at : Held Aim) → shown old key ≡ Some at → at.field.goal ≡ aimed → shown new key ≡ Some (record at { uses = at.uses + 1 }) → IsHold m aimed old new key
  hold_more m aimed once at e same more = record {
    shared = λ other held eo eg. once other key held at eo e (eg ∙ sym same);
    held = subst (λ (o : Option (Held Aim)). IsHeldMore m aimed o (shown new key)) (sym e) (same, more);
    others = others;
  }

  pub hold_new : (m : Floor) (aimed : ℕ) → ((k : ℕ) (at : Held Aim) → shown old k ≡ Some at → at.field.goal ≡ aimed → ⊥) → shown old key ≡ None → (is : Held Aim) → shown new key ≡ Some is → IsField m aimed is.field → is.uses ≡ 1 → IsHold m aimed old new key
  hold_new m aimed fresh vacant is e right one = record {
    shared = λ other held eo eg. absurd (fresh other held eo eg);
    held = subst (λ (o : Option (Held Aim)). IsHeldMore m aimed o (shown new key)) (sym vacant) (is, e, right, one);
    others = others;
  }

  -- with one hold less the key shows the same field, and with the last one it shows nothing
  pub released_more : (was : Held Aim) → shown old key ≡ Some was → 1 < was.uses → shown new key ≡ Some (record was { uses = was.uses - 1 }) → IsRelease old new key
  released_more was at more now = record {
    released = λ held e. subst (λ (h : Held Aim). shown new key ≡ after_release h) (some_once was held (sym at ∙ e))
        (now ∙ sym (ap (λ (b : Bool). cond b None (Some (record was { uses = was.uses - 1 }))) (lt-leb was.uses 1 more)));
    others = others;
  }

  pub released_last : (was : Held Aim) → shown old key ≡ Some was → was.uses ≤ 1 → shown new key ≡ None → IsRelease old new key
  released_last was at last now = record {
    released = λ held e. subst (λ (h : Held Aim). shown new key ≡ after_release h) (some_once was held (sym at ∙ e))
        (now ∙ sym (ap (λ (b : Bool). cond b None (Some (record was { uses = was.uses - 1 }))) (le-leb was.uses 1 last)));
    others = others;
  }

-- the one key of a goal says how often it is held
pub uses_left : (store : List (Option (Held Aim))) (key aimed : ℕ) (at : Held Aim) → IsOnce store → shown store key ≡ Some at → at.field.goal ≡ aimed → at.uses < 4294967295 → HasUsesLeft store aimed 1
uses_left store key aimed at once e same less k held ek eg =
    let one : k ≡ key = once k key held at ek e (eg ∙ sym same) in
    let is : held ≡ at = some_once held at (sym ek ∙ (ap (shown store) one ∙ e)) in
    let uses : held.uses ≡ at.uses = ap (λ (h : Held Aim). h.uses) is in
    omega (arith, uses, less)

pub fewer_at : (store : List (Option (Held Aim))) (key aimed : ℕ) (at : Held Aim) → shown store key ≡ Some at → at.field.goal ≡ aimed → HasUsesLeft store aimed 1 → (h : Held Aim) → shown store key ≡ Some h → h.uses + 1 < 4294967296
fewer_at store key aimed at e same left h f =
    left key h f (sym (ap (λ (x : Held Aim). x.field.goal) (some_once at h (sym e ∙ f))) ∙ same)

pub none_left : (store : List (Option (Held Aim))) (aimed : ℕ) → ((k : ℕ) (at : Held Aim) → shown store k ≡ Some at → at.field.goal ≡ aimed → ⊥) → HasUsesLeft store aimed 1
none_left store aimed none k held ek eg = absurd (none k held ek eg)

-- an empty store serves each map
pub serves_none : (m : Floor) → Serves m []
serves_none m key held e = absurd (none_some held None refl e)

-- what a release leaves is still of the map
pub serves_released : (m : Floor) (old new : List (Option (Held Aim))) (key : ℕ) → IsSome (shown old key) → IsRelease old new key → Serves m old → Serves m new
serves_released m old new key some r serves k held e = elim (cases_eq k key) [
  | inl is ↦ at (shown old key) refl (ap (shown new) (sym is) ∙ e)
  | inr ne ↦ serves k held (sym (r.others k ne) ∙ e)
]
  where
    right : (at : Held Aim) (b : Bool) → cond b None (Some (record at { uses = at.uses - 1 })) ≡ Some held → IsField m at.field.goal at.field → IsField m held.field.goal held.field
    right at true f p = absurd (none_some held None refl f)
    right at false f p = subst (λ (h : Held Aim). IsField m h.field.goal h.field) (some_once (record at { uses = at.uses - 1 }) held f) p

    at : (o : Option (Held Aim)) → shown old key ≡ o → shown new key ≡ Some held → IsField m held.field.goal held.field
    at None f n = absurd (false≢true (subst IsSome f some))
    at (Some was) f n = right was (nat_le was.uses 1) (sym (r.released was f) ∙ n) (serves key was f)
