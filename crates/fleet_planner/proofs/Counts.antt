-- Each key is held as often as robots have it.
use Rattle.std.proofs.Common.{◌≡◌, ◌≢◌, ℕ, suc, ◌+◌, ◌-◌, ◌<◌, ◌≤◌, ◌⊎◌, inl, inr, nat_le, Bool, true, false, cond, List, [], ◌∷◌, ◌++◌, length, set, Option, Some, None, IsSome, refl, sym, ap, subst, ◌∙◌, arith, rules}
use Rattle.std.proofs.lemmas.Bool.{cases_eq, cases_Bool, eq-eqb, ne_eqb, eqb-true, leb-true, leb-false, false≢true}
use Rattle.std.proofs.lemmas.List.{get_or_past}
use Rattle.std.proofs.lemmas.List.Sums.{sum_by-set, sum_by-cons, count_by-le-length, get_or-le-sum_by}
use Rattle.fleet_grid.specs.Floor.{Floor}
use Rattle.fleet_field.specs.Field.{Aim}
use Rattle.fleet_field.specs.declared.store.Held.{Held}
use Rattle.fleet_field.specs.Store.{shown, IsOnce, IsHold, IsHeldMore, IsRelease, after_release}
use Rattle.fleet_field.proofs.Shares.{some_once, none_some, once_by}
use Rattle.fleet_planner.specs.Keys.{key_at, is_key, one_at, holders, uses_in, AreCounted, AreOwn, AreShowing, AreKept}

pub something : (o : Option (Held Aim)) → (o ≡ None) ⊎ (held : Held Aim) × (o ≡ Some held)
something None = inl refl
something (Some held) = inr (held, refl)

pub some_is : (o : Option (Held Aim)) (held : Held Aim) → o ≡ Some held → IsSome o
some_is o held e = subst IsSome (sym e) refl

pub some_of : (o : Option (Held Aim)) → IsSome o → (held : Held Aim) × (o ≡ Some held)
some_of None s = absurd (false≢true s)
some_of (Some held) s = (held, refl)

-- one key

pub one_same : (k own : ℕ) → own ≡ k → one_at k (Some own) ≡ 1
one_same k own e = ap (λ (b : Bool). cond b 1 0) (eq-eqb own k e)

pub one_other : (k own : ℕ) → own ≢ k → one_at k (Some own) ≡ 0
one_other k own ne = ap (λ (b : Bool). cond b 1 0) (ne_eqb own k ne)

-- holders

pub holders_set : (keys : List (Option ℕ)) (robot : ℕ) (key : Option ℕ) (k : ℕ) → robot < length keys → holders (set keys robot key) k + one_at k (key_at keys robot) ≡ holders keys k + one_at k key
holders_set keys robot key k below = sum_by-set (one_at k) keys robot key None below

pub holders_push : (keys : List (Option ℕ)) (key : Option ℕ) (k : ℕ) → holders (keys ++ key ∷ []) k ≡ holders keys k + one_at k key
holders_push [] key k =
    let a : holders (key ∷ []) k ≡ one_at k key + holders [] k = sum_by-cons (one_at k) key [] in
    let none : holders [] k ≡ 0 = refl in
    omega (arith, a, none)
holders_push (x ∷ keys) key k =
    let a : holders (x ∷ (keys ++ key ∷ [])) k ≡ one_at k x + holders (keys ++ key ∷ []) k = sum_by-cons (one_at k) x (keys ++ key ∷ []) in
    let b : holders (x ∷ keys) k ≡ one_at k x + holders keys k = sum_by-cons (one_at k) x keys in
    let rest = holders_push keys key k in
    omega (arith, a, b, rest)

pub holders_few : (keys : List (Option ℕ)) (k : ℕ) → holders keys k ≤ length keys
holders_few keys k = count_by-le-length (is_key k) keys

pub none_number : (o : Option ℕ) (a : ℕ) → o ≡ None → o ≡ Some a → ⊥
none_number None a e f = search (rules, f)
none_number (Some b) a e f = search (rules, e)

-- a robot that has a key is one of them
pub has_key : (keys : List (Option ℕ)) (robot k : ℕ) → key_at keys robot ≡ Some k → robot < length keys
has_key keys robot k e = elim (cases_below robot (length keys)) [
  | inl less ↦ less
  | inr past ↦ absurd (none_number (key_at keys robot) k (get_or_past keys robot None past) e)
]
  where
    cases_below : (a b : ℕ) → (a < b) ⊎ (b ≤ a)
    cases_below a b = Rattle.std.proofs.lemmas.Bool.cases_lt a b

pub has_holder : (keys : List (Option ℕ)) (robot k : ℕ) → key_at keys robot ≡ Some k → 0 < holders keys k
has_holder keys robot k e =
    let one : one_at k (key_at keys robot) ≡ 1 = ap (one_at k) e ∙ one_same k k refl in
    let le : one_at k (key_at keys robot) ≤ holders keys k = get_or-le-sum_by (one_at k) keys robot None (has_key keys robot k e) in
    omega (arith, one, le)

-- and a key that is held belongs to a robot
pub holder_of : (keys : List (Option ℕ)) (k : ℕ) → 0 < holders keys k → (robot : ℕ) × (key_at keys robot ≡ Some k)
holder_of [] k some = absurd (omega (arith, some))
holder_of (None ∷ keys) k some =
    let c : holders (None ∷ keys) k ≡ 0 + holders keys k = sum_by-cons (one_at k) None keys in
    let r = holder_of keys k (omega (arith, some, c)) in
    (suc r.0, r.1)
holder_of (Some own ∷ keys) k some = elim (cases_eq own k) [
  | inl same ↦ (0, ap Some same)
  | inr ne ↦ (
      let c : holders (Some own ∷ keys) k ≡ one_at k (Some own) + holders keys k = sum_by-cons (one_at k) (Some own) keys in
      let none = one_other k own ne in
      let r = holder_of keys k (omega (arith, some, c, none)) in
      (suc r.0, r.1))
]

-- what the counts say

pub showing : (store : List (Option (Held Aim))) (keys : List (Option ℕ)) (spare : List (Option ℕ)) → AreCounted store keys spare → AreShowing store keys
showing store keys spare c robot key e = elim (something (shown store key)) [
  | inl none ↦ (
      let zero : uses_in (shown store key) ≡ 0 = ap uses_in none in
      let some = has_holder keys robot key e in
      let count = c.counted key in
      absurd (omega (arith, zero, some, count)))
  | inr some ↦ some_is (shown store key) some.0 some.1
]

pub showing_spare : (store : List (Option (Held Aim))) (keys : List (Option ℕ)) (spare : List (Option ℕ)) (key : ℕ) → AreCounted store keys spare → 0 < holders spare key → IsSome (shown store key)
showing_spare store keys spare key c more = elim (something (shown store key)) [
  | inl none ↦ (
      let zero : uses_in (shown store key) ≡ 0 = ap uses_in none in
      let count = c.counted key in
      absurd (omega (arith, zero, more, count)))
  | inr some ↦ some_is (shown store key) some.0 some.1
]

uses_some : (store : List (Option (Held Aim))) (key : ℕ) (held : Held Aim) → shown store key ≡ Some held → uses_in (shown store key) ≡ held.uses
uses_some store key held e = ap uses_in e

-- an own key is held 512 times at most
pub uses_own : (store : List (Option (Held Aim))) (keys : List (Option ℕ)) → AreOwn store keys → (key : ℕ) (held : Held Aim) → shown store key ≡ Some held → held.uses ≤ 512
uses_own store keys own key held e =
    let count : uses_in (shown store key) ≡ holders keys key + holders [] key = own.counted.counted key in
    let uses = uses_some store key held e in
    let few = holders_few keys key in
    let all = own.few in
    omega (arith, count, uses, few, all)

pub none_own : (keys : List (Option ℕ)) → length keys ≤ 512 → ((k : ℕ) → holders keys k ≡ 0) → AreOwn [] keys
none_own keys few none = record {
  few = few;
  counted = record {
    once = λ j k a b ea eb e. absurd (none_some a None refl ea);
    used = λ key held e. absurd (none_some held None refl e);
    counted = λ key. (let z = none key in omega (arith, z));
  };
}

-- a release

uses_after : (h : Held Aim) (b : Bool) → nat_le h.uses 1 ≡ b → 0 < h.uses → uses_in (cond b None (Some (record h { uses = h.uses - 1 }))) + 1 ≡ h.uses
uses_after h true e some = (let le = leb-true h.uses 1 e in omega (arith, le, some))
uses_after h false e some = (let lt = leb-false h.uses 1 e in omega (arith, lt))

after_used : (h held : Held Aim) (b : Bool) → nat_le h.uses 1 ≡ b → cond b None (Some (record h { uses = h.uses - 1 })) ≡ Some held → (0 < held.uses) × (h.field ≡ held.field)
after_used h held true e f = absurd (none_some held None refl f)
after_used h held false e f =
    let one : record h { uses = h.uses - 1 } ≡ held = some_once (record h { uses = h.uses - 1 }) held f in
    let lt = leb-false h.uses 1 e in
    subst (λ (x : Held Aim). (0 < x.uses) × (h.field ≡ x.field)) one (omega (arith, lt), refl)

module _ (old new : List (Option (Held Aim))) (key : ℕ) (r : IsRelease old new key) (used : (k : ℕ) (held : Held Aim) → shown old k ≡ Some held → 0 < held.uses) (there : IsSome (shown old key)) where
  uses_released : (k : ℕ) → uses_in (shown new k) + one_at k (Some key) ≡ uses_in (shown old k)
  uses_released k = elim (cases_eq key k) [
    | inl same ↦ (
        let h = some_of (shown old key) there in
        let now : shown new k ≡ after_release h.0 = ap (shown new) (sym same) ∙ r.released h.0 h.1 in
        let was : uses_in (shown old k) ≡ h.0.uses = ap (λ (x : ℕ). uses_in (shown old x)) (sym same) ∙ ap uses_in h.1 in
        let is : uses_in (shown new k) ≡ uses_in (after_release h.0) = ap uses_in now in
        let less : uses_in (after_release h.0) + 1 ≡ h.0.uses = uses_after h.0 (nat_le h.0.uses 1) refl (used key h.0 h.1) in
        let one = one_same k key same in
        omega (arith, was, is, less, one))
    | inr ne ↦ (
        let kept : uses_in (shown new k) ≡ uses_in (shown old k) = ap uses_in (r.others k (λ e. ne (sym e))) in
        let none = one_other k key ne in
        omega (arith, kept, none))
  ]

  from_before : (k : ℕ) (held : Held Aim) → shown new k ≡ Some held → (was : Held Aim) × (shown old k ≡ Some was) × (was.field ≡ held.field) × (0 < held.uses)
  from_before k held e = elim (cases_eq key k) [
    | inl same ↦ (
        let h = some_of (shown old key) there in
        let a = after_used h.0 held (nat_le h.0.uses 1) refl (sym (r.released h.0 h.1) ∙ (ap (shown new) same ∙ e)) in
        (h.0, ap (shown old) (sym same) ∙ h.1, a.1, a.0))
    | inr ne ↦ (let was = sym (r.others k (λ e. ne (sym e))) ∙ e in (held, was, refl, used k held was))
  ]

  once_released : IsOnce old → IsOnce new
  once_released once j k a b ea eb e =
      let p = from_before j a ea in
      let q = from_before k b eb in
      once j k p.0 q.0 p.1 q.1 (ap (λ (x : Aim). x.goal) p.2 ∙ (e ∙ sym (ap (λ (x : Aim). x.goal) q.2)))

pub kept_on : (a b c : List (Option (Held Aim))) → AreKept a b → AreKept b c → AreKept a c
kept_on a b c p q key held e =
    let m = q key held e in
    let f = p key m.0 m.1 in
    (f.0, f.1, f.2 ∙ m.2)

-- a spare key is given back

pub spare_shown : (store : List (Option (Held Aim))) (keys rest : List (Option ℕ)) (own : ℕ) → AreCounted store keys (Some own ∷ rest) → IsSome (shown store own)
spare_shown store keys rest own c =
    let m : holders (Some own ∷ rest) own ≡ one_at own (Some own) + holders rest own = sum_by-cons (one_at own) (Some own) rest in
    let one = one_same own own refl in
    showing_spare store keys (Some own ∷ rest) own c (omega (arith, m, one))

pub released : (old new : List (Option (Held Aim))) (keys rest : List (Option ℕ)) (own : ℕ) → AreCounted old keys (Some own ∷ rest) → IsRelease old new own → AreCounted new keys rest × AreKept old new
released old new keys rest own c back =
    let more : (k : ℕ) → holders (Some own ∷ rest) k ≡ one_at k (Some own) + holders rest k = λ k. sum_by-cons (one_at k) (Some own) rest in
    let there : IsSome (shown old own) = spare_shown old keys rest own c in (
      record {
        once = once_released old new own back c.used there c.once;
        used = λ k held eh. (from_before old new own back c.used there k held eh).3;
        counted = λ k. (
            let m = more k in
            let count = c.counted k in
            let less = uses_released old new own back c.used there k in
            omega (arith, m, count, less));
      },
      λ k held eh. (let b = from_before old new own back c.used there k held eh in (b.0, b.1, b.2)),
    )

pub passed : (store : List (Option (Held Aim))) (keys rest : List (Option ℕ)) → AreCounted store keys (None ∷ rest) → AreCounted store keys rest
passed store keys rest c = record {
  once = c.once;
  used = c.used;
  counted = λ k. (
      let more : holders (None ∷ rest) k ≡ 0 + holders rest k = sum_by-cons (one_at k) None rest in
      let count = c.counted k in
      omega (arith, more, count));
}

-- keys change hands

pub swapped : (store : List (Option (Held Aim))) (keys spare keys_now spare_now : List (Option ℕ)) → ((k : ℕ) → holders keys_now k + holders spare_now k ≡ holders keys k + holders spare k) → AreCounted store keys spare → AreCounted store keys_now spare_now
swapped store keys spare keys_now spare_now same c = record {
  once = c.once;
  used = c.used;
  counted = λ k. (let s = same k in let count = c.counted k in omega (arith, s, count));
}

pub swap_counts : (keys fresh : List (Option ℕ)) (robot at k : ℕ) → robot < length keys → at < length fresh
    → holders (set keys robot (key_at fresh at)) k + holders (set fresh at (key_at keys robot)) k ≡ holders keys k + holders fresh k
swap_counts keys fresh robot at k known there =
    let a = holders_set keys robot (key_at fresh at) k known in
    let b = holders_set fresh at (key_at keys robot) k there in
    omega (arith, a, b)

-- a hold

module _ (m : Floor) (aimed : ℕ) (old new : List (Option (Held Aim))) (key : ℕ) (hold : IsHold m aimed old new key) where
  held_at : (o : Option (Held Aim)) → shown old key ≡ o → IsHeldMore m aimed o (shown new key)
      → (held : Held Aim) × (shown new key ≡ Some held) × (held.field.goal ≡ aimed) × (held.uses ≡ uses_in (shown old key) + 1)
  held_at None e p = (p.0, p.1, p.2.goal, (let z : uses_in (shown old key) ≡ 0 = ap uses_in e in let one = p.3 in omega (arith, z, one)))
  held_at (Some was) e p = (record was { uses = was.uses + 1 }, p.1, p.0, (let z : uses_in (shown old key) ≡ was.uses = ap uses_in e in omega (arith, z)))

  -- the key shows the goal, once more
  pub held_now : (held : Held Aim) × (shown new key ≡ Some held) × (held.field.goal ≡ aimed) × (held.uses ≡ uses_in (shown old key) + 1)
  held_now = held_at (shown old key) refl hold.held

  once_held : IsOnce old → IsOnce new
  once_held once = once_by old new key hold.others once (λ h eh k at ne ek eg. (
      let now = held_now in
      let one : now.0 ≡ h = some_once now.0 h (sym now.1 ∙ eh) in
      let goal : at.field.goal ≡ aimed = eg ∙ (sym (ap (λ (x : Held Aim). x.field.goal) one) ∙ now.2) in
      ne (hold.shared k at ek goal)))

  pub counted_held : (keys spare : List (Option ℕ)) → AreCounted old keys spare → AreCounted new keys (spare ++ Some key ∷ [])
  counted_held keys spare c = record {
    once = once_held c.once;
    used = λ k held e. elim (cases_eq k key) [
      | inl same ↦ (
          let now = held_now in
          let one : now.0 ≡ held = some_once now.0 held (sym now.1 ∙ (ap (shown new) (sym same) ∙ e)) in
          let uses : now.0.uses ≡ held.uses = ap (λ (x : Held Aim). x.uses) one in
          let more = now.3 in
          omega (arith, uses, more))
      | inr ne ↦ c.used k held (sym (hold.others k ne) ∙ e)
    ];
    counted = λ k. (
        let more : holders (spare ++ Some key ∷ []) k ≡ holders spare k + one_at k (Some key) = holders_push spare (Some key) k in
        let count = c.counted k in
        elim (cases_eq k key) [
          | inl same ↦ (
              let now = held_now in
              let is : uses_in (shown new k) ≡ now.0.uses = ap (λ (x : ℕ). uses_in (shown new x)) same ∙ ap uses_in now.1 in
              let was : uses_in (shown old k) ≡ uses_in (shown old key) = ap (λ (x : ℕ). uses_in (shown old x)) same in
              let uses = now.3 in
              let one = one_same k key (sym same) in
              omega (arith, more, count, is, was, uses, one))
          | inr ne ↦ (
              let kept : uses_in (shown new k) ≡ uses_in (shown old k) = ap uses_in (hold.others k ne) in
              let none = one_other k key (λ e. ne (sym e)) in
              omega (arith, more, count, kept, none))
        ]);
  }

pub counted_none : (store : List (Option (Held Aim))) (keys spare : List (Option ℕ)) → AreCounted store keys spare → AreCounted store keys (spare ++ None ∷ [])
counted_none store keys spare c = record {
  once = c.once;
  used = c.used;
  counted = λ k. (
      let more : holders (spare ++ None ∷ []) k ≡ holders spare k + 0 = holders_push spare None k in
      let count = c.counted k in
      omega (arith, more, count));
}
