-- What stands while the fields of goals are held one after another.
use Rattle.std.proofs.Common.{◌≡◌, ℕ, ◌+◌, ◌<◌, ◌≤◌, inl, inr, List, [], ◌∷◌, ◌++◌, length, map, take, get_or, Option, Some, None, IsSome, refl, sym, ap, subst, ◌∙◌, arith, rules}
use Rattle.std.proofs.lemmas.Bool.{cases_eq, false≢true}
use Rattle.std.proofs.lemmas.List.{take_more, map-append, length-map, length-append, ext_get_or}
use Rattle.fleet_grid.specs.Floor.{Floor}
use Rattle.fleet_field.specs.Field.{Aim}
use Rattle.fleet_field.specs.declared.store.Held.{Held}
use Rattle.fleet_field.specs.Store.{shown, IsHold}
use Rattle.fleet_field.proofs.Shares.{some_once}
use Rattle.fleet_planner.specs.declared.turns.GoalChange.{GoalChange}
use Rattle.fleet_planner.specs.Aims.{goal_in, goals_of}
use Rattle.fleet_planner.specs.Keys.{field_in, field_at, fields_of, key_at, holders, uses_in, AreCounted, AreShowing}
use Rattle.fleet_planner.specs.inside.Turns.{AreFewUses, AreShownOn}
use Rattle.fleet_planner.proofs.Counts.{something, some_is, one_other, has_holder, holders_push, counted_held, counted_none, held_now}
use Rattle.fleet_planner.proofs.Fields.{aim_at-fields, field_held}

-- each key that somebody holds is shown
abbrev pub IsHolding : List (Option (Held Aim)) → List (Option ℕ) → Type 0
IsHolding store keys = (key : ℕ) → 0 < holders keys key → IsSome (shown store key)

-- the first n turns' goals are held under the fresh keys
pub record AreHolding (turns : List GoalChange) (old : List (Option (Held Aim))) (n : ℕ) (store : List (Option (Held Aim))) (fresh : List (Option ℕ)) : Type 0 where
  pub counted : (keys : List (Option ℕ)) → AreCounted old keys [] → AreCounted store keys fresh
  pub shown_on : AreShownOn old store
  pub uses : AreFewUses store (512 + n)
  pub showing : IsHolding store fresh
  pub count : length fresh ≡ n
  pub goals : goals_of (fields_of store fresh) ≡ map (λ t. t.goal) (take n turns)

-- nothing is held at first
pub holding_first : (turns : List GoalChange) (old : List (Option (Held Aim))) (fresh : List (Option ℕ)) → AreFewUses old 512 → fresh ≡ [] → AreHolding turns old 0 old fresh
holding_first turns old fresh few empty = subst (AreHolding turns old 0 old) (sym empty) (record {
  counted = λ keys c. c;
  shown_on = λ key some. refl;
  uses = few;
  showing = λ key some. absurd (omega (arith, some));
  count = refl;
  goals = refl;
})

-- fields that are shown still are the keys' fields
pub fields_shown : (old new : List (Option (Held Aim))) (keys : List (Option ℕ)) → AreShowing old keys → AreShownOn old new → fields_of new keys ≡ fields_of old keys
fields_shown old new keys showing on =
    let a = length-map keys (field_at new) in
    let b = length-map keys (field_at old) in
    ext_get_or None (fields_of new keys) (fields_of old keys) (omega (arith, a, b)) (λ r less. aim_at-fields new keys r ∙ (at r (key_at keys r) refl ∙ sym (aim_at-fields old keys r)))
  where
    at : (r : ℕ) (k : Option ℕ) → key_at keys r ≡ k → field_at new k ≡ field_at old k
    at r None e = refl
    at r (Some k) e = on k (showing r k e)

-- one goal more
pub goals_more : (turns : List GoalChange) (n : ℕ) (d : GoalChange) (store : List (Option (Held Aim))) (fresh : List (Option ℕ)) (key : Option ℕ) → n < length turns → goals_of (fields_of store fresh) ≡ map (λ t. t.goal) (take n turns) → goal_in (field_at store key) ≡ (get_or turns n d).goal
    → goals_of (fields_of store (fresh ++ key ∷ [])) ≡ map (λ t. t.goal) (take (n + 1) turns)
goals_more turns n d store fresh key less before here =
    let t = get_or turns n d in
    let left : goals_of (fields_of store (fresh ++ key ∷ [])) ≡ goals_of (fields_of store fresh) ++ goal_in (field_at store key) ∷ [] =
    ap goals_of (map-append (field_at store) fresh (key ∷ [])) ∙ map-append goal_in (fields_of store fresh) (field_at store key ∷ []) in
    let right : map (λ t. t.goal) (take (n + 1) turns) ≡ map (λ t. t.goal) (take n turns) ++ t.goal ∷ [] =
    ap (λ (ts : List GoalChange). map (λ t. t.goal) ts) (take_more turns n d less) ∙ map-append (λ (t : GoalChange). t.goal) (take n turns) (t ∷ []) in
    left ∙ (ap (λ (gs : List (Option ℕ)). gs ++ goal_in (field_at store key) ∷ []) before ∙ (ap (λ (g : Option ℕ). map (λ t. t.goal) (take n turns) ++ g ∷ []) here ∙ sym right))

-- a turn to nothing
pub holding_idle : (turns : List GoalChange) (old : List (Option (Held Aim))) (n : ℕ) (d : GoalChange) (store : List (Option (Held Aim))) (fresh : List (Option ℕ)) → n < length turns → (get_or turns n d).goal ≡ None
    → AreHolding turns old n store fresh → AreHolding turns old (n + 1) store (fresh ++ None ∷ [])
holding_idle turns old n d store fresh less none s = record {
  counted = λ keys c. counted_none store keys fresh (s.counted keys c);
  shown_on = s.shown_on;
  uses = λ key held e. (let few = s.uses key held e in omega (arith, few));
  showing = λ key some. s.showing key (
      let more : holders (fresh ++ None ∷ []) key ≡ holders fresh key + 0 = holders_push fresh None key in
      omega (arith, some, more));
  count = longer fresh None ∙ (let long = s.count in omega (arith, long));
  goals = goals_more turns n d store fresh None less s.goals (sym none);
}
  where
    longer : (keys : List (Option ℕ)) (key : Option ℕ) → length (keys ++ key ∷ []) ≡ length keys + 1
    longer keys key = length-append keys (key ∷ [])

some_on : (a b : Option (Held Aim)) → IsSome a → field_in b ≡ field_in a → IsSome b
some_on None b s e = absurd (false≢true s)
some_on (Some h) None s e = search (rules, e)
some_on (Some h) (Some g) s e = refl

-- a turn to a goal, whose field is held once more
module _ (m : Floor) (aimed : ℕ) (turns : List GoalChange) (old : List (Option (Held Aim))) (n : ℕ) (d : GoalChange) (store new : List (Option (Held Aim))) (fresh : List (Option ℕ)) (key : ℕ) (less : n < length turns) (is : (get_or turns n d).goal ≡ Some aimed) (hold : IsHold m aimed store new key) (s : AreHolding turns old n store fresh) where
  more_uses : AreFewUses new (512 + (n + 1))
  more_uses k held e = elim (cases_eq k key) [
    | inl same ↦ (
        let now = held_now m aimed store new key hold in
        let one : now.0 ≡ held = some_once now.0 held (sym now.1 ∙ (ap (shown new) (sym same) ∙ e)) in
        let uses : now.0.uses ≡ held.uses = ap (λ (x : Held Aim). x.uses) one in
        let more = now.3 in
        let before : uses_in (shown store key) ≤ 512 + n = elim (something (shown store key)) [
          | inl none ↦ (let zero : uses_in (shown store key) ≡ 0 = ap uses_in none in omega (arith, zero))
          | inr some ↦ (let was : uses_in (shown store key) ≡ some.0.uses = ap uses_in some.1 in let few = s.uses key some.0 some.1 in omega (arith, was, few))
        ] in
        omega (arith, uses, more, before))
    | inr ne ↦ (let few = s.uses k held (sym (hold.others k ne) ∙ e) in omega (arith, few))
  ]

  more_shown : AreShownOn old new
  more_shown k some =
      let before = s.shown_on k some in
      field_held m aimed store new key hold k (some_on (shown old k) (shown store k) some before) ∙ before

  more_showing : IsHolding new (fresh ++ Some key ∷ [])
  more_showing k some = elim (cases_eq k key) [
    | inl same ↦ (let now = held_now m aimed store new key hold in some_is (shown new k) now.0 (ap (shown new) same ∙ now.1))
    | inr ne ↦ (
        let more : holders (fresh ++ Some key ∷ []) k ≡ holders fresh k + one_at_key k = holders_push fresh (Some key) k in
        let none = one_other k key (λ e. ne (sym e)) in
        subst IsSome (sym (hold.others k ne)) (s.showing k (omega (arith, some, more, none))))
  ]
    where
      one_at_key : ℕ → ℕ
      one_at_key k = Rattle.fleet_planner.specs.Keys.one_at k (Some key)

  before_fields : fields_of new fresh ≡ fields_of store fresh
  before_fields = fields_shown store new fresh (λ r k e. s.showing k (has_holder fresh r k e)) (field_held m aimed store new key hold)

  pub holding_goal : AreHolding turns old (n + 1) new (fresh ++ Some key ∷ [])
  holding_goal =
      let now = held_now m aimed store new key hold in record {
        counted = λ keys c. counted_held m aimed store new key hold keys fresh (s.counted keys c);
        shown_on = more_shown;
        uses = more_uses;
        showing = more_showing;
        count = longer fresh (Some key) ∙ (let long = s.count in omega (arith, long));
        goals = goals_more turns n d new fresh (Some key) less (ap goals_of before_fields ∙ s.goals) (ap (λ (o : Option (Held Aim)). goal_in (field_in o)) now.1 ∙ (ap Some now.2 ∙ sym is));
      }
    where
      longer : (keys : List (Option ℕ)) (key : Option ℕ) → length (keys ++ key ∷ []) ≡ length keys + 1
      longer keys key = length-append keys (key ∷ [])

-- the same, under other names
pub holding_is : (turns : List GoalChange) (old : List (Option (Held Aim))) (n : ℕ) (store store_now : List (Option (Held Aim))) (fresh fresh_now : List (Option ℕ)) (key key_now : Option ℕ) → store_now ≡ store → fresh_now ≡ fresh ++ key_now ∷ [] → key_now ≡ key
    → AreHolding turns old n store (fresh ++ key ∷ []) → AreHolding turns old n store_now fresh_now
holding_is turns old n store store_now fresh fresh_now key key_now e f k s =
    subst (λ (x : List (Option (Held Aim))). AreHolding turns old n x fresh_now) (sym e)
    (subst (AreHolding turns old n store) (sym (f ∙ ap (λ (x : Option ℕ). fresh ++ x ∷ []) k)) s)
