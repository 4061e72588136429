-- How fields are put in, and uses counted.
use Rattle.std.proofs.Common.{◌≡◌, ◌≢◌, ℕ, zero, suc, ◌+◌, ◌-◌, ◌<◌, ◌≤◌, ◌⊎◌, inl, inr, ◌==◌, Bool, true, false, cond, List, [], ◌∷◌, ◌++◌, length, take, get_or, slice_index, Option, Some, None, MatchOption, refl, sym, ap, subst, ◌∙◌, arith}
use Rattle.std.specs.List.{Contains}
use Rattle.std.proofs.lemmas.Bool.{cases_eq, eq-eqb, ne_eqb}
use Rattle.std.proofs.lemmas.List.{take_more, length_push}
use Rattle.std.proofs.lemmas.List.Sums.{sum_by_push}
use Rattle.std.proofs.lemmas.List.Elements.{Contains-push_cases}
use Rattle.std.proofs.Math.ListN.{get_or-append}
use Rattle.std.proofs.Math.Seq.{get_or-append_seam}
use Rattle.fleet_grid.specs.Floor.{Floor}
use Rattle.fleet_field.specs.Field.{Aim, IsField}
use Rattle.fleet_field.specs.declared.store.Held.{Held}
use Rattle.fleet_field.specs.Store.{shown, Serves, IsOnce, HasUsesLeft}
use Rattle.fleet_field.specs.Several.{AreFields, AreHeld, HaveUsesLeft, times}
use Rattle.fleet_field.specs.inside.Uses.{HasGoal, IsOneOf, IsFilled, IsUsed, IsUsedOnce, AreShown}
use Rattle.fleet_field.proofs.Shares.{some_once, none_some, once_new, once_same}

abbrev one_if : Bool → ℕ
one_if b = cond b 1 0

one_if_few : (b : Bool) → one_if b ≤ 1
one_if_few true = omega arith
one_if_few false = omega arith

pub something : (o : Option (Held Aim)) → (o ≡ None) ⊎ (held : Held Aim) × (o ≡ Some held)
something None = inl refl
something (Some held) = inr (held, refl)

pub filled_none : (fields : List Aim) (old : List (Option (Held Aim))) → IsOnce old → IsFilled fields old old
filled_none fields old once = record { once = once; kept = λ key held e. e; fresh = λ key held eo en. absurd (none_some held (shown old key) eo en) }

-- a field that is put in at a free key
module _ (old new : List (Option (Held Aim))) (key : ℕ) (others : (other : ℕ) → other ≢ key → shown new other ≡ shown old other) (field : Aim) where
  pub filled_new : IsOnce old → shown old key ≡ None → shown new key ≡ Some (record { field = field; uses = 0 }) → ((k : ℕ) (at : Held Aim) → shown old k ≡ Some at → at.field.goal ≡ field.goal → ⊥) → IsFilled (field ∷ []) old new
  filled_new once vacant put no_goal = record {
    once = once_new old new key others once (record { field = field; uses = 0 }) put no_goal;
    kept = λ k held e. elim (cases_eq k key) [
      | inl same ↦ absurd (none_some held (shown old key) vacant (ap (shown old) (sym same) ∙ e))
      | inr ne ↦ others k ne ∙ e
    ];
    fresh = λ k held eo en. elim (cases_eq k key) [
      | inl same ↦ (
          let one : record { field = field; uses = 0 } ≡ held = some_once (record { field = field; uses = 0 }) held (sym put ∙ (ap (shown new) (sym same) ∙ en)) in
          subst (λ (h : Held Aim). (h.uses ≡ 0) × Contains (field ∷ []) h.field) one (refl, (0, omega arith, refl)))
      | inr ne ↦ absurd (none_some held (shown old k) eo (sym (others k ne) ∙ en))
    ];
  }

one_only : (field other : Aim) → Contains (field ∷ []) other → field ≡ other
one_only field other c = elim (Contains-push_cases [] field other c) [ inl n ↦ absurd (omega (arith, n.1)) | inr e ↦ e ]

pub filled_step : (fields : List Aim) (field : Aim) (old mid new : List (Option (Held Aim))) → Contains fields field → IsFilled fields old mid → IsFilled (field ∷ []) mid new → IsFilled fields old new
filled_step fields field old mid new within a b = record {
  once = b.once;
  kept = λ key held e. b.kept key held (a.kept key held e);
  fresh = λ key held eo en. elim (something (shown mid key)) [
    | inl none ↦ (let p = b.fresh key held none en in (p.0, subst (Contains fields) (one_only field held.field p.1) within))
    | inr some ↦ (
        let same : some.0 ≡ held = some_once some.0 held (sym (b.kept key some.0 some.1) ∙ en) in
        subst (λ (h : Held Aim). (h.uses ≡ 0) × Contains fields h.field) same (a.fresh key some.0 eo some.1))
  ];
}

pub still_there : (fields : List Aim) (old new : List (Option (Held Aim))) (aimed : ℕ) → IsFilled fields old new → HasGoal old aimed → HasGoal new aimed
still_there fields old new aimed f h = (h.0, h.1, f.kept h.0 h.1 h.2, h.3)

pub at_none : (o : Option Aim) (P : Type 0) (Q : Aim → Type 0) → ((x : Aim) → o ≡ Some x → ⊥) → MatchOption o P Q → P
at_none None P Q no_some p = p
at_none (Some x) P Q no_some p = absurd (no_some x refl)

-- one use more at one key
module _ (old new : List (Option (Held Aim))) (key : ℕ) (others : (other : ℕ) → other ≢ key → shown new other ≡ shown old other) (aimed : ℕ) (at : Held Aim) where
  pub used_once : IsOnce old → shown old key ≡ Some at → at.field.goal ≡ aimed → shown new key ≡ Some (record at { uses = at.uses + 1 }) → IsUsedOnce aimed old new
  used_once once e same more = record {
    once = once_same old new key others once at (record at { uses = at.uses + 1 }) e more refl;
    more = λ k held ek. elim (cases_eq k key) [
      | inl is ↦ (
          let one : at ≡ held = some_once at held (sym e ∙ (ap (shown old) (sym is) ∙ ek)) in
          let yes : one_if (aimed == at.field.goal) ≡ 1 = ap one_if (eq-eqb aimed at.field.goal (sym same)) in
          let there : shown new key ≡ Some (record at { uses = at.uses + one_if (aimed == at.field.goal) }) = more ∙ ap (λ (u : ℕ). Some (record at { uses = at.uses + u })) (sym yes) in
          subst (λ (h : Held Aim). shown new k ≡ Some (record h { uses = h.uses + one_if (aimed == h.field.goal) })) one (ap (shown new) is ∙ there))
      | inr ne ↦ (
          let off : aimed ≢ held.field.goal = (λ g. ne (once k key held at ek e (sym g ∙ sym same))) in
          let no : one_if (aimed == held.field.goal) ≡ 0 = ap one_if (ne_eqb aimed held.field.goal off) in
          let zero : held.uses ≡ held.uses + one_if (aimed == held.field.goal) = omega (arith, no) in
          others k ne ∙ (ek ∙ ap (λ (u : ℕ). Some (record held { uses = u })) zero))
    ];
    none = λ k ek. elim (cases_eq k key) [
      | inl is ↦ absurd (none_some at (shown old key) (ap (shown old) (sym is) ∙ ek) e)
      | inr ne ↦ others k ne ∙ ek
    ];
  }

pub used_none : (old : List (Option (Held Aim))) → IsOnce old → IsUsed [] old old
used_none old once = record {
  once = once;
  more = λ key held e. (let zero : held.uses ≡ held.uses + times [] held.field.goal = omega arith in e ∙ ap (λ (u : ℕ). Some (record held { uses = u })) zero);
  none = λ key e. e;
}

times_more : (goals : List ℕ) (i a : ℕ) → i < length goals → times (take (i + 1) goals) a ≡ times (take i goals) a + one_if (slice_index goals i == a)
times_more goals i a less = ap (λ (xs : List ℕ). times xs a) (take_more goals i 0 less) ∙ sum_by_push (λ (x : ℕ). one_if (x == a)) (take i goals) (get_or goals i 0)

pub used_more : (goals : List ℕ) (i : ℕ) (old mid new : List (Option (Held Aim))) → i < length goals → IsUsed (take i goals) old mid → IsUsedOnce (slice_index goals i) mid new → IsUsed (take (i + 1) goals) old new
used_more goals i old mid new less a b = record {
  once = b.once;
  more = λ key held e. (
      let m = a.more key held e in
      let n = b.more key (record held { uses = held.uses + times (take i goals) held.field.goal }) m in
      let t = times_more goals i held.field.goal less in
      let u : held.uses + times (take i goals) held.field.goal + one_if (slice_index goals i == held.field.goal) ≡ held.uses + times (take (i + 1) goals) held.field.goal = omega (arith, t) in
      n ∙ ap (λ (v : ℕ). Some (record held { uses = v })) u);
  none = λ key e. b.none key (a.none key e);
}

pub used_there : (goals : List ℕ) (old new : List (Option (Held Aim))) (aimed : ℕ) → IsUsed goals old new → HasGoal old aimed → HasGoal new aimed
used_there goals old new aimed u h = (h.0, record h.1 { uses = h.1.uses + times goals h.1.field.goal }, u.more h.0 h.1 h.2, h.3)

-- the keys so far
pub record AreShownTo (goals : List ℕ) (n : ℕ) (store : List (Option (Held Aim))) (keys : List ℕ) : Type 0 where
  pub count : length keys ≡ n
  pub shows : (i : ℕ) → i < n → (held : Held Aim) × (shown store (slice_index keys i) ≡ Some held) × (held.field.goal ≡ slice_index goals i)

pub shown_none : (goals : List ℕ) (store : List (Option (Held Aim))) → AreShownTo goals 0 store []
shown_none goals store = record { count = refl; shows = λ i less. absurd (omega (arith, less)) }

pub shown_more : (goals : List ℕ) (n key : ℕ) (mid new : List (Option (Held Aim))) (keys : List ℕ) → AreShownTo goals n mid keys → IsUsedOnce (slice_index goals n) mid new
    → (at : Held Aim) × (shown new key ≡ Some at) × (at.field.goal ≡ slice_index goals n) → AreShownTo goals (n + 1) new (keys ++ key ∷ [])
shown_more goals n key mid new keys s u at = record {
  count = omega (arith, length_push keys key, s.count);
  shows = λ i less. elim (cases_eq i n) [
    | inl is ↦ (
        let k : slice_index (keys ++ key ∷ []) i ≡ key = ap (slice_index (keys ++ key ∷ [])) (is ∙ sym s.count) ∙ get_or-append_seam keys key [] 0 in
        (at.0, ap (shown new) k ∙ at.1, at.2 ∙ ap (slice_index goals) (sym is)))
    | inr ne ↦ (
        let below : i < n = omega (arith, less, ne) in
        let was = s.shows i below in
        let k : slice_index (keys ++ key ∷ []) i ≡ slice_index keys i = get_or-append keys (key ∷ []) 0 i (omega (arith, below, s.count)) in
        (record was.0 { uses = was.0.uses + one_if (slice_index goals n == was.0.field.goal) }, ap (shown new) k ∙ u.more (slice_index keys i) was.0 was.1, was.2))
  ];
}

-- all together

-- a goal that is one of these is there once at least
some_times : (goals : List ℕ) (a : ℕ) (i : ℕ) → i ≤ length goals → (k : ℕ) → k < i → slice_index goals k ≡ a → 0 < times (take i goals) a
some_times goals a zero within k less e = absurd (omega (arith, less))
some_times goals a (suc i) within k less e = subst (λ (n : ℕ). 0 < times (take n goals) a) (next i) (
    let t = times_more goals i a (omega (arith, within)) in
    elim (cases_eq k i) [
      | inl is ↦ (
          let yes : one_if (slice_index goals i == a) ≡ 1 = ap one_if (eq-eqb (slice_index goals i) a (ap (slice_index goals) (sym is) ∙ e)) in
          omega (arith, t, yes))
      | inr ne ↦ (let r = some_times goals a i (omega (arith, within)) k (omega (arith, less, ne)) e in omega (arith, t, r))
    ])
  where
    next : (i : ℕ) → i + 1 ≡ suc i
    next i = omega arith

take_whole : (xs : List ℕ) → take (length xs) xs ≡ xs
take_whole [] = refl
take_whole (x ∷ xs) = ap (λ (ys : List ℕ). x ∷ ys) (take_whole xs)

-- a field is that of its goal
pub each_field : (m : Floor) (goals : List ℕ) (fields : List Aim) → AreFields m goals fields → (k : ℕ) (d : Aim) → k < length fields → IsField m (slice_index goals k) (get_or fields k d)
each_field m [] [] z k d less = absurd (omega (arith, less))
each_field m [] (f ∷ fs) z k d less = absurd z
each_field m (g ∷ gs) [] z k d less = absurd z
each_field m (g ∷ gs) (f ∷ fs) z zero d less = z.0
each_field m (g ∷ gs) (f ∷ fs) z (suc k) d less = each_field m gs fs z.1 k d (omega (arith, less))

pub fields_count : (m : Floor) (goals : List ℕ) (fields : List Aim) → AreFields m goals fields → length fields ≡ length goals
fields_count m [] [] z = refl
fields_count m [] (f ∷ fs) z = absurd z
fields_count m (g ∷ gs) [] z = absurd z
fields_count m (g ∷ gs) (f ∷ fs) z = ap suc (fields_count m gs fs z.1)

module _ (m : Floor) (goals missing : List ℕ) (fields : List Aim) (old mid new : List (Option (Held Aim))) (keys : List ℕ)
    (made : AreFields m missing fields) (only : (i : ℕ) → i < length missing → IsOneOf goals (slice_index missing i))
    (filled : IsFilled fields old mid) (used : IsUsed goals mid new) (s : AreShown goals new keys) where
  -- a field that was put in is right, and its goal is one of these
  put_right : (field : Aim) → Contains fields field → IsField m field.goal field × IsOneOf goals field.goal
  put_right field c =
      let right : IsField m (slice_index missing c.0) (get_or fields c.0 field) = each_field m missing fields made c.0 field c.1 in
      let at : IsField m (slice_index missing c.0) field = subst (IsField m (slice_index missing c.0)) c.2 right in
      let one = only c.0 (omega (arith, c.1, fields_count m missing fields made)) in
      (subst (λ (x : ℕ). IsField m x field) (sym at.goal) at, subst (IsOneOf goals) (sym at.goal) one)

  fresh_was : (key : ℕ) (held : Held Aim) → shown old key ≡ None → shown new key ≡ Some held → (was : Held Aim) × (shown mid key ≡ Some was) × (was.uses ≡ 0) × Contains fields was.field × (record was { uses = was.uses + times goals was.field.goal } ≡ held)
  fresh_was key held eo en = elim (something (shown mid key)) [
    | inl none ↦ absurd (none_some held (shown new key) (used.none key none) en)
    | inr some ↦ (let f = filled.fresh key some.0 eo some.1 in (some.0, some.1, f.0, f.1, some_once (record some.0 { uses = some.0.uses + times goals some.0.field.goal }) held (sym (used.more key some.0 some.1) ∙ en)))
  ]

  whole : times (take (length goals) goals) ≡ times goals
  whole = ap times (take_whole goals)

  pub are_held : AreHeld goals old keys new
  are_held = record {
    count = s.count;
    shows = s.shows;
    kept = λ key held e. used.more key held (filled.kept key held e);
    fresh = λ key held eo en. (
        let w = fresh_was key held eo en in
        let one = (put_right w.0.field w.3).1 in
        let some : 0 < times goals w.0.field.goal = subst (λ (f : ℕ → ℕ). 0 < f w.0.field.goal) whole (some_times goals w.0.field.goal (length goals) (omega arith) one.0 one.1 one.2) in
        let z = w.2 in
        subst (λ (h : Held Aim). (0 < h.uses) × (h.uses ≡ times goals h.field.goal)) w.4 (omega (arith, some), omega (arith, z)));
  }

  pub all_served : Serves m old → Serves m new
  all_served serves key held e = elim (something (shown old key)) [
    | inl none ↦ (let w = fresh_was key held none e in subst (λ (h : Held Aim). IsField m h.field.goal h.field) w.4 (put_right w.0.field w.3).0)
    | inr some ↦ (
        let one : record some.0 { uses = some.0.uses + times goals some.0.field.goal } ≡ held = some_once (record some.0 { uses = some.0.uses + times goals some.0.field.goal }) held (sym (used.more key some.0 (filled.kept key some.0 some.1)) ∙ e) in
        subst (λ (h : Held Aim). IsField m h.field.goal h.field) one (serves key some.0 some.1))
  ]

-- no use overflows
times_up_to : (goals : List ℕ) (a i : ℕ) → i ≤ length goals → times (take i goals) a ≤ i
times_up_to goals a zero within = let e : times (take 0 goals) a ≡ 0 = refl in omega (arith, e)
times_up_to goals a (suc i) within = subst (λ (n : ℕ). times (take n goals) a ≤ n) (next i) (
    let t = times_more goals i a (omega (arith, within)) in
    let r = times_up_to goals a i (omega (arith, within)) in
    let o = one_if_few (slice_index goals i == a) in
    omega (arith, t, r, o))
  where
    next : (i : ℕ) → i + 1 ≡ suc i
    next i = omega arith

-- a goal is no more often among these than they are
pub times_few : (goals : List ℕ) (a : ℕ) → times goals a ≤ length goals
times_few goals a = subst (λ (xs : List ℕ). times xs a ≤ length goals) (take_whole goals) (times_up_to goals a (length goals) (omega arith))

-- where nothing is held, few goals can be
pub few_new : (goals : List ℕ) → length goals < 4294967296 → HaveUsesLeft [] goals
few_new goals small aimed = (let t = times_few goals aimed in omega (arith, t, small), λ key held e _. absurd (none_some held None refl e))

times_below : (goals : List ℕ) (a : ℕ) (i k : ℕ) → i + k ≡ length goals → times (take i goals) a ≤ times goals a
times_below goals a i zero e = subst (λ (n : ℕ). times (take n goals) a ≤ times goals a) (omega (arith, e)) (subst (λ (xs : List ℕ). times xs a ≤ times goals a) (sym (take_whole goals)) (omega arith))
times_below goals a i (suc k) e =
    let t = times_more goals i a (omega (arith, e)) in
    let r = times_below goals a (i + 1) k (omega (arith, e)) in
    omega (arith, t, r)

pub uses_few : (goals : List ℕ) (i : ℕ) (old cur : List (Option (Held Aim))) → IsUsed (take i goals) old cur → i < length goals
    → HaveUsesLeft old goals → HasUsesLeft cur (slice_index goals i) 1
uses_few goals i old cur used less few key at e is = elim (something (shown old key)) [
  | inl none ↦ absurd (none_some at (shown cur key) (used.none key none) e)
  | inr was ↦ (
      let one : record was.0 { uses = was.0.uses + times (take i goals) was.0.field.goal } ≡ at = some_once (record was.0 { uses = was.0.uses + times (take i goals) was.0.field.goal }) at (sym (used.more key was.0 was.1) ∙ e) in
      let uses : was.0.uses + times (take i goals) was.0.field.goal ≡ at.uses = ap (λ (h : Held Aim). h.uses) one in
      let same : slice_index goals i ≡ was.0.field.goal = sym (ap (λ (h : Held Aim). h.field.goal) one ∙ is) in
      let yes : one_if (slice_index goals i == was.0.field.goal) ≡ 1 = ap one_if (eq-eqb (slice_index goals i) was.0.field.goal same) in
      let t = times_more goals i was.0.field.goal less in
      let b = times_below goals was.0.field.goal (i + 1) (length goals - (i + 1)) (omega (arith, less)) in
      let f = (few was.0.field.goal).1 key was.0 was.1 refl in
      omega (arith, uses, yes, t, b, f))
]

pub few_filled : (fields : List Aim) (goals : List ℕ) (old mid : List (Option (Held Aim))) → IsFilled fields old mid → HaveUsesLeft old goals → HaveUsesLeft mid goals
few_filled fields goals old mid filled few aimed = (
  (few aimed).0,
  λ key at e is. elim (something (shown old key)) [
    | inl none ↦ (let z = (filled.fresh key at none e).0 in let s = (few aimed).0 in omega (arith, z, s))
    | inr was ↦ (
        let one : was.0 ≡ at = some_once was.0 at (sym (filled.kept key was.0 was.1) ∙ e) in
        subst (λ (h : Held Aim). h.field.goal ≡ aimed → h.uses + times goals aimed < 4294967296) one ((few aimed).1 key was.0 was.1) is)
  ],
)
