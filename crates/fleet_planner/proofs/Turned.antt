-- What stands after robots have turned to other goals.
use Rattle.std.proofs.Common.{◌≡◌, ℕ, ◌<◌, ◌≤◌, inl, inr, ◌+◌, List, [], ◌∷◌, length, map, replicate, set, get_or, drop, Option, Some, None, refl, sym, ap, subst, ◌∙◌, arith, rules, slice_index_or}
use Rattle.std.proofs.lemmas.Bool.{cases_eq, cases_lt}
use Rattle.std.proofs.lemmas.List.{get_or_past, length-map, length-set, map-set, drop_more, drop_all, get_or-set_other, ext_get_or, get_or-replicate, length-replicate}
use Rattle.fleet_grid.specs.Floor.{Floor}
use Rattle.fleet_field.specs.Field.{Aim}
use Rattle.fleet_field.specs.declared.store.Held.{Held}
use Rattle.fleet_planner.specs.declared.turns.GoalChange.{GoalChange}
use Rattle.fleet_planner.specs.Aims.{goal_in, goals_of, aim_at, AreOn}
use Rattle.fleet_planner.specs.Keys.{field_at, fields_of, key_at, holders, AreCounted, AreOwn, AreKept}
use Rattle.fleet_planner.specs.Turned.{turned}
use Rattle.fleet_planner.specs.inside.Turns.{dealt}
use Rattle.fleet_planner.proofs.Counts.{showing, swap_counts, none_own, holder_of, none_number}
use Rattle.fleet_planner.proofs.Fields.{aim_at-fields, field_kept}

-- robots that are dealt keys turn to the goals of these keys
pub goals_dealt : (store : List (Option (Held Aim))) (turns : List GoalChange) (fresh keys : List (Option ℕ)) → goals_of (fields_of store fresh) ≡ map (λ t. t.goal) turns
    → goals_of (fields_of store (dealt turns fresh keys)) ≡ turned turns (goals_of (fields_of store keys))
unfolding turned dealt
goals_dealt store [] fresh keys e = refl
goals_dealt store (t ∷ turns) [] keys e = (let no = ap (λ (xs : List (Option ℕ)). length xs) e in absurd (omega (arith, no)))
goals_dealt store (t ∷ turns) (key ∷ fresh) keys e =
    let mine : goal_in (field_at store key) ≡ t.goal = ap (λ (xs : List (Option ℕ)). slice_index_or xs 0 None) e in
    let rest : goals_of (fields_of store fresh) ≡ map (λ t. t.goal) turns = ap (λ (xs : List (Option ℕ)). drop 1 xs) e in
    let here : goals_of (fields_of store (set keys t.robot key)) ≡ set (goals_of (fields_of store keys)) t.robot t.goal =
    ap goals_of (map-set (field_at store) keys t.robot key) ∙ (map-set goal_in (fields_of store keys) t.robot (field_at store key) ∙ ap (λ (o : Option ℕ). set (goals_of (fields_of store keys)) t.robot o) mine) in
    goals_dealt store turns fresh (set keys t.robot key) rest ∙ ap (turned turns) here

-- the first n turns have their keys
pub record AreDealing (turns : List GoalChange) (fresh keys : List (Option ℕ)) (n : ℕ) (fresh_now keys_now : List (Option ℕ)) : Type 0 where
  pub known : length keys_now ≡ length keys
  pub count : length fresh_now ≡ length fresh
  pub left : (i : ℕ) → n ≤ i → key_at fresh_now i ≡ key_at fresh i
  pub deals : dealt (drop n turns) (drop n fresh) keys_now ≡ dealt turns fresh keys
  pub swaps : (key : ℕ) → holders keys_now key + holders fresh_now key ≡ holders keys key + holders fresh key

pub dealing_more : (turns : List GoalChange) (fresh keys : List (Option ℕ)) (n : ℕ) (fresh_now keys_now : List (Option ℕ)) (d : GoalChange) → n < length turns → length fresh ≡ length turns → (get_or turns n d).robot < length keys
    → AreDealing turns fresh keys n fresh_now keys_now → AreDealing turns fresh keys (n + 1) (set fresh_now n (key_at keys_now (get_or turns n d).robot)) (set keys_now (get_or turns n d).robot (key_at fresh_now n))
unfolding dealt
dealing_more turns fresh keys n fresh_now keys_now d less same below s =
    let t = get_or turns n d in
    let known = s.known in
    let count = s.count in
    let one = drop_more turns n d less in
    let two = drop_more fresh n None (omega (arith, less, same)) in
    record {
      known = length-set keys_now t.robot (key_at fresh_now n) ∙ known;
      count = length-set fresh_now n (key_at keys_now t.robot) ∙ count;
      left = λ i le. get_or-set_other fresh_now n i (key_at keys_now t.robot) None (λ e. omega (arith, le, e)) ∙ s.left i (omega (arith, le));
      deals = ap (λ (k : Option ℕ). dealt (drop (n + 1) turns) (drop (n + 1) fresh) (set keys_now t.robot k)) (s.left n (omega arith))
          ∙ (sym (ap (λ (ts : List GoalChange). dealt ts (drop n fresh) keys_now) one ∙ ap (λ (fs : List (Option ℕ)). dealt (t ∷ drop (n + 1) turns) fs keys_now) two) ∙ s.deals);
      swaps = λ key. (
          let a = swap_counts keys_now fresh_now t.robot n key (omega (arith, below, known)) (omega (arith, less, same, count)) in
          let b = s.swaps key in
          omega (arith, a, b));
    }

pub dealing_all : (turns : List GoalChange) (fresh keys : List (Option ℕ)) (n : ℕ) (fresh_now keys_now : List (Option ℕ)) → length turns ≤ n → AreDealing turns fresh keys n fresh_now keys_now → keys_now ≡ dealt turns fresh keys
unfolding dealt
dealing_all turns fresh keys n fresh_now keys_now all s = sym (ap (λ (ts : List GoalChange). dealt ts (drop n fresh) keys_now) (drop_all n turns all)) ∙ s.deals

-- the next spare key
pub next_spare : (store : List (Option (Held Aim))) (keys fresh : List (Option ℕ)) (n : ℕ) (key : Option ℕ) → n < length fresh → key_at fresh n ≡ key → AreCounted store keys (drop n fresh) → AreCounted store keys (key ∷ drop (n + 1) fresh)
next_spare store keys fresh n key less e c = subst (AreCounted store keys) (drop_more fresh n None less ∙ ap (λ (x : Option ℕ). x ∷ drop (n + 1) fresh) e) c

-- what is given back takes no robot's field away
pub fields_kept : (old new : List (Option (Held Aim))) (keys : List (Option ℕ)) → AreCounted new keys [] → AreKept old new → fields_of new keys ≡ fields_of old keys
fields_kept old new keys c kept =
    let a = length-map keys (field_at new) in
    let b = length-map keys (field_at old) in
    ext_get_or None (fields_of new keys) (fields_of old keys) (omega (arith, a, b)) (λ r less. aim_at-fields new keys r ∙ (at r (key_at keys r) refl ∙ sym (aim_at-fields old keys r)))
  where
    at : (r : ℕ) (k : Option ℕ) → key_at keys r ≡ k → field_at new k ≡ field_at old k
    at r None e = refl
    at r (Some k) e = field_kept old new k kept (showing new keys [] c r k e)

-- no robot aims at anything

none_at : (n robot : ℕ) → key_at (replicate n None) robot ≡ None
none_at n robot = elim (cases_lt robot n) [
  | inl less ↦ get_or-replicate n robot None None less
  | inr past ↦ (let nothing : Option ℕ = None in let long = length-replicate n nothing in get_or_past (replicate n None) robot None (omega (arith, long, past)))
]

pub own_none : (n : ℕ) (store : List (Option (Held Aim))) (keys : List (Option ℕ)) → n ≤ 512 → store ≡ [] → keys ≡ replicate n None → AreOwn store keys
own_none n store keys few e f =
    subst (λ (s : List (Option (Held Aim))). AreOwn s keys) (sym e) (subst (λ (ks : List (Option ℕ)). AreOwn [] ks) (sym f)
    (none_own (replicate n None) (let nothing : Option ℕ = None in let long = length-replicate n nothing in omega (arith, long, few)) (λ k. elim (cases_eq (holders (replicate n None) k) 0) [
      | inl zero ↦ zero
      | inr some ↦ (
          let robot = holder_of (replicate n None) k (omega (arith, some)) in
          absurd (none_number (key_at (replicate n None) robot.0) k (none_at n robot.0) robot.1))
    ])))

pub fields_none : (n : ℕ) (store : List (Option (Held Aim))) (keys : List (Option ℕ)) → keys ≡ replicate n None → fields_of store keys ≡ replicate n None
fields_none n store keys f = ap (fields_of store) f ∙ (
    let no_key : Option ℕ = None in
    let no_aim : Option Aim = None in
    let a = length-map (replicate n no_key) (field_at store) in
    let b = length-replicate n no_key in
    let c = length-replicate n no_aim in
    ext_get_or None (fields_of store (replicate n None)) (replicate n None) (omega (arith, a, b, c)) (λ robot less. aim_at-fields store (replicate n None) robot ∙ (ap (field_at store) (none_at n robot) ∙ sym (get_or-replicate n robot None None (omega (arith, less, a, b))))))

-- the same, where the lists are read through slices
pub on_none : (m : Floor) (n : ℕ) (store : List (Option (Held Aim))) (keys : List (Option ℕ)) → keys ≡ replicate n None → AreOn m (fields_of store keys)
on_none m n store keys f robot aim e =
    let none : aim_at (fields_of store keys) robot ≡ None = aim_at-fields store keys robot ∙ ap (field_at store) (ap (λ (ks : List (Option ℕ)). key_at ks robot) f ∙ none_at n robot) in
    absurd (none_some_aim (aim_at (fields_of store keys) robot) aim none e)
  where
    none_some_aim : (o : Option Aim) (a : Aim) → o ≡ None → o ≡ Some a → ⊥
    none_some_aim None a p q = search (rules, q)
    none_some_aim (Some b) a p q = search (rules, p)
