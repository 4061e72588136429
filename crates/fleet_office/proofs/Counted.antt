-- How many notices were given.
use Rattle.std.proofs.Common.{◌≡◌, ℕ, zero, suc, ◌+◌, ◌*◌, ◌^◌, ◌<◌, ◌≤◌, List, [], ◌∷◌, ◌++◌, Bool, true, false, length, set, get_or, Some, refl, ap, sym, ◌∙◌, arith, subst, ⊎_elim, length-append}
use Rattle.std.specs.List.{slice_get, sum_by}
use Rattle.std.proofs.lemmas.List.Sums.{sum_by-cons, sum_by-set}
use Rattle.std.proofs.lemmas.Option.{get_or_from_slice_get}
use Rattle.std.proofs.Math.ListN.{length-set}
use Rattle.fleet_book.specs.declared.verdict.Verdict.{Verdict}
use Rattle.fleet_history.specs.History.{clients, owed}
use Rattle.fleet_history.specs.Notices.{noticed_count}
use Rattle.fleet_core.specs.Core.{World, pending}
use Rattle.fleet_core.specs.declared.faults.TickReport.{TickReport}
use Rattle.fleet_lanes.specs.Names.{LaneName}
use Rattle.fleet_lanes.specs.Ends.{EndView}
use Rattle.fleet_office.specs.Hall.{HallView, IsLawful, Looks, Lists, lists, lists_of, TakesOrder, TakesNone, TakesMany, IsEnough, TakesFirst, GivesOne, GivesFrom, TicksOnce, given_count}
use Rattle.fleet_office.proofs.Places.{within, map_at}

-- a sum whose terms are small is small
at_most : {X : Type 0} (f : X → ℕ) (m : ℕ) (xs : List X) → ((k : ℕ) (x : X) → slice_get xs k ≡ Some x → f x ≤ m) → sum_by f xs ≤ length xs * m
at_most f m [] h = omega arith
at_most f m (x ∷ xs) h =
    let one = h 0 x refl in
    let rest = at_most f m xs (λ k y there. h (suc k) y there) in
    subst (λ n. n ≤ suc (length xs) * m) (sym (sum_by-cons f x xs)) (omega (arith, one, rest))

module _ {A : Type 0} where
  -- each client was given few
  each_few : (rings : List (LaneName A)) (began : World A) (w : World A) (ends : List (EndView A)) (t : ℕ) → IsLawful rings began w ends t
      → ((c : ℕ) → c < clients w.history → noticed_count w.history c + owed w.history c ≤ 2 ^ 57)
      → (k : ℕ) (e : EndView A) → slice_get ends k ≡ Some e → length e.given ≤ 2 ^ 57
  each_few rings began w ends t h few k e there =
      let law = h.laws k e there in
      let inside = within ends k e there in
      let known : k < clients w.history = omega (arith, inside, h.end_count) in
      omega (arith, law.keeps.told_length, few k known, length-append e.given (pending w k).notices)

  -- all that was given is few
  pub countable : (rings : List (LaneName A)) (began : World A) (w : World A) (ends : List (EndView A)) (t : ℕ) → IsLawful rings began w ends t
      → ((c : ℕ) → c < clients w.history → noticed_count w.history c + owed w.history c ≤ 2 ^ 57)
      → sum_by (λ e. length e.given) ends ≤ 2 ^ 63
  countable rings began w ends t h few =
      let all = at_most (λ (e : EndView A). length e.given) (2 ^ 57) ends (each_few rings began w ends t h few) in
      omega (arith, all, h.few)

  abbrev given_of : Lists A → ℕ
  given_of l = length l.given

  by_lists : (ends : List (EndView A)) → sum_by given_of (lists_of ends) ≡ sum_by (λ e. length e.given) ends
  by_lists [] = refl
  by_lists (e ∷ ends) = sum_by-cons given_of (lists e) (lists_of ends) ∙ ap (λ n. length e.given + n) (by_lists ends) ∙ sym (sum_by-cons (λ (x : EndView A). length x.given) e ends)

  pub looks-given : (h g : HallView A) → Looks h g → given_count g ≡ given_count h
  looks-given h g l = sym (by_lists g.ends) ∙ ap (sum_by given_of) l.lists ∙ by_lists h.ends

  pub order-given : (h g : HallView A) (c : ℕ) (v : Verdict) → TakesOrder h c v g → given_count g ≡ given_count h
  order-given h g c v t =
      let l : Lists A = record { lane = t.end.lane; taken = t.end.taken ++ t.order ∷ []; given = t.end.given } in
      let there = map_at lists h.ends c t.end t.there in
      let s = sum_by-set given_of (lists_of h.ends) c l l (within (lists_of h.ends) c (lists t.end) there) in
      let own : get_or (lists_of h.ends) c l ≡ lists t.end = get_or_from_slice_get (lists_of h.ends) c (lists t.end) l there in
      let same : given_of (get_or (lists_of h.ends) c l) ≡ length t.end.given = ap given_of own in
      let sums : sum_by given_of (set (lists_of h.ends) c l) ≡ sum_by given_of (lists_of h.ends) = omega (arith, s, same) in
      sym (by_lists g.ends) ∙ ap (sum_by given_of) t.lists ∙ sums ∙ by_lists h.ends

  pub many-given : (n : ℕ) (h g : HallView A) (c : ℕ) → TakesMany n h c g → given_count g ≡ given_count h
  many-given zero h g c t = ap given_count t
  many-given (suc n) h g c t = order-given t.0 g c t.1 t.3 ∙ many-given n h t.0 c t.2

  enough-given : (h g : HallView A) (c n : ℕ) (held : Bool) → IsEnough h c n held g → given_count g ≡ given_count h
  enough-given h g c n true e = looks-given h g e.looks
  enough-given h g c n false e = ⊎_elim (λ (s : (n ≡ h.world.limits.lane) × (g ≡ h)). ap given_count s.1) (λ (s : TakesNone h c g). looks-given h g s.looks) e

  pub first-given : (k : ℕ) (h g : HallView A) (taken held : ℕ) → TakesFirst k h taken held g → given_count g ≡ given_count h
  first-given zero h g taken held t = ap given_count t.0
  first-given (suc k) h g taken held t =
      let mid = t.0 in
      let s = t.6 in
      enough-given s.mid g k t.3 t.4 s.enough ∙ many-given t.3 mid s.mid k s.takes ∙ first-given k h mid t.1 t.2 t.5

  -- what one client was given is counted
  pub one-given : (h g : HallView A) (c n : ℕ) → GivesOne h c n g → given_count g ≡ given_count h + n
  one-given h g c n o =
      let s = sum_by-set (λ (e : EndView A). length e.given) h.ends c o.after o.after (within h.ends c o.before o.there) in
      let own : get_or h.ends c o.after ≡ o.before = get_or_from_slice_get h.ends c o.before o.after o.there in
      let old : length (get_or h.ends c o.after).given ≡ length o.before.given = ap (λ (e : EndView A). length e.given) own in
      let new : length o.after.given ≡ length (o.before.given ++ o.gives.moved) = ap (λ (e : EndView A). length e.given) o.gives.end in
      ap (λ xs. sum_by (λ (e : EndView A). length e.given) xs) o.ends ∙ omega (arith, s, old, new, length-append o.before.given o.gives.moved, o.gives.count)

  pub one-length : (h g : HallView A) (c n : ℕ) → GivesOne h c n g → length g.ends ≡ length h.ends
  one-length h g c n o = ap length o.ends ∙ length-set h.ends c o.after

  -- one client more was given to
  pub from-more : (k : ℕ) (h m g : HallView A) (n j : ℕ) → GivesFrom k h n m → GivesOne m k j g → GivesFrom (k + 1) h (n + j) g
  from-more k h m g n j before one =
      let e : suc k ≡ k + 1 = omega arith in
      let all : GivesFrom (suc k) h (n + j) g = (m, n, j, before, one, refl) in
      subst (λ x. GivesFrom x h (n + j) g) e all

  pub ticks-given : (h g : HallView A) (report : TickReport) → TicksOnce h report g → given_count g ≡ given_count h
  ticks-given h g report t = ap (λ xs. sum_by (λ (e : EndView A). length e.given) xs) t.ends
