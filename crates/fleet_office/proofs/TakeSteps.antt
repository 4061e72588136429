-- An order more, or none.
use Rattle.std.proofs.Common.{◌≡◌, ◌≢◌, ◌↔◌, ◌<◌, ℕ, List, length, set, Some, None, Option, refl, ap, sym, ◌∙◌, subst, ⊎_elim}
use Rattle.std.specs.Prelude.{IfOk, OnErr, Ok, Err, Result, slice_get}
use Rattle.fleet_book.specs.declared.verdict.Verdict.{Verdict}
use Rattle.fleet_lanes.specs.Names.{LaneName}
use Rattle.fleet_lanes.specs.Ends.{EndView}
use Rattle.fleet_history.specs.declared.history.Entry.TheVariants as entry
use Rattle.fleet_core.specs.Core.{World, grown}
use Rattle.fleet_core.specs.declared.faults.TakeFault.{TakeFault}
use Rattle.fleet_office.specs.Hall.{IsLawful, ShowsOrder, TakesOne, TakesFrom, StaysBut, Looks, lists, lists_of}
use Rattle.fleet_office.proofs.Laws.{lawful_take, lawful_same}
use Rattle.fleet_office.proofs.Places.{at_set, set_there}
use Rattle.std.proofs.lemmas.List.{map-set}
use Rattle.std.proofs.Math.Seq.{map-set_same}
use Rattle.std.proofs.lemmas.Option.{get_or_from_slice_get}

-- what `take_from` ensures
pub record Taken {A : Type 0} (w v : World A) (e d : EndView A) (c : ℕ) (r : Result (Option Verdict) TakeFault) : Type 0 where
  pub ok : IfOk r (λ o. TakesFrom w e c o v d)
  pub err : OnErr r ((v ≡ w) × StaysBut e d)

module _ {A : Type 0} where
  one_of : (ends : List (EndView A)) (c : ℕ) (e x : EndView A) → slice_get ends c ≡ Some e → slice_get ends c ≡ Some x → e ≡ x
  one_of ends c e x at there = let both : Some e ≡ Some x = sym at ∙ there in cc

  pub same_lists : (ends : List (EndView A)) (c : ℕ) (e d : EndView A) → slice_get ends c ≡ Some e → lists d ≡ lists e → lists_of (set ends c d) ≡ lists_of ends
  same_lists ends c e d at same = map-set_same lists ends c d e (same ∙ ap lists (sym (get_or_from_slice_get ends c e e at)))

  module _ (rings : List (LaneName A)) (began : World A) (w : World A) (ends : List (EndView A)) (t c : ℕ) (e : EndView A) (at : slice_get ends c ≡ Some e) (v : World A) (d : EndView A) where
    kept_same : v ≡ w → d.lane ≡ e.lane → d.taken ≡ e.taken → d.given ≡ e.given → IsLawful rings began w ends t → IsLawful rings began v (set ends c d) t
    kept_same is lane taken given h = subst (λ x. IsLawful rings began x (set ends c d) t) (sym is) (lawful_same rings began w ends t c e d at lane taken given h)

    pub kept : (r : Result (Option Verdict) TakeFault) → Taken w v e d c r → IsLawful rings began w ends t → IsLawful rings began v (set ends c d) t
    kept (Ok None) k h = kept_same k.ok.0 (ap (λ x. x.lane) k.ok.1) (ap (λ x. x.taken) k.ok.1) (ap (λ x. x.given) k.ok.1) h
    kept (Ok (Some n)) k h =
        subst (λ x. IsLawful rings began x (set ends c d) t) (sym k.ok.1.world) (subst (λ x. IsLawful rings began (grown {A = A} w (entry.Take c k.ok.0 n)) (set ends c x) t) (sym k.ok.4) (lawful_take rings began w ends t c e k.ok.0 n d.known k.ok.1.verdict at h))
    kept (Err f) k h = kept_same k.err.0 (ap (λ x. x.lane) k.err.1) (ap (λ x. x.taken) k.err.1) (ap (λ x. x.given) k.err.1) h

    pub told : (r : Result (Option Verdict) TakeFault) → Taken w v e d c r → IfOk r (λ o. TakesOne (record { world = w; ends = ends; total = t }) c o (record { world = v; ends = set ends c d; total = t }))
    told (Ok None) k = record {
      looks = record { world = k.ok.0; lists = same_lists ends c e d at (ap lists k.ok.1); total = refl };
      none = λ x there. ap (λ y. length y.known) (one_of ends c x e there at) ∙ k.ok.2;
    }
    told (Ok (Some n)) k = record {
      order = k.ok.0;
      end = e;
      there = at;
      takes = k.ok.1;
      room = k.ok.2;
      entries = k.ok.3;
      lists = map-set lists ends c d ∙ ap (λ y. set (lists_of ends) c (lists y)) k.ok.4;
      total = refl;
    }
    told (Err f) k = tt

    pub untold : (r : Result (Option Verdict) TakeFault) → Taken w v e d c r → OnErr r (Looks (record { world = w; ends = ends; total = t }) (record { world = v; ends = set ends c d; total = t }))
    untold (Ok o) k = tt
    untold (Err f) k = record { world = k.err.0; lists = same_lists ends c e d at (ap lists k.err.1); total = refl }

    -- an order that the client's end shows is one that the office shows
    shows : 0 < length d.known → ShowsOrder (record { world = v; ends = set ends c d; total = t }) c
    shows known = (d, set_there ends c e d at, known)

    knows : ShowsOrder (record { world = v; ends = set ends c d; total = t }) c → 0 < length d.known
    knows k =
        let own : d ≡ k.0 = ⊎_elim (λ (s : (c ≡ c) × (d ≡ k.0)). s.1) (λ (s : (c ≢ c) × (slice_get ends c ≡ Some k.0)). absurd (s.0 refl)) (at_set ends c c d k.0 k.1) in
        subst (λ x. 0 < length x.known) (sym own) k.2

    pub shown : (r : Result (Option Verdict) TakeFault) (f : TakeFault) (P : Type 0) → ((r ≡ Err f) ↔ ((0 < length d.known) × P))
        → ((r ≡ Err f) ↔ (ShowsOrder (record { world = v; ends = set ends c d; total = t }) c × P))
    shown r f P h = ((λ is. let k = h.0 is in (shows k.0, k.1)), (λ k. h.1 (knows k.0, k.1)))

    pub shown-both : (r : Result (Option Verdict) TakeFault) (f : TakeFault) (P Q : Type 0) → ((r ≡ Err f) ↔ ((0 < length d.known) × P × Q))
        → ((r ≡ Err f) ↔ (ShowsOrder (record { world = v; ends = set ends c d; total = t }) c × P × Q))
    shown-both r f P Q h = ((λ is. let k = h.0 is in (shows k.0, k.1, k.2)), (λ k. h.1 (knows k.0, k.1, k.2)))
