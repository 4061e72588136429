use Rattle.std.proofs.Common.{◌≡◌, ℕ, ◌+◌, ◌<◌, ◌⊎◌, vec_len, List, length, slice_index, take, sym, ap, subst, ◌∙◌, arith}
use Rattle.std.specs.List.{All, Contains}
use Rattle.std.proofs.lemmas.List.Elements.{All-take}
use Rattle.fleet_grid.specs.Floor.{IsFloor}
use Rattle.fleet_field.specs.Field.{Aim, IsField}
use Rattle.fleet_field.specs.Several.{AreFields}
use Rattle.fleet_field.specs.FieldCache.{FieldCache, HasKept, AreKept, IsFieldOf, places}
use Rattle.fleet_field.specs.inside.Sorted.{AreSorted}
use Rattle.fleet_field.proofs.Ahead.{made_of, ahead_only, ahead_keeps}
use Rattle.fleet_field.proofs.Fronted.{all_placed}
use Rattle.fleet_field.proofs.Missing.{floor_missing}
use Rattle.fleet_field.proofs.cache.FieldCache.search_ahead.Goals as goal

pub compasses-requires-after_bounds : goal.compasses-requires-after_bounds
compasses-requires-after_bounds g c κs bounds =
    let m = c.args.grid.now in
    subst (λ (xs : List ℕ). (i : ℕ) → i < length xs → IsFloor m (slice_index xs i)) (sym c.deref.ensures.value)
    (floor_missing m c.args.goals.now c.in_ok-lists.lists.1.items c.requires.floor c.in_ok-lists.ensures.only)

pub returns-clause-only : goal.returns-clause-only
returns-clause-only g c =
    let m = c.args.grid.now in
    let goals = c.args.goals.now in
    let fresh = c.in_ok-fresh.fresh.items in
    let made : AreFields m c.in_ok-lists.lists.1.items fresh = subst (λ (xs : List ℕ). AreFields m xs fresh) c.deref.ensures.value c.in_ok-fresh.ensures in
    let was : c.reserve.new.self.items ≡ c.args.self.now.kept = c.reserve.ensures.items ∙ ap (λ (s : FieldCache). s.kept) c.self.view_is in
    let among = subst (λ (xs : List Aim). All (Contains xs) c.all_to_front.new.kept.items) was c.all_to_front.ensures.among in
    let all = ahead_only m goals fresh c.args.self.now.kept c.all_to_front.new.kept.items c.put_first.new.kept.items (made_of m goals c.in_ok-lists.lists.1.items fresh made c.in_ok-lists.ensures.only) among c.put_first.ensures.among in
    let P = λ (f : Aim). IsFieldOf m goals f ⊎ Contains c.args.self.now.kept f in
    subst (λ (xs : List Aim). All P xs) (sym c.truncate.ensures.items) (All-take P c.places-place.result c.put_first.new.kept.items all)

pub returns-clause-keeps : goal.returns-clause-keeps
returns-clause-keeps g c =
    ahead_keeps c.args.grid.now c.args.goals.now c.args.self.now.kept c.truncate.new.self.items (returns-clause-only g c) c.requires.keeps

pub returns-clause-all : goal.returns-clause-all
returns-clause-all g c = c.has_all.ensures

pub returns-clause-place : goal.returns-clause-place
returns-clause-place g c = λ enough.
    let m = c.args.grid.now in
    let goals = c.args.goals.now in
    let fresh = c.in_ok-fresh.fresh.items in
    let made : AreFields m c.in_ok-lists.lists.1.items fresh = subst (λ (xs : List ℕ). AreFields m xs fresh) c.deref.ensures.value c.in_ok-fresh.ensures in
    let bytes = ap (λ (s : FieldCache). s.bytes) c.self.view_is in
    let place : c.places-place.result ≡ places c.args.self.now.bytes (length m.letters) = c.places-place.ensures ∙ (ap (λ (b : ℕ). places b c.cell_count.result) bytes ∙ ap (places c.args.self.now.bytes) c.cell_count.ensures.value) in
    let all : c.min-first.result ≡ length goals = omega (arith, c.min-first.ensures, place, enough) in
    let sorted : AreSorted c.self.inside.kept.items goals (length goals) c.in_ok-lists.lists.0.items c.in_ok-lists.lists.1.items = subst (λ (n : ℕ). AreSorted c.self.inside.kept.items goals n c.in_ok-lists.lists.0.items c.in_ok-lists.lists.1.items) all c.in_ok-lists.ensures in
    let front = subst (λ (xs : List ℕ). AreKept xs (take (length xs) c.all_to_front.new.kept.items)) c.deref-2.ensures.value c.all_to_front.ensures.within in
    let count : vec_len c.in_ok-fresh.fresh ≡ length fresh = omega arith in
    let mid = c.all_to_front.new.kept.items in
    let new = c.put_first.new.kept.items in
    let within = subst (λ (k : ℕ). (n other : ℕ) → HasKept (take n mid) other → HasKept (take (n + k) new) other) count c.put_first.ensures.within in
    let first = subst (λ (k : ℕ). (f : Aim) → Contains fresh f → HasKept (take k new) f.goal) count c.put_first.ensures.first in
    c.has_all.ensures.1 (subst (AreKept goals) (sym c.truncate.ensures.items)
    (all_placed m c.self.inside.kept.items goals c.in_ok-lists.lists.0.items c.in_ok-lists.lists.1.items fresh mid new c.places-place.result
    sorted made front within first (omega (arith, place, enough))))

pub returns-clause-refused : goal.returns-clause-refused
returns-clause-refused g c = tt

pub returns-in_err-reserve-clause-keeps : goal.returns-in_err-reserve-clause-keeps
returns-in_err-reserve-clause-keeps g c =
    let was : c.reserve.new.self.items ≡ c.args.self.now.kept = c.reserve.ensures.items ∙ ap (λ (s : FieldCache). s.kept) c.self.view_is in
    subst (λ (xs : List Aim). All (λ (f : Aim). IsField c.args.grid.now f.goal f) xs) (sym was) c.requires.keeps

pub all_to_front-requires-clause-all : goal.all_to_front-requires-clause-all
all_to_front-requires-clause-all g c =
    subst (λ (goals : List ℕ). AreKept goals c.reserve.new.self.items) (sym c.deref-2.ensures.value)
    (subst (λ (xs : List Aim). AreKept c.in_ok-lists.lists.0.items xs) (sym c.reserve.ensures.items) c.in_ok-lists.ensures.has)
