use Rattle.std.proofs.Common.{◌≡◌, ℕ, ◌+◌, ◌<◌, ◌∙◌, List, ◌∷◌, Option, Some, None, length, drop, refl, sym, subst, arith}
use Rattle.std.proofs.lemmas.List.{drop_all, get_or_read}
use Rattle.fleet_field.specs.Field.{Aim}
use Rattle.fleet_field.specs.Store.{Keeps}
use Rattle.fleet_field.specs.declared.store.Held.{Held}
use Rattle.fleet_planner.specs.Keys.{key_at, AreCounted, AreKept}
use Rattle.fleet_planner.proofs.Counts.{spare_shown, released, passed, kept_on}
use Rattle.fleet_planner.proofs.Fields.{serves_kept}
use Rattle.fleet_planner.proofs.Turned.{next_spare}
use Rattle.fleet_planner.proofs.turns.give_back.Goals as goal
use Rattle.fleet_planner.proofs.turns.give_back.Goals.{in-Some, in_default}

pub loop-at-init : goal.loop-at-init
loop-at-init g c = record {
  counted = λ keys counted. counted;
  kept = λ key held is. (held, is, refl);
  keeps = λ m serves keeps. keeps;
}

pub release_to-requires : goal.release_to-requires
release_to-requires g c =
    let fresh = c.args.fresh.now.items in
    let n = c.loop-at.at in
    let keys = c.requires.counted.0 in
    let less : n < length fresh = (let test = c.loop-at-test.true in let long = c.len-at-end.ensures in omega (arith, test, long)) in
    let at : key_at fresh n ≡ c.index.result.now = sym (get_or_read fresh n c.index.result.now less c.index.ensures None) in
    spare_shown c.loop-at.store keys (drop (n + 1) fresh) c.in-Some.key
    (next_spare c.loop-at.store keys fresh n (Some c.in-Some.key) less (at ∙ c.in-Some.is) (c.loop-at.invariant.counted keys c.requires.counted.1))

pub loop-at-preserved : goal.loop-at-preserved
loop-at-preserved g c =
    let fresh = c.args.fresh.now.items in
    let n = c.loop-at.at in
    let i = c.loop-at.invariant in
    let less : n < length fresh = (let test = c.loop-at-test.true in let long = c.len-at-end.ensures in omega (arith, test, long)) in
    let at : key_at fresh n ≡ c.index.result.now = sym (get_or_read fresh n c.index.result.now less c.index.ensures None) in
    let spare : (key : Option ℕ) → c.index.result.now ≡ key → (keys : List (Option ℕ)) → AreCounted c.args.store.now keys fresh → AreCounted c.loop-at.store keys (key ∷ drop (n + 1) fresh) =
    λ key is keys counted. next_spare c.loop-at.store keys fresh n key less (at ∙ is) (i.counted keys counted) in
    elim c.match-index.branch [
      | in-Some w ↦ (
          let back : (keys : List (Option ℕ)) → AreCounted c.args.store.now keys fresh → AreCounted w.release_to.new.self keys (drop (n + 1) fresh) × AreKept c.loop-at.store w.release_to.new.self =
          λ keys counted. released c.loop-at.store w.release_to.new.self keys (drop (n + 1) fresh) w.in-Some.key (spare (Some w.in-Some.key) w.in-Some.is keys counted) w.release_to.ensures.released in
          record {
            counted = λ keys counted. subst (λ (s : List (Option (Held Aim))). AreCounted s keys (drop (n + 1) fresh)) (sym w.store-is) (back keys counted).0;
            kept = subst (AreKept c.args.store.now) (sym w.store-is) (kept_on c.args.store.now c.loop-at.store w.release_to.new.self i.kept (back c.requires.counted.0 c.requires.counted.1).1);
            keeps = λ m serves keeps. subst (Keeps m) (sym w.cache-is) (w.release_to.ensures.keeps m (serves_kept m c.args.store.now c.loop-at.store i.kept serves) (i.keeps m serves keeps));
          })
      | in_default w ↦ record {
        counted = λ keys counted. subst (λ (s : List (Option (Held Aim))). AreCounted s keys (drop (n + 1) fresh)) (sym w.store-is) (passed c.loop-at.store keys (drop (n + 1) fresh) (spare None w.in_default.is keys counted));
        kept = subst (AreKept c.args.store.now) (sym w.store-is) i.kept;
        keeps = λ m serves keeps. subst (Keeps m) (sym w.cache-is) (i.keeps m serves keeps);
      }
    ]

pub returns-clause-counted : goal.returns-clause-counted
returns-clause-counted g c =
    λ keys counted. subst (AreCounted c.loop-at.store keys) (drop_all c.loop-at.at c.args.fresh.now.items (let all = c.loop-at-test.false in let long = c.len-at-end.ensures in omega (arith, all, long))) (c.loop-at.invariant.counted keys counted)
