-- One errand more that stays, or is dropped.
use Rattle.std.proofs.Common.{◌≡◌, ◌∙◌, ℕ, List, [], ◌∷◌, ◌++◌, ap, sym}
use Rattle.std.specs.Prelude.{map}
use Rattle.std.proofs.lemmas.List.{append_assoc, map_push}
use Rattle.fleet_refit.specs.declared.change.Dropped.{Dropped}
use Rattle.fleet_queue.specs.declared.errand.Errand.{Errand}
use Rattle.fleet_refit.specs.Sifting.{Sifts, none, kept, dropped, dropped_of}

pub sifts-kept : {S : Errand → Type 0} {all stay gone : List Errand} (e : Errand) → Sifts S all stay gone → S e → Sifts S (all ++ e ∷ []) (stay ++ e ∷ []) gone
sifts-kept e none stays = kept e stays none
sifts-kept e (kept x s rest) stays = kept x s (sifts-kept e rest stays)
sifts-kept e (dropped x s rest) stays = dropped x s (sifts-kept e rest stays)

pub sifts-dropped : {S : Errand → Type 0} {all stay gone : List Errand} (e : Errand) → Sifts S all stay gone → (S e → ⊥) → Sifts S (all ++ e ∷ []) stay (gone ++ e ∷ [])
sifts-dropped e none goes = dropped e goes none
sifts-dropped e (kept x s rest) goes = kept x s (sifts-dropped e rest goes)
sifts-dropped e (dropped x s rest) goes = dropped x s (sifts-dropped e rest goes)

-- ---- with the list of what is dropped

abbrev pub Lists : (Errand → Type 0) → ℕ → List Errand → List Errand → List Dropped → List Dropped → Type 0
Lists S robot taken stay before now = (gone : List Errand) × Sifts S taken stay gone × (now ≡ before ++ map (dropped_of robot) gone)

pub lists-kept : (S : Errand → Type 0) (robot : ℕ) (taken stay : List Errand) (before now : List Dropped) (e : Errand) → Lists S robot taken stay before now → S e →
    Lists S robot (taken ++ e ∷ []) (stay ++ e ∷ []) before now
lists-kept S robot taken stay before now e (gone, sifts, is) stays = (gone, sifts-kept e sifts stays, is)

pub lists-dropped : (S : Errand → Type 0) (robot : ℕ) (taken stay : List Errand) (before now : List Dropped) (e : Errand) → Lists S robot taken stay before now → (S e → ⊥) →
    Lists S robot (taken ++ e ∷ []) stay before (now ++ dropped_of robot e ∷ [])
lists-dropped S robot taken stay before now e (gone, sifts, is) goes =
    let one = dropped_of robot e ∷ [] in (
      gone ++ e ∷ [],
      sifts-dropped e sifts goes,
      ap (λ l. l ++ one) is ∙ append_assoc before (map (dropped_of robot) gone) one ∙ ap (λ l. before ++ l) (sym (map_push (dropped_of robot) gone e)),
    )
