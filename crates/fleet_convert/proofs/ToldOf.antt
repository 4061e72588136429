-- What is shown of a plan that was studied.
use Rattle.std.proofs.Common.{◌≡◌, ℕ, List, length, Option, String, Global, Result, Ok, Err, refl, sym, ap, subst, ◌∙◌}
use Rattle.fleet_map.specs.Grammar.{Map, map_of}
use Rattle.fleet_map.specs.declared.fault.MapFault.{MapFault}
use Rattle.fleet_plans.specs.declared.study.Study.{Study}
use Rattle.fleet_plans.specs.Study.{IsStudy, without_map, with_map}
use Rattle.fleet_convert.specs.Shown.{IsShownAs, IsInvalidShown, on_map}
use Rattle.fleet_convert.proofs.Traced.{one_map}

module _ (bytes plan : List ℕ) (m : Map) (s : Study) (here : map_of bytes ≡ Ok m) where
  pub told : (count : ℕ) (o : Option (String Global)) → count ≡ length m.cells → IsStudy bytes plan s → IsShownAs count s.answer s.places o → IsInvalidShown bytes plan o
  told count o all (without_map f fails is) shown = let bad : Ok m ≡ Err f = sym here ∙ fails in absurd cc
  told count o all (with_map n there width study) shown =
      let cells : count ≡ length n.cells = all ∙ ap (λ (x : Map). length x.cells) (one_map n m (map_of bytes) there here) in
      on_map n there s.answer s.places study (subst (λ (k : ℕ). IsShownAs k s.answer s.places o) cells shown)
