-- The actions of a robot that turns, read one by one.
use Rattle.std.proofs.Common.{◌≡◌, ℕ, List, [], ◌∷◌, ◌++◌, Option, Some, None, refl, sym, ap, ◌∙◌}
use Rattle.std.specs.Option.{option_map, option_and_then}
use Rattle.std.proofs.lemmas.List.{append_assoc}
use Rattle.fleet_grid.specs.declared.dir.Dir.{Dir}
use Rattle.fleet_plans.specs.Turning.{act_in, turned}
use Rattle.fleet_plans.proofs.Parts.{joined}

module _ (all : Option (List ℕ)) (letters : List ℕ) (ahead : Dir) (part : List ℕ) (parts : List (List ℕ)) (is : all ≡ joined letters (turned ahead (part ∷ parts))) where
  abbrev Goes : Option (ℕ × Dir) → Option (List ℕ)
  Goes o = joined letters (option_and_then (λ a. option_map (λ ls. a.0 ∷ ls) (turned a.1 parts)) o)

  pub turned_more : (letter : ℕ) (next : Dir) → act_in ahead part ≡ Some (letter, next) → all ≡ joined (letters ++ letter ∷ []) (turned next parts)
  turned_more letter next e = is ∙ (ap Goes e ∙ shift (turned next parts))
    where
      shift : (o : Option (List ℕ)) → joined letters (option_map (λ ls. letter ∷ ls) o) ≡ joined (letters ++ letter ∷ []) o
      shift None = refl
      shift (Some ys) = ap (λ (l : List ℕ). Some l) (sym (append_assoc letters (letter ∷ []) ys))

  pub turned_none : act_in ahead part ≡ None → None ≡ all
  turned_none e = sym (is ∙ ap Goes e)
