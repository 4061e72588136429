-- Chapters that are followed, one by one.
use Rattle.std.proofs.Common.{◌≡◌, ◌∙◌, ℕ, ◌+◌, ◌<◌, ◌≤◌, inl, inr, List, [], ◌∷◌, length, get_or, map, drop, sym, ap, subst}
use Rattle.std.proofs.lemmas.List.{drop_more, drop_all}
use Rattle.fleet_grid.specs.Floor.{Floor}
use Rattle.fleet_trace.specs.Trace.{Trace}
use Rattle.fleet_stats.specs.declared.fault.StatsFault.{StatsFault}
use Rattle.fleet_stats.specs.Noted.{Notes, history_noted, chapters_noted}
use Rattle.fleet_trace.specs.Chapters.{IsSound}
use Rattle.fleet_stats.specs.Chapters.{AreSound, IsUnsound, AreUnsound}

module _ {A C : Type 0} (m : Floor) (g : C → Trace A) (cs : List C) (k : ℕ) where
  module _ (c : C) (less : k < length cs) (is : get_or cs k c ≡ c) where
    left-is : map g (drop k cs) ≡ g c ∷ map g (drop (k + 1) cs)
    left-is = ap (map g) (drop_more cs k c less ∙ ap (λ y. y ∷ drop (k + 1) cs) is)

    pub noted-more : (n more all : Notes) → more ≡ history_noted (g c).history n → chapters_noted (map g (drop k cs)) n ≡ all → chapters_noted (map g (drop (k + 1) cs)) more ≡ all
    noted-more n more all by before = ap (chapters_noted (map g (drop (k + 1) cs))) by ∙ sym (ap (λ (ts : List (Trace A)). chapters_noted ts n) left-is) ∙ before

    pub sound-more : IsSound m (g c).history → AreSound m (map g (drop (k + 1) cs)) → AreSound m (map g (drop k cs))
    sound-more sound rest = subst (λ (ts : List (Trace A)). AreSound m ts) (sym left-is) (sound, rest)

    pub unsound-now : (number : ℕ) (fault : StatsFault) → IsUnsound m number (g c).history fault → AreUnsound m number (map g (drop k cs)) fault
    unsound-now number fault why = subst (λ (ts : List (Trace A)). AreUnsound m number ts fault) (sym left-is) (inl why)

    pub unsound-later : (number : ℕ) (fault : StatsFault) → IsSound m (g c).history → AreUnsound m (number + 1) (map g (drop (k + 1) cs)) fault → AreUnsound m number (map g (drop k cs)) fault
    unsound-later number fault sound why = subst (λ (ts : List (Trace A)). AreUnsound m number ts fault) (sym left-is) (inr (sound, why))

  module _ (past : length cs ≤ k) where
    none-left : map g (drop k cs) ≡ []
    none-left = ap (map g) (drop_all k cs past)

    pub all-noted : (n all : Notes) → chapters_noted (map g (drop k cs)) n ≡ all → n ≡ all
    all-noted n all before = sym (ap (λ (ts : List (Trace A)). chapters_noted ts n) none-left) ∙ before

    pub all-sound : AreSound m (map g (drop k cs))
    all-sound = subst (λ (ts : List (Trace A)). AreSound m ts) (sym none-left) tt
