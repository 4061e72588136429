-- Figures that are written one after another.
use Rattle.std.proofs.Common.{◌≡◌, ◌∙◌, ℕ, List, [], ◌++◌, ap}
use Rattle.fleet_text.proofs.RunLines.{on}

pub three : (a b c t u v w : List ℕ) → u ≡ t ++ a → v ≡ u ++ b → w ≡ v ++ c → w ≡ t ++ (a ++ b ++ c)
three a b c t u v w one two last = on t (a ++ b) c v w (on t a b u v one two) last

pub four : (a b c d t u v w x : List ℕ) → u ≡ t ++ a → v ≡ u ++ b → w ≡ v ++ c → x ≡ w ++ d → x ≡ t ++ (a ++ b ++ c ++ d)
four a b c d t u v w x one two three last = on t (a ++ b ++ c) d w x (on t (a ++ b) c v w (on t a b u v one two) three) last

pub five : (a b c d e t u v w x y : List ℕ) → u ≡ t ++ a → v ≡ u ++ b → w ≡ v ++ c → x ≡ w ++ d → y ≡ x ++ e → y ≡ t ++ (a ++ b ++ c ++ d ++ e)
five a b c d e t u v w x y one two three four last =
    on t (a ++ b ++ c ++ d) e x y (on t (a ++ b ++ c) d w x (on t (a ++ b) c v w (on t a b u v one two) three) four) last

-- seven, after nothing
pub seven : (a b c d e f g r t u v w x y z : List ℕ) → r ≡ [] → t ≡ r ++ a → u ≡ t ++ b → v ≡ u ++ c → w ≡ v ++ d → x ≡ w ++ e → y ≡ x ++ f → z ≡ y ++ g →
    z ≡ a ++ b ++ c ++ d ++ e ++ f ++ g
seven a b c d e f g r t u v w x y z none one two three four more six last =
    on r (a ++ b ++ c ++ d ++ e ++ f) g y z (on r (a ++ b ++ c ++ d ++ e) f x y (five a b c d e r t u v w x one two three four more) six) last
    ∙ ap (λ (l : List ℕ). l ++ (a ++ b ++ c ++ d ++ e ++ f ++ g)) none
