-- The order to go: the robot first, then the cell.
use Rattle.std.proofs.Common.{◌≡◌, ℕ, Bool, true, false, List, [], ◌∷◌, Option, Some, None, MatchOption, is_some, refl, codes, bytes_eq, not, subst}
use Rattle.fleet_map.specs.Text.{words_of}
use Rattle.fleet_book.specs.declared.order.Order.TheVariants.{Go}
use Rattle.fleet_script.specs.Numbers.{number_in, most32}
use Rattle.fleet_script.specs.Script.{order_in}
use Rattle.fleet_script.proofs.lines.order.Goals as goal

no_other : (b : Bool) → false ≡ not b → b ≡ true
no_other true e = refl
no_other false e = absurd cc

no_more : {A P : Type 0} (Q : A → Type 0) (r : Option A) → false ≡ is_some r → MatchOption r P Q → P
no_more Q None e none = none
no_more Q (Some x) e some = absurd cc

is_go : (word first second : List ℕ) (words rest last : List (List ℕ)) (robot cell : ℕ) → bytes_eq word (codes "go") ≡ true → words ≡ first ∷ rest → rest ≡ second ∷ last → last ≡ [] → Some robot ≡ number_in most32 first → Some cell ≡ number_in most32 second
    → Some (Go robot cell) ≡ order_in word words
is_go word first second words rest last robot cell go one two three r x = rw (one, two, three, go, ← x, ← r) refl

pub returns : goal.returns
returns c =
    let word = c.args.word.now in
    let go : bytes_eq word (codes "go") ≡ true = subst (λ (s : List ℕ). bytes_eq word s ≡ true) c.as_slice-else-is_some.ensures (no_other _ c.if-ne.ensures) in
    is_go word c.in-Some.first.now c.in-Some-first_word.second.now (words_of c.args.words.now) (words_of c.in-Some.rest.now) (words_of c.in-Some-first_word.rest.now) c.in_ok-robot.robot c.in_ok-cell.cell go c.in-Some.ensures.cut c.in-Some-first_word.ensures.cut
    (no_more _ c.first_word-3.result c.if-is_some.ensures c.first_word-3.ensures.cut) c.in_ok-robot.ensures c.in_ok-cell.ensures
