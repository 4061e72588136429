-- Lists that are written item by item, and read item by item.
use Rattle.std.proofs.Common.{◌≡◌, ◌∙◌, ◌++◌, ℕ, List, [], ◌∷◌, ap, codes, map, false, refl, append_assoc}
use Rattle.std.specs.Prelude.{Result, Ok, Err, OnOk, is_ok, if◌then◌else◌}
use Rattle.std.specs.Fmt.{digits}
use Rattle.json.specs.Print.{escape_byte}
use Rattle.serde_json.specs.Data.{Data}
use Rattle.serde_json.specs.View.{items_of}
use Rattle.serde_json.specs.Written.{compact_text, has_float, items_have_float}
use Rattle.fleet_refit.specs.declared.change.Change.{Change}
use Rattle.fleet_refit.specs.declared.change.Change.TheVariants as change
use Rattle.fleet_refit.specs.declared.change.Dropped.{Dropped}
use Rattle.fleet_refit.specs.declared.seat.Standing.{Standing}
use Rattle.fleet_refit.specs.declared.seat.Standing.TheVariants as standing
use Rattle.fleet_trace.specs.Text.{counted, listed, opening_data}
use Rattle.fleet_site.specs.Record.{Record}
use Rattle.fleet_site.specs.Text.{change_data, dropped_data, lists_text, record_text, rest_text, standing_data}

no-floats : {X : Type 0} (data_of : X → Data) → ((x : X) → has_float (data_of x) ≡ false) → (xs : List X) → items_have_float (items_of (map data_of xs)) ≡ false
no-floats data_of none [] = refl
no-floats data_of none (x ∷ xs) = rw (none x) (no-floats data_of none xs)

change-no_float : (c : Change) → has_float (change_data c) ≡ false
change-no_float (change.Block cell) = refl
change-no_float (change.Open cell) = refl
change-no_float (change.Join cell arrivals farewells) = refl
change-no_float (change.Leave robot) = refl
change-no_float (change.Hold robot) = refl
change-no_float (change.Free robot) = refl
change-no_float (change.Move robot cell) = refl
change-no_float (change.Cancel client number) = refl

standing-no_float : (s : Standing) → has_float (standing_data s) ≡ false
standing-no_float standing.Moving = refl
standing-no_float standing.Held = refl
standing-no_float standing.Gone = refl

pub changes-no_float : (cs : List Change) → has_float (listed (map change_data cs)) ≡ false
changes-no_float cs = no-floats change_data change-no_float cs

pub dropped-no_float : (ds : List Dropped) → has_float (listed (map dropped_data ds)) ≡ false
dropped-no_float ds = no-floats dropped_data (λ d. refl) ds

pub standings-no_float : (ss : List Standing) → has_float (listed (map standing_data ss)) ≡ false
standings-no_float ss = no-floats standing_data standing-no_float ss

-- a text and the text of a value that has no float
pub grown : (old new : List ℕ) (d e : Data) (before : List ℕ) → d ≡ e → has_float e ≡ false → (has_float d ≡ false → new ≡ old ++ (before ++ compact_text d)) → new ≡ old ++ (before ++ compact_text e)
grown old new d e before is none told = told (ap has_float is ∙ none) ∙ ap (λ x. old ++ (before ++ compact_text x)) is

pub on_ok_if : {T E : Type 0} (r : Result T E) (x a b : List ℕ) → x ≡ (if is_ok r then a else b) → OnOk r (x ≡ a)
on_ok_if (Ok v) x a b e = e
on_ok_if (Err w) x a b e = tt

pieces : (a cs b n c ds o d m e ss f : List ℕ) → ((a ++ cs) ++ ((b ++ n) ++ (c ++ ds))) ++ (o ++ (d ++ ((m ++ e) ++ ((ss ++ f)))))
    ≡ a ++ (cs ++ (b ++ (n ++ (c ++ (ds ++ (o ++ (d ++ (m ++ (e ++ (ss ++ f))))))))))
pieces a cs b n c ds o d m e ss f =
    append_assoc (a ++ cs) ((b ++ n) ++ (c ++ ds)) (o ++ (d ++ ((m ++ e) ++ (ss ++ f))))
    ∙ append_assoc a cs (((b ++ n) ++ (c ++ ds)) ++ (o ++ (d ++ ((m ++ e) ++ (ss ++ f)))))
    ∙ ap (λ x. a ++ (cs ++ x)) (append_assoc (b ++ n) (c ++ ds) (o ++ (d ++ ((m ++ e) ++ (ss ++ f))))
    ∙ append_assoc b n ((c ++ ds) ++ (o ++ (d ++ ((m ++ e) ++ (ss ++ f)))))
    ∙ ap (λ x. b ++ (n ++ x)) (append_assoc c ds (o ++ (d ++ ((m ++ e) ++ (ss ++ f))))
    ∙ ap (λ x. c ++ (ds ++ (o ++ (d ++ x)))) (append_assoc m e (ss ++ f))))

-- the pieces of a record's text are its text
pub text-pieces : {A : Type 0} (r : Record A) → lists_text r ++ (codes ",\"everyone\":" ++ (compact_text (opening_data r.everyone) ++ rest_text r)) ≡ record_text r
unfolding escape_byte digits
text-pieces r =
    pieces (codes "{\"changes\":") (compact_text (listed (map change_data r.changes))) (codes ",\"chapter\":") (compact_text (counted r.chapter))
    (codes ",\"dropped\":") (compact_text (listed (map dropped_data r.dropped))) (codes ",\"everyone\":") (compact_text (opening_data r.everyone))
    (codes ",\"map\":") (compact_text (counted r.map)) (codes ",\"standings\":" ++ compact_text (listed (map standing_data r.standings))) (codes ",\"version\":1}")
