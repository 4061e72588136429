-- A header line after an event, and one before all events.
use Rattle.std.proofs.Common.{◌≡◌, ℕ, Bool, true, false, cond, List, ◌∷◌, length, Option, None, Err, refl, subst, sym, ◌∙◌, true-eqb, false-eqb}
use Rattle.fleet_map.specs.Text.{words_of}
use Rattle.fleet_script.specs.Script.{Draft, Repeated, or_line, events_of, no_events, with_header, with_line_of, with_words}
use Rattle.fleet_script.specs.Shown.{shown, Gives}
use Rattle.fleet_script.proofs.Rolls.{some_yet, none_yet}
use Rattle.fleet_script.proofs.script.Draft.add_words.Goals as goal

-- what holds of the reading of a line that is no event line
other : (P : Option Draft → Type 0) (d : Draft) (n : ℕ) (key : List ℕ) (words line : List (List ℕ)) (b : Bool) → line ≡ key ∷ words → None ≡ events_of key words → no_events d.events ≡ b → P (cond b (with_header d key words) None)
    → P (with_words d n line)
other P d n key words line b cut none is p =
    let here = subst (λ (x : Bool). P (cond x (with_header d key words) None)) (sym is) p in
    let read = subst (λ (o : Option Repeated). P (with_line_of d n key words o)) none here in
    subst (λ (l : List (List ℕ)). P (with_words d n l)) (sym cut) read

pub returns-then-not-is_empty : goal.returns-then-not-is_empty
returns-then-not-is_empty g c =
    let n = c.args.number in
    let runs = c.args.self.now.runs in
    let full : length runs.items ≡ 0 → ⊥ = λ e. false-eqb runs.len 0 c.if-not-is_empty.ensures (runs.ok.0 ∙ e) in
    other (λ o. or_line n o ≡ Err n) (shown c.args.self.now) n c.in-Some.key.now (words_of c.in-Some.words.now) (words_of c.args.line.now) false c.in-Some.ensures.cut c.in_default-events_of_line.ensures.exact (some_yet runs.items full) refl

pub returns : goal.returns
returns g c =
    let n = c.args.number in
    let runs = c.args.self.now.runs in
    let empty : length runs.items ≡ 0 = sym runs.ok.0 ∙ true-eqb runs.len 0 c.if-not-is_empty.ensures in
    other (λ o. Gives (λ done. shown c.add_header.new.self) c.add_header.result (or_line n o)) (shown c.args.self.now) n c.in-Some.key.now (words_of c.in-Some.words.now) (words_of c.args.line.now) true c.in-Some.ensures.cut c.in_default-events_of_line.ensures.exact
    (none_yet runs.items empty) c.add_header.ensures
