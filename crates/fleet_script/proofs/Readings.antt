-- The reading of a script is exactly its grammar.
use Rattle.std.proofs.Common.{◌≡◌, ℕ, ◌+◌, Bool, true, false, cond, List, [], ◌∷◌, ◌++◌, length, map, Option, Some, None, Result, Ok, Err, IfOk, IfErr, refl, sym, ap, subst, ◌∙◌, arith, codes, option_map, option_and_then}
use Rattle.std.proofs.lemmas.Option.{same_Some}
use Rattle.std.proofs.lemmas.List.{length-map}
use Rattle.fleet_map.specs.Text.{lines_of, words_of}
use Rattle.fleet_script.specs.declared.script.Script.{Script}
use Rattle.fleet_script.specs.declared.script.ScriptFault.{ScriptFault}
use Rattle.fleet_script.specs.declared.script.ScriptFault.TheVariants as script_fault
use Rattle.fleet_script.specs.Script.{Draft, Plan, starts_in, is_comment, blank_draft, with_words, with_line, plan_from, or_line, draft_of, script_of}
use Rattle.fleet_script.specs.Shown.{plan, Gives, FailsAt}
use Rattle.fleet_script.specs.Grammar.{Line, line_in, lines_in, AreInForm, said, IsScript, IsFirstFault, line, robots, memory}
use Rattle.fleet_script.proofs.Forms.{fold_lines, and_then_some, in_form, form_read}
use Rattle.fleet_script.proofs.Values.{draft_said, read_is_said}

-- ---- the reading goes by the words of each line

by_words : (d : Draft) (n : ℕ) (bytes : List ℕ) → with_line d n bytes ≡ with_words d n (line_in bytes)
by_words d n bytes = go (is_comment bytes)
  where
    go : (b : Bool) → cond b (Some d) (with_words d n (words_of bytes)) ≡ with_words d n (cond b [] (words_of bytes))
    go true = refl
    go false = refl

-- what is read of lines that are all taken
ended : (d : Draft) (n : ℕ) (texts : List (List ℕ)) (e : Draft) → fold_lines d n (map line_in texts) ≡ Some e → draft_of d n texts ≡ or_line (n + length texts) (option_map (plan_from e) e.starts)
unfolding draft_of fold_lines
ended d n [] e h =
    let zero : n ≡ n + 0 = omega arith in
    subst (λ (x : Draft). draft_of d n [] ≡ or_line (n + 0) (option_map (plan_from x) x.starts)) (same_Some d e h) (ap (λ (k : ℕ). or_line k (option_map (plan_from d) d.starts)) zero)
ended d n (text ∷ texts) e h =
    let t = and_then_some (λ more. fold_lines more (n + 1) (map line_in texts)) (with_words d n (line_in text)) e h in
    let next : (n + 1) + length texts ≡ n + length (text ∷ texts) = grind arith in
    rw (by_words d n text, t.1) (ended t.0 (n + 1) texts e t.2 ∙ ap (λ (k : ℕ). or_line k (option_map (plan_from e) e.starts)) next)

-- the line at which the reading stops
record Stops (d : Draft) (n : ℕ) (texts : List (List ℕ)) : Type 0 where
  before : List Line
  line : Line
  behind : List Line
  parts : map line_in texts ≡ before ++ line ∷ behind
  last : Draft
  taken : fold_lines d n before ≡ Some last
  refused : fold_lines d n (before ++ line ∷ []) ≡ None
  fault : draft_of d n texts ≡ Err (n + length before)

stopped : (d : Draft) (n : ℕ) (texts : List (List ℕ)) → fold_lines d n (map line_in texts) ≡ None → Stops d n texts
unfolding draft_of fold_lines
stopped d n [] h = absurd cc
stopped d n (text ∷ texts) h = go (with_words d n (line_in text)) refl h (λ m. stopped m (n + 1) texts)
  where
    go : (o : Option Draft) → with_words d n (line_in text) ≡ o → option_and_then (λ more. fold_lines more (n + 1) (map line_in texts)) o ≡ None → ((m : Draft) → fold_lines m (n + 1) (map line_in texts) ≡ None → Stops m (n + 1) texts)
        → Stops d n (text ∷ texts)
    go None is h more =
        let zero : n ≡ n + 0 = omega arith in
        record { before = []; line = line_in text; behind = map line_in texts; parts = refl; last = d; taken = refl; refused = rw is refl; fault = rw (by_words d n text, is) (ap (λ (k : ℕ). Err k) zero) }
    go (Some m) is h more =
        let s = more m h in
        let next : (n + 1) + length s.before ≡ n + length (line_in text ∷ s.before) = grind arith in
        record {
          before = line_in text ∷ s.before;
          line = s.line;
          behind = s.behind;
          parts = ap (λ (l : List Line). line_in text ∷ l) s.parts;
          last = s.last;
          taken = rw is s.taken;
          refused = rw is s.refused;
          fault = rw (by_words d n text, is) (s.fault ∙ ap (λ (k : ℕ). Err k) next);
        }

-- ---- the whole

-- what the reading gives of lines in form
abbrev said_plan : List Line → ℕ → Result Plan ℕ
said_plan lines n = or_line n (option_map (plan_from (draft_said lines)) (said (codes "robots") starts_in lines))

whole : (bytes : List ℕ) (e : Draft) → fold_lines blank_draft 1 (lines_in bytes) ≡ Some e → script_of bytes ≡ said_plan (lines_in bytes) (1 + length (lines_of bytes))
whole bytes e h = ended blank_draft 1 (lines_of bytes) e h ∙ ap (λ (x : Draft). or_line (1 + length (lines_of bytes)) (option_map (plan_from x) x.starts)) (read_is_said (lines_in bytes) e h)

abbrev ok : Plan → Result Plan ℕ
ok p = Ok p

abbrev err : ℕ → Result Plan ℕ
err n = Err n

same_ok : (p q : Plan) → ok p ≡ ok q → p ≡ q
same_ok p q h = cc

same_err : (n m : ℕ) → err n ≡ err m → n ≡ m
same_err n m h = cc

pub is_script : (bytes : List ℕ) (p : Plan) → script_of bytes ≡ Ok p → IsScript (lines_in bytes) p
is_script bytes p h = go (fold_lines blank_draft 1 (lines_in bytes)) refl
  where
    is : (e : Draft) → fold_lines blank_draft 1 (lines_in bytes) ≡ Some e → (o : Option (List ℕ)) → said (codes "robots") starts_in (lines_in bytes) ≡ o
        → or_line (1 + length (lines_of bytes)) (option_map (plan_from (draft_said (lines_in bytes))) o) ≡ Ok p → IsScript (lines_in bytes) p
    is e read None starts g = absurd cc
    is e read (Some cells) starts g =
        subst (λ (q : Plan). IsScript (lines_in bytes) q) (same_ok (plan_from (draft_said (lines_in bytes)) cells) p g)
        (record { form = in_form (lines_in bytes) e read; starts = starts; clients = refl; limits = refl; south = refl; turns = refl; events = refl; numbers = refl })

    go : (o : Option Draft) → fold_lines blank_draft 1 (lines_in bytes) ≡ o → IsScript (lines_in bytes) p
    go None read =
        let s = stopped blank_draft 1 (lines_of bytes) read in
        let bad : err (1 + length s.before) ≡ ok p = sym s.fault ∙ h in
        absurd cc
    go (Some e) read = is e read (said (codes "robots") starts_in (lines_in bytes)) refl (sym (whole bytes e read) ∙ h)

pub is_read : (bytes : List ℕ) (p : Plan) → IsScript (lines_in bytes) p → script_of bytes ≡ Ok p
is_read bytes p s =
    let f = form_read (lines_in bytes) s.form in
    whole bytes f.0 f.1 ∙ rw s.starts (ap ok (rw (← s.clients, ← s.limits, ← s.south, ← s.turns, ← s.events, ← s.numbers) refl))

pub is_fault : (bytes : List ℕ) (n : ℕ) → script_of bytes ≡ Err n → IsFirstFault (lines_in bytes) (script_fault.Line n)
is_fault bytes n h = go (fold_lines blank_draft 1 (lines_in bytes)) refl
  where
    is : (e : Draft) → fold_lines blank_draft 1 (lines_in bytes) ≡ Some e → (o : Option (List ℕ)) → said (codes "robots") starts_in (lines_in bytes) ≡ o
        → or_line (1 + length (lines_of bytes)) (option_map (plan_from (draft_said (lines_in bytes))) o) ≡ Err n → IsFirstFault (lines_in bytes) (script_fault.Line n)
    is e read (Some cells) starts g = absurd cc
    is e read None starts g =
        let count : length (lines_in bytes) + 1 ≡ n = omega (arith, length-map (lines_of bytes) line_in, same_err (1 + length (lines_of bytes)) n g) in
        subst (λ (k : ℕ). IsFirstFault (lines_in bytes) (script_fault.Line k)) count (robots (in_form (lines_in bytes) e read) starts)

    go : (o : Option Draft) → fold_lines blank_draft 1 (lines_in bytes) ≡ o → IsFirstFault (lines_in bytes) (script_fault.Line n)
    go None read =
        let s = stopped blank_draft 1 (lines_of bytes) read in
        let count : length s.before + 1 ≡ n = omega (arith, same_err (1 + length s.before) n (sym s.fault ∙ h)) in
        subst (λ (k : ℕ). IsFirstFault (lines_in bytes) (script_fault.Line k)) count
        (line s.before s.line s.behind s.parts (in_form s.before s.last s.taken) (λ f. let r = form_read (s.before ++ s.line ∷ []) f in let bad = sym s.refused ∙ r.1 in absurd cc))
    go (Some e) read = is e read (said (codes "robots") starts_in (lines_in bytes)) refl (sym (whole bytes e read) ∙ h)

-- ---- the first fault is the one that is named

not_taken : (d : Draft) (n : ℕ) (next : Line) → fold_lines d n (next ∷ []) ≡ None → with_words d n next ≡ None
unfolding fold_lines
not_taken d n next h = go (with_words d n next) h
  where
    go : (o : Option Draft) → option_and_then (λ more. Some more) o ≡ None → o ≡ None
    go None h = refl
    go (Some m) h = absurd cc

stops_at : (d : Draft) (n : ℕ) (texts : List (List ℕ)) (before : List Line) (next : Line) (behind : List Line) (last : Draft) → map line_in texts ≡ before ++ next ∷ behind → fold_lines d n before ≡ Some last → fold_lines d n (before ++ next ∷ []) ≡ None
    → draft_of d n texts ≡ Err (n + length before)
unfolding draft_of fold_lines
stops_at d n [] [] next behind last p taken refused = absurd cc
stops_at d n [] (first ∷ before) next behind last p taken refused = absurd cc
stops_at d n (text ∷ texts) [] next behind last p taken refused =
    let same : line_in text ≡ next = cc in
    let zero : n ≡ n + 0 = omega arith in
    rw (by_words d n text, same, not_taken d n next refused) (ap err zero)
stops_at d n (text ∷ texts) (first ∷ before) next behind last p taken refused =
    let same : line_in text ≡ first = cc in
    let others : map line_in texts ≡ before ++ next ∷ behind = cc in
    let t = and_then_some (λ more. fold_lines more (n + 1) before) (with_words d n first) last taken in
    let fails : fold_lines t.0 (n + 1) (before ++ next ∷ []) ≡ None = rw t.1 at refused in
    let on : (n + 1) + length before ≡ n + length (first ∷ before) = grind arith in
    rw (by_words d n text, same, t.1) (stops_at t.0 (n + 1) texts before next behind last others t.2 fails ∙ ap err on)

not_in_form : (lines : List Line) → (AreInForm lines → ⊥) → fold_lines blank_draft 1 lines ≡ None
not_in_form lines bad = go (fold_lines blank_draft 1 lines) refl
  where
    go : (o : Option Draft) → fold_lines blank_draft 1 lines ≡ o → fold_lines blank_draft 1 lines ≡ None
    go None is = is
    go (Some e) is = absurd (bad (in_form lines e is))

pub is_named : (bytes : List ℕ) (f : ScriptFault) → IsFirstFault (lines_in bytes) f → FailsAt f (script_of bytes)
is_named bytes _ (line before next behind parts form bad) =
    let t = form_read before form in
    let count : 1 + length before ≡ length before + 1 = omega arith in
    stops_at blank_draft 1 (lines_of bytes) before next behind t.0 parts t.1 (not_in_form (before ++ next ∷ []) bad) ∙ ap err count
is_named bytes _ (robots form none) =
    let t = form_read (lines_in bytes) form in
    let count : 1 + length (lines_of bytes) ≡ length (lines_in bytes) + 1 = omega (arith, length-map (lines_of bytes) line_in) in
    whole bytes t.0 t.1 ∙ rw none (ap err count)
is_named bytes _ memory = tt

-- ---- what a function returned that gives the reading

pub is_found : {A : Type 0} (bytes : List ℕ) (r : Result (Script A) ScriptFault) → Gives plan r (script_of bytes) → IfOk r (λ s. IsScript (lines_in bytes) (plan s))
is_found bytes (Ok s) given = is_script bytes (plan s) given
is_found bytes (Err e) given = tt

pub is_only : {A : Type 0} (bytes : List ℕ) (r : Result (Script A) ScriptFault) → Gives plan r (script_of bytes) → (p : Plan) → IsScript (lines_in bytes) p → Gives plan r (Ok p)
is_only bytes r given p s = subst (λ (read : Result Plan ℕ). Gives plan r read) (is_read bytes p s) given

pub is_first : {A : Type 0} (bytes : List ℕ) (r : Result (Script A) ScriptFault) → Gives plan r (script_of bytes) → IfErr r (λ f. IsFirstFault (lines_in bytes) f)
is_first bytes (Ok s) given = tt
is_first bytes (Err script_fault.NoMemory) given = memory
is_first bytes (Err (script_fault.Line n)) given = is_fault bytes n given

pub is_first_named : {A : Type 0} (bytes : List ℕ) (r : Result (Script A) ScriptFault) → Gives plan r (script_of bytes) → (n : ℕ) → IsFirstFault (lines_in bytes) (script_fault.Line n) → Gives plan r (Err n)
is_first_named bytes r given n f = subst (λ (read : Result Plan ℕ). Gives plan r read) (is_named bytes (script_fault.Line n) f) given
