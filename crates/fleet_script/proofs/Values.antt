-- What the lines say, and what is read of them.
use Rattle.std.proofs.Common.{◌≡◌, ℕ, ◌+◌, List, [], ◌∷◌, ◌++◌, replicate, Option, Some, None, refl, sym, ap, ◌∙◌, codes, append-nil, append_assoc}
use Rattle.std.specs.Option.{option_or}
use Rattle.std.proofs.lemmas.Option.{same_Some}
use Rattle.fleet_script.specs.Numbers.{most32, most64, one_in}
use Rattle.fleet_script.specs.Script.{Draft, Repeated, starts_in, ties_in, turns_in, blank_draft, with_events, with_line_of, with_words, events_of}
use Rattle.fleet_script.specs.Grammar.{Line, event_on, says, said, limits_said, times_of, events_said, numbers_said}
use Rattle.fleet_script.proofs.Heads.{told, header_is}
use Rattle.fleet_script.proofs.Forms.{event_is, other_is, and_then_some, fold_lines}

-- ---- what lines add to a draft

abbrev pub added : Draft → ℕ → List Line → Draft
added d n lines = record {
  starts = option_or (said (codes "robots") starts_in lines) d.starts;
  clients = option_or (said (codes "clients") (one_in most32) lines) d.clients;
  south = option_or (said (codes "ties") ties_in lines) d.south;
  turns = option_or (said (codes "turns") turns_in lines) d.turns;
  limits = record {
    lane = option_or (said (codes "lane") (one_in most32) lines) d.limits.lane;
    outlet = option_or (said (codes "outlet") (one_in most32) lines) d.limits.outlet;
    queue = option_or (said (codes "queue") (one_in most32) lines) d.limits.queue;
    mailbox = option_or (said (codes "mailbox") (one_in most32) lines) d.limits.mailbox;
    life = option_or (said (codes "life") (one_in most64) lines) d.limits.life;
    orders = option_or (said (codes "orders") (one_in most64) lines) d.limits.orders;
    clock = option_or (said (codes "clock") (one_in most64) lines) d.limits.clock;
    chapter = option_or (said (codes "chapter") (one_in most32) lines) d.limits.chapter;
    chapters = option_or (said (codes "chapters") (one_in most32) lines) d.limits.chapters;
  };
  events = d.events ++ events_said lines;
  lines = d.lines ++ numbers_said n lines;
}

-- the draft with what one line says
abbrev step : Draft → ℕ → Line → Draft
step d n line = record (told d line) { events = d.events ++ times_of (λ r. r.event) (event_on line); lines = d.lines ++ times_of (λ r. n) (event_on line) }

or_assoc : {A : Type 0} (a b c : Option A) → option_or (option_or a b) c ≡ option_or a (option_or b c)
or_assoc None b c = refl
or_assoc (Some x) b c = refl

pub or_none : {A : Type 0} (o : Option A) → option_or o None ≡ o
or_none None = refl
or_none (Some x) = refl

joins : {A : Type 0} (read : List (List ℕ) → Option A) (word : List ℕ) (line : Line) (lines : List Line) (old : Option A) → option_or (said word read (line ∷ lines)) old ≡ option_or (said word read lines) (option_or (says word read line) old)
joins read word line lines old = or_assoc (said word read lines) (says word read line) old

added_step : (d : Draft) (n : ℕ) (line : Line) (lines : List Line) → added d n (line ∷ lines) ≡ added (step d n line) (n + 1) lines
added_step d n line lines = rw (
  joins starts_in (codes "robots") line lines d.starts,
  joins (one_in most32) (codes "clients") line lines d.clients,
  joins ties_in (codes "ties") line lines d.south,
  joins turns_in (codes "turns") line lines d.turns,
  joins (one_in most32) (codes "lane") line lines d.limits.lane,
  joins (one_in most32) (codes "outlet") line lines d.limits.outlet,
  joins (one_in most32) (codes "queue") line lines d.limits.queue,
  joins (one_in most32) (codes "mailbox") line lines d.limits.mailbox,
  joins (one_in most64) (codes "life") line lines d.limits.life,
  joins (one_in most64) (codes "orders") line lines d.limits.orders,
  joins (one_in most64) (codes "clock") line lines d.limits.clock,
  joins (one_in most32) (codes "chapter") line lines d.limits.chapter,
  joins (one_in most32) (codes "chapters") line lines d.limits.chapters,
  append_assoc d.events (times_of (λ r. r.event) (event_on line)) (events_said lines),
  append_assoc d.lines (times_of (λ r. n) (event_on line)) (numbers_said (n + 1) lines),
) refl

step_is : (d : Draft) (n : ℕ) (line : Line) (e : Draft) → with_words d n line ≡ Some e → e ≡ step d n line
step_is d n [] e h = let same = same_Some d e h in rw (append-nil d.events, append-nil d.lines) (sym same)
step_is d n (key ∷ words) e h = go (events_of key words) refl h
  where
    go : (o : Option Repeated) → events_of key words ≡ o → with_line_of d n key words o ≡ Some e → e ≡ step d n (key ∷ words)
    go (Some r) is h =
        let keeps = (event_is d key words r is).keeps in
        let same = same_Some (with_events d n r) e h in
        rw is (sym same ∙ ap (λ (x : Draft). record x { events = d.events ++ replicate r.times r.event; lines = d.lines ++ replicate r.times n }) (sym keeps))
    go None is h =
        let t = other_is d key words e h in
        rw (is, append-nil d.events, append-nil d.lines) ((header_is d key words).took e t.1).value

pub lines_add : (d : Draft) (n : ℕ) (lines : List Line) (e : Draft) → fold_lines d n lines ≡ Some e → e ≡ added d n lines
unfolding fold_lines
lines_add d n [] e h = let same = same_Some d e h in rw (append-nil d.events, append-nil d.lines) (sym same)
lines_add d n (line ∷ lines) e h =
    let t = and_then_some (λ more. fold_lines more (n + 1) lines) (with_words d n line) e h in
    let first = step_is d n line t.0 t.1 in
    lines_add t.0 (n + 1) lines e t.2 ∙ (ap (λ (x : Draft). added x (n + 1) lines) first ∙ sym (added_step d n line lines))

-- what lines say that stand alone
abbrev pub draft_said : List Line → Draft
draft_said lines = record {
  starts = said (codes "robots") starts_in lines;
  clients = said (codes "clients") (one_in most32) lines;
  south = said (codes "ties") ties_in lines;
  turns = said (codes "turns") turns_in lines;
  limits = limits_said lines;
  events = events_said lines;
  lines = numbers_said 1 lines;
}

added_blank : (lines : List Line) → added blank_draft 1 lines ≡ draft_said lines
added_blank lines = rw (
  or_none (said (codes "robots") starts_in lines),
  or_none (said (codes "clients") (one_in most32) lines),
  or_none (said (codes "ties") ties_in lines),
  or_none (said (codes "turns") turns_in lines),
  or_none (said (codes "lane") (one_in most32) lines),
  or_none (said (codes "outlet") (one_in most32) lines),
  or_none (said (codes "queue") (one_in most32) lines),
  or_none (said (codes "mailbox") (one_in most32) lines),
  or_none (said (codes "life") (one_in most64) lines),
  or_none (said (codes "orders") (one_in most64) lines),
  or_none (said (codes "clock") (one_in most64) lines),
  or_none (said (codes "chapter") (one_in most32) lines),
  or_none (said (codes "chapters") (one_in most32) lines),
) refl

pub read_is_said : (lines : List Line) (e : Draft) → fold_lines blank_draft 1 lines ≡ Some e → e ≡ draft_said lines
read_is_said lines e h = lines_add blank_draft 1 lines e h ∙ added_blank lines
