-- The lines of a run, event by event.
use Rattle.std.proofs.Common.{◌≡◌, ◌∙◌, ℕ, ◌+◌, ◌<◌, ◌≤◌, List, [], ◌++◌, length, drop, get_or, sym, ap, refl, codes, decimal, Option, Some, Result, arith}
use Rattle.std.specs.Result.{OnOk}
use Rattle.std.specs.List.{slice_get, flat_map}
use Rattle.std.proofs.lemmas.List.{append_assoc, append-nil, drop_all, drop_more}
use Rattle.std.proofs.lemmas.Result.{on_ok_weaker}
use Rattle.fleet_book.specs.declared.event.Event.{Event}
use Rattle.fleet_history.specs.declared.history.Arrival.{Arrival}
use Rattle.fleet_history.specs.declared.history.Bye.{Bye}
use Rattle.fleet_history.specs.declared.history.Entry.{Entry}
use Rattle.fleet_history.specs.declared.history.Entry.TheVariants.{Tick}
use Rattle.fleet_world.specs.declared.reply.Reply.{Reply}
use Rattle.fleet_text.specs.Output.{arrival_text, entries_made, event_text, farewell_text, place_text, run_text, tick_text}

module _ {A : Type 0} (events : List Event) (replies : List Reply) (rest : List (Entry A)) (k : ℕ) (whole : List ℕ) where
  pub one_more : (rest2 : List (Entry A)) (a : Event) (b : Reply) (old new : List ℕ) (e : Option (Entry A)) → k < length events → length replies ≡ length events
      → old ++ run_text (drop k events) (drop k replies) rest ≡ whole → new ≡ old ++ event_text (get_or events k a) (get_or replies k b) e → e ≡ slice_get rest 0
      → rest2 ≡ drop (entries_made (get_or replies k b)) rest → new ++ run_text (drop (k + 1) events) (drop (k + 1) replies) rest2 ≡ whole
  one_more rest2 a b old new e less same before made first behind =
      let event = get_or events k a in
      let reply = get_or replies k b in
      let split : old ++ (event_text event reply (slice_get rest 0) ++ run_text (drop (k + 1) events) (drop (k + 1) replies) (drop (entries_made reply) rest)) ≡ whole =
      rw (drop_more events k a less, drop_more replies k b (omega (arith, less, same))) at before in
      rw (made, first, behind) (append_assoc old (event_text event reply (slice_get rest 0)) _ ∙ split)

  pub ended : (text : List ℕ) → length events ≤ k → text ++ run_text (drop k events) (drop k replies) rest ≡ whole → text ≡ whole
  ended text past before = let done : text ++ [] ≡ whole = rw (drop_all k events past) at before in sym (append-nil text) ∙ done

-- an event's line, once its reply is known
pub told : {A E : Type 0} (r : Result (Unit {0}) E) (event : Event) (reply is : Reply) (old new text : List ℕ) → reply ≡ is → ((e : Option (Entry A)) → text ≡ event_text event is e)
    → OnOk r (new ≡ old ++ text) → OnOk r ((e : Option (Entry A)) → new ≡ old ++ event_text event reply e)
told r event reply is old new text same says = on_ok_weaker r (λ h e. h ∙ ap (λ t. old ++ t) (says e ∙ ap (λ b. event_text event b e) (sym same)))

-- the lines of a tick, once its entry is known
pub moved : {A : Type 0} (tick : ℕ) (entry : Option (Entry A)) (to to2 : List ℕ) (arrived arrived2 : List Arrival) (farewells farewells2 : List Bye) → entry ≡ Some (Tick to arrived farewells) → to2 ≡ to → arrived2 ≡ arrived → farewells2 ≡ farewells
    → codes "tick " ++ decimal tick ++ codes ":" ++ place_text to2 ++ codes "\n" ++ flat_map (arrival_text to2) arrived2 ++ flat_map (λ bye. farewell_text bye.robot bye.stamp) farewells2 ≡ tick_text tick entry
moved tick entry to to2 arrived arrived2 farewells farewells2 is a b d = rw (is, a, b, d) refl

-- pieces as a text has them and as they are written
pub five : (a b c d e : List ℕ) → a ++ (b ++ (c ++ (d ++ e))) ≡ a ++ b ++ c ++ d ++ e
five a b c d e = sym (append_assoc a b _) ∙ (sym (append_assoc (a ++ b) c _) ∙ sym (append_assoc (a ++ b ++ c) d e))

pub seven : (a b c d e f g : List ℕ) → a ++ (b ++ (c ++ (d ++ (e ++ (f ++ g))))) ≡ a ++ b ++ c ++ d ++ e ++ f ++ g
seven a b c d e f g = five a b c d _ ∙ (sym (append_assoc (a ++ b ++ c ++ d) e _) ∙ sym (append_assoc (a ++ b ++ c ++ d ++ e) f g))

pub eleven : (a b c d e f g h i j k : List ℕ) → a ++ (b ++ (c ++ (d ++ (e ++ (f ++ (g ++ (h ++ (i ++ (j ++ k))))))))) ≡ a ++ b ++ c ++ d ++ e ++ f ++ g ++ h ++ i ++ j ++ k
eleven a b c d e f g h i j k = seven a b c d e f _ ∙ five (a ++ b ++ c ++ d ++ e ++ f) g h i _ ∙ sym (append_assoc (a ++ b ++ c ++ d ++ e ++ f ++ g ++ h ++ i) j k)

-- what is written after something
pub on : (old x d t s : List ℕ) → t ≡ old ++ x → s ≡ t ++ d → s ≡ old ++ (x ++ d)
on old x d t s before more = more ∙ (ap (λ l. l ++ d) before ∙ append_assoc old x d)
