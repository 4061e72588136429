-- A stage stays whole.
use Rattle.std.proofs.Common.{◌≡◌, ◌∙◌, ℕ, ◌<◌, zero, suc, List, [], ◌∷◌, ◌++◌, length, Result, Ok, Err, refl, sym, ap, subst, arith}
use Rattle.std.specs.Prelude.{OnOk}
use Rattle.std.specs.declared.alloc.Global.{Global}
use Rattle.std.proofs.lemmas.List.{length-set}
use Rattle.fleet_book.specs.declared.event.Event.{Event}
use Rattle.fleet_book.specs.declared.event.Event.TheVariants.{Post, Take, Tick, Give, Collect, Shut}
use Rattle.fleet_core.specs.declared.faults.TakeFault.TheVariants as take_fault
use Rattle.fleet_core.specs.declared.faults.TickFault.TheVariants as tick_fault
use Rattle.fleet_core.specs.declared.faults.ShutFault.TheVariants as shut_fault
use Rattle.fleet_history.specs.History.{clients}
use Rattle.fleet_world.specs.declared.reply.Reply.{Reply}
use Rattle.fleet_world.specs.declared.reply.Reply.TheVariants.{Posted, LaneFull, Took, LaneEmpty, TakeRefused, Ticked, TickRefused, Gave, NothingPending, OutletFull, Collected, NothingThere, ShutDone, ShutRefused, NoClient}
use Rattle.fleet_world.specs.Talk.{Talk, TalkStep, waiting, with_notice, with_order, without_notice, without_order}
use Rattle.live_fleet.specs.declared.speaker.Speaker.{Speaker}
use Rattle.live_fleet.specs.Act.{Act, Runs, did, full, handed, told, said, grew}
use Rattle.live_fleet.specs.Does.{Does, IsAnswered}
use Rattle.live_fleet.specs.Party.{Heard, IsWhole, Stage}
use Rattle.live_fleet.specs.Went.{Went}
use Rattle.live_fleet.proofs.Keeps.{does-keeps}

same_lists : (s t : Talk Global) → t ≡ s → length t.clients ≡ length s.clients
same_lists s t same = ap (λ (x : Talk Global). length x.clients) same

step_clients : (s t : Talk Global) (e : Event) (reply : Reply) → TalkStep s e reply t → length t.clients ≡ length s.clients
step_clients s t (Post c o) NoClient (past, same) = same_lists s t same
step_clients s t (Post c o) LaneFull (inside, none_free, same) = same_lists s t same
step_clients s t (Post c o) (Posted n) (inside, room, number, same) = ap (λ (x : Talk Global). length x.clients) same ∙ length-set s.clients c (with_order (waiting s c) o)
step_clients s t (Take c) NoClient (past, same) = same_lists s t same
step_clients s t (Take c) LaneEmpty (inside, none, same) = same_lists s t same
step_clients s t (Take c) (TakeRefused take_fault.MailboxFull) (inside, some, room, same) = same_lists s t same
step_clients s t (Take c) (TakeRefused take_fault.ChapterFull) (inside, some, room, none_free, same) = same_lists s t same
step_clients s t (Take c) (Took n v) (inside, room, entries, order, first, takes, number, same) = ap length same ∙ length-set s.clients c (without_order (waiting s c))
step_clients s t Tick (TickRefused tick_fault.ClockSpent) (spent, same) = same_lists s t same
step_clients s t Tick (TickRefused tick_fault.ChapterFull) (left, none_free, same) = same_lists s t same
step_clients s t Tick (Ticked report) (left, entries, ticks, same) = ap length same
step_clients s t (Shut r) (ShutRefused shut_fault.NoRobot) (past, same) = same_lists s t same
step_clients s t (Shut r) (ShutRefused shut_fault.Already) (inside, shut, same) = same_lists s t same
step_clients s t (Shut r) (ShutRefused shut_fault.ChapterFull) (inside, open_yet, none_free, same) = same_lists s t same
step_clients s t (Shut r) (ShutDone farewell) (entries, shuts, same) = ap length same
step_clients s t (Give c) NoClient (past, same) = same_lists s t same
step_clients s t (Give c) NothingPending (inside, none, same) = same_lists s t same
step_clients s t (Give c) OutletFull (inside, some, none_free, same) = same_lists s t same
step_clients s t (Give c) (Gave seq) (inside, room, notice, first, number, same) = ap (λ (x : Talk Global). length x.clients) same ∙ length-set s.clients c (with_notice (waiting s c) notice)
step_clients s t (Collect c) NoClient (past, same) = same_lists s t same
step_clients s t (Collect c) NothingThere (inside, none, same) = same_lists s t same
step_clients s t (Collect c) (Collected notice) (inside, first, same) = ap (λ (x : Talk Global). length x.clients) same ∙ length-set s.clients c (without_notice (waiting s c))
step_clients s t _ _ st = absurd st

pub runs-clients : (s : Talk Global) (acts : List Act) (t : Talk Global) → Runs s acts t → length t.clients ≡ length s.clients
runs-clients s [] t same = same_lists s t same
runs-clients s (did e reply ∷ acts) t (m, step, runs) = runs-clients m acts t runs ∙ step_clients s m e reply step
runs-clients s (full e ∷ acts) t (m, (needs, same), runs) = runs-clients m acts t runs ∙ same_lists s m same
runs-clients s (handed c ∷ acts) t (m, (is, sound, next), runs) = runs-clients m acts t runs ∙ ap (λ (x : Talk Global). length x.clients) next
runs-clients s (told to client notice ∷ acts) t (m, step, runs) = runs-clients m acts t runs ∙ step_clients s m (Collect client) (Collected notice) step
runs-clients s (said to text ∷ acts) t (m, same, runs) = runs-clients m acts t runs ∙ same_lists s m same
runs-clients s (grew client extra ∷ acts) t (m, same, runs) = runs-clients m acts t runs ∙ ap (λ (x : Talk Global). length x.clients) same

pub whole-kept : (s t : Stage) (event : Heard) (acts : List Act) → IsWhole s → clients s.at.fleet.talk.world.history ≡ length s.at.fleet.talk.clients → clients t.at.fleet.talk.world.history ≡ length t.at.fleet.talk.clients → Does s event acts t → IsWhole t
whole-kept s t event acts whole before after does =
    let keeps = does-keeps s event acts t does in
    record {
      texts = keeps.went.count ∙ (whole.texts ∙ sym keeps.speakers);
      count = keeps.clients ∙ (whole.count ∙ (before ∙ (sym (runs-clients s.at.fleet.talk acts t.at.fleet.talk keeps.went.runs) ∙ sym after)));
      notes = keeps.notes ∙ (whole.notes ∙ sym keeps.clients);
    }

-- what was done at an event is a run, and the stage is whole again
pub does-so : (s t : Stage) (event cue : Heard) → cue ≡ event → ((acts : List Act) × Does s event acts t) → (acts : List Act) × Does s cue acts t × Went s.at acts t.at
does-so s t event cue is (acts, does) = (acts, subst (λ (e : Heard). Does s e acts t) (sym is) does, (does-keeps s event acts t does).went)

pub does-go : {T E : Type 0} (r : Result T E) (s t : Stage) (event cue : Heard) → cue ≡ event → OnOk r ((acts : List Act) × Does s event acts t) → OnOk r ((acts : List Act) × Does s cue acts t × Went s.at acts t.at)
does-go (Ok v) s t event cue is so = does-so s t event cue is so
does-go (Err e) s t event cue is does = tt

pub stays-whole : {T E : Type 0} (r : Result T E) (s t : Stage) (event : Heard) → IsWhole s → clients s.at.fleet.talk.world.history ≡ length s.at.fleet.talk.clients → clients t.at.fleet.talk.world.history ≡ length t.at.fleet.talk.clients
    → OnOk r ((acts : List Act) × Does s event acts t) → OnOk r (IsWhole t)
stays-whole (Ok v) s t event whole before after (acts, does) = whole-kept s t event acts whole before after does
stays-whole (Err e) s t event whole before after does = tt

-- ---- a conversation that is there

pub answered-there : (who : List Speaker) (from : ℕ) → IsAnswered who from → from < length who
answered-there [] from none = absurd none
answered-there (sp ∷ who) zero is = omega arith
answered-there (sp ∷ who) (suc from) is = let rest = answered-there who from is in omega (arith, rest)
