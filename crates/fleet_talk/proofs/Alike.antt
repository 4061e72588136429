-- A script in form, held as a conversation, is a run of it.
use Rattle.std.proofs.Common.{◌≡◌, ◌∙◌, ℕ, inl, inr, true≢false, Bool, true, false, List, [], ◌++◌, map, Option, Some, None, Ok, IfSome, is_some, unwrap_or, refl, sym, ap, subst}
use Rattle.std.specs.List.{list_any}
use Rattle.std.specs.declared.alloc.Global.{Global}
use Rattle.std.proofs.lemmas.Bool.{cases_Bool}
use Rattle.std.proofs.lemmas.Option.{same_Some}
use Rattle.fleet_grid.specs.Floor.{Floor}
use Rattle.fleet_book.specs.declared.limits.Limits.{Limits}
use Rattle.fleet_core.specs.Hooks.{HookLaws}
use Rattle.fleet_roomy.specs.Unroomy.{has}
use Rattle.fleet_script.specs.Script.{Draft, Plan, blank_draft, limits_of, script_of}
use Rattle.fleet_world.specs.declared.reply.Reply.{Reply}
use Rattle.fleet_world.specs.Run.{State, Run, opened_state}
use Rattle.fleet_text.specs.Kit.{KitLaws, chosen_laws}
use Rattle.fleet_text.specs.Output.{is_limit_met, run_text}
use Rattle.turns_law.specs.Turns.{Turns}
use Rattle.fleet_talk.specs.Act.{Act, play}
use Rattle.fleet_talk.specs.Acts.{Talks}
use Rattle.fleet_talk.specs.Chapters.{ChapterView}
use Rattle.fleet_talk.specs.Conversation.{IsConversation, Refuses, Takes, unopened, talked, MayOpen, NamesLimits, plain_terms, head_in, opened as opened_fleet, acts_of, clients_in, limits_in, laws_in}
use Rattle.fleet_talk.specs.Fleet.{Fleet}
use Rattle.fleet_talk.specs.Heard.{AreShort, Head, Opening, all_of, heard_lines}
use Rattle.fleet_talk.proofs.Runs.{said-run}
use Rattle.fleet_talk.proofs.Scripts.{IsOf, Heads, unopened as silent, opened, heard_script}
use Rattle.fleet_talk.proofs.Starting.{in-terms}

some_of : {X : Type 0} (o : Option X) → is_some o ≡ true → (x : X) × (o ≡ Some x)
some_of None h = absurd cc
some_of (Some x) h = (x, refl)

-- where the four are named, the limits are a script's
limits-same : (d : Draft) → NamesLimits d → limits_in d ≡ limits_of d.limits
limits-same d named =
    let (life, a) = some_of d.limits.life named.life in
    let (orders, b) = some_of d.limits.orders named.orders in
    let (clock, c) = some_of d.limits.clock named.clock in
    let (chapters, e) = some_of d.limits.chapters named.chapters in
    rw (a, b, c, e) refl

-- what `errands run` prints of a run of a script's events
abbrev pub IsRunOf : Floor → Plan → List ℕ → Bool → List ℕ → ℕ → Limits → HookLaws → Type 0
IsRunOf m plan text met starts clients limits laws =
    (replies : List Reply) × (last : State Global) × Run (opened_state m starts clients limits laws) plan.events replies last × (met ≡ list_any is_limit_met replies) × (text ≡ run_text plan.events replies last.world.history.entries)

-- a script without events says nothing
silent_run : (m : Floor) (plan : Plan) (text : List ℕ) (met : Bool) (laws : HookLaws) → plan.events ≡ [] → text ≡ [] → met ≡ false → IsRunOf m plan text met plan.starts plan.clients plan.limits laws
silent_run m plan text met laws none is unmet = rw none ([], opened_state m plan.starts plan.clients plan.limits laws, refl, unmet, is)

laws-same : (kit : KitLaws) (d : Draft) (plan : Plan) (starts : List ℕ) → starts ≡ plan.starts → plan.south ≡ unwrap_or d.south false → laws_in kit d starts ≡ chosen_laws kit plan
laws-same kit d plan starts same south = rw (same, south) refl

talked_run : (kit : KitLaws) (m : Floor) (plan : Plan) (text : List ℕ) (o : Opening) (last : Fleet Global) → o.starts ≡ plan.starts → IsOf o.head plan → NamesLimits o.head → MayOpen (plain_terms kit m) o → (cells : List Bool)
    → acts_of (plain_terms kit m) cells o ≡ map (play None) plan.events → Talks None (opened_fleet (plain_terms kit m) o None) (acts_of (plain_terms kit m) cells o) text last
    → IsRunOf m plan text last.met plan.starts plan.clients plan.limits (chosen_laws kit plan)
talked_run kit m plan text o last starts of named may cells acts talks =
    let d = o.head in
    let laws = laws_in kit d o.starts in
    let all = subst (λ (l : List Act). Talks None (opened_fleet {A = Global} (plain_terms kit m) o None) l text last) acts talks in
    let (replies, end, run, same, met, is) = said-run m o.starts (clients_in d) (limits_in d) laws plan.events text last may.0 may.1 all in
    in-terms (IsRunOf m plan text last.met) o.starts plan.starts (clients_in d) plan.clients (limits_in d) plan.limits laws (chosen_laws kit plan)
    starts (sym of.clients) (limits-same d named ∙ sym of.limits) (laws-same kit d plan o.starts starts of.south) (replies, end, run, met, is)

pub script-run : (kit : KitLaws) (m : Floor) (bytes text : List ℕ) (chapters : List (ChapterView Global)) (met : Bool) (plan : Plan) → script_of bytes ≡ Ok plan → AreShort bytes → IfSome (head_in (plain_terms kit m) bytes).opening (λ o. NamesLimits o.head)
    → IsConversation (plain_terms kit m) bytes text chapters met → IsRunOf m plan text met plan.starts plan.clients plan.limits (chosen_laws kit plan)
script-run kit m bytes text chapters met plan read short named conv = by conv
  where
    at_none : {X : Type 0} (o : X) (k : Option X) → k ≡ None → k ≡ Some o → ⊥
    at_none o k a b = let bad : None ≡ Some o = sym a ∙ b in absurd cc

    -- posts to no cell are refused
    none_refused : (o : Opening) (cells : List Bool) → Refuses (plain_terms kit m) o cells → (c : ℕ) → has cells c ≡ false
    none_refused o cells r c = elim (cases_Bool (has cells c)) [
      | inl e ↦ absurd (true≢false (sym ((r.exact c).0 e).0))
      | inr e ↦ e
    ]

    begins : (cells : List Bool) (free : (c : ℕ) → has cells c ≡ false) → Heads None cells free blank_draft 1 (heard_lines bytes) plan → (head_in (plain_terms kit m) bytes).opening ≡ None → text ≡ all_of (head_in (plain_terms kit m) bytes).said → met ≡ false
        → IsRunOf m plan text met plan.starts plan.clients plan.limits (chosen_laws kit plan)
    begins cells free (silent is none) at said unmet = silent_run m plan text met (chosen_laws kit plan) none (said ∙ ap (λ (h : Head). all_of h.said) is) unmet
    begins cells free (opened o is starts of acts) at said unmet = absurd (at_none o (head_in (plain_terms kit m) bytes).opening at (ap (λ (h : Head). h.opening) is))

    talks_on : (o2 : Opening) → (head_in (plain_terms kit m) bytes).opening ≡ Some o2 → MayOpen (plain_terms kit m) o2 → (cells : List Bool) (free : (c : ℕ) → has cells c ≡ false) → (answers : List ℕ) (last : Fleet Global)
        → Talks None (opened_fleet (plain_terms kit m) o2 None) (acts_of (plain_terms kit m) cells o2) answers last → text ≡ all_of (head_in (plain_terms kit m) bytes).said ++ answers → met ≡ last.met
        → Heads None cells free blank_draft 1 (heard_lines bytes) plan → IsRunOf m plan text met plan.starts plan.clients plan.limits (chosen_laws kit plan)
    talks_on o2 at may cells free answers last talks said limited (silent is none) = absurd (at_none o2 (head_in (plain_terms kit m) bytes).opening (ap (λ (h : Head). h.opening) is) at)
    talks_on o2 at may cells free answers last talks said limited (opened o is starts of acts) =
        let same : o2 ≡ o = same_Some o2 o (sym at ∙ ap (λ (h : Head). h.opening) is) in
        let names = subst (λ (k : Option Opening). IfSome k (λ o. NamesLimits o.head)) (ap (λ (h : Head). h.opening) is) named in
        let told : text ≡ answers = said ∙ ap (λ (h : Head). all_of h.said ++ answers) is in
        let may2 = subst (λ (x : Opening). MayOpen (plain_terms kit m) x) same may in
        let talks2 = subst (λ (x : Opening). Talks None (opened_fleet {A = Global} (plain_terms kit m) x None) (acts_of (plain_terms kit m) cells x) answers last) same talks in
        subst (λ (b : Bool). IsRunOf m plan text b plan.starts plan.clients plan.limits (chosen_laws kit plan)) (sym limited)
        (subst (λ (t : List ℕ). IsRunOf m plan t last.met plan.starts plan.clients plan.limits (chosen_laws kit plan)) (sym told) (talked_run kit m plan answers o last starts of names may2 cells acts talks2))

    -- the robots take no turns
    plainly : (o : Opening) (turns : Option Turns) (cells : List Bool) (answers : List ℕ) (last : Fleet Global) → Takes (plain_terms kit m) o turns → Talks None (opened_fleet (plain_terms kit m) o turns) (acts_of (plain_terms kit m) cells o) answers last
        → Talks None (opened_fleet (plain_terms kit m) o None) (acts_of (plain_terms kit m) cells o) answers last
    plainly o turns cells answers last takes talks =
        subst (λ (t : Option Turns). Talks None (opened_fleet {A = Global} (plain_terms kit m) o t) (acts_of (plain_terms kit m) cells o) answers last) takes.chosen talks

    by : IsConversation (plain_terms kit m) bytes text chapters met → IsRunOf m plan text met plan.starts plan.clients plan.limits (chosen_laws kit plan)
    by (unopened at said kept unmet) = begins [] (λ c. refl) (heard_script None [] (λ c. refl) bytes plan short read) at said unmet
    by (talked o at may turns takes cells refuses answers last talks said kept limited) =
        talks_on o at may cells (none_refused o cells refuses) answers last (plainly o turns cells answers last takes talks) said limited (heard_script None cells (none_refused o cells refuses) bytes plan short read)
