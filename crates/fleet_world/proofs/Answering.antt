-- A run in lines: events with their replies, each as often as they came one after another.
use Rattle.std.proofs.Common.{◌≡◌, ◌∙◌, ℕ, zero, suc, ◌+◌, ◌<◌, List, [], ◌∷◌, ◌++◌, length, map, replicate, refl, sym, ap, subst, arith}
use Rattle.std.specs.Prelude.{slice_index_or, slice_set}
use Rattle.std.proofs.lemmas.List.{append_assoc, append-nil}
use Rattle.fleet_grid.specs.Floor.{Floor}
use Rattle.fleet_book.specs.declared.event.Event.{Event}
use Rattle.fleet_book.specs.declared.limits.Limits.{Limits}
use Rattle.fleet_core.specs.Core.{World, opened_world}
use Rattle.fleet_core.specs.Hooks.{HookLaws, AreOrderly}
use Rattle.fleet_core.specs.Opening.{CanOpen}
use Rattle.fleet_history.proofs.Arrivals.{arrives-legal, arrivals_rise-legal}
use Rattle.fleet_history.proofs.Legal.{no_conflict-legal, none_closed-legal}
use Rattle.fleet_history.proofs.Once.{numbered-legal}
use Rattle.fleet_script.specs.declared.run.Run.{Run as Line}
use Rattle.fleet_script.specs.Runs.{unrolled}
use Rattle.fleet_world.specs.declared.answered.Answered.{Answered}
use Rattle.fleet_world.specs.declared.reply.Reply.{Reply}
use Rattle.fleet_world.specs.Answers.{events_in, replies_in}
use Rattle.fleet_world.specs.Played.{IsPlayed}
use Rattle.fleet_world.specs.Run.{State, Run, opened_state}
use Rattle.fleet_world.specs.Talk.{Talk, TalkStep, forget, opened_talk}
use Rattle.fleet_world.specs.inside.Shown.{LeadsTo}
use Rattle.fleet_world.proofs.Collecting.{Run-push}
use Rattle.fleet_world.proofs.RunLaws.{ends, end-each}
use Rattle.fleet_world.proofs.Sessions.{step-of, fresh-run, fresh-opened, forget-opened}

module _ {A : Type 0} where
  -- no event was played, and one more
  pub leads_to-none : (t : Talk A) → LeadsTo t [] [] t
  leads_to-none t s f is = (s, refl, is)

  pub leads_to-push : (t mid u : Talk A) (events : List Event) (replies : List Reply) (event : Event) (reply : Reply) →
      LeadsTo t events replies mid → TalkStep mid event reply u → LeadsTo t (events ++ event ∷ []) (replies ++ reply ∷ []) u
  leads_to-push t mid u events replies event reply leads step s f is =
      let (m, run, there) = leads s f is in
      let fresh = fresh-run s m events replies f run in
      let (next, st, shown) = step-of m fresh event reply u (subst (λ (x : Talk A). TalkStep x event reply u) (sym there) step) in
      (next, Run-push s m next events replies event reply run st, shown)

  -- from the opening on
  pub played_is : (m : Floor) (starts : List ℕ) (n : ℕ) (limits : Limits) (laws : HookLaws) (t u : Talk A) (events played : List Event) (replies : List Reply) (w : World A) →
      CanOpen m starts n limits laws → AreOrderly laws → t ≡ opened_talk m starts n limits laws → LeadsTo t played replies u → played ≡ events → w ≡ u.world →
      IsPlayed (opened_state m starts n limits laws) events replies w
  played_is m starts n limits laws t u events played replies w can orderly opened leads all world =
      let first : State A = opened_state m starts n limits laws in
      let (last, ran, shown) = leads first (fresh-opened m starts n limits laws can orderly) (forget-opened m starts n limits laws ∙ sym opened) in
      let run : Run first events replies last = subst (λ (x : List Event). Run first x replies last) all ran in
      let end = ends m starts n limits laws events replies last can orderly run in
      let floor = last.world.floor in
      let history = last.world.history in
      record {
        last = last;
        run = run;
        world = ap (λ (x : Talk A). x.world) shown ∙ sym world;
        same = end.ground;
        legal = end.legal;
        rings = end.rings;
        each_ring = end-each m starts n limits laws last end;
        arrivals = arrives-legal floor history end.legal;
        numbers = arrivals_rise-legal floor history end.legal;
        numbered = λ client. numbered-legal floor history client end.legal;
        conflicts = no_conflict-legal floor history end.legal;
        closes = none_closed-legal floor history end.legal;
        planned = end.planned;
        advancing = end.advancing;
        bounded = end.bounded;
      }

-- ---- answers

-- one item more at the end of items that are all the same
one-longer : {X : Type 0} (n : ℕ) (x : X) → replicate (suc n) x ≡ replicate n x ++ x ∷ []
one-longer zero x = refl
one-longer (suc n) x = ap (λ xs. x ∷ xs) (one-longer n x)

pub replicate-more : {X : Type 0} (n : ℕ) (x : X) → replicate (n + 1) x ≡ replicate n x ++ x ∷ []
replicate-more n x = let next : n + 1 ≡ suc n = omega arith in ap (λ k. replicate k x) next ∙ one-longer n x

module _ {X : Type 0} (part : Answered → X) (all : List Answered → List X) (none : all [] ≡ []) (each : (a : Answered) (rest : List Answered) → all (a ∷ rest) ≡ replicate a.times (part a) ++ all rest) where
  row : (a : Answered) → all (a ∷ []) ≡ replicate a.times (part a)
  row a = each a [] ∙ (ap (λ l. replicate a.times (part a) ++ l) none ∙ append-nil (replicate a.times (part a)))

  -- the first answer, and all others
  after : (x : Answered) (xs ys : List Answered) (l : List X) → all ys ≡ all xs ++ l → all (x ∷ ys) ≡ all (x ∷ xs) ++ l
  after x xs ys l e =
      each x ys ∙ (ap (λ r. replicate x.times (part x) ++ r) e
      ∙ (sym (append_assoc (replicate x.times (part x)) (all xs) l) ∙ ap (λ r. r ++ l) (sym (each x xs))))

  -- an answer that differs from the last
  pushed : (xs : List Answered) (a : Answered) → all (xs ++ a ∷ []) ≡ all xs ++ replicate a.times (part a)
  pushed [] a = row a ∙ ap (λ l. l ++ replicate a.times (part a)) (sym none)
  pushed (x ∷ xs) a = after x xs (xs ++ a ∷ []) (replicate a.times (part a)) (pushed xs a)

  -- the last answer once more
  bumped : (xs : List Answered) (n : ℕ) (a b : Answered) → n + 1 ≡ length xs → a ≡ slice_index_or xs n a → b.times ≡ a.times + 1 → part b ≡ part a → all (slice_set xs n b) ≡ all xs ++ part a ∷ []
  bumped [] n a b count at times same = absurd (omega (arith, count))
  bumped (y ∷ []) zero a b count at times same =
      let last : replicate b.times (part b) ≡ replicate a.times (part a) ++ part a ∷ [] =
      ap (λ k. replicate k (part b)) times ∙ (ap (λ x. replicate (a.times + 1) x) same ∙ replicate-more a.times (part a)) in
      row b ∙ (last ∙ ap (λ l. l ++ part a ∷ []) (sym (row a) ∙ ap (λ z. all (z ∷ [])) at))
  bumped (y ∷ z ∷ ys) zero a b count at times same = absurd (omega (arith, count))
  bumped (y ∷ ys) (suc n) a b count at times same =
      after y ys (slice_set ys n b) (part a ∷ []) (bumped ys n a b (omega (arith, count)) at times same)

pub events-pushed : (xs : List Answered) (a : Answered) → events_in (xs ++ a ∷ []) ≡ events_in xs ++ replicate a.times a.event
events-pushed = pushed (λ a. a.event) events_in refl (λ a rest. refl)

pub replies-pushed : (xs : List Answered) (a : Answered) → replies_in (xs ++ a ∷ []) ≡ replies_in xs ++ replicate a.times a.reply
replies-pushed = pushed (λ a. a.reply) replies_in refl (λ a rest. refl)

pub events-bumped : (xs : List Answered) (n : ℕ) (a b : Answered) → n + 1 ≡ length xs → a ≡ slice_index_or xs n a → b.times ≡ a.times + 1 → b.event ≡ a.event → events_in (slice_set xs n b) ≡ events_in xs ++ a.event ∷ []
events-bumped = bumped (λ a. a.event) events_in refl (λ a rest. refl)

pub replies-bumped : (xs : List Answered) (n : ℕ) (a b : Answered) → n + 1 ≡ length xs → a ≡ slice_index_or xs n a → b.times ≡ a.times + 1 → b.reply ≡ a.reply → replies_in (slice_set xs n b) ≡ replies_in xs ++ a.reply ∷ []
replies-bumped = bumped (λ a. a.reply) replies_in refl (λ a rest. refl)

-- the events of one line more
pub unrolled-more : (xs : List Line) (x : Line) → unrolled (xs ++ x ∷ []) ≡ unrolled xs ++ replicate x.times x.event
unrolled-more [] x = append-nil (replicate x.times x.event)
unrolled-more (y ∷ xs) x =
    ap (λ r. replicate y.times y.event ++ r) (unrolled-more xs x) ∙ sym (append_assoc (replicate y.times y.event) (unrolled xs) (replicate x.times x.event))
