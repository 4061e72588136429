use Rattle.std.proofs.Common.{◌≡◌, ℕ, List, map, sym, ap, ◌∙◌, subst}
use Rattle.fleet_history.specs.Laws.{EachTick}
use Rattle.fleet_history.specs.Legal.{IsLegal}
use Rattle.fleet_history.proofs.Arrivals.{arrives-legal, arrivals_rise-legal}
use Rattle.fleet_history.proofs.Legal.{no_conflict-legal, none_closed-legal}
use Rattle.fleet_history.proofs.Once.{numbered-legal}
use Rattle.fleet_planner.specs.Planned.{IsPlanned}
use Rattle.fleet_bound.specs.Bound.{WaitsAreBounded}
use Rattle.fleet_bound.specs.Roomy.{AdvancesIfRoomy, AreRoomy}
use Rattle.fleet_world.specs.declared.reply.Reply.{Reply}
use Rattle.fleet_core.specs.Core.{World, opened_world}
use Rattle.fleet_core.specs.Hooks.{laws_of}
use Rattle.fleet_world.specs.Keeps.{talk}
use Rattle.fleet_world.specs.Laws.{KeepsRings, KeepsEachRing, CollectsInOrder, IsSameGround}
use Rattle.fleet_world.specs.Played.{collected_of}
use Rattle.fleet_world.specs.Run.{State, Run, opened_state}
use Rattle.fleet_world.specs.inside.Leftovers.{HasRoomFor}
use Rattle.fleet_core.proofs.OpeningRefusals.{not_refused}
use Rattle.fleet_world.proofs.Refusals.{done}
use Rattle.fleet_world.proofs.Leaving.{IsLeft, left, left-clients}
use Rattle.fleet_world.proofs.RunLaws.{same_length, end-clients, end-each, end-once}
use Rattle.fleet_world.proofs.play.run.Goals as goal

pub opened-requires : goal.opened-requires
opened-requires g c = c.requires

-- there is room for as many clients as there are
pub close-requires : goal.close-requires
close-requires g c =
    subst (HasRoomFor c.in_ok-opened.opened.1.0)
    (sym (c.play.new.session.count ∙ left-clients c.args.grid c.args.starts.items c.args.clients c.args.limits (laws_of c.args.hooks) (talk c.in_ok-opened.opened.0) (talk c.play.new.session) (map (λ v. v.items) c.in_ok-opened.opened.1.1.items) (map (λ v. v.items) c.play.new.collected.items)
    c.args.events.now c.in-Ok.replies.items c.in_ok-opened.ensures.can c.in_ok-opened.ensures.orderly c.in_ok-opened.ensures.ok c.in_ok-opened.ensures.collected c.in-Ok.ensures.leads)) c.in_ok-opened.ensures.room

pub returns-in-Ok-clause-refused : goal.returns-in-Ok-clause-refused
returns-in-Ok-clause-refused g c f named =
    (done, λ q. absurd (not_refused c.args.grid c.args.starts.items c.args.clients c.args.limits (laws_of c.args.hooks) f c.in_ok-opened.ensures.can q))

-- what is handed out is the state that the run led to
ended : (g : _) (c : goal.After-close g) →
    IsLeft (opened_state c.args.grid c.args.starts.items c.args.clients c.args.limits (laws_of c.args.hooks)) c.args.events.now c.close.result.replies.items
    c.close.result.world.core (map (λ v. v.items) c.close.result.lanes.items) (map (λ v. v.items) c.close.result.outlets.items) (collected_of c.close.result)
ended g c =
    let all = collected_of c.close.result in
    let replies = ap (λ v. v.items) c.close.ensures.replies in
    let o = opened_state c.args.grid c.args.starts.items c.args.clients c.args.limits (laws_of c.args.hooks) in
    subst (λ (r : List Reply). IsLeft o c.args.events.now r c.close.result.world.core (map (λ v. v.items) c.close.result.lanes.items) (map (λ v. v.items) c.close.result.outlets.items) all) (sym replies)
    (left c.args.grid c.args.starts.items c.args.clients c.args.limits (laws_of c.args.hooks) (talk c.in_ok-opened.opened.0) (talk c.play.new.session) (map (λ v. v.items) c.in_ok-opened.opened.1.1.items) (map (λ v. v.items) c.play.new.collected.items)
    c.args.events.now c.in-Ok.replies.items c.close.result.world.core (map (λ v. v.items) c.close.result.lanes.items) (map (λ v. v.items) c.close.result.outlets.items) all
    c.in_ok-opened.ensures.can c.in_ok-opened.ensures.orderly c.in_ok-opened.ensures.ok c.in_ok-opened.ensures.collected c.in-Ok.ensures.leads c.close.ensures.world c.close.ensures.lanes c.close.ensures.outlets
    (ap (λ v. map (λ w. w.items) v.items) c.close.ensures.collected))

world : (g : _) (c : goal.After-close g) → (ended g c).last.world ≡ c.close.result.world.core
world g c = ap (λ (s : State _). s.world) (sym (ended g c).same)

legal : (g : _) (c : goal.After-close g) → IsLegal c.close.result.world.core.floor c.close.result.world.core.history
legal g c = subst (λ (w : World _). IsLegal w.floor w.history) (world g c) (ended g c).end.legal

pub returns-in-Ok-clause-run : goal.returns-in-Ok-clause-run
returns-in-Ok-clause-run g c =
    let o = opened_state c.args.grid c.args.starts.items c.args.clients c.args.limits (laws_of c.args.hooks) in
    subst (λ (s : State _). Run o c.args.events.now c.close.result.replies.items s) (sym (ended g c).same) (ended g c).run

pub returns-in-Ok-clause-same : goal.returns-in-Ok-clause-same
returns-in-Ok-clause-same g c = subst (λ (w : World _). IsSameGround (opened_world c.args.grid c.args.starts.items c.args.clients c.args.limits (laws_of c.args.hooks)) w) (world g c) (ended g c).end.ground

pub returns-in-Ok-clause-legal : goal.returns-in-Ok-clause-legal
returns-in-Ok-clause-legal g c = legal g c

pub returns-in-Ok-clause-rings : goal.returns-in-Ok-clause-rings
returns-in-Ok-clause-rings g c = subst KeepsRings (sym (ended g c).same) (ended g c).end.rings

pub returns-in-Ok-clause-each_ring : goal.returns-in-Ok-clause-each_ring
returns-in-Ok-clause-each_ring g c =
    subst KeepsEachRing (sym (ended g c).same) (end-each c.args.grid c.args.starts.items c.args.clients c.args.limits (laws_of c.args.hooks) (ended g c).last (ended g c).end)

pub returns-in-Ok-clause-once : goal.returns-in-Ok-clause-once
returns-in-Ok-clause-once g c =
    subst (λ (w : World _). CollectsInOrder w.history (collected_of c.close.result)) (world g c)
    (end-once (ended g c).last (collected_of c.close.result) (ended g c).end.rings (ended g c).got)

pub returns-in-Ok-clause-arrivals : goal.returns-in-Ok-clause-arrivals
returns-in-Ok-clause-arrivals g c = arrives-legal c.close.result.world.core.floor c.close.result.world.core.history (legal g c)

pub returns-in-Ok-clause-numbers : goal.returns-in-Ok-clause-numbers
returns-in-Ok-clause-numbers g c = arrivals_rise-legal c.close.result.world.core.floor c.close.result.world.core.history (legal g c)

pub returns-in-Ok-clause-numbered : goal.returns-in-Ok-clause-numbered
returns-in-Ok-clause-numbered g c client = numbered-legal c.close.result.world.core.floor c.close.result.world.core.history client (legal g c)

pub returns-in-Ok-clause-conflicts : goal.returns-in-Ok-clause-conflicts
returns-in-Ok-clause-conflicts g c = no_conflict-legal c.close.result.world.core.floor c.close.result.world.core.history (legal g c)

pub returns-in-Ok-clause-closes : goal.returns-in-Ok-clause-closes
returns-in-Ok-clause-closes g c = none_closed-legal c.close.result.world.core.floor c.close.result.world.core.history (legal g c)

pub returns-in-Ok-clause-planned : goal.returns-in-Ok-clause-planned
returns-in-Ok-clause-planned g c = subst (λ (w : World _). EachTick (IsPlanned w.floor w.ties) w.history) (world g c) (ended g c).end.planned

pub returns-in-Ok-clause-advancing : goal.returns-in-Ok-clause-advancing
returns-in-Ok-clause-advancing g c =
    subst (λ (w : World _). AdvancesIfRoomy w.floor w.history) (world g c) (ended g c).end.advancing

pub returns-in-Ok-clause-bounded : goal.returns-in-Ok-clause-bounded
returns-in-Ok-clause-bounded g c =
    subst (λ (w : World _). AreRoomy w.floor w.history → WaitsAreBounded w.floor w.history) (world g c) (ended g c).end.bounded

pub returns-in-Ok-clause-counts : goal.returns-in-Ok-clause-counts
returns-in-Ok-clause-counts g c =
    let e = ended g c in
    let count = e.end.rings.list_count ∙ end-clients c.args.grid c.args.starts.items c.args.clients c.args.limits (laws_of c.args.hooks) e.last e.end in (
      c.close.result.lanes.ok.0 ∙ same_length _ _ _ _ e.in_lanes ∙ count,
      c.close.result.outlets.ok.0 ∙ same_length _ _ _ _ e.in_outlets ∙ count,
      c.close.result.collected.ok.0 ∙ same_length _ _ _ _ e.got ∙ count,
    )
