-- The fleet that a head names is opened, or refused.
use Rattle.std.proofs.Common.{◌≡◌, ◌∙◌, Bool, length, Err, IfOk, OnOk, ◌↔◌, ap}
use Rattle.std.specs.Prelude.{if◌then◌else◌}
use Rattle.fleet_core.specs.Hooks.{AreOrderly, laws_of}
use Rattle.fleet_core.specs.Opening.{CanOpen}
use Rattle.fleet_core.specs.OpeningFaults.{IsRefused}
use Rattle.fleet_script.specs.Script.{plan_from}
use Rattle.fleet_text.specs.Kit.{kit_laws}
use Rattle.fleet_text.proofs.Kits.{first_laws, chosen_is}
use Rattle.fleet_world.specs.Keeps.{talk}
use Rattle.fleet_world.specs.Talk.{opened_talk}
use Rattle.fleet_talk.specs.Conversation.{clients_in, laws_in, limits_in}
use Rattle.fleet_talk.specs.Heading.{drafted}
use Rattle.fleet_talk.proofs.Doors.{ok-by}
use Rattle.fleet_talk.proofs.Manners.{fresh-opened}
use Rattle.fleet_talk.proofs.Starting.{unwrapped, in-terms}
use Rattle.fleet_talk.proofs.opening.open.Goals as goal

pub returns-clause-refused : goal.returns-clause-refused
returns-clause-refused g c starts is fault named =
    let cells = unwrapped (λ v. v.items) c.args.head.starts _ c.unwrap_or-starts.result starts c.unwrap_or-starts.ensures is in
    let laws = (chosen_is (kit_laws c.args.kit) (plan_from (drafted c.args.head) starts) (laws_of c.choose.result) c.len.result _ _ _ (c.choose.ensures ∙ ap (λ (south : Bool). if south then (kit_laws c.args.kit).south else (kit_laws c.args.kit).plain) c.unwrap_or.ensures) (c.len.ensures ∙ (c.unwrap_or-starts.result.ok.0 ∙ ap length cells))
    (first_laws (λ x. x.law) c.len.result c.choose.result.ties.items c.cut-hooks.result.ties.items c.cut-hooks.ensures.ties)
    (first_laws (λ x. x.law) c.len.result c.choose.result.arrivals.items c.cut-hooks.result.arrivals.items c.cut-hooks.ensures.arrivals)
    (first_laws (λ x. x.law) c.len.result c.choose.result.farewells.items c.cut-hooks.result.farewells.items c.cut-hooks.ensures.farewells)) in
    in-terms (λ s n l h. (c.open.result ≡ Err fault) ↔ IsRefused c.args.grid s n l h fault) c.unwrap_or-starts.result.items starts c.unwrap_or-clients.result (clients_in (drafted c.args.head)) c.limits_over.result (limits_in (drafted c.args.head)) (laws_of c.cut-hooks.result) (laws_in (kit_laws c.args.kit) (drafted c.args.head) starts)
    cells c.unwrap_or-clients.ensures c.limits_over.ensures laws (c.open.ensures.refused fault named)

pub returns-clause-can : goal.returns-clause-can
returns-clause-can g c starts is =
    let cells = unwrapped (λ v. v.items) c.args.head.starts _ c.unwrap_or-starts.result starts c.unwrap_or-starts.ensures is in
    let laws = (chosen_is (kit_laws c.args.kit) (plan_from (drafted c.args.head) starts) (laws_of c.choose.result) c.len.result _ _ _ (c.choose.ensures ∙ ap (λ (south : Bool). if south then (kit_laws c.args.kit).south else (kit_laws c.args.kit).plain) c.unwrap_or.ensures) (c.len.ensures ∙ (c.unwrap_or-starts.result.ok.0 ∙ ap length cells))
    (first_laws (λ x. x.law) c.len.result c.choose.result.ties.items c.cut-hooks.result.ties.items c.cut-hooks.ensures.ties)
    (first_laws (λ x. x.law) c.len.result c.choose.result.arrivals.items c.cut-hooks.result.arrivals.items c.cut-hooks.ensures.arrivals)
    (first_laws (λ x. x.law) c.len.result c.choose.result.farewells.items c.cut-hooks.result.farewells.items c.cut-hooks.ensures.farewells)) in
    in-terms (λ s n l h. OnOk c.open.result (CanOpen c.args.grid s n l h)) c.unwrap_or-starts.result.items starts c.unwrap_or-clients.result (clients_in (drafted c.args.head)) c.limits_over.result (limits_in (drafted c.args.head)) (laws_of c.cut-hooks.result) (laws_in (kit_laws c.args.kit) (drafted c.args.head) starts)
    cells c.unwrap_or-clients.ensures c.limits_over.ensures laws c.open.ensures.can

pub returns-clause-orderly : goal.returns-clause-orderly
returns-clause-orderly g c starts is =
    let cells = unwrapped (λ v. v.items) c.args.head.starts _ c.unwrap_or-starts.result starts c.unwrap_or-starts.ensures is in
    let laws = (chosen_is (kit_laws c.args.kit) (plan_from (drafted c.args.head) starts) (laws_of c.choose.result) c.len.result _ _ _ (c.choose.ensures ∙ ap (λ (south : Bool). if south then (kit_laws c.args.kit).south else (kit_laws c.args.kit).plain) c.unwrap_or.ensures) (c.len.ensures ∙ (c.unwrap_or-starts.result.ok.0 ∙ ap length cells))
    (first_laws (λ x. x.law) c.len.result c.choose.result.ties.items c.cut-hooks.result.ties.items c.cut-hooks.ensures.ties)
    (first_laws (λ x. x.law) c.len.result c.choose.result.arrivals.items c.cut-hooks.result.arrivals.items c.cut-hooks.ensures.arrivals)
    (first_laws (λ x. x.law) c.len.result c.choose.result.farewells.items c.cut-hooks.result.farewells.items c.cut-hooks.ensures.farewells)) in
    in-terms (λ s n l h. OnOk c.open.result (AreOrderly h)) c.unwrap_or-starts.result.items starts c.unwrap_or-clients.result (clients_in (drafted c.args.head)) c.limits_over.result (limits_in (drafted c.args.head)) (laws_of c.cut-hooks.result) (laws_in (kit_laws c.args.kit) (drafted c.args.head) starts)
    cells c.unwrap_or-clients.ensures c.limits_over.ensures laws c.open.ensures.orderly

pub returns-clause-ok : goal.returns-clause-ok
returns-clause-ok g c starts is =
    let cells = unwrapped (λ v. v.items) c.args.head.starts _ c.unwrap_or-starts.result starts c.unwrap_or-starts.ensures is in
    let laws = (chosen_is (kit_laws c.args.kit) (plan_from (drafted c.args.head) starts) (laws_of c.choose.result) c.len.result _ _ _ (c.choose.ensures ∙ ap (λ (south : Bool). if south then (kit_laws c.args.kit).south else (kit_laws c.args.kit).plain) c.unwrap_or.ensures) (c.len.ensures ∙ (c.unwrap_or-starts.result.ok.0 ∙ ap length cells))
    (first_laws (λ x. x.law) c.len.result c.choose.result.ties.items c.cut-hooks.result.ties.items c.cut-hooks.ensures.ties)
    (first_laws (λ x. x.law) c.len.result c.choose.result.arrivals.items c.cut-hooks.result.arrivals.items c.cut-hooks.ensures.arrivals)
    (first_laws (λ x. x.law) c.len.result c.choose.result.farewells.items c.cut-hooks.result.farewells.items c.cut-hooks.ensures.farewells)) in
    in-terms (λ s n l h. IfOk c.open.result (λ s2. talk s2 ≡ opened_talk c.args.grid s n l h)) c.unwrap_or-starts.result.items starts c.unwrap_or-clients.result (clients_in (drafted c.args.head)) c.limits_over.result (limits_in (drafted c.args.head)) (laws_of c.cut-hooks.result) (laws_in (kit_laws c.args.kit) (drafted c.args.head) starts)
    cells c.unwrap_or-clients.ensures c.limits_over.ensures laws c.open.ensures.ok

pub returns-clause-fresh : goal.returns-clause-fresh
returns-clause-fresh g c =
    ok-by c.open.result _ _ (λ s2 same. fresh-opened (talk s2) c.args.grid c.unwrap_or-starts.result.items c.unwrap_or-clients.result c.limits_over.result (laws_of c.cut-hooks.result) same) c.open.ensures.ok
