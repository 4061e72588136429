-- The fleet was opened, or it was refused for the first reason that the head has.
use Rattle.std.proofs.Common.{◌≡◌, ◌∙◌, ◌↔◌, Bool, Err, ℕ, List, inl, length, ap}
use Rattle.std.specs.Prelude.{if◌then◌else◌}
use Rattle.fleet_core.specs.Hooks.{laws_of}
use Rattle.fleet_core.specs.OpeningFaults.{IsRefused}
use Rattle.fleet_script.specs.Script.{plan_from}
use Rattle.fleet_text.specs.Kit.{kit_laws}
use Rattle.fleet_text.proofs.Kits.{first_laws, chosen_is}
use Rattle.fleet_talk.specs.declared.fault.TalkFault.TheVariants.{Opening}
use Rattle.fleet_talk.specs.Conversation.{clients_in, laws_in, limits_in}
use Rattle.fleet_talk.specs.Heading.{drafted}
use Rattle.fleet_talk.proofs.Starting.{unwrapped}
use Rattle.fleet_live.proofs.Refusing.{in-ground, named-of}
use Rattle.fleet_live.proofs.live.keep_ground.Goals as goal

pub returns-clause-refused : goal.returns-clause-refused
returns-clause-refused g c starts is why named same =
    let kit = kit_laws c.args.ground.kit in
    let d = drafted c.args.ground.head in
    let cells = unwrapped (λ v. v.items) c.args.ground.head.starts _ c.unwrap_or-starts.result starts c.unwrap_or-starts.ensures is in
    let laws = (chosen_is (kit_laws c.args.ground.kit) (plan_from (drafted c.args.ground.head) starts) (laws_of c.choose.result) c.len.result _ _ _ (c.choose.ensures ∙ ap (λ (south : Bool). if south then (kit_laws c.args.ground.kit).south else (kit_laws c.args.ground.kit).plain) c.unwrap_or.ensures) (c.len.ensures ∙ (c.unwrap_or-starts.result.ok.0 ∙ ap length cells))
    (first_laws (λ x. x.law) c.len.result c.choose.result.ties.items c.cut-hooks.result.ties.items c.cut-hooks.ensures.ties)
    (first_laws (λ x. x.law) c.len.result c.choose.result.arrivals.items c.cut-hooks.result.arrivals.items c.cut-hooks.ensures.arrivals)
    (first_laws (λ x. x.law) c.len.result c.choose.result.farewells.items c.cut-hooks.result.farewells.items c.cut-hooks.ensures.farewells)) in
    let exact = in-ground (λ m s n l h. (c.keep_fleet.result ≡ Err (Opening why)) ↔ IsRefused m s n l h why) c.of-opening.result.grid c.args.ground.grid c.of-opening.result.starts.items starts c.of-opening.result.clients (clients_in d) c.of-opening.result.limits (limits_in d)
    (laws_of c.of-opening.result.hooks) (laws_in kit d starts) c.of-opening.ensures.grid (c.of-opening.ensures.starts ∙ cells) (c.of-opening.ensures.clients ∙ c.unwrap_or-2.ensures) (c.of-opening.ensures.limits ∙ c.limits_over-limits.ensures)
    (c.of-opening.ensures.hooks ∙ laws) (c.keep_fleet.ensures.refused why named) in
    exact.0 same

pub returns-clause-named : goal.returns-clause-named
returns-clause-named g c starts is why refused =
    let named = named-of c.args.ground.grid starts (clients_in (drafted c.args.ground.head)) (limits_in (drafted c.args.ground.head)) (laws_in (kit_laws c.args.ground.kit) (drafted c.args.ground.head) starts) why refused in
    let kit = kit_laws c.args.ground.kit in
    let d = drafted c.args.ground.head in
    let cells = unwrapped (λ v. v.items) c.args.ground.head.starts _ c.unwrap_or-starts.result starts c.unwrap_or-starts.ensures is in
    let laws = (chosen_is (kit_laws c.args.ground.kit) (plan_from (drafted c.args.ground.head) starts) (laws_of c.choose.result) c.len.result _ _ _ (c.choose.ensures ∙ ap (λ (south : Bool). if south then (kit_laws c.args.ground.kit).south else (kit_laws c.args.ground.kit).plain) c.unwrap_or.ensures) (c.len.ensures ∙ (c.unwrap_or-starts.result.ok.0 ∙ ap length cells))
    (first_laws (λ x. x.law) c.len.result c.choose.result.ties.items c.cut-hooks.result.ties.items c.cut-hooks.ensures.ties)
    (first_laws (λ x. x.law) c.len.result c.choose.result.arrivals.items c.cut-hooks.result.arrivals.items c.cut-hooks.ensures.arrivals)
    (first_laws (λ x. x.law) c.len.result c.choose.result.farewells.items c.cut-hooks.result.farewells.items c.cut-hooks.ensures.farewells)) in
    let exact = in-ground (λ m s n l h. (c.keep_fleet.result ≡ Err (Opening why)) ↔ IsRefused m s n l h why) c.of-opening.result.grid c.args.ground.grid c.of-opening.result.starts.items starts c.of-opening.result.clients (clients_in d) c.of-opening.result.limits (limits_in d)
    (laws_of c.of-opening.result.hooks) (laws_in kit d starts) c.of-opening.ensures.grid (c.of-opening.ensures.starts ∙ cells) (c.of-opening.ensures.clients ∙ c.unwrap_or-2.ensures) (c.of-opening.ensures.limits ∙ c.limits_over-limits.ensures)
    (c.of-opening.ensures.hooks ∙ laws) (c.keep_fleet.ensures.refused why named) in
    inl (exact.1 refused)
