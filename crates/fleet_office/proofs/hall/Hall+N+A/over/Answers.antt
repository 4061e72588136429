use Rattle.std.proofs.Common.{◌≡◌, length, ap, sym, ◌∙◌, subst}
use Rattle.fleet_core.specs.Core.{World}
use Rattle.fleet_core.specs.Opening.{AreInRange}
use Rattle.fleet_history.specs.History.{clients}
use Rattle.fleet_history.specs.Legal.{IsLegal}
use Rattle.fleet_office.specs.Hall.{IsLawful}
use Rattle.fleet_office.specs.Views.{rings_of}
use Rattle.fleet_office.proofs.Opening.{over-unused, all_on}
use Rattle.fleet_office.proofs.hall.Hall+N+A.over.Goals as goal

pub new-state-requires : goal.new-state-requires
new-state-requires g c =
    let s = c.desk.inside in
    let w = c.args.world.core in
    let rings = g.N.OfficeName.rings in
    let total = c.open-book.result.0.total in
    let apart = c.apart-core.ensures.core in
    let named : rings_of s.ends.items ≡ rings = ap (λ d. rings_of d.ends) c.desk.view_is ∙ c.requires.named.rings in
    let limits : s.limits ≡ w.limits = ap (λ d. d.limits) c.desk.view_is ∙ c.requires.limits in
    let range : AreInRange (length s.clients.items) w.limits = subst (AreInRange (length s.clients.items)) limits c.desk.invariant.2 in
    let legal : IsLegal w.floor w.history = subst (λ (v : World g.row.A.Denot). IsLegal v.floor v.history) apart c.chapter.ensures.legal in
    let count : length s.clients.items ≡ clients w.history = ap (λ d. length d.clients) c.desk.view_is ∙ c.requires.clients in
    subst (λ b. IsLawful rings b c.apart-core.result.0 s.ends.items total) (sym c.requires.start)
    (subst (λ v. IsLawful rings w v s.ends.items total) (sym apart)
    (over-unused w s.limits s.clients.items s.ends.items rings total c.desk.invariant.0 named range c.requires.unused legal count c.open-book.ensures.total))

pub returns-clause-hall : goal.returns-clause-hall
returns-clause-hall g c = ap (λ h. h.world) c.new-state.ensures ∙ c.apart-core.ensures.core

pub returns-clause-clients : goal.returns-clause-clients
returns-clause-clients g c =
    let s = c.desk.inside in
    let named : rings_of s.ends.items ≡ g.N.OfficeName.rings = ap (λ d. rings_of d.ends) c.desk.view_is ∙ c.requires.named.rings in
    (ap (λ d. d.clients) c.desk.view_is, all_on s.limits s.clients.items s.ends.items g.N.OfficeName.rings c.desk.invariant.0 named)

pub returns-clause-ticker : goal.returns-clause-ticker
returns-clause-ticker g c = c.new-ticker.ensures
