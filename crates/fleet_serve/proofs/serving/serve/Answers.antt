use Rattle.std.proofs.Common.{refl, subst}
use Rattle.fleet_book.specs.declared.limits.Limits.{Limits}
use Rattle.fleet_serve.specs.Posted.{AreNew}
use Rattle.fleet_serve.proofs.Clients.{new-pairs}
use Rattle.fleet_serve.proofs.Ended.{on_ok}
use Rattle.fleet_serve.proofs.serving.serve.Goals as goal

pub serve_at-requires-clause-fresh : goal.serve_at-requires-clause-fresh
serve_at-requires-clause-fresh g c κs within =
    let d = c.in-Ok.desk in
    let ok = c.in-Ok.ensures.ok in
    subst (λ (l : Limits). AreNew l.orders d.clients) ok.1 (new-pairs d.clients d.ends d.limits ok.3)

pub returns-in-Ok-clause-refused : goal.returns-in-Ok-clause-refused
returns-in-Ok-clause-refused g c = c.serve_at.ensures.refused

pub returns-in-Ok-clause-opens : goal.returns-in-Ok-clause-opens
returns-in-Ok-clause-opens g c = c.serve_at.ensures.opens

pub returns-in-Ok-clause-first : goal.returns-in-Ok-clause-first
returns-in-Ok-clause-first g c = on_ok c.serve_at.result c.serve_at.ensures.ended (λ s e. e.first)

pub returns-in-Ok-clause-legal : goal.returns-in-Ok-clause-legal
returns-in-Ok-clause-legal g c = on_ok c.serve_at.result c.serve_at.ensures.ended (λ s e. e.legal)

pub returns-in-Ok-clause-advancing : goal.returns-in-Ok-clause-advancing
returns-in-Ok-clause-advancing g c = on_ok c.serve_at.result c.serve_at.ensures.ended (λ s e. e.advancing refl)

pub returns-in-Ok-clause-planned : goal.returns-in-Ok-clause-planned
returns-in-Ok-clause-planned g c = on_ok c.serve_at.result c.serve_at.ensures.ended (λ s e. e.planned)

pub returns-in-Ok-clause-bounded : goal.returns-in-Ok-clause-bounded
returns-in-Ok-clause-bounded g c = on_ok c.serve_at.result c.serve_at.ensures.ended (λ s e. e.bounded refl)

pub returns-in-Ok-clause-tick : goal.returns-in-Ok-clause-tick
returns-in-Ok-clause-tick g c = on_ok c.serve_at.result c.serve_at.ensures.ended (λ s e. e.tick)

pub returns-in-Ok-clause-posted : goal.returns-in-Ok-clause-posted
returns-in-Ok-clause-posted g c = on_ok c.serve_at.result c.serve_at.ensures.ended (λ s e. e.posted)

pub returns-in-Ok-clause-all : goal.returns-in-Ok-clause-all
returns-in-Ok-clause-all g c = on_ok c.serve_at.result c.serve_at.ensures.ended (λ s e. e.all)

pub returns-in-Ok-clause-counted : goal.returns-in-Ok-clause-counted
returns-in-Ok-clause-counted g c = on_ok c.serve_at.result c.serve_at.ensures.ended (λ s e. e.counted)

pub returns-in-Ok-clause-rest : goal.returns-in-Ok-clause-rest
returns-in-Ok-clause-rest g c = on_ok c.serve_at.result c.serve_at.ensures.ended (λ s e. e.rest)

pub returns-in-Err-Limits-clause-first : goal.returns-in-Err-Limits-clause-first
returns-in-Err-Limits-clause-first g c = tt

pub returns-in-Err-Limits-clause-legal : goal.returns-in-Err-Limits-clause-legal
returns-in-Err-Limits-clause-legal g c = tt

pub returns-in-Err-Limits-clause-advancing : goal.returns-in-Err-Limits-clause-advancing
returns-in-Err-Limits-clause-advancing g c = tt

pub returns-in-Err-Limits-clause-planned : goal.returns-in-Err-Limits-clause-planned
returns-in-Err-Limits-clause-planned g c = tt

pub returns-in-Err-Limits-clause-bounded : goal.returns-in-Err-Limits-clause-bounded
returns-in-Err-Limits-clause-bounded g c = tt

pub returns-in-Err-Limits-clause-tick : goal.returns-in-Err-Limits-clause-tick
returns-in-Err-Limits-clause-tick g c = tt

pub returns-in-Err-Limits-clause-posted : goal.returns-in-Err-Limits-clause-posted
returns-in-Err-Limits-clause-posted g c = tt

pub returns-in-Err-Limits-clause-all : goal.returns-in-Err-Limits-clause-all
returns-in-Err-Limits-clause-all g c = tt

pub returns-in-Err-Limits-clause-counted : goal.returns-in-Err-Limits-clause-counted
returns-in-Err-Limits-clause-counted g c = tt

pub returns-in-Err-Limits-clause-rest : goal.returns-in-Err-Limits-clause-rest
returns-in-Err-Limits-clause-rest g c = tt

pub serve_at-requires-clause-named : goal.serve_at-requires-clause-named
serve_at-requires-clause-named g c κs within = record { ledger = refl; parts = refl; rings = refl }

pub serve_at-requires-clause-clients : goal.serve_at-requires-clause-clients
serve_at-requires-clause-clients g c κs within = c.in-Ok.ensures.ok.0

pub serve_at-requires-clause-limits : goal.serve_at-requires-clause-limits
serve_at-requires-clause-limits g c κs within = c.in-Ok.ensures.ok.1

pub serve_at-requires-clause-events : goal.serve_at-requires-clause-events
serve_at-requires-clause-events g c κs within = refl

pub serve_at-requires-clause-orders : goal.serve_at-requires-clause-orders
serve_at-requires-clause-orders g c κs within = refl

pub serve_at-requires-clause-start : goal.serve_at-requires-clause-start
serve_at-requires-clause-start g c κs within = refl

pub returns-in-Ok-clause-floor : goal.returns-in-Ok-clause-floor
returns-in-Ok-clause-floor g c = on_ok c.serve_at.result c.serve_at.ensures.ended (λ s e. e.floor)

pub returns-in-Ok-clause-opening : goal.returns-in-Ok-clause-opening
returns-in-Ok-clause-opening g c = on_ok c.serve_at.result c.serve_at.ensures.ended (λ s e. e.opening)

pub returns-in-Err-Limits-clause-floor : goal.returns-in-Err-Limits-clause-floor
returns-in-Err-Limits-clause-floor g c = tt

pub returns-in-Err-Limits-clause-opening : goal.returns-in-Err-Limits-clause-opening
returns-in-Err-Limits-clause-opening g c = tt
