-- The notices of a chapter that a text tells.
use Rattle.std.proofs.Common.{◌≡◌, ℕ, ◌<◌, ◌≤◌, Bool, List, Result, Ok, Err, IfOk}
use Rattle.std.specs.List.{list_any, range_with_len}
use Rattle.std.specs.declared.alloc.Global.{Global}
use Rattle.fleet_history.specs.History.{client_at, clients}
use Rattle.fleet_history.specs.Notices.{notices}
use Rattle.fleet_trace.specs.Reads.{Tells}
use Rattle.fleet_trace.specs.Trace.{Trace}
use Rattle.live_parts.specs.Recalls.{IsCounted, Recalls, recall_of, wants_more, with_before}
use Rattle.fleet_lib.specs.Recalled.{AddsTrace, told}

pub adds-told : {E : Type 0} (r : Result Bool E) (text : List ℕ) (t : Trace Global) (old new : Recalls) → Tells text t → new.most ≡ old.most →
    IfOk r (λ _. (c : ℕ) → c < clients t.history → IsCounted t.history c → recall_of new c ≡ with_before old.most (notices t.history c) (recall_of old c)) →
    IfOk r (λ _. (c : ℕ) → clients t.history ≤ c → recall_of new c ≡ recall_of old c) →
    IfOk r (λ more. more ≡ list_any (λ c. wants_more old.most (client_at t.history c) (recall_of new c)) (range_with_len 0 (clients t.history))) →
    IfOk r (λ more. AddsTrace text old new more)
adds-told (Ok more) text t old new tells most kept others wants = told t tells (record { most = most; kept = kept; others = others; wants = wants })
adds-told (Err e) text t old new tells most kept others wants = kept
