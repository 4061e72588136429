-- What is kept of what clients are told, to be told again.
use Rattle.std.specs.Prelude.{◌≡◌, ℕ, ◌≤◌, ◌<◌, List, [], ◌∷◌, length}
use Rattle.std.specs.declared.alloc.Global.{Global}
use Rattle.fleet_history.specs.History.{History, client_at, clients}
use Rattle.live_parts.specs.Recalls.{Recalls, begun, noted, recall_of}
use Rattle.live_fleet.specs.Act.{Act, told}

-- a notice that is told is kept
abbrev pub noted_at : Act → Recalls → Recalls
noted_at (told to client notice) r = noted client notice r
noted_at _ r = r

-- each notice that is told is kept, in order
abbrev pub noted_by : List Act → Recalls → Recalls
noted_by [] r = r
noted_by (act ∷ acts) r = noted_by acts (noted_at act r)

-- all that was noticed before a fleet was opened, or went on, was told
abbrev pub AreBegun : History Global → Recalls → Recalls → Type 0
AreBegun h r t = (c : ℕ) → c < clients h → recall_of t c ≡ begun (client_at h c) (recall_of r c)

-- notices of a client are kept, no more than there may be
abbrev pub IsRecalled : Recalls → ℕ → Type 0
IsRecalled r c = (c < length r.clients) × (length (recall_of r c).notices ≤ r.most)

-- the notices of each client are kept, no more than there may be, in a fleet that was opened or goes on
abbrev pub AreRecalled : History Global → Recalls → Type 0
AreRecalled h r = (c : ℕ) → c < clients h → IsRecalled r c
