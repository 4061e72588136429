-- What is kept of what a client was told in the last chapters of a fleet.
use Rattle.std.specs.Prelude.{⊤, ℕ, ◌≡◌, List, [], ◌∷◌}
use Rattle.std.specs.List.{flat_map}
use Rattle.fleet_grid.specs.Floor.{Floor}
use Rattle.fleet_book.specs.declared.notice.Notice.{Notice}
use Rattle.fleet_history.specs.History.{History, client_at}
use Rattle.fleet_history.specs.Legal.{IsLegal}
use Rattle.fleet_history.specs.Notices.{noticed_count, notices}
use Rattle.live_parts.specs.Recalls.{Recall, with_before}

-- legal chapters in a row: each begins with as many notices of the client as were made before it, and the last ends with this many
abbrev pub AreInARow : {A : Type 0} → Floor → ℕ → List (History A) → ℕ → Type 0
AreInARow m c [] last = ⊤
AreInARow m c (h ∷ []) last = IsLegal m h × (noticed_count h c ≡ last)
AreInARow m c (h ∷ g ∷ hs) last = IsLegal m h × (noticed_count h c ≡ (client_at g c).noticed) × AreInARow m c (g ∷ hs) last

-- what a client was told in chapters
abbrev pub told_in : {A : Type 0} → ℕ → List (History A) → List Notice
told_in c hs = flat_map (λ h. notices h c) hs

-- what is kept of a client when chapters were added, from the last to the first
abbrev pub with_chapters : {A : Type 0} → ℕ → ℕ → List (History A) → Recall → Recall
with_chapters most c [] r = r
with_chapters most c (h ∷ hs) r = with_before most (notices h c) (with_chapters most c hs r)
