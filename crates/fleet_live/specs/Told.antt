-- What was handed on to the writers, and to the thread that keeps chapters.
use Rattle.std.specs.Prelude.{⊤, ◌≡◌, ℕ, ◌≤◌, List, [], ◌∷◌, ◌++◌, Option, Some, None, drop, length, slice_get}
use Rattle.rtrb.specs.Ring.{sent}
use Rattle.fleet_live.specs.declared.text_out.TextOut.{TextOut}
use Rattle.fleet_live.specs.Loop.{told_in_all}

-- what was handed on for a conversation: what its ring was sent, and what comes after it where that is kept though there is no room
abbrev pub handed : TextOut → List ℕ
handed x = sent x.ring ++ drop x.over_ahead x.over.items

-- a text is handed on as far as there is room: nothing is lost, and nothing is said twice
pub record HandsText (old new : TextOut) (text new_text : List ℕ) : Type 0 where
  pub told : told_in_all (handed new) new.ahead new_text ≡ told_in_all (handed old) old.ahead text
  pub within : new.ahead ≤ length new_text

-- what was handed on for a conversation; nothing for one that there is not
abbrev pub handed_of : Option TextOut → List ℕ
handed_of None = []
handed_of (Some x) = handed x

-- how many bytes of what waits are in the ring already; 0 without a ring
abbrev pub ahead_of : Option TextOut → ℕ
ahead_of None = 0
ahead_of (Some x) = x.ahead

-- what was handed on for the conversation with this number
abbrev pub handed_at : List TextOut → ℕ → List ℕ
handed_at texts k = handed_of (slice_get texts k)

-- how many bytes of what waits for the conversation with this number are in its ring already
abbrev pub ahead_at : List TextOut → ℕ → ℕ
ahead_at texts k = ahead_of (slice_get texts k)

-- of each conversation the bytes that are in the ring are the first of what waits
abbrev pub AreWithin : List TextOut → List (List ℕ) → Type 0
AreWithin [] texts = ⊤
AreWithin (x ∷ xs) [] = ⊤
AreWithin (x ∷ xs) (t ∷ ts) = (x.ahead ≤ length t) × AreWithin xs ts

-- the text of each conversation is handed on as far as there is room
abbrev pub AreHanded : List TextOut → List TextOut → List (List ℕ) → List (List ℕ) → Type 0
AreHanded [] new texts new_texts = (new ≡ []) × (new_texts ≡ texts)
AreHanded (x ∷ xs) new [] new_texts = (new ≡ x ∷ xs) × (new_texts ≡ [])
AreHanded (x ∷ xs) (y ∷ ys) (t ∷ ts) (u ∷ us) = HandsText x y t u × AreHanded xs ys ts us
AreHanded _ _ _ _ = ⊥
