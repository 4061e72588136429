-- What is taken with what is to be done next.
use Rattle.std.proofs.Common.{◌≡◌, ◌∙◌, ℕ, List, ◌++◌, refl, sym, ap, subst, append-nil}
use Rattle.live_fleet.specs.Does.{CanHear}
use Rattle.live_fleet.specs.Party.{Heard, Stage}
use Rattle.fleet_live.specs.declared.ends.Asked.{Asked}
use Rattle.fleet_live.specs.declared.ends.Next.{Next}
use Rattle.fleet_live.specs.declared.ends.Next.TheVariants.{Hand, Hear, Over, Search}
use Rattle.fleet_live.specs.Loop.{MayHear, heard_by, next_heard}

-- where it is no event, nothing is taken
pub takes-none : (heard : List Heard) (n : Next) (bytes : List ℕ) → ((event : Asked) → n ≡ Hear event → ⊥) → heard ≡ heard ++ next_heard n bytes
takes-none heard (Hear event) bytes other = absurd (other event refl)
takes-none heard Hand bytes other = sym (append-nil heard)
takes-none heard Search bytes other = sym (append-nil heard)
takes-none heard Over bytes other = sym (append-nil heard)

pub may-none : (s : Stage) (n : Next) (bytes : List ℕ) → ((event : Asked) → n ≡ Hear event → ⊥) → MayHear s n bytes
may-none s (Hear event) bytes other = absurd (other event refl)
may-none s Hand bytes other = tt
may-none s Search bytes other = tt
may-none s Over bytes other = tt

-- what may be heard of a line's slice may be heard of the line
pub may-one : (s : Stage) (event : Asked) (bytes line : List ℕ) (cue : Heard) → cue ≡ heard_by event line → line ≡ bytes → CanHear s cue → CanHear s (heard_by event bytes)
may-one s event bytes line cue same slice can = subst (λ (h : Heard). CanHear s h) (same ∙ ap (λ (l : List ℕ). heard_by event l) slice) can
