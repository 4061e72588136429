use Rattle.std.proofs.Common.{◌≡◌, ℕ, ◌+◌, ◌≤◌, ◌⊎◌, length, take, vec_len}
use Rattle.std.specs.List.{All, Contains}
use Rattle.fleet_field.specs.Field.{Aim}
use Rattle.fleet_field.specs.FieldCache.{HasKept}
use Rattle.fleet_field.proofs.kept.put_first.Given as goal

abbrev pub invariant-loop-field : goal.invariant-loop-field
invariant-loop-field g l = record {
  room : length l.kept.items + vec_len l.fields ≤ l.kept.room;
  among : All (λ (f : Aim). Contains l.fn.fields.items f ⊎ Contains l.fn.kept.items f) l.kept.items;
  subset : (f : Aim) → Contains l.fields.items f → Contains l.fn.fields.items f;
  fewer : vec_len l.fields ≤ vec_len l.fn.fields;
  within : (d n other : ℕ) → d + vec_len l.fields ≡ vec_len l.fn.fields → HasKept (take n l.fn.kept.items) other → HasKept (take (n + d) l.kept.items) other;
  first : (d : ℕ) (f : Aim) → d + vec_len l.fields ≡ vec_len l.fn.fields → Contains l.fn.fields.items f → Contains l.fields.items f ⊎ HasKept (take d l.kept.items) f.goal;
}

abbrev pub decreases-loop-field : goal.decreases-loop-field
decreases-loop-field g l = vec_len l.fields
