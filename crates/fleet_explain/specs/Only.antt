-- What one list has and another lacks, by when two items are the same.
use Rattle.std.specs.Prelude.{◌≡◌, Bool, true, false, if◌then◌else◌, List, [], ◌∷◌, Option, Some, None}
use Rattle.std.specs.List.{list_any}

-- whether the list has an item that is the same as this one
abbrev pub is_among : {X : Type 0} → (X → X → Bool) → List X → X → Bool
is_among same xs x = list_any (λ y. same y x) xs

-- the item is one of the first list, and none of the second
pub record IsOnlyIn {X : Type 0} (same : X → X → Bool) (xs others : List X) (x : X) : Type 0 where
  pub there : is_among same xs x ≡ true
  pub missing : is_among same others x ≡ false

-- all of the first list is in the second
abbrev pub HasNoOther : {X : Type 0} → (X → X → Bool) → List X → List X → Type 0
HasNoOther {X} same xs others = (x : X) → is_among same xs x ≡ true → is_among same others x ≡ true

-- the first of the first list that is none of the second
abbrev pub first_only : {X : Type 0} → (X → X → Bool) → List X → List X → Option X
first_only same [] others = None
first_only same (x ∷ xs) others = if is_among same others x then first_only same xs others else Some x
