-- Text that cannot end the script element in which it stands.
use Rattle.std.specs.Prelude.{◌≡◌, ℕ, Bool, true, List, not, ◌==◌}
use Rattle.std.specs.List.{list_all}

-- whether the byte is another than `<`
abbrev pub is_other : ℕ → Bool
is_other b = not (b == 60)

-- no byte of the text is `<`, with which the end of an element begins
abbrev pub HasNoTag : List ℕ → Type 0
HasNoTag text = list_all is_other text ≡ true
