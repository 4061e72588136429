-- A text in pieces, of which each may repeat.
use Rattle.std.specs.Prelude.{ℕ, zero, suc, List, [], ◌∷◌, ◌++◌, string_bytes}
use Rattle.fleet_text.specs.declared.pieces.Piece.{Piece}

-- a text this many times, one after another
abbrev pub repeated : ℕ → List ℕ → List ℕ
repeated zero text = []
repeated (suc n) text = text ++ repeated n text

-- the text of all pieces
abbrev pub pieces_text : List Piece → List ℕ
pieces_text [] = []
pieces_text (piece ∷ pieces) = repeated piece.times (string_bytes piece.text) ++ pieces_text pieces
