-- Pieces of text that are written one after the other.
use Rattle.std.proofs.Common.{◌≡◌, List, [], ℕ, ◌++◌, refl, append_assoc}

-- the parts of a shape that moves
pub moving-is : (old track values time digits end ring disc a b c d e : List ℕ) → a ≡ old ++ track → b ≡ a ++ values → c ≡ b ++ (time ++ (digits ++ end)) → d ≡ c ++ ring → e ≡ d ++ disc
    → e ≡ old ++ (track ++ values ++ time ++ digits ++ end ++ ring ++ disc)
moving-is old track values time digits end ring disc a b c d e a-is b-is c-is d-is e-is = rw (e-is, d-is, c-is, b-is, a-is) (simp append_assoc)

-- a text between two others, the last of which is written piece by piece
pub ring-is : (old begin flags time digits end a b c : List ℕ) → a ≡ old ++ begin → b ≡ a ++ flags → c ≡ b ++ (time ++ (digits ++ end)) → c ≡ old ++ (begin ++ flags ++ time ++ digits ++ end)
ring-is old begin flags time digits end a b c a-is b-is c-is = rw (c-is, b-is, a-is) (simp append_assoc)

-- a text whose first parts are written at once
pub goals-is : (old begin hue path squares end a b c : List ℕ) → a ≡ old ++ (begin ++ (hue ++ path)) → b ≡ a ++ squares → c ≡ b ++ end → c ≡ old ++ (begin ++ hue ++ path ++ squares ++ end)
goals-is old begin hue path squares end a b c a-is b-is c-is = rw (c-is, b-is, a-is) (simp append_assoc)

-- the parts of a disc
pub disc-is : (old disc hue number digits end a : List ℕ) → a ≡ old ++ (disc ++ (hue ++ (number ++ (digits ++ end)))) → a ≡ old ++ (disc ++ hue ++ number ++ digits ++ end)
disc-is old disc hue number digits end a a-is = rw a-is (simp append_assoc)

-- what stands under the robots
pub floor-is : (old head begin walls end a b c d : List ℕ) → a ≡ old ++ head → b ≡ a ++ begin → c ≡ b ++ walls → d ≡ c ++ end → d ≡ old ++ (head ++ (begin ++ walls ++ end))
floor-is old head begin walls end a b c d a-is b-is c-is d-is = rw (d-is, c-is, b-is, a-is) (simp append_assoc)

-- a whole picture
pub picture-is : (none floor goals shapes bar end a g b c d : List ℕ) → none ≡ [] → a ≡ none ++ floor → g ≡ a ++ goals → b ≡ g ++ shapes → c ≡ b ++ bar → d ≡ c ++ end
    → d ≡ floor ++ goals ++ shapes ++ bar ++ end
picture-is none floor goals shapes bar end a g b c d none-is a-is g-is b-is c-is d-is = rw (d-is, c-is, b-is, g-is, a-is, none-is) refl
