-- Texts that are written piece by piece.
use Rattle.std.proofs.Common.{◌≡◌, List, ℕ, ◌++◌, append_assoc, ap, subst}
use Rattle.std.specs.Prelude.{Result, Ok, Err, Some, OnOk, codes, is_ok, if◌then◌else◌}
use Rattle.std.proofs.lemmas.Bool.{ne_eqb}
use Rattle.fleet_survey.specs.Texts.{line, roomy_for_line, served_line}

pub two-is : (old p1 p2 t1 t2 : List ℕ) → t1 ≡ old ++ p1 → t2 ≡ t1 ++ p2 → t2 ≡ old ++ (p1 ++ p2)
two-is old p1 p2 t1 t2 e1 e2 = rw (e2, e1) (simp append_assoc)

pub three-is : (old p1 p2 p3 t1 t2 t3 : List ℕ) → t1 ≡ old ++ p1 → t2 ≡ t1 ++ p2 → t3 ≡ t2 ++ p3 → t3 ≡ old ++ (p1 ++ (p2 ++ p3))
three-is old p1 p2 p3 t1 t2 t3 e1 e2 e3 = rw (e3, e2, e1) (simp append_assoc)

pub four-is : (old p1 p2 p3 p4 t1 t2 t3 t4 : List ℕ) → t1 ≡ old ++ p1 → t2 ≡ t1 ++ p2 → t3 ≡ t2 ++ p3 → t4 ≡ t3 ++ p4 → t4 ≡ old ++ (p1 ++ (p2 ++ (p3 ++ p4)))
four-is old p1 p2 p3 p4 t1 t2 t3 t4 e1 e2 e3 e4 = rw (e4, e3, e2, e1) (simp append_assoc)

pub five-is : (old p1 p2 p3 p4 p5 t1 t2 t3 t4 t5 : List ℕ) → t1 ≡ old ++ p1 → t2 ≡ t1 ++ p2 → t3 ≡ t2 ++ p3 → t4 ≡ t3 ++ p4 → t5 ≡ t4 ++ p5 → t5 ≡ old ++ (p1 ++ (p2 ++ (p3 ++ (p4 ++ p5))))
five-is old p1 p2 p3 p4 p5 t1 t2 t3 t4 t5 e1 e2 e3 e4 e5 = rw (e5, e4, e3, e2, e1) (simp append_assoc)

pub six-is : (old p1 p2 p3 p4 p5 p6 t1 t2 t3 t4 t5 t6 : List ℕ) → t1 ≡ old ++ p1 → t2 ≡ t1 ++ p2 → t3 ≡ t2 ++ p3 → t4 ≡ t3 ++ p4 → t5 ≡ t4 ++ p5 → t6 ≡ t5 ++ p6 → t6 ≡ old ++ (p1 ++ (p2 ++ (p3 ++ (p4 ++ (p5 ++ p6)))))
six-is old p1 p2 p3 p4 p5 p6 t1 t2 t3 t4 t5 t6 e1 e2 e3 e4 e5 e6 = rw (e6, e5, e4, e3, e2, e1) (simp append_assoc)

pub seven-is : (old p1 p2 p3 p4 p5 p6 p7 t1 t2 t3 t4 t5 t6 t7 : List ℕ) → t1 ≡ old ++ p1 → t2 ≡ t1 ++ p2 → t3 ≡ t2 ++ p3 → t4 ≡ t3 ++ p4 → t5 ≡ t4 ++ p5 → t6 ≡ t5 ++ p6 → t7 ≡ t6 ++ p7 → t7 ≡ old ++ (p1 ++ (p2 ++ (p3 ++ (p4 ++ (p5 ++ (p6 ++ p7))))))
seven-is old p1 p2 p3 p4 p5 p6 p7 t1 t2 t3 t4 t5 t6 t7 e1 e2 e3 e4 e5 e6 e7 = rw (e7, e6, e5, e4, e3, e2, e1) (simp append_assoc)

-- a piece that stands twice
pub twice-is : (old new a b e w w2 : List ℕ) → w ≡ w2 → new ≡ old ++ (a ++ (w ++ (b ++ (w ++ e)))) → new ≡ old ++ (a ++ (w2 ++ (b ++ (w2 ++ e))))
twice-is old new a b e w w2 same is = subst (λ (x : List ℕ). new ≡ old ++ (a ++ (x ++ (b ++ (x ++ e))))) same is

-- a number that does not stand for every number
pub fewer-than-all : (n k : ℕ) → (n ≡ 4294967295 → ⊥) → k ≡ n → line (codes "cells_roomy_for ") k ≡ roomy_for_line n
fewer-than-all n k other same = rw (ne_eqb n 4294967295 other) (ap (line (codes "cells_roomy_for ")) same)

pub served-fewer : (n k : ℕ) → (n ≡ 4294967295 → ⊥) → k ≡ n → line (codes "served_for ") k ≡ served_line (Some n)
served-fewer n k other same = rw (ne_eqb n 4294967295 other) (ap (line (codes "served_for ")) same)

-- after a last piece
pub pushed : {T E : Type 0} (r : Result T E) (new all old : List ℕ) (G : Type 0) → new ≡ (if is_ok r then all else old) → (new ≡ all → G) → OnOk r G
pushed (Ok x) new all old G e so = so e
pushed (Err x) new all old G e so = tt
