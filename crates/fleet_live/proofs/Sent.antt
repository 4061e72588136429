-- What a ring was sent of a text, and what is left of it.
use Rattle.std.proofs.Common.{◌≡◌, ◌∙◌, ◌≤◌, ◌+◌, ◌-◌, ℕ, List, [], ◌++◌, length, drop, take, refl, sym, ap, arith, append_assoc, append-nil}
use Rattle.std.proofs.lemmas.List.{drop-drop, drop_all, drop_at, length-append, length-drop, take_all}
use Rattle.fleet_live.specs.Loop.{told_in_all}

-- a suffix as a slice has it
pub suffix : (n : ℕ) (xs : List ℕ) → take (length xs - n) (drop n xs) ≡ drop n xs
suffix n xs = take_all (length xs - n) (drop n xs) (omega (arith, length-drop n xs))

-- what comes after the first part
rest_of : (n : ℕ) (xs sent left : List ℕ) → sent ++ left ≡ drop n xs → drop (n + length sent) xs ≡ left
rest_of n xs sent left parts = sym (drop-drop (length sent) n xs) ∙ (ap (λ (l : List ℕ). drop (length sent) l) (sym parts) ∙ drop_at sent left (length sent) refl)

pub sends_rest : (past more over sent left : List ℕ) (n : ℕ) → more ≡ past ++ sent → sent ++ left ≡ take (length over - n) (drop n over) → more ++ drop (n + length sent) over ≡ past ++ drop n over
sends_rest past more over sent left n is parts =
    let cut = parts ∙ suffix n over in
    ap (λ (l : List ℕ). more ++ l) (rest_of n over sent left cut) ∙ (ap (λ (l : List ℕ). l ++ left) is ∙ (append_assoc past sent left ∙ ap (λ (l : List ℕ). past ++ l) cut))

drop_none : (n : ℕ) (xs : List ℕ) → xs ≡ [] → drop n xs ≡ []
drop_none n xs none = drop_all n xs (omega (arith, ap length none))

pub sends : (past more over text sent left : List ℕ) (ahead over_ahead : ℕ) → over ≡ [] → more ≡ past ++ sent → sent ++ left ≡ take (length text - ahead) (drop ahead text)
    → told_in_all (more ++ drop over_ahead over) (ahead + length sent) text ≡ told_in_all (past ++ drop over_ahead over) ahead text
sends past more over text sent left ahead over_ahead none is parts =
    let gone : (l : List ℕ) → l ++ drop over_ahead over ≡ l = λ l. ap (λ (r : List ℕ). l ++ r) (drop_none over_ahead over none) ∙ append-nil l in
    ap (λ (l : List ℕ). l ++ drop (ahead + length sent) text) (gone more) ∙ (sends_rest past more text sent left ahead is parts ∙ ap (λ (l : List ℕ). l ++ drop ahead text) (sym (gone past)))

pub sends_within : (text sent left : List ℕ) (ahead : ℕ) → ahead ≤ length text → sent ++ left ≡ take (length text - ahead) (drop ahead text) → ahead + length sent ≤ length text
sends_within text sent left ahead within parts = omega (arith, ap length (parts ∙ suffix ahead text), length-append sent left, length-drop ahead text)
