-- The lines of a plan's head, read one by one.
use Rattle.std.proofs.Common.{◌≡◌, ◌≢◌, ℕ, ◌+◌, ◌*◌, ◌<◌, ◌≤◌, ◌^◌, Bool, true, false, not, leb, ◌==◌, List, [], ◌∷◌, ◌++◌, length, get_or, All, Option, Some, None, Ok, codes, decimal, bytes_eq, option_map, refl, sym, ap, ◌∙◌, subst, arith, true≢false}
use Rattle.std.specs.List.{list_all}
use Rattle.std.proofs.lemmas.Bool.{eq-eqb, leb-true}
use Rattle.std.proofs.lemmas.List.{append_assoc}
use Rattle.std.proofs.lemmas.List.Elements.{All-append, All-weaker}
use Rattle.std.proofs.lemmas.List.Sums.{AllPass-from_list_all}
use Rattle.fleet_map.specs.Text.{lines_of}
use Rattle.fleet_plans.specs.Cells.{parts_of, listed_in}
use Rattle.fleet_plans.specs.Head.{Head, blank_head, if_new, with_value, with_line, head_of}
use Rattle.fleet_convert.specs.Cells.{cells_text}
use Rattle.fleet_convert.proofs.Bytes.{IsLow, IsDigit, decimal_digits, line_more, splits}
use Rattle.fleet_convert.proofs.CellTexts.{listed_read, cells_low}

-- ---- constant texts

apart : (x byte : ℕ) → not (x == byte) ≡ true → x ≢ byte
apart x byte h e = absurd (true≢false (sym h ∙ ap not (eq-eqb x byte e)))

-- a text without this byte
pub free_of : (byte : ℕ) (key : List ℕ) → list_all (λ b. not (b == byte)) key ≡ true → All (λ b. b ≢ byte) key
free_of byte key pass = λ k d less. apart (get_or key k d) byte (AllPass-from_list_all (λ b. not (b == byte)) key pass k d less)

-- a text of bytes from 14 on: it ends no line
pub plain_of : (key : List ℕ) → list_all (λ b. leb 14 b) key ≡ true → All (λ b. 14 ≤ b) key
plain_of key pass = λ k d less. leb-true 14 (get_or key k d) (AllPass-from_list_all (λ b. leb 14 b) key pass k d less)

pub plain_low : (text : List ℕ) → All IsLow text → All (λ b. 14 ≤ b) text
plain_low text low = All-weaker IsLow (λ b. 14 ≤ b) (λ b l. omega (arith, l.0)) text low

pub plain_digits : (n : ℕ) → n < 2 ^ 64 → All (λ b. 14 ≤ b) (decimal n)
plain_digits n small = All-weaker IsDigit (λ b. 14 ≤ b) (λ b d. omega (arith, d.0)) (decimal n) (decimal_digits n small)

-- ---- lines

-- a line that is written with its line feed
pub line_front : (line rest : List ℕ) → All (λ b. 14 ≤ b) line → lines_of ((line ++ 10 ∷ []) ++ rest) ≡ line ∷ lines_of rest
line_front line rest plain = ap lines_of (append_assoc line (10 ∷ []) rest) ∙ line_more line rest plain

pub head_more : (w h : ℕ) (head more : Head) (number : ℕ) (line : List ℕ) (lines : List (List ℕ)) → bytes_eq line (codes "solution=") ≡ false → with_line w h head line ≡ Some more
    → head_of w h head number (line ∷ lines) ≡ head_of w h more (number + 1) lines
unfolding head_of
head_more w h head more number line lines other takes = rw (other, takes) refl

pub head_end : (w h : ℕ) (head : Head) (number : ℕ) (lines : List (List ℕ)) → head_of w h head number (codes "solution=" ∷ lines) ≡ Ok (record { head = head; number = number + 1; lines = lines })
unfolding head_of
head_end w h head number lines = refl

-- a line KEY=TEXT
pub keyed : (w h : ℕ) (head more : Head) (key text : List ℕ) → 0 < length key → All (λ b. b ≢ 61) key → with_value w h head key text ≡ Some more → with_line w h head (key ++ 61 ∷ text) ≡ Some more
keyed w h head more [] text some free takes = absurd (omega arith)
keyed w h head more (b ∷ bs) text some free takes = rw (splits 61 (b ∷ bs) text free) takes

module _ (w h : ℕ) (slim : w ≤ 1024) (low : h ≤ 1024) where
  -- the number of robots says nothing
  pub agents_line : (head : Head) (text : List ℕ) → with_line w h head (codes "agents=" ++ text) ≡ Some head
  agents_line head text = keyed w h head head (codes "agents") text (omega arith) (free_of 61 (codes "agents") refl) refl

  pub starts_line : (head : Head) (cells : List ℕ) → head.starts ≡ None → All (λ c. c < h * w) cells → with_line w h head (codes "starts=" ++ cells_text w cells) ≡ Some (record head { starts = Some cells })
  starts_line head cells new inside =
      let takes : with_value w h head (codes "starts") (cells_text w cells) ≡ Some (record head { starts = Some cells }) = rw (new, listed_read w h cells slim low inside) refl in
      keyed w h head (record head { starts = Some cells }) (codes "starts") (cells_text w cells) (omega arith) (free_of 61 (codes "starts") refl) takes

  pub goals_line : (head : Head) (cells : List ℕ) → head.goals ≡ None → All (λ c. c < h * w) cells → with_line w h head (codes "goals=" ++ cells_text w cells) ≡ Some (record head { goals = Some cells })
  goals_line head cells new inside =
      let takes : with_value w h head (codes "goals") (cells_text w cells) ≡ Some (record head { goals = Some cells }) = rw (new, listed_read w h cells slim low inside) refl in
      keyed w h head (record head { goals = Some cells }) (codes "goals") (cells_text w cells) (omega arith) (free_of 61 (codes "goals") refl) takes

  pub form_line : (head : Head) → head.is_moves ≡ None → with_line w h head (codes "form=moves") ≡ Some (record head { is_moves = Some true })
  form_line head new =
      let takes : with_value w h head (codes "form") (codes "moves") ≡ Some (record head { is_moves = Some true }) = rw new refl in
      keyed w h head (record head { is_moves = Some true }) (codes "form") (codes "moves") (omega arith) (free_of 61 (codes "form") refl) takes

  -- a key before cells
  pub keyed_plain : (key cells : List ℕ) → list_all (λ b. leb 14 b) key ≡ true → All (λ c. c < h * w) cells → All (λ b. 14 ≤ b) (key ++ cells_text w cells)
  keyed_plain key cells pass inside = All-append (λ b. 14 ≤ b) key (cells_text w cells) (plain_of key pass) (plain_low (cells_text w cells) (cells_low w h cells slim low inside))
