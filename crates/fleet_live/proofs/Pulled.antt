-- Bytes that came from a reader, one piece after another.
use Rattle.std.proofs.Common.{◌≡◌, ◌∙◌, ℕ, List, [], ◌++◌, sym, ap, append_assoc, append-nil}
use Rattle.rtrb.specs.Ring.{received}
use Rattle.fleet_live.specs.declared.lines_in.LinesIn.{LinesIn}
use Rattle.fleet_live.specs.Taken.{TakesBytes}

pub takes-none : (a : LinesIn) → TakesBytes a a []
takes-none a = record {
  more = [];
  came = sym (append-nil (received a.ring));
  left = append-nil a.bytes.items;
}

-- with nothing that changes between them
pub takes-same : (a b c : LinesIn) (gone : List ℕ) → c.ring ≡ b.ring → c.bytes ≡ b.bytes → TakesBytes a b gone → TakesBytes a c gone
takes-same a b c gone ring bytes one = record {
  more = one.more;
  came = ap received ring ∙ one.came;
  left = one.left ∙ ap (λ v. gone ++ v.items) (sym bytes);
}

pub takes-more : (a b c d : LinesIn) → c.ring ≡ b.ring → c.bytes ≡ b.bytes → TakesBytes a b [] → TakesBytes c d [] → TakesBytes a d []
takes-more a b c d ring bytes one two = record {
  more = one.more ++ two.more;
  came = two.came ∙ (ap (λ (l : List ℕ). l ++ two.more) (ap received ring ∙ one.came) ∙ append_assoc (received a.ring) one.more two.more);
  left = sym (append_assoc a.bytes.items one.more two.more) ∙ (ap (λ (l : List ℕ). l ++ two.more) one.left ∙ (ap (λ v. v.items ++ two.more) (sym bytes) ∙ two.left));
}
