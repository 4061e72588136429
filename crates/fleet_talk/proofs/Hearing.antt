-- The lines of a head, one after another.
use Rattle.std.proofs.Common.{◌≡◌, ◌∙◌, ℕ, ◌+◌, Bool, true, false, cond, List, [], ◌∷◌, ◌++◌, Option, Some, None, IfSome, refl, sym, ap, subst, append_assoc, append-nil, unwrap_or}
use Rattle.fleet_script.specs.Script.{Draft}
use Rattle.fleet_talk.specs.declared.ask.Asked.{Asked}
use Rattle.fleet_talk.specs.declared.ask.Asked.TheVariants.{Nothing, Events, Chapter, Look, Open, Quit, Other, Long, NoRoom}
use Rattle.fleet_talk.specs.declared.ends.Settings.{Settings}
use Rattle.fleet_talk.specs.declared.fault.TalkFault.{TalkFault}
use Rattle.fleet_talk.specs.declared.fault.TalkFault.TheVariants.{NoMemory}
use Rattle.fleet_talk.specs.declared.heading.After.TheVariants as comes
use Rattle.fleet_talk.specs.declared.pen.Pen.{Pen}
use Rattle.fleet_talk.specs.Act.{is_quit}
use Rattle.fleet_talk.specs.Ask.{Line, line_in}
use Rattle.fleet_talk.specs.Broken.{IsMidway, SaysUntil}
use Rattle.fleet_talk.specs.Heard.{Head, no_head, all_of, head_of, heard_lines, opens, with_head_line, with_said, unless_opened, IsNext}
use Rattle.fleet_talk.specs.Heading.{Follows, Hears, HearsAll, HearsUntil, IsOfHead, IsPartly, texts_at}
use Rattle.fleet_talk.specs.Says.{Says}
use Rattle.fleet_talk.proofs.Saying.{says-none, says-added, says-then, says-written, midway, until-then, until-written}

all-append : (xs ys : List (List ℕ)) → all_of (xs ++ ys) ≡ all_of xs ++ all_of ys
all-append [] ys = refl
all-append (x ∷ xs) ys = ap (λ l. x ++ l) (all-append xs ys) ∙ sym (append_assoc x (all_of xs) (all_of ys))

pub said-append : (xs ys : List (List ℕ)) (h : Head) → with_said xs (with_said ys h) ≡ with_said (xs ++ ys) h
said-append xs ys h = ap (λ (l : List (List ℕ)). record { said = l; opening = h.opening }) (sym (append_assoc xs ys h.said))

opens-starts : (d : Draft) (asked : Asked) (starts : List ℕ) → opens d asked ≡ Some starts → d.starts ≡ Some starts
opens-starts d (Events more) starts is = is
opens-starts d Chapter starts is = is
opens-starts d Look starts is = is
opens-starts d (Open client) starts is = is
opens-starts d Nothing starts is = absurd cc
opens-starts d Quit starts is = absurd cc
opens-starts d Other starts is = absurd cc
opens-starts d Long starts is = absurd cc
opens-starts d (NoRoom client) starts is = absurd cc

module _ (settings : Settings) where
  -- what comes of a line
  abbrev pub step_of : Draft → ℕ → List ℕ → List (List ℕ) → Line → Head
  step_of d n bytes lines l =
      cond (is_quit l.asked) no_head
      (unless_opened (opens d l.asked) (λ starts. record { starts = starts; head = d; number = n; lines = bytes ∷ lines })
      (with_said (texts_at settings d l) (head_of settings (unwrap_or (with_head_line d l l.asked) d) (n + 1) lines)))

  pub head-more : (d e : Draft) (n : ℕ) (bytes : List ℕ) (lines : List (List ℕ)) (l : Line) → l ≡ line_in n bytes → IsOfHead d l → e ≡ unwrap_or (with_head_line d l l.asked) d
      → head_of settings d n (bytes ∷ lines) ≡ with_said (texts_at settings d l) (head_of settings e (n + 1) lines)
  head-more d e n bytes lines l line of same = ap (step_of d n bytes lines) (sym line) ∙ rw (of.goes, of.unopened, same) refl

  pub head-opens : (d : Draft) (n : ℕ) (bytes : List ℕ) (lines : List (List ℕ)) (l : Line) (starts : List ℕ) → l ≡ line_in n bytes → is_quit l.asked ≡ false → opens d l.asked ≡ Some starts
      → head_of settings d n (bytes ∷ lines) ≡ record { said = []; opening = Some (record { starts = starts; head = d; number = n; lines = bytes ∷ lines }) }
  head-opens d n bytes lines l starts line goes opened = ap (step_of d n bytes lines) (sym line) ∙ rw (goes, opened) refl

  pub head-over : (d : Draft) (n : ℕ) (bytes : List ℕ) (lines : List (List ℕ)) (l : Line) → l ≡ line_in n bytes → is_quit l.asked ≡ true → head_of settings d n (bytes ∷ lines) ≡ no_head
  head-over d n bytes lines l line quit = ap (step_of d n bytes lines) (sym line) ∙ rw quit refl

  -- nothing was heard yet
  pub hears-none : (d : Draft) (known before : Option (List ℕ)) (waited : List ℕ) → IfSome known (λ xs. Hears settings d xs known d 1 before before waited waited)
  hears-none d None before waited = tt
  hears-none d (Some xs) before waited = record { rest = xs; at = refl; said = []; same = refl; says = says-none before waited }

  -- the head of a line that was read
  record Reads (d : Draft) (xs : List ℕ) (left : Option (List ℕ)) (e : Draft) (n : ℕ) (line : List ℕ) (before after : Option (List ℕ)) (waited waits : List ℕ) : Type 0 where
    rest : List ℕ
    at : left ≡ Some rest
    said : List (List ℕ)
    same : head_of settings d 1 (heard_lines xs) ≡ with_said said (head_of settings e n (line ∷ heard_lines rest))
    says : Says before after waited waits (all_of said)

  some_is : (a b : List ℕ) (P : List ℕ → Type 0) (known : Option (List ℕ)) → known ≡ Some a → IfSome known P → P a
  some_is a b P known is h = subst (λ (o : Option (List ℕ)). IfSome o P) is h

  reads : (d e : Draft) (xs : List ℕ) (left left2 : Option (List ℕ)) (n : ℕ) (line : List ℕ) (before after : Option (List ℕ)) (waited waits : List ℕ)
      → Hears settings d xs left e n before after waited waits → IfSome left (λ ys. IsNext ys left2 true line) → Reads d xs left2 e n line before after waited waits
  reads d e xs left left2 n line before after waited waits h next =
      let (rest, at, is) = some_is h.rest [] (λ ys. IsNext ys left2 true line) left h.at next in
      record { rest = rest; at = at; said = h.said; same = h.same ∙ ap (λ (l : List (List ℕ)). with_said h.said (head_of settings e n l)) is; says = h.says }

  -- no line was left
  pub hears-end : (d e f : Draft) (known left left2 : Option (List ℕ)) (n : ℕ) (found : Bool) (line : List ℕ) (before after : Option (List ℕ)) (waited waits : List ℕ)
      → IfSome known (λ xs. Hears settings d xs left e n before after waited waits) → IfSome left (λ ys. IsNext ys left2 found line) → found ≡ false
      → IfSome known (λ xs. HearsAll settings d xs left2 f line None before after waited waits)
  hears-end d e f None left left2 n found line before after waited waits h next none = tt
  hears-end d e f (Some xs) left left2 n found line before after waited waits h next none =
      let (rest, at, is) = some_is h.rest [] (λ ys. IsNext ys left2 false line) left h.at (subst (λ b. IfSome left (λ ys. IsNext ys left2 b line)) none next) in (
        h.said,
        h.same ∙ (ap (λ (l : List (List ℕ)). with_said h.said (head_of settings e n l)) is ∙ ap (λ (l : List (List ℕ)). record { said = l; opening = None }) (append-nil h.said)),
        h.says,
      )

  -- a read failed, or lines ran out of numbers
  pub hears-fault : (d e : Draft) (known left : Option (List ℕ)) (n : ℕ) (fault : TalkFault) (before after : Option (List ℕ)) (waited waits : List ℕ)
      → IfSome known (λ xs. Hears settings d xs left e n before after waited waits) → IsMidway fault → IfSome known (λ xs. HearsUntil fault settings d xs before after waited waits)
  hears-fault d e None left n fault before after waited waits h is = tt
  hears-fault d e (Some xs) left n fault before after waited waits h is =
      record { said = h.said; left = _; parts = ap (λ (x : Head). x.said) h.same; says = midway fault before after waited waits (all_of h.said) is h.says }

  module _ (d e f : Draft) (known left left2 : Option (List ℕ)) (n : ℕ) (line : List ℕ) (l : Line) (found : Bool) (before after : Option (List ℕ)) (waited : List ℕ) (old new : Pen)
      (same : old.settings ≡ settings) (h : IfSome known (λ xs. Hears settings d xs left e n before after waited old.out.items)) (next : IfSome left (λ ys. IsNext ys left2 found line)) (is : found ≡ true) (at : l ≡ line_in n line) where
    was_read : IfSome known (λ xs. Reads d xs left2 e n line before after waited old.out.items)
    was_read = by known h
      where
        by : (o : Option (List ℕ)) → IfSome o (λ xs. Hears settings d xs left e n before after waited old.out.items) → IfSome o (λ xs. Reads d xs left2 e n line before after waited old.out.items)
        by None h = tt
        by (Some xs) h = reads d e xs left left2 n line before after waited old.out.items h (subst (λ b. IfSome left (λ ys. IsNext ys left2 b line)) is next)

    -- a line of the head was answered, and that was written where it was due
    pub hears-more : (after2 : Option (List ℕ)) (waits : List ℕ) → Follows e l comes.More f old new → Says after after2 new.out.items waits [] → IfSome known (λ xs. Hears settings d xs left2 f (n + 1) before after2 waited waits)
    hears-more after2 waits (of, is2, added) says = by known was_read
      where
        by : (o : Option (List ℕ)) → IfSome o (λ xs. Reads d xs left2 e n line before after waited old.out.items) → IfSome o (λ xs. Hears settings d xs left2 f (n + 1) before after2 waited waits)
        by None r = tt
        by (Some xs) r =
            let texts = texts_at settings e l in
            let told : new.out.items ≡ old.out.items ++ all_of texts = added.out ∙ ap (λ (st : Settings). old.out.items ++ all_of (texts_at st e l)) same in
            record {
              rest = r.rest;
              at = r.at;
              said = r.said ++ texts;
              same = r.same ∙ (ap (with_said r.said) (head-more e f n line (heard_lines r.rest) l at of is2) ∙ said-append r.said texts (head_of settings f (n + 1) (heard_lines r.rest)));
              says = subst (λ (t : List ℕ). Says before after2 waited waits t) (sym (all-append r.said texts))
                  (says-then before after after2 waited old.out.items waits (all_of r.said) (all_of texts) r.says (says-written after after2 old.out.items new.out.items waits (all_of texts) told says));
            }

    -- the write failed
    pub hears-unwritten : (fault : TalkFault) (after2 : Option (List ℕ)) (waits : List ℕ) → Follows e l comes.More f old new → SaysUntil fault after after2 new.out.items waits []
        → IfSome known (λ xs. HearsUntil fault settings d xs before after2 waited waits)
    hears-unwritten fault after2 waits (of, is2, added) says = by known was_read
      where
        by : (o : Option (List ℕ)) → IfSome o (λ xs. Reads d xs left2 e n line before after waited old.out.items) → IfSome o (λ xs. HearsUntil fault settings d xs before after2 waited waits)
        by None r = tt
        by (Some xs) r =
            let texts = texts_at settings e l in
            let told : new.out.items ≡ old.out.items ++ all_of texts = added.out ∙ ap (λ (st : Settings). old.out.items ++ all_of (texts_at st e l)) same in
            let all = r.same ∙ (ap (with_said r.said) (head-more e f n line (heard_lines r.rest) l at of is2) ∙ said-append r.said texts (head_of settings f (n + 1) (heard_lines r.rest))) in
            record {
              said = r.said ++ texts;
              left = (head_of settings f (n + 1) (heard_lines r.rest)).said;
              parts = ap (λ (x : Head). x.said) all;
              says = subst (λ (t : List ℕ). SaysUntil fault before after2 waited waits t) (sym (all-append r.said texts))
                  (until-then fault before after after2 waited old.out.items waits (all_of r.said) (all_of texts) r.says (until-written fault after after2 old.out.items new.out.items waits (all_of texts) told says));
            }

    -- the line opens the fleet
    pub hears-opens : Follows e l comes.Opens f old new → IfSome known (λ xs. HearsAll settings d xs left2 f line (Some n) before after waited new.out.items)
    hears-opens (goes, starts, opened, is2, kept) = by known was_read
      where
        by : (o : Option (List ℕ)) → IfSome o (λ xs. Reads d xs left2 e n line before after waited old.out.items) → IfSome o (λ xs. HearsAll settings d xs left2 f line (Some n) before after waited new.out.items)
        by None r = tt
        by (Some xs) r = rw (is2, kept.out) (
          r.rest,
          r.at,
          starts,
          opens-starts e l.asked starts opened,
          r.said,
          r.same ∙ (ap (with_said r.said) (head-opens e n line (heard_lines r.rest) l starts at goes opened) ∙ ap (λ (t : List (List ℕ)). record { said = t; opening = Some (record { starts = starts; head = e; number = n; lines = line ∷ heard_lines r.rest }) }) (append-nil r.said)),
          r.says,
        )

    -- the line ends the conversation
    pub hears-over : Follows e l comes.Over f old new → IfSome known (λ xs. HearsAll settings d xs left2 f line None before after waited new.out.items)
    hears-over (quit, kept) = by known was_read
      where
        by : (o : Option (List ℕ)) → IfSome o (λ xs. Reads d xs left2 e n line before after waited old.out.items) → IfSome o (λ xs. HearsAll settings d xs left2 f line None before after waited new.out.items)
        by None r = tt
        by (Some xs) r = rw kept.out (
          r.said,
          r.same ∙ (ap (with_said r.said) (head-over e n line (heard_lines r.rest) l at quit) ∙ ap (λ (t : List (List ℕ)). record { said = t; opening = None }) (append-nil r.said)),
          r.says,
        )

    -- memory ran out
    pub hears-partly : (fault : TalkFault) → IsOfHead e l → IsPartly old new (texts_at old.settings e l) → fault ≡ NoMemory → IfSome known (λ xs. HearsUntil fault settings d xs before after waited new.out.items)
    hears-partly fault of part named = by known was_read
      where
        by : (o : Option (List ℕ)) → IfSome o (λ xs. Reads d xs left2 e n line before after waited old.out.items) → IfSome o (λ xs. HearsUntil fault settings d xs before after waited new.out.items)
        by None r = tt
        by (Some xs) r =
            let more = head_of settings (unwrap_or (with_head_line e l l.asked) e) (n + 1) (heard_lines r.rest) in
            let texts : texts_at settings e l ≡ part.said ++ part.left = ap (λ (st : Settings). texts_at st e l) (sym same) ∙ part.parts in
            let all = r.same ∙ ap (with_said r.said) (head-more e _ n line (heard_lines r.rest) l at of refl ∙ ap (λ (t : List (List ℕ)). with_said t more) texts) in
            rw named (record {
              said = r.said ++ part.said;
              left = part.left ++ more.said;
              parts = ap (λ (x : Head). x.said) all ∙ (ap (λ (t : List (List ℕ)). r.said ++ t) (append_assoc part.said part.left more.said) ∙ sym (append_assoc r.said part.said (part.left ++ more.said)));
              says = subst (λ (t : List ℕ). Says before after waited new.out.items t) (sym (all-append r.said part.said))
                  (says-then before after after waited old.out.items new.out.items (all_of r.said) (all_of part.said) r.says (says-added after old.out.items new.out.items (all_of part.said) part.added.out));
            })
