-- What is said, text after text, and what a writer has of it.
use Rattle.std.proofs.Common.{◌≡◌, ◌∙◌, ℕ, ◌+◌, List, [], ◌++◌, length, take, Option, sym, ap, subst, arith, append_assoc, append-nil, length-append}
use Rattle.std.specs.Prelude.{Result, Ok, Err, IfErr}
use Rattle.std.specs.Result.{IsErrAnd}
use Rattle.std.specs.Io.KnownBytes.{Appends}
use Rattle.std.proofs.KnownBytes.{Appends-nil, Appends-trans}
use Rattle.std.proofs.Math.Seq.{take-append-add}
use Rattle.fleet_text.specs.Transfer.{AppendsPrefix}
use Rattle.fleet_talk.specs.declared.fault.TalkFault.{TalkFault}
use Rattle.fleet_talk.specs.declared.fault.TalkFault.TheVariants.{Input, Output, Sink, Opening, NoRooms, NoMemory}
use Rattle.fleet_talk.specs.Broken.{IsMidway, SaysUntil}
use Rattle.fleet_talk.specs.Says.{Says}

pub says-none : (known : Option (List ℕ)) (waits : List ℕ) → Says known known waits waits []
says-none known waits = record { written = []; taken = Appends-nil known; same = sym (append-nil waits) }

-- a text that waits
pub says-added : (known : Option (List ℕ)) (waited waits text : List ℕ) → waits ≡ waited ++ text → Says known known waited waits text
says-added known waited waits text is = record { written = []; taken = Appends-nil known; same = is }

pub says-then : (a b c : Option (List ℕ)) (o p q first rest : List ℕ) → Says a b o p first → Says b c p q rest → Says a c o q (first ++ rest)
says-then a b c o p q first rest x y = record {
  written = x.written ++ y.written;
  taken = Appends-trans a b c x.written y.written x.taken y.taken;
  same = append_assoc x.written y.written q ∙ (ap (λ l. x.written ++ l) y.same ∙ (sym (append_assoc x.written p rest) ∙ (ap (λ l. l ++ rest) x.same ∙ append_assoc o first rest)));
}

-- a text that was added, and then written
pub says-written : (a b : Option (List ℕ)) (o p q text : List ℕ) → p ≡ o ++ text → Says a b p q [] → Says a b o q text
says-written a b o p q text is w = record { written = w.written; taken = w.taken; same = w.same ∙ (append-nil p ∙ is) }

-- ---- up to a fault

-- what holds of a fault holds of the result that has it
pub at-fault : {X E : Type 0} (r : Result X E) (e : E) (P : E → Type 0) → IsErrAnd r (λ f. f ≡ e) → P e → IfErr r P
at-fault (Ok x) e P is p = tt
at-fault (Err f) e P is p = subst P (sym is) p

-- a fault after which all waits that was said
pub midway : (fault : TalkFault) (a b : Option (List ℕ)) (o p text : List ℕ) → IsMidway fault → Says a b o p text → SaysUntil fault a b o p text
midway Input a b o p text is says = says
midway Sink a b o p text is says = says
midway NoMemory a b o p text is says = says
midway Output a b o p text is says = absurd is
midway (Opening why) a b o p text is says = absurd is
midway NoRooms a b o p text is says = absurd is

-- a whole text, and then a prefix of another
pub prefix-after : (a b c : Option (List ℕ)) (first text : List ℕ) → Appends a b first → AppendsPrefix b c text → AppendsPrefix a c (first ++ text)
prefix-after a b c first text whole (n, within, taken) =
    let same : take (length first + n) (first ++ text) ≡ first ++ take n text = take-append-add first text n in
    (length first + n, omega (arith, within, length-append first text), subst (λ (l : List ℕ). Appends a c l) (sym same) (Appends-trans a b c first (take n text) whole taken))

-- a text, and then one up to a fault
pub until-then : (fault : TalkFault) (a b c : Option (List ℕ)) (o p q first rest : List ℕ) → Says a b o p first → SaysUntil fault b c p q rest → SaysUntil fault a c o q (first ++ rest)
until-then Input a b c o p q first rest x y = says-then a b c o p q first rest x y
until-then Sink a b c o p q first rest x y = says-then a b c o p q first rest x y
until-then NoMemory a b c o p q first rest x y = says-then a b c o p q first rest x y
until-then Output a b c o p q first rest x (prefix, none) =
    let all : x.written ++ (p ++ rest) ≡ o ++ (first ++ rest) = sym (append_assoc x.written p rest) ∙ (ap (λ l. l ++ rest) x.same ∙ append_assoc o first rest) in
    (subst (λ (l : List ℕ). AppendsPrefix a c l) all (prefix-after a b c x.written (p ++ rest) x.taken prefix), none)
until-then (Opening why) a b c o p q first rest x y = absurd y
until-then NoRooms a b c o p q first rest x y = absurd y

-- a text that was added, and the writing of it up to a fault
pub until-written : (fault : TalkFault) (a b : Option (List ℕ)) (o p q text : List ℕ) → p ≡ o ++ text → SaysUntil fault a b p q [] → SaysUntil fault a b o q text
until-written Input a b o p q text is w = says-written a b o p q text is w
until-written Sink a b o p q text is w = says-written a b o p q text is w
until-written NoMemory a b o p q text is w = says-written a b o p q text is w
until-written Output a b o p q text is (prefix, none) = (subst (λ (l : List ℕ). AppendsPrefix a b l) (append-nil p ∙ is) prefix, none)
until-written (Opening why) a b o p q text is w = absurd w
until-written NoRooms a b o p q text is w = absurd w
