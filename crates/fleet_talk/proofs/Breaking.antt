-- Acts up to a fault.
use Rattle.std.proofs.Common.{◌≡◌, ◌∙◌, ℕ, zero, suc, ◌+◌, ◌-◌, ◌≤◌, ◌<◌, Bool, List, [], ◌∷◌, ◌++◌, Option, refl, sym, ap, subst, arith, append_assoc, append-nil}
use Rattle.std.specs.Prelude.{replicate}
use Rattle.fleet_talk.specs.declared.fault.TalkFault.{TalkFault}
use Rattle.fleet_talk.specs.Act.{Act}
use Rattle.fleet_talk.specs.Acts.{Does, Talks}
use Rattle.fleet_talk.specs.Broken.{IsMidway, SaysUntil}
use Rattle.fleet_talk.specs.Fleet.{Fleet}
use Rattle.fleet_talk.specs.Says.{Says}
use Rattle.fleet_talk.specs.Talked.{TalksUntil}
use Rattle.fleet_talk.proofs.Saying.{says-added, midway, until-then, until-written}
use Rattle.fleet_talk.proofs.Talking.{talks-append, talks-more}

pub replicate-split : {X : Type 0} (x : X) (k n : ℕ) → k ≤ n → replicate n x ≡ replicate k x ++ replicate (n - k) x
replicate-split x zero n h = ap (λ (i : ℕ). replicate i x) (whole n)
  where
    whole : (n : ℕ) → n ≡ n - 0
    whole n = omega arith
replicate-split x (suc k) zero h = absurd (omega (arith, h))
replicate-split x (suc k) (suc n) h =
    let less : k ≤ n = omega (arith, h) in
    let same : n - k ≡ suc n - suc k = omega arith in
    ap (λ l. x ∷ l) (replicate-split x k n less ∙ ap (λ (i : ℕ). replicate k x ++ replicate i x) same)

module _ {A : Type 0} (fault : TalkFault) (roll : Option ℕ) where
  -- none of these acts was done
  pub until-none : (s : Fleet A) (acts : List Act) (known : Option (List ℕ)) (waited waits : List ℕ) → IsMidway fault → waits ≡ waited → TalksUntil fault roll s acts known known waited waits
  until-none s acts known waited waits is same = record {
    done = [];
    left = acts;
    parts = refl;
    text = [];
    last = s;
    talks = (refl, refl);
    says = midway fault known known waited waits [] is (says-added known waited waits [] (same ∙ sym (append-nil waited)));
  }

  -- some acts were done before
  pub until-after : (s m : Fleet A) (xs ys : List Act) (a b c : Option (List ℕ)) (o p q text : List ℕ) → Talks roll s xs text m → Says a b o p text → TalksUntil fault roll m ys b c p q → TalksUntil fault roll s (xs ++ ys) a c o q
  until-after s m xs ys a b c o p q text talks says u = record {
    done = xs ++ u.done;
    left = u.left;
    parts = ap (λ l. xs ++ l) u.parts ∙ sym (append_assoc xs u.done u.left);
    text = text ++ u.text;
    last = u.last;
    talks = talks-append roll s m u.last xs u.done text u.text talks u.talks;
    says = until-then fault a b c o p q text u.text says u.says;
  }

  -- others were to be done after
  pub until-more : (s : Fleet A) (xs ys : List Act) (a b : Option (List ℕ)) (o p : List ℕ) → TalksUntil fault roll s xs a b o p → TalksUntil fault roll s (xs ++ ys) a b o p
  until-more s xs ys a b o p u = record {
    done = u.done;
    left = u.left ++ ys;
    parts = ap (λ l. l ++ ys) u.parts ∙ append_assoc u.done u.left ys;
    text = u.text;
    last = u.last;
    talks = u.talks;
    says = u.says;
  }

  -- acts were done, and what was said of them was not all written
  pub until-unwritten : (s m : Fleet A) (xs ys : List Act) (a c : Option (List ℕ)) (o q text : List ℕ) → Talks roll s xs text m → SaysUntil fault a c o q text → TalksUntil fault roll s (xs ++ ys) a c o q
  until-unwritten s m xs ys a c o q text talks says = record { done = xs; left = ys; parts = refl; text = text; last = m; talks = talks; says = says }

  -- an act failed that was done this many times before
  pub until-times : (s m : Fleet A) (act : Act) (k n : ℕ) (a b : Option (List ℕ)) (o p q text : List ℕ) → k < n → Talks roll s (replicate k act) text m → Says a b o p text → IsMidway fault → q ≡ p
      → TalksUntil fault roll s (replicate n act) a b o q
  until-times s m act k n a b o p q text within talks says is same =
      subst (λ (acts : List Act). TalksUntil fault roll s acts a b o q) (sym (replicate-split act k n (omega (arith, within))))
      (until-after s m (replicate k act) (replicate (n - k) act) a b b o p q text talks says (until-none m (replicate (n - k) act) b p q is same))

  -- it was done once more, and the write failed
  pub until-times-written : (s m t : Fleet A) (act : Act) (k n : ℕ) (a b c : Option (List ℕ)) (o p x q text more : List ℕ) → k < n → Talks roll s (replicate k act) text m → Says a b o p text → Does roll m act more t → x ≡ p ++ more
      → SaysUntil fault b c x q [] → TalksUntil fault roll s (replicate n act) a c o q
  until-times-written s m t act k n a b c o p x q text more within talks says does added broken =
      subst (λ (acts : List Act). TalksUntil fault roll s acts a c o q) (sym (replicate-split act (k + 1) n (omega (arith, within))))
      (until-unwritten s t (replicate (k + 1) act) (replicate (n - (k + 1)) act) a c o q (text ++ more) (talks-more roll s m t act k text more talks does)
      (until-then fault a b c o p q text more says (until-written fault b c p x q more added broken)))
