-- What one more line makes of a draft.
use Rattle.std.proofs.Common.{◌≡◌, ℕ, Bool, true, false, cond, ◌||◌, List, ◌∷◌, Option, Some, None, is_some, refl, sym, ap, subst, ◌∙◌, inl, inr, codes, bytes_eq, option_map, true≢false}
use Rattle.std.specs.Option.{option_or}
use Rattle.std.proofs.lemmas.Bool.{cases_Bool}
use Rattle.std.proofs.lemmas.Slice.Eq.{bytes_eq-Decides}
use Rattle.std.proofs.lemmas.Option.{same_Some}
use Rattle.fleet_script.specs.declared.head.GivenLimits.{GivenLimits}
use Rattle.fleet_script.specs.Numbers.{most32, most64, one_in}
use Rattle.fleet_script.specs.Script.{Draft, starts_in, ties_in, turns_in, if_new, blank_draft, with_header}
use Rattle.fleet_script.specs.Grammar.{Line, is_header, says}

-- ---- the thirteen header words

pub record Apart (key : List ℕ) : Type 0 where
  pub robots : bytes_eq key (codes "robots") ≡ false
  pub clients : bytes_eq key (codes "clients") ≡ false
  pub ties : bytes_eq key (codes "ties") ≡ false
  pub turns : bytes_eq key (codes "turns") ≡ false
  pub lane : bytes_eq key (codes "lane") ≡ false
  pub outlet : bytes_eq key (codes "outlet") ≡ false
  pub queue : bytes_eq key (codes "queue") ≡ false
  pub mailbox : bytes_eq key (codes "mailbox") ≡ false
  pub life : bytes_eq key (codes "life") ≡ false
  pub orders : bytes_eq key (codes "orders") ≡ false
  pub clock : bytes_eq key (codes "clock") ≡ false
  pub chapter : bytes_eq key (codes "chapter") ≡ false
  pub chapters : bytes_eq key (codes "chapters") ≡ false

-- the key is this word, or another
pub at_word : (P : List ℕ → Type 0) (key word : List ℕ) → P word → (bytes_eq key word ≡ false → P key) → P key
at_word P key word at apart = elim (cases_Bool (bytes_eq key word)) [
  | inl e ↦ subst P (sym ((bytes_eq-Decides key word).0 e)) at
  | inr e ↦ apart e
]

-- the key is one of the header words, or none of them
pub by_word : (P : List ℕ → Type 0) (key : List ℕ) → P (codes "robots") → P (codes "clients") → P (codes "ties") → P (codes "turns") → P (codes "lane") → P (codes "outlet") → P (codes "queue") → P (codes "mailbox") → P (codes "life") → P (codes "orders")
    → P (codes "clock") → P (codes "chapter") → P (codes "chapters") → (Apart key → P key) → P key
by_word P key robots clients ties turns lane outlet queue mailbox life orders clock chapter chapters none =
    at_word P key (codes "robots") robots (λ a. at_word P key (codes "clients") clients (λ b. at_word P key (codes "ties") ties (λ c. at_word P key (codes "turns") turns (λ m. at_word P key (codes "lane") lane (λ d. at_word P key (codes "outlet") outlet (λ e. at_word P key (codes "queue") queue (λ f.
    at_word P key (codes "mailbox") mailbox (λ g. at_word P key (codes "life") life (λ h. at_word P key (codes "orders") orders (λ i. at_word P key (codes "clock") clock (λ j. at_word P key (codes "chapter") chapter (λ k. at_word P key (codes "chapters") chapters (λ l.
    none (record { robots = a; clients = b; ties = c; turns = m; lane = d; outlet = e; queue = f; mailbox = g; life = h; orders = i; clock = j; chapter = k; chapters = l }))))))))))))))

-- whether a header line with this first word stood
abbrev pub given : Draft → List ℕ → Bool
given d key =
    cond (bytes_eq key (codes "robots")) (is_some d.starts)
    (cond (bytes_eq key (codes "clients")) (is_some d.clients)
    (cond (bytes_eq key (codes "ties")) (is_some d.south)
    (cond (bytes_eq key (codes "turns")) (is_some d.turns)
    (cond (bytes_eq key (codes "lane")) (is_some d.limits.lane)
    (cond (bytes_eq key (codes "outlet")) (is_some d.limits.outlet)
    (cond (bytes_eq key (codes "queue")) (is_some d.limits.queue)
    (cond (bytes_eq key (codes "mailbox")) (is_some d.limits.mailbox)
    (cond (bytes_eq key (codes "life")) (is_some d.limits.life)
    (cond (bytes_eq key (codes "orders")) (is_some d.limits.orders)
    (cond (bytes_eq key (codes "clock")) (is_some d.limits.clock)
    (cond (bytes_eq key (codes "chapter")) (is_some d.limits.chapter)
    (cond (bytes_eq key (codes "chapters")) (is_some d.limits.chapters) false))))))))))))

pub none_given : (key : List ℕ) → given blank_draft key ≡ false
none_given key = by_word (λ k. given blank_draft k ≡ false) key refl refl refl refl refl refl refl refl refl refl refl refl refl
    (λ a. rw (a.robots, a.clients, a.ties, a.turns, a.lane, a.outlet, a.queue, a.mailbox, a.life, a.orders, a.clock, a.chapter, a.chapters) refl)

-- the draft with what a header line says
abbrev pub told : Draft → Line → Draft
told d line = record {
  starts = option_or (says (codes "robots") starts_in line) d.starts;
  clients = option_or (says (codes "clients") (one_in most32) line) d.clients;
  south = option_or (says (codes "ties") ties_in line) d.south;
  turns = option_or (says (codes "turns") turns_in line) d.turns;
  limits = record {
    lane = option_or (says (codes "lane") (one_in most32) line) d.limits.lane;
    outlet = option_or (says (codes "outlet") (one_in most32) line) d.limits.outlet;
    queue = option_or (says (codes "queue") (one_in most32) line) d.limits.queue;
    mailbox = option_or (says (codes "mailbox") (one_in most32) line) d.limits.mailbox;
    life = option_or (says (codes "life") (one_in most64) line) d.limits.life;
    orders = option_or (says (codes "orders") (one_in most64) line) d.limits.orders;
    clock = option_or (says (codes "clock") (one_in most64) line) d.limits.clock;
    chapter = option_or (says (codes "chapter") (one_in most32) line) d.limits.chapter;
    chapters = option_or (says (codes "chapters") (one_in most32) line) d.limits.chapters;
  };
  events = d.events;
  lines = d.lines;
}

-- ---- one header line

pub record Took (d : Draft) (key : List ℕ) (words : List (List ℕ)) (e : Draft) : Type 0 where
  pub form : is_header key words ≡ true
  pub fresh : given d key ≡ false
  pub more : (k : List ℕ) → given e k ≡ (bytes_eq k key || given d k)
  pub value : e ≡ told d (key ∷ words)

-- it is taken exactly where it is in its form, and no other such line stood
pub record Takes (d : Draft) (key : List ℕ) (words : List (List ℕ)) : Type 0 where
  pub took : (e : Draft) → with_header d key words ≡ Some e → Took d key words e
  pub takes : is_header key words ≡ true → given d key ≡ false → (e : Draft) × (with_header d key words ≡ Some e)

abbrev draft : Draft → Option Draft
draft d = Some d

taken : {A : Type 0} (old new : Option A) (f : A → Draft) (e : Draft) → option_map f (if_new old new) ≡ Some e → (is_some old ≡ false) × ((x : A) × (new ≡ Some x) × (f x ≡ e))
taken (Some x) new f e h = absurd cc
taken None None f e h = absurd cc
taken None (Some x) f e h = (refl, (x, refl, same_Some (f x) e h))

takable : {A : Type 0} (old new : Option A) (f : A → Draft) → is_some new ≡ true → is_some old ≡ false → (e : Draft) × (option_map f (if_new old new) ≡ Some e)
takable (Some x) new f h o = absurd (true≢false o)
takable None None f h o = absurd (true≢false (sym h))
takable None (Some x) f h o = (f x, refl)

word_is : {A : Type 0} (d : Draft) (key : List ℕ) (words : List (List ℕ)) (old new : Option A) (f : A → Draft) → with_header d key words ≡ option_map f (if_new old new) → is_header key words ≡ is_some new → given d key ≡ is_some old
    → ((x : A) → new ≡ Some x → f x ≡ told d (key ∷ words)) → ((x : A) (k : List ℕ) → given (f x) k ≡ (bytes_eq k key || given d k)) → Takes d key words
word_is {A} d key words old new f with form stood value more = record {
  took = λ e h.
      let t = taken old new f e (sym with ∙ h) in
      record {
        form = form ∙ ap (λ (o : Option A). is_some o) t.1.1;
        fresh = stood ∙ t.0;
        more = λ k. subst (λ (x : Draft). given x k ≡ (bytes_eq k key || given d k)) t.1.2 (more t.1.0 k);
        value = sym t.1.2 ∙ value t.1.0 t.1.1;
      };
  takes = λ h o. let t = takable old new f (sym form ∙ h) (sym stood ∙ o) in (t.0, with ∙ t.1);
}

limit_more : {A : Type 0} (old new : Option A) (g : A → GivenLimits) (f : GivenLimits → Draft) → option_map f (option_map g (if_new old new)) ≡ option_map (λ x. f (g x)) (if_new old new)
limit_more (Some x) new g f = refl
limit_more None None g f = refl
limit_more None (Some x) g f = refl

limit_is : {A : Type 0} (d : Draft) (key : List ℕ) (words : List (List ℕ)) (old new : Option A) (g : A → GivenLimits) → with_header d key words ≡ option_map (λ l. record d { limits = l }) (option_map g (if_new old new)) → is_header key words ≡ is_some new
    → given d key ≡ is_some old → ((x : A) → new ≡ Some x → record d { limits = g x } ≡ told d (key ∷ words)) → ((x : A) (k : List ℕ) → given (record d { limits = g x }) k ≡ (bytes_eq k key || given d k)) → Takes d key words
limit_is d key words old new g with form stood value more =
    word_is d key words old new (λ x. record d { limits = g x }) (with ∙ limit_more old new g (λ l. record d { limits = l })) form stood value more

pub header_is : (d : Draft) (key : List ℕ) (words : List (List ℕ)) → Takes d key words
header_is d key words = by_word (λ k. Takes d k words) key
    (word_is d (codes "robots") words d.starts (starts_in words) (λ x. record d { starts = Some x }) refl refl refl (λ x e. rw e refl)
    (λ x k. at_word (λ w. given (record d { starts = Some x }) w ≡ (bytes_eq w (codes "robots") || given d w)) k (codes "robots") refl (λ e. rw e refl)))
    (word_is d (codes "clients") words d.clients (one_in most32 words) (λ x. record d { clients = Some x }) refl refl refl (λ x e. rw e refl)
    (λ x k. at_word (λ w. given (record d { clients = Some x }) w ≡ (bytes_eq w (codes "clients") || given d w)) k (codes "clients") refl (λ e. rw e refl)))
    (word_is d (codes "ties") words d.south (ties_in words) (λ x. record d { south = Some x }) refl refl refl (λ x e. rw e refl)
    (λ x k. at_word (λ w. given (record d { south = Some x }) w ≡ (bytes_eq w (codes "ties") || given d w)) k (codes "ties") refl (λ e. rw e refl)))
    (word_is d (codes "turns") words d.turns (turns_in words) (λ x. record d { turns = Some x }) refl refl refl (λ x e. rw e refl)
    (λ x k. at_word (λ w. given (record d { turns = Some x }) w ≡ (bytes_eq w (codes "turns") || given d w)) k (codes "turns") refl (λ e. rw e refl)))
    (limit_is d (codes "lane") words d.limits.lane (one_in most32 words) (λ x. record d.limits { lane = Some x }) refl refl refl (λ x e. rw e refl)
    (λ x k. at_word (λ w. given (record d { limits = record d.limits { lane = Some x } }) w ≡ (bytes_eq w (codes "lane") || given d w)) k (codes "lane") refl (λ e. rw e refl)))
    (limit_is d (codes "outlet") words d.limits.outlet (one_in most32 words) (λ x. record d.limits { outlet = Some x }) refl refl refl (λ x e. rw e refl)
    (λ x k. at_word (λ w. given (record d { limits = record d.limits { outlet = Some x } }) w ≡ (bytes_eq w (codes "outlet") || given d w)) k (codes "outlet") refl (λ e. rw e refl)))
    (limit_is d (codes "queue") words d.limits.queue (one_in most32 words) (λ x. record d.limits { queue = Some x }) refl refl refl (λ x e. rw e refl)
    (λ x k. at_word (λ w. given (record d { limits = record d.limits { queue = Some x } }) w ≡ (bytes_eq w (codes "queue") || given d w)) k (codes "queue") refl (λ e. rw e refl)))
    (limit_is d (codes "mailbox") words d.limits.mailbox (one_in most32 words) (λ x. record d.limits { mailbox = Some x }) refl refl refl (λ x e. rw e refl)
    (λ x k. at_word (λ w. given (record d { limits = record d.limits { mailbox = Some x } }) w ≡ (bytes_eq w (codes "mailbox") || given d w)) k (codes "mailbox") refl (λ e. rw e refl)))
    (limit_is d (codes "life") words d.limits.life (one_in most64 words) (λ x. record d.limits { life = Some x }) refl refl refl (λ x e. rw e refl)
    (λ x k. at_word (λ w. given (record d { limits = record d.limits { life = Some x } }) w ≡ (bytes_eq w (codes "life") || given d w)) k (codes "life") refl (λ e. rw e refl)))
    (limit_is d (codes "orders") words d.limits.orders (one_in most64 words) (λ x. record d.limits { orders = Some x }) refl refl refl (λ x e. rw e refl)
    (λ x k. at_word (λ w. given (record d { limits = record d.limits { orders = Some x } }) w ≡ (bytes_eq w (codes "orders") || given d w)) k (codes "orders") refl (λ e. rw e refl)))
    (limit_is d (codes "clock") words d.limits.clock (one_in most64 words) (λ x. record d.limits { clock = Some x }) refl refl refl (λ x e. rw e refl)
    (λ x k. at_word (λ w. given (record d { limits = record d.limits { clock = Some x } }) w ≡ (bytes_eq w (codes "clock") || given d w)) k (codes "clock") refl (λ e. rw e refl)))
    (limit_is d (codes "chapter") words d.limits.chapter (one_in most32 words) (λ x. record d.limits { chapter = Some x }) refl refl refl (λ x e. rw e refl)
    (λ x k. at_word (λ w. given (record d { limits = record d.limits { chapter = Some x } }) w ≡ (bytes_eq w (codes "chapter") || given d w)) k (codes "chapter") refl (λ e. rw e refl)))
    (limit_is d (codes "chapters") words d.limits.chapters (one_in most32 words) (λ x. record d.limits { chapters = Some x }) refl refl refl (λ x e. rw e refl)
    (λ x k. at_word (λ w. given (record d { limits = record d.limits { chapters = Some x } }) w ≡ (bytes_eq w (codes "chapters") || given d w)) k (codes "chapters") refl (λ e. rw e refl)))
    (λ a. record {
      took = λ e h. let bad : None ≡ draft e = rw (a.robots, a.clients, a.ties, a.turns, a.lane, a.outlet, a.queue, a.mailbox, a.life, a.orders, a.clock, a.chapter, a.chapters) at h in absurd cc;
      takes = λ h o. let bad : false ≡ true = rw (a.robots, a.clients, a.ties, a.turns, a.lane, a.outlet, a.queue, a.mailbox, a.life, a.orders, a.clock, a.chapter, a.chapters) at h in absurd cc;
    })
