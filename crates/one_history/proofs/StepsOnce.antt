-- Steps of a node that are one from each state, where their facts are fine: joined steps are so where each part is.
use Rattle.std.proofs.Common.{◌≡◌, ℕ, zero, suc, List, [], ◌∷◌, ◌++◌, Option, Some, None, refl, sym}
use Rattle.std.proofs.Common.{ap, ap₂, ◌∙◌, subst, append_assoc, append-nil}
use Rattle.rpc_base.specs.declared.event.Event.{Event}
use Rattle.rpc_base.specs.declared.fact.Fact.{Fact}
use Rattle.rpc_laws.proofs.RunLemmas.{me-after_all}
use Rattle.rpc_laws.specs.declared.tables.Lists.{Lists}
use Rattle.rpc_laws.specs.declared.tables.Timed.{Timed}
use Rattle.rpc_laws.specs.Facts.{plain}
use Rattle.rpc_laws.specs.GoBackN.{Each}
use Rattle.rpc_laws.specs.NodeLists.{after_all}
use Rattle.rpc_laws.specs.Steps.{Chain, Goes, more, none, NotesAll, NotesNext, Rel, Then, Until, Visits}
use Rattle.rpc_outside.specs.Served.{Served}
use Rattle.one_history.proofs.Fine.{Fine, fine-back, fine-front, served_by}

-- the facts and the nodes that they leave are the same, and the node keeps its number
pub record Same (n : ℕ) (x y : List Fact) (t u : Timed) : Type 0 where
  pub facts : x ≡ y
  pub left : t ≡ u
  pub me : t.lists.me ≡ n

-- P again and again, so many times
abbrev Counted : Rel → ℕ → Rel
Counted P zero s x t = (x ≡ []) × (t ≡ s)
Counted P (suc k) s x t = Then P (Counted P k) s x t

counted-more : (P : Rel) (k : ℕ) (s : Timed) (x : List Fact) (t : Timed) (y : List Fact) (u : Timed)
    → Counted P k s x t → P t y u → Counted P (suc k) s (x ++ y) u
counted-more P zero s x t y u h p =
    let start : P s y u = subst (λ (w : Timed). P w y u) h.1 p in
    let one : Counted P (suc zero) s y u =
    record {
      between = u;
      front = y;
      back = [];
      joined = sym (append-nil y);
      first = start;
      second = (refl, refl);
    } in
    rw h.0 one
counted-more P (suc k) s x t y u h p = record {
  between = h.between;
  front = h.front;
  back = h.back ++ y;
  joined = ap (λ (z : List Fact). z ++ y) h.joined ∙ append_assoc h.front h.back y;
  first = h.first;
  second = counted-more P k h.between h.back t y u h.second p;
}

chain-counted : (P : Rel) (s : Timed) {x : List Fact} {t : Timed} → Chain P s x t → (k : ℕ) × Counted P k s x t
chain-counted P s none = (zero, (refl, refl))
chain-counted P s (more {x} {t} c y u h) =
    let before = chain-counted P s c in (suc before.0, counted-more P before.0 s x t y u before.1 h)

-- where it is over there is no further step
abbrev pub Ends : Rel → (Timed → Type 0) → Type 0
Ends P Over = (s : Timed) (x : List Fact) (t : Timed) → Over s → P s x t → ⊥

module _ (n : ℕ) where
  -- from each state of node n there is one step with fine facts
  abbrev pub Once : Rel → Type 0
  Once P = (served : Served) (s : Timed) (x y : List Fact) (t u : Timed) → s.lists.me ≡ n → P s x t
      → P s y u → Fine n served x → Fine n served y → Same n x y t u

  pub none-once : (s : Timed) (x y : List Fact) (t u : Timed) → s.lists.me ≡ n → (x ≡ []) × (t ≡ s)
      → (y ≡ []) × (u ≡ s) → Same n x y t u
  none-once s x y t u m h k =
      record { facts = h.0 ∙ sym k.0; left = h.1 ∙ sym k.1; me = ap (λ (w : Timed). w.lists.me) h.1 ∙ m }

  pub goes-once : (s : Timed) (x y : List Fact) (t u : Timed) → s.lists.me ≡ n → Goes s x t
      → Goes s y u → x ≡ y → Same n x y t u
  goes-once s x y t u m h k e = record {
    facts = e;
    left = h ∙ (ap (λ (z : List Fact). record { lists = after_all s.clock s.lists z; clock = s.clock }) e ∙ sym k);
    me = ap (λ (w : Timed). w.lists.me) h ∙ (me-after_all s.clock s.lists x ∙ m);
  }

  -- the same first step, and then steps that are the same
  pub then-both : (P Q R : Rel) → Once P
      → (served : Served) (s : Timed) (x y : List Fact) (t u : Timed) → s.lists.me ≡ n
      → (h : Then P Q s x t) → (k : Then P R s y u) → Fine n served x → Fine n served y
      → ((after : Served) (b : Timed) → b.lists.me ≡ n → Q b h.back t → R b k.back u
      → Fine n after h.back → Fine n after k.back → Same n h.back k.back t u)
      → Same n x y t u
  then-both P Q R p served s x y t u m h k f g rest =
      let one : Fine n served (h.front ++ h.back) = subst (λ (z : List Fact). Fine n served z) h.joined f in
      let two : Fine n served (k.front ++ k.back) = subst (λ (z : List Fact). Fine n served z) k.joined g in
      let first = p served s h.front k.front h.between k.between m h.first k.first
      (fine-front n served h.front h.back one) (fine-front n served k.front k.back two) in
      let second : R h.between k.back u = subst (λ (w : Timed). R w k.back u) (sym first.left) k.second in
      let later : Fine n (served_by n served h.front) k.back =
      subst (λ (z : List Fact). Fine n (served_by n served z) k.back) (sym first.facts)
      (fine-back n served k.front k.back two) in
      let last = rest (served_by n served h.front) h.between first.me h.second second
      (fine-back n served h.front h.back one) later in
      record {
        facts = h.joined ∙ (ap₂ (λ (a b : List Fact). a ++ b) first.facts last.facts ∙ sym k.joined);
        left = last.left;
        me = last.me;
      }

  pub then-once : (P Q : Rel) → Once P → Once Q → Once (Then P Q)
  then-once P Q p q served s x y t u m h k f g =
      then-both P Q Q p served s x y t u m h k f g (λ after b. q after b h.back k.back t u)

  pub visits-once : (P : ℕ → Rel) → ((i : ℕ) → Once (P i)) → (k : ℕ) → Once (Visits P k)
  visits-once P p zero served s x y t u m h k f g = none-once s x y t u m h k
  visits-once P p (suc i) served s x y t u m h k f g =
      then-once (Visits P i) (P i) (visits-once P p i) (p i) served s x y t u m h k f g

  pub each-once : (P : ℕ → Rel) → ((i : ℕ) → Once (P i)) → (is : List ℕ) → Once (Each P is)
  each-once P p [] served s x y t u m h k f g = none-once s x y t u m h k
  each-once P p (i ∷ is) served s x y t u m h k f g =
      then-once (P i) (Each P is) (p i) (each-once P p is) served s x y t u m h k f g

  counted-once : (P : Rel) (Over : Timed → Type 0) → Once P → Ends P Over
      → (i j : ℕ) (served : Served) (s : Timed) (x y : List Fact) (t u : Timed) → s.lists.me ≡ n
      → Counted P i s x t → Counted P j s y u → Over t → Over u → Fine n served x → Fine n served y
      → Same n x y t u
  counted-once P Over p ends zero zero served s x y t u m h k v w f g = none-once s x y t u m h k
  counted-once P Over p ends zero (suc j) served s x y t u m h k v w f g =
      absurd (ends s k.front k.between (subst Over h.1 v) k.first)
  counted-once P Over p ends (suc i) zero served s x y t u m h k v w f g =
      absurd (ends s h.front h.between (subst Over k.1 w) h.first)
  counted-once P Over p ends (suc i) (suc j) served s x y t u m h k v w f g =
      then-both P (Counted P i) (Counted P j) p served s x y t u m h k f g
      (λ after b me a c. counted-once P Over p ends i j after b h.back k.back t u me a c v w)

  pub until-once : (P : Rel) (Over : Timed → Type 0) → Once P → Ends P Over → Once (Until P Over)
  until-once P Over p ends served s x y t u m h k f g =
      let one = chain-counted P s h.steps in
      let two = chain-counted P s k.steps in
      counted-once P Over p ends one.0 two.0 served s x y t u m one.1 two.1 h.over k.over f g

  next-same : (me : ℕ) (o : Option Event) (d e : Event) → o ≡ Some d → o ≡ Some e → plain me d ∷ [] ≡ plain me e ∷ []
  next-same me o d e h k = let same : d ≡ e = cc in ap (λ (z : Event). plain me z ∷ []) same

  pub notes-once : (next : Lists → Option Event) → Once (NotesAll next)
  notes-once next =
      until-once (NotesNext next) (λ t. next t.lists ≡ None)
      (λ served s x y t u m h k f g. goes-once s x y t u m h.goes k.goes
      (h.facts ∙ (next-same s.lists.me (next s.lists) h.event k.event h.is_next k.is_next
      ∙ sym k.facts)))
      (λ s x t over h. let same : Some h.event ≡ None = sym h.is_next ∙ over in cc)
