-- Steps of which at most one front of some facts is one: joined steps are so where each part is. So who has
-- found such a front has found the only one.
use Rattle.std.proofs.Common.{◌≡◌, ℕ, zero, suc, List, [], ◌∷◌, ◌++◌, Option, Some, None, refl, sym}
use Rattle.std.proofs.Common.{ap, ap₂, ◌∙◌, subst, append_assoc, append-nil}
use Rattle.rpc_base.specs.declared.event.Event.{Event}
use Rattle.rpc_base.specs.declared.fact.Fact.{Fact}
use Rattle.rpc_laws.specs.declared.tables.Lists.{Lists}
use Rattle.rpc_laws.specs.declared.tables.Timed.{Timed}
use Rattle.rpc_laws.specs.Facts.{plain}
use Rattle.rpc_laws.specs.GoBackN.{Each}
use Rattle.rpc_laws.specs.NodeLists.{after_all}
use Rattle.front_laws.specs.Laws.{Same}
use Rattle.rpc_laws.specs.Steps.{Chain, Goes, more, none, NotesAll, NotesNext, Rel, Then, Until, Visits}

-- of all fronts of some facts at most one is such a step, and it leaves one state
abbrev pub OneWay : Rel → Type 0
OneWay P = (s : Timed) (x y r q : List Fact) (t u : Timed) → P s x t → P s y u → x ++ r ≡ y ++ q
    → Same x y t u

-- where it is over there is no further step
abbrev pub Ends : Rel → (Timed → Type 0) → Type 0
Ends P Over = (s : Timed) (x : List Fact) (t : Timed) → Over s → P s x t → ⊥

pub goes-one : (s : Timed) (x y : List Fact) (t u : Timed) → Goes s x t → Goes s y u → x ≡ y → Same x y t u
goes-one s x y t u h k e = record {
  facts = e;
  left = h ∙ (ap (λ (z : List Fact). record { lists = after_all s.clock s.lists z; clock = s.clock }) e ∙ sym k);
}

pub back-same : (x y a b : List Fact) → x ≡ y → x ++ a ≡ y ++ b → a ≡ b
back-same [] [] a b e h = h
back-same [] (g ∷ y) a b e h = cc
back-same (f ∷ x) [] a b e h = cc
back-same (f ∷ x) (g ∷ y) a b e h =
    let tails : x ≡ y = cc in let both : x ++ a ≡ y ++ b = cc in back-same x y a b tails both

pub none-one : (s : Timed) (x y : List Fact) (t u : Timed) → (x ≡ []) × (t ≡ s) → (y ≡ []) × (u ≡ s) → Same x y t u
none-one s x y t u h k = record { facts = h.0 ∙ sym k.0; left = h.1 ∙ sym k.1 }

-- the same first step, and then steps that are the same
then-both : (P Q R : Rel) → OneWay P → (s : Timed) (x y r q : List Fact) (t u : Timed)
    → (h : Then P Q s x t) → (k : Then P R s y u) → x ++ r ≡ y ++ q
    → ((b : Timed) → Q b h.back t → R b k.back u → h.back ++ r ≡ k.back ++ q → Same h.back k.back t u)
    → Same x y t u
then-both P Q R p s x y r q t u h k e rest =
    let whole : h.front ++ (h.back ++ r) ≡ k.front ++ (k.back ++ q) =
    sym (append_assoc h.front h.back r) ∙ (ap (λ (z : List Fact). z ++ r) (sym h.joined) ∙ (e
    ∙ (ap (λ (z : List Fact). z ++ q) k.joined ∙ append_assoc k.front k.back q))) in
    let first = p s h.front k.front (h.back ++ r) (k.back ++ q) h.between k.between h.first k.first whole in
    let second : R h.between k.back u = subst (λ (w : Timed). R w k.back u) (sym first.left) k.second in
    let last = rest h.between h.second second (back-same h.front k.front (h.back ++ r) (k.back ++ q) first.facts whole) in
    record {
      facts = h.joined ∙ (ap₂ (λ (a b : List Fact). a ++ b) first.facts last.facts ∙ sym k.joined);
      left = last.left;
    }

pub then-one : (P Q : Rel) → OneWay P → OneWay Q → OneWay (Then P Q)
then-one P Q p q s x y r z t u h k e =
    then-both P Q Q p s x y r z t u h k e (λ b a c f. q b h.back k.back r z t u a c f)

pub visits-one : (P : ℕ → Rel) → ((i : ℕ) → OneWay (P i)) → (n : ℕ) → OneWay (Visits P n)
visits-one P p zero s x y r q t u h k e = none-one s x y t u h k
visits-one P p (suc n) s x y r q t u h k e =
    then-one (Visits P n) (P n) (visits-one P p n) (p n) s x y r q t u h k e

pub each-one : (P : ℕ → Rel) → ((i : ℕ) → OneWay (P i)) → (is : List ℕ) → OneWay (Each P is)
each-one P p [] s x y r q t u h k e = none-one s x y t u h k
each-one P p (i ∷ is) s x y r q t u h k e =
    then-one (P i) (Each P is) (p i) (each-one P p is) s x y r q t u h k e

-- P again and again, so many times, from the front
abbrev pub Counted : Rel → ℕ → Rel
Counted P zero s x t = (x ≡ []) × (t ≡ s)
Counted P (suc k) s x t = Then P (Counted P k) s x t

counted-more : (P : Rel) (k : ℕ) (s : Timed) (x : List Fact) (t : Timed) (y : List Fact) (u : Timed)
    → Counted P k s x t → P t y u → Counted P (suc k) s (x ++ y) u
counted-more P zero s x t y u h p =
    let start : P s y u = subst (λ (w : Timed). P w y u) h.1 p in
    let one : Counted P (suc zero) s y u =
    record { between = u; front = y; back = []; joined = sym (append-nil y); first = start; second = (refl, refl) } in
    rw h.0 one
counted-more P (suc k) s x t y u h p = record {
  between = h.between;
  front = h.front;
  back = h.back ++ y;
  joined = ap (λ (z : List Fact). z ++ y) h.joined ∙ append_assoc h.front h.back y;
  first = h.first;
  second = counted-more P k h.between h.back t y u h.second p;
}

pub chain-counted : (P : Rel) (s : Timed) {x : List Fact} {t : Timed} → Chain P s x t → (k : ℕ) × Counted P k s x t
chain-counted P s none = (zero, (refl, refl))
chain-counted P s (more {x} {t} c y u h) =
    let before = chain-counted P s c in (suc before.0, counted-more P before.0 s x t y u before.1 h)

counted-one : (P : Rel) (Over : Timed → Type 0) → OneWay P → Ends P Over → (i j : ℕ) (s : Timed)
    (x y r q : List Fact) (t u : Timed) → Counted P i s x t → Counted P j s y u → Over t → Over u
    → x ++ r ≡ y ++ q → Same x y t u
counted-one P Over p ends zero zero s x y r q t u h k v w e = none-one s x y t u h k
counted-one P Over p ends zero (suc j) s x y r q t u h k v w e =
    absurd (ends s k.front k.between (subst Over h.1 v) k.first)
counted-one P Over p ends (suc i) zero s x y r q t u h k v w e =
    absurd (ends s h.front h.between (subst Over k.1 w) h.first)
counted-one P Over p ends (suc i) (suc j) s x y r q t u h k v w e =
    then-both P (Counted P i) (Counted P j) p s x y r q t u h k e
    (λ b a c f. counted-one P Over p ends i j b h.back k.back r q t u a c v w f)

-- until it is over
pub until-one : (P : Rel) (Over : Timed → Type 0) → OneWay P → Ends P Over → OneWay (Until P Over)
until-one P Over p ends s x y r q t u h k e =
    let one = chain-counted P s h.steps in
    let two = chain-counted P s k.steps in
    counted-one P Over p ends one.0 two.0 s x y r q t u one.1 two.1 h.over k.over e

pub next-same : (me : ℕ) (o : Option Event) (d e : Event) → o ≡ Some d → o ≡ Some e → plain me d ∷ [] ≡ plain me e ∷ []
next-same me o d e h k = let same : d ≡ e = cc in ap (λ (z : Event). plain me z ∷ []) same

pub notes-one : (next : Lists → Option Event) → OneWay (NotesAll next)
notes-one next =
    until-one (NotesNext next) (λ t. next t.lists ≡ None)
    (λ s x y r q t u h k e. goes-one s x y t u h.goes k.goes
    (h.facts ∙ (next-same s.lists.me (next s.lists) h.event k.event h.is_next k.is_next ∙ sym k.facts)))
    (λ s x t over h. let same : Some h.event ≡ None = sym h.is_next ∙ over in cc)
