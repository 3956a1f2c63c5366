-- Steps of a node that note only what is allowed.
use Rattle.std.proofs.Common.{◌≡◌, ℕ, zero, suc, Option, Some, None, List, [], ◌∷◌, ◌++◌, refl, sym, ap, ◌∙◌, subst}
use Rattle.rpc_base.specs.declared.event.Event.{Event}
use Rattle.rpc_base.specs.declared.fact.Fact.{Fact}
use Rattle.rpc_laws.specs.declared.tables.Lists.{Lists}
use Rattle.rpc_laws.specs.declared.tables.Timed.{Timed}
use Rattle.rpc_laws.specs.GoBackN.{Each}
use Rattle.rpc_laws.specs.NodeLists.{after, after_all}
use Rattle.rpc_laws.proofs.RunLemmas.{after_all-append}
use Rattle.rpc_laws.specs.Steps.{Rel, Goes, Then, Chain, none, more, Until, Visits, NotesNext, NotesAll}
use Rattle.node_laws.proofs.Allowed.{AllowedBy, allowed-of, AllAllowed, Leads, LeadsBy, leads-of}
use Rattle.node_laws.specs.Valid.{Valid}
use Rattle.node_laws.proofs.ValidLemmas.{valid_after}

pub valid_leads : (s : Lists) (x : List Fact) (t : Lists) → Valid s → Leads s x t → Valid t
valid_leads s [] t v e = rw e v
valid_leads s (f ∷ fs) t v l = valid_leads (after l.0 s f) fs t (valid_after l.0 s f v l.1) l.2

pub valid_after_all : (clock : ℕ) (s : Lists) (x : List Fact) → Valid s → AllAllowed clock s x
    → Valid (after_all clock s x)
valid_after_all clock s [] v a = v
valid_after_all clock s (f ∷ fs) v a =
    valid_after_all clock (after clock s f) fs
    (valid_after clock s f v (allowed-of s f.event f.first f.second a.0)) a.1

pub leads-join : (s : Lists) (x : List Fact) (t : Lists) (y : List Fact) (u : Lists) → LeadsBy s x t
    → LeadsBy t y u → LeadsBy s (x ++ y) u
leads-join s [] t y u e m = rw e at m
leads-join s (f ∷ fs) t y u l m = (l.0, l.1, leads-join (after l.0 s f) fs t y u l.2 m)

pub leads-all : (clock : ℕ) (s : Lists) (x : List Fact) → AllAllowed clock s x → LeadsBy s x (after_all clock s x)
leads-all clock s [] a = refl
leads-all clock s (f ∷ fs) a = (clock, a.0, leads-all clock (after clock s f) fs a.1)

pub allowed-join : (clock : ℕ) (s : Lists) (x y : List Fact) → AllAllowed clock s x
    → AllAllowed clock (after_all clock s x) y → AllAllowed clock s (x ++ y)
allowed-join clock s [] y a b = b
allowed-join clock s (f ∷ fs) y a b = (a.0, allowed-join clock (after clock s f) fs y a.1 b)

-- a step that notes only what is allowed, at its own clock
pub record LeadsAt (s : Timed) (x : List Fact) (t : Timed) : Type 0 where
  pub all : AllAllowed s.clock s.lists x
  pub lists : t.lists ≡ after_all s.clock s.lists x
  pub clock : t.clock ≡ s.clock

pub leads-at : (s : Timed) (x : List Fact) (t : Timed) → LeadsAt s x t → LeadsBy s.lists x t.lists
leads-at s x t l = rw (l.lists) (leads-all s.clock s.lists x l.all)

pub valid-at : (s : Timed) (x : List Fact) (t : Timed) → Valid s.lists → LeadsAt s x t → Valid t.lists
valid-at s x t v l = rw (l.lists) (valid_after_all s.clock s.lists x v l.all)

-- so it is from lists of which what always holds does
abbrev pub Lawful : Rel → Type 0
Lawful P = (s : Timed) (x : List Fact) (t : Timed) → Valid s.lists → P s x t → LeadsAt s x t

pub lawful-goes : (s : Timed) (x : List Fact) (t : Timed) → Goes s x t → AllAllowed s.clock s.lists x → LeadsAt s x t
lawful-goes s x t e a =
    record { all = a; lists = ap (λ (u : Timed). u.lists) e; clock = ap (λ (u : Timed). u.clock) e }

at-join : (s : Timed) (x : List Fact) (t : Timed) (y : List Fact) (u : Timed) → LeadsAt s x t
    → LeadsAt t y u → LeadsAt s (x ++ y) u
at-join s x t y u l m = record {
  all = allowed-join s.clock s.lists x y l.all
      (subst (λ (c : ℕ). AllAllowed c (after_all s.clock s.lists x) y) l.clock
      (subst (λ (z : Lists). AllAllowed t.clock z y) l.lists m.all));
  lists = m.lists ∙ (ap (λ (c : ℕ). after_all c t.lists y) l.clock
      ∙ (ap (λ (z : Lists). after_all s.clock z y) l.lists
      ∙ sym (after_all-append s.clock s.lists x y)));
  clock = m.clock ∙ l.clock;
}

pub lawful-then : (P Q : Rel) → Lawful P → Lawful Q → Lawful (Then P Q)
lawful-then P Q p q s x t v h =
    let first = p s h.front h.between v h.first in
    let second = q h.between h.back t (valid-at s h.front h.between v first) h.second in
    rw h.joined (at-join s h.front h.between h.back t first second)

pub lawful-chain : (P : Rel) → Lawful P → (s : Timed) {x : List Fact} {t : Timed} → Valid s.lists
    → Chain P s x t → LeadsAt s x t
lawful-chain P p s v none = record { all = tt; lists = refl; clock = refl }
lawful-chain P p s v (more {x} {t} c y u h) =
    let first = lawful-chain P p s v c in
    at-join s x t y u first (p t y u (valid-at s x t v first) h)

-- groups, each at a clock of its own
pub groups-chain : (P : Rel)
    → ((s : Timed) (x : List Fact) (t : Timed) → Valid s.lists → P s x t
    → LeadsBy s.lists x t.lists) → (s : Timed) {x : List Fact} {t : Timed} → Valid s.lists
    → Chain P s x t → LeadsBy s.lists x t.lists
groups-chain P p s v none = refl
groups-chain P p s v (more {x} {t} c y u h) =
    let first = groups-chain P p s v c in
    leads-join s.lists x t.lists y u.lists first
    (p t y u (valid_leads s.lists x t.lists v (leads-of s.lists x t.lists first)) h)

pub lawful-until : (P : Rel) (Over : Timed → Type 0) → Lawful P → Lawful (Until P Over)
lawful-until P Over p s x t v h = lawful-chain P p s v h.steps

lawful-none : (s : Timed) (x : List Fact) (t : Timed) → x ≡ [] → t ≡ s → LeadsAt s x t
lawful-none s x t e same = rw (e, same) (record { all = tt; lists = refl; clock = refl })

pub lawful-visits : (P : ℕ → Rel) → ((i : ℕ) → Lawful (P i)) → (n : ℕ) → Lawful (Visits P n)
lawful-visits P p zero s x t v h = lawful-none s x t h.0 h.1
lawful-visits P p (suc n) s x t v h = lawful-then (Visits P n) (P n) (lawful-visits P p n) (p n) s x t v h

pub lawful-each : (P : ℕ → Rel) → ((i : ℕ) → Lawful (P i)) → (ns : List ℕ) → Lawful (Each P ns)
lawful-each P p [] s x t v h = lawful-none s x t h.0 h.1
lawful-each P p (n ∷ ns) s x t v h = lawful-then (P n) (Each P ns) (p n) (lawful-each P p ns) s x t v h

-- events that are noted next
pub lawful-notes : (next : Lists → Option Event)
    → ((s : Lists) (e : Event) → Valid s → next s ≡ Some e → AllowedBy s e [] []) → Lawful (NotesAll next)
lawful-notes next allowed = lawful-until (NotesNext next) (λ t. next t.lists ≡ None) one
  where
    one : Lawful (NotesNext next)
    one s x t v h = lawful-goes s x t h.goes (rw h.facts (allowed s.lists h.event v h.is_next, tt))
