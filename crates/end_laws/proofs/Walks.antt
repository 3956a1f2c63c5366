-- Steps of a node whose facts are allowed, one after another.
use Rattle.std.proofs.Common.{◌≡◌, ℕ, zero, suc, List, [], ◌∷◌, ◌++◌, Option, Some, None}
use Rattle.std.proofs.Common.{refl, sym, ap, subst, ◌∙◌}
use Rattle.rpc_base.specs.declared.fact.Fact.{Fact}
use Rattle.rpc_laws.specs.declared.tables.InFlight.{InFlight}
use Rattle.rpc_laws.specs.declared.tables.Lists.{Lists}
use Rattle.rpc_laws.specs.declared.tables.Timed.{Timed}
use Rattle.rpc_laws.specs.GoBackN.{Each}
use Rattle.rpc_laws.specs.NodeLists.{after, after_all}
use Rattle.rpc_laws.specs.Steps.{Rel, Goes, Then, Chain, Until, Visits, none, more}
use Rattle.rpc_laws.proofs.RunLemmas.{after_all-append}
use Rattle.end_laws.specs.Moments.{hand_noted}
use Rattle.end_laws.proofs.Allowed.{IsAllowed, WalksFrom, Walks, walks-from}

pub walks-append : (hand : Option InFlight) (latest : Option Fact) (clock : ℕ) (l : Lists)
    (x y : List Fact) → WalksFrom hand latest clock l x
    → ((other : Option InFlight) → Walks other clock (after_all clock l x) y)
    → WalksFrom hand latest clock l (x ++ y)
walks-append hand latest clock l [] y h k = walks-from hand latest clock l y (k hand)
walks-append hand latest clock l (f ∷ x) y h k = (
  h.0,
  h.1,
  walks-append (hand_noted l.me f.event l.inbox hand) (Some f) clock (after clock l f) x y h.2 k,
)

-- what stays of a node's lists by each fact that is allowed
abbrev pub Stays : (Lists → Type 0) → Type 0
Stays Inv = (hand : Option InFlight) (clock : ℕ) (l : Lists) (f : Fact) → IsAllowed hand l f → Inv l
    → Inv (after clock l f)

-- a step's facts are allowed at the node's clock, and leave the lists that they say
pub record WalkedFrom (Inv : Lists → Type 0) (hand : Option InFlight) (latest : Option Fact)
    (s : Timed) (x : List Fact) (t : Timed) : Type 0 where
  pub walks : WalksFrom hand latest s.clock s.lists x
  pub lists : t.lists ≡ after_all s.clock s.lists x
  pub clock : t.clock ≡ s.clock
  pub inv : Inv t.lists

abbrev pub Walked : (Lists → Type 0) → Option InFlight → Timed → List Fact → Timed → Type 0
Walked Inv hand s x t = WalkedFrom Inv hand None s x t

-- so it is of a step, whatever is in hand
abbrev pub Fine : (Lists → Type 0) → Rel → Type 0
Fine Inv P = (hand : Option InFlight) (s : Timed) (x : List Fact) (t : Timed) → Inv s.lists
    → P s x t → Walked Inv hand s x t

stays-all : (Inv : Lists → Type 0) → Stays Inv
    → (hand : Option InFlight) (latest : Option Fact) (clock : ℕ) (l : Lists) (x : List Fact)
    → WalksFrom hand latest clock l x → Inv l → Inv (after_all clock l x)
stays-all Inv stays hand latest clock l [] w i = i
stays-all Inv stays hand latest clock l (f ∷ x) w i =
    stays-all Inv stays (hand_noted l.me f.event l.inbox hand) (Some f) clock
    (after clock l f) x w.2 (stays hand clock l f w.0 i)

-- a step that goes by its facts
pub walked-from : (Inv : Lists → Type 0) → Stays Inv
    → (hand : Option InFlight) (latest : Option Fact) (s : Timed) (x : List Fact) (t : Timed)
    → Inv s.lists → WalksFrom hand latest s.clock s.lists x → Goes s x t
    → WalkedFrom Inv hand latest s x t
walked-from Inv stays hand latest s x t i w g = record {
  walks = w;
  lists = ap (λ (u : Timed). u.lists) g;
  clock = ap (λ (u : Timed). u.clock) g;
  inv = rw g (stays-all Inv stays hand latest s.clock s.lists x w i);
}

pub walked-goes : (Inv : Lists → Type 0) → Stays Inv
    → (hand : Option InFlight) (s : Timed) (x : List Fact) (t : Timed) → Inv s.lists
    → Walks hand s.clock s.lists x → Goes s x t → Walked Inv hand s x t
walked-goes Inv stays hand s x t i w g = walked-from Inv stays hand None s x t i w g

pub walked-none : (Inv : Lists → Type 0) (hand : Option InFlight) (s : Timed) (x : List Fact)
    (t : Timed) → Inv s.lists → x ≡ [] → t ≡ s → Walked Inv hand s x t
walked-none Inv hand s x t i e f = rw (e, f) (record { walks = tt; lists = refl; clock = refl; inv = i })

pub walked-append : (Inv : Lists → Type 0) (hand : Option InFlight) (s t u : Timed)
    (x y : List Fact) → Walked Inv hand s x t
    → ((other : Option InFlight) → Walked Inv other t y u) → Walked Inv hand s (x ++ y) u
walked-append Inv hand s t u x y w v =
    let last = v hand in
    record {
      walks = walks-append hand None s.clock s.lists x y w.walks
          (λ other. subst (λ c. Walks other c (after_all s.clock s.lists x) y) w.clock
          (subst (λ l. Walks other t.clock l y) w.lists ((v other).walks)));
      lists = last.lists ∙ (ap (λ c. after_all c t.lists y) w.clock
          ∙ (ap (λ l. after_all s.clock l y) w.lists
          ∙ sym (after_all-append s.clock s.lists x y)));
      clock = last.clock ∙ w.clock;
      inv = last.inv;
    }

module _ (Inv : Lists → Type 0) where
  pub fine-then : (P Q : Rel) → Fine Inv P → Fine Inv Q → Fine Inv (Then P Q)
  fine-then P Q p q hand s x t i h =
      let w = p hand s h.front h.between i h.first in
      rw h.joined (walked-append Inv hand s h.between t h.front h.back w
      (λ other. q other h.between h.back t w.inv h.second))

  pub fine-chain : (P : Rel) → Fine Inv P → Fine Inv (Chain P)
  fine-chain P p hand s x t i none = walked-none Inv hand s [] s i refl refl
  fine-chain P p hand s x t i (more {x = front} {t = between} c y u h) =
      let w = fine-chain P p hand s front between i c in
      walked-append Inv hand s between u front y w (λ other. p other between y u w.inv h)

  pub fine-until : (P : Rel) (Over : Timed → Type 0) → Fine Inv P → Fine Inv (Until P Over)
  fine-until P Over p hand s x t i h = fine-chain P p hand s x t i h.steps

  pub fine-visits : (P : ℕ → Rel) → ((n : ℕ) → Fine Inv (P n)) → (n : ℕ) → Fine Inv (Visits P n)
  fine-visits P p zero hand s x t i h = walked-none Inv hand s x t i h.0 h.1
  fine-visits P p (suc n) hand s x t i h =
      fine-then (Visits P n) (P n) (fine-visits P p n) (p n) hand s x t i h

  pub fine-each : (P : ℕ → Rel) → ((n : ℕ) → Fine Inv (P n)) → (ns : List ℕ) → Fine Inv (Each P ns)
  fine-each P p [] hand s x t i h = walked-none Inv hand s x t i h.0 h.1
  fine-each P p (n ∷ ns) hand s x t i h =
      fine-then (P n) (Each P ns) (p n) (fine-each P p ns) hand s x t i h
