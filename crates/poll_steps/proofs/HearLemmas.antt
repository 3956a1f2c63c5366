-- Packets of the inbox that are handled one after another.
use Rattle.std.proofs.Common.{◌≡◌, ◌==◌, ℕ, true, false, Option, Some, None, List, [], ◌∷◌, ◌++◌}
use Rattle.std.proofs.Common.{length, take}
use Rattle.std.proofs.Common.{drop, min, slice_get, refl, sym, ap, ◌∙◌, subst}
use Rattle.std.specs.Prelude.{is_some}
use Rattle.std.proofs.lemmas.Bool.{eqb-true}
use Rattle.std.proofs.lemmas.List.{nil_from_length}
use Rattle.packet_header.specs.declared.packet.ControlHeader.{ControlHeader}
use Rattle.rpc_base.specs.declared.event.Event.TheVariants.{Ended, Heard}
use Rattle.rpc_base.specs.declared.fact.Fact.{Fact}
use Rattle.rpc_laws.specs.declared.tables.Arrival.{Arrival}
use Rattle.rpc_laws.specs.declared.tables.Lists.{Lists}
use Rattle.rpc_laws.specs.declared.tables.Server.{Server}
use Rattle.rpc_laws.specs.declared.tables.Timed.{Timed}
use Rattle.rpc_laws.specs.ControlSteps.{AnswersControl, EndsAllOutdated, EndsOutdated, Hears}
use Rattle.rpc_laws.specs.ControlSteps.{TakesControl}
use Rattle.rpc_laws.specs.ControlTable.{outdated, session_end, session_flushes}
use Rattle.rpc_laws.specs.Facts.{plain}
use Rattle.rpc_laws.specs.Front.{control_of}
use Rattle.rpc_laws.specs.NodeLists.{after, after_all}
use Rattle.rpc_laws.specs.Steps.{Rel, Then}
use Rattle.front_laws.proofs.OneWayLemmas.{Ends}
use Rattle.front_laws.proofs.RowOneLemmas.{inbox-front, some-same}
use Rattle.rule_facts.proofs.FrontLemmas.{front-taken}
use Rattle.rule_facts.specs.Fronts.{Fronts}
use Rattle.node_rules.specs.SingleFacts.{at_clock}
use Rattle.rule_facts.specs.Speaking.{Answer, AnswerNone}
use Rattle.poll_steps.specs.Steps.{IsStep}
use Rattle.poll_steps.proofs.PostLemmas.{drop-at}
use Rattle.poll_steps.proofs.StepLemmas.{NotesSome, step-first, step-told}

-- the packet is taken out
pub takes-some : (clock : ℕ) (s new : Lists) (facts : List Fact) (f : Fact)
    → slice_get facts 0 ≡ Some f
    → f ≡ plain s.me Heard → new ≡ after clock s f
    → IsStep TakesControl (at_clock clock s) facts (at_clock clock new) (Some 1)
takes-some clock s new facts f at is e =
    step-first TakesControl clock s new facts f at
    (record { facts = ap (λ (z : Fact). z ∷ []) is; goes = refl }) e

pub takes-other : (clock : ℕ) (s : Lists) (facts : List Fact) (f : Fact) (v : Timed)
    → slice_get facts 0 ≡ Some f
    → (f ≡ plain s.me Heard → ⊥) → IsStep TakesControl (at_clock clock s) facts v None
takes-other clock s facts f v at differs = record {
  some = tt;
  only = λ no x t begins k.
      let both : f ∷ drop 1 facts ≡ plain s.me Heard ∷ begins.rest =
      sym (drop-at facts 0 f at)
      ∙ (begins.parted ∙ ap (λ (z : List Fact). z ++ begins.rest) k.facts) in
      let same : f ≡ plain s.me Heard = cc in
      differs same;
}

pub takes-past : (clock : ℕ) (s : Lists) (facts : List Fact) (v : Timed) → facts ≡ []
    → IsStep TakesControl (at_clock clock s) facts v None
takes-past clock s facts v none = record {
  some = tt;
  only = λ no x t begins k.
      let clash : [] ≡ plain s.me Heard ∷ begins.rest =
      sym none ∙ (begins.parted ∙ ap (λ (z : List Fact). z ++ begins.rest) k.facts) in
      cc;
}

-- the first session that is outdated ends
pub ends-some : (clock : ℕ) (s new : Lists) (peer : ℕ) (h : ControlHeader) (facts : List Fact)
    (v : Server) (n m : ℕ) → Some v ≡ outdated peer h s
    → Fronts (session_end s.me s.queued (Some v)) facts (Some n)
    → m ≡ min n (length facts) → new ≡ after_all clock s (take n facts)
    → IsStep (EndsOutdated peer h) (at_clock clock s) facts (at_clock clock new) (Some m)
ends-some clock s new peer h facts v n m is front e left =
    step-told (EndsOutdated peer h) clock s new facts n m
    (record {
      server = v;
      is_outdated = sym is;
      facts = front-taken (session_end s.me s.queued (Some v)) facts n front;
      goes = refl;
    })
    e left

pub ends-other : (clock : ℕ) (s : Lists) (peer : ℕ) (h : ControlHeader) (facts : List Fact)
    (v : Server) (w : Timed)
    → Some v ≡ outdated peer h s → Fronts (session_end s.me s.queued (Some v)) facts None
    → IsStep (EndsOutdated peer h) (at_clock clock s) facts w None
ends-other clock s peer h facts v w is front = record {
  some = tt;
  only = λ no x t begins k.
      let same : k.server ≡ v = some-same (outdated peer h s) k.server v k.is_outdated (sym is) in
      let own : x ≡ session_end s.me s.queued (Some v) =
      k.facts ∙ ap (λ (z : Server). session_end s.me s.queued (Some z)) same in
      front.only refl
      (record {
        rest = begins.rest;
        parted = begins.parted ∙ ap (λ (z : List Fact). z ++ begins.rest) own;
      });
}

-- none is
pub ends-none : (clock : ℕ) (s : Lists) (peer : ℕ) (h : ControlHeader) (facts : List Fact)
    (w : Timed)
    → None ≡ outdated peer h s → IsStep (EndsOutdated peer h) (at_clock clock s) facts w None
ends-none clock s peer h facts w none = record {
  some = tt;
  only = λ no x t begins k. let clash : None ≡ Some k.server = none ∙ k.is_outdated in cc;
}

pub some-outdated : (o : Option Server) → is_some o ≡ true → o ≡ None → ⊥
some-outdated None e n = cc
some-outdated (Some v) e n = cc

pub none-outdated : (o : Option Server) → is_some o ≡ false → o ≡ None
none-outdated None e = refl
none-outdated (Some v) e = cc

-- no session is outdated
abbrev pub NoneOutdated : ℕ → ControlHeader → Timed → Type 0
NoneOutdated peer h t = outdated peer h t.lists ≡ None

pub ends-end : (peer : ℕ) (h : ControlHeader) → Ends (EndsOutdated peer h) (NoneOutdated peer h)
ends-end peer h s x t over k = let clash : Some k.server ≡ None = sym k.is_outdated ∙ over in cc

last-some : (x : List Fact) (f : Fact) → x ++ f ∷ [] ≡ [] → ⊥
last-some [] f e = cc
last-some (g ∷ x) f e = cc

-- it notes that the session ended
pub ends-notes : (peer : ℕ) (h : ControlHeader) → NotesSome (EndsOutdated peer h)
ends-notes peer h s x t k e =
    last-some (session_flushes s.lists.me s.lists.queued k.server)
    (plain s.lists.me (Ended k.server.way.number))
    (sym k.facts ∙ e)

-- the packet is answered
pub answers-some : (clock : ℕ) (s new : Lists) (peer : ℕ) (h : ControlHeader) (facts : List Fact)
    (n m : ℕ)
    → Answer s peer h (take n facts) → m ≡ min n (length facts)
    → new ≡ after_all clock s (take n facts)
    → IsStep (AnswersControl peer h) (at_clock clock s) facts (at_clock clock new) (Some m)
answers-some clock s new peer h facts n m a e left =
    step-told (AnswersControl peer h) clock s new facts n m (a clock) e left

pub answers-none : (clock : ℕ) (s : Lists) (peer : ℕ) (h : ControlHeader) (facts : List Fact)
    (v : Timed)
    → AnswerNone s peer h facts → IsStep (AnswersControl peer h) (at_clock clock s) facts v None
answers-none clock s peer h facts v a = record { some = tt; only = λ no. a clock }

-- the steps of a control packet of a peer, once it is taken out
abbrev pub HearsBehind : ℕ → ControlHeader → Rel
HearsBehind peer h = Then (EndsAllOutdated peer h) (AnswersControl peer h)

abbrev pub HearsAs : ℕ → ControlHeader → Rel
HearsAs peer h = Then TakesControl (HearsBehind peer h)

-- they are those of the front packet
pub hears-as : (s : Timed) (facts : List Fact) (t : Timed) (o : Option ℕ) (front : Arrival)
    (h : ControlHeader)
    → slice_get s.lists.inbox 0 ≡ Some front → control_of front.bytes ≡ Some h
    → IsStep (HearsAs front.peer h) s facts t o → IsStep Hears s facts t o
hears-as s facts t (Some n) front h at reads k = record {
  some = (
    k.some.0,
    record { front = front; is_front = at; header = h; reads = reads; steps = k.some.1 },
  );
  only = λ no. cc;
}
hears-as s facts t None front h at reads k = record {
  some = tt;
  only = λ no x u begins a.
      let same : a.front ≡ front =
      some-same (slice_get s.lists.inbox 0) a.front front a.is_front at in
      let other : control_of front.bytes ≡ Some a.header =
      subst (λ (z : Arrival). control_of z.bytes ≡ Some a.header) same a.reads in
      let header : a.header ≡ h = some-same (control_of front.bytes) a.header h other reads in
      let moved : HearsAs front.peer a.header s x u =
      subst (λ (z : Arrival). HearsAs z.peer a.header s x u) same a.steps in
      k.only no x u begins (subst (λ (z : ControlHeader). HearsAs front.peer z s x u) header moved);
}

-- the front is no control packet
pub hears-unread : (s : Timed) (facts : List Fact) (v : Timed) (front : Arrival)
    → slice_get s.lists.inbox 0 ≡ Some front → control_of front.bytes ≡ None
    → IsStep Hears s facts v None
hears-unread s facts v front at unread = record {
  some = tt;
  only = λ no x u begins a.
      let same : a.front ≡ front =
      some-same (slice_get s.lists.inbox 0) a.front front a.is_front at in
      let other : control_of front.bytes ≡ Some a.header =
      subst (λ (z : Arrival). control_of z.bytes ≡ Some a.header) same a.reads in
      let clash : None ≡ Some a.header = sym unread ∙ other in
      cc;
}

pub no-items : {A : Type 0} (xs : List A) → (length xs == 0) ≡ true → xs ≡ []
no-items xs e = nil_from_length xs (eqb-true (length xs) 0 e)

pub some-items : {A : Type 0} (xs : List A) → (length xs == 0) ≡ false → xs ≡ [] → ⊥
some-items [] e n = cc
some-items (x ∷ xs) e n = cc

-- the inbox is empty
abbrev pub InboxEmpty : Timed → Type 0
InboxEmpty t = t.lists.inbox ≡ []

pub hears-end : Ends Hears InboxEmpty
hears-end s x t over h = inbox-front s.lists.inbox h.front h.is_front over

pub hears-empty : (s : Timed) (facts : List Fact) (v : Timed) → InboxEmpty s
    → IsStep Hears s facts v None
hears-empty s facts v over = record { some = tt; only = λ no x u begins a. hears-end s x u over a }

-- it notes that a packet was handled
pub hears-notes : NotesSome Hears
hears-notes s x t h e =
    let first : h.steps.front ≡ plain s.lists.me Heard ∷ [] = h.steps.first.facts in
    let clash : [] ≡ plain s.lists.me Heard ∷ h.steps.back =
    sym e ∙ (h.steps.joined ∙ ap (λ (z : List Fact). z ++ h.steps.back) first) in
    cc
