-- A poll leaves its node at the clock at which it happens, which its last fact tells.
use Rattle.std.proofs.Common.{◌≡◌, ◌-◌, ℕ, zero, suc, max, Some, List, [], ◌∷◌, ◌++◌, length, refl}
use Rattle.std.proofs.Common.{ap, ◌∙◌, arith}
use Rattle.std.proofs.Common.{slice_get, None, Option}
use Rattle.std.specs.Prelude.{option_and_then}
use Rattle.std.proofs.lemmas.List.{length-append}
use Rattle.packet_header.specs.declared.packet.ControlHeader.{ControlHeader}
use Rattle.rpc_base.specs.declared.event.Event.{Event}
use Rattle.rpc_base.specs.declared.event.Event.TheVariants.{Polled}
use Rattle.rpc_base.specs.declared.fact.Fact.{Fact}
use Rattle.rpc_laws.specs.declared.tables.Lists.{Lists}
use Rattle.rpc_laws.specs.declared.tables.Timed.{Timed}
use Rattle.rpc_laws.specs.ControlSteps.{AnswersControl, EndsAllOutdated, EndsOutdated, Hears}
use Rattle.rpc_laws.specs.ControlSteps.{HearsAll, Retries}
use Rattle.rpc_laws.specs.ControlSteps.{TakesControl, TimesAll, TimesSession}
use Rattle.rpc_laws.specs.ControlTable.{outdated}
use Rattle.rpc_laws.specs.Facts.{plain}
use Rattle.rpc_laws.specs.GoBackN.{Each, numbers_in, Watches, WatchesSession}
use Rattle.rpc_laws.specs.PollOrder.{Closes, FinishesOne, FinishesSome, Handles, HandlesAll}
use Rattle.rpc_laws.specs.PollOrder.{NoMoreToHandle, Poll}
use Rattle.rpc_laws.specs.PollOrder.{PostsAll, raised, Sends, SendsSome, Serves}
use Rattle.rpc_laws.specs.Posting.{next_begun, next_posted}
use Rattle.rpc_laws.specs.Steps.{Chain, Goes, more, none, NotesAll, NotesNext, Rel, Then, Until}
use Rattle.rpc_laws.specs.Steps.{Visits}
use Rattle.rpc_outside.specs.declared.service.Mode.{Mode}
use Rattle.front_laws.proofs.PollFacts.{Ending, poll-ending}
use Rattle.poll_steps.specs.Polling.{end_clock, last_clock}

abbrev pub KeepsClock : Rel → Type 0
KeepsClock P = (s : Timed) (x : List Fact) (t : Timed) → P s x t → t.clock ≡ s.clock

goes-clock : (s : Timed) (x : List Fact) (t : Timed) → Goes s x t → t.clock ≡ s.clock
goes-clock s x t g = ap (λ (u : Timed). u.clock) g

then-clock : (P Q : Rel) → KeepsClock P → KeepsClock Q → KeepsClock (Then P Q)
then-clock P Q p q s x t h = q h.between h.back t h.second ∙ p s h.front h.between h.first

chain-clock : (P : Rel) → KeepsClock P → (s : Timed) {x : List Fact} {t : Timed} → Chain P s x t
    → t.clock ≡ s.clock
chain-clock P p s none = refl
chain-clock P p s (more {x} {t} c y u h) = p t y u h ∙ chain-clock P p s c

until-clock : (P : Rel) (Over : Timed → Type 0) → KeepsClock P → KeepsClock (Until P Over)
until-clock P Over p s x t h = chain-clock P p s h.steps

visits-clock : (P : ℕ → Rel) → ((i : ℕ) → KeepsClock (P i)) → (n : ℕ) → KeepsClock (Visits P n)
visits-clock P p zero s x t h = ap (λ (u : Timed). u.clock) h.1
visits-clock P p (suc n) s x t h = then-clock (Visits P n) (P n) (visits-clock P p n) (p n) s x t h

each-clock : (P : ℕ → Rel) → ((i : ℕ) → KeepsClock (P i)) → (ns : List ℕ) → KeepsClock (Each P ns)
each-clock P p [] s x t h = ap (λ (u : Timed). u.clock) h.1
each-clock P p (n ∷ ns) s x t h = then-clock (P n) (Each P ns) (p n) (each-clock P p ns) s x t h

finishes-clock : KeepsClock FinishesSome
finishes-clock s x t h =
    chain-clock FinishesOne (λ s x t h. goes-clock s x t h.finishes.goes) s h

hears-clock : KeepsClock HearsAll
hears-clock =
    until-clock Hears (λ t. t.lists.inbox ≡ [])
    (λ s x t h. steps h.front.peer h.header s x t h.steps)
  where
    steps : (peer : ℕ) (h : ControlHeader)
        → KeepsClock (Then TakesControl (Then (EndsAllOutdated peer h) (AnswersControl peer h)))
    steps peer h =
        then-clock TakesControl (Then (EndsAllOutdated peer h) (AnswersControl peer h))
        (λ s x t a. goes-clock s x t a.goes)
        (then-clock (EndsAllOutdated peer h) (AnswersControl peer h)
        (until-clock (EndsOutdated peer h) (λ t. outdated peer h t.lists ≡ None)
        (λ s x t a. goes-clock s x t a.goes))
        (λ s x t a. goes-clock s x t a.goes))

handles-clock : (mode : ℕ → Mode) → KeepsClock (HandlesAll mode)
handles-clock mode = until-clock (Handles mode) NoMoreToHandle (λ s x t h. goes-clock s x t h.goes)

watches-clock : (timeout i : ℕ) → KeepsClock (WatchesSession timeout i)
watches-clock timeout i s x t h =
    each-clock (Watches timeout i) (λ n s x t h. goes-clock s x t h.goes)
    (numbers_in (slice_get s.lists.clients i)) s x t h

times-clock : KeepsClock TimesAll
times-clock s x t h =
    visits-clock (TimesSession s.lists.timeout)
    (λ i. then-clock (Retries s.lists.timeout i) (WatchesSession s.lists.timeout i)
    (λ s x t h. goes-clock s x t h.goes) (watches-clock s.lists.timeout i))
    (length s.lists.clients) s x t h

notes-clock : (next : Lists → Option Event) → KeepsClock (NotesAll next)
notes-clock next =
    until-clock (NotesNext next) (λ t. next t.lists ≡ None) (λ s x t h. goes-clock s x t h.goes)

posts-clock : KeepsClock PostsAll
posts-clock s x t h =
    visits-clock Serves
    (λ i. then-clock (NotesAll (next_begun i)) (NotesAll (next_posted i))
    (notes-clock (next_begun i)) (notes-clock (next_posted i)))
    (length s.lists.clients) s x t h

sends-clock : KeepsClock SendsSome
sends-clock s x t h = chain-clock Sends (λ s x t h. goes-clock s x t h.goes) s h

closes-clock : KeepsClock Closes
closes-clock s x t h = goes-clock s x t h.goes

-- a poll raises the clock, and leaves it so
pub poll-clock : (mode : ℕ → Mode) (now : ℕ) (s : Timed) (x : List Fact) (t : Timed)
    → Poll mode now s x t
    → t.clock ≡ max s.clock now
poll-clock mode now s x t h =
    let sending = then-clock SendsSome Closes sends-clock closes-clock in
    let posting = then-clock PostsAll (Then SendsSome Closes) posts-clock sending in
    let timers = then-clock TimesAll (Then PostsAll (Then SendsSome Closes)) times-clock posting in
    let ring = then-clock (HandlesAll mode) (Then TimesAll (Then PostsAll (Then SendsSome Closes)))
    (handles-clock mode) timers in
    let inbox = then-clock HearsAll
    (Then (HandlesAll mode) (Then TimesAll (Then PostsAll (Then SendsSome Closes)))) hears-clock
    ring in
    then-clock FinishesSome
    (Then HearsAll (Then (HandlesAll mode) (Then TimesAll (Then PostsAll (Then SendsSome Closes)))))
    finishes-clock inbox (raised now s) x t h

-- the last of some facts
at-end : (x : List Fact) (f : Fact) → slice_get (x ++ f ∷ []) (length (x ++ f ∷ []) - 1) ≡ Some f
at-end x f =
    let long = length-append x (f ∷ []) in
    let place : length (x ++ f ∷ []) - 1 ≡ length x = omega (arith, long) in
    ap (slice_get (x ++ f ∷ [])) place ∙ behind x f
  where
    behind : (x : List Fact) (f : Fact) → slice_get (x ++ f ∷ []) (length x) ≡ Some f
    behind [] f = refl
    behind (g ∷ x) f = behind x f

-- so its last fact tells it
pub poll-tells : (mode : ℕ → Mode) (now : ℕ) (s : Timed) (x : List Fact) (t : Timed)
    → Poll mode now s x t
    → last_clock x ≡ Some (max s.clock now)
poll-tells mode now s x t h =
    let e : Ending s.lists.me x t = poll-ending mode now s.lists.me s x t refl h in
    let end : Fact = plain s.lists.me (Polled t.clock) in
    let last : last_clock (e.front ++ end ∷ []) ≡ Some t.clock =
    ap (option_and_then (λ (f : Fact). end_clock f.event)) (at-end e.front end) in
    ap last_clock e.joined ∙ (last ∙ ap Some (poll-clock mode now s x t h))
