-- A poll of a node whose worked jobs are finished in their order, and that sends all, is a poll.
use Rattle.std.proofs.Common.{ℕ, List, [], ◌∷◌, ◌++◌, sym, subst, append_assoc, append-nil}
use Rattle.rpc_base.specs.declared.fact.Fact.{Fact}
use Rattle.rpc_outside.specs.declared.service.Mode.{Mode}
use Rattle.rpc_laws.specs.declared.tables.Timed.{Timed}
use Rattle.rpc_laws.specs.declared.tables.WorkedJob.{WorkedJob}
use Rattle.rpc_laws.specs.PollOrder.{Closes, FinishesOne, FinishesSome, HandlesAll, Poll, PollBy}
use Rattle.rpc_laws.specs.PollOrder.{PostsAll, SendsAll, SendsSome, raised}
use Rattle.rpc_laws.specs.ControlSteps.{HearsAll, TimesAll}
use Rattle.rpc_laws.specs.Steps.{Rel, Then, Chain, none, more}
use Rattle.rpc_laws.specs.Working.{FinishesEach, FinishesWorked}

-- each step of P is one of Q
abbrev pub Within : Rel → Rel → Type 0
Within P Q = (s : Timed) (x : List Fact) (t : Timed) → P s x t → Q s x t

pub within-first : (P Q R : Rel) → Within P Q → Within (Then P R) (Then Q R)
within-first P Q R w s x t h =
    record {
      between = h.between;
      front = h.front;
      back = h.back;
      joined = h.joined;
      first = w s h.front h.between h.first;
      second = h.second;
    }

pub within-second : (P Q R : Rel) → Within Q R → Within (Then P Q) (Then P R)
within-second P Q R w s x t h =
    record {
      between = h.between;
      front = h.front;
      back = h.back;
      joined = h.joined;
      first = h.first;
      second = w h.between h.back t h.second;
    }

-- a step, and then a chain
pub chain-cons : (P : Rel) (s : Timed) (w : List Fact) (r : Timed) {y : List Fact} {u : Timed}
    → P s w r → Chain P r y u → Chain P s (w ++ y) u
chain-cons P s w r h none = subst (λ (z : List Fact). Chain P s z r) (sym (append-nil w)) (more none w r h)
chain-cons P s w r h (more {x} {t} c z u k) =
    subst (λ (v : List Fact). Chain P s v u) (append_assoc w x z) (more (chain-cons P s w r h c) z u k)

finishes-each : (ws : List WorkedJob) → Within (FinishesEach ws) FinishesSome
finishes-each [] s x t h =
    subst (λ (u : Timed). Chain FinishesOne s x u) (sym h.1)
    (subst (λ (y : List Fact). Chain FinishesOne s y s) (sym h.0) none)
finishes-each (w ∷ ws) s x t h =
    subst (λ (y : List Fact). Chain FinishesOne s y t) (sym h.joined)
    (chain-cons FinishesOne s h.front h.between
    (record { session = w.session; request = w.request; finishes = h.first })
    (finishes-each ws h.between h.back t h.second))

pub worked-within : (worked : List WorkedJob) → Within (FinishesWorked worked) FinishesSome
worked-within worked s x t h = finishes-each h.done s x t h.finishes

pub sends-within : Within SendsAll SendsSome
sends-within s x t h = h.steps

pub poll-within : (worked : List WorkedJob) (mode : ℕ → Mode) (now : ℕ)
    → Within (PollBy (FinishesWorked worked) SendsAll mode now) (Poll mode now)
poll-within worked mode now s x t h =
    let sending = within-second HearsAll (Then (HandlesAll mode)
    (Then TimesAll (Then PostsAll (Then SendsAll Closes))))
    (Then (HandlesAll mode) (Then TimesAll (Then PostsAll (Then SendsSome Closes))))
    (within-second (HandlesAll mode) (Then TimesAll (Then PostsAll (Then SendsAll Closes)))
    (Then TimesAll (Then PostsAll (Then SendsSome Closes)))
    (within-second TimesAll (Then PostsAll (Then SendsAll Closes))
    (Then PostsAll (Then SendsSome Closes))
    (within-second PostsAll (Then SendsAll Closes) (Then SendsSome Closes)
    (within-first SendsAll SendsSome Closes sends-within)))) in
    let rest = Then HearsAll (Then (HandlesAll mode) (Then TimesAll (Then PostsAll (Then SendsSome Closes)))) in
    let all = within-second (FinishesWorked worked)
    (Then HearsAll (Then (HandlesAll mode)
    (Then TimesAll (Then PostsAll (Then SendsAll Closes))))) rest sending (raised now s) x t
    h in
    within-first (FinishesWorked worked) FinishesSome rest (worked-within worked) (raised now s) x t all
