-- The facts of a step by what it makes of the session, and by the server rule.
use Rattle.std.proofs.Common.{◌≡◌, ◌≢◌, ℕ, ◌%◌, Bool, true, Option, Some, None, List, [], ◌∷◌, ◌++◌}
use Rattle.std.proofs.Common.{length, refl, sym, ap, ◌∙◌}
use Rattle.std.specs.Prelude.{option_map}
use Rattle.std.specs.List.{find}
use Rattle.std.proofs.lemmas.Bool.{eq-eqb}
use Rattle.packet_header.specs.declared.packet.MessageHeader.{MessageHeader}
use Rattle.packet_rings.specs.Values.{EntryValue}
use Rattle.buffer_pool.specs.Pool.{Pool}
use Rattle.rpc_base.specs.Tables.{at_first}
use Rattle.rpc_base.specs.declared.fact.Fact.{Fact}
use Rattle.rpc_base.specs.declared.fact.Who.TheVariants.{Node}
use Rattle.rpc_base.specs.declared.state.DropReason.TheVariants.{NoMemory}
use Rattle.rpc_laws.specs.Requests.{answered, given, in_slot_of, is_request, took_packet}
use Rattle.rpc_laws.specs.ServerTable.{flushes_older, is_last, makes_job, served_facts, took_facts}
use Rattle.rpc_laws.specs.declared.rows.ServerRow.{ServerRow}
use Rattle.rpc_laws.specs.declared.rows.ServerRow.TheVariants.{Drops, Begins, Takes, Repeats}
use Rattle.rpc_laws.specs.declared.tables.Served.{Served as ServedRequest}
use Rattle.rpc_laws.specs.declared.tables.Server.{Server}
use Rattle.rpc_outside.specs.declared.service.Mode.{Mode}
use Rattle.server_core.specs.Flushing.{flushed_facts, queued_of}
use Rattle.server_core.specs.Noting.{IsByRule, step_facts}
use Rattle.server_core.specs.Rows.{row_of}
use Rattle.server_core.specs.Session.{IsSession, Session, is_in_slot, newest}
use Rattle.server_core.specs.Shown.{shown, shown_request}
use Rattle.server_core.specs.Steps.{HasTaken, IsAgain, IsAsking, IsStepOf, Steps, asked_with, gave, ran, took}
use Rattle.server_core.specs.declared.slot.SlotRequest.{SlotRequest}
use Rattle.server_core.specs.declared.step.Step.{Step}
use Rattle.server_core.specs.declared.step.Step.TheVariants.{Took, Again, Ran, Give, Dropped}
use Rattle.server_core.proofs.FoundLemmas.{found-shown}
use Rattle.server_core.proofs.StepLemmas.{asked-begun, none-shown}
use Rattle.server_core.proofs.TableLemmas.{row-begins}

-- a packet that is taken
module _ (h : MessageHeader) (body : List ℕ) (v : Server) where
  abbrev pub takes : Server
  takes = record v { slots = took_packet h.request (Some h) body v.slots }

  abbrev changes : (ServedRequest → ServedRequest) → Server
  changes f = record v { slots = at_first (is_request h.request) f takes.slots }

  took-is : took h body v ≡ takes ∷ []
  took-is = rw (eq-eqb v.way.number v.way.number refl) refl

  ran-is : (a : List ℕ) → ran h body a v ≡ changes (answered a) ∷ []
  ran-is a = rw (took-is, eq-eqb v.way.number v.way.number refl) refl

  gave-is : gave h body v ≡ changes given ∷ []
  gave-is = rw (took-is, eq-eqb v.way.number v.way.number refl) refl

  one-way : (x w : Server) → x ∷ [] ≡ w ∷ [] → x.way ≡ v.way → w.way ≡ v.way
  one-way x w e same = let is : x ≡ w = cc in ap (λ (y : Server). y.way) (sym is) ∙ same

  -- a step keeps the session's numbers and its peer
  pub way-of : (w : Server) (step : Step) (answer : List ℕ) → Steps step answer h body v w
      → w.way ≡ v.way
  way-of w (Took reply) answer steps = one-way takes w (sym took-is ∙ steps) refl
  way-of w (Again reply) answer steps = ap (λ (x : Server). x.way) steps
  way-of w (Ran reply) answer steps =
      one-way (changes (answered answer)) w (sym (ran-is answer) ∙ steps) refl
  way-of w (Give parcel) answer steps = one-way (changes given) w (sym gave-is ∙ steps) refl
  way-of w (Dropped why) answer steps = ap (λ (x : Server). x.way) steps

  pub number-of : (w : Server) (step : Step) (answer : List ℕ) → Steps step answer h body v w
      → w.way.number ≡ v.way.number
  number-of w step answer steps = ap (λ y. y.number) (way-of w step answer steps)

-- the facts by the server rule
module _ (s : Session) (pool : Pool) (entries : List EntryValue) (h : MessageHeader) (body : List ℕ)
    (own : h.session ≡ s.number) where
  abbrev v : Server
  v = shown pool s

  older-cases : (me : ℕ) (o : Option SlotRequest) → newest h.request s ≡ o
      → find (in_slot_of h.request) v.slots ≡ option_map (shown_request pool) o
      → flushed_facts (Node me) s.number o entries
      ≡ flushes_older me (queued_of entries) (Some v) h.request
  older-cases me None is found = rw found refl
  older-cases me (Some q) is found = rw found refl

  older-is : (me : ℕ) → flushed_facts (Node me) s.number (newest h.request s) entries
      ≡ flushes_older me (queued_of entries) (Some v) h.request
  older-is me = older-cases me (newest h.request s) refl
      (found-shown (shown_request pool) (in_slot_of h.request) (is_in_slot (h.request % 8))
      (λ x. refl) s.slots)

  abbrev by_step : (me : ℕ) → (answer ask : List ℕ) → Step → List Fact
  by_step me answer ask step = step_facts (Node me) s.number h ask answer step

  by-step : (mode : Mode) (me : ℕ) (answer ask : List ℕ) (want : Bool) (step : Step)
      → HasTaken (is_last h) (makes_job mode h) want step → step ≢ Dropped NoMemory
      → by_step me answer ask step ≡ took_facts mode me answer h ask
  by-step mode me answer ask want (Took reply) last some = rw (own, last) refl
  by-step mode me answer ask want (Again reply) last some = absurd last
  by-step mode me answer ask want (Ran reply) last some = rw (own, last.1, last.0) refl
  by-step mode me answer ask want (Give parcel) last some = rw (own, last) refl
  by-step mode me answer ask want (Dropped why) last some = absurd (some (ap Dropped last.0))

  module _ (mode : Mode) (full : Bool) (sound : IsSession s) (asking : IsAsking h (length body)) where
    abbrev ask : List ℕ
    ask = asked_with h body v

    asked-is : row_of mode full h s ≡ Begins → ask ≡ body
    asked-is is = asked-begun v h body (none-shown pool s h.request sound
        (row-begins mode full h (length body) s asking is).0.newer)

    all-begun : row_of mode full h s ≡ Begins → (me : ℕ) (answer : List ℕ) (step : Step)
        → HasTaken (is_last h) (makes_job mode h) true step → step ≢ Dropped NoMemory
        → flushed_facts (Node me) s.number (newest h.request s) entries
        ++ by_step me answer ask step ≡ served_facts mode me answer (queued_of entries) (Some v) h
        body Begins
    all-begun is me answer step taken some =
        ap (λ fs. fs ++ by_step me answer ask step) (older-is me)
        ∙ ap (λ fs. flushes_older me (queued_of entries) (Some v) h.request ++ fs)
        (by-step mode me answer ask true step taken some
        ∙ ap (λ a. took_facts mode me answer h a) (asked-is is))

    begun : row_of mode full h s ≡ Begins → (step : Step)
        → HasTaken (is_last h) (makes_job mode h) true step
        → IsByRule mode s entries Begins h body v step
    begun is (Took reply) taken = λ me answer some. all-begun is me answer (Took reply) taken some
    begun is (Again reply) taken = absurd taken
    begun is (Ran reply) taken = λ me answer some. all-begun is me answer (Ran reply) taken some
    begun is (Give parcel) taken = λ me answer some. all-begun is me answer (Give parcel) taken some
    begun is (Dropped why) taken = λ me answer some. absurd (some (ap Dropped taken.0))

    again : (step : Step) → IsAgain step → IsByRule mode s entries Repeats h body v step
    again (Took reply) is = absurd is
    again (Again reply) is = λ me answer some. rw own refl
    again (Ran reply) is = absurd is
    again (Give parcel) is = absurd is
    again (Dropped why) is = absurd is

    by-row : (row : ServerRow) → row_of mode full h s ≡ row → (step : Step)
        → IsStepOf mode h row step → IsByRule mode s entries row h body v step
    by-row (Drops why) is step at = λ me answer some. rw at refl
    by-row Begins is step at = begun is step at
    by-row Takes is step at = λ me answer some. by-step mode me answer ask (is_last h) step at some
    by-row Repeats is step at = again step at

    pub by-rule : (step : Step) → IsStepOf mode h (row_of mode full h s) step
        → IsByRule mode s entries (row_of mode full h s) h body v step
    by-rule step at = by-row (row_of mode full h s) refl step at
