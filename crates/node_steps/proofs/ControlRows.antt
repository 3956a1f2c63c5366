-- What a row of the control rule does at a node.
use Rattle.std.proofs.Common.{◌≡◌, ℕ, ◌<◌, Bool, true, false, not, ◌||◌, Option, Some, None}
use Rattle.std.proofs.Common.{[], ◌∷◌, length, refl, sym, ap, subst, ◌∙◌, arith}
use Rattle.std.specs.Prelude.{option_map, slice_get}
use Rattle.std.proofs.lemmas.Option.{slice_get_within}
use Rattle.rpc_base.specs.declared.event.Event.{Event}
use Rattle.rpc_base.specs.declared.limits.TheConstants.{SESSION_NUMBERS}
use Rattle.rpc_base.specs.declared.state.SessionState.{SessionState}
use Rattle.rpc_base.specs.declared.state.SessionState.TheVariants.{Closing, Connecting}
use Rattle.packet_header.specs.Header.{ControlInRange, IsServer}
use Rattle.packet_header.specs.declared.packet.ControlHeader.{ControlHeader}
use Rattle.packet_header.specs.declared.packet.ControlKind.{ControlKind}
use Rattle.packet_header.specs.declared.packet.ControlKind.TheVariants.{ConnectRequest}
use Rattle.packet_header.specs.declared.packet.ControlKind.TheVariants.{ConnectReply}
use Rattle.packet_header.specs.declared.packet.ControlKind.TheVariants.{DisconnectRequest}
use Rattle.packet_header.specs.declared.packet.ControlKind.TheVariants.{DisconnectReply}
use Rattle.rpc_laws.specs.declared.rows.ControlRow.{ControlRow}
use Rattle.rpc_laws.specs.declared.rows.ControlRow.TheVariants.{Closes, Connects, Ends, Fails}
use Rattle.rpc_laws.specs.declared.tables.Client.{Client}
use Rattle.rpc_laws.specs.declared.tables.Jobs.{Jobs}
use Rattle.rpc_laws.specs.declared.tables.Lists.{Lists}
use Rattle.rpc_laws.specs.declared.tables.Timed.{Timed}
use Rattle.rpc_laws.specs.ControlTable.{control_facts, control_reply, control_row, control_row_of}
use Rattle.rpc_laws.specs.ControlSteps.{EndsOutdated}
use Rattle.rpc_laws.specs.ControlTable.{named_end, outdated, outdated_by, session_end}
use Rattle.rpc_laws.specs.Facts.{plain}
use Rattle.rpc_laws.specs.Groups.{has_no_room, server_refusal, servers_spent, told_state}
use Rattle.rpc_laws.specs.Steps.{Goes, NotesNext}
use Rattle.memory_count.specs.Faults.{HasRisenBy}
use Rattle.memory_count.proofs.Risen.{none-risen}
use Rattle.rpc_outside.specs.Recording.{Grew, Log}
use Rattle.node_laws.specs.Valid.{NumberedFrom, client_no}
use Rattle.server_core.proofs.FlushLemmas.{grew-none}
use Rattle.session_mgmt.specs.Control.{ChangesOwn, accepts, found_in, own_end}
use Rattle.session_mgmt.specs.declared.control.OwnEnd.{OwnEnd}
use Rattle.session_store.specs.Changes.{IsInState}
use Rattle.node_steps.specs.Changes.{Change}
use Rattle.node_steps.specs.ControlRows.{Acts, Controls}
use Rattle.node_steps.specs.Ends.{ending}
use Rattle.node_steps.specs.Fits.{IsCredit}
use Rattle.node_steps.specs.Lacks.{lacks_in}
use Rattle.node_steps.specs.Notes.{Makes}
use Rattle.node_steps.specs.Seen.{Asks, asking}
use Rattle.node_steps.specs.Timers.{Notes}
use Rattle.node_steps.proofs.CallSteps.{client-by}
use Rattle.node_steps.proofs.CallStates.{told-closing, told-connecting}
use Rattle.node_steps.proofs.ControlAnswers.{lacks-row, row_lacks}
use Rattle.node_steps.proofs.ControlRemoval.{server-there}

-- a row that is done is a step of the control rule, whatever the jobs that are out ask
module _ {R : Type 0} (log : R → Log) (before now : R) (peer : ℕ) (h : ControlHeader)
    (row : ControlRow) (s t : Timed) where
  row-by : (lacks : Bool) (asks : Asks) (kind : ControlKind)
      → control_row_of kind lacks peer h (asking asks s).lists
      ≡ control_row_of kind lacks peer h s.lists
  row-by lacks asks ConnectRequest = refl
  row-by lacks asks ConnectReply = refl
  row-by lacks asks DisconnectRequest = refl
  row-by lacks asks DisconnectReply = refl

  pub acts-controls : (memory : Change ℕ) (lacks : Bool) → control_row lacks peer h s.lists ≡ row
      → HasRisenBy (row_lacks row) memory.old memory.new
      → Makes log (Acts row peer h) s t before now
      → Makes log (Controls peer h (control_reply s.lists.life h row) memory) s t before now
  acts-controls memory lacks is risen made = record {
    noted = made.noted;
    grew = made.grew;
    step = λ asks.
        let step = made.step asks in
        let it : control_row lacks peer h (asking asks s).lists ≡ row =
        row-by lacks asks h.kind ∙ is in
        record {
          lacks = lacks;
          by = rw it (record {
            facts = step.facts;
            answer = refl;
            goes = step.goes;
          });
          wants = subst (λ (n : ℕ). HasRisenBy n memory.old memory.new)
              (sym (ap lacks_in step.facts ∙ lacks-row (asking asks s).lists peer h row)) risen;
        };
  }

  -- an event is noted
  pub acts-noted : (next : Lists → Option Event) (e : Event)
      → ((asks : Asks) → next (asking asks s).lists ≡ Some e)
      → ((asks : Asks) → control_facts (asking asks s).lists peer h row ≡ plain s.lists.me e ∷ [])
      → Makes log (NotesNext next) s t before now → Makes log (Acts row peer h) s t before now
  acts-noted next e is facts-are made = record {
    noted = made.noted;
    grew = made.grew;
    step = λ asks.
        let step = made.step asks in
        record {
          facts = step.facts ∙ ap (λ (d : Event). plain s.lists.me d ∷ [])
              (some-same step.event e (sym step.is_next ∙ is asks)) ∙ sym (facts-are asks);
          goes = step.goes;
        };
  }
    where
      some-same : (a b : Event) → Some a ≡ Some b → a ≡ b
      some-same a b e = cc

-- a row that wants no memory
pub wants-none : (n : ℕ) (row is : ControlRow) → row ≡ is → row_lacks is ≡ 0
    → HasRisenBy (row_lacks row) n n
wants-none n row is same none =
    subst (λ (k : ℕ). HasRisenBy k n n) (sym (ap row_lacks same ∙ none)) (none-risen n)

-- an event is noted by which nothing changes
pub acts-told : {R : Type 0} (log : R → Log) (before now : R) (peer : ℕ) (h : ControlHeader)
    (row : ControlRow) (s : Timed) (e : Event)
    → ((asks : Asks) → control_facts (asking asks s).lists peer h row ≡ plain s.lists.me e ∷ [])
    → ((asks : Asks) → Goes (asking asks s) (plain s.lists.me e ∷ []) (asking asks s))
    → Grew (log before) (log now) (plain s.lists.me e ∷ [])
    → Makes log (Acts row peer h) s s before now
acts-told log before now peer h row s e facts-are goes grew = record {
  noted = plain s.lists.me e ∷ [];
  grew = grew;
  step = λ asks. record { facts = sym (facts-are asks); goes = goes asks };
}

-- nothing is noted, and nothing changes
pub acts-none : {R : Type 0} (log : R → Log) (r : R) (peer : ℕ) (h : ControlHeader)
    (row : ControlRow) (s : Timed)
    → ((asks : Asks) → control_facts (asking asks s).lists peer h row ≡ [])
    → Makes log (Acts row peer h) s s r r
acts-none log r peer h row s none = record {
  noted = [];
  grew = grew-none log r;
  step = λ asks. record { facts = sym (none asks); goes = refl };
}

-- a client session that a packet names is there, in this state
pub record IsThere (state : SessionState) (i : ℕ) (s : Lists) : Type 0 where
  pub known : i < length s.clients
  pub stands : IsInState state (slice_get s.clients i)

module _ (peer : ℕ) (h : ControlHeader) (s : Lists) (numbered : NumberedFrom client_no 0 s.clients)
  where
    own-there : (state : SessionState)
        → ((was : SessionState) (asked : ℕ) → told_state was asked ≡ state → was ≡ state)
        → (own : OwnEnd) → (found_in peer h s).own ≡ Some own → own.state ≡ state
        → IsThere state h.client s
    own-there state back own found is =
        by (slice_get s.clients h.client) refl
        (ap (option_map own_end) (client-by s.clients h.client h.client numbered refl) ∙ found)
      where
        some-same : (a b : OwnEnd) → Some a ≡ Some b → a ≡ b
        some-same a b e = cc

        by : (o : Option Client) → slice_get s.clients h.client ≡ o
            → option_map own_end o ≡ Some own → IsThere state h.client s
        by None place e = cc
        by (Some x) place e = record {
          known = slice_get_within s.clients h.client x place;
          stands = rw place (back x.state x.asked
              (ap (λ (w : OwnEnd). w.state) (some-same (own_end x) own e) ∙ is));
        }

    pub connects-there : (t : ℕ) → ChangesOwn (Connects t) h (found_in peer h s)
        → IsThere Connecting h.client s
    connects-there t c = own-there Connecting told-connecting c.own c.found c.cause.0

    pub fails-there : ChangesOwn Fails h (found_in peer h s) → IsThere Connecting h.client s
    fails-there c = own-there Connecting told-connecting c.own c.found c.cause

    pub closes-there : ChangesOwn Closes h (found_in peer h s) → IsThere Closing h.client s
    closes-there c = own-there Closing told-closing c.own c.found c.cause

-- a server session that a packet names has a number
pub named-below : (h : ControlHeader) (t : ℕ) → ControlInRange h → h.server ≡ Some t
    → t < SESSION_NUMBERS
named-below h t range named = by _ h.server range.server named
  where
    some-same : (a b : ℕ) → Some a ≡ Some b → a ≡ b
    some-same a b e = cc

    by : (b : Bool) (o : Option ℕ) → IsServer b o → o ≡ Some t → t < SESSION_NUMBERS
    by true (Some u) within e = omega (arith, within.1, some-same u t e)
    by true None within e = absurd within
    by false (Some u) within e = absurd within
    by false None within e = cc

-- a session that is accepted isn't refused
pub accepts-fits : (peer : ℕ) (h : ControlHeader) (s : Lists)
    → accepts h.credits (found_in peer h s) ≡ true → server_refusal h.credits s ≡ None
accepts-fits peer h s takes = by (has_no_room h.credits s) (servers_spent s) refl refl takes
  where
    by : (full spent : Bool) → has_no_room h.credits s ≡ full → servers_spent s ≡ spent
        → not (full || spent) ≡ true → server_refusal h.credits s ≡ None
    by true spent e f takes = cc
    by false true e f takes = cc
    by false false e f takes = rw (f, e) refl

-- a connect request asks for 1 to 256 credits
pub asked-credits : (h : ControlHeader) → h.kind ≡ ConnectRequest → ControlInRange h
    → IsCredit h.credits
asked-credits h kind range =
    let within = range.credits in rw kind at within

-- a session that a packet outdates ends
pub outdated-ended : {R : Type 0} (log : R → Log) (before now : R) (peer : ℕ) (h : ControlHeader)
    (s t : Timed) (i : ℕ) → i < length s.lists.servers
    → outdated peer h s.lists ≡ slice_get s.lists.servers i
    → Makes log (Notes (ending i)) s t before now → Makes log (EndsOutdated peer h) s t before now
outdated-ended log before now peer h s t i low is made = record {
  noted = made.noted;
  grew = made.grew;
  step = λ asks.
      let step = made.step asks in
      let v = server-there s.lists.servers i low in
      record {
        server = v.server;
        is_outdated = outdated-by (asking asks s).lists h.kind refl refl ∙ is ∙ v.place;
        facts = step.facts ∙ ap (session_end s.lists.me s.lists.queued) v.place;
        goes = step.goes;
      };
}
  where
    outdated-by : (l : Lists) (kind : ControlKind) → l.servers ≡ s.lists.servers
        → l.known ≡ s.lists.known → outdated_by kind peer h l ≡ outdated_by kind peer h s.lists
    outdated-by l ConnectRequest servers known = rw (servers, known) refl
    outdated-by l ConnectReply servers known = refl
    outdated-by l DisconnectRequest servers known = refl
    outdated-by l DisconnectReply servers known = refl

-- none is outdated, whatever jobs are out
pub none-outdated : (peer : ℕ) (h : ControlHeader) (s : Lists) (jobs : Jobs)
    → outdated peer h s ≡ None → outdated peer h (record s { jobs = jobs }) ≡ None
none-outdated peer h s jobs none = outdated-by h.kind ∙ none
  where
    outdated-by : (kind : ControlKind) → outdated_by kind peer h (record s { jobs = jobs })
        ≡ outdated_by kind peer h s
    outdated-by ConnectRequest = refl
    outdated-by ConnectReply = refl
    outdated-by DisconnectRequest = refl
    outdated-by DisconnectReply = refl

-- the session that a packet names ends
pub acts-ended : {R : Type 0} (log : R → Log) (before now : R) (peer : ℕ) (h : ControlHeader)
    (s t : Timed) (i : ℕ)
    → named_end peer h.client h.from_life h.server s.lists.servers ≡ slice_get s.lists.servers i
    → Makes log (Notes (ending i)) s t before now → Makes log (Acts Ends peer h) s t before now
acts-ended log before now peer h s t i named made = record {
  noted = made.noted;
  grew = made.grew;
  step = λ asks.
      let step = made.step asks in
      record {
        facts = step.facts ∙ ap (session_end s.lists.me s.lists.queued) (sym named);
        goes = step.goes;
      };
}
