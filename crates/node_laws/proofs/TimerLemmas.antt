-- The timer rule notes only what is allowed.
use Rattle.std.proofs.Common.{◌≡◌, ℕ, Bool, true, false, Option, Some, None, List, [], ◌∷◌, refl, sym}
use Rattle.std.proofs.Common.{subst, ap, ◌∙◌}
use Rattle.std.specs.Prelude.{flat_map, length, map, slice_get}
use Rattle.std.specs.List.{AllByRecursion, find}
use Rattle.std.proofs.lemmas.Bool.{eq-eqb, eqb-true}
use Rattle.rpc_base.specs.Tables.{without_first}
use Rattle.rpc_base.specs.declared.event.Event.TheVariants.{Rolled, Broken, DonePeerLost}
use Rattle.rpc_base.specs.declared.owner.Owner.TheVariants.{Ask}
use Rattle.packet_header.specs.declared.packet.ControlHeader.{ControlHeader}
use Rattle.packet_header.specs.declared.packet.ControlKind.TheVariants.{ConnectRequest, DisconnectRequest}
use Rattle.rpc_base.specs.declared.state.SessionState.{SessionState}
use Rattle.rpc_base.specs.declared.state.SessionState.TheVariants.{Unknown, Connecting, Connected}
use Rattle.rpc_base.specs.declared.state.SessionState.TheVariants.{Closing, Closed, Failed}
use Rattle.rpc_base.specs.declared.state.SessionState.TheVariants.{Broken as IsBroken, Spent}
use Rattle.rpc_base.specs.declared.fact.Fact.{Fact}
use Rattle.rpc_laws.specs.declared.rows.RetryRow.{RetryRow}
use Rattle.rpc_laws.specs.declared.rows.RetryRow.TheVariants.{Rests, Asks, GivesUp}
use Rattle.rpc_laws.specs.BufferSafety.{OwnControl}
use Rattle.rpc_laws.specs.ControlSteps.{control_fact, Speaks, given_up, own_request, request_by, retry_row}
use Rattle.rpc_laws.specs.ControlSteps.{RetriesBy, RetriesAs, RetriesOf, Retries, TimesSession}
use Rattle.rpc_laws.specs.ControlSteps.{TimesAll}
use Rattle.rpc_laws.specs.declared.rows.TimerRow.{TimerRow}
use Rattle.rpc_laws.specs.declared.rows.TimerRow.TheVariants.{Waits, RollsBack, Breaks}
use Rattle.rpc_laws.specs.declared.tables.Call.{Call}
use Rattle.rpc_laws.specs.declared.tables.Client.{Client}
use Rattle.rpc_laws.specs.declared.tables.Lists.{Lists}
use Rattle.rpc_laws.specs.declared.tables.Progress.{Progress}
use Rattle.rpc_laws.specs.declared.tables.Queued.{Queued}
use Rattle.rpc_laws.specs.Calls.{is_call}
use Rattle.rpc_laws.specs.Facts.{plain}
use Rattle.rpc_laws.specs.GoBackN.{flushes_of, roll_facts, break_facts, row_facts, row_of}
use Rattle.rpc_laws.specs.GoBackN.{progress_facts, call_facts, client_facts, Watches}
use Rattle.rpc_laws.specs.GoBackN.{WatchesSession, numbers_in}
use Rattle.rpc_laws.specs.NodeLists.{after, after_all}
use Rattle.rpc_laws.specs.Queues.{flush_facts}
use Rattle.rpc_laws.specs.Sessions.{is_client, has_call, is_live, breaks, ends}
use Rattle.rpc_laws.specs.declared.tables.Way.{Way}
use Rattle.node_laws.proofs.Allowed.{NoneQueued, NoneOf, MayRoll, MayBreak, MayLose, IsIn, AllAllowed}
use Rattle.node_laws.proofs.FlushLemmas.{flushes-owner, calls-flushed, no-more-same}
use Rattle.node_laws.proofs.LeadsLemmas.{valid_after_all, allowed-join, Lawful, lawful-goes}
use Rattle.node_laws.proofs.LeadsLemmas.{lawful-then, lawful-visits, lawful-each}
use Rattle.node_laws.proofs.NumberLemmas.{numbered-found, by_number}
use Rattle.node_laws.proofs.QueueLemmas.{flushed-none}
use Rattle.rpc_base.proofs.FirstLemmas.{found-changed}
use Rattle.node_laws.proofs.Places.{Place}
use Rattle.node_laws.specs.Valid.{client_no, Valid}
use Rattle.node_laws.proofs.ValidLemmas.{valid_after}
use Rattle.rpc_base.proofs.TakingLemmas.{find-passes}

-- a call of a session that broke, and what its calls leave when they end
found-first : (number : ℕ) (c : Call) (cs calls : List Call) → number ≡ c.what.number
    → calls ≡ c ∷ cs → find (is_call number) calls ≡ Some c
found-first number c cs calls same e = rw (e, same, eq-eqb c.what.number c.what.number refl) refl

rest-left : (number : ℕ) (c : Call) (cs calls : List Call) → number ≡ c.what.number → calls ≡ c ∷ cs
    → without_first (is_call number) calls ≡ cs
rest-left number c cs calls same e = rw (e, same, eq-eqb c.what.number c.what.number refl) refl

none-of : (n : ℕ) (o : Option Progress) (queued : List Queued) → NoneOf n o queued → (p : Progress)
    → o ≡ Some p → NoneQueued (Ask n p.request) queued
none-of n o queued none p e = rw e at none

lost-allowed : (clock : ℕ) (s : Lists) (me n : ℕ) (y : Client) (cs : List Call) → Valid s
    → find (is_client n) s.clients ≡ Some y → y.calls ≡ cs → is_live y.state ≡ false
    → AllByRecursion (λ c. NoneOf n c.progress s.queued) cs
    → AllAllowed clock s (map (λ c. plain me (DonePeerLost c.what.number)) cs)
lost-allowed clock s me n y [] v found e broken clean = tt
lost-allowed clock s me n y (c ∷ cs) v found e broken clean =
    let number = c.what.number in
    let place : Place s.clients n y c =
    record {
      test = is_call number;
      client = found;
      call = found-first number c cs y.calls refl e;
    } in
    let may : MayLose s number =
    record {
      session = n;
      client = y;
      call = c;
      place = place;
      same = refl;
      broken = broken;
      unqueued = none-of n c.progress s.queued clean.0;
    } in
    let next = after clock s (plain me (DonePeerLost number)) in
    let own = by_number s n y c v place in
    let kept : find (is_client n) next.clients ≡ Some (ends number y) =
    found-changed (has_call number) (ends number)
    (is_client n) y s.clients (find-passes (is_client n) s.clients y found) own.client
    found in (
      may,
      lost-allowed clock next me n (ends number y) cs
          (valid_after clock s (plain me (DonePeerLost number)) v may) kept
          (rest-left number c cs y.calls refl e) broken clean.1,
    )

-- a call is looked at
module _ (clock : ℕ) (s : Lists) (v : Valid s) (x : Client)
    (found : find (is_client x.way.number) s.clients ≡ Some x) (c : Call) (p : Progress)
    (call : find (is_call c.what.number) x.calls ≡ Some c) (active : c.progress ≡ Some p) where
  place : Place s.clients x.way.number x c
  place = record { test = is_call c.what.number; client = found; call = call }

  roll-allowed : AllAllowed clock s (roll_facts s.me x.way.number s.queued c.what.number p)
  unfolding flushes-owner
  roll-allowed =
      let owner = Ask x.way.number p.request in
      let flushes = flushes-owner clock s s.me s.queued owner in
      let may : MayRoll (record s { queued = flushes.queue }) c.what.number p.posted p.got = record {
        session = x.way.number;
        client = x;
        call = c;
        progress = p;
        active = record { place = place; active = active };
        same = refl;
        from = refl;
        back = refl;
        unqueued = flushed-none owner s.queued s.queued (no-more-same s.queued);
      } in
      let last : AllAllowed clock (after_all clock s (flush_facts s.me s.queued owner))
      (plain s.me (Rolled c.what.number p.posted p.got) ∷ []) = rw flushes.same (may, tt) in
      allowed-join clock s (flush_facts s.me s.queued owner)
      (plain s.me (Rolled c.what.number p.posted p.got) ∷ []) flushes.allowed last

  break-allowed : AllAllowed clock s (break_facts s.me s.queued x)
  break-allowed =
      let n = x.way.number in
      let flushing = flat_map (λ c. flushes_of s.me n s.queued c.progress) x.calls in
      let losing = map (λ c. plain s.me (DonePeerLost c.what.number)) x.calls in
      let all = calls-flushed clock s s.me n s.queued x.calls (no-more-same s.queued) in
      let flushed = record s { queued = all.flushes.queue } in
      let sound : Valid (after_all clock s flushing) = valid_after_all clock s flushing v all.flushes.allowed in
      let valid : Valid flushed = rw all.flushes.same at sound in
      let may : MayBreak flushed n = record { client = x; found = found; clean = all.clean } in
      let broken = after clock flushed (plain s.me (Broken n)) in
      let kept : find (is_client n) broken.clients ≡ Some (breaks x) =
      found-changed (is_client n) breaks (is_client n) x s.clients
      (find-passes (is_client n) s.clients x found) found found in
      let lost : AllAllowed clock broken losing =
      lost-allowed clock broken s.me n (breaks x) x.calls
      (valid_after clock flushed (plain s.me (Broken n)) valid may) kept refl refl
      all.clean in
      let rest : AllAllowed clock (after_all clock s flushing) (plain s.me (Broken n) ∷ losing) =
      rw all.flushes.same (may, lost) in
      allowed-join clock s flushing (plain s.me (Broken n) ∷ losing) all.flushes.allowed rest

  row-allowed : (row : TimerRow) → AllAllowed clock s (row_facts s.me s.queued x c.what.number p row)
  row-allowed Waits = tt
  row-allowed RollsBack = roll-allowed
  row-allowed Breaks = break-allowed

module _ (clock timeout : ℕ) (s : Lists) (v : Valid s) where
  progress-allowed : (x : Client) → find (is_client x.way.number) s.clients ≡ Some x → (c : Call)
      → find (is_call c.what.number) x.calls ≡ Some c → (o : Option Progress) → c.progress ≡ o
      → AllAllowed clock s (progress_facts clock timeout s.me s.queued x c.what.number o)
  progress-allowed x found c call None active = tt
  progress-allowed x found c call (Some p) active =
      row-allowed clock s v x found c p call active (row_of clock timeout x.way.number s.queued p)

  call-allowed : (number : ℕ) (x : Client) → find (is_client x.way.number) s.clients ≡ Some x
      → (o : Option Call) → find (is_call number) x.calls ≡ o
      → AllAllowed clock s (call_facts clock timeout s.me s.queued x o)
  call-allowed number x found None call = tt
  call-allowed number x found (Some c) call =
      let same : c.what.number ≡ number =
      eqb-true c.what.number number (find-passes (is_call number) x.calls c call) in
      let own : find (is_call c.what.number) x.calls ≡ Some c =
      subst (λ (n : ℕ). find (is_call n) x.calls ≡ Some c) (sym same) call in
      progress-allowed x found c own c.progress refl

  client-allowed : (i number : ℕ) (o : Option Client) → slice_get s.clients i ≡ o
      → AllAllowed clock s (client_facts clock timeout s.me s.queued number o)
  client-allowed i number None e = tt
  client-allowed i number (Some x) e =
      call-allowed number x (numbered-found client_no 0 i s.clients x v.numbered e)
      (find (is_call number) x.calls) refl

pub watches-lawful : (timeout i number : ℕ) → Lawful (Watches timeout i number)
watches-lawful timeout i number s x t v h =
    lawful-goes s x t h.goes (rw h.facts (client-allowed s.clock timeout s.lists v i number
    (slice_get s.lists.clients i) refl))

session-lawful : (timeout i : ℕ) → Lawful (WatchesSession timeout i)
session-lawful timeout i s x t v h =
    lawful-each (Watches timeout i) (watches-lawful timeout i) (numbers_in (slice_get s.lists.clients i)) s x t v h

-- a packet of session control is sent, where it is the node's own
pub speaks-allowed : (clock : ℕ) (s : Lists) (me peer : ℕ) (h : ControlHeader) (x : List Fact)
    → OwnControl s peer h → Speaks me peer h x → AllAllowed clock s x
speaks-allowed clock s me peer h x own k = rw k.facts (by k.taken)
  where
    by : (b : Bool) → AllAllowed clock s (control_fact b me peer k.head ∷ [])
    by true = (
      record {
        lists = s;
        is_node = refl;
        header = h;
        own = own;
        no_number = refl;
        bytes = k.bytes;
        spells = k.spells;
        whole = refl;
      },
      tt,
    )
    by false = (tt, tt)

-- a session's own request names it
pub own-names : (own : ℕ) (state : SessionState) (way : Way) (credits : ℕ) (h : ControlHeader)
    → request_by own state way credits ≡ Some h → h.client ≡ way.number
own-names own Connecting way credits h e =
    let same : record {
      kind = ConnectRequest;
      client = way.number;
      server = None;
      credits = credits;
      status = 0;
      from_life = own;
      to_life = None;
    } ≡ h = cc in
    ap (λ (c : ControlHeader). c.client) (sym same)
own-names own Closing way credits h e =
    let same : record {
      kind = DisconnectRequest;
      client = way.number;
      server = Some way.other;
      credits = 0;
      status = 0;
      from_life = own;
      to_life = Some way.life;
    } ≡ h = cc in
    ap (λ (c : ControlHeader). c.client) (sym same)
own-names own _ way credits h e = cc

-- a session's own request is sent, or the session gives up
module _ (clock : ℕ) (s : Lists) (me : ℕ) (x : Client)
    (found : find (is_client x.way.number) s.clients ≡ Some x) where
  given-up-allowed : (state : SessionState) → x.state ≡ state
      → AllAllowed clock s (map (plain me) (given_up state x.way.number))
  given-up-allowed Unknown e = tt
  given-up-allowed Connecting e =
      let may : IsIn s Connecting x.way.number = record { client = x; found = found; stands = e } in (may, tt)
  given-up-allowed Connected e = tt
  given-up-allowed Closing e =
      let may : IsIn s Closing x.way.number = record { client = x; found = found; stands = e } in (may, tt)
  given-up-allowed Closed e = tt
  given-up-allowed Failed e = tt
  given-up-allowed IsBroken e = tt
  given-up-allowed Spent e = tt

  asks-own : (h : ControlHeader) → own_request s.life x ≡ Some h → OwnControl s x.way.peer h
  asks-own h own =
      let number = own-names s.life x.state x.way x.limit h own in
      OwnControl.asks x
      (record { found = ap (λ n. find (is_client n) s.clients) number ∙ found; to_peer = refl }) own

  retry-allowed : (h : ControlHeader) (row : RetryRow) (facts : List Fact)
      → own_request s.life x ≡ Some h
      → RetriesBy row me x h facts → AllAllowed clock s facts
  retry-allowed h Rests facts own k = rw k tt
  retry-allowed h Asks facts own k =
      speaks-allowed clock s me x.way.peer h facts (asks-own h own) k
  retry-allowed h GivesUp facts own k = rw k (given-up-allowed x.state refl)

  retries-as : (timeout : ℕ) (o : Option ControlHeader) (facts : List Fact)
      → own_request s.life x ≡ o
      → RetriesAs o clock timeout me x facts → AllAllowed clock s facts
  retries-as timeout None facts own k = rw k tt
  retries-as timeout (Some h) facts own k =
      retry-allowed h (retry_row clock timeout x.sends x.sent_at) facts own k

retries-of : (clock timeout i : ℕ) (s : Lists) (me : ℕ) → Valid s → (o : Option Client)
    → slice_get s.clients i ≡ o → (facts : List Fact) → RetriesOf clock timeout me s.life o facts
    → AllAllowed clock s facts
retries-of clock timeout i s me v None at facts k = rw k tt
retries-of clock timeout i s me v (Some x) at facts k =
    retries-as clock s me x (numbered-found client_no 0 i s.clients x v.numbered at) timeout
    (own_request s.life x) facts refl k

pub retries-lawful : (timeout i : ℕ) → Lawful (Retries timeout i)
retries-lawful timeout i s x t v h =
    lawful-goes s x t h.goes (retries-of s.clock timeout i s.lists s.lists.me v
    (slice_get s.lists.clients i) refl x h.facts)

pub timers-lawful : Lawful TimesAll
timers-lawful s x t v h =
    lawful-visits (TimesSession s.lists.timeout)
    (λ i. lawful-then (Retries s.lists.timeout i) (WatchesSession s.lists.timeout i)
    (retries-lawful s.lists.timeout i) (session-lawful s.lists.timeout i))
    (length s.lists.clients) s x t v h
