-- The front packet of the inbox is handled, its answer is handed to the link, and then the next.
use Rattle.std.proofs.Common.{◌≡◌, ℕ, ◌+◌, ◌≤◌, Bool, true, false, ◌||◌, Option, Some}
use Rattle.std.proofs.Common.{None, List, [], ◌∷◌, ◌++◌, Result, Ok, Err, refl, sym, ap, subst}
use Rattle.std.proofs.Common.{◌∙◌, append-nil, append_assoc, length, arith}
use Rattle.std.specs.Prelude.{count_by, drop, option_map, slice_get, IfOk, IfSome, OnErr}
use Rattle.std.specs.List.{AllByRecursion}
use Rattle.packet_header.specs.Header.{AreBytes, ControlInRange, Spells}
use Rattle.packet_header.specs.Ranges.{Within, lives}
use Rattle.packet_header.specs.declared.packet.ControlHeader.{ControlHeader}
use Rattle.packet_header.specs.declared.packet.Packet.TheVariants.{Control as ControlPacket}
use Rattle.packet_header.proofs.Readings.{spells-decoded}
use Rattle.rpc_base.specs.Owners.{same_owner}
use Rattle.rpc_base.specs.Tables.{without_first}
use Rattle.rpc_base.specs.declared.event.Event.{Event}
use Rattle.rpc_base.specs.declared.event.Event.TheVariants.{Ended, Flushed, Heard}
use Rattle.rpc_base.specs.declared.fact.Fact.{Fact}
use Rattle.rpc_base.specs.declared.limits.TheConstants.{SESSION_NUMBERS}
use Rattle.rpc_base.specs.declared.owner.Owner.{Owner}
use Rattle.rpc_base.specs.declared.owner.Owner.TheVariants.{Ask, Control, Reply}
use Rattle.rpc_laws.specs.declared.tables.Arrival.{Arrival}
use Rattle.rpc_laws.specs.declared.tables.Client.{Client}
use Rattle.rpc_laws.specs.declared.tables.Lists.{Lists}
use Rattle.rpc_laws.specs.declared.tables.Queued.{Queued}
use Rattle.rpc_laws.specs.declared.tables.Timed.{Timed}
use Rattle.rpc_laws.specs.ControlSteps.{AnswersControl, EndsAllOutdated, EndsOutdated, Hears}
use Rattle.rpc_laws.specs.ControlSteps.{SpeaksIf, TakesControl, control_fact}
use Rattle.rpc_laws.specs.ControlTable.{control_facts, control_row}
use Rattle.rpc_laws.specs.Facts.{plain}
use Rattle.rpc_laws.specs.Lives.{life_in, raised_by}
use Rattle.rpc_laws.specs.Front.{control_in, control_of}
use Rattle.rpc_laws.specs.NodeLists.{after, after_all}
use Rattle.rpc_laws.specs.Queues.{is_queued}
use Rattle.rpc_laws.specs.Requests.{is_server}
use Rattle.rpc_laws.specs.Sessions.{clients_told}
use Rattle.rpc_laws.specs.Steps.{Chain, Goes, Rel, Then, Until, more, none}
use Rattle.rpc_laws.proofs.RunLemmas.{after_all-append, me-after_all}
use Rattle.node_laws.specs.Valid.{to_come}
use Rattle.memory_count.specs.Faults.{HasCause, HasRisen, HasRisenBy}
use Rattle.memory_count.proofs.Risen.{both-risen, none-risen}
use Rattle.rpc_outside.specs.Linking.{Carried}
use Rattle.rpc_outside.specs.Recording.{Grew, Log}
use Rattle.rpc_outside.specs.declared.service.Mode.{Mode}
use Rattle.rpc_outside.specs.declared.link.Link as Link
use Rattle.server_core.proofs.FlushLemmas.{grew-none, grew-then}
use Rattle.node_steps.specs.Changes.{◌⟶◌, Change}
use Rattle.node_steps.specs.ControlRows.{Controls, Spoke, was_taken}
use Rattle.node_steps.specs.Counts.{is_handled, is_sent}
use Rattle.node_steps.specs.Fits.{Fits, HasCredit, IsSendable, is_of_call}
use Rattle.node_steps.specs.Inboxes.{IsFront}
use Rattle.node_steps.specs.Control.{Handles, Listens, told_of}
use Rattle.node_steps.specs.Lacks.{is_lack, lacks_in}
use Rattle.node_steps.specs.Notes.{Makes, sent_of}
use Rattle.node_steps.specs.Seen.{Asks, asking}
use Rattle.node_steps.specs.Requests.{AllServed}
use Rattle.node_steps.specs.Links.{CountsUnsent, HeldBack, is_unsent, Troubles}
use Rattle.node_steps.specs.Links.{unsent_in, troubles_of}
use Rattle.node_steps.specs.declared.inbox.Heard.{Heard as HeardPacket}
use Rattle.node_steps.specs.declared.told.Listening.{Listening}
use Rattle.node_steps.proofs.ControlAnswers.{IsSilent, StaysBut, answer-in-range, end-stays}
use Rattle.node_steps.proofs.ControlAnswers.{end-still, named-all, row-stays, row-still, row-told}
use Rattle.node_steps.proofs.NoteEnds.{no_asks}
use Rattle.node_steps.proofs.NoteSteps.{makes-then, sent-append, took-none, took-then}
use Rattle.node_steps.proofs.SessionFits.{numbers-below}
use Rattle.node_steps.proofs.SendCounts.{counts-then, held-none, held-still, held-when-busy}
use Rattle.node_steps.proofs.SendCounts.{held-when-failed}
use Rattle.node_steps.proofs.NoteStill.{AllStill, Stills, still-chain, still-then}
use Rattle.node_steps.proofs.NoteCounts.{many, many-append, many-none, sent-after}

-- what handling leaves: the receive ring, the requests of the server sessions that are left, and the
-- node's number
record Leaves (s t : Timed) : Type 0 where
  stays : StaysBut s.lists t.lists
  me : t.lists.me ≡ s.lists.me

-- a step that leaves that
abbrev AllLeave : Rel → Type 0
AllLeave P = (s : Timed) (x : List Fact) (t : Timed) → P s x t → Leaves s t

leaves-none : (s : Timed) → Leaves s s
leaves-none s = record { stays = record { ring = refl; served = λ mode all. all }; me = refl }

leaves-more : (s t u : Timed) → Leaves s t → Leaves t u → Leaves s u
leaves-more s t u a b = record {
  stays = record {
    ring = b.stays.ring ∙ a.stays.ring;
    served = λ mode all. b.stays.served mode (a.stays.served mode all);
  };
  me = b.me ∙ a.me;
}

leaves-then : (P Q : Rel) → AllLeave P → AllLeave Q → AllLeave (Then P Q)
leaves-then P Q p q s x t h =
    leaves-more s h.between t (p s h.front h.between h.first) (q h.between h.back t h.second)

leaves-chain : (P : Rel) → AllLeave P → AllLeave (Chain P)
leaves-chain P p s x t none = leaves-none s
leaves-chain P p s x t (more {x = front} {t = between} c y u h) =
    leaves-more s between t (leaves-chain P p s front between c) (p between y t h)

-- what a step leaves by its facts
leaves-goes : (s t : Timed) (x y : List Fact) → Goes s x t → x ≡ y
    → StaysBut s.lists (after_all s.clock s.lists y) → Leaves s t
leaves-goes s t x y goes facts stays =
    let lists : t.lists ≡ after_all s.clock s.lists y =
    ap (λ (u : Timed). u.lists) goes ∙ ap (after_all s.clock s.lists) facts in
    record {
      stays = subst (StaysBut s.lists) (sym lists) stays;
      me = ap (λ (l : Lists). l.me) lists ∙ me-after_all s.clock s.lists y;
    }

-- nothing is handed to the link, and but for the packet none is handled
unsent-silent : IsSilent is_sent
unsent-silent = record {
  flushed = λ o k. refl;
  ended = λ a. refl;
  declined = λ a b c. refl;
  starved = λ a b c. refl;
  accepted = λ a b c d e. refl;
  connected = λ a b c. refl;
  failed = λ a. refl;
  closed = λ a. refl;
}

handled-silent : IsSilent is_handled
handled-silent = record {
  flushed = λ o k. refl;
  ended = λ a. refl;
  declined = λ a b c. refl;
  starved = λ a b c. refl;
  accepted = λ a b c d e. refl;
  connected = λ a b c. refl;
  failed = λ a. refl;
  closed = λ a. refl;
}

unsaid-silent : IsSilent is_unsent
unsaid-silent = record {
  flushed = λ o k. refl;
  ended = λ a. refl;
  declined = λ a b c. refl;
  starved = λ a b c. refl;
  accepted = λ a b c d e. refl;
  connected = λ a b c. refl;
  failed = λ a. refl;
  closed = λ a. refl;
}

module _ (peer : ℕ) (h : ControlHeader) (reply : Option ControlHeader) (memory : Change ℕ) where
  takes-leave : AllLeave TakesControl
  takes-leave s x t k =
      leaves-goes s t x _ k.goes k.facts (record { ring = refl; served = λ mode all. all })

  ends-leave : AllLeave (EndsAllOutdated peer h)
  ends-leave s x t k =
      leaves-chain (EndsOutdated peer h) (λ a y b e. leaves-goes a b y _ e.goes e.facts
      (end-stays a.clock a.lists a.lists.me (Some e.server))) s x t k.steps

  controls-leave : AllLeave (Controls peer h reply memory)
  controls-leave s x t k =
      leaves-goes s t x _ k.by.goes k.by.facts
      (row-stays s.clock s.lists peer h (control_row k.lacks peer h s.lists))

  handles-leave : AllLeave (Handles peer h reply memory)
  handles-leave =
      leaves-then TakesControl (Then (EndsAllOutdated peer h) (Controls peer h reply memory))
      takes-leave (leaves-then (EndsAllOutdated peer h) (Controls peer h reply memory) ends-leave
      controls-leave)

  -- an event that none of its steps notes after the Heard
  ends-still : (q : Event → Bool) → ((o : Owner) (k : ℕ) → q (Flushed o k) ≡ false)
      → ((t : ℕ) → q (Ended t) ≡ false) → Stills q (EndsAllOutdated peer h)
  ends-still q flushed ended s x t k =
      still-chain q (EndsOutdated peer h) (λ a y b e. rw e.facts (end-still q flushed ended
      a.lists.me a.lists.queued (Some e.server))) s x t k.steps

  rest-still : (q : Event → Bool) → IsSilent q
      → Stills q (Then (EndsAllOutdated peer h) (Controls peer h reply memory))
  rest-still q silent = still-then q (EndsAllOutdated peer h) (Controls peer h reply memory)
      (ends-still q silent.flushed silent.ended)
      (λ s x t k. rw k.by.facts (row-still q silent s.lists peer h
      (control_row k.lacks peer h s.lists)))

  module _ (s t : Timed) (x : List Fact) (p : Handles peer h reply memory s x t) where
    parts : x ≡ plain s.lists.me Heard ∷ p.back
    parts = p.joined ∙ ap (λ (y : List Fact). y ++ p.back) p.first.facts

    back-still : (q : Event → Bool) → IsSilent q → AllStill q p.back
    back-still q silent = rest-still q silent p.between p.back t p.second

    pub handled-ring : t.lists.ring ≡ s.lists.ring
    handled-ring = (handles-leave s x t p).stays.ring

    pub handled-served : (mode : ℕ → Mode) → AllServed mode s.lists.servers
        → AllServed mode t.lists.servers
    handled-served = (handles-leave s x t p).stays.served

    pub handled-me : t.lists.me ≡ s.lists.me
    handled-me = (handles-leave s x t p).me

    -- one packet is counted, and nothing is handed to the link
    sent-still : AllStill is_sent x
    sent-still = subst (AllStill is_sent) (sym parts) (refl, back-still is_sent unsent-silent)

    pub handled-one : many is_handled x ≡ 1
    handled-one =
        ap (many is_handled) parts
        ∙ many-append is_handled (plain s.lists.me Heard ∷ []) p.back
        ∙ ap (λ n. 1 + n) (many-none is_handled p.back (back-still is_handled handled-silent))

    pub handled-sent : many is_sent x ≡ 0
    handled-sent = many-none is_sent x sent-still

    pub handled-unsent : unsent_in x ≡ 0
    handled-unsent =
        ap unsent_in parts
        ∙ many-append is_unsent (plain s.lists.me Heard ∷ []) p.back
        ∙ ap (λ n. 0 + n) (many-none is_unsent p.back (back-still is_unsent unsaid-silent))

    -- a session that isn't made for want of memory has a refusal
    pub handled-lacks : HasRisenBy (lacks_in x) memory.old memory.new
    handled-lacks =
        let ends = p.second.front in
        let back = p.second.back in
        let first : lacks_in x ≡ 0 + lacks_in p.back =
        ap lacks_in parts ∙ many-append is_lack (plain s.lists.me Heard ∷ []) p.back in
        let rest : lacks_in p.back ≡ lacks_in ends + lacks_in back =
        ap lacks_in p.second.joined ∙ many-append is_lack ends back in
        let none : lacks_in ends ≡ 0 =
        many-none is_lack ends (ends-still is_lack (λ o k. refl) (λ n. refl) p.between ends
        p.second.between p.second.first) in
        let same : lacks_in x ≡ lacks_in back = omega (arith, first, rest, none) in
        subst (λ (n : ℕ). HasRisenBy n memory.old memory.new) (sym same) p.second.second.wants

    pub handled-took : (y : List Fact) → sent_of (x ++ y) ≡ sent_of y
    handled-took y = sent-after x y sent-still

    pub handled-none : sent_of x ≡ []
    handled-none = ap sent_of (sym (append-nil x)) ∙ handled-took []

-- no control packet is queued
not-control : (o : Owner) → is_of_call o ≡ true → same_owner o Control ≡ false
not-control (Ask s r) e = refl
not-control (Reply t r) e = refl
not-control Control e = cc

none-control : (qs : List Queued) → AllByRecursion IsSendable qs
    → without_first (is_queued Control 0) qs ≡ qs
none-control [] all = refl
none-control (q ∷ qs) all =
    rw (not-control q.owner all.0.0) (ap (λ (rs : List Queued). q ∷ rs) (none-control qs all.1))

-- with other greatest known lives
abbrev pub with-known : List ℕ → Timed → Timed
with-known known s = record s { lists = record s.lists { known = known } }

-- so but for a life that comes to be known the lists stay where an answer is handed to the link
said-same : (clock me peer : ℕ) (head : List ℕ) (l : Lists) (taken : Bool)
    → AllByRecursion IsSendable l.queued
    → clients_told clock (control_of head) l.clients ≡ l.clients
    → after clock l (control_fact taken me peer head)
    ≡ record l { known = raised_by peer (life_in (control_of head)) l.known }
said-same clock me peer head l false sendable told = refl
said-same clock me peer head l true sendable told =
    let known = raised_by peer (life_in (control_of head)) l.known in
    ap (λ (qs : List Queued). record l {
      queued = qs;
      clients = clients_told clock (control_of head) l.clients;
      known = known;
    }) (none-control l.queued sendable)
    ∙ ap (λ (xs : List Client). record l { clients = xs; known = known }) told

-- the last step of a packet that is heard, behind the others
heard-by : (s t u : Timed) (x z : List Fact) (front : Arrival) (h : ControlHeader)
    → slice_get s.lists.inbox 0 ≡ Some front → control_of front.bytes ≡ Some h
    → (reply : Option ControlHeader) (memory : Change ℕ)
    → (p : Handles front.peer h reply memory s x t)
    → AnswersControl front.peer h p.second.between (p.second.back ++ z) u → Hears s (x ++ z) u
heard-by s t u x z front h is_front reads reply memory p answers = record {
  front = front;
  is_front = is_front;
  header = h;
  reads = reads;
  steps = record {
    between = p.between;
    front = p.front;
    back = p.back ++ z;
    joined = ap (λ (y : List Fact). y ++ z) p.joined ∙ append_assoc p.front p.back z;
    first = p.first;
    second = record {
      between = p.second.between;
      front = p.second.front;
      back = p.second.back ++ z;
      joined = ap (λ (y : List Fact). y ++ z) p.second.joined
          ∙ append_assoc p.second.front p.second.back z;
      first = p.second.first;
      second = answers;
    };
  };
}

module _ (h : ControlHeader) (s t : Timed) (x : List Fact) (front : Arrival)
    (is_front : slice_get s.lists.inbox 0 ≡ Some front) (reads : control_of front.bytes ≡ Some h)
    (memory : Change ℕ) where
  -- there is no answer
  silent-at : Handles front.peer h None memory s x t → Hears s x t
  silent-at p =
      let last = p.second.second in
      let u = p.second.between in
      let back = p.second.back in
      subst (λ (y : List Fact). Hears s y t) (append-nil x)
      (heard-by s t t x [] front h is_front reads None memory p (record {
        lacks = last.lacks;
        said = [];
        speaks = subst (λ (o : Option ControlHeader). SpeaksIf u.lists.me front.peer o [])
            last.by.answer refl;
        facts = ap (λ (y : List Fact). y ++ []) last.by.facts;
        goes = subst (λ (y : List Fact). Goes u y t) (sym (append-nil back)) last.by.goes;
      }))

  -- there is one
  module _ (r : ControlHeader) (head : List ℕ) (taken : Bool) (bytes : AreBytes head)
      (spells : Spells (ControlPacket r) head)
      (sendable : AllByRecursion IsSendable t.lists.queued) where
    abbrev fact : Fact
    fact = control_fact taken s.lists.me front.peer head

    header : control_of head ≡ Some r
    header = ap control_in (spells-decoded (ControlPacket r) head spells)

    abbrev then_known : Timed
    then_known = with-known (raised_by front.peer (life_in (Some r)) t.lists.known) t

    answers : (u : Timed) (z : List Fact) → u.lists.me ≡ s.lists.me
        → Controls front.peer h (Some r) memory u z t
        → AnswersControl front.peer h u (z ++ fact ∷ []) then_known
    answers u z me k =
        let peer = front.peer in
        let row = control_row k.lacks peer h u.lists in
        let lists : t.lists ≡ after_all u.clock u.lists (control_facts u.lists peer h row) =
        ap (λ (v : Timed). v.lists) k.by.goes ∙ ap (after_all u.clock u.lists) k.by.facts in
        let told : clients_told u.clock (control_of head) t.lists.clients ≡ t.lists.clients =
        rw (header, lists) (row-told u.clock k.lacks peer u.lists.life h r u.lists k.by.answer) in
        let said : after u.clock t.lists fact
        ≡ record t.lists { known = raised_by peer (life_in (Some r)) t.lists.known } =
        said-same u.clock s.lists.me peer head t.lists taken sendable told
        ∙ ap (λ (o : Option ControlHeader). record t.lists {
          known = raised_by peer (life_in o) t.lists.known;
        }) header in
        let now : after_all u.clock u.lists (z ++ fact ∷ [])
        ≡ record t.lists { known = raised_by peer (life_in (Some r)) t.lists.known } =
        after_all-append u.clock u.lists z (fact ∷ [])
        ∙ ap (λ (v : Timed). after u.clock v.lists fact) (sym k.by.goes) ∙ said in
        let clock : t.clock ≡ u.clock = ap (λ (v : Timed). v.clock) k.by.goes in
        record {
          lacks = k.lacks;
          said = fact ∷ [];
          speaks = subst (λ (o : Option ControlHeader). SpeaksIf u.lists.me peer o (fact ∷ []))
              k.by.answer (record {
                taken = taken;
                head = head;
                bytes = bytes;
                spells = spells;
                facts = ap (λ n. control_fact taken n peer head ∷ []) (sym me);
              });
          facts = ap (λ (y : List Fact). y ++ fact ∷ []) k.by.facts;
          goes = ap (λ (n : ℕ). record { lists = then_known.lists; clock = n }) clock
              ∙ ap (λ (l : Lists). record { lists = l; clock = u.clock }) (sym now);
        }

    said-at : Handles front.peer h (Some r) memory s x t → Hears s (x ++ fact ∷ []) then_known
    said-at p =
        let u = p.second.between in
        let before = leaves-more s p.between u
        (takes-leave front.peer h (Some r) memory s p.front p.between p.first)
        (ends-leave front.peer h (Some r) memory p.between p.second.front u p.second.first) in
        heard-by s t then_known x (fact ∷ []) front h is_front reads (Some r) memory p
        (answers u p.second.back before.me p.second.second)

module _ (peer : ℕ) (h : ControlHeader) (s t : Timed) (x : List Fact) (front : Arrival)
    (is_front : slice_get s.lists.inbox 0 ≡ Some front) (from : peer ≡ front.peer)
    (reads : control_of front.bytes ≡ Some h) (memory : Change ℕ) where
  hears-silent : Handles peer h None memory s x t → Hears s x t
  hears-silent =
      subst (λ (n : ℕ). Handles n h None memory s x t → Hears s x t) (sym from)
      (silent-at h s t x front is_front reads memory)

  hears-said : (r : ControlHeader) (head : List ℕ) (taken : Bool) → AreBytes head
      → Spells (ControlPacket r) head → AllByRecursion IsSendable t.lists.queued
      → Handles peer h (Some r) memory s x t
      → Hears s (x ++ control_fact taken s.lists.me peer head ∷ [])
      (with-known (raised_by peer (life_in (Some r)) t.lists.known) t)
  hears-said r head taken bytes spells sendable =
      subst (λ (n : ℕ). Handles n h (Some r) memory s x t
      → Hears s (x ++ control_fact taken s.lists.me n head ∷ [])
      (with-known (raised_by n (life_in (Some r)) t.lists.known) t)) (sym from)
      (said-at h s t x front is_front reads memory r head taken bytes spells sendable)

-- the link was handed one packet
said-counts : {E : Type 0} (me peer : ℕ) (head : List ℕ) (x : List Fact) (k l : Troubles)
    → (result : Result Bool E) → unsent_in x ≡ 0 → HasCause k.faults l.faults result
    → IfOk result (λ went. went ≡ false → HasRisen k.busies l.busies)
    → IfOk result (λ went. went ≡ true → l.busies ≡ k.busies) → OnErr result (l.busies ≡ k.busies)
    → CountsUnsent (x ++ control_fact (was_taken result) me peer head ∷ []) (told_of result).failed
    k l
said-counts me peer head x k l (Ok true) nothing cause busy went fault =
    let all : many is_unsent (x ++ control_fact true me peer head ∷ []) ≡ many is_unsent x + 0 =
    many-append is_unsent x (control_fact true me peer head ∷ []) in
    record {
      held = subst (λ (n : ℕ). HeldBack n k l) (sym (omega (arith, all, nothing)))
          (held-still k l cause (went refl));
      cause = cause;
    }
said-counts me peer head x k l (Ok false) nothing cause busy went fault =
    let all : many is_unsent (x ++ control_fact false me peer head ∷ []) ≡ many is_unsent x + 1 =
    many-append is_unsent x (control_fact false me peer head ∷ []) in
    record {
      held = subst (λ (n : ℕ). HeldBack n k l) (sym (omega (arith, all, nothing)))
          (held-when-busy k l cause (busy refl));
      cause = cause;
    }
said-counts me peer head x k l (Err why) nothing cause busy went fault =
    let all : many is_unsent (x ++ control_fact false me peer head ∷ []) ≡ many is_unsent x + 1 =
    many-append is_unsent x (control_fact false me peer head ∷ []) in
    record {
      held = subst (λ (n : ℕ). HeldBack n k l) (sym (omega (arith, all, nothing)))
          (held-when-failed k l cause fault);
      cause = cause;
    }

said-heard : {E : Type 0} (me peer : ℕ) (head : List ℕ) (x : List Fact) (result : Result Bool E)
    → many is_handled x ≡ 1
    → (told_of result).heard
    ≡ many is_handled (x ++ control_fact (was_taken result) me peer head ∷ [])
said-heard me peer head x (Ok true) one =
    let all : many is_handled (x ++ control_fact true me peer head ∷ []) ≡ many is_handled x + 0 =
    many-append is_handled x (control_fact true me peer head ∷ []) in
    omega (arith, all, one)
said-heard me peer head x (Ok false) one =
    let all : many is_handled (x ++ control_fact false me peer head ∷ []) ≡ many is_handled x + 0 =
    many-append is_handled x (control_fact false me peer head ∷ []) in
    omega (arith, all, one)
said-heard me peer head x (Err why) one =
    let all : many is_handled (x ++ control_fact false me peer head ∷ []) ≡ many is_handled x + 0 =
    many-append is_handled x (control_fact false me peer head ∷ []) in
    omega (arith, all, one)

said-sent : {E : Type 0} (me peer : ℕ) (head : List ℕ) (x : List Fact) (result : Result Bool E)
    → many is_sent x ≡ 0
    → (told_of result).sent ≡ many is_sent (x ++ control_fact (was_taken result) me peer head ∷ [])
said-sent me peer head x (Ok true) nothing =
    let all : many is_sent (x ++ control_fact true me peer head ∷ []) ≡ many is_sent x + 1 =
    many-append is_sent x (control_fact true me peer head ∷ []) in
    omega (arith, all, nothing)
said-sent me peer head x (Ok false) nothing =
    let all : many is_sent (x ++ control_fact false me peer head ∷ []) ≡ many is_sent x + 0 =
    many-append is_sent x (control_fact false me peer head ∷ []) in
    omega (arith, all, nothing)
said-sent me peer head x (Err why) nothing =
    let all : many is_sent (x ++ control_fact false me peer head ∷ []) ≡ many is_sent x + 0 =
    many-append is_sent x (control_fact false me peer head ∷ []) in
    omega (arith, all, nothing)

-- and that is no want of memory
said-lacks : (me peer : ℕ) (head : List ℕ) (x : List Fact) (taken : Bool)
    → lacks_in (x ++ control_fact taken me peer head ∷ []) ≡ lacks_in x
said-lacks me peer head x true =
    let all : many is_lack (x ++ control_fact true me peer head ∷ []) ≡ many is_lack x + 0 =
    many-append is_lack x (control_fact true me peer head ∷ []) in
    omega (arith, all)
said-lacks me peer head x false =
    let all : many is_lack (x ++ control_fact false me peer head ∷ []) ≡ many is_lack x + 0 =
    many-append is_lack x (control_fact false me peer head ∷ []) in
    omega (arith, all)

-- the front of the inbox is taken out
abbrev pub unheard : Timed → Timed
unheard s = record s { lists = record s.lists { inbox = drop 1 s.lists.inbox } }

-- Heard is noted, then the ends of what is outdated, and then what the row notes
pub makes-handled : {R : Type 0} (log : R → Log) (peer : ℕ)
    (h : ControlHeader) (reply : Option ControlHeader) (memory : Change ℕ) (s u t : Timed)
    (before mid late now : R)
    → Grew (log before) (log mid) (plain s.lists.me Heard ∷ [])
    → Makes log (EndsAllOutdated peer h) (unheard s) u mid late
    → Makes log (Controls peer h reply memory) u t late now
    → Makes log (Handles peer h reply memory) s t before now
makes-handled log peer h reply memory s u t before mid late now grew ends p =
    makes-then log TakesControl (Then (EndsAllOutdated peer h) (Controls peer h reply memory)) s
    (unheard s) t before mid now
    (record {
      noted = plain s.lists.me Heard ∷ [];
      grew = grew;
      step = λ asks. record { facts = refl; goes = refl };
    })
    (makes-then log (EndsAllOutdated peer h) (Controls peer h reply memory) (unheard s) u t mid
    late now ends p)

module _ {R L : Type 0} (log : R → Log)
    (net : Link.Ghosts L) where
  module _ (hp : HeardPacket) (s t : Timed) (memory : Change ℕ)
      (front : IsFront s.lists.inbox hp) where
    -- there is no answer
    pub listens-silent : (before now : R) (k : L)
        → Makes log (Handles hp.peer hp.head None memory) s t before now
        → Listens log net Hears (record { heard = 1; sent = 0; failed = false }) (s ⟶ t)
        (before ⟶ now) (k ⟶ k) memory
    listens-silent before now k p =
        let one = p.step no_asks in
        let a : Timed = asking no_asks s in
        let b : Timed = asking no_asks t in
        let own = handled-unsent hp.peer hp.head None memory a b p.noted one in
        record {
          sends = record {
            makes = record {
              noted = p.noted;
              grew = p.grew;
              step = λ asks. hears-silent hp.peer hp.head (asking asks s) (asking asks t) p.noted
                  front.front front.is_front front.peer front.reads memory (p.step asks);
            };
            took = took-none (net.sent k)
                ∙ ap (λ (xs : List Carried). option_map (λ ds. ds ++ xs) (net.sent k))
                (sym (handled-none hp.peer hp.head None memory a b p.noted one));
          };
          heard = sym (handled-one hp.peer hp.head None memory a b p.noted one);
          went = sym (handled-sent hp.peer hp.head None memory a b p.noted one);
          counts = record {
            held = subst (λ (n : ℕ). HeldBack n (troubles_of net k) (troubles_of net k)) (sym own)
                (held-none (troubles_of net k));
            cause = refl;
          };
          wants = handled-lacks hp.peer hp.head None memory a b p.noted one;
        }

    -- there is one, which is handed to the link
    pub listens-said : {E : Type 0} (r : ControlHeader) (result : Result Bool E) (me : ℕ)
        (before mid now : R) (k l : L) → AllByRecursion IsSendable t.lists.queued → me ≡ s.lists.me
        → Makes log (Handles hp.peer hp.head (Some r) memory) s t before mid
        → Spoke log net.sent me hp.peer r (was_taken result) (mid ⟶ now) (k ⟶ l)
        → HasCause (troubles_of net k).faults (troubles_of net l).faults result
        → IfOk result (λ went. went ≡ false → HasRisen (troubles_of net k).busies (troubles_of net l).busies)
        → IfOk result (λ went. went ≡ true → (troubles_of net l).busies ≡ (troubles_of net k).busies)
        → OnErr result ((troubles_of net l).busies ≡ (troubles_of net k).busies)
        → Listens log net Hears (told_of result)
        (s ⟶ with-known (raised_by hp.peer (life_in (Some r)) t.lists.known) t) (before ⟶ now)
        (k ⟶ l) memory
    listens-said r result me before mid now k l sendable is p spoke cause busy went fault =
        let one = p.step no_asks in
        let taken = was_taken result in
        let said : Fact = control_fact taken me hp.peer spoke.head in
        let a : Timed = asking no_asks s in
        let b : Timed = asking no_asks t in
        record {
          sends = record {
            makes = record {
              noted = p.noted ++ said ∷ [];
              grew = grew-then log before mid now p.noted (said ∷ []) p.grew spoke.grew;
              step = λ asks. subst
                  (λ n. Hears (asking asks s) (p.noted ++ control_fact taken n hp.peer spoke.head ∷ [])
                  (asking asks (with-known (raised_by hp.peer (life_in (Some r)) t.lists.known) t)))
                  (sym is)
                  (hears-said hp.peer hp.head (asking asks s) (asking asks t) p.noted front.front
                  front.is_front front.peer front.reads memory r spoke.head taken spoke.bytes
                  spoke.spells sendable (p.step asks));
            };
            took = spoke.took ∙ ap (λ (xs : List Carried). option_map (λ ds. ds ++ xs) (net.sent k))
                (sym (handled-took hp.peer hp.head (Some r) memory a b p.noted one (said ∷ [])));
          };
          heard = said-heard me hp.peer spoke.head p.noted result
              (handled-one hp.peer hp.head (Some r) memory a b p.noted one);
          went = said-sent me hp.peer spoke.head p.noted result
              (handled-sent hp.peer hp.head (Some r) memory a b p.noted one);
          counts = said-counts me hp.peer spoke.head p.noted (troubles_of net k) (troubles_of net l) result
              (handled-unsent hp.peer hp.head (Some r) memory a b p.noted one) cause busy went
              fault;
          wants = subst (λ (n : ℕ). HasRisenBy n memory.old memory.new)
              (sym (said-lacks me hp.peer spoke.head p.noted taken))
              (handled-lacks hp.peer hp.head (Some r) memory a b p.noted one);
        }

  -- one packet after another
  pub listens-none : (P : Rel) (a : Timed) (r : R) (l : L) (n : ℕ)
      → Listens log net (Chain P) (record { heard = 0; sent = 0; failed = false }) (a ⟶ a) (r ⟶ r)
      (l ⟶ l) (n ⟶ n)
  listens-none P a r l n = record {
    sends = record {
      makes = record { noted = []; grew = grew-none log r; step = λ asks. none };
      took = took-none (net.sent l);
    };
    heard = refl;
    went = refl;
    counts = record { held = held-none (troubles_of net l); cause = refl };
    wants = none-risen n;
  }

  pub listens-more : (P : Rel) (p q t : Listening) (a b c : Timed) (f g h : R) (k l m : L)
      (u v w : ℕ) → t.heard ≡ p.heard + q.heard → t.sent ≡ p.sent + q.sent
      → t.failed ≡ (p.failed || q.failed)
      → Listens log net (Chain P) p (a ⟶ b) (f ⟶ g) (k ⟶ l) (u ⟶ v)
      → Listens log net P q (b ⟶ c) (g ⟶ h) (l ⟶ m) (v ⟶ w)
      → Listens log net (Chain P) t (a ⟶ c) (f ⟶ h) (k ⟶ m) (u ⟶ w)
  listens-more P p q t a b c f g h k l m u v w heard went failed x y =
      let xs = x.sends.makes.noted in
      let ys = y.sends.makes.noted in
      record {
        sends = record {
          makes = record {
            noted = xs ++ ys;
            grew = grew-then log f g h xs ys x.sends.makes.grew y.sends.makes.grew;
            step = λ asks. more (x.sends.makes.step asks) ys (asking asks c)
                (y.sends.makes.step asks);
          };
          took = y.sends.took
              ∙ ap (option_map (λ ds. ds ++ sent_of ys)) x.sends.took
              ∙ took-then (net.sent k) (sent_of xs) (sent_of ys)
              ∙ ap (λ (zs : List Carried). option_map (λ ds. ds ++ zs) (net.sent k))
              (sym (sent-append xs ys));
        };
        heard = omega (arith, heard, x.heard, y.heard, many-append is_handled xs ys);
        went = omega (arith, went, x.went, y.went, many-append is_sent xs ys);
        counts = rw failed (counts-then xs ys p.failed q.failed (troubles_of net k) (troubles_of net l)
            (troubles_of net m) x.counts y.counts);
        wants = subst (λ (n : ℕ). HasRisenBy n u w) (sym (many-append is_lack xs ys))
            (both-risen (lacks_in xs) (lacks_in ys) u v w x.wants y.wants);
      }

  pub listens-until : (P : Rel) (Over : Timed → Type 0) (t : Listening) (a b : Timed) (f g : R)
      (k l : L) (memory : Change ℕ) → Listens log net (Chain P) t (a ⟶ b) (f ⟶ g) (k ⟶ l) memory
      → ((asks : Asks) → Over (asking asks b))
      → Listens log net (Until P Over) t (a ⟶ b) (f ⟶ g) (k ⟶ l) memory
  listens-until P Over t a b f g k l memory p over = record {
    sends = record {
      makes = record {
        noted = p.sends.makes.noted;
        grew = p.sends.makes.grew;
        step = λ asks. record { steps = p.sends.makes.step asks; over = over asks };
      };
      took = p.sends.took;
    };
    heard = p.heard;
    went = p.went;
    counts = p.counts;
    wants = p.wants;
  }

-- what an answer is taken from is in range
pub record CanAnswer (s : Lists) : Type 0 where
  pub alive : Within lives s.life
  pub alone : (t : ℕ) → count_by (is_server t) s.servers + to_come s.server_numbers t ≤ 1
  pub few : s.server_numbers ≤ SESSION_NUMBERS
  pub credits : AllByRecursion HasCredit s.servers

pub can-answer : (s : Timed) (size places : ℕ) → Fits s size places → CanAnswer s.lists
can-answer s size places fits = record {
  alive = fits.alive;
  alone = fits.kept.valid.alone;
  few = fits.server_numbers;
  credits = fits.credits;
}

-- so it is
pub answer-range : {R : Type 0} (log : R → Log) (peer : ℕ)
    (h : ControlHeader) (memory : Change ℕ) (a b : Timed) (before now : R)
    (reply : Option ControlHeader) → ControlInRange h → CanAnswer a.lists
    → Makes log (Controls peer h reply memory) a b before now
    → IfSome reply (λ r. ControlInRange r)
answer-range log peer h memory a b before now None range can p = tt
answer-range log peer h memory a b before now (Some r) range can p =
    let one = p.step no_asks in
    let s = a.lists in
    let named = named-all s.server_numbers s.servers can.few
    (numbers-below s.server_numbers s.servers can.alone) can.credits in
    answer-in-range one.lacks peer h (asking no_asks a).lists named s.life r can.alive range
    one.by.answer

-- what handling a packet leaves, whoever records it
module _ {R : Type 0} (log : R → Log) (peer : ℕ)
    (h : ControlHeader) (reply : Option ControlHeader) (memory : Change ℕ) (s t : Timed)
    (before now : R) (p : Makes log (Handles peer h reply memory) s t before now) where
  abbrev one : Handles peer h reply memory (asking no_asks s) p.noted (asking no_asks t)
  one = p.step no_asks

  pub made-ring : t.lists.ring ≡ s.lists.ring
  made-ring = handled-ring peer h reply memory (asking no_asks s) (asking no_asks t) p.noted one

  pub made-me : t.lists.me ≡ s.lists.me
  made-me = handled-me peer h reply memory (asking no_asks s) (asking no_asks t) p.noted one

  pub made-served : (mode : ℕ → Mode) → AllServed mode s.lists.servers
      → AllServed mode t.lists.servers
  made-served = handled-served peer h reply memory (asking no_asks s) (asking no_asks t) p.noted one

-- no packet waits
pub none-waits : (inbox : List Arrival) → length inbox ≡ 0 → inbox ≡ []
none-waits [] e = refl
none-waits (a ∷ inbox) e = absurd (omega (arith, e))
