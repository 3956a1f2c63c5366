-- A session breaks, from the store to what the node notes.
use Rattle.std.proofs.Common.{◌≡◌, ℕ, ◌+◌, ◌≤◌, Bool, true, false, eqb, Option}
use Rattle.std.proofs.Common.{Some, None, List, [], ◌∷◌, ◌++◌, append-nil, length, refl, sym, ap}
use Rattle.std.proofs.Common.{subst, ◌∙◌, arith}
use Rattle.std.specs.Prelude.{map, slice_get, slice_set}
use Rattle.std.specs.List.{AllByRecursion, filter, find, flat_map, list_any}
use Rattle.std.proofs.lemmas.Bool.{eq-eqb, eqb-true}
use Rattle.std.proofs.lemmas.List.{length-set}
use Rattle.rpc_base.specs.Owners.{same_owner}
use Rattle.rpc_base.specs.Tables.{at_first, without_first}
use Rattle.rpc_base.specs.declared.event.Event.TheVariants.{Broken, Flushed}
use Rattle.rpc_base.specs.declared.fact.Fact.{Fact}
use Rattle.rpc_base.specs.declared.limits.Limits.{Limits}
use Rattle.rpc_base.specs.declared.owner.Owner.{Owner}
use Rattle.rpc_base.specs.declared.owner.Owner.TheVariants.{Ask, Reply, Control}
use Rattle.rpc_base.proofs.BasicLemmas.{or-false}
use Rattle.rpc_base.proofs.FirstLemmas.{found-holds}
use Rattle.rpc_base.proofs.TakingLemmas.{find-passes}
use Rattle.rpc_base.proofs.PlaceLemmas.{all-at, set-here}
use Rattle.packet_rings.specs.Rings.{Ring}
use Rattle.packet_rings.specs.Values.{DatagramValue}
use Rattle.client_core.specs.Shown.{done_fact}
use Rattle.client_core.specs.declared.outcome.Done.{Done}
use Rattle.rpc_outside.specs.Recording.{Grew, Log}
use Rattle.rpc_laws.specs.declared.tables.Call.{Call}
use Rattle.rpc_laws.specs.declared.tables.Client.{Client}
use Rattle.rpc_laws.specs.declared.tables.Jobs.{Jobs}
use Rattle.rpc_laws.specs.declared.tables.Lists.{Lists}
use Rattle.rpc_laws.specs.declared.tables.Pace.{Pace}
use Rattle.rpc_laws.specs.declared.tables.Progress.{Progress}
use Rattle.rpc_laws.specs.declared.tables.Queued.{Queued}
use Rattle.rpc_laws.specs.declared.tables.Timed.{Timed}
use Rattle.rpc_laws.specs.Calls.{has_request, is_active, is_call}
use Rattle.rpc_laws.specs.Facts.{plain}
use Rattle.rpc_laws.specs.GoBackN.{flushes_of}
use Rattle.rpc_laws.specs.NodeLists.{after, after_all}
use Rattle.rpc_laws.specs.Queues.{flush_facts, numbers_of}
use Rattle.rpc_laws.specs.Sessions.{breaks, ends, has_call, is_client, is_live}
use Rattle.node_laws.specs.QueuedPackets.{is_ask_of}
use Rattle.node_laws.specs.Valid.{Valid, client_no, holders}
use Rattle.node_laws.specs.Windows.{InWindow, Inside, Stands, Windows}
use Rattle.node_laws.proofs.Allowed.{AllAllowed, MayBreak, MayLose, NoneOf, NoneQueued}
use Rattle.node_laws.proofs.FlushLemmas.{calls-flushed, no-more-same}
use Rattle.node_laws.proofs.KeptLemmas.{kept-all}
use Rattle.node_laws.proofs.NumberLemmas.{numbered-get}
use Rattle.node_laws.proofs.ValidLemmas.{valid_after}
use Rattle.session_store.specs.Changes.{IsIdle, calls_in}
use Rattle.session_store.specs.Sides.{Shown}
use Rattle.session_ends.proofs.ListLemmas.{all-set, set-own}
use Rattle.node_steps.specs.Given.{Gave}
use Rattle.node_steps.specs.Fits.{CallsAscend, Fits, IsSettled}
use Rattle.node_steps.specs.Notes.{Makes, MakesEnds, is_end}
use Rattle.node_steps.specs.Seen.{Asks, Tallies, asking, asking_jobs, seen_node}
use Rattle.node_steps.specs.Timers.{HasLost, Notes, breaking, breaking_off, broken_with}
use Rattle.node_steps.specs.Timers.{calls_at}
use Rattle.node_steps.specs.Timers.{flushing_all, lost}
use Rattle.node_steps.proofs.PacketReplies.{set-twice}
use Rattle.node_steps.proofs.NoteEnds.{ends-append, ends-join, ends-silent, goes-then}
use Rattle.node_steps.proofs.NoteEnds.{no_asks}
use Rattle.node_steps.specs.Changes.{◌⟶◌}
use Rattle.node_steps.proofs.PostSteps.{first-at, only-at}

-- once the packets of all calls of a session are taken out, none of the session is queued
clean-request : (i r : ℕ) (queued : List Queued) (cs : List Call) (c : Call)
    → AllByRecursion (λ d. NoneOf i d.progress queued) cs → find (is_active r) cs ≡ Some c
    → NoneQueued (Ask i r) queued
clean-request i r queued cs c clean e =
    by c.progress (find-passes (is_active r) cs c e)
    (found-holds (is_active r) (λ (d : Call). NoneOf i d.progress queued) cs c clean e)
  where
    by : (o : Option Progress) → has_request r o ≡ true → NoneOf i o queued
        → NoneQueued (Ask i r) queued
    by None t none = cc
    by (Some p) t none = rw (← (eqb-true p.request r t)) none

module _ (i : ℕ) (xs : List Client) (x : Client) (there : find (is_client i) xs ≡ Some x) where
  abbrev Clear : List Queued → Type 0
  Clear qs = (r : ℕ) (c : Call) → find (is_active r) x.calls ≡ Some c → NoneQueued (Ask i r) qs

  -- a packet of the session would be of an active call
  stands-not : (k r : ℕ) (q : Queued) (qs : List Queued) → q.owner ≡ Ask i r → Clear (q ∷ qs)
      → Stands k r (find (is_client i) xs) → ⊥
  stands-not k r q qs owner clear stands =
      by (find (is_active r) x.calls) refl (rw there at stands)
    where
      by : (o : Option Call) → find (is_active r) x.calls ≡ o → Inside k o → ⊥
      by None e inside = inside
      by (Some c) e inside =
          let none = (or-false (same_owner q.owner (Ask i r)) _ (clear r c e)).0 in
          let own : same_owner q.owner (Ask i r) ≡ true =
          rw (owner, eq-eqb i i refl, eq-eqb r r refl) refl in
          false-true (sym none ∙ own)
        where
          false-true : false ≡ true → ⊥
          false-true t = cc

  idle-owner : (o : Owner) (q : Queued) (qs : List Queued) → q.owner ≡ o → Clear (q ∷ qs)
      → InWindow xs o q.number → is_ask_of i o ≡ false
  idle-owner (Ask s r) q qs e clear stands = by (eqb s i) refl
    where
      by : (b : Bool) → eqb s i ≡ b → b ≡ false
      by false t = refl
      by true t =
          let same = eqb-true s i t in
          absurd (stands-not q.number r q qs (e ∙ ap (λ n. Ask n r) same) clear
          (subst (λ n. Stands q.number r (find (is_client n) xs)) same stands))
  idle-owner (Reply s r) q qs e clear stands = refl
  idle-owner Control q qs e clear stands = refl

  all-idle : (qs : List Queued) → Clear qs → Windows xs qs → IsIdle i qs
  all-idle [] clear windows = refl
  all-idle (q ∷ qs) clear windows =
      rw (idle-owner q.owner q qs refl clear windows.0)
      (all-idle qs (λ r c e. (or-false (same_owner q.owner (Ask i r)) _ (clear r c e)).1) windows.1)

module _ {R : Type 0} (log : R → Log) (i : ℕ) (a b : Timed)
    (f g : R) (made : Makes log (Notes (flushing_all i)) a b f g) where
  flushed-clean : AllByRecursion (λ c. NoneOf i c.progress b.lists.queued) (calls_at i a)
  flushed-clean =
      let all = calls-flushed a.clock (asking no_asks a).lists a.lists.me i a.lists.queued
      (calls_at i a) (no-more-same a.lists.queued) in
      let step = made.step no_asks in
      let queue : b.lists.queued ≡ all.flushes.queue =
      ap (λ (z : Timed). z.lists.queued) step.goes
      ∙ ap (λ (z : List Fact). (after_all a.clock (asking no_asks a).lists z).queued) step.facts
      ∙ ap (λ (l : Lists). l.queued) all.flushes.same in
      rw queue all.clean

  pub flushed-idle : b.lists.clients ≡ a.lists.clients → Valid b.lists
      → Windows b.lists.clients b.lists.queued → IsIdle i b.lists.queued
  flushed-idle clients valid windows = by (slice_get b.lists.clients i) refl
    where
      at-place : slice_get b.lists.clients i ≡ find (is_client i) b.lists.clients
      at-place = numbered-get client_no 0 i i b.lists.clients valid.numbered (omega arith)

      none-there : (qs : List Queued) → find (is_client i) b.lists.clients ≡ None
          → Windows b.lists.clients qs → IsIdle i qs
      none-there [] e w = refl
      none-there (q ∷ qs) e w = rw (owner-by q.owner w.0) (none-there qs e w.1)
        where
          owner-by : (o : Owner) → InWindow b.lists.clients o q.number → is_ask_of i o ≡ false
          owner-by (Ask s r) stands = eq-by (eqb s i) refl
            where
              eq-by : (t : Bool) → eqb s i ≡ t → t ≡ false
              eq-by false h = refl
              eq-by true h =
                  let same = eqb-true s i h in
                  absurd (rw e at (subst (λ n. Stands q.number r
                  (find (is_client n) b.lists.clients)) same stands))
          owner-by (Reply s r) stands = refl
          owner-by Control stands = refl

      by : (o : Option Client) → slice_get b.lists.clients i ≡ o → IsIdle i b.lists.queued
      by None e = none-there b.lists.queued (sym at-place ∙ e) windows
      by (Some x) e =
          let calls : calls_at i a ≡ x.calls =
          ap (λ (xs : List Client). calls_in (slice_get xs i)) (sym clients) ∙ ap calls_in e in
          let clean : AllByRecursion (λ c. NoneOf i c.progress b.lists.queued) x.calls =
          rw calls at flushed-clean in
          all-idle i b.lists.clients x (sym at-place ∙ e) b.lists.queued
          (λ r c f. clean-request i r b.lists.queued x.calls c clean f) windows

-- and so none of any of its calls
idle-clean : (i : ℕ) (queued : List Queued) (cs : List Call) → IsIdle i queued
    → AllByRecursion (λ c. NoneOf i c.progress queued) cs
idle-clean i queued [] idle = tt
idle-clean i queued (c ∷ cs) idle = (by c.progress, idle-clean i queued cs idle)
  where
    owner-of : (o : Owner) (r : ℕ) → is_ask_of i o ≡ false → same_owner o (Ask i r) ≡ false
    owner-of (Ask s q) r e = rw e refl
    owner-of (Reply s q) r e = refl
    owner-of Control r e = refl

    none : (r : ℕ) (qs : List Queued) → IsIdle i qs → NoneQueued (Ask i r) qs
    none r [] e = refl
    none r (q ∷ qs) e =
        let parts = or-false (is_ask_of i q.owner) _ e in
        rw (owner-of q.owner r parts.0) (none r qs parts.1)

    by : (o : Option Progress) → NoneOf i o queued
    by None = tt
    by (Some p) = none p.request queued idle

-- the clients once these calls ended
abbrev ended : List Call → List Client → List Client
ended [] xs = xs
ended (c ∷ cs) xs = ended cs (at_first (has_call c.what.number) (ends c.what.number) xs)

ended-lists : (clock me : ℕ) (cs : List Call) (s : Lists)
    → after_all clock s (map (lost me) cs) ≡ record s { clients = ended cs s.clients }
ended-lists clock me [] s = refl
ended-lists clock me (c ∷ cs) s = ended-lists clock me cs (after clock s (lost me c))

-- one after another, of the session at a place
module _ (clock me i : ℕ) where
  record EndsAll (s : Lists) (y : Client) (cs : List Call) : Type 0 where
    allowed : AllAllowed clock s (map (lost me) cs)
    clients : ended cs s.clients ≡ slice_set s.clients i (record y { calls = [] })

  first-found : (c : Call) (cs calls : List Call) → calls ≡ c ∷ cs
      → find (is_call c.what.number) calls ≡ Some c
  first-found c cs calls e = rw (e, eq-eqb c.what.number c.what.number refl) refl

  rest-left : (c : Call) (cs calls : List Call) → calls ≡ c ∷ cs
      → without_first (is_call c.what.number) calls ≡ cs
  rest-left c cs calls e = rw (e, eq-eqb c.what.number c.what.number refl) refl

  first-listed : (c : Call) (cs calls : List Call) → calls ≡ c ∷ cs
      → list_any (is_call c.what.number) calls ≡ true
  first-listed c cs calls e = rw (e, eq-eqb c.what.number c.what.number refl) refl

  none-of : (o : Option Progress) (queued : List Queued) → NoneOf i o queued → (p : Progress)
      → o ≡ Some p → NoneQueued (Ask i p.request) queued
  none-of o queued none p e = rw e at none

  ends-all : (cs : List Call) (s : Lists) (y : Client) → Valid s → slice_get s.clients i ≡ Some y
      → y.calls ≡ cs → is_live y.state ≡ false
      → AllByRecursion (λ c. NoneOf i c.progress s.queued) cs → EndsAll s y cs
  ends-all [] s y valid place e broken clean = record {
    allowed = tt;
    clients = sym (set-own s.clients i y place)
        ∙ ap (λ (calls : List Call). slice_set s.clients i (record y { calls = calls })) e;
  }
  ends-all (c ∷ cs) s y valid place e broken clean =
      let number = c.what.number in
      let there : find (is_client i) s.clients ≡ Some y =
      sym (numbered-get client_no 0 i i s.clients valid.numbered (omega arith)) ∙ place in
      let may : MayLose s number =
      record {
        session = i;
        client = y;
        call = c;
        place = record { test = is_call number; client = there; call = first-found c cs y.calls e };
        same = refl;
        broken = broken;
        unqueued = none-of c.progress s.queued clean.0;
      } in
      let next = after clock s (lost me c) in
      let few : holders number s.clients ≤ 1 = omega (arith, valid.once number) in
      let changed : next.clients ≡ slice_set s.clients i (ends number y) =
      only-at (ends number) number s.clients i y few place (first-listed c cs y.calls e) in
      let here : slice_get next.clients i ≡ Some (ends number y) =
      ap (λ (xs : List Client). slice_get xs i) changed
      ∙ set-here s.clients i y (ends number y) place in
      let rest = ends-all cs next (ends number y) (valid_after clock s (lost me c) valid may) here
      (rest-left c cs y.calls e) broken clean.1 in
      record {
        allowed = (may, rest.allowed);
        clients = rest.clients
            ∙ ap (λ (xs : List Client). slice_set xs i (record y { calls = [] })) changed
            ∙ set-twice s.clients i (ends number y) (record y { calls = [] });
      }

module _ (me : ℕ) (limits : Limits) (tallies : Tallies) (paces : List Pace) (jobs : Jobs)
    (clock : ℕ) (rx : Ring DatagramValue) (s t : Shown) where
  abbrev seen : Shown → Timed
  seen u = seen_node me limits tallies paces jobs clock rx u

  -- with other jobs
  abbrev seen_with : Jobs → Shown → Timed
  seen_with js u = seen_node me limits tallies paces js clock rx u

  module _ (fits : Fits (seen s) s.size s.places) (i : ℕ) (idle : IsIdle i s.queued) (x : Client)
      (place : slice_get s.clients i ≡ Some x)
      (changed : t.clients ≡ slice_set s.clients i (broken_with x []))
      (servers : t.servers ≡ s.servers) (queued : t.queued ≡ s.queued) where
    abbrev fact : Fact
    fact = plain me (Broken i)

    abbrev mid : Lists
    mid = after clock (seen s).lists fact

    there : find (is_client i) s.clients ≡ Some x
    there =
        sym (numbered-get client_no 0 i i s.clients fits.kept.valid.numbered (omega arith)) ∙ place

    clean : AllByRecursion (λ c. NoneOf i c.progress s.queued) x.calls
    clean = idle-clean i s.queued x.calls idle

    may : MayBreak (seen s).lists i
    may = record { client = x; found = there; clean = clean }

    mid-clients : at_first (is_client i) breaks s.clients ≡ slice_set s.clients i (breaks x)
    mid-clients =
        let same : 0 + i ≡ i = omega arith in
        subst (λ k. at_first (is_client k) breaks s.clients ≡ slice_set s.clients i (breaks x)) same
        (first-at breaks 0 i s.clients x fits.kept.valid.numbered place)

    all : EndsAll clock me i mid (breaks x) x.calls
    all =
        let here : slice_get mid.clients i ≡ Some (breaks x) =
        ap (λ (xs : List Client). slice_get xs i) mid-clients
        ∙ set-here s.clients i x (breaks x) place in
        ends-all clock me i x.calls mid (breaks x)
        (valid_after clock (seen s).lists fact fits.kept.valid may) here refl refl clean

    told : t.clients ≡ ended x.calls (at_first (is_client i) breaks s.clients)
    told = changed
        ∙ sym (set-twice s.clients i (breaks x) (broken_with x []))
        ∙ ap (λ (xs : List Client). slice_set xs i (broken_with x [])) (sym mid-clients)
        ∙ sym all.clients

    noted : List Fact
    noted = fact ∷ map (lost me) x.calls

    goes : (js : Jobs) → seen_with js t
        ≡ record {
          lists = after_all clock (seen_with js s).lists (fact ∷ map (lost me) x.calls);
          clock = clock;
        }
    goes js =
        rw (
          ended-lists clock me x.calls (after clock (seen_with js s).lists fact),
          told,
          servers,
          queued,
        ) refl

    pub fits-broken : t.size ≡ s.size → t.places ≡ s.places → Fits (seen t) t.size t.places
    fits-broken size places = record {
      kept = rw (ap (λ (u : Timed). u.lists) (goes jobs))
          (kept-all clock (seen s).lists (fact ∷ map (lost me) x.calls) fits.kept
          (may, all.allowed));
      ascends = rw changed (all-set CallsAscend s.clients i (broken_with x []) tt
          (λ j z e other. all-at CallsAscend s.clients j z fits.ascends e));
      paces = fits.paces;
      numbers = omega (
        arith,
        ap (λ (zs : List Client). length zs) changed,
        length-set s.clients i (broken_with x []),
        fits.numbers,
      );
      each = omega (
        arith,
        ap (λ (zs : List Client). length zs) changed,
        length-set s.clients i (broken_with x []),
        fits.each,
      );
      settled = rw changed (all-set IsSettled s.clients i (broken_with x [])
          (let was = all-at IsSettled s.clients i x fits.settled place in
          record {
            some = was.some;
            most = was.most;
            life = λ has. cc;
            joined = λ has. cc;
            few = was.few;
            none_left = λ _. refl;
          })
          (λ j z e other. all-at IsSettled s.clients j z fits.settled e));
      credits = rw servers fits.credits;
      sendable = rw queued fits.sendable;
      replies = rw queued fits.replies;
      most = fits.most;
      packets = size ∙ fits.packets;
      jobs = fits.jobs;
      alive = fits.alive;
      server_numbers = fits.server_numbers;
      buffers = places ∙ fits.buffers;
    }

    ends-of : (cs : List Call) → filter is_end (map (lost me) cs) ≡ map (lost me) cs
    ends-of [] = refl
    ends-of (c ∷ cs) = ap (λ fs. lost me c ∷ fs) (ends-of cs)

    pub node-broken : {R K : Type 0} (log : R → Log)
        (given : K → List Done → Type 0) (before now : R) (from to : K)
        → Grew (log before) (log now) (fact ∷ map (lost me) x.calls) → (dones : List Done)
        → map (lost me) x.calls ≡ map (done_fact me) dones
        → Gave given from to dones
        → MakesEnds log given (Notes (breaking i)) (seen s) (seen t) before now from to
    node-broken log given before now from to grew dones ends gave = record {
      makes = record {
        noted = fact ∷ map (lost me) x.calls;
        grew = grew;
        step = λ asks. record {
          facts = ap (λ (o : Option Client). fact ∷ map (lost me) (calls_in o)) (sym place);
          goes = goes (asking_jobs asks jobs);
        };
      };
      dones = dones;
      ends = ends-of x.calls ∙ ends;
      gave = gave;
    }

  module _ {R K : Type 0} (log : R → Log)
      (given : K → List Done → Type 0) (before now : R) (from to : K)
      (fits : Fits (seen s) s.size s.places) (i : ℕ) (idle : IsIdle i s.queued)
      (h : HasLost log given me i [] (s.clients ⟶ t.clients) (before ⟶ now) (from ⟶ to))
      (servers : t.servers ≡ s.servers) (queued : t.queued ≡ s.queued) where
    over : h.over ≡ h.client.calls
    over = sym (h.calls ∙ append-nil h.over)

    pub fits-lost : t.size ≡ s.size → t.places ≡ s.places → Fits (seen t) t.size t.places
    fits-lost size places =
        fits-broken fits i idle h.client h.place h.changed servers queued size places

    pub node-lost : MakesEnds log given (Notes (breaking i)) (seen s) (seen t) before now
        from to
    node-lost =
        node-broken fits i idle h.client h.place h.changed servers queued log given before
        now from to
        (subst (λ (cs : List Call). Grew (log before) (log now)
        (plain me (Broken i) ∷ map (lost me) cs))
        over h.grew) h.dones (ap (λ (cs : List Call). map (lost me) cs) (sym over) ∙ h.ends) h.gave

-- no call ends while packets are taken out
none-ends : (me : ℕ) (o : Owner) (ks : List ℕ)
    → filter is_end (map (λ k. plain me (Flushed o k)) ks) ≡ []
none-ends me o [] = refl
none-ends me o (k ∷ ks) = none-ends me o ks

pub flush-silent : (me : ℕ) (queued : List Queued) (o : Owner)
    → filter is_end (flush_facts me queued o) ≡ []
flush-silent me queued o = none-ends me o (numbers_of o queued)

flushes-silent : (me i : ℕ) (queued : List Queued) (cs : List Call)
    → filter is_end (flat_map (λ c. flushes_of me i queued c.progress) cs) ≡ []
flushes-silent me i queued [] = refl
flushes-silent me i queued (c ∷ cs) =
    ends-append (flushes_of me i queued c.progress)
    (flat_map (λ d. flushes_of me i queued d.progress) cs)
    ∙ ap (λ fs. fs ++ filter is_end (flat_map (λ d. flushes_of me i queued d.progress) cs))
    (by c.progress)
    ∙ flushes-silent me i queued cs
  where
    by : (o : Option Progress) → filter is_end (flushes_of me i queued o) ≡ []
    by None = refl
    by (Some p) = flush-silent me queued (Ask i p.request)

-- the end of a session, whole
pub broken-whole : {R K : Type 0} (log : R → Log)
    (given : K → List Done → Type 0) (i : ℕ) (a b c : Timed) (f g h : R) (k l : K)
    → b.lists.me ≡ a.lists.me → b.lists.clients ≡ a.lists.clients
    → Makes log (Notes (flushing_all i)) a b f g
    → MakesEnds log given (Notes (breaking i)) b c g h k l
    → MakesEnds log given (Notes (breaking_off i)) a c f h k l
broken-whole log given i a b c f g h k l me clients p q =
    ends-join log given (Notes (flushing_all i)) (Notes (breaking i))
    (Notes (breaking_off i)) a b c f g h k k l me
    (λ asks x y s t. record {
      facts = rw (s.facts, t.facts) (ap (λ fs. flushing_all i (asking asks a) ++ fs) (same asks));
      goes = goes-then (asking asks a) (asking asks b) (asking asks c) x y s.goes t.goes;
    })
    (ends-silent log given (flushing_all i) a b f g k
    (flushes-silent a.lists.me i a.lists.queued (calls_at i a)) p) q
  where
    same : (asks : Asks) → breaking i (asking asks b) ≡ breaking i (asking asks a)
    same asks =
        ap (λ m. plain m (Broken i) ∷ map (lost m) (calls_at i b)) me
        ∙ ap (λ (xs : List Client). plain a.lists.me (Broken i)
        ∷ map (lost a.lists.me) (calls_in (slice_get xs i))) clients
