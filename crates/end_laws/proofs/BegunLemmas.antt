-- A call that is asked, and one that begins.
use Rattle.std.proofs.Common.{◌≡◌, ◌<◌, ◌≤◌, ◌+◌, ◌*◌, ◌==◌, ◌||◌, ℕ, Bool, true, false, cond, List}
use Rattle.std.proofs.Common.{[], ◌∷◌, length, Some, None, slice_get, refl, sym, ap, ◌∙◌, subst}
use Rattle.std.proofs.Common.{arith, eq-eqb, Contains}
use Rattle.std.specs.Prelude.{◌%◌, slice_index}
use Rattle.std.specs.List.{find, list_any, slice_set}
use Rattle.std.proofs.lemmas.Bool.{eqb-true, eqb-false}
use Rattle.std.proofs.lemmas.List.{get_or-set_same, get_or-set_other}
use Rattle.std.proofs.lemmas.Option.{slice_get_within}
use Rattle.packet_header.proofs.PartsLemmas.{packet_count_above}
use Rattle.rpc_base.specs.Tables.{at_first}
use Rattle.rpc_base.proofs.TakingLemmas.{find-passes}
use Rattle.rpc_base.specs.declared.event.Event.TheVariants.{Asked, Begun}
use Rattle.rpc_laws.specs.declared.tables.Asking.{Asking}
use Rattle.rpc_laws.specs.declared.tables.Call.{Call}
use Rattle.rpc_laws.specs.declared.tables.Client.{Client}
use Rattle.rpc_laws.specs.declared.tables.Lists.{Lists}
use Rattle.rpc_laws.specs.declared.tables.Way.{Way}
use Rattle.rpc_laws.specs.Calls.{is_call, is_waiting, begun}
use Rattle.rpc_laws.specs.NodeLists.{after}
use Rattle.rpc_laws.specs.Posting.{next_turn}
use Rattle.rpc_laws.specs.Sessions.{is_client, has_call, turned, begins, asks}
use Rattle.node_laws.proofs.Allowed.{Allowed as Lawful, MayAsk}
use Rattle.node_laws.specs.Valid.{Valid}
use Rattle.rpc_laws.specs.OwnAnswer.{AreEnds}
use Rattle.end_laws.proofs.Allowed.{MayBegin}
use Rattle.end_laws.proofs.ClientLemmas.{connected-joined, found-same, has-joined, is-joined}
use Rattle.end_laws.proofs.GoodLemmas.{SameAt, client-more, run-left, starts-stay}
use Rattle.end_laws.proofs.Known.{Known, Later, Asker, Begin, is_joined, IsJoined, Tied, StartOf}
use Rattle.end_laws.proofs.Known.{GoodCall, GoodClient, GoodNode}
use Rattle.end_laws.proofs.Known.{TrueStart, TrueAsk, IsTrue, added, added-here, added-keeps}
use Rattle.end_laws.proofs.Known.{added-none, added-case, contains-here, contains-more}
use Rattle.end_laws.proofs.KnownLemmas.{run-more, call-later, servers-later, jobs-later, tied-later}
use Rattle.end_laws.proofs.KnownLemmas.{server-more-end, ends-more}
use Rattle.end_laws.proofs.KnownLemmas.{start-more, ask-more}
use Rattle.node_laws.proofs.JoinLemmas.{length-first}
use Rattle.end_laws.proofs.ListLemmas.{Placed, first-each, set-first, set-placed}
use Rattle.end_laws.proofs.ListLemmas.{length-slice_set, all-first, all-add, all-found}
use Rattle.end_laws.proofs.SlotLemmas.{find-any}
use Rattle.rpc_laws.specs.Endpoints.{Endpoint, Lived, noted, noted_with}
use Rattle.end_laws.specs.TwoEnds.{peer_of}

-- a call as it is asked
abbrev pub asking_of : ℕ → ℕ → ℕ → List ℕ → Asking
asking_of c y room ask = record { number = c; req_type = y; room = room; ask = ask }

-- a call is asked
abbrev pub with_ask : Known → (n : Endpoint) (c s y room : ℕ) → List ℕ → Known
with_ask k n c s y room ask = record {
  past = noted_with n (Asked c s y room) ask ∷ k.past;
  ends = k.ends;
  asks = added k.asks n c 0 (record { session = s; what = asking_of c y room ask });
  starts = k.starts;
  runs = k.runs;
}

module _ (k : Known) (n : Endpoint) (c s y room : ℕ) (ask : List ℕ) where
  abbrev asked_fact : Lived
  asked_fact = noted_with n (Asked c s y room) ask

  abbrev asked_call : Asking
  asked_call = asking_of c y room ask

  abbrev entry : Asker
  entry = record { session = s; what = asked_call }

  abbrev knows : Known
  knows = with_ask k n c s y room ask

  pub later-ask : k.asks n c 0 ≡ None → Later k knows
  later-ask none = record {
    past = λ g h. contains-more asked_fact g k.past h;
    ends = λ i j m x h. h;
    asks = λ i j m x h. added-keeps k.asks n c 0 entry i j m x none h;
    starts = λ i j m x h. h;
    runs = λ i j m x h. h;
  }

  pub ask-same : (j : Endpoint) → (j ≡ n → ⊥) → SameAt k knows j
  ask-same j ne = record {
    asks = λ d h. added-none k.asks n c 0 entry j d 0 (λ e x z. ne e) h;
    ends = λ t h. h;
    starts = λ t r h. h;
    runs = λ t r h. h;
  }

  pub true-ask : IsTrue k → IsTrue knows
  true-ask t = record {
    ends = λ i j m x h. server-more-end asked_fact k.past x.home x.client i j (t.ends i j m x h);
    asks = added-case k.asks n c 0 entry (TrueAsk (asked_fact ∷ k.past))
        (record { number = refl; asked = contains-here asked_fact k.past })
        (λ i j m x h. ask-more asked_fact k.past i j m x (t.asks i j m x h));
    starts = λ i j m x h. start-more asked_fact k.past i j m x (t.starts i j m x h);
    runs = λ i j m x h. run-more k knows (asked_fact ∷ []) refl (λ a b c x h. h) (λ a b c x h. h) i j m x (t.runs i j m x h);
  }

  ask-client : Later k knows → (i : ℕ) (x : Client) → is_client s x ≡ true
      → is_joined x.state ≡ true → GoodClient k n i x → GoodClient knows n i (asks asked_call x)
  ask-client later i x t joined g =
      let more = client-more k knows later n i x (λ r h. h) g in
      let session : x.way.number ≡ s = eqb-true x.way.number s t in
      let logged : knows.asks n c 0 ≡ Some (record { session = x.way.number; what = asked_call }) =
      subst (λ (z : ℕ). knows.asks n c 0 ≡ Some (record { session = z; what = asked_call }))
      (sym session) (added-here k.asks n c 0 entry) in
      record {
        number = more.number;
        tied = subst (λ (b : Bool). Tied b knows n i (asks asked_call x)) (sym joined)
            (record {
              end = (is-joined knows n i x joined more).end;
              client = (is-joined knows n i x joined more).client;
            });
        eight = more.eight;
        fresh = more.fresh;
        calls = all-add (GoodCall knows n x.way) x.calls _ more.calls
            (record { logged = logged; progress = tt });
      }

  pub ask-node : (clock : ℕ) (l : Lists) → c ≡ l.asked → Valid l → MayAsk l c s → GoodNode k n l
      → GoodNode knows n (after clock l asked_fact.fact)
  ask-node clock l new valid may g =
      let later = later-ask (g.no_asks c (omega arith)) in
      let count = length-first (is_client s) (asks asked_call) l.clients in
      record {
        clients = first-each (is_client s) (asks asked_call)
            (λ i z. GoodClient k n i z × (slice_get l.clients i ≡ Some z)) (GoodClient knows n)
            l.clients
            (λ i z h t.
            let same = found-same k n l.clients s may.client g.clients may.found i z h.1 t in
            ask-client later i z t (ap (λ (y : Client). is_joined y.state) same
            ∙ connected-joined may.client.state may.connected) h.0)
            (λ i z h. client-more k knows later n i z (λ r h. h) h.0)
            (λ i z is. (g.clients i z is, is));
        servers = servers-later k knows later n l.servers g.servers;
        no_asks = λ d le. added-none k.asks n c 0 entry n d 0 (λ x e z. absurd (omega arith))
            (g.no_asks d (omega arith));
        no_ends = λ t le. g.no_ends t le;
        no_starts = λ t r le. g.no_starts t r (omega arith);
        begun = λ j r b is. starts-stay l asked_fact.fact valid may clock j b (g.begun j r b is);
        no_runs = λ t r some. g.no_runs t r (run-left l asked_fact.fact valid may clock t r some);
        jobs = jobs-later k knows later n l.jobs.out g.jobs;
      }

-- one slot has had one more turn
turned-here : (turns : List ℕ) (slot : ℕ) → slot < length turns
    → slice_index (slice_set turns slot (slice_index turns slot + 1)) slot
    ≡ slice_index turns slot + 1
turned-here turns slot lt = get_or-set_same turns slot (slice_index turns slot + 1) 0 lt

turned-by : (turns : List ℕ) (slot other : ℕ) (b : Bool) → (other == slot) ≡ b → slot < length turns
    → slice_index turns other ≤ slice_index (slice_set turns slot (slice_index turns slot + 1))
    other
turned-by turns slot other true t lt =
    let e = eqb-true other slot t in
    let here = turned-here turns slot lt in
    rw e (omega arith)
turned-by turns slot other false t lt =
    let same = get_or-set_other turns slot other (slice_index turns slot + 1) 0 (eqb-false other slot t) in
    omega arith

-- a call begins
abbrev pub with_begin : Known → (n : Endpoint) (i c r : ℕ) → Begin → Known
with_begin k n i c r b =
    record {
      past = noted n (Begun c r) ∷ k.past;
      ends = k.ends;
      asks = k.asks;
      starts = added k.starts n i r b;
      runs = k.runs;
    }

module _ (k : Known) (n : Endpoint) (c r : ℕ) (l : Lists) (m : MayBegin l c r) (g : GoodNode k n l) where
  abbrev begun_fact : Lived
  begun_fact = noted n (Begun c r)

  abbrev begin : Begin
  begin = record { way = m.client.way; what = m.call.what }

  abbrev pub begins_known : Known
  begins_known = with_begin k n m.session c r begin

  good-client : GoodClient k n m.session m.client
  good-client = g.clients m.session m.client m.is_there

  good-call : GoodCall k n m.client.way m.call
  good-call = all-found (GoodCall k n m.client.way) is_waiting m.client.calls m.call good-client.calls m.waits

  -- its session is joined
  begins-joined : is_joined m.client.state ≡ true
  begins-joined = has-joined k n m.session m.client is_waiting m.call good-client m.waits

  joined-way : IsJoined k n m.session m.client
  joined-way = is-joined k n m.session m.client begins-joined good-client

  -- its number is the next of its slot
  slot-is : r % 8 ≡ m.slot
  slot-is =
      let low = m.low in
      let next : r ≡ m.slot + 8 * slice_index m.client.turns m.slot = m.next in
      omega arith

  is-new : k.starts n m.session r ≡ None
  is-new =
      let next : r ≡ next_turn m.client.turns m.slot = m.next in
      let same : next_turn m.client.turns (r % 8) ≡ next_turn m.client.turns m.slot =
      ap (next_turn m.client.turns) slot-is in
      let self : r ≤ r = omega arith in
      let le : next_turn m.client.turns (r % 8) ≤ r = subst (λ (x : ℕ). x ≤ r) (sym (same ∙ sym next)) self in
      good-client.fresh r le

  pub later-begin : Later k begins_known
  later-begin = record {
    past = λ f h. contains-more begun_fact f k.past h;
    ends = λ i j d x h. h;
    asks = λ i j d x h. h;
    starts = λ i j d x h. added-keeps k.starts n m.session r begin i j d x is-new h;
    runs = λ i j d x h. h;
  }

  pub begin-same : (j : Endpoint) → (j ≡ n → ⊥) → SameAt k begins_known j
  begin-same j ne = record {
    asks = λ d h. h;
    ends = λ t h. h;
    starts = λ s q h. added-none k.starts n m.session r begin j s q (λ e x z. ne e) h;
    runs =
        λ t q h. h;
  }

  pub true-begin : IsTrue k → IsTrue begins_known
  true-begin t =
      let number : m.client.way.number ≡ m.session = good-client.number in
      let ends : AreEnds k.past n m.session (peer_of m.client.way) m.client.way.other = record {
        client = joined-way.client;
        server = t.ends (peer_of m.client.way) m.client.way.other 0 _ joined-way.end;
      } in
      let asked = t.asks n m.call.what.number 0 _ good-call.logged in
      let there : Contains k.past (noted_with n
      (Asked m.call.what.number m.session m.call.what.req_type m.call.what.room)
      m.call.what.ask) = subst (λ (s : ℕ). Contains k.past
      (noted_with n (Asked m.call.what.number s m.call.what.req_type m.call.what.room)
      m.call.what.ask)) number asked.asked in
      let own : begun_fact ≡ noted n (Begun m.call.what.number r) = ap (λ (d : ℕ). noted n (Begun d r)) m.number in
      let new : TrueStart (begun_fact ∷ k.past) n m.session r begin = record {
        number = number;
        ends = ends-more begun_fact k.past n m.session (peer_of m.client.way) m.client.way.other ends;
        asked = contains-more begun_fact _ k.past there;
        begun = subst (λ (f : Lived). Contains (begun_fact ∷ k.past) f) own (contains-here begun_fact k.past);
      } in
      record {
        ends = λ i j d x h. server-more-end begun_fact k.past x.home x.client i j
            (t.ends i j d x h);
        asks = λ i j d x h. ask-more begun_fact k.past i j d x (t.asks i j d x h);
        starts = added-case k.starts n m.session r begin (TrueStart (begun_fact ∷ k.past)) new
            (λ i j d x h. start-more begun_fact k.past i j d x (t.starts i j d x h));
        runs = λ i j d x h. run-more k begins_known (begun_fact ∷ []) refl (λ a b c x h. h)
            (λ a b c x h. added-keeps k.starts n m.session r begin a b c x is-new h) i j d x (t.runs i j d x h);
      }

  -- no other session has the call
  has-by : (calls : List Call) (y : Call) → find is_waiting calls ≡ Some y → (is_call c y) ≡ true
      → list_any (is_call c) calls ≡ true
  has-by [] y h t = cc
  has-by (z ∷ zs) y h t = has-cons z zs y (is_waiting z) h t (has-by zs y)
    where
      has-cons : (z : Call) (zs : List Call) (y : Call) (b : Bool)
          → cond b (Some z) (find is_waiting zs) ≡ Some y → is_call c y ≡ true
          → (find is_waiting zs ≡ Some y → is_call c y ≡ true → list_any (is_call c) zs ≡ true)
          → (is_call c z || list_any (is_call c) zs) ≡ true
      has-cons z zs y true h t ih = let same : y ≡ z = cc in let passes : is_call c z ≡ true = ap (is_call c) (sym same) ∙ t in rw passes refl
      has-cons z zs y false h t ih = or-true (is_call c z) (ih h t)
        where
          or-true : (a : Bool) {b : Bool} → b ≡ true → (a || b) ≡ true
          or-true true e = refl
          or-true false e = e

  is-begun : is_call c m.call ≡ true
  is-begun = eq-eqb m.call.what.number c (sym m.number)

  -- a call of this number is the one that begins
  call-same : (way : Way) (y : Call) → GoodCall k n way y → is_call c y ≡ true
      → (way.number ≡ m.client.way.number) × (y.what ≡ m.call.what)
  call-same way y h t =
      let number : y.what.number ≡ m.call.what.number = eqb-true y.what.number c t ∙ m.number in
      let one : k.asks n m.call.what.number 0
      ≡ Some (record { session = way.number; what = y.what }) =
      subst (λ (d : ℕ). k.asks n d 0 ≡ Some
      (record { session = way.number; what = y.what })) number h.logged in
      asker-same (record { session = way.number; what = y.what })
      (record { session = m.client.way.number; what = m.call.what })
      (sym one ∙ good-call.logged)
    where
      asker-same : (a b : Asker) → Some a ≡ Some b → (a.session ≡ b.session) × (a.what ≡ b.what)
      asker-same a b e = let same : a ≡ b = cc in (ap (λ (x : Asker). x.session) same, ap (λ (x : Asker). x.what) same)

  one-session : (j : ℕ) (z : Client) → slice_get l.clients j ≡ Some z → has_call c z ≡ true → j ≡ m.session
  one-session j z is t =
      let other = g.clients j z is in
      let y = find-any (is_call c) z.calls t in
      let call = all-found (GoodCall k n z.way) (is_call c) z.calls y.0 other.calls y.1 in
      let same = call-same z.way y.0 call (find-passes (is_call c) z.calls y.0 y.1) in
      sym other.number ∙ (same.0 ∙ good-client.number)

  fresh-by : (q : ℕ) (b : Bool) → (q == r) ≡ b
      → next_turn (turned (r % 8) m.client.turns) (q % 8) ≤ q
      → begins_known.starts n m.session q ≡ None
  fresh-by q true t le =
      let e = eqb-true q r t in
      let slot = slot-is in
      let low = m.low in
      let eight = good-client.eight in
      let within : r % 8 < length m.client.turns = omega arith in
      let here = turned-here m.client.turns (r % 8) within in
      let at : slice_index (turned (r % 8) m.client.turns) (q % 8)
      ≡ slice_index m.client.turns (r % 8) + 1 =
      ap (λ (x : ℕ). slice_index (turned (r % 8) m.client.turns) (x % 8)) e ∙ here in
      let was : slice_index m.client.turns (r % 8) ≡ slice_index m.client.turns m.slot =
      ap (slice_index m.client.turns) slot in
      let next : r ≡ m.slot + 8 * slice_index m.client.turns m.slot = m.next in
      let rest : q % 8 ≡ m.slot = ap (λ (x : ℕ). x % 8) e ∙ slot in
      let high : q % 8 + 8 * slice_index (turned (r % 8) m.client.turns) (q % 8) ≤ q = le in
      absurd (omega arith)
  fresh-by q false t le =
      let slot = slot-is in
      let low = m.low in
      let eight = good-client.eight in
      let within : r % 8 < length m.client.turns = omega arith in
      let more = turned-by m.client.turns (r % 8) (q % 8) _ refl within in
      let high : q % 8 + 8 * slice_index (turned (r % 8) m.client.turns) (q % 8) ≤ q = le in
      let old : next_turn m.client.turns (q % 8) ≤ q = omega arith in
      added-none k.starts n m.session r begin n m.session q (λ x y e. eqb-false q r t e) (good-client.fresh q old)

  begun-call : (y : Call) → is_call c y ≡ true → GoodCall k n m.client.way y
      → GoodCall begins_known n m.client.way (begun r y)
  begun-call y t h =
      let same = call-same m.client.way y h t in
      let above = packet_count_above (length y.what.ask) in
      let here = added-here k.starts n m.session r begin in
      let mine : begins_known.starts n m.client.way.number r
      ≡ Some (record { way = m.client.way; what = y.what }) =
      subst (λ (s : ℕ). begins_known.starts n s r
      ≡ Some (record { way = m.client.way; what = y.what })) (sym good-client.number)
      (here ∙ ap (λ (a : Asking). Some (record { way = m.client.way; what = a }))
      (sym same.1)) in
      record { logged = h.logged; progress = record { begun = mine; answer = (refl, above) } }

  later-way : IsJoined begins_known n m.session m.client
  later-way = tied-later k begins_known later-begin true n m.session m.client joined-way

  begun-client : GoodClient begins_known n m.session (begins c r m.client)
  begun-client = record {
    number = good-client.number;
    tied = subst (λ (b : Bool). Tied b begins_known n m.session (begins c r m.client))
        (sym begins-joined) (record { end = later-way.end; client = later-way.client });
    eight = length-slice_set m.client.turns (r % 8) _ ∙ good-client.eight;
    fresh = λ q le. fresh-by q _ refl le;
    calls = all-first (GoodCall k n m.client.way) (GoodCall begins_known n m.client.way) (is_call c)
        (begun r) m.client.calls (call-later k begins_known later-begin n m.client.way)
        (λ y is h. begun-call y (find-passes (is_call c) m.client.calls y is) h) good-client.calls;
  }

  other-client : (j : ℕ) (z : Client) → (j ≡ m.session → ⊥) → GoodClient k n j z → GoodClient begins_known n j z
  other-client j z ne h =
      client-more k begins_known later-begin n j z
      (λ q none. added-none k.starts n m.session r begin n j q (λ x e y. ne e) none) h

  abbrev BegunAt : Endpoint → Endpoint → ℕ → ℕ → Begin → Type 0
  BegunAt node i j q b = i ≡ node → StartOf l.clients j b

  own-start : BegunAt n n m.session r begin
  own-start e = record {
    client = m.client;
    is_there = m.is_there;
    joined = begins-joined;
    way = refl;
  }

  pub begin-node : (clock : ℕ) → Valid l → Lawful l (Begun c r)
      → GoodNode begins_known n (after clock l begun_fact.fact)
  begin-node clock valid lawful =
      let has : has_call c m.client ≡ true = has-by m.client.calls m.call m.waits is-begun in
      let one : at_first (has_call c) (begins c r) l.clients
      ≡ slice_set l.clients m.session (begins c r m.client) =
      set-first (has_call c) (begins c r) l.clients m.session m.client m.is_there has
      one-session in
      let placed : Placed (GoodClient begins_known n)
      (slice_set l.clients m.session (begins c r m.client)) =
      set-placed (GoodClient begins_known n) l.clients m.session m.client
      (begins c r m.client) m.is_there begun-client
      (λ j z ne is. other-client j z ne (g.clients j z is)) in
      let count = length-first (has_call c) (begins c r) l.clients in
      let within = slice_get_within l.clients m.session m.client m.is_there in
      record {
        clients = subst (λ (xs : List Client). Placed (GoodClient begins_known n) xs) (sym one) placed;
        servers = servers-later k begins_known later-begin n l.servers g.servers;
        no_asks = λ d le. g.no_asks d le;
        no_ends = λ t le. g.no_ends t le;
        no_starts = λ s q le. added-none k.starts n m.session r begin n s q
            (λ x e y. absurd (omega arith)) (g.no_starts s q (omega arith));
        begun = λ j q b is. starts-stay l begun_fact.fact valid lawful clock j b
            (added-case k.starts n m.session r begin (BegunAt n) own-start
            (λ i j q b is same. g.begun j q b (sym (ap (λ (z : Endpoint). k.starts z j q) same) ∙ is))
            n j q b is refl);
        no_runs = λ t q some. g.no_runs t q (run-left l begun_fact.fact valid lawful clock t q some);
        jobs = jobs-later k begins_known later-begin n l.jobs.out g.jobs;
      }
