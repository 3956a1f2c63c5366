-- A run is of a call's own bytes, and a call ends with the answer of its own run.
use Rattle.std.specs.List.{find}
use Rattle.rpc_laws.specs.declared.tables.Client.{Client}
use Rattle.std.proofs.Common.{◌∷◌, ◌++◌, Bool, true, false, [], subst, ap, ◌∙◌, ◌≡◌, ◌≤◌, ◌+◌, ◌-◌, ℕ, List, length, Option, Some, None, refl, sym}
use Rattle.std.proofs.Common.{ap, ◌∙◌, subst, arith, Contains}
use Rattle.packet_header.specs.Parts.{packet_count}
use Rattle.packet_header.proofs.PartsLemmas.{front-whole, packet_count_above}
use Rattle.rpc_base.specs.declared.event.Event.{Event}
use Rattle.rpc_base.specs.declared.event.Event.TheVariants.{Asked, Begun, Ran, DoneOk, DoneTooSmall}
use Rattle.rpc_laws.specs.Service.{Serving, AnswersAt}
use Rattle.rpc_laws.specs.declared.tables.Asking.{Asking}
use Rattle.rpc_laws.specs.declared.tables.Call.{Call}
use Rattle.rpc_laws.specs.declared.tables.InFlight.{InFlight}
use Rattle.rpc_laws.specs.declared.tables.Lists.{Lists}
use Rattle.rpc_laws.specs.declared.tables.Progress.{Progress}
use Rattle.rpc_laws.specs.declared.tables.Way.{Way}
use Rattle.rpc_laws.specs.Calls.{is_active, is_waiting, asked_packets, known_packets}
use Rattle.rpc_laws.specs.OwnAnswer.{served_by, AreEnds, IsCallOf, IsAnswerTo, OwnBegin, OwnRun, OwnEnd, OwnSize, OwnEvent}
use Rattle.end_laws.proofs.Allowed.{HasSize, MayBegin, MayRun, MayEnd, MayFail, May}
use Rattle.end_laws.proofs.ClientLemmas.{client-at, if-progress}
use Rattle.end_laws.proofs.Known.{Tied, IsJoined, End, is_joined, Known, Begin, HasParts, GoodAnswer, GoodCall, GoodNode, TrueStart, IsTrue}
use Rattle.end_laws.proofs.ListLemmas.{all-found}
use Rattle.end_laws.proofs.RanLemmas.{run-of}
use Rattle.rpc_laws.specs.Endpoints.{Endpoint, Lived, noted, noted_two, noted_with}
use Rattle.end_laws.specs.TwoEnds.{peer_of}

module _ (past : List Lived) where
  -- a call that began is one, by any names of its parts
  pub call-of : (n : Endpoint) (s r : ℕ) (b : Begin) (c : ℕ) (m : Endpoint) (t q y : ℕ) (ask : List ℕ) → TrueStart past n s r b
      → b.what.number ≡ c → peer_of b.way ≡ m → b.way.other ≡ t → r ≡ q → b.what.req_type ≡ y
      → b.what.ask ≡ ask → IsCallOf past n c m t q y b.what.room ask
  call-of n s r b c m t q y ask true_start number peer other request req_type bytes =
      let ends : AreEnds past n s m t =
      subst (λ (x : Endpoint). AreEnds past n s x t) peer
      (subst (λ (x : ℕ). AreEnds past n s (peer_of b.way) x) other true_start.ends) in
      let one : noted_with n (Asked b.what.number s b.what.req_type b.what.room) b.what.ask
      ≡ noted_with n (Asked c s y b.what.room) ask =
      ap (λ (x : ℕ). noted_with n (Asked x s b.what.req_type b.what.room) b.what.ask) number
      ∙ (ap (λ (x : ℕ). noted_with n (Asked c s x b.what.room) b.what.ask) req_type
      ∙ ap (λ (x : List ℕ). noted_with n (Asked c s y b.what.room) x) bytes) in
      let other_fact : noted n (Begun b.what.number r) ≡ noted n (Begun c q) =
      ap (λ (x : ℕ). noted n (Begun x r)) number
      ∙ ap (λ (x : ℕ). noted n (Begun c x)) request in
      record {
        session = s;
        ends = ends;
        asked = subst (λ (f : Lived). Contains past f) one true_start.asked;
        begun = subst (λ (f : Lived). Contains past f) other_fact true_start.begun;
      }

module _ (k : Known) (n : Endpoint) (l : Lists) (good : GoodNode k n l) (is_true : IsTrue k) where
  own-begin : (c r : ℕ) → MayBegin l c r → OwnBegin k.past n c
  own-begin c r m =
      let way = m.client.way in
      let a = m.call.what in
      let client = good.clients m.session m.client m.is_there in
      let g = all-found (GoodCall k n way) is_waiting m.client.calls m.call client.calls m.waits in
      let asked = is_true.asks n a.number 0 _ g.logged in
      record {
        session = way.number;
        req_type = a.req_type;
        room = a.room;
        ask = a.ask;
        asked = subst (λ (x : ℕ). Contains k.past
            (noted_with n (Asked x way.number a.req_type a.room) a.ask)) (sym m.number) asked.asked;
      }

  own-run : (v : Serving) (t r y : ℕ) (first second : List ℕ)
      → second ≡ v.answer (served_by v.mode n.node k.past) y first → MayRun l t r y first
      → OwnRun v k.past n t r y first second
  own-run v t r y first second answer m =
      let o = run-of k n l t r y first good m in
      let a = o.start.what in
      record {
        node = o.end.home;
        call = a.number;
        room = a.room;
        own = call-of k.past o.end.home o.end.client r o.start a.number n t r y first
            (is_true.starts o.end.home o.end.client r o.start o.begun) refl
            (ap peer_of o.way_is) (ap (λ (w : Way). w.other) o.way_is) refl
            (sym o.of_type) (sym o.own);
        right = answer;
      }

  parts-of : (way : Way) (a : Asking) (request got size : ℕ) (parts : List ℕ) (answer : Option ℕ)
      → answer ≡ Some size → GoodAnswer k way a request got parts answer
      → HasParts k way a request got parts size
  parts-of way a request got size parts None e h = cc
  parts-of way a request got size parts (Some told) e h = let same : told ≡ size = cc in subst (HasParts k way a request got parts) same h

  -- a call that is active is of a session that is joined
  joined-of : (i r : ℕ) (x : Client) (call : Call) (b : Bool) → Tied b k n i x
      → find (is_active r) x.calls ≡ Some call → IsJoined k n i x
  joined-of i r x call true tied found = tied
  joined-of i r x call false tied found =
      let none : find (is_active r) [] ≡ Some call =
      subst (λ (cs : List Call). find (is_active r) cs ≡ Some call) tied.idle found in
      absurd (cc)

  -- what is known of a call whose answer's size is
  pub record Sized (c size : ℕ) (call : Call) (p : Progress) : Type 0 where
    pub session : ℕ
    pub way : Way
    pub limit : ℕ
    pub end : k.ends (peer_of way) way.other 0
        ≡ Some (record { home = n; client = session; credits = limit })
    pub begun : k.starts n session p.request ≡ Some (record { way = way; what = call.what })
    pub parts : HasParts k way call.what p.request p.got p.parts size
    pub number : c ≡ call.what.number

  sized : (c size : ℕ) (call : Call) (p : Progress) → HasSize l c size call p → Sized c size call p
  sized c size call p h =
      let at = client-at k n l.clients h.session h.client good.clients h.found in
      let client = good.clients h.session h.client at.0 in
      let way = h.client.way in
      let g = all-found (GoodCall k n way) (is_active h.request) h.client.calls call client.calls h.active in
      let progress = if-progress k n way call.what call.progress p h.is_progress g.progress in
      let joined = joined-of h.session h.request h.client call (is_joined h.client.state) client.tied h.active in
      record {
        session = h.session;
        way = way;
        limit = h.client.limit;
        end = joined.end;
        begun = subst (λ (s : ℕ). k.starts n s p.request
            ≡ Some (record { way = way; what = call.what })) client.number progress.begun;
        parts = parts-of way call.what p.request p.got size p.parts p.answer h.answer
            progress.answer;
        number = h.number;
      }

  some-end : (a b : End) → Some a ≡ Some b → a ≡ b
  some-end a b e = cc

  some-begin : (a b : Begin) → Some a ≡ Some b → a ≡ b
  some-begin a b e = cc

  -- its run, and the call that had begun by then
  answer-to : (c size : ℕ) (call : Call) (p : Progress) (answer : List ℕ)
      → (s : Sized c size call p) → s.parts.answer ≡ answer
      → IsAnswerTo k.past n c call.what.room answer
  answer-to c size call p answer s whole =
      let way = s.way in
      let a = call.what in
      let b : Begin = record { way = way; what = a } in
      let r = p.request in
      let run = is_true.runs (peer_of way) way.other r _ s.parts.ran in
      let end : run.end ≡ record { home = n; client = s.session; credits = s.limit } =
      some-end run.end _ (sym run.is_end ∙ s.end) in
      let here : k.starts n s.session r ≡ Some run.start =
      subst (λ (e : End). k.starts e.home e.client r ≡ Some run.start) end run.begun in
      let start : run.start ≡ b = some-begin run.start b (sym here ∙ s.begun) in
      let was : TrueStart run.earlier n s.session r run.start =
      subst (λ (e : End). TrueStart run.earlier e.home e.client r run.start) end run.true_start in
      let is : TrueStart run.earlier n s.session r b =
      subst (TrueStart run.earlier n s.session r) start was in
      record {
        node = peer_of way;
        session = way.other;
        request = r;
        req_type = a.req_type;
        ask = a.ask;
        later = run.later;
        earlier = run.earlier;
        ran = subst (λ (x : List ℕ). k.past ≡ run.later
            ++ noted_two (peer_of way) (Ran way.other r a.req_type) a.ask x ∷ run.earlier) whole run.stands;
        call = call-of run.earlier n s.session r b c (peer_of way) way.other r a.req_type a.ask is
            (sym s.number) refl refl refl refl refl;
      }

  own-end : (c : ℕ) (bytes : List ℕ) → MayEnd l c bytes → OwnEnd k.past n c bytes
  own-end c bytes m =
      let s = sized c m.size m.call m.progress m.has in
      let a = m.call.what in
      let all : m.progress.got ≡ known_packets (asked_packets a) (Some m.size) = m.all in
      let answer = s.parts.answer in
      let count : packet_count m.size ≡ packet_count (length answer) = ap packet_count s.parts.sized in
      let above = packet_count_above m.size in
      let enough : packet_count (length answer) ≤ m.progress.got + 1 - asked_packets a = omega arith in
      let whole : bytes ≡ answer =
      m.whole ∙ (s.parts.taken ∙ front-whole answer (m.progress.got + 1 - asked_packets a)
      enough) in
      record { room = a.room; own = answer-to c m.size m.call m.progress bytes s (sym whole) }

  own-size : (c size : ℕ) → MayFail l c size → OwnSize k.past n c size
  own-size c size m =
      let s = sized c size m.call m.progress m.has in
      record {
        room = m.call.what.room;
        answer = s.parts.answer;
        own = answer-to c size m.call m.progress s.parts.answer s refl;
        sized =
            sym s.parts.sized;
        above = m.above;
      }

  pub own-event : (v : Serving) (hand : Option InFlight) (e : Event) (first second : List ℕ)
      → AnswersAt v (served_by v.mode n.node k.past) e first second → May hand l e first second
      → OwnEvent v k.past n e first second
  own-event v hand (Begun c r) first second answer m = own-begin c r m.0
  own-event v hand (Ran t r y) first second answer m = own-run v t r y first second answer m
  own-event v hand (DoneOk c) first second answer m = own-end c first m
  own-event v hand (DoneTooSmall c size) first second answer m = own-size c size m
  own-event v hand _ first second answer m = tt
