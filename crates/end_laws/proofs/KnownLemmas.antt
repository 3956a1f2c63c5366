-- What is said of calls and requests stays so while more becomes known.
use Rattle.std.proofs.lemmas.List.Elements.{Contains-append_right}
use Rattle.rpc_base.specs.declared.event.Event.TheVariants.{Ran}
use Rattle.packet_header.specs.declared.packet.ControlKind.TheVariants.{ConnectReply}
use Rattle.std.proofs.Common.{Contains, append_assoc, sym, ap, ◌∙◌, ◌++◌, [], ◌∷◌, refl, subst, Some, None, Option, ◌≡◌, true, false}
use Rattle.end_laws.proofs.Known.{TrueRun, Begin, End, Run, contains-here, Known, noting, Tied}
use Rattle.end_laws.proofs.Known.{Tells}
use Rattle.packet_header.specs.declared.packet.ControlHeader.{ControlHeader}
use Rattle.rpc_laws.specs.declared.tables.Client.{Client}
use Rattle.end_laws.proofs.Known.{IsSession}
use Rattle.end_laws.proofs.Known.{RepliesBy}
use Rattle.std.proofs.Common.{Bool}
use Rattle.packet_header.specs.declared.packet.ControlKind.{ControlKind}
use Rattle.rpc_laws.specs.Front.{control_of}
use Rattle.end_laws.specs.Handshakes.{IsMade}
use Rattle.std.proofs.Common.{ℕ, List, ◌∷◌, Option, Some, None}
use Rattle.std.specs.List.{AllByRecursion}
use Rattle.packet_header.specs.Reading.{message_of, body_of}
use Rattle.packet_header.specs.declared.packet.Kind.{Kind}
use Rattle.packet_header.specs.declared.packet.Kind.TheVariants.{Request, Rfr, Cr, Response}
use Rattle.packet_header.specs.declared.packet.MessageHeader.{MessageHeader}
use Rattle.rpc_laws.specs.declared.tables.Asking.{Asking}
use Rattle.rpc_laws.specs.declared.tables.Call.{Call}
use Rattle.rpc_laws.specs.declared.tables.Job.{Job}
use Rattle.rpc_laws.specs.declared.tables.Progress.{Progress}
use Rattle.rpc_laws.specs.declared.tables.Served.{Served}
use Rattle.rpc_laws.specs.declared.tables.Server.{Server}
use Rattle.rpc_laws.specs.declared.tables.Way.{Way}
use Rattle.rpc_laws.specs.OwnAnswer.{AreEnds, IsClientEnd, IsServerEnd}
use Rattle.end_laws.proofs.Known.{Known, Later, SaysRequest, SaysResponse, Says, Speaks, GoodAnswer}
use Rattle.end_laws.proofs.Known.{GoodProgress, GoodCall, HasRun, GoodServed, GoodJob, GoodServer}
use Rattle.end_laws.proofs.Known.{Begin, Asker, TrueStart, TrueAsk, IsTrue, noting, contains-more}
use Rattle.end_laws.proofs.ListLemmas.{all-map}
use Rattle.rpc_base.proofs.BasicLemmas.{if-map}
use Rattle.rpc_laws.specs.Endpoints.{Endpoint, Lived, noted_two}
use Rattle.end_laws.specs.TwoEnds.{peer_of}

module _ (j k : Known) (later : Later j k) where
  says-request : (from to : ℕ) (h : MessageHeader) (body : List ℕ) → SaysRequest j from to h body
      → SaysRequest k from to h body
  says-request from to h body s = record {
    life = s.life;
    session = s.session;
    start = s.start;
    begun = later.starts _ s.session h.request s.start s.begun;
    way = s.way;
    credits = s.credits;
    end = later.ends _ h.session 0 _ s.end;
    req_type = s.req_type;
    size = s.size;
    piece = s.piece;
  }

  says-response : (from to : ℕ) (h : MessageHeader) (body : List ℕ) → SaysResponse j from to h body
      → SaysResponse k from to h body
  says-response from to h body s = record {
    start = s.start;
    begun = later.starts _ h.session h.request s.start s.begun;
    peer = s.peer;
    answer = s.answer;
    ran = later.runs _ _ _ _ s.ran;
    size = s.size;
    piece = s.piece;
  }

  says-later : (kind : Kind) (from to : ℕ) (h : MessageHeader) (body : List ℕ)
      → Says kind j from to h body → Says kind k from to h body
  says-later Request from to h body s = says-request from to h body s
  says-later Rfr from to h body s = record {
    life = s.life;
    session = s.session;
    credits = s.credits;
    end = later.ends _ h.session 0 _ s.end;
  }
  says-later Cr from to h body s = record {
    start = s.start;
    begun = later.starts _ h.session h.request s.start s.begun;
    peer = s.peer;
  }
  says-later Response from to h body s = says-response from to h body s

  made-later : (m : Endpoint) (t : ℕ) (n : Endpoint) (s credits : ℕ) → IsMade j.past m t n s credits → IsMade k.past m t n s credits
  made-later m t n s credits (IsMade.paired c) = IsMade.paired (later.past _ c)
  made-later m t n s credits (IsMade.accepted c) = IsMade.accepted (later.past _ c)

  pub session-later : (m : Endpoint) (t : ℕ) (n : Endpoint) (s credits : ℕ) → IsSession j m t n s credits
      → IsSession k m t n s credits
  session-later m t n s credits h =
      record { end = later.ends m t 0 _ h.end; made = made-later m t n s credits h.made }

  replies-later : (o life : Option ℕ) (from : Endpoint) (to client credits status : ℕ)
      → RepliesBy o life j from to client credits status
      → RepliesBy o life k from to client credits status
  replies-later None life from to client credits status h = h
  replies-later (Some t) None from to client credits status h = h
  replies-later (Some t) (Some life) from to client credits status h =
      session-later from t _ client credits h

  tells-later : (kind : ControlKind) (from to : ℕ) (h : ControlHeader) → Tells kind j from to h
      → Tells kind k from to h
  tells-later ConnectReply from to h t =
      replies-later h.server h.to_life _ to h.client h.credits h.status t
  tells-later _ from to h t = tt

  pub speaks-later : (from to : ℕ) (bytes : List ℕ) → Speaks j from to bytes → Speaks k from to bytes
  speaks-later from to bytes s = (
    if-map _ _ (message_of bytes) (λ h. says-later h.kind from to h (body_of bytes)) s.0,
    if-map _ _ (control_of bytes) (λ h. tells-later h.kind from to h) s.1,
  )

  client-end-later : (n : Endpoint) (s : ℕ) (m : Endpoint) (t : ℕ) → IsClientEnd j.past n s m t → IsClientEnd k.past n s m t
  client-end-later n s m t (IsClientEnd.paired limit c) = IsClientEnd.paired limit (later.past _ c)
  client-end-later n s m t (IsClientEnd.connected limit o c) =
      IsClientEnd.connected limit (later.past _ o) (later.past _ c)

  pub tied-later : (b : Bool) (n : Endpoint) (i : ℕ) (x : Client) → Tied b j n i x → Tied b k n i x
  tied-later true n i x h =
      record {
        end = later.ends (peer_of x.way) x.way.other 0 _ h.end;
        client = client-end-later n i (peer_of x.way) x.way.other h.client;
      }
  tied-later false n i x h = record { opened = later.past _ h.opened; idle = h.idle }

  parts-later : (way : Way) (a : Asking) (request got : ℕ) (parts : List ℕ) (answer : Option ℕ)
      → GoodAnswer j way a request got parts answer → GoodAnswer k way a request got parts answer
  parts-later way a request got parts None h = h
  parts-later way a request got parts (Some size) h =
      record {
        answer = h.answer;
        ran = later.runs _ _ _ _ h.ran;
        sized = h.sized;
        reached = h.reached;
        taken = h.taken;
      }

  pub progress-later : (n : Endpoint) (way : Way) (a : Asking) (p : Progress) → GoodProgress j n way a p
      → GoodProgress k n way a p
  progress-later n way a p h = record {
    begun = later.starts n way.number p.request _ h.begun;
    answer = parts-later way a p.request p.got p.parts p.answer h.answer;
  }

  pub call-later : (n : Endpoint) (way : Way) (c : Call) → GoodCall j n way c → GoodCall k n way c
  call-later n way c h =
      record {
        logged = later.asks n c.what.number 0 _ h.logged;
        progress = if-map _ _ c.progress (progress-later n way c.what) h.progress;
      }

  pub served-later : (m : Endpoint) (way : Way) (q : Served) → GoodServed j m way q → GoodServed k m way q
  served-later m way q h = record {
    start = h.start;
    begun = later.starts (peer_of way) way.other q.number h.start h.begun;
    way_is = h.way_is;
    req_type = h.req_type;
    size = h.size;
    ask = h.ask;
    answer = if-map (HasRun j m way.number q.number h.start.what)
        (HasRun k m way.number q.number h.start.what) q.answer (λ a g. later.runs _ _ _ _ g)
        h.answer;
  }

  pub job-later : (m : Endpoint) (job : Job) → GoodJob j m job → GoodJob k m job
  job-later m job h = record {
    end = h.end;
    is_end = later.ends m job.session 0 h.end h.is_end;
    start = h.start;
    begun = later.starts h.end.home h.end.client job.request h.start h.begun;
    way_is = h.way_is;
    req_type = h.req_type;
    own = h.own;
  }

  pub jobs-later : (m : Endpoint) (jobs : List Job) → AllByRecursion (GoodJob j m) jobs → AllByRecursion (GoodJob k m) jobs
  jobs-later m jobs h = all-map (GoodJob j m) (GoodJob k m) jobs (job-later m) h

  pub server-later : (m : Endpoint) (v : Server) → GoodServer j m v → GoodServer k m v
  server-later m v h =
      record {
        session = session-later m v.way.number (peer_of v.way) v.way.other v.credits h.session;
        slots = all-map _ _ v.slots (served-later m v.way) h.slots;
      }

  pub servers-later : (m : Endpoint) (xs : List Server) → AllByRecursion (GoodServer j m) xs
      → AllByRecursion (GoodServer k m) xs
  servers-later m xs h = all-map (GoodServer j m) (GoodServer k m) xs (server-later m) h

-- what was noted stays noted
module _ (f : Lived) (past : List Lived) where
  client-more-end : (n : Endpoint) (s : ℕ) (m : Endpoint) (t : ℕ) → IsClientEnd past n s m t → IsClientEnd (f ∷ past) n s m t
  client-more-end n s m t (IsClientEnd.paired limit c) = IsClientEnd.paired limit (contains-more f _ past c)
  client-more-end n s m t (IsClientEnd.connected limit o c) =
      IsClientEnd.connected limit (contains-more f _ past o) (contains-more f _ past c)

  pub server-more-end : (n : Endpoint) (s : ℕ) (m : Endpoint) (t : ℕ) → IsServerEnd past n s m t → IsServerEnd (f ∷ past) n s m t
  server-more-end n s m t (IsServerEnd.paired credits c) = IsServerEnd.paired credits (contains-more f _ past c)
  server-more-end n s m t (IsServerEnd.accepted credits c) = IsServerEnd.accepted credits (contains-more f _ past c)

  pub ends-more : (n : Endpoint) (s : ℕ) (m : Endpoint) (t : ℕ) → AreEnds past n s m t → AreEnds (f ∷ past) n s m t
  ends-more n s m t e =
      record {
        client = client-more-end n s m t e.client;
        server = server-more-end n s m t e.server;
      }

  pub start-more : (n : Endpoint) (s r : ℕ) (b : Begin) → TrueStart past n s r b → TrueStart (f ∷ past) n s r b
  start-more n s r b t =
      record {
        number = t.number;
        ends = ends-more n s (peer_of b.way) b.way.other t.ends;
        asked = contains-more f _ past t.asked;
        begun = contains-more f _ past t.begun;
      }

  pub ask-more : (n : Endpoint) (c i : ℕ) (a : Asker) → TrueAsk past n c i a → TrueAsk (f ∷ past) n c i a
  ask-more n c i a t = record { number = t.number; asked = contains-more f _ past t.asked }

-- a run that is known still is, by more facts
pub run-more : (j k : Known) (x : List Lived) → k.past ≡ x ++ j.past
    → ((a : Endpoint) (b c : ℕ) (e : End) → j.ends a b c ≡ Some e → k.ends a b c ≡ Some e)
    → ((a : Endpoint) (b c : ℕ) (e : Begin) → j.starts a b c ≡ Some e → k.starts a b c ≡ Some e)
    → (m : Endpoint) (t r : ℕ) (e : Run) → TrueRun j m t r e → TrueRun k m t r e
run-more j k x past ends starts m t r e h = record {
  later = x ++ h.later;
  earlier = h.earlier;
  stands = past ∙ (ap (λ (p : List Lived). x ++ p) h.stands
      ∙ sym (append_assoc x h.later (noted_two m (Ran t r e.req_type) e.ask e.answer ∷ h.earlier)));
  end = h.end;
  is_end = ends m t 0 h.end h.is_end;
  start = h.start;
  begun = starts h.end.home h.end.client r h.start h.begun;
  true_start = h.true_start;
}

pub ran-there : {k : Known} {m : Endpoint} {t r : ℕ} {e : Run} → TrueRun k m t r e
    → Contains k.past (noted_two m (Ran t r e.req_type) e.ask e.answer)
ran-there {k} {m} {t} {r} {e} h =
    let f : Lived = noted_two m (Ran t r e.req_type) e.ask e.answer in
    subst (λ (p : List Lived). Contains p f) (sym h.stands)
    (Contains-append_right h.later (f ∷ h.earlier) f (contains-here f h.earlier))

pub true-noting : (k : Known) (f : Lived) → IsTrue k → IsTrue (noting k f)
true-noting k f t = record {
  ends = λ a b c x h. server-more-end f k.past x.home x.client a b (t.ends a b c x h);
  asks = λ a b c x h. ask-more f k.past a b c x (t.asks a b c x h);
  starts = λ a b c x h. start-more f k.past a b c x (t.starts a b c x h);
  runs = λ a b c x h. run-more k (noting k f) (f ∷ []) refl (λ a b c x h. h) (λ a b c x h. h) a b c x (t.runs a b c x h);
}
