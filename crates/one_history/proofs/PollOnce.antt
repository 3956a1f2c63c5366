-- A poll whose worked jobs are finished in their order, and that sends all: from each state there is one.
use Rattle.std.proofs.Common.{◌≡◌, ◌==◌, ◌⊎◌, inl, inr, ◌≤◌, ℕ, Bool, true, cond, List, [], ◌∷◌}
use Rattle.std.proofs.Common.{◌++◌, length, Some, slice_get, sym, ap, ◌∙◌, subst, arith}
use Rattle.std.specs.List.{find}
use Rattle.packet_header.proofs.Heads.{one_head}
use Rattle.packet_header.specs.Header.{HasHead}
use Rattle.packet_header.specs.Reading.{message_of, body_of}
use Rattle.packet_header.specs.declared.packet.MessageHeader.{MessageHeader}
use Rattle.rpc_base.specs.declared.event.Event.TheVariants.{Sent}
use Rattle.rpc_base.specs.declared.fact.Fact.{Fact}
use Rattle.rpc_laws.specs.declared.tables.Arrival.{Arrival}
use Rattle.rpc_laws.specs.declared.tables.Job.{Job}
use Rattle.rpc_laws.specs.declared.tables.Lists.{Lists}
use Rattle.rpc_laws.specs.declared.tables.Outgoing.{Outgoing}
use Rattle.rpc_laws.specs.declared.tables.Queued.{Queued}
use Rattle.rpc_laws.specs.declared.tables.Timed.{Timed}
use Rattle.rpc_laws.specs.declared.tables.WorkedJob.{WorkedJob}
use Rattle.rpc_laws.specs.ControlSteps.{HearsAll, TimesAll}
use Rattle.rpc_laws.specs.Facts.{with_two}
use Rattle.rpc_laws.specs.Jobs.{is_job}
use Rattle.rpc_laws.specs.Packets.{outgoing}
use Rattle.rpc_laws.specs.Pacing.{line}
use Rattle.rpc_laws.specs.PollOrder.{Closes, Finishes, finished_facts, Handles, HandlesAll}
use Rattle.rpc_laws.specs.PollOrder.{answer_posted, awaited, handled, NoMoreToHandle, PollBy}
use Rattle.rpc_laws.specs.PollOrder.{PostsAll, raised, Sends, SendsAll, Serves}
use Rattle.rpc_laws.specs.Posting.{next_begun, next_posted}
use Rattle.rpc_laws.specs.Queues.{is_due, replies}
use Rattle.rpc_laws.specs.Steps.{NotesAll, Then}
use Rattle.rpc_laws.specs.Working.{FinishesEach, FinishesWorked}
use Rattle.rpc_outside.specs.Served.{Served}
use Rattle.rpc_outside.specs.declared.service.Mode.{Mode}
use Rattle.one_history.proofs.ControlOnce.{hears-once, some-same, times-once}
use Rattle.one_history.proofs.Fine.{Fine}
use Rattle.one_history.proofs.RowsOnce.{either-same, ran-same}
use Rattle.one_history.proofs.StepsOnce.{Ends, goes-once, none-once, notes-once, Once, Same}
use Rattle.one_history.proofs.StepsOnce.{then-both, then-once, until-once, visits-once}

-- where no packet is due, the front one isn't
front-due : (clock : ℕ) (queued : List Queued) (q : Queued) → slice_get queued 0 ≡ Some q
    → is_due clock q.due ≡ true → line clock queued ≡ [] → ⊥
front-due clock [] q h d e = cc
front-due clock (p ∷ queued) q h d e =
    let same : q ≡ p = cc in
    let due : is_due clock p.due ≡ true = subst (λ (z : Queued). is_due clock z.due ≡ true) same d in
    let none = subst (λ (b : Bool). cond b (p ∷ line clock queued) (line clock queued) ≡ []) due e in
    cc

sends-end : Ends Sends (λ t. line t.clock t.lists.queued ≡ [])
sends-end s x t over h = front-due s.clock s.lists.queued h.entry h.is_front h.ready over

ring-front : (ring : List Arrival) (a : Arrival) → slice_get ring 0 ≡ Some a → ring ≡ [] → ⊥
ring-front [] a h e = cc
ring-front (b ∷ ring) a h e = cc

handles-end : (mode : ℕ → Mode) → Ends (Handles mode) NoMoreToHandle
handles-end mode s x t (inl over) h = ring-front s.lists.ring h.front h.is_front over
handles-end mode s x t (inr over) h = let room = h.room in omega arith

-- one packet, one datagram
record SendsAs (me : ℕ) (q : Queued) (o : Outgoing) (head : List ℕ) (x : List Fact) : Type 0 where
  facts : x ≡ with_two me (Sent o.peer q.owner q.number) head o.body ∷ []

sends-same : (s : Timed) (x y : List Fact) (t u : Timed) → Sends s x t → Sends s y u → x ≡ y
sends-same s x y t u h k =
    let entry : k.entry ≡ h.entry = some-same (slice_get s.lists.queued 0) k.entry h.entry k.is_front h.is_front in
    let packet : outgoing s.lists h.entry ≡ Some k.out =
    subst (λ (q : Queued). outgoing s.lists q ≡ Some k.out) entry k.packet in
    let out : k.out ≡ h.out = some-same (outgoing s.lists h.entry) k.out h.out packet h.packet in
    let has : HasHead h.out.packet k.head = subst (λ (o : Outgoing). HasHead o.packet k.head) out k.has_head in
    let head : k.head ≡ h.head = one_head h.out.packet k.head h.head k.bytes h.bytes k.long h.long has h.has_head in
    let first : SendsAs s.lists.me k.entry k.out k.head y = record { facts = k.facts } in
    let second : SendsAs s.lists.me h.entry k.out k.head y =
    subst (λ (q : Queued). SendsAs s.lists.me q k.out k.head y) entry first in
    let third : SendsAs s.lists.me h.entry h.out k.head y =
    subst (λ (o : Outgoing). SendsAs s.lists.me h.entry o k.head y) out second in
    let last : SendsAs s.lists.me h.entry h.out h.head y =
    subst (λ (z : List ℕ). SendsAs s.lists.me h.entry h.out z y) head third in
    h.facts ∙ sym last.facts

-- the front packet of the ring, with memory or without it, and some answer
record HandlesAs (mode : ℕ → Mode) (s : Lists) (front : Arrival) (header : MessageHeader)
    (x : List Fact) : Type 0 where
  lacks : Bool
  answer : List ℕ
  facts : x ≡ handled mode lacks answer s front.peer header (body_of front.bytes)

handles-of : (mode : ℕ → Mode) (s : Timed) (x : List Fact) (t : Timed) → (h : Handles mode s x t)
    → HandlesAs mode s.lists h.front h.header x
handles-of mode s x t h = record { lacks = h.lacks; answer = h.answer; facts = h.facts }

-- these jobs are all, or there is no room for another reply
abbrev IsOver : List WorkedJob → Timed → Type 0
IsOver left t = (left ≡ []) ⊎ (t.lists.room ≤ replies t.lists.queued)

module _ (n : ℕ) where
  handled-same : (served : Served) (mode : ℕ → Mode) (s : Lists) (front : Arrival)
      (header : MessageHeader) (x y : List Fact) → s.me ≡ n → HandlesAs mode s front header x
      → HandlesAs mode s front header y → Fine n served x → Fine n served y → x ≡ y
  handled-same served mode s front header x y m a b f g =
      let one = subst (λ (z : List Fact). Fine n served z) a.facts f in
      let two = subst (λ (z : List Fact). Fine n served z) b.facts g in
      a.facts ∙ (either-same n (header.to_life == s.life) served mode a.lacks b.lacks a.answer
      b.answer s front.peer header (body_of front.bytes) m one two ∙ sym b.facts)

  handles-same : (served : Served) (mode : ℕ → Mode) (s : Timed) (x y : List Fact) (t u : Timed)
      → s.lists.me ≡ n → Handles mode s x t → Handles mode s y u → Fine n served x → Fine n served y
      → x ≡ y
  handles-same served mode s x y t u m h k f g =
      let front : k.front ≡ h.front = some-same (slice_get s.lists.ring 0) k.front h.front k.is_front h.is_front in
      let reads : message_of h.front.bytes ≡ Some k.header =
      subst (λ (a : Arrival). message_of a.bytes ≡ Some k.header) front k.reads in
      let header : k.header ≡ h.header = some-same (message_of h.front.bytes) k.header h.header reads h.reads in
      let moved : HandlesAs mode s.lists h.front k.header y =
      subst (λ (a : Arrival). HandlesAs mode s.lists a k.header y) front
      (handles-of mode s y u k) in
      let other : HandlesAs mode s.lists h.front h.header y =
      subst (λ (c : MessageHeader). HandlesAs mode s.lists h.front c y) header moved in
      handled-same served mode s.lists h.front h.header x y m (handles-of mode s x t h) other f g

  handles-once : (mode : ℕ → Mode) → Once n (HandlesAll mode)
  handles-once mode =
      until-once n (Handles mode) NoMoreToHandle
      (λ served s x y t u m h k f g. goes-once n s x y t u m h.goes k.goes
      (handles-same served mode s x y t u m h k f g))
      (handles-end mode)

  -- a job is finished with the service's answer
  finished-same : (served : Served) (s : Lists) (job : Job) (a b : List ℕ) → s.me ≡ n
      → Fine n served (finished_facts a s job) → Fine n served (finished_facts b s job)
      → finished_facts a s job ≡ finished_facts b s job
  finished-same served s job a b m f g =
      let rest : List Fact = answer_posted s.me job (awaited job s.servers) in
      ap (λ (z : List ℕ). finished_facts z s job)
      (ran-same n served s.me job.session job.request job.req_type job.ask a b rest rest m f g)

  finishes-once : (session request : ℕ) → Once n (Finishes session request)
  finishes-once session request served s x y t u m h k f g =
      let job : k.job ≡ h.job =
      some-same (find (is_job session request) s.lists.jobs.out) k.job h.job k.is_out
      h.is_out in
      let other : y ≡ finished_facts k.answer s.lists h.job =
      subst (λ (z : Job). y ≡ finished_facts k.answer s.lists z) job k.facts in
      let one : Fine n served (finished_facts h.answer s.lists h.job) =
      subst (λ (z : List Fact). Fine n served z) h.facts f in
      let two : Fine n served (finished_facts k.answer s.lists h.job) =
      subst (λ (z : List Fact). Fine n served z) other g in
      goes-once n s x y t u m h.goes k.goes (h.facts
      ∙ (finished-same served s.lists h.job h.answer k.answer m one two ∙ sym other))

  -- where one comes to its end the other has no further job
  none-left : (s : Timed) (t : Timed) (left : List WorkedJob) (w : WorkedJob)
      (more : List WorkedJob) (x : List Fact) (u : Timed) → t ≡ s → left ≡ w ∷ more → IsOver left t
      → Finishes w.session w.request s x u → ⊥
  none-left s t left w more x u e same (inl over) h = let no : [] ≡ w ∷ more = sym over ∙ same in cc
  none-left s t left w more x u e same (inr over) h =
      let room = h.room in
      let full : s.lists.room ≤ replies s.lists.queued =
      subst (λ (v : Timed). v.lists.room ≤ replies v.lists.queued) e over in
      omega arith

  each-finished : (done left other rest : List WorkedJob) → done ++ left ≡ other ++ rest
      → (served : Served) (s : Timed) (x y : List Fact) (t u : Timed) → s.lists.me ≡ n
      → FinishesEach done s x t → FinishesEach other s y u → IsOver left t → IsOver rest u
      → Fine n served x → Fine n served y → Same n x y t u
  each-finished [] left [] rest e served s x y t u m h k v w f g = none-once n s x y t u m h k
  each-finished [] left (j ∷ other) rest e served s x y t u m h k v w f g =
      absurd (none-left s t left j (other ++ rest) k.front k.between h.1 e v k.first)
  each-finished (i ∷ done) left [] rest e served s x y t u m h k v w f g =
      absurd (none-left s u rest i (done ++ left) h.front h.between k.1 (sym e) w h.first)
  each-finished (i ∷ done) left (j ∷ other) rest e served s x y t u m h k v w f g =
      let job : j ≡ i = cc in
      let later : done ++ left ≡ other ++ rest = cc in
      let same : Then (Finishes i.session i.request) (FinishesEach other) s y u =
      subst (λ (z : WorkedJob). Then (Finishes z.session z.request)
      (FinishesEach other) s y u) job k in
      then-both n (Finishes i.session i.request) (FinishesEach done) (FinishesEach other)
      (finishes-once i.session i.request) served s x y t u m h same f g
      (λ after b me a c. each-finished done left other rest later after b h.back same.back t u me a c v w)

  worked-once : (worked : List WorkedJob) → Once n (FinishesWorked worked)
  worked-once worked served s x y t u m h k f g =
      each-finished h.done h.left k.done k.left (sym h.parted ∙ k.parted) served s x y t u m
      h.finishes k.finishes h.over k.over f g

  posts-once : Once n PostsAll
  posts-once served s x y t u m h k f g =
      visits-once n Serves (λ i. then-once n (NotesAll (next_begun i)) (NotesAll (next_posted i))
      (notes-once n (next_begun i)) (notes-once n (next_posted i)))
      (length s.lists.clients) served s x y t u m h k f g

  sends-once : Once n SendsAll
  sends-once =
      until-once n Sends (λ t. line t.clock t.lists.queued ≡ [])
      (λ served s x y t u m h k f g. goes-once n s x y t u m h.goes k.goes (sends-same s x y t u h k))
      sends-end

  closes-once : Once n Closes
  closes-once served s x y t u m h k f g =
      goes-once n s x y t u m h.goes k.goes (h.facts ∙ sym k.facts)

  pub poll-once : (worked : List WorkedJob) (mode : ℕ → Mode) (now : ℕ)
      → Once n (PollBy (FinishesWorked worked) SendsAll mode now)
  poll-once worked mode now served s x y t u m h k f g =
      let sending = then-once n SendsAll Closes sends-once closes-once in
      let posting = then-once n PostsAll (Then SendsAll Closes) posts-once sending in
      let timing = then-once n TimesAll (Then PostsAll (Then SendsAll Closes)) (times-once n) posting in
      let handling = then-once n (HandlesAll mode)
      (Then TimesAll (Then PostsAll (Then SendsAll Closes))) (handles-once mode) timing in
      let hearing = then-once n HearsAll (Then (HandlesAll mode)
      (Then TimesAll (Then PostsAll (Then SendsAll Closes)))) (hears-once n) handling in
      then-once n (FinishesWorked worked) (Then HearsAll
      (Then (HandlesAll mode) (Then TimesAll (Then PostsAll (Then SendsAll Closes)))))
      (worked-once worked) hearing served (raised now s) x y t u m h k f g
