-- The packets of the inbox and the timers of a poll: from each state there is one way in which they go.
use Rattle.std.proofs.Common.{◌≡◌, ℕ, Bool, true, false, List, [], ◌∷◌, ◌++◌, length, Option, Some}
use Rattle.std.proofs.Common.{None, slice_get, sym, ap, ◌∙◌, subst}
use Rattle.packet_header.proofs.Heads.{one_head}
use Rattle.packet_header.specs.declared.packet.ControlHeader.{ControlHeader}
use Rattle.packet_header.specs.declared.packet.Packet.TheVariants.{Control as ControlPacket}
use Rattle.rpc_base.specs.declared.fact.Fact.{Fact}
use Rattle.rpc_laws.specs.declared.rows.ControlRow.{ControlRow}
use Rattle.rpc_laws.specs.declared.rows.RetryRow.{RetryRow}
use Rattle.rpc_laws.specs.declared.rows.RetryRow.TheVariants.{Rests, Asks, GivesUp}
use Rattle.rpc_laws.specs.declared.tables.Arrival.{Arrival}
use Rattle.rpc_laws.specs.declared.tables.Client.{Client}
use Rattle.rpc_laws.specs.declared.tables.Lists.{Lists}
use Rattle.rpc_laws.specs.declared.tables.Server.{Server}
use Rattle.rpc_laws.specs.declared.tables.Timed.{Timed}
use Rattle.rpc_laws.specs.ControlSteps.{AnswersControl, control_fact, EndsAllOutdated, EndsOutdated}
use Rattle.rpc_laws.specs.ControlSteps.{Hears, HearsAll, own_request, Retries, TakesControl}
use Rattle.rpc_laws.specs.ControlSteps.{RetriesAs, RetriesBy, RetriesOf, retry_row, Speaks}
use Rattle.rpc_laws.specs.ControlSteps.{SpeaksIf, TimesAll, TimesSession}
use Rattle.rpc_laws.specs.ControlTable.{control_facts, control_reply, control_row, outdated, session_end}
use Rattle.rpc_laws.specs.Front.{control_of}
use Rattle.rpc_laws.specs.GoBackN.{numbers_in, Watches, WatchesSession}
use Rattle.rpc_laws.specs.Steps.{Rel, Then}
use Rattle.one_history.proofs.Fine.{wants, wants-back, wants-front}
use Rattle.one_history.proofs.RowsOnce.{control-whole}
use Rattle.one_history.proofs.StepsOnce.{each-once, Ends, goes-once, Once, then-once, until-once, visits-once}

pub some-same : {A : Type 0} (o : Option A) (a b : A) → o ≡ Some a → o ≡ Some b → a ≡ b
some-same o a b h k = cc

-- the link took the packet
taken-by : (taken : Bool) (me peer : ℕ) (head : List ℕ) (x : List Fact)
    → x ≡ control_fact taken me peer head ∷ [] → wants x ≡ false
    → x ≡ control_fact true me peer head ∷ []
taken-by true me peer head x e w = e
taken-by false me peer head x e w =
    let no : true ≡ false = subst (λ (z : List Fact). wants z ≡ false) e w in cc

speaks-same : (me peer : ℕ) (h : ControlHeader) (x y : List Fact) → Speaks me peer h x
    → Speaks me peer h y → wants x ≡ false → wants y ≡ false → x ≡ y
speaks-same me peer h x y a b v w =
    let one = taken-by a.taken me peer a.head x a.facts v in
    let two = taken-by b.taken me peer b.head y b.facts w in
    let head : a.head ≡ b.head =
    one_head (ControlPacket h) a.head b.head a.bytes b.bytes a.spells.long b.spells.long
    a.spells.head b.spells.head in
    one ∙ (ap (λ (z : List ℕ). control_fact true me peer z ∷ []) head ∙ sym two)

speaks-if-same : (me peer : ℕ) (o : Option ControlHeader) (x y : List Fact) → SpeaksIf me peer o x
    → SpeaksIf me peer o y → wants x ≡ false → wants y ≡ false → x ≡ y
speaks-if-same me peer None x y a b v w = a ∙ sym b
speaks-if-same me peer (Some h) x y a b v w = speaks-same me peer h x y a b v w

-- what a row of the control rule gives, with what is sent
record AnswersAs (s : Lists) (peer : ℕ) (h : ControlHeader) (r : ControlRow) (x : List Fact) : Type 0 where
  said : List Fact
  speaks : SpeaksIf s.me peer (control_reply s.life h r) said
  facts : x ≡ control_facts s peer h r ++ said

row-same : (s : Lists) (peer : ℕ) (h : ControlHeader) (r : ControlRow) (x y : List Fact)
    → AnswersAs s peer h r x → AnswersAs s peer h r y → wants x ≡ false → wants y ≡ false → x ≡ y
row-same s peer h r x y a b v w =
    let front : List Fact = control_facts s peer h r in
    let one : wants a.said ≡ false = wants-back front a.said (subst (λ (z : List Fact). wants z ≡ false) a.facts v) in
    let two : wants b.said ≡ false = wants-back front b.said (subst (λ (z : List Fact). wants z ≡ false) b.facts w) in
    a.facts ∙ (ap (λ (z : List Fact). front ++ z)
    (speaks-if-same s.me peer (control_reply s.life h r) a.said b.said a.speaks b.speaks one two)
    ∙ sym b.facts)

-- with and without memory
answers-whole : (s : Timed) (peer : ℕ) (h : ControlHeader) (x : List Fact) (t : Timed)
    → AnswersControl peer h s x t → wants x ≡ false
    → AnswersAs s.lists peer h (control_row false peer h s.lists) x
answers-whole s peer h x t a v =
    let r : ControlRow = control_row a.lacks peer h s.lists in
    let all : wants (control_facts s.lists peer h r) ≡ false =
    wants-front (control_facts s.lists peer h r) a.said
    (subst (λ (z : List Fact). wants z ≡ false) a.facts v) in
    let same : r ≡ control_row false peer h s.lists = control-whole s.lists peer h a.lacks all in
    subst (λ (z : ControlRow). AnswersAs s.lists peer h z x) same
    (record { said = a.said; speaks = a.speaks; facts = a.facts })

answers-same : (peer : ℕ) (h : ControlHeader) (s : Timed) (x y : List Fact) (t u : Timed)
    → AnswersControl peer h s x t → AnswersControl peer h s y u → wants x ≡ false
    → wants y ≡ false → x ≡ y
answers-same peer h s x y t u a b v w =
    row-same s.lists peer h (control_row false peer h s.lists) x y
    (answers-whole s peer h x t a v) (answers-whole s peer h y u b w) v w

-- the session that a packet outdates
ends-same : (peer : ℕ) (h : ControlHeader) (s : Timed) (x y : List Fact) (t u : Timed)
    → EndsOutdated peer h s x t → EndsOutdated peer h s y u → x ≡ y
ends-same peer h s x y t u a b =
    let server : b.server ≡ a.server =
    some-same (outdated peer h s.lists) b.server a.server b.is_outdated a.is_outdated in
    a.facts ∙ (ap (λ (v : Server). session_end s.lists.me s.lists.queued (Some v)) (sym server)
    ∙ sym b.facts)

ends-over : (peer : ℕ) (h : ControlHeader) → Ends (EndsOutdated peer h) (λ t. outdated peer h t.lists ≡ None)
ends-over peer h s x t over a = let same : Some a.server ≡ None = sym a.is_outdated ∙ over in cc

-- a packet is handled
abbrev HearsBy : (peer : ℕ) → ControlHeader → Rel
HearsBy peer h = Then TakesControl (Then (EndsAllOutdated peer h) (AnswersControl peer h))

hears-steps : (s : Timed) (y : List Fact) (t u : Timed) (x : List Fact) → (h : Hears s x t)
    → (k : Hears s y u) → HearsBy h.front.peer h.header s y u
hears-steps s y t u x h k =
    let front : k.front ≡ h.front = some-same (slice_get s.lists.inbox 0) k.front h.front k.is_front h.is_front in
    let reads : control_of h.front.bytes ≡ Some k.header =
    subst (λ (a : Arrival). control_of a.bytes ≡ Some k.header) front k.reads in
    let header : k.header ≡ h.header = some-same (control_of h.front.bytes) k.header h.header reads h.reads in
    let moved : HearsBy h.front.peer k.header s y u =
    subst (λ (a : Arrival). HearsBy a.peer k.header s y u) front k.steps in
    subst (λ (c : ControlHeader). HearsBy h.front.peer c s y u) header moved

-- a session's own request
retries-by : (r : RetryRow) (me : ℕ) (c : Client) (h : ControlHeader) (x y : List Fact)
    → RetriesBy r me c h x → RetriesBy r me c h y → wants x ≡ false → wants y ≡ false → x ≡ y
retries-by Rests me c h x y a b v w = a ∙ sym b
retries-by Asks me c h x y a b v w = speaks-same me c.way.peer h x y a b v w
retries-by GivesUp me c h x y a b v w = a ∙ sym b

retries-as : (o : Option ControlHeader) (clock timeout me : ℕ) (c : Client) (x y : List Fact)
    → RetriesAs o clock timeout me c x → RetriesAs o clock timeout me c y → wants x ≡ false
    → wants y ≡ false → x ≡ y
retries-as None clock timeout me c x y a b v w = a ∙ sym b
retries-as (Some h) clock timeout me c x y a b v w =
    retries-by (retry_row clock timeout c.sends c.sent_at) me c h x y a b v w

retries-of : (clock timeout me own : ℕ) (o : Option Client) (x y : List Fact)
    → RetriesOf clock timeout me own o x → RetriesOf clock timeout me own o y → wants x ≡ false
    → wants y ≡ false → x ≡ y
retries-of clock timeout me own None x y a b v w = a ∙ sym b
retries-of clock timeout me own (Some c) x y a b v w =
    retries-as (own_request own c) clock timeout me c x y a b v w

front-empty : (inbox : List Arrival) (a : Arrival) → slice_get inbox 0 ≡ Some a → inbox ≡ [] → ⊥
front-empty [] a h e = cc
front-empty (b ∷ inbox) a h e = cc

module _ (n : ℕ) where
  takes-once : Once n TakesControl
  takes-once served s x y t u m h k f g =
      goes-once n s x y t u m h.goes k.goes (h.facts ∙ sym k.facts)

  ends-once : (peer : ℕ) (h : ControlHeader) → Once n (EndsAllOutdated peer h)
  ends-once peer h =
      until-once n (EndsOutdated peer h) (λ t. outdated peer h t.lists ≡ None)
      (λ served s x y t u m a b f g. goes-once n s x y t u m a.goes b.goes (ends-same peer h s x y t u a b))
      (ends-over peer h)

  answers-once : (peer : ℕ) (h : ControlHeader) → Once n (AnswersControl peer h)
  answers-once peer h served s x y t u m a b f g =
      goes-once n s x y t u m a.goes b.goes (answers-same peer h s x y t u a b f.whole g.whole)

  packet-once : (peer : ℕ) (h : ControlHeader) → Once n (HearsBy peer h)
  packet-once peer h =
      then-once n TakesControl (Then (EndsAllOutdated peer h) (AnswersControl peer h)) takes-once
      (then-once n (EndsAllOutdated peer h) (AnswersControl peer h) (ends-once peer h) (answers-once peer h))

  pub hears-once : Once n HearsAll
  hears-once =
      until-once n Hears (λ t. t.lists.inbox ≡ [])
      (λ served s x y t u m h k f g. packet-once h.front.peer h.header served s x y t u m h.steps
      (hears-steps s y t u x h k) f g)
      (λ s x t over h. front-empty s.lists.inbox h.front h.is_front over)

  retries-once : (timeout i : ℕ) → Once n (Retries timeout i)
  retries-once timeout i served s x y t u m h k f g =
      goes-once n s x y t u m h.goes k.goes (retries-of s.clock timeout s.lists.me s.lists.life
      (slice_get s.lists.clients i) x y h.facts k.facts f.whole g.whole)

  watches-once : (timeout i number : ℕ) → Once n (Watches timeout i number)
  watches-once timeout i number served s x y t u m h k f g =
      goes-once n s x y t u m h.goes k.goes (h.facts ∙ sym k.facts)

  session-once : (timeout i : ℕ) → Once n (WatchesSession timeout i)
  session-once timeout i served s x y t u m h k f g =
      each-once n (Watches timeout i) (watches-once timeout i)
      (numbers_in (slice_get s.lists.clients i)) served s x y t u m h k f g

  pub times-once : Once n TimesAll
  times-once served s x y t u m h k f g =
      visits-once n (TimesSession s.lists.timeout)
      (λ i. then-once n (Retries s.lists.timeout i) (WatchesSession s.lists.timeout i)
      (retries-once s.lists.timeout i) (session-once s.lists.timeout i))
      (length s.lists.clients) served s x y t u m h k f g
