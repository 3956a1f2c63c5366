-- The facts of a packet that is handled: want of memory would be told in them, and the handler's answer is the
-- plain service's.
use Rattle.std.proofs.Common.{◌≡◌, ◌⊎◌, inl, inr, ℕ, Bool, true, false, not, ◌&&◌, ◌||◌, cond, List}
use Rattle.std.proofs.Common.{[], ◌∷◌, ◌++◌, Option, Some, None, refl, sym, ap, ◌∙◌, subst, eqb}
use Rattle.std.proofs.Common.{eq-eqb}
use Rattle.std.specs.Prelude.{◌==◌, nat_lt}
use Rattle.std.specs.List.{find}
use Rattle.packet_header.specs.declared.packet.ControlHeader.{ControlHeader}
use Rattle.packet_header.specs.declared.packet.ControlKind.{ControlKind}
use Rattle.packet_header.specs.declared.packet.ControlKind.TheVariants.{ConnectRequest}
use Rattle.packet_header.specs.declared.packet.ControlKind.TheVariants.{ConnectReply}
use Rattle.packet_header.specs.declared.packet.ControlKind.TheVariants.{DisconnectRequest}
use Rattle.packet_header.specs.declared.packet.ControlKind.TheVariants.{DisconnectReply}
use Rattle.packet_header.specs.declared.packet.Kind.{Kind}
use Rattle.packet_header.specs.declared.packet.Kind.TheVariants.{Request, Rfr, Cr, Response}
use Rattle.packet_header.specs.declared.packet.MessageHeader.{MessageHeader}
use Rattle.rpc_base.specs.declared.event.Event.TheVariants.{Dropped, Given, Posted, Ran, Took}
use Rattle.rpc_base.specs.declared.fact.Fact.{Fact}
use Rattle.rpc_base.specs.declared.fact.Who.TheVariants.{Node}
use Rattle.rpc_base.specs.declared.owner.Owner.TheVariants.{Reply}
use Rattle.rpc_base.specs.declared.state.DropReason.TheVariants.{NotFirst, Unserved, JobsFull}
use Rattle.rpc_base.specs.declared.state.DropReason.TheVariants.{NoMemory, Mismatch, Ahead, Beyond}
use Rattle.rpc_base.specs.declared.state.DropReason.TheVariants.{Old, StaleLife, WrongPeer, Working}
use Rattle.rpc_laws.specs.declared.rows.ControlRow.{ControlRow}
use Rattle.rpc_laws.specs.declared.rows.ControlRow.TheVariants.{Declines, Ignores, Starves}
use Rattle.rpc_laws.specs.declared.rows.ServerRow.{ServerRow}
use Rattle.rpc_laws.specs.declared.rows.ServerRow.TheVariants.{Begins, Drops, Repeats, Takes}
use Rattle.rpc_laws.specs.declared.tables.Lists.{Lists}
use Rattle.rpc_laws.specs.declared.tables.Queued.{Queued}
use Rattle.rpc_laws.specs.declared.tables.Served.{Served as ServedRequest}
use Rattle.rpc_laws.specs.declared.tables.Server.{Server}
use Rattle.rpc_laws.specs.AtMostOnce.{is_at}
use Rattle.rpc_laws.specs.ControlTable.{confirm_row, control_facts, control_row, control_row_of, is_end_of, is_stale}
use Rattle.rpc_laws.specs.Facts.{plain, with_two}
use Rattle.rpc_laws.specs.Groups.{has_no_room, servers_spent}
use Rattle.rpc_laws.specs.Jobs.{are_full}
use Rattle.rpc_laws.specs.PollOrder.{asks_facts, handling_by}
use Rattle.rpc_laws.specs.Requests.{in_slot_of, is_server}
use Rattle.rpc_laws.specs.ServerTable.{Newest, brings, flushes_older, is_last, is_mismatch}
use Rattle.rpc_laws.specs.ServerTable.{is_past_end, is_rfr, makes_job, new_row, newest_of, own_row}
use Rattle.rpc_laws.specs.ServerTable.{repeated_row, served_facts, server_row, slot_row, took_facts}
use Rattle.rpc_laws.specs.ServerTable.{whole_ask}
use Rattle.rpc_laws.specs.Service.{Answers, is_handled, plain_serving}
use Rattle.rpc_outside.specs.Served.{Served}
use Rattle.rpc_outside.specs.declared.service.Mode.{Mode}
use Rattle.one_history.proofs.Fine.{at_node, Fine, fine-back, wants}

-- a row is another one, or tells of a want
abbrev Or : {A : Type 0} → A → A → A → Type 0
Or want a b = (a ≡ b) ⊎ (a ≡ want)

or-by : {A : Type 0} (want : A) (b : Bool) (x y z : A) → Or want y z → Or want (cond b x y) (cond b x z)
or-by want true x y z o = inl refl
or-by want false x y z o = o

or-both : {A : Type 0} (want : A) (b : Bool) (w x y z : A) → Or want w x → Or want y z
    → Or want (cond b w y) (cond b x z)
or-both want true w x y z o p = o
or-both want false w x y z o p = p

-- the server rule with and without memory
new-lacks : (mode : Mode) (working full : Bool) (h : MessageHeader)
    → Or (Drops NoMemory) (new_row mode working full true h) (new_row mode working full false h)
new-lacks mode working full h =
    or-by (Drops NoMemory) (is_rfr h.kind || not (h.number == 0))
    (Drops NotFirst) _ _ (or-by (Drops NoMemory) working (Drops Working) _ _
    (or-by (Drops NoMemory) (not (is_handled mode))
    (Drops Unserved) _ _ (or-by (Drops NoMemory) (makes_job mode h && full)
    (Drops JobsFull) _ _ (inr refl))))

last-lacks : (b : Bool) → Or (Drops NoMemory) (cond b (Drops NoMemory) Takes) Takes
last-lacks true = inr refl
last-lacks false = inl refl

own-lacks : (mode : Mode) (full : Bool) (n : Newest) (h : MessageHeader)
    → Or (Drops NoMemory) (own_row mode full true n h) (own_row mode full false n h)
own-lacks mode full n h =
    or-by (Drops NoMemory) (is_mismatch n h) (Drops Mismatch) _ _
    (or-by (Drops NoMemory) (nat_lt n.taken h.number)
    (Drops Ahead) _ _ (or-by (Drops NoMemory) (nat_lt h.number n.taken)
    (repeated_row n h.number) _ _ (or-by (Drops NoMemory)
    (is_rfr h.kind && is_past_end n.size n.answer h.number)
    (Drops Beyond) _ _ (or-by (Drops NoMemory) (makes_job mode h && full)
    (Drops JobsFull) _ _ (last-lacks (is_last h))))))

slot-lacks : (mode : Mode) (full : Bool) (o : Option ServedRequest) (h : MessageHeader)
    → Or (Drops NoMemory) (slot_row mode full true o h) (slot_row mode full false o h)
slot-lacks mode full None h = new-lacks mode false full h
slot-lacks mode full (Some l) h =
    or-by (Drops NoMemory) (nat_lt h.request l.number)
    (Drops Old) _ _ (or-both (Drops NoMemory)
    (nat_lt l.number h.request) _ _ _ _ (new-lacks mode l.working full h)
    (own-lacks mode full (newest_of l) h))

server-lacks : (mode : Mode) (full lacks : Bool) (o : Option Server) (peer : ℕ) (h : MessageHeader)
    → Or (Drops NoMemory) (server_row mode full lacks o peer h)
    (server_row mode full false o peer h)
server-lacks mode full false o peer h = inl refl
server-lacks mode full true None peer h = inl refl
server-lacks mode full true (Some v) peer h =
    or-by (Drops NoMemory) (not (v.way.peer == peer))
    (Drops WrongPeer) _ _ (slot-lacks mode full (find (in_slot_of h.request) v.slots) h)

-- facts that want nothing are those of the row with memory
row-whole : (mode : Mode) (me : ℕ) (answer : List ℕ) (queued : List Queued) (v : Option Server)
    (h : MessageHeader) (body : List ℕ) (r o : ServerRow)
    → wants (served_facts mode me answer queued v h body r) ≡ false → Or (Drops NoMemory) r o
    → r ≡ o
row-whole mode me answer queued v h body r o w (inl e) = e
row-whole mode me answer queued v h body r o w (inr e) =
    let no : true ≡ false =
    subst (λ (z : ServerRow). wants (served_facts mode me answer queued v h body z) ≡ false)
    e w in cc

abbrev either : Bool → (ℕ → Mode) → Bool → List ℕ → Lists → ℕ → MessageHeader → List ℕ → List Fact
either its mode lacks answer s peer h body =
    cond its (handling_by mode lacks answer h.kind s peer h body) (plain s.me (Dropped StaleLife) ∷ [])

module _ (n : ℕ) where
  -- a handler that runs at node n gives the plain service's answer
  pub ran-same : (served : Served) (me session request req_type : ℕ) (ask a b : List ℕ)
      (x y : List Fact) → me ≡ n
      → Fine n served (with_two me (Ran session request req_type) ask a ∷ x)
      → Fine n served (with_two me (Ran session request req_type) ask b ∷ y) → a ≡ b
  ran-same served me session request req_type ask a b x y e f g =
      let here : is_at n (Node me) ≡ true = ap (λ (k : ℕ). eqb k n) e ∙ eq-eqb n n refl in
      let one = subst (λ (i : Bool). Answers plain_serving served
      (cond i (with_two me (Ran session request req_type) ask a ∷ at_node n x)
      (at_node n x))) here f.answers in
      let two = subst (λ (i : Bool). Answers plain_serving served
      (cond i (with_two me (Ran session request req_type) ask b ∷ at_node n y)
      (at_node n y))) here g.answers in
      one.0 ∙ sym two.0

  abbrev brought : Bool → Bool → (me : ℕ) → List ℕ → MessageHeader → List ℕ → List Fact
  brought job last me answer h ask =
      cond job (plain me (Given h.session h.request) ∷ [])
      (cond last (with_two me (Ran h.session h.request h.req_type) ask answer ∷ []) []
      ++ plain me (Posted (Reply h.session h.request) h.number) ∷ [])

  brought-same : (job last : Bool) (served : Served) (me : ℕ) (a b : List ℕ) (h : MessageHeader)
      (ask : List ℕ) → me ≡ n → Fine n served (brought job last me a h ask)
      → Fine n served (brought job last me b h ask)
      → brought job last me a h ask ≡ brought job last me b h ask
  brought-same true last served me a b h ask e f g = refl
  brought-same false false served me a b h ask e f g = refl
  brought-same false true served me a b h ask e f g =
      let posted = plain me (Posted (Reply h.session h.request) h.number) ∷ [] in
      ap (λ (z : List ℕ). with_two me (Ran h.session h.request h.req_type) ask z ∷ posted)
      (ran-same served me h.session h.request h.req_type ask a b posted posted e f g)

  took-same : (served : Served) (mode : Mode) (me : ℕ) (a b : List ℕ) (h : MessageHeader)
      (ask : List ℕ) → me ≡ n → Fine n served (took_facts mode me a h ask)
      → Fine n served (took_facts mode me b h ask)
      → took_facts mode me a h ask ≡ took_facts mode me b h ask
  took-same served mode me a b h ask e f g =
      let took = plain me (Took (Reply h.session h.request) h.number) in
      ap (λ (z : List Fact). took ∷ z) (brought-same (makes_job mode h)
      (is_last h) _ me a b h ask e (fine-back n served (took ∷ []) (brings mode me a h ask) f)
      (fine-back n served (took ∷ []) (brings mode me b h ask) g))

  served-same : (served : Served) (mode : Mode) (me : ℕ) (a b : List ℕ) (queued : List Queued)
      (v : Option Server) (h : MessageHeader) (body : List ℕ) (r : ServerRow) → me ≡ n
      → Fine n served (served_facts mode me a queued v h body r)
      → Fine n served (served_facts mode me b queued v h body r)
      → served_facts mode me a queued v h body r ≡ served_facts mode me b queued v h body r
  served-same served mode me a b queued v h body (Drops why) e f g = refl
  served-same served mode me a b queued v h body Begins e f g =
      let older = flushes_older me queued v h.request in
      ap (λ (z : List Fact). older ++ z) (took-same _ mode me a b h body e
      (fine-back n served older (took_facts mode me a h body) f)
      (fine-back n served older (took_facts mode me b h body) g))
  served-same served mode me a b queued v h body Takes e f g =
      took-same served mode me a b h (whole_ask v h.request body) e f g
  served-same served mode me a b queued v h body Repeats e f g = refl

  asks-same : (served : Served) (mode : ℕ → Mode) (j l : Bool) (a b : List ℕ) (s : Lists) (peer : ℕ)
      (h : MessageHeader) (body : List ℕ) → s.me ≡ n
      → Fine n served (asks_facts mode j a s peer h body)
      → Fine n served (asks_facts mode l b s peer h body)
      → asks_facts mode j a s peer h body ≡ asks_facts mode l b s peer h body
  asks-same served mode j l a b s peer h body e f g =
      let v = find (is_server h.session) s.servers in
      let m = mode h.req_type in
      let full = are_full s.jobs in
      let row : ServerRow = server_row m full false v peer h in
      let one : server_row m full j v peer h ≡ row =
      row-whole m s.me a s.queued v h body _ row f.whole (server-lacks m full j v peer h) in
      let two : server_row m full l v peer h ≡ row =
      row-whole m s.me b s.queued v h body _ row g.whole (server-lacks m full l v peer h) in
      let first : Fine n served (served_facts m s.me a s.queued v h body row) =
      subst (λ (r : ServerRow). Fine n served (served_facts m s.me a s.queued v h body r))
      one f in
      let second : Fine n served (served_facts m s.me b s.queued v h body row) =
      subst (λ (r : ServerRow). Fine n served (served_facts m s.me b s.queued v h body r))
      two g in
      ap (λ (r : ServerRow). served_facts m s.me a s.queued v h body r) one
      ∙ (served-same served m s.me a b s.queued v h body row e first second
      ∙ ap (λ (r : ServerRow). served_facts m s.me b s.queued v h body r) (sym two))

  -- the front packet of the ring, by its kind
  handling-same : (kind : Kind) (served : Served) (mode : ℕ → Mode) (j l : Bool) (a b : List ℕ)
      (s : Lists) (peer : ℕ) (h : MessageHeader) (body : List ℕ) → s.me ≡ n
      → Fine n served (handling_by mode j a kind s peer h body)
      → Fine n served (handling_by mode l b kind s peer h body)
      → handling_by mode j a kind s peer h body ≡ handling_by mode l b kind s peer h body
  handling-same Request served mode j l a b s peer h body e f g = asks-same served mode j l a b s peer h body e f g
  handling-same Rfr served mode j l a b s peer h body e f g = asks-same served mode j l a b s peer h body e f g
  handling-same Cr served mode j l a b s peer h body e f g = refl
  handling-same Response served mode j l a b s peer h body e f g = refl

  -- and first by whether it is for this life of the node
  pub either-same : (its : Bool) (served : Served) (mode : ℕ → Mode) (j l : Bool) (a b : List ℕ)
      (s : Lists) (peer : ℕ) (h : MessageHeader) (body : List ℕ) → s.me ≡ n
      → Fine n served (either its mode j a s peer h body)
      → Fine n served (either its mode l b s peer h body)
      → either its mode j a s peer h body ≡ either its mode l b s peer h body
  either-same true served mode j l a b s peer h body e f g =
      handling-same h.kind served mode j l a b s peer h body e f g
  either-same false served mode j l a b s peer h body e f g = refl

-- the control rule with and without memory
confirm-lacks : (h : ControlHeader) (s : Lists) (o : Option Server)
    → Or Starves (confirm_row true h s o) (confirm_row false h s o)
confirm-lacks h s None = or-by Starves (has_no_room h.credits s || servers_spent s) Declines _ _ (inr refl)
confirm-lacks h s (Some v) = inl refl

control-lacks : (kind : ControlKind) (lacks : Bool) (peer : ℕ) (h : ControlHeader) (s : Lists)
    → Or Starves (control_row_of kind lacks peer h s) (control_row_of kind false peer h s)
control-lacks kind false peer h s = inl refl
control-lacks ConnectRequest true peer h s =
    or-by Starves (is_stale peer h s) Ignores _ _
    (confirm-lacks h s (find (is_end_of peer h.client h.from_life) s.servers))
control-lacks ConnectReply true peer h s = inl refl
control-lacks DisconnectRequest true peer h s = inl refl
control-lacks DisconnectReply true peer h s = inl refl

control-by : (s : Lists) (peer : ℕ) (h : ControlHeader) (r o : ControlRow)
    → wants (control_facts s peer h r) ≡ false → Or Starves r o → r ≡ o
control-by s peer h r o w (inl e) = e
control-by s peer h r o w (inr e) =
    let no : true ≡ false = subst (λ (z : ControlRow). wants (control_facts s peer h z) ≡ false) e w in cc

pub control-whole : (s : Lists) (peer : ℕ) (h : ControlHeader) (lacks : Bool)
    → wants (control_facts s peer h (control_row lacks peer h s)) ≡ false
    → control_row lacks peer h s ≡ control_row false peer h s
control-whole s peer h lacks w = control-by s peer h _ _ w (control-lacks h.kind lacks peer h s)
