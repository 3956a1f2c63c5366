-- After a poll, in each connected session no call waits while a slot is free, and no packet may be posted while
-- a credit is.
use Rattle.std.proofs.Common.{◌≡◌, ◌<◌, ◌≤◌, ◌==◌, ◌⊎◌, inl, inr, ℕ, zero, suc, nat_lt, Bool, true}
use Rattle.std.proofs.Common.{false, cond, eqb}
use Rattle.std.proofs.Common.{List, [], ◌∷◌, length, Option, Some, None, slice_get, refl, sym, ap}
use Rattle.std.proofs.Common.{◌∙◌, subst, ltb-true, ltb-false, ◌+◌, arith}
use Rattle.std.specs.Prelude.{option_and_then, option_map, count_by, is_some, is_none}
use Rattle.std.specs.List.{find, slice_set, AllByRecursion}
use Rattle.std.proofs.lemmas.Bool.{eqb-true, eqb-false}
use Rattle.std.proofs.lemmas.Option.{slice_get_within}
use Rattle.rpc_base.proofs.FirstLemmas.{all-kept, counted-cons}
use Rattle.rpc_base.proofs.TakingLemmas.{find-passes}
use Rattle.rpc_base.specs.Tables.{at_first}
use Rattle.rpc_base.specs.declared.event.Event.{Event}
use Rattle.rpc_base.specs.declared.event.Event.TheVariants.{Begun, Posted, Sent}
use Rattle.rpc_base.specs.declared.fact.Fact.{Fact}
use Rattle.rpc_base.specs.declared.owner.Owner.{Owner}
use Rattle.rpc_base.specs.declared.owner.Owner.TheVariants.{Ask, Reply, Control}
use Rattle.rpc_base.proofs.PlaceLemmas.{all-at, set-here, set-other}
use Rattle.rpc_laws.specs.declared.tables.Call.{Call}
use Rattle.rpc_laws.specs.declared.tables.Client.{Client}
use Rattle.rpc_laws.specs.declared.tables.Lists.{Lists}
use Rattle.rpc_laws.specs.declared.tables.Outgoing.{Outgoing}
use Rattle.rpc_laws.specs.declared.tables.Progress.{Progress}
use Rattle.rpc_laws.specs.declared.tables.Timed.{Timed}
use Rattle.rpc_laws.specs.Calls.{is_active, is_waiting, moved, posted_up_to, sent_packet}
use Rattle.rpc_laws.specs.Facts.{plain}
use Rattle.rpc_laws.specs.Front.{front_header, front_body}
use Rattle.rpc_laws.specs.NodeLists.{after_all}
use Rattle.rpc_laws.specs.Packets.{owner_packet}
use Rattle.rpc_laws.specs.PollOrder.{Serves, PostsAll, Sends, SendsSome, Closes}
use Rattle.rpc_laws.specs.Posting.{has_postable, if_connected, beginning, posting, next_begun}
use Rattle.rpc_laws.specs.Posting.{next_posted, next_packet, next_turn, lowest_free, can_post}
use Rattle.rpc_laws.specs.Sessions.{is_client, is_connected, clients_after, begins, posts, sends}
use Rattle.rpc_laws.specs.Steps.{Goes, Then, Chain, none, more, Visits, NotesNext}
use Rattle.node_laws.specs.Valid.{Valid, Sound, client_no}
use Rattle.node_laws.proofs.LeadsLemmas.{Lawful, valid-at, lawful-chain, lawful-until}
use Rattle.node_laws.proofs.LeadsLemmas.{lawful-visits}
use Rattle.node_laws.proofs.NumberLemmas.{numbered-found}
use Rattle.node_laws.proofs.SoundLemmas.{sent-posted, sent-answer}
use Rattle.stall_laws.specs.Caused.{active_calls}
use Rattle.stall_laws.proofs.CallPlaces.{found-number, number-at, owner-at, client-set}
use Rattle.stall_laws.proofs.Keeping.{begins-at, posts-at, begun-one, posted-one, serves-lawful}
use Rattle.stall_laws.proofs.OnePlace.{placed-all}
use Rattle.stall_laws.proofs.Slots.{eight-active}

-- no call waits, or all slots are taken
abbrev pub AllBegun : Client → Type 0
AllBegun x = AllByRecursion (λ c. is_some c.progress ≡ true) x.calls ⊎ (active_calls x ≡ 8)

-- no credit is free, or nothing is to be posted
abbrev pub AllPosted : Client → Type 0
AllPosted x = (x.free ≡ 0) ⊎ AllByRecursion (λ c. can_post c ≡ false) x.calls

abbrev pub Rests : Client → Type 0
Rests x = is_connected x.state ≡ true → AllBegun x × AllPosted x

abbrev pub RestsNode : Lists → Type 0
RestsNode l = AllByRecursion Rests l.clients

none-found : {A : Type 0} (p : A → Bool) (xs : List A) → find p xs ≡ None → AllByRecursion (λ x. p x ≡ false) xs
none-found p [] h = tt
none-found p (x ∷ xs) h = by (p x) h (none-found p xs)
  where
    by : (b : Bool) → cond b (Some x) (find p xs) ≡ None → (find p xs ≡ None → AllByRecursion (λ y. p y ≡ false) xs)
        → (b ≡ false) × AllByRecursion (λ y. p y ≡ false) xs
    by true h ih = cc
    by false h ih = (refl, ih h)

waits-some : (cs : List Call) → AllByRecursion (λ c. is_waiting c ≡ false) cs
    → AllByRecursion (λ c. is_some c.progress ≡ true) cs
waits-some [] h = tt
waits-some (c ∷ cs) h = (by c.progress h.0, waits-some cs h.1)
  where
    by : (o : Option Progress) → is_none o ≡ false → is_some o ≡ true
    by None e = cc
    by (Some p) e = refl

begun-all : (x : Client) → Sound x → beginning x ≡ None → AllBegun x
begun-all x sound h = by (find is_waiting x.calls) refl h
  where
    slot : (c : Call) (o : Option ℕ) → lowest_free x.calls ≡ o
        → option_map (λ slot. Begun c.what.number (next_turn x.turns slot)) o ≡ None → AllBegun x
    slot c None e h = inr (eight-active x sound e)
    slot c (Some n) e h = cc

    by : (o : Option Call) → find is_waiting x.calls ≡ o
        → option_and_then (λ c. option_map (λ slot. Begun c.what.number (next_turn x.turns slot))
        (lowest_free x.calls)) o ≡ None
        → AllBegun x
    by None e h = inl (waits-some x.calls (none-found is_waiting x.calls e))
    by (Some c) e h = slot c (lowest_free x.calls) refl h

posted-all : (x : Client) → posting x ≡ None → AllPosted x
posted-all x h = by (x.free == 0) refl h
  where
    packet : (c : Call) (o : Option Progress) → c.progress ≡ o → can_post c ≡ true
        → next_packet x.way.number o ≡ None → AllPosted x
    packet c None e can h = let no : has_postable c.what None ≡ true = rw e at can in cc
    packet c (Some p) e can h = cc

    call : (o : Option Call) → find can_post x.calls ≡ o → option_and_then
        (λ c. next_packet x.way.number c.progress) o ≡ None → AllPosted x
    call None e h = inr (none-found can_post x.calls e)
    call (Some c) e h = packet c c.progress refl (find-passes can_post x.calls c e) h

    by : (b : Bool) → (x.free == 0) ≡ b
        → cond b None (option_and_then (λ c. next_packet x.way.number c.progress) (find can_post x.calls)) ≡ None
        → AllPosted x
    by true e h = inl (eqb-true x.free 0 e)
    by false e h = call (find can_post x.calls) refl h

when-on : (b : Bool) (o : Option Event) → b ≡ true → cond b o None ≡ None → o ≡ None
when-on true o e h = h
when-on false o e h = cc

next-none : (next : Client → Option Event) (o : Option Client) (x : Client) → o ≡ Some x
    → option_and_then (if_connected next) o ≡ None → is_connected x.state ≡ true → next x ≡ None
next-none next None x e h live = cc
next-none next (Some y) x e h live =
    let same : y ≡ x = cc in
    subst (λ (z : Client). next z ≡ None) same
    (when-on (is_connected y.state) (next y) (ap (λ (z : Client). is_connected z.state) same ∙ live) h)

-- a move of calls that leaves which of them are active
some-moved : (change : Progress → Progress) (o : Option Progress) → is_some (option_map change o) ≡ is_some o
some-moved change None = refl
some-moved change (Some p) = refl

count-same : (test : Call → Bool) (change : Progress → Progress) (cs : List Call)
    → count_by (λ c. is_some c.progress) (at_first test (moved change) cs) ≡ count_by (λ c. is_some c.progress) cs
count-same test change [] = refl
count-same test change (c ∷ cs) = by (test c) (count-same test change cs)
  where
    abbrevs : (d : Call) (ds : List Call) → count_by (λ c. is_some c.progress) (d ∷ ds)
        ≡ cond (is_some d.progress) 1 0 + count_by (λ c. is_some c.progress) ds
    abbrevs d ds = counted-cons (λ (c : Call). is_some c.progress) d ds (is_some d.progress) refl

    by : (b : Bool) → count_by (λ c. is_some c.progress) (at_first test (moved change) cs) ≡ count_by
        (λ c. is_some c.progress) cs
        → count_by (λ c. is_some c.progress) (cond b (moved change c ∷ cs) (c ∷ at_first test (moved change) cs))
        ≡ count_by (λ c. is_some c.progress) (c ∷ cs)
    by true ih =
        let one = abbrevs (moved change c) cs in
        let two = abbrevs c cs in
        let same = ap {B = ℕ} (λ (b : Bool). cond b 1 0) (some-moved change c.progress) in
        omega arith
    by false ih =
        let one = abbrevs c (at_first test (moved change) cs) in
        let two = abbrevs c cs in
        omega arith

begun-moved : (test : Call → Bool) (change : Progress → Progress) (x y : Client)
    → y.calls ≡ at_first test (moved change) x.calls → AllBegun x → AllBegun y
begun-moved test change x y e (inl all) =
    inl (rw e (all-kept test (moved change) (λ c. is_some c.progress ≡ true) x.calls
    (λ c k t. some-moved change c.progress ∙ k) all))
begun-moved test change x y e (inr eight) =
    inr (ap (count_by (λ (c : Call). is_some c.progress)) e ∙ (count-same test change x.calls ∙ eight))

-- one session is served, and the others stay
abbrev Others : ℕ → Timed → Timed → Type 0
Others i s t = (j : ℕ) → (j ≡ i → ⊥) → slice_get t.lists.clients j ≡ slice_get s.lists.clients j

client-goes : (s : Timed) (e : Event) (x : List Fact) (t : Timed) → x ≡ plain s.lists.me e ∷ [] → Goes s x t
    → t.lists.clients ≡ clients_after s.clock e [] (front_header s.lists.ring) (front_body s.lists.ring) s.lists.clients
client-goes s e x t facts goes =
    ap (λ (u : Timed). u.lists.clients) goes
    ∙ ap (λ (y : List Fact). (after_all s.clock s.lists y).clients) facts

after-event : (s : Timed) (e g : Event) → e ≡ g
    → clients_after s.clock e [] (front_header s.lists.ring) (front_body s.lists.ring) s.lists.clients
    ≡ clients_after s.clock g [] (front_header s.lists.ring) (front_body s.lists.ring) s.lists.clients
after-event s e g same =
    ap (λ (v : Event). clients_after s.clock v [] (front_header s.lists.ring)
    (front_body s.lists.ring) s.lists.clients) same

-- what one fact does to session i
record Moves (i : ℕ) (s t : Timed) : Type 0 where
  client : Client
  is_there : slice_get s.lists.clients i ≡ Some client
  now : Client
  clients : t.lists.clients ≡ slice_set s.lists.clients i now

begun-moves : (i : ℕ) (s : Timed) (x : List Fact) (t : Timed) → Valid s.lists → NotesNext (next_begun i) s x t
    → Moves i s t
begun-moves i s x t v h =
    let b = begins-at i s.lists h.event h.is_next in
    let c = b.call.what.number in
    record {
      client = b.client;
      is_there = b.is_there;
      now = begins c b.request b.client;
      clients = client-goes s h.event x t h.facts h.goes
          ∙ (after-event s h.event (Begun c b.request) b.event
          ∙ owner-at s.lists v c i b.client (begins c b.request) b.is_there
          (found-number is_waiting b.client.calls b.call b.waits));
    }

record PostMoves (i : ℕ) (s t : Timed) : Type 0 where
  moves : Moves i s t
  begun : AllBegun moves.client → AllBegun moves.now
  state : moves.now.state ≡ moves.client.state

posted-moves : (i : ℕ) (s : Timed) (x : List Fact) (t : Timed) → Valid s.lists → NotesNext (next_posted i) s x t
    → PostMoves i s t
posted-moves i s x t v h =
    let b = posts-at i s.lists h.event h.is_next in
    let n = b.client.way.number in
    let found = numbered-found client_no 0 i s.lists.clients b.client v.numbered b.is_there in
    let set = client-set s.lists v n b.client (posts b.request b.number) found in
    let place : set.0 ≡ i = set.2 ∙ number-at s.lists v i b.client b.is_there in
    record {
      moves = record {
        client = b.client;
        is_there = b.is_there;
        now = posts b.request b.number b.client;
        clients = client-goes s h.event x t h.facts h.goes
            ∙ (after-event s h.event (Posted (Ask n b.request) b.number) b.event
            ∙ (set.3 ∙ ap (λ (j : ℕ). slice_set s.lists.clients j (posts b.request b.number b.client)) place));
      };
      begun = begun-moved (is_active b.request) (posted_up_to b.number) b.client
          (posts b.request b.number b.client) refl;
      state = refl;
    }

others-of : (i : ℕ) (s t : Timed) → Moves i s t → Others i s t
others-of i s t m = λ j ne. ap (λ (xs : List Client). slice_get xs j) m.clients ∙ set-other s.lists.clients i j m.now ne

others-chain : (P : Timed → List Fact → Timed → Type 0) (i : ℕ) → Lawful P
    → ((s : Timed) (x : List Fact) (t : Timed) → Valid s.lists → P s x t → Others i s t)
    → (s : Timed) (x : List Fact) (t : Timed) → Valid s.lists → Chain P s x t → Others i s t
others-chain P i law each s x t v none = λ j ne. refl
others-chain P i law each s x t v (more {x = front} {t = between} c y u h) =
    let one = others-chain P i law each s front between v c in
    let two = each between y u (valid-at s front between v (lawful-chain P law s v c)) h in
    λ j ne. two j ne ∙ one j ne

-- all calls of session i begun
abbrev BegunAt : ℕ → Timed → Type 0
BegunAt i t = (x : Client) → slice_get t.lists.clients i ≡ Some x → is_connected x.state ≡ true → AllBegun x

some-client : (o : Option Client) (a b : Client) → o ≡ Some a → o ≡ Some b → a ≡ b
some-client o a b e h = cc

begun-stays : (i : ℕ) (s t : Timed) → PostMoves i s t → BegunAt i s → BegunAt i t
begun-stays i s t m k x is live =
    let here : slice_get t.lists.clients i ≡ Some m.moves.now =
    ap (λ (xs : List Client). slice_get xs i) m.moves.clients ∙ set-here s.lists.clients i m.moves.client
    m.moves.now m.moves.is_there in
    let same = some-client _ m.moves.now x here is in
    let was : is_connected m.moves.client.state ≡ true =
    ap is_connected (sym m.state) ∙ (ap (λ (y : Client). is_connected y.state) same ∙ live) in
    subst AllBegun same (m.begun (k m.moves.client m.moves.is_there was))

begun-chain : (i : ℕ) (s : Timed) (x : List Fact) (t : Timed) → Valid s.lists → BegunAt i s
    → Chain (NotesNext (next_posted i)) s x t → BegunAt i t
begun-chain i s x t v k none = k
begun-chain i s x t v k (more {x = front} {t = between} c y u h) =
    begun-stays i between u
    (posted-moves i between y u (valid-at s front between v (lawful-chain (NotesNext (next_posted i))
    (posted-one i) s v c)) h)
    (begun-chain i s front between v k c)

abbrev RestsAt : ℕ → Timed → Type 0
RestsAt i t = (x : Client) → slice_get t.lists.clients i ≡ Some x → Rests x

record Served (i : ℕ) (s t : Timed) : Type 0 where
  others : Others i s t
  rests : RestsAt i t

serves : (i : ℕ) (s : Timed) (x : List Fact) (t : Timed) → Valid s.lists → Serves i s x t → Served i s t
serves i s x t v h =
    let b = h.between in
    let v1 = valid-at s h.front b v (lawful-until (NotesNext (next_begun i)) _ (begun-one i) s h.front b v h.first) in
    let begun : BegunAt i b = λ y is live.
    begun-all y (all-at Sound b.lists.clients i y v1.sound is)
    (next-none beginning (slice_get b.lists.clients i) y is h.first.over live) in
    let one = others-chain (NotesNext (next_begun i)) i (begun-one i)
    (λ s x t v k. others-of i s t (begun-moves i s x t v k)) s h.front b v h.first.steps in
    let two = others-chain (NotesNext (next_posted i)) i (posted-one i)
    (λ s x t v k. others-of i s t (posted-moves i s x t v k).moves) b h.back t v1 h.second.steps in
    let stays = begun-chain i b h.back t v1 begun h.second.steps in
    record {
      others = λ j ne. two j ne ∙ one j ne;
      rests = λ y is live. (
        stays y is live,
        posted-all y (next-none posting
            (slice_get t.lists.clients i) y is h.second.over live),
      );
    }

record Visited (n : ℕ) (s t : Timed) : Type 0 where
  later : (j : ℕ) → n ≤ j → slice_get t.lists.clients j ≡ slice_get s.lists.clients j
  rests : (j : ℕ) → j < n → RestsAt j t

visits : (n : ℕ) (s : Timed) (x : List Fact) (t : Timed) → Valid s.lists → Visits Serves n s x t → Visited n s t
visits zero s x t v h = record {
  later = λ j le. ap (λ (u : Timed). slice_get u.lists.clients j) h.1;
  rests = λ j lt. absurd (omega arith);
}
visits (suc n) s x t v h =
    let b = h.between in
    let before = visits n s h.front b v h.first in
    let v1 = valid-at s h.front b v (lawful-visits Serves serves-lawful n s h.front b v h.first) in
    let now = serves n b h.back t v1 h.second in
    record {
      later = λ j le. now.others j (λ e. absurd (omega arith)) ∙ before.later j (omega arith);
      rests = λ j lt. by j lt before now (eqb j n) refl;
    }
  where
    by : (j : ℕ) → j < suc n → Visited n s h.between → Served n h.between t → (e : Bool) → eqb j n ≡ e → RestsAt j t
    by j lt before now true e = subst (λ (i : ℕ). RestsAt i t) (sym (eqb-true j n e)) now.rests
    by j lt before now false e =
        let ne = eqb-false j n e in
        λ y is. before.rests j (omega arith) y (sym (now.others j ne) ∙ is)

posts-rest : (s : Timed) (x : List Fact) (t : Timed) → Valid s.lists → PostsAll s x t → RestsNode t.lists
posts-rest s x t v h =
    let all = visits (length s.lists.clients) s x t v h in
    placed-all Rests t.lists.clients (λ j y is. all.rests j (by all j y is (nat_lt j
    (length s.lists.clients)) refl) y is)
  where
    by : Visited (length s.lists.clients) s t → (j : ℕ) (y : Client) → slice_get t.lists.clients j ≡ Some y
        → (b : Bool) → nat_lt j (length s.lists.clients) ≡ b → j < length s.lists.clients
    by all j y is true e = ltb-true j (length s.lists.clients) e
    by all j y is false e =
        let le = ltb-false j (length s.lists.clients) e in
        slice_get_within s.lists.clients j y (sym (all.later j le) ∙ is)

-- sending changes none of it
sends-call : (clock k : ℕ) (c : Call) → can_post c ≡ false → can_post (moved (sent_packet clock k) c) ≡ false
sends-call clock k c h = by c.progress h
  where
    by : (o : Option Progress) → has_postable c.what o ≡ false → has_postable c.what (option_map
        (sent_packet clock k) o) ≡ false
    by None h = h
    by (Some p) h = rw (sent-posted clock k p, sent-answer clock k p) h

sends-rests : (clock r k : ℕ) (x : Client) → Rests x → Rests (sends clock r k x)
sends-rests clock r k x h = λ live. let old = h live in (
  begun-moved (is_active r) (sent_packet clock k) x (sends clock r k x) refl old.0,
  posted old.1,
)
  where
    posted : AllPosted x → AllPosted (sends clock r k x)
    posted (inl e) = inl e
    posted (inr all) = inr (all-kept (is_active r) (moved (sent_packet clock k)) (λ c. can_post c ≡ false) x.calls
        (λ c p t. sends-call clock k c p) all)

sent-rests : (clock : ℕ) (l : Lists) (peer : ℕ) (owner : Owner) (k : ℕ) (head : List ℕ) (out : Outgoing)
    → owner_packet l owner k ≡ Some out → RestsNode l
    → AllByRecursion Rests (clients_after clock (Sent peer owner k) head (front_header l.ring)
    (front_body l.ring) l.clients)
sent-rests clock l peer (Ask s r) k head out own h = all-kept (is_client s) (sends clock r k) Rests l.clients
    (λ x n t. sends-rests clock r k x n) h
sent-rests clock l peer (Reply t r) k head out own h = h
sent-rests clock l peer Control k head out own h = absurd (cc)

sends-one : (s : Timed) (x : List Fact) (t : Timed) → Sends s x t → RestsNode s.lists → RestsNode t.lists
sends-one s x t h r =
    rw (h.goes, h.facts) (sent-rests s.clock s.lists h.out.peer h.entry.owner h.entry.number h.head h.out h.packet r)

sends-chain : (s : Timed) (x : List Fact) (t : Timed) → Chain Sends s x t → RestsNode s.lists → RestsNode t.lists
sends-chain s x t none r = r
sends-chain s x t (more {x = front} {t = between} c y u h) r = sends-one between y u h (sends-chain s front between c r)

closes-rest : (s : Timed) (x : List Fact) (t : Timed) → Closes s x t → RestsNode s.lists → RestsNode t.lists
closes-rest s x t h r = rw (h.goes, h.facts) r

-- the end of a poll
pub ends-resting : (s : Timed) (x : List Fact) (t : Timed) → Valid s.lists
    → Then PostsAll (Then SendsSome Closes) s x t → RestsNode t.lists
ends-resting s x t v h =
    closes-rest h.second.between h.second.back t h.second.second
    (sends-chain h.between h.second.front h.second.between h.second.first
    (posts-rest s h.front h.between v h.first))
