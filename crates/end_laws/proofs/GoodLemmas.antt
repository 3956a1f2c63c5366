-- A node stays as what is known says while more becomes known of others.
use Rattle.std.proofs.Common.{◌∙◌}
use Rattle.end_laws.proofs.LetGoSteps.{clients-kin}
use Rattle.end_laws.proofs.Known.{StartOf}
use Rattle.end_laws.proofs.Known.{Begin}
use Rattle.std.proofs.Common.{◌≡◌, ◌≤◌, ℕ, true, List, length, Option, Some, None, refl, ap, arith}
use Rattle.std.specs.List.{AllByRecursion}
use Rattle.rpc_base.specs.declared.event.Event.{Event}
use Rattle.rpc_base.specs.declared.event.Event.TheVariants.{Opened, Connected, FailedNoRoom}
use Rattle.rpc_base.specs.declared.event.Event.TheVariants.{FailedNoAnswer, Closing, ClosedHeard}
use Rattle.rpc_base.specs.declared.event.Event.TheVariants.{ClosedUnheard, PairedClient, Asked}
use Rattle.rpc_base.specs.declared.event.Event.TheVariants.{Begun, Posted, Sent, Took, Rolled}
use Rattle.rpc_base.specs.declared.event.Event.TheVariants.{Broken, DoneOk, DoneTooSmall}
use Rattle.rpc_base.specs.declared.event.Event.TheVariants.{DonePeerLost, PairedServer, Accepted}
use Rattle.packet_header.specs.declared.packet.ControlHeader.{ControlHeader}
use Rattle.rpc_base.specs.declared.fact.Fact.{Fact}
use Rattle.rpc_base.specs.declared.fact.Who.{Who}
use Rattle.rpc_base.specs.declared.fact.Who.TheVariants.{Node}
use Rattle.rpc_base.specs.declared.owner.Owner.TheVariants.{Ask, Reply, Control}
use Rattle.packet_header.specs.declared.packet.MessageHeader.{MessageHeader}
use Rattle.rpc_laws.specs.declared.tables.Client.{Client}
use Rattle.rpc_laws.specs.declared.tables.InFlight.{InFlight}
use Rattle.rpc_laws.specs.declared.tables.Lists.{Lists}
use Rattle.rpc_laws.specs.Front.{control_of, front_header, front_body}
use Rattle.rpc_laws.specs.NodeLists.{after, asked_after}
use Rattle.rpc_laws.specs.Sessions.{clients_after, clients_told}
use Rattle.node_laws.proofs.Allowed.{Allowed as Lawful}
use Rattle.node_laws.proofs.JobLemmas.{run-spends}
use Rattle.node_laws.specs.Valid.{Valid, to_run}
use Rattle.rpc_laws.specs.Requests.{server_numbers_after}
use Rattle.end_laws.proofs.Allowed.{May}
use Rattle.end_laws.proofs.ClientLemmas.{is_quiet, clients-quiet}
use Rattle.end_laws.proofs.JobSteps.{jobs-good}
use Rattle.end_laws.proofs.Known.{Known, Later, Speaks, is_joined, GoodClient, GoodNode, Unmade}
use Rattle.end_laws.proofs.Known.{noting, later-noting}
use Rattle.end_laws.proofs.KnownLemmas.{call-later, servers-later, jobs-later, tied-later}
use Rattle.node_laws.proofs.JoinLemmas.{length-first}
use Rattle.end_laws.proofs.ListLemmas.{all-map}
use Rattle.end_laws.proofs.QueueLemmas.{RightNode}
use Rattle.end_laws.proofs.ServerLemmas.{servers-quiet}
use Rattle.rpc_laws.specs.Endpoints.{Endpoint, Lived}

-- nothing new is known of a node
pub record SameAt (j k : Known) (n : Endpoint) : Type 0 where
  pub asks : (c : ℕ) → j.asks n c 0 ≡ None → k.asks n c 0 ≡ None
  pub ends : (t : ℕ) → j.ends n t 0 ≡ None → k.ends n t 0 ≡ None
  pub starts : (s r : ℕ) → j.starts n s r ≡ None → k.starts n s r ≡ None
  pub runs : (t r : ℕ) → j.runs n t r ≡ None → k.runs n t r ≡ None

pub client-more : (j k : Known) → Later j k → (n : Endpoint) (i : ℕ) (x : Client)
    → ((r : ℕ) → j.starts n i r ≡ None → k.starts n i r ≡ None) → GoodClient j n i x
    → GoodClient k n i x
client-more j k later n i x same g = record {
  number = g.number;
  tied = tied-later j k later (is_joined x.state) n i x g.tied;
  eight = g.eight;
  fresh = λ r le. same r (g.fresh r le);
  calls = all-map _ _ x.calls (call-later j k later n x.way) g.calls;
}

-- what began isn't new
begun-before : (j k : Known) → Later j k → (n : Endpoint) (s r : ℕ) (b : Begin) (o : Option Begin)
    → j.starts n s r ≡ o → SameAt j k n → k.starts n s r ≡ Some b → j.starts n s r ≡ Some b
begun-before j k later n s r b None e same is = let none = same.starts s r e in cc
begun-before j k later n s r b (Some c) e same is = let there = later.starts n s r c e in cc

pub node-more : (j k : Known) → Later j k → (n : Endpoint) (l : Lists) → SameAt j k n → GoodNode j n l → GoodNode k n l
node-more j k later n l same g = record {
  clients = λ i x is. client-more j k later n i x (same.starts i) (g.clients i x is);
  servers = servers-later j k later n l.servers g.servers;
  no_asks = λ c le. same.asks c (g.no_asks c le);
  no_ends = λ t le. same.ends t (g.no_ends t le);
  no_starts = λ s r le. same.starts s r (g.no_starts s r le);
  begun = λ s r b is. g.begun s r b (begun-before j k later n s r b (j.starts n s r) refl same is);
  no_runs = λ t r u. same.runs t r (g.no_runs t r u);
  jobs = jobs-later j k later n l.jobs.out g.jobs;
}

pub noting-same : (k : Known) (f : Lived) (n : Endpoint) → SameAt k (noting k f) n
noting-same k f n = record { asks = λ c h. h; ends = λ t h. h; starts = λ s r h. h; runs = λ t r h. h }

pub unmade-noting : (k : Known) (f : Lived) (nodes : List Lists) → Unmade k nodes
    → Unmade (noting k f) nodes
unmade-noting k f nodes u = record { asks = u.asks; ends = u.ends; starts = u.starts; runs = u.runs }

asked-quiet : (e : Event) (n : ℕ) → is_quiet e ≡ true → asked_after e n ≡ n
asked-quiet (Asked c s y room) n q = absurd (cc)
asked-quiet _ n q = refl

told-length : (clock : ℕ) (h : Option ControlHeader) (xs : List Client) → length (clients_told clock h xs) ≡ length xs
told-length clock None xs = refl
told-length clock (Some h) xs = length-first _ _ xs

clients-length : (clock : ℕ) (e : Event) (bytes : List ℕ) (head : Option MessageHeader)
    (body : List ℕ) (xs : List Client) → is_quiet e ≡ true
    → length (clients_after clock e bytes head body xs) ≡ length xs
clients-length clock (PairedClient s peer t credits life) bytes head body xs q = absurd (cc)
clients-length clock (Opened s peer credits) bytes head body xs q = absurd (cc)
clients-length clock (Connected s t life) bytes head body xs q = absurd (cc)
clients-length clock (FailedNoRoom s) bytes head body xs q = length-first _ _ xs
clients-length clock (FailedNoAnswer s) bytes head body xs q = length-first _ _ xs
clients-length clock (Closing s) bytes head body xs q = length-first _ _ xs
clients-length clock (ClosedHeard s) bytes head body xs q = length-first _ _ xs
clients-length clock (ClosedUnheard s) bytes head body xs q = length-first _ _ xs
clients-length clock (Asked c s y room) bytes head body xs q = absurd (cc)
clients-length clock (Begun c r) bytes head body xs q = absurd (cc)
clients-length clock (Posted (Ask s r) j) bytes head body xs q = length-first _ _ xs
clients-length clock (Posted (Reply t r) j) bytes head body xs q = refl
clients-length clock (Posted Control j) bytes head body xs q = refl
clients-length clock (Sent peer (Ask s r) j) bytes head body xs q = length-first _ _ xs
clients-length clock (Sent peer (Reply t r) j) bytes head body xs q = refl
clients-length clock (Sent peer Control j) bytes head body xs q = told-length clock (control_of bytes) xs
clients-length clock (Took (Ask s r) j) bytes head body xs q = length-first _ _ xs
clients-length clock (Took (Reply t r) j) bytes head body xs q = refl
clients-length clock (Took Control j) bytes head body xs q = refl
clients-length clock (Rolled c posted got) bytes head body xs q = length-first _ _ xs
clients-length clock (Broken s) bytes head body xs q = length-first _ _ xs
clients-length clock (DoneOk c) bytes head body xs q = length-first _ _ xs
clients-length clock (DoneTooSmall c size) bytes head body xs q = length-first _ _ xs
clients-length clock (DonePeerLost c) bytes head body xs q = length-first _ _ xs
clients-length clock _ bytes head body xs q = refl

pub own-fact : (f : Fact) (n : ℕ) → f.who ≡ Node n
    → f ≡ record { who = Node n; event = f.event; first = f.first; second = f.second }
own-fact f n who = ap (λ (p : Who). record { who = p; event = f.event; first = f.first; second = f.second }) who

-- what may still run might before
pub run-left : (l : Lists) (f : Fact) → Valid l → Lawful l f.event → (clock t r : ℕ)
    → 1 ≤ to_run t r (after clock l f) → 1 ≤ to_run t r l
run-left l f v a clock t r some = let spent = run-spends t r l v clock f a in omega arith

-- where a call began, its session is still joined, with its way
pub starts-stay : (l : Lists) (f : Fact) → Valid l → Lawful l f.event → (clock s : ℕ) (b : Begin)
    → StartOf l.clients s b → StartOf (after clock l f).clients s b
starts-stay l f v a clock s b h =
    let k = clients-kin clock l f.event f.first (front_header l.ring) (front_body l.ring) v a s
    h.client h.is_there in
    let j = k.kin.joined h.joined in
    record { client = k.now; is_there = k.is; joined = j.0; way = j.1 ∙ h.way }

numbers-quiet : (e : Event) (n : ℕ) → is_quiet e ≡ true → server_numbers_after e n ≡ n
numbers-quiet (PairedServer t peer s credits life) n q = absurd (cc)
numbers-quiet (Accepted t peer s credits life) n q = absurd (cc)
numbers-quiet _ n q = refl

-- a node stays good by a fact that adds nothing to the logs
pub node-quiet : (k : Known) (hand : Option InFlight) (clock : ℕ) (n : Endpoint) (l : Lists) (g : Lived)
    → (f : Fact) → l.life ≡ n.life → is_quiet f.event ≡ true → May hand l f.event f.first f.second → Valid l
    → Lawful l f.event → RightNode l → AllByRecursion (λ a. Speaks k a.peer n.node a.bytes) l.ring
    → GoodNode k n l → GoodNode (noting k g) n (after clock l f)
node-quiet k hand clock n l noted_fact f now quiet m valid lawful right ring g =
    let k2 = noting k noted_fact in
    let later = later-noting k noted_fact in
    let clients =
    clients-quiet k n hand clock l f.event f.first f.second quiet now m lawful ring g.clients in
    let jobs = jobs-good k n hand l f.event f.first f.second m g in
    let count = clients-length clock f.event f.first (front_header l.ring) (front_body l.ring) l.clients quiet in
    let numbers = numbers-quiet f.event l.server_numbers quiet in
    let asked = asked-quiet f.event l.asked quiet in
    record {
      clients = λ i x is. client-more k k2 later n i x (λ r h. h) (clients i x is);
      servers = servers-quiet k k2 n later hand l f.event f.first f.second quiet now m right.slots ring g.servers;
      jobs = jobs-later k k2 later n _ jobs;
      no_asks = λ c le. g.no_asks c (omega arith);
      no_ends = λ t le. g.no_ends t (omega arith);
      no_starts = λ s r le. g.no_starts s r (omega arith);
      begun = λ s r b is. starts-stay l f valid lawful clock s b (g.begun s r b is);
      no_runs = λ t r some. g.no_runs t r (run-left l f valid lawful clock t r some);
    }
