-- Two nodes are paired, or the first refusal is noted.
use Rattle.std.proofs.Common.{◌≡◌, ◌≢◌, ◌<◌, ℕ, zero, suc, Bool, true, false, ◌||◌, cond}
use Rattle.std.proofs.Common.{leb-false, Option, Some, None, List, [], ◌∷◌, ◌++◌, length, refl, sym}
use Rattle.std.proofs.Common.{ap, map, subst, ◌∙◌, append_assoc, arith}
use Rattle.std.specs.Prelude.{option_map}
use Rattle.std.specs.List.{slice_get, slice_set}
use Rattle.std.proofs.lemmas.Option.{slice_get-map}
use Rattle.endpoint_loop.specs.Endpoints.{Leaves}
use Rattle.node_steps.specs.Pairs.{PairsClient, PairsServer, or_refused}
use Rattle.endpoint_loop.specs.Endpoints.{asks_of}
use Rattle.node_steps.specs.Seen.{Asks, asking}
use Rattle.ring_laws.proofs.Frames.{map-set, set-same}
use Rattle.rpc_base.specs.declared.event.Event.{Event}
use Rattle.rpc_base.specs.declared.event.Event.TheVariants.{PairedClient, PairedServer, NconnectNumbers, NconnectRing}
use Rattle.rpc_base.specs.declared.fact.Fact.{Fact}
use Rattle.rpc_base.specs.declared.limits.TheConstants.{SESSION_NUMBERS}
use Rattle.rpc_base.proofs.PlaceLemmas.{set-here, set-other}
use Rattle.rpc_laws.specs.declared.tables.Lists.{Lists}
use Rattle.rpc_laws.specs.declared.tables.Timed.{Timed}
use Rattle.rpc_laws.specs.declared.tables.WorkedJob.{WorkedJob}
use Rattle.rpc_laws.specs.Facts.{plain}
use Rattle.rpc_laws.specs.Groups.{client_refusal, clients_spent, has_no_room, pair_refusal}
use Rattle.rpc_laws.specs.Groups.{server_refusal, servers_spent, shares}
use Rattle.rpc_laws.specs.Steps.{NotesNext}
use Rattle.sim_script.specs.FollowsScript.{Pairs, PairsEnds, is_wanting, noted}
use Rattle.rpc_world.specs.Answered.{End, Plainly, Play, stage_of, told_end, totals_of}
use Rattle.rpc_world.specs.Before.{AllPlay, IsPlaying}
use Rattle.rpc_world.specs.Performed.{Performed, AsksServer, NotesRefusal, TakesEnd, TakesEnds}
use Rattle.rpc_world.proofs.PeerSteps.{noted-names}
use Rattle.rpc_world.proofs.PlainLemmas.{changes_served, plainly-append, plainly-quiet, kept-quiet}
use Rattle.rpc_world.proofs.QuietLemmas.{IsStill, leaving-step}
use Rattle.rpc_world.proofs.StepLemmas.{NodeStep, place-in, stepped_play, steps-play}
use Rattle.work_laws.proofs.StayLaws.{goes-stays}
use Rattle.work_laws.specs.Known.{changes_jobs}
use Rattle.worker_crew.specs.Local.{Local, out_of}

some-same : {A : Type 0} (x y : A) (o : Option A) → o ≡ Some x → o ≡ Some y → x ≡ y
some-same x y o p q = cc

-- a node of the stage
pub node-of : (s : Play) (n : ℕ) (e : End) → slice_get s.ends n ≡ Some e
    → slice_get (stage_of s).nodes n ≡ Some (told_end e)
node-of s n e at = slice_get-map told_end s.ends n ∙ ap (λ o. option_map told_end o) at

-- an end takes no room of the other
server-free : (a b c : Bool) (e f : Event)
    → cond (a || b) (Some e) (cond c (Some f) None) ≡ None → cond b (Some e) (cond c (Some f) None) ≡ None
server-free true b c e f h = cc
server-free false b c e f h = h

pub takes-server : (credits : ℕ) (l : Lists) → pair_refusal credits l ≡ None → server_refusal credits l ≡ None
takes-server credits l h =
    server-free (clients_spent l) (servers_spent l) (has_no_room credits l) NconnectNumbers
    (NconnectRing (shares l) credits l.room) h

client-free : (a b c : Bool) (e f : Event)
    → cond (a || b) (Some e) (cond c (Some f) None) ≡ None → cond a (Some e) (cond c (Some f) None) ≡ None
client-free true b c e f h = cc
client-free false true c e f h = cc
client-free false false c e f h = h

pub takes-client : (credits : ℕ) (l : Lists) → pair_refusal credits l ≡ None → client_refusal credits l ≡ None
takes-client credits l h =
    client-free (clients_spent l) (servers_spent l) (has_no_room credits l) NconnectNumbers
    (NconnectRing (shares l) credits l.room) h

pub fits-own : (a credits : ℕ) (z s : Play) (client : End) → z ≡ s → TakesEnd a credits s
    → slice_get z.ends a ≡ Some client → client_refusal credits client.timed.lists ≡ None
fits-own a credits z s client view fits at =
    takes-client credits client.timed.lists
    (fits client (ap (λ (y : Play). slice_get y.ends a) (sym view) ∙ at))

-- an end that nothing refuses is made
pub client-made : (peer other credits life : ℕ) (e new : End) (x : List Fact)
    → client_refusal credits e.timed.lists ≡ None
    → ((asks : Asks) → PairsClient peer other credits life (asking asks e.timed) x (asking asks new.timed))
    → (asks : Asks) → NotesNext (λ l. Some (PairedClient (length l.clients) peer other credits life))
    (asking asks e.timed) x (asking asks new.timed)
client-made peer other credits life e new x none step asks =
    let made = PairedClient (length e.timed.lists.clients) peer other credits life in
    let h = step asks in
    record {
      event = made;
      is_next = refl;
      facts = h.facts ∙ ap (λ o. plain e.timed.lists.me (or_refused o made) ∷ []) none;
      goes = h.goes;
    }

pub server-made : (peer other credits life : ℕ) (e new : End) (x : List Fact)
    → server_refusal credits e.timed.lists ≡ None
    → ((asks : Asks) → PairsServer peer other credits life (asking asks e.timed) x (asking asks new.timed))
    → (asks : Asks) → NotesNext (λ l. Some (PairedServer l.server_numbers peer other credits life))
    (asking asks e.timed) x (asking asks new.timed)
server-made peer other credits life e new x none step asks =
    let made = PairedServer e.timed.lists.server_numbers peer other credits life in
    let h = step asks in
    record {
      event = made;
      is_next = refl;
      facts = h.facts ∙ ap (λ o. plain e.timed.lists.me (or_refused o made) ∷ []) none;
      goes = h.goes;
    }

pub fits-other : (a b credits : ℕ) (z s : Play) (client2 server : End) → z ≡ s → b ≢ a → TakesEnd b credits s
    → slice_get (slice_set z.ends a client2) b ≡ Some server → server_refusal credits server.timed.lists ≡ None
fits-other a b credits z s client2 server view other fits at =
    takes-server credits server.timed.lists
    (fits server (ap (λ (y : Play). slice_get y.ends b) (sym view)
    ∙ (sym (set-other z.ends a b client2 other) ∙ at)))

-- a refusal runs nothing, and is no want
refused-plain : (a b : Bool) (x y z : ℕ) (e : Event)
    → cond a (Some NconnectNumbers) (cond b (Some (NconnectRing x y z)) None) ≡ Some e
    → (changes_served e ≡ false) × (is_wanting e ≡ false)
refused-plain true b x y z e is =
    let same : NconnectNumbers ≡ e = cc in
    subst (λ (g : Event). (changes_served g ≡ false) × (is_wanting g ≡ false)) same (refl, refl)
refused-plain false true x y z e is =
    let same : NconnectRing x y z ≡ e = cc in
    subst (λ (g : Event). (changes_served g ≡ false) × (is_wanting g ≡ false)) same (refl, refl)
refused-plain false false x y z e is = cc

plainly-refused : (l : Lists) (credits : ℕ) (e : Event) (a : List ℕ)
    → pair_refusal credits l ≡ Some e → Plainly (plain l.me e ∷ []) a a
plainly-refused l credits e a is =
    let p = refused-plain (clients_spent l || servers_spent l) (has_no_room credits l) (shares l) credits l.room e is in
    plainly-quiet l.me (plain l.me e ∷ []) a (refl, tt) (kept-quiet (plain l.me e ∷ []) (p.0, tt))
    (rw p.1 refl)

-- one fact is noted of an end that is made
notes-still : (next : Lists → Event) (s : Timed) (x : List Fact) (t : Timed)
    → changes_jobs (next s.lists) ≡ false → is_wanting (next s.lists) ≡ false
    → NotesNext (λ l. Some (next l)) s x t → IsStill (NotesNext (λ l. Some (next l))) s x t
notes-still next s x t still whole h =
    let same : next s.lists ≡ h.event = cc (h.is_next) in
    let facts : x ≡ plain s.lists.me (next s.lists) ∷ [] =
    h.facts ∙ ap (λ (e : Event). plain s.lists.me e ∷ []) (sym same) in
    record {
      stays = goes-stays s x t h.goes (rw facts (still, tt));
      own = rw facts (refl, tt);
      whole = rw (facts, whole) refl;
    }

pub record NotesEnd (n : ℕ) (next : Lists → Event) (worked : List WorkedJob) (e new : End) (x : List Fact)
    : Type 0 where
  pub facts : x ≡ plain e.timed.lists.me (next (told_end e).lists) ∷ []
  pub goes : told_end new ≡ noted (told_end e) (plain e.timed.lists.me (next (told_end e).lists))
  pub service : new.service ≡ e.service
  pub step : IsPlaying worked n e → NodeStep (NotesNext (λ l. Some (next l))) n worked e new x

pub notes-end : (n : ℕ) (next : Lists → Event) (worked : List WorkedJob) (e new : End) (x : List Fact)
    → ((l : Lists) → changes_jobs (next l) ≡ false) → ((l : Lists) → is_wanting (next l) ≡ false) → Leaves e new
    → ((asks : Asks) → NotesNext (λ l. Some (next l)) (asking asks e.timed) x (asking asks new.timed))
    → NotesEnd n next worked e new x
notes-end n next worked e new x still whole leaves step =
    let asks = asks_of (out_of e.workers) in
    let does : NotesNext (λ l. Some (next l)) (told_end e) x (told_end new) =
    subst (λ (w : Local). NotesNext (λ l. Some (next l)) (told_end e) x (asking (asks_of (out_of w)) new.timed))
    (sym leaves.workers) (step asks) in
    let same : next (told_end e).lists ≡ does.event = cc (does.is_next) in
    let facts : x ≡ plain e.timed.lists.me (next (told_end e).lists) ∷ [] =
    does.facts ∙ ap (λ (v : Event). plain e.timed.lists.me v ∷ []) (sym same) in
    record {
      facts = facts;
      goes = rw facts at does.goes;
      service = leaves.service;
      step = λ p.
          leaving-step (NotesNext (λ l. Some (next l))) n worked e new x leaves
          (λ s t h. notes-still next s x t (still s.lists) (whole s.lists) h) step p;
    }

-- both ends are made
module _ (a b credits p q u v : ℕ) (z : Play) (client client2 server server2 : End) (x y : List Fact) (other : b ≢ a)
    (is_a : slice_get z.ends a ≡ Some client) (is_b : slice_get (slice_set z.ends a client2) b ≡ Some server)
    (is_p : p ≡ length client.timed.lists.clients) (is_q : q ≡ server.timed.lists.server_numbers)
    (is_u : u ≡ client.timed.lists.life) (is_v : v ≡ server.timed.lists.life)
    (m : NotesEnd a (λ l. PairedClient (length l.clients) b q credits v) z.worked client client2 x)
    (n : NotesEnd b (λ l. PairedServer l.server_numbers a p credits u) z.worked server server2 y) where
  abbrev at_client : Fact
  at_client = plain client.timed.lists.me (PairedClient (length client.timed.lists.clients) b q credits v)

  abbrev at_server : Fact
  at_server = plain server.timed.lists.me (PairedServer server.timed.lists.server_numbers a p credits u)

  abbrev one : Play
  one = record z { ends = slice_set z.ends a client2 }

  abbrev both : Play
  both = record z { ends = slice_set (slice_set z.ends a client2) b server2 }

  found_b : slice_get z.ends b ≡ Some server
  found_b = sym (set-other z.ends a b client2 other) ∙ is_b

  pairs-ends : PairsEnds a b credits (told_end client) (told_end server) (stage_of z)
      (at_client ∷ at_server ∷ []) (stage_of both)
  pairs-ends = record {
    at_client = at_client;
    at_server = at_server;
    for_client = rw (is_q, is_v) refl;
    for_server = rw (is_p, is_u) refl;
    facts = refl;
    left = ap (λ (ns : List Timed). record (stage_of z) { nodes = ns })
        (map-set told_end (slice_set z.ends a client2) b server2
        ∙ (ap (λ (ns : List Timed). slice_set ns b (told_end server2)) (map-set told_end z.ends a client2)
        ∙ (ap (λ (u : Timed). slice_set (slice_set (map told_end z.ends) a u) b (told_end server2)) m.goes
        ∙ ap (λ (u : Timed). slice_set (slice_set (map told_end z.ends) a
        (noted (told_end client) at_client)) b u) n.goes)));
  }

  same-totals : totals_of z ≡ totals_of both
  same-totals =
      sym (set-same (λ (e : End). e.service) (slice_set z.ends a client2) b server server2 is_b n.service
      ∙ set-same (λ (e : End). e.service) z.ends a client client2 is_a m.service)

  both-plain : Plainly (at_client ∷ at_server ∷ []) (totals_of z) (totals_of both)
  both-plain =
      subst (λ (t : List ℕ). Plainly (at_client ∷ at_server ∷ []) (totals_of z) t) same-totals
      (plainly-append (at_client ∷ []) (at_server ∷ []) (totals_of z) (totals_of z) (totals_of z)
      (plainly-quiet client.timed.lists.me (at_client ∷ []) (totals_of z) (refl, tt)
      (λ served. ((tt, tt), refl)) refl)
      (plainly-quiet server.timed.lists.me (at_server ∷ []) (totals_of z) (refl, tt)
      (λ served. ((tt, tt), refl)) refl))

  one-plays : AllPlay z → AllPlay one
  one-plays all =
      let done = m.step (all.each a client is_a) in
      subst (λ (w : List Fact). AllPlay (stepped_play z a client2 w)) m.facts
      (steps-play a z client client2 x is_a done.own (λ p. (m.step p).plays)
      (λ i. noted-names (length z.ends) (λ l. PairedClient (length l.clients) b q credits v)
      (λ l. place-in z.ends b server found_b) (told_end client) x (told_end client2) i done.step) all)

  both-play : AllPlay z → AllPlay both
  both-play all =
      let now = one-plays all in
      let done = n.step (now.each b server is_b) in
      subst (λ (w : List Fact). AllPlay (stepped_play one b server2 w)) n.facts
      (steps-play b one server server2 y is_b done.own (λ p. (n.step p).plays)
      (λ i. noted-names (length one.ends) (λ l. PairedServer l.server_numbers a p credits u)
      (λ l. place-in one.ends a client2 (set-here z.ends a client client2 is_a))
      (told_end server) y (told_end server2) i done.step) now)

  pub ends-by : (s : Play) (f g h : List Fact) → z ≡ s → g ≡ f ++ x → h ≡ g ++ y
      → Performed (TakesEnds a b credits) s both f h
  ends-by s f g h view grew_x grew_y =
      subst (λ (w : Play). Performed (TakesEnds a b credits) w both f h) view
      (record {
        group = at_client ∷ at_server ∷ [];
        grew = grew_y ∙ rw (grew_x, m.facts, n.facts) (append_assoc f (at_client ∷ []) (at_server ∷ []));
        does = record {
          client = told_end client;
          server = told_end server;
          is_client = node-of z a client is_a;
          is_server = node-of z b server found_b;
          ends = pairs-ends;
        };
        plain = both-plain;
        keeps = both-play;
      })

-- what nothing refuses has a number of each kind that isn't spent
unspent-by : (a b c : Bool) (e : Event)
    → cond (a || b) (Some NconnectNumbers) (cond c (Some e) None) ≡ None → (a ≡ false) × (b ≡ false)
unspent-by true b c e h = cc
unspent-by false true c e h = cc
unspent-by false false c e h = (refl, refl)

unspent : (credits : ℕ) (l : Lists) → pair_refusal credits l ≡ None
    → (length l.clients < SESSION_NUMBERS) × (l.server_numbers < SESSION_NUMBERS)
unspent credits l h =
    let free = unspent-by (clients_spent l) (servers_spent l) (has_no_room credits l)
    (NconnectRing (shares l) credits l.room) h in
    (leb-false _ _ free.0, leb-false _ _ free.1)

pub fits-unspent : (n m credits : ℕ) (z s : Play) (e : End) → z ≡ s → m ≡ n → TakesEnd n credits s
    → slice_get z.ends m ≡ Some e
    → (length e.timed.lists.clients < SESSION_NUMBERS) × (e.timed.lists.server_numbers < SESSION_NUMBERS)
fits-unspent n m credits z s e view same fits at =
    unspent credits e.timed.lists
    (fits e (ap (λ (y : Play). slice_get y.ends n) (sym view)
    ∙ subst (λ (k : ℕ). slice_get z.ends k ≡ Some e) same at))

-- a place that is within a list has something
pub at-place : {A : Type 0} (xs : List A) (i : ℕ) → i < length xs → (x : A) × (slice_get xs i ≡ Some x)
at-place [] i h = absurd (omega (arith, h))
at-place (x ∷ xs) zero h = (x, refl)
at-place (x ∷ xs) (suc i) h = at-place xs i (omega (arith, h))

pub seen-at : (z s : Play) (i : ℕ) (e : End) → z ≡ s → slice_get z.ends i ≡ Some e → slice_get s.ends i ≡ Some e
seen-at z s i e view at = ap (λ (y : Play). slice_get y.ends i) (sym view) ∙ at

-- B refuses
pub server-refuses : (a b credits : ℕ) (s : Play) (server : End) (refuses : Bool) (f g : List Fact)
    → a < length s.ends → slice_get s.ends b ≡ Some server → refuses ≡ true
    → NotesRefusal refuses (pair_refusal credits server.timed.lists) server.timed.lists.me f g
    → Performed (AsksServer a b credits) s s f g
server-refuses a b credits s server false f g place is_b e _ = cc (e)
server-refuses a b credits s server true f g place is_b _ (e, is, grew) =
    let (client, is_a) = at-place s.ends a place in
    record {
      group = plain server.timed.lists.me e ∷ [];
      grew = grew;
      does = record {
        client = told_end client;
        server = told_end server;
        is_client = node-of s a client is_a;
        is_server = node-of s b server is_b;
        pairs = rw is (refl, refl);
      };
      plain = plainly-refused server.timed.lists credits e (totals_of s) is;
      keeps = λ all. all;
    }

-- both agree
pub server-agrees : (a b credits : ℕ) (s t : Play) (server : End) (refuses : Bool) (f g h : List Fact)
    → slice_get s.ends b ≡ Some server → refuses ≡ false
    → NotesRefusal refuses (pair_refusal credits server.timed.lists) server.timed.lists.me f g
    → Performed (TakesEnds a b credits) s t g h → Performed (AsksServer a b credits) s t f h
server-agrees a b credits s t server true f g h is_b e _ made = cc (e)
server-agrees a b credits s t server false f g h is_b _ (is, same_facts) made =
    let d = made.does in
    let same : told_end server ≡ d.server = some-same _ _ _ (node-of s b server is_b) d.is_server in
    let none : pair_refusal credits d.server.lists ≡ None =
    ap (λ (x : Timed). pair_refusal credits x.lists) (sym same) ∙ is in
    record {
      group = made.group;
      grew = made.grew ∙ ap (λ (x : List Fact). x ++ made.group) same_facts;
      does = record {
        client = d.client;
        server = d.server;
        is_client = d.is_client;
        is_server = d.is_server;
        pairs = rw none d.ends;
      };
      plain = made.plain;
      keeps = made.keeps;
    }

-- A refuses
pub client-refuses : (a b credits : ℕ) (s : Play) (client : End) (refuses : Bool) (f g : List Fact)
    → b < length s.ends → slice_get s.ends a ≡ Some client → refuses ≡ true
    → NotesRefusal refuses (pair_refusal credits client.timed.lists) client.timed.lists.me f g
    → Performed (Pairs a b credits) s s f g
client-refuses a b credits s client false f g place is_a e _ = cc (e)
client-refuses a b credits s client true f g place is_a _ (e, is, grew) =
    let (server, is_b) = at-place s.ends b place in
    record {
      group = plain client.timed.lists.me e ∷ [];
      grew = grew;
      does = record {
        client = told_end client;
        server = told_end server;
        is_client = node-of s a client is_a;
        is_server = node-of s b server is_b;
        pairs = rw is (refl, refl);
      };
      plain = plainly-refused client.timed.lists credits e (totals_of s) is;
      keeps = λ all. all;
    }

-- A agrees, and B is asked
pub client-agrees : (a b credits : ℕ) (s t : Play) (client : End) (refuses : Bool) (f g h : List Fact)
    → slice_get s.ends a ≡ Some client → refuses ≡ false
    → NotesRefusal refuses (pair_refusal credits client.timed.lists) client.timed.lists.me f g
    → Performed (AsksServer a b credits) s t g h → Performed (Pairs a b credits) s t f h
client-agrees a b credits s t client true f g h is_a e _ made = cc (e)
client-agrees a b credits s t client false f g h is_a _ (is, same_facts) made =
    let d = made.does in
    let same : told_end client ≡ d.client = some-same _ _ _ (node-of s a client is_a) d.is_client in
    let none : pair_refusal credits d.client.lists ≡ None =
    ap (λ (x : Timed). pair_refusal credits x.lists) (sym same) ∙ is in
    record {
      group = made.group;
      grew = made.grew ∙ ap (λ (x : List Fact). x ++ made.group) same_facts;
      does = record {
        client = d.client;
        server = d.server;
        is_client = d.is_client;
        is_server = d.is_server;
        pairs = rw none d.pairs;
      };
      plain = made.plain;
      keeps = made.keeps;
    }

-- the same endpoint
pub same-end : (ends : List End) (n : ℕ) (e f : End) → slice_get ends n ≡ Some e → slice_get ends n ≡ Some f → e ≡ f
same-end ends n e f p q = some-same e f (slice_get ends n) p q

pub still-end : (ends : List End) (a b : ℕ) (new e f : End) → b ≢ a → slice_get ends b ≡ Some e
    → slice_get (slice_set ends a new) b ≡ Some f → e ≡ f
still-end ends a b new e f other p q =
    some-same e f (slice_get ends b) p (sym (set-other ends a b new other) ∙ q)
