-- The queued replies to the requests of a server session are taken out, slot by slot.
use Rattle.std.proofs.Common.{◌≡◌, ◌≢◌, ℕ, zero, suc, ◌+◌, ◌%◌, ◌≤◌, ◌<◌, Bool, true, false, not, cond}
use Rattle.std.proofs.Common.{Option, Some, None, List, [], ◌∷◌, ◌++◌, length, filter, refl, sym, ap, ◌∙◌, arith}
use Rattle.std.proofs.Common.{append-nil}
use Rattle.std.specs.Prelude.{◌==◌, IfSome, count_by, flat_map, map, option_map, slice_get}
use Rattle.std.specs.List.{AllByRecursion, find, list_any}
use Rattle.std.proofs.lemmas.Bool.{eq-eqb, eqb-true, ne_eqb}
use Rattle.std.proofs.lemmas.Grind.{flat_map-append}
use Rattle.packet_rings.specs.Rings.{Ring}
use Rattle.packet_rings.specs.Values.{DatagramValue}
use Rattle.rpc_base.specs.declared.event.Event.TheVariants.{Ended, Flushed}
use Rattle.rpc_base.specs.declared.fact.Fact.{Fact}
use Rattle.rpc_base.specs.declared.limits.Limits.{Limits}
use Rattle.rpc_base.specs.declared.owner.Owner.{Owner}
use Rattle.rpc_base.specs.declared.owner.Owner.TheVariants.{Reply}
use Rattle.rpc_base.specs.Tables.{without_first}
use Rattle.rpc_base.proofs.FindLemmas.{at-found}
use Rattle.rpc_base.proofs.ChangedLemmas.{length-without}
use Rattle.rpc_base.proofs.FirstLemmas.{all-left, counted-cons, found-holds, some-counted}
use Rattle.rpc_base.proofs.TakingLemmas.{find-passes}
use Rattle.rpc_base.proofs.PlaceLemmas.{all-at}
use Rattle.rpc_laws.specs.declared.tables.Jobs.{Jobs}
use Rattle.rpc_laws.specs.declared.tables.Lists.{Lists}
use Rattle.rpc_laws.specs.declared.tables.Pace.{Pace}
use Rattle.rpc_laws.specs.declared.tables.Queued.{Queued}
use Rattle.rpc_laws.specs.declared.tables.Served.{Served}
use Rattle.rpc_laws.specs.declared.tables.Server.{Server}
use Rattle.rpc_laws.specs.declared.tables.Timed.{Timed}
use Rattle.rpc_laws.specs.ControlTable.{session_flushes}
use Rattle.rpc_laws.specs.Facts.{plain}
use Rattle.rpc_laws.specs.NodeLists.{after, after_all}
use Rattle.rpc_laws.specs.Queues.{flush_facts, is_reply, numbers_of, put}
use Rattle.rpc_laws.specs.Requests.{in_slot_of, is_server}
use Rattle.rpc_laws.specs.ServerTable.{flushes, flushes_older}
use Rattle.rpc_laws.specs.Steps.{Goes}
use Rattle.node_laws.specs.Valid.{SoundServer}
use Rattle.rpc_outside.specs.Recording.{Grew, Log}
use Rattle.node_laws.proofs.Allowed.{MayLeave, NoneOlder, NoneQueued}
use Rattle.node_laws.proofs.FlushLemmas.{no-more-same, slots-flushed}
use Rattle.node_laws.proofs.KeptLemmas.{kept-after}
use Rattle.node_laws.proofs.LeftLemmas.{same-slot}
use Rattle.node_laws.proofs.PutLemmas.{owner-is}
use Rattle.node_laws.proofs.ControlLemmas.{slot-within}
use Rattle.session_store.specs.Changes.{IsDrained}
use Rattle.session_ends.specs.Joined.{is_owned}
use Rattle.session_store.specs.Serving.{without_owned}
use Rattle.session_store.specs.Sides.{Shown}
use Rattle.node_steps.specs.Ends.{LeavesSessions, ending, flushing_slot, flushing_slots}
use Rattle.node_steps.specs.Ends.{leaving}
use Rattle.node_steps.specs.Handed.{Holding}
use Rattle.node_steps.specs.Fits.{Fits, HasCredit}
use Rattle.node_steps.specs.Notes.{Makes}
use Rattle.node_steps.specs.Seen.{Asks, Tallies, asking, asking_jobs, seen_node}
use Rattle.node_steps.specs.Timers.{Notes, flushing}
use Rattle.server_core.proofs.FlushLemmas.{grew-none}
use Rattle.node_steps.proofs.PacketServers.{slice_get-some}
use Rattle.node_steps.proofs.PacketFlushes.{flushed-after}
use Rattle.node_steps.proofs.NoteEnds.{goes-then, makes-as, makes-join, makes-notes, no_asks}

-- whose replies those of a slot are
abbrev owner_of : Server → Served → Owner
owner_of v q = Reply v.way.number q.number

abbrev slot_owner : ℕ → Server → Option Owner
slot_owner slot v = option_map (owner_of v) (find (in_slot_of slot) v.slots)

same-owner : (a b : Owner) → Some a ≡ Some b → a ≡ b
same-owner a b e = cc

pub slot-some : (me : ℕ) (queued : List Queued) (slot : ℕ) (owner : Owner) (o : Option Server)
    → (o ≡ None → ⊥) → IfSome o (λ v. Some owner ≡ slot_owner slot v)
    → flushes_older me queued o slot ≡ flush_facts me queued owner
slot-some me queued slot owner None there h = absurd (there refl)
slot-some me queued slot owner (Some v) there h = by (find (in_slot_of slot) v.slots) h
  where
    by : (q : Option Served) → Some owner ≡ option_map (owner_of v) q
        → flushes me queued v.way.number q ≡ flush_facts me queued owner
    by None e = cc
    by (Some l) e = ap (flush_facts me queued) (sym (same-owner owner (owner_of v l) e))

pub slot-none : (me : ℕ) (queued : List Queued) (slot : ℕ) (o : Option Server)
    → IfSome o (λ v. None ≡ slot_owner slot v) → flushes_older me queued o slot ≡ []
slot-none me queued slot None h = refl
slot-none me queued slot (Some v) h = by (find (in_slot_of slot) v.slots) h
  where
    by : (q : Option Served) → None ≡ option_map (owner_of v) q
        → flushes me queued v.way.number q ≡ []
    by None e = refl
    by (Some l) e = cc

pub slot-reply : (slot : ℕ) (owner : Owner) (o : Option Server) → (o ≡ None → ⊥)
    → IfSome o (λ v. Some owner ≡ slot_owner slot v) → is_reply owner ≡ true
slot-reply slot owner None there h = absurd (there refl)
slot-reply slot owner (Some v) there h = by (find (in_slot_of slot) v.slots) h
  where
    by : (q : Option Served) → Some owner ≡ option_map (owner_of v) q → is_reply owner ≡ true
    by None e = cc
    by (Some l) e = ap is_reply (same-owner owner (owner_of v l) e)

-- the numbers of an owner stay where those of another one are taken out
module _ (p q : Owner) (apart : (x : Queued) → is_owned p x ≡ true → is_owned q x ≡ false) where
  numbers-cons : (x : Queued) (qs rs : List Queued) (b : Bool) → is_owned p x ≡ b
      → numbers_of q rs ≡ numbers_of q qs
      → numbers_of q (cond (not b) (x ∷ rs) rs) ≡ numbers_of q (x ∷ qs)
  numbers-cons x qs rs true t same = rw (apart x t) same
  numbers-cons x qs rs false t same =
      ap (λ ns. cond (is_owned q x) (put x.number ns) ns) same

  numbers-apart : (qs : List Queued)
      → numbers_of q (filter (λ x. not (is_owned p x)) qs) ≡ numbers_of q qs
  numbers-apart [] = refl
  numbers-apart (x ∷ qs) =
      numbers-cons x qs (filter (λ x. not (is_owned p x)) qs) (is_owned p x) refl
      (numbers-apart qs)

-- no reply is of two slots
slots-apart : (t a b : ℕ) → a ≢ b → (x : Queued) → is_owned (Reply t a) x ≡ true
    → is_owned (Reply t b) x ≡ false
slots-apart t a b other x own =
    rw (owner-is x.owner (Reply t a) own, eq-eqb t t refl, ne_eqb a b other) refl

module _ (me t m n : ℕ) (apart : m % 8 ≢ n % 8) (slots : List Served) (qs : List Queued) where
  both : (o p : Option Served) → find (in_slot_of m) slots ≡ o → find (in_slot_of n) slots ≡ p
      → flushes me (without_owned t p qs) t o ≡ flushes me qs t o
  both None p a b = refl
  both (Some l) None a b = refl
  both (Some l) (Some k) a b =
      let own : l.number % 8 ≡ m % 8 = eqb-true (l.number % 8) (m % 8)
      (find-passes (in_slot_of m) slots l a) in
      let mine : k.number % 8 ≡ n % 8 = eqb-true (k.number % 8) (n % 8)
      (find-passes (in_slot_of n) slots k b) in
      let other : k.number ≢ l.number =
      λ same. apart (sym own ∙ ap (λ x. x % 8) (sym same) ∙ mine) in
      ap (λ (ks : List ℕ). map (λ k. plain me (Flushed (Reply t l.number) k)) ks)
      (numbers-apart (Reply t k.number) (Reply t l.number)
      (slots-apart t k.number l.number other) qs)

  pub slot-stays : flushes me (without_owned t (find (in_slot_of n) slots) qs) t
      (find (in_slot_of m) slots) ≡ flushes me qs t (find (in_slot_of m) slots)
  slot-stays = both (find (in_slot_of m) slots) (find (in_slot_of n) slots) refl refl

-- what the replies of one slot leave of the others
slot-leaves : (i n m : ℕ) (s : Timed) (x : List Fact) (t : Timed) → m % 8 ≢ n % 8
    → Notes (flushing_slot i n) s x t → flushing_slot i m t ≡ flushing_slot i m s
slot-leaves i n m s x t apart p = by (slice_get s.lists.servers i) refl
  where
    lists-are : t.lists ≡ after_all s.clock s.lists (flushing_slot i n s)
    lists-are = ap (λ (u : Timed). u.lists) p.goes ∙ ap (after_all s.clock s.lists) p.facts

    seen : Lists → List Fact
    seen l = flushes_older l.me l.queued (slice_get l.servers i) m

    by : (o : Option Server) → slice_get s.lists.servers i ≡ o
        → flushing_slot i m t ≡ flushing_slot i m s
    by None place = ap seen (rw place at lists-are)
    by (Some v) place =
        let after = flushed-after v.way.number s.clock s.lists.me s.lists
        (find (in_slot_of n) v.slots) s.lists.queued refl in
        let same : t.lists ≡ record s.lists {
          queued = without_owned v.way.number (find (in_slot_of n) v.slots) s.lists.queued;
        } = (rw place at lists-are) ∙ after in
        ap seen same
        ∙ rw place (slot-stays s.lists.me v.way.number m n apart v.slots s.lists.queued)

-- the first slots were flushed, and the others are as they were
pub record FlushesFirst (i n : ℕ) (s : Timed) (x : List Fact) (t : Timed) : Type 0 where
  pub facts : x ≡ flushing_slots i n s
  pub rest : (m : ℕ) → n ≤ m → m < 8 → flushing_slot i m t ≡ flushing_slot i m s
  pub goes : Goes s x t

pub flushes-no-slot : (i : ℕ) (s : Timed) → FlushesFirst i 0 s [] s
flushes-no-slot i s = record { facts = refl; rest = λ m le lt. refl; goes = refl }

pub flushes-slot : (i n : ℕ) (s t u : Timed) (x y : List Fact) → n < 8 → FlushesFirst i n s x t
    → Notes (flushing_slot i n) t y u → FlushesFirst i (n + 1) s (x ++ y) u
flushes-slot i n s t u x y within p q =
    let e : n + 1 ≡ suc n = omega arith in
    rw e (record {
      facts = rw (p.facts, q.facts, p.rest n (omega arith) within) refl;
      rest = λ m le lt.
          let apart : m % 8 ≢ n % 8 = λ same. absurd (omega (arith, same, le, lt, within)) in
          slot-leaves i n m t y u apart q ∙ p.rest m (omega (arith, le)) lt;
      goes = goes-then s t u x y p.goes q.goes;
    })

-- the slots, one after another
abbrev upto : ℕ → List ℕ
upto zero = []
upto (suc n) = upto n ++ n ∷ []

gathered : (i : ℕ) (s : Timed) (n : ℕ)
    → flushing_slots i n s ≡ flat_map (λ m. flushing_slot i m s) (upto n)
gathered i s zero = refl
gathered i s (suc n) =
    let F : ℕ → List Fact = λ m. flushing_slot i m s in
    rw (flat_map-append F (upto n) (n ∷ []), append-nil (F n))
    (ap (λ (z : List Fact). z ++ F n) (gathered i s n))

pub all-slots : (i : ℕ) (s : Timed) (v : Server) → slice_get s.lists.servers i ≡ Some v
    → flushing_slots i 8 s ≡ session_flushes s.lists.me s.lists.queued v
all-slots i s v place =
    gathered i s 8
    ∙ ap (λ (o : Option Server). flat_map (λ m. flushes_older s.lists.me s.lists.queued o m) (upto 8))
    place

-- no reply to a request of any slot is queued
module _ (t : ℕ) (queued : List Queued) where
  abbrev Clean : List Served → Type 0
  Clean slots = (r : ℕ) → NoneOlder t (find (in_slot_of r) slots) queued

  abbrev Apart : List Served → Type 0
  Apart slots = (slot : ℕ) → count_by (λ q. q.number % 8 == slot) slots ≤ 1

  drained-slots : (slots : List Served) → Apart slots → Clean slots
      → AllByRecursion (λ q. list_any (is_owned (Reply t q.number)) queued ≡ false) slots
  drained-slots [] apart clean = tt
  drained-slots (q ∷ qs) apart clean = (first, drained-slots qs few rest)
    where
      first : NoneQueued (Reply t q.number) queued
      first =
          let own : NoneOlder t (find (in_slot_of q.number) (q ∷ qs)) queued = clean q.number in
          rw (eq-eqb (q.number % 8) (q.number % 8) refl) at own

      few : Apart qs
      few slot =
          let test : Served → Bool = λ p. p.number % 8 == slot in
          omega (arith, apart slot, counted-cons test q qs (test q) refl)

      none-there : (r : ℕ) (o : Option Served) → in_slot_of r q ≡ true
          → find (in_slot_of r) qs ≡ o → NoneOlder t o queued
      none-there r None own e = tt
      none-there r (Some l) own e =
          absurd (omega (
            arith,
            apart (r % 8),
            counted-cons (in_slot_of r) q qs true own,
            some-counted (in_slot_of r) (in_slot_of r) qs l e (find-passes (in_slot_of r) qs l e),
          ))

      by : (r : ℕ) (b : Bool) → in_slot_of r q ≡ b → NoneOlder t (find (in_slot_of r) qs) queued
      by r true own = none-there r (find (in_slot_of r) qs) own refl
      by r false other =
          let all : NoneOlder t (find (in_slot_of r) (q ∷ qs)) queued = clean r in rw other at all

      rest : Clean qs
      rest r = by r (in_slot_of r q) refl

  clean-none : (slots : List Served)
      → AllByRecursion (λ q. list_any (is_owned (Reply t q.number)) queued ≡ false) slots
      → Clean slots
  clean-none slots all r = by (find (in_slot_of r) slots) refl
    where
      by : (o : Option Served) → find (in_slot_of r) slots ≡ o → NoneOlder t o queued
      by None e = tt
      by (Some l) e =
          found-holds (in_slot_of r)
          (λ q. list_any (is_owned (Reply t q.number)) queued ≡ false) slots l all e

clean-of : (v : Server) (queue : List Queued)
    → AllByRecursion (λ slot. NoneOlder v.way.number (find (in_slot_of slot) v.slots) queue)
    (0 ∷ 1 ∷ 2 ∷ 3 ∷ 4 ∷ 5 ∷ 6 ∷ 7 ∷ []) → Clean v.way.number queue v.slots
clean-of v queue clean r =
    let below : r % 8 < 8 = omega arith in
    let slot : r % 8 ≡ (r % 8) % 8 = omega arith in
    let one = slot-within (λ i. NoneOlder v.way.number (find (in_slot_of i) v.slots) queue)
    clean (r % 8) below in
    rw (same-slot r (r % 8) slot v.slots) one

-- once all slots were flushed
pub drained-after : (i : ℕ) (s : Timed) (x : List Fact) (t : Timed)
    → AllByRecursion SoundServer s.lists.servers → Notes (flushing_slots i 8) s x t
    → IfSome (slice_get s.lists.servers i) (IsDrained t.lists.queued)
drained-after i s x t served p = by (slice_get s.lists.servers i) refl
  where
    by : (o : Option Server) → slice_get s.lists.servers i ≡ o → IfSome o (IsDrained t.lists.queued)
    by None place = tt
    by (Some v) place =
        let all = slots-flushed s.clock s.lists s.lists.me s.lists.queued v
        (0 ∷ 1 ∷ 2 ∷ 3 ∷ 4 ∷ 5 ∷ 6 ∷ 7 ∷ []) (no-more-same s.lists.queued) in
        let lists-are : t.lists ≡ after_all s.clock s.lists x = ap (λ (u : Timed). u.lists) p.goes in
        let facts-are : x ≡ session_flushes s.lists.me s.lists.queued v =
        p.facts ∙ all-slots i s v place in
        let queue : t.lists.queued ≡ all.flushes.queue = ap (λ (l : Lists). l.queued)
        (lists-are ∙ ap (after_all s.clock s.lists) facts-are ∙ all.flushes.same) in
        rw queue (drained-slots v.way.number all.flushes.queue v.slots
        (all-at SoundServer s.lists.servers i v served place).apart
        (clean-of v all.flushes.queue all.clean))

-- the node of which a server session ended
module _ (me : ℕ) (limits : Limits) (tallies : Tallies) (paces : List Pace) (jobs : Jobs)
    (clock : ℕ) (rx : Ring DatagramValue) (s t : Shown) where
  abbrev seen : Shown → Timed
  seen u = seen_node me limits tallies paces jobs clock rx u

  abbrev seen_with : Jobs → Shown → Timed
  seen_with js u = seen_node me limits tallies paces js clock rx u

  module _ (fits : Fits (seen s) s.size s.places) (i : ℕ) (v : Server)
      (place : slice_get s.servers i ≡ Some v)
      (drained : IfSome (slice_get s.servers i) (IsDrained s.queued))
      (changed : IfSome (slice_get s.servers i)
      (λ w. t.servers ≡ without_first (is_server w.way.number) s.servers))
      (clients : t.clients ≡ s.clients) (queued : t.queued ≡ s.queued) where
    abbrev ended : Fact
    ended = plain me (Ended v.way.number)

    left : t.servers ≡ without_first (is_server v.way.number) s.servers
    left = rw place at changed

    goes : (js : Jobs) → seen_with js t
        ≡ record { lists = after clock (seen_with js s).lists ended; clock = clock }
    goes js = rw (clients, left, queued) refl

    may : MayLeave (seen s).lists v.way.number
    may =
        let own : is_server v.way.number v ≡ true = eq-eqb v.way.number v.way.number refl in
        let alone = fits.kept.valid.alone v.way.number in
        let none : IsDrained s.queued v = rw place at drained in
        record {
          server = v;
          found = at-found (is_server v.way.number) s.servers i v (omega (arith, alone)) place own;
          clean = clean-none v.way.number s.queued v.slots none;
        }

    -- one session less is left
    pub fewer-ended : length t.servers < length s.servers
    unfolding may
    fewer-ended =
        let one = length-without (is_server v.way.number) v s.servers may.found in
        omega (arith, ap (λ (vs : List Server). length vs) left, one)

    pub fits-ended : t.size ≡ s.size → t.places ≡ s.places → Fits (seen t) t.size t.places
    fits-ended size places = record {
      kept = rw (ap (λ (u : Timed). u.lists) (goes jobs))
          (kept-after clock (seen s).lists ended fits.kept may);
      ascends = rw clients fits.ascends;
      paces = fits.paces;
      numbers = rw clients fits.numbers;
      each = rw clients fits.each;
      settled = rw clients fits.settled;
      credits = rw left (all-left (is_server v.way.number) HasCredit s.servers fits.credits);
      sendable = rw queued fits.sendable;
      replies = rw queued fits.replies;
      most = fits.most;
      packets = size ∙ fits.packets;
      jobs = fits.jobs;
      alive = fits.alive;
      server_numbers = fits.server_numbers;
      buffers = places ∙ fits.buffers;
    }

    pub node-ended : {R : Type 0} (log : R → Log)
        (before now : R) (n : ℕ) → n ≡ v.way.number
        → Grew (log before) (log now) (plain me (Ended n) ∷ [])
        → Makes log (Notes (leaving i)) (seen s) (seen t) before now
    node-ended log before now n same grew = record {
      noted = ended ∷ [];
      grew = rw (← same) grew;
      step = λ asks. record {
        facts = rw place refl;
        goes = goes (asking_jobs asks jobs);
      };
    }

-- its replies were taken out, and then it ended
pub ended-whole : {R : Type 0} (log : R → Log) (i : ℕ)
    (a b c : Timed) (f g h : R) → b.lists.servers ≡ a.lists.servers → b.lists.me ≡ a.lists.me
    → Makes log (Notes (flushing_slots i 8)) a b f g
    → Makes log (Notes (leaving i)) b c g h
    → (slice_get a.lists.servers i ≡ None → ⊥)
    → Makes log (Notes (ending i)) a c f h
ended-whole log i a b c f g h servers me p q there =
    makes-notes log (flushing_slots i 8) (leaving i) (ending i) a b c f g h
    (λ asks. by asks (slice_get a.lists.servers i) refl) p q
  where
    by : (asks : Asks) (o : Option Server) → slice_get a.lists.servers i ≡ o
        → flushing_slots i 8 (asking asks a) ++ leaving i (asking asks b) ≡ ending i (asking asks a)
    by asks None place = absurd (there place)
    by asks (Some v) place =
        ap (λ (z : List Fact). z ++ leaving i (asking asks b)) (all-slots i (asking asks a) v place)
        ∙ rw (servers, me, place) refl

pub record ServerAt (servers : List Server) (i : ℕ) : Type 0 where
  pub server : Server
  pub place : slice_get servers i ≡ Some server

pub server-there : (servers : List Server) (i : ℕ) → i < length servers → ServerAt servers i
server-there servers i within = by (slice_get servers i) refl
  where
    by : (o : Option Server) → slice_get servers i ≡ o → ServerAt servers i
    by None e = absurd (slice_get-some servers i within e)
    by (Some v) e = record { server = v; place = e }

-- one slot of a node
module _ {R : Type 0} (log : R → Log) (i slot : ℕ) (a : Timed)
    (within : i < length a.lists.servers) where
  pub slot-flushed : (b : Timed) (f g : R) (owner : Owner)
      → IfSome (slice_get a.lists.servers i) (λ v. Some owner ≡ slot_owner slot v)
      → Makes log (Notes (flushing owner)) a b f g
      → Makes log (Notes (flushing_slot i slot)) a b f g
  slot-flushed b f g owner own p =
      makes-as log (Notes (flushing owner)) (Notes (flushing_slot i slot)) a b f g
      (λ asks x s. record {
        facts = s.facts ∙ sym (slot-some a.lists.me a.lists.queued slot owner
            (slice_get a.lists.servers i) (slice_get-some a.lists.servers i within) own);
        goes = s.goes;
      }) p

  pub slot-idle : (f : R) → IfSome (slice_get a.lists.servers i) (λ v. None ≡ slot_owner slot v)
      → Makes log (Notes (flushing_slot i slot)) a a f f
  slot-idle f own = record {
    noted = [];
    grew = grew-none log f;
    step = λ asks. record {
      facts = sym (slot-none a.lists.me a.lists.queued slot (slice_get a.lists.servers i) own);
      goes = refl;
    };
  }

-- all slots
module _ {R : Type 0} (log : R → Log) (i : ℕ) where
  pub flushes-none : (a : Timed) (f : R) → Makes log (FlushesFirst i 0) a a f f
  flushes-none a f = record {
    noted = [];
    grew = grew-none log f;
    step = λ asks. flushes-no-slot i (asking asks a);
  }

  pub flushes-more : (n : ℕ) (a b c : Timed) (f g h : R) → n < 8
      → Makes log (FlushesFirst i n) a b f g
      → Makes log (Notes (flushing_slot i n)) b c g h
      → Makes log (FlushesFirst i (n + 1)) a c f h
  flushes-more n a b c f g h within p q =
      makes-join log (FlushesFirst i n) (Notes (flushing_slot i n)) (FlushesFirst i (n + 1))
      a b c f g h
      (λ asks x y s t. flushes-slot i n (asking asks a) (asking asks b) (asking asks c) x y within s
      t) p q

  pub all-flushed : (n : ℕ) (a b : Timed) (f g : R) → n ≡ 8
      → Makes log (FlushesFirst i n) a b f g
      → Makes log (Notes (flushing_slots i 8)) a b f g
  all-flushed n a b f g last p =
      makes-as log (FlushesFirst i n) (Notes (flushing_slots i 8)) a b f g
      (λ asks x s. record {
        facts = s.facts ∙ ap (λ m. flushing_slots i m (asking asks a)) last;
        goes = s.goes;
      }) p

  pub drained-whole : (n : ℕ) (a b : Timed) (f g : R) → n ≡ 8
      → AllByRecursion SoundServer a.lists.servers → b.lists.servers ≡ a.lists.servers
      → Makes log (FlushesFirst i n) a b f g
      → IfSome (slice_get b.lists.servers i) (IsDrained b.lists.queued)
  drained-whole n a b f g last served same p =
      let made = all-flushed n a b f g last p in
      rw same (drained-after i (asking no_asks a) made.noted (asking no_asks b) served
      (made.step no_asks))

-- more are taken out
pub sessions-then : (a b c : Holding) → LeavesSessions a b → LeavesSessions b c
    → LeavesSessions a c
sessions-then a b c p q = record {
  clients = q.clients ∙ p.clients;
  servers = q.servers ∙ p.servers;
  inbox = q.inbox ∙ p.inbox;
  me = q.me ∙ p.me;
  jobs = q.jobs ∙ p.jobs;
  handed = q.handed ∙ p.handed;
}
