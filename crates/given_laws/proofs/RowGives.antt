-- A packet that is handled gives the jobs of its Given facts, and finishes none.
use Rattle.std.proofs.Common.{◌≡◌, ℕ, ◌+◌, ◌≤◌, ◌<◌, Bool, true, false, not, ◌&&◌, cond, Option}
use Rattle.std.proofs.Common.{Some, None, List, [], ◌∷◌, ◌++◌, length, map, refl, sym, ap, ap₂}
use Rattle.std.proofs.Common.{◌∙◌, subst}
use Rattle.std.proofs.Common.{arith, append-nil, ltb}
use Rattle.std.specs.Prelude.{◌==◌, ◌||◌, count_by, is_none}
use Rattle.std.specs.List.{AllByRecursion, find, list_any}
use Rattle.std.proofs.lemmas.Bool.{eqb-true, ltb-false, ltb-true}
use Rattle.std.proofs.lemmas.List.{map-append}
use Rattle.node_steps.proofs.NoteStill.{AllStill, still-append}
use Rattle.node_laws.proofs.Allowed.{AllAllowed, MayGive, Newer}
use Rattle.node_laws.proofs.RowLemmas.{continues-slot, drops-begins, drops-takes, last-parts}
use Rattle.node_laws.proofs.RowLemmas.{not-begins}
use Rattle.node_laws.proofs.RowLemmas.{not-takes, starts-slot}
use Rattle.node_laws.specs.Valid.{jobs_of, lacks_worker, left_of, left_on, RunWhole, SoundServer}
use Rattle.node_laws.specs.Valid.{to_come, Valid}
use Rattle.packet_header.proofs.PartsLemmas.{packet_count_above}
use Rattle.packet_header.specs.Parts.{packet_count}
use Rattle.packet_header.specs.declared.packet.MessageHeader.{MessageHeader}
use Rattle.rpc_base.proofs.FirstLemmas.{counted-cons, counted-none, found-holds}
use Rattle.rpc_base.proofs.TakingLemmas.{find-passes}
use Rattle.rpc_base.specs.Tables.{without_first}
use Rattle.rpc_base.specs.declared.event.Event.{Event}
use Rattle.rpc_base.specs.declared.event.Event.TheVariants.{Flushed, Given, Posted, Ran, Took}
use Rattle.rpc_base.specs.declared.fact.Fact.{Fact}
use Rattle.rpc_base.specs.declared.owner.Owner.{Owner}
use Rattle.rpc_base.specs.declared.owner.Owner.TheVariants.{Reply}
use Rattle.rpc_base.specs.declared.state.DropReason.TheVariants.{NoSession, WrongPeer}
use Rattle.rpc_laws.specs.Facts.{plain, with_two}
use Rattle.rpc_laws.specs.Jobs.{is_job, job_of, jobs_after, new_job}
use Rattle.rpc_laws.specs.NodeLists.{after, after_all}
use Rattle.rpc_laws.specs.Queues.{numbers_of}
use Rattle.rpc_laws.specs.Requests.{in_slot_of, is_request, is_server}
use Rattle.rpc_laws.specs.ServerTable.{brings, flushes, flushes_older, is_last, server_row}
use Rattle.rpc_laws.specs.ServerTable.{slot_row, took_facts}
use Rattle.rpc_laws.specs.Service.{is_mode_background}
use Rattle.rpc_laws.specs.declared.rows.ServerRow.TheVariants.{Begins, Drops, Takes}
use Rattle.rpc_laws.specs.declared.tables.Job.{Job}
use Rattle.rpc_laws.specs.declared.tables.Jobs.{Jobs}
use Rattle.rpc_laws.specs.declared.tables.Lists.{Lists}
use Rattle.rpc_laws.specs.declared.tables.Queued.{Queued}
use Rattle.rpc_laws.specs.declared.tables.Served.{Served}
use Rattle.rpc_laws.specs.declared.tables.Server.{Server}
use Rattle.rpc_outside.specs.declared.service.Mode.{Mode}
use Rattle.given_laws.specs.Given.{given_by, given_in, job_name}

-- whether an event changes which jobs are out
abbrev pub is_of_jobs : Event → Bool
is_of_jobs (Given t r) = true
is_of_jobs (Ran t r y) = true
is_of_jobs _ = false

abbrev pub names : List Job → List (ℕ × ℕ)
names jobs = map job_name jobs

-- an event that doesn't leaves the jobs, and gives none
still-event : (e : Event) (servers : List Server) (jobs : Jobs) → is_of_jobs e ≡ false
    → jobs_after e servers jobs ≡ jobs
still-event (Given t r) servers jobs h = cc
still-event (Ran t r y) servers jobs h = cc
still-event _ servers jobs h = refl

still-given : (e : Event) → is_of_jobs e ≡ false → given_by e ≡ []
still-given (Given t r) h = cc
still-given _ h = refl

pub none-given : (x : List Fact) → AllStill is_of_jobs x → given_in x ≡ []
none-given [] all = refl
none-given (f ∷ x) all =
    ap (λ (l : List (ℕ × ℕ)). l ++ given_in x) (still-given f.event all.0) ∙ none-given x all.1

pub same-jobs : (clock : ℕ) (s : Lists) (x : List Fact) → AllStill is_of_jobs x
    → (after_all clock s x).jobs ≡ s.jobs
same-jobs clock s [] all = refl
same-jobs clock s (f ∷ x) all =
    same-jobs clock (after clock s f) x all.1 ∙ still-event f.event s.servers s.jobs all.0

-- facts by which the jobs that are out get those that are given, and no others
abbrev pub GivesJobs : ℕ → Lists → List Fact → Type 0
GivesJobs clock s x = names (after_all clock s x).jobs.out ≡ names s.jobs.out ++ given_in x

pub gives-none : (clock : ℕ) (s : Lists) (x : List Fact) → AllStill is_of_jobs x
    → GivesJobs clock s x
gives-none clock s x all =
    ap (λ (j : Jobs). names j.out) (same-jobs clock s x all)
    ∙ (sym (append-nil (names s.jobs.out))
    ∙ ap (λ (l : List (ℕ × ℕ)). names s.jobs.out ++ l) (sym (none-given x all)))

-- flushed replies
mapped-still : (owner : Owner) (me : ℕ) (ns : List ℕ)
    → AllStill is_of_jobs (map (λ k. plain me (Flushed owner k)) ns)
mapped-still owner me [] = tt
mapped-still owner me (n ∷ ns) = (refl, mapped-still owner me ns)

slot-still : (me : ℕ) (queued : List Queued) (session : ℕ) (o : Option Served)
    → AllStill is_of_jobs (flushes me queued session o)
slot-still me queued session None = tt
slot-still me queued session (Some l) =
    mapped-still (Reply session l.number) me (numbers_of (Reply session l.number) queued)

pub older-still : (me : ℕ) (queued : List Queued) (v : Option Server) (r : ℕ)
    → AllStill is_of_jobs (flushes_older me queued v r)
older-still me queued None r = tt
older-still me queued (Some v) r =
    slot-still me queued v.way.number (find (in_slot_of r) v.slots)

-- a job of a request that isn't out can't be taken out
stays-by : (q : Job → Bool) (x : Job) (xs : List Job) (b : Bool) → q x ≡ b
    → count_by q (x ∷ xs) ≡ 0 → (count_by q xs ≡ 0 → without_first q xs ≡ xs)
    → cond b xs (x ∷ without_first q xs) ≡ x ∷ xs
stays-by q x xs true e none ih = absurd (omega (arith, counted-cons q x xs true e, none))
stays-by q x xs false e none ih =
    ap (λ (l : List Job). x ∷ l) (ih (omega (arith, counted-cons q x xs false e, none)))

none-out : (q : Job → Bool) (xs : List Job) → count_by q xs ≡ 0 → without_first q xs ≡ xs
none-out q [] none = refl
none-out q (x ∷ xs) none = stays-by q x xs (q x) refl none (none-out q xs)

-- a request of which a packet is taken that makes it whole has no job that is out
module _ (s : Lists) (valid : Valid s) (h : MessageHeader) (v : Server)
    (found : find (is_server h.session) s.servers ≡ Some v) where
  sound : SoundServer v
  sound = found-holds (is_server h.session) SoundServer s.servers v valid.served found

  unworked : left_of lacks_worker h.request (find (in_slot_of h.request) v.slots) ≡ 1
      → jobs_of h.session h.request s.jobs.out ≡ 0
  unworked one =
      let few = valid.works h.session h.request in
      let same : left_on lacks_worker h.request (to_come s.server_numbers h.session)
      (find (is_server h.session) s.servers) ≡ 1 = rw found one in
      omega (arith, few, same)

  newer-one : (o : Option Served) → Newer h.request o → left_of lacks_worker h.request o ≡ 1
  newer-one None newer = refl
  newer-one (Some l) newer = by (ltb h.request l.number) (ltb l.number h.request) refl refl
    where
      by : (a b : Bool) → ltb h.request l.number ≡ a → ltb l.number h.request ≡ b
          → ◌≡◌ {A = ℕ} (cond a 0 (cond b 1 (cond (lacks_worker l) 1 0))) 1
      by true b e f = absurd (omega (arith, ltb-true h.request l.number e, newer))
      by false true e f = refl
      by false false e f = absurd (omega (arith, ltb-false l.number h.request f, newer))

  pub begins-unworked : (mode : Mode) (full lacks : Bool)
      → slot_row mode full lacks (find (in_slot_of h.request) v.slots) h ≡ Begins
      → jobs_of h.session h.request s.jobs.out ≡ 0
  begins-unworked mode full lacks e =
      unworked (newer-one (find (in_slot_of h.request) v.slots)
      (starts-slot mode full lacks (find (in_slot_of h.request) v.slots) h e).newer)

  own-one : (l : Served) → l.number ≡ h.request → l.working ≡ false
      → left_of lacks_worker h.request (Some l) ≡ 1
  own-one l same idle = by (ltb h.request l.number) (ltb l.number h.request) refl refl
    where
      by : (a b : Bool) → ltb h.request l.number ≡ a → ltb l.number h.request ≡ b
          → ◌≡◌ {A = ℕ} (cond a 0 (cond b 1 (cond (not l.working) 1 0))) 1
      by true b e f = absurd (omega (arith, ltb-true h.request l.number e, same))
      by false true e f = refl
      by false false e f = rw idle refl

  -- a worker has only requests that are whole
  idle-by : (l : Served) (b : Bool) → l.working ≡ b → RunWhole l → l.taken < packet_count l.size
      → b ≡ false
  idle-by l false e whole more = refl
  idle-by l true e whole more =
      let all : packet_count l.size ≤ l.taken = whole (rw e (at-work (is_none l.answer))) in
      absurd (omega (arith, all, more))
    where
      at-work : (b : Bool) → (b && not true) ≡ false
      at-work true = refl
      at-work false = refl

  pub takes-unworked : (mode : Mode) (full lacks : Bool) → is_last h ≡ true
      → slot_row mode full lacks (find (in_slot_of h.request) v.slots) h ≡ Takes
      → jobs_of h.session h.request s.jobs.out ≡ 0
  takes-unworked mode full lacks last e =
      let c = continues-slot mode full lacks (find (in_slot_of h.request) v.slots) h e in
      let l = c.served in
      let parts = last-parts h last in
      let count = parts.1 in
      let size : h.size ≡ l.size = c.next.sized parts.0 in
      let counted : packet_count h.size ≡ packet_count l.size = ap packet_count size in
      let turn = c.next.turn in
      let whole = found-holds (in_slot_of h.request) RunWhole v.slots l sound.whole c.is_served in
      let idle = idle-by l l.working refl whole (omega (arith, count, counted, turn)) in
      unworked (ap (left_of lacks_worker h.request) c.is_served ∙ own-one l c.own idle)

-- a row that takes a packet, of a session that is there
module _ (s : Lists) (valid : Valid s) (h : MessageHeader) (mode : Mode) (full lacks : Bool)
    (peer : ℕ) where
  pub begins-by : (o : Option Server) → find (is_server h.session) s.servers ≡ o
      → server_row mode full lacks o peer h ≡ Begins → jobs_of h.session h.request s.jobs.out ≡ 0
  begins-by None found e = absurd (drops-begins NoSession e)
  begins-by (Some v) found e =
      let right = not-begins (not (v.way.peer == peer)) (Drops WrongPeer) _
      (drops-begins WrongPeer) e in
      begins-unworked s valid h v found mode full lacks right.1

  pub takes-by : is_last h ≡ true → (o : Option Server) → find (is_server h.session) s.servers ≡ o
      → server_row mode full lacks o peer h ≡ Takes → jobs_of h.session h.request s.jobs.out ≡ 0
  takes-by last None found e = absurd (drops-takes NoSession e)
  takes-by last (Some v) found e =
      let right = not-takes (not (v.way.peer == peer)) (Drops WrongPeer) _
      (drops-takes WrongPeer) e in
      takes-unworked s valid h v found mode full lacks last right.1

-- the facts behind others are allowed after these
pub allowed-back : (clock : ℕ) (s : Lists) (x y : List Fact) → AllAllowed clock s (x ++ y)
    → AllAllowed clock (after_all clock s x) y
allowed-back clock s [] y a = a
allowed-back clock s (f ∷ x) y a = allowed-back clock (after clock s f) x y a.1

-- a job that is given is one more, with the name of its request
given-job : (s : Lists) (t r : ℕ) → MayGive s t r
    → names (new_job t r s.servers) ≡ (t, r) ∷ []
given-job s t r a =
    let one : new_job t r s.servers ≡ job_of t a.served ∷ [] = rw (a.found, a.is_served) refl in
    let number : a.served.number ≡ r =
    eqb-true a.served.number r (find-passes (is_request r) a.server.slots a.served a.is_served) in
    ap names one ∙ ap (λ (n : ℕ). (t, n) ∷ []) number

-- a packet that is taken: by whether it is the last one of its request, and of a Background type
module _ (clock : ℕ) (s : Lists) (me : ℕ) (answer : List ℕ) (h : MessageHeader) (ask : List ℕ)
  where
    abbrev took : Fact
    took = plain me (Took (Reply h.session h.request) h.number)

    abbrev bringing : Bool → Bool → List Fact
    bringing b c =
        cond (b && c) (plain me (Given h.session h.request) ∷ [])
        ((cond b (with_two me (Ran h.session h.request h.req_type) ask answer ∷ []) [])
        ++ plain me (Posted (Reply h.session h.request) h.number) ∷ [])

    took-by : (b c : Bool) → (b ≡ true → jobs_of h.session h.request s.jobs.out ≡ 0)
        → AllAllowed clock s (took ∷ bringing b c) → GivesJobs clock s (took ∷ bringing b c)
    took-by true true none all =
        map-append job_name s.jobs.out
        (new_job h.session h.request (after clock s took).servers)
        ∙ ap (λ (l : List (ℕ × ℕ)). names s.jobs.out ++ l)
        (given-job (after clock s took) h.session h.request all.1.0)
    took-by true false none all =
        ap names (none-out (is_job h.session h.request) s.jobs.out (none refl))
        ∙ sym (append-nil (names s.jobs.out))
    took-by false c none all = sym (append-nil (names s.jobs.out))

    pub took-gives : (mode : Mode)
        → (is_last h ≡ true → jobs_of h.session h.request s.jobs.out ≡ 0)
        → AllAllowed clock s (took_facts mode me answer h ask)
        → GivesJobs clock s (took_facts mode me answer h ask)
    took-gives mode none all = took-by (is_last h) (is_mode_background mode) none all
