-- A turn of an endpoint: datagrams that are received and delivered one after another, and what an
-- endpoint goes on by.
use Rattle.std.proofs.Common.{◌≡◌, ℕ, ◌<◌, Bool, Option, Some, None, List, []}
use Rattle.std.proofs.Common.{◌∷◌, ◌++◌, length, take, refl, sym, ap, subst, ◌∙◌, arith}
use Rattle.std.proofs.Common.{append_assoc, append-nil, length-append}
use Rattle.std.specs.Prelude.{is_none, option_map, Result, Ok, Err}
use Rattle.rpc_outside.specs.Recording.{Log}
use Rattle.client_core.specs.declared.outcome.Done.{Done}
use Rattle.rpc_base.specs.declared.fact.Fact.{Fact}
use Rattle.rpc_laws.specs.declared.tables.Timed.{Timed}
use Rattle.rpc_laws.specs.Deliveries.{Delivers}
use Rattle.memory_count.specs.Faults.{HasCause, HasRisen}
use Rattle.rpc_outside.specs.Linking.{Carried, Comes, NoneComes}
use Rattle.rpc_outside.specs.declared.link.Link as Link
use Rattle.rpc_outside.specs.declared.service.Service as Service
use Rattle.worker_crew.specs.declared.workers.Workers as Workers
use Rattle.server_core.proofs.FlushLemmas.{grew-none, grew-then}
use Rattle.endpoint_loop.specs.Endpoints.{Leaves}
use Rattle.endpoint_loop.specs.declared.endpoint.poll.Turn.{Turn}
use Rattle.endpoint_loop.specs.declared.endpoint.turn.TheConstants.{MOST_ARRIVALS}
use Rattle.node_steps.specs.Changes.{◌⟶◌, Change}
use Rattle.node_steps.specs.Notes.{Makes}
use Rattle.endpoint_loop.specs.Polls.{MakesPoll, turn_of, wire_of}
use Rattle.endpoint_loop.specs.Endpoints.{Running}
use Rattle.node_steps.specs.Seen.{asking}
use Rattle.node_steps.specs.Links.{FailedAs}
use Rattle.endpoint_loop.specs.Stands.{GoesOn, StandsFor}
use Rattle.endpoint_loop.specs.Turns.{Came, DeliversAll, IsAll, MakesTurn, Receives, ReceivesOnly}
use Rattle.endpoint_loop.specs.Turns.{TakesIn, TellsAsBefore, told_after}
use Rattle.endpoint_loop.specs.Bounds.{bounds}
use Rattle.node_steps.proofs.NoteSteps.{took-none, took-then}

-- one more datagram is delivered
delivers-more : (ds : List Carried) (d : Carried) (s m t : Timed) (x y : List Fact)
    → DeliversAll ds s x m → Delivers d.0 d.1 m y t → DeliversAll (ds ++ d ∷ []) s (x ++ y) t
delivers-more [] d s m t x y h k = record {
  between = t;
  front = y;
  back = [];
  joined = rw (h.0) (sym (append-nil y));
  first = subst (λ (z : Timed). Delivers d.0 d.1 z y t) h.1 k;
  second = (refl, refl);
}
delivers-more (e ∷ ds) d s m t x y h k = record {
  between = h.between;
  front = h.front;
  back = h.back ++ y;
  joined = ap (λ (z : List Fact). z ++ y) h.joined ∙ append_assoc h.front h.back y;
  first = h.first;
  second = delivers-more ds d h.between m t h.back y h.second k;
}

module _ {R V W : Type 0} (log : R → Log) where
  pub takes-none : (a : Running V W) (r : R) → TakesIn log [] a a r r
  takes-none a r = record {
    delivers = record {
      noted = [];
      grew = grew-none log r;
      step = λ asks. (refl, refl);
    };
    leaves = record { service = refl; workers = refl; jobs = refl };
    handed = refl;
  }

  pub takes-more : (ds : List Carried) (d : Carried) (a b c : Running V W) (f g h : R)
      → TakesIn log ds a b f g → Makes log (Delivers d.0 d.1) b.timed c.timed g h
      → Leaves b c → c.handed ≡ b.handed → TakesIn log (ds ++ d ∷ []) a c f h
  takes-more ds d a b c f g h p q leaves handed = record {
    delivers = record {
      noted = p.delivers.noted ++ q.noted;
      grew = grew-then log f g h p.delivers.noted q.noted p.delivers.grew q.grew;
      step = λ asks. delivers-more ds d (asking asks a.timed) (asking asks b.timed)
          (asking asks c.timed) p.delivers.noted q.noted (p.delivers.step asks) (q.step asks);
    };
    leaves = record {
      service = leaves.service ∙ p.leaves.service;
      workers = leaves.workers ∙ p.leaves.workers;
      jobs = leaves.jobs ∙ p.leaves.jobs;
    };
    handed = handed ∙ p.handed;
  }

-- what waited, as it comes
front-none : (o : Option (List Carried)) → o ≡ option_map (λ ds. [] ++ ds) o
front-none None = refl
front-none (Some ds) = refl

front-then : (o : Option (List Carried)) (x y : List Carried) → option_map (λ ds. x ++ ds)
    (option_map (λ ds. y ++ ds) o) ≡ option_map (λ ds. (x ++ y) ++ ds) o
front-then None x y = refl
front-then (Some ds) x y = ap Some (sym (append_assoc x y ds))

module _ {L : Type 0} (received waiting : L → Option (List Carried)) where
  pub came-none : (l : L) → Came received waiting [] l l
  came-none l = record {
    most = omega arith;
    last = took-none (received l);
    front = front-none (waiting l);
  }

  pub came-more : (ds : List Carried) (k l m : L) (out : List ℕ) (peer len : ℕ)
      → length ds < MOST_ARRIVALS → Came received waiting ds k l
      → Comes waiting received l m out peer len
      → Came received waiting (ds ++ (peer, take len out) ∷ []) k m
  came-more ds k l m out peer len few p q =
      let d : Carried = (peer, take len out) in record {
        most = omega (arith, few, length-append ds (d ∷ []));
        last = q.last ∙ ap (option_map (λ xs. xs ++ d ∷ [])) p.last
            ∙ took-then (received k) ds (d ∷ []);
        front = p.front ∙ ap (option_map (λ xs. ds ++ xs)) q.front
            ∙ front-then (waiting m) ds (d ∷ []);
      }

  -- nothing more came
  pub came-still : (ds : List Carried) (k l m : L) → Came received waiting ds k l
      → NoneComes waiting received l m → Came received waiting ds k m
  came-still ds k l m p q = record {
    most = p.most;
    last = q.stays ∙ p.last;
    front = p.front ∙ ap (option_map (λ xs. ds ++ xs)) (sym q.waits);
  }

-- an endpoint goes on, and then goes on further
module _ {R V W : Type 0} (log : R → Log) (service : Service.Ghosts V) (workers : Workers.Ghosts W) where
  pub goes-further : (a b c : Running V W) (f g h : R)
      → GoesOn log service workers a b f g
      → GoesOn log service workers b c g h
      → GoesOn log service workers a c f h
  goes-further a b c f g h p q = record {
    noted = p.noted ++ q.noted;
    grew = grew-then log f g h p.noted q.noted p.grew q.grew;
    goes_on = λ limits past s.
        subst (λ z. StandsFor service workers limits z c)
        (append_assoc past p.noted q.noted)
        (q.goes_on limits (past ++ p.noted) (p.goes_on limits past s));
  }

-- a poll told nothing exactly where the link failed in it
pub poll-cause : {E : Type 0} (f g : ℕ) (r : Result Turn E) → HasCause f g r
    → FailedAs (is_none (turn_of r)) f g
poll-cause f g (Ok turn) h = h
poll-cause f g (Err e) h = h

-- a fault that came is told, whatever comes after it
pub fault-stays : {T E : Type 0} (f g h : ℕ) (r : Result T E) → HasRisen f g → HasCause g h r
    → HasRisen f h
fault-stays f g h (Ok t) risen same = subst (λ (n : ℕ). HasRisen f n) (sym same) risen
fault-stays f g h (Err e) risen more = record {
  no_less = omega (arith, risen.no_less, more.no_less);
  rose = omega (arith, risen.rose, more.no_less);
}

module _ {R K L V W : Type 0} (log : R → Log)
    (net : Link.Ghosts L) (given : K → List Done → Type 0)
    (service : Service.Ghosts V) (workers : Workers.Ghosts W) (now : ℕ) where
  -- datagrams are received, and then a poll is made
  pub makes-turn : (failed : Bool) (polled told : Option Turn) (a b c : Running V W) (f g h : R)
      (j k : K) (l m n : L) (memory : Change ℕ) → Receives log net failed a b f g l m
      → ReceivesOnly failed (wire_of net l) (wire_of net m) → NoneComes net.waiting net.received m n
      → MakesPoll (bounds log given service workers) polled now (wire_of net m ⟶ wire_of net n)
      (b ⟶ c) (g ⟶ h) (j ⟶ k) memory
      → FailedAs (is_none polled) (net.faults m) (net.faults n)
      → told ≡ told_after failed polled
      → MakesTurn (bounds log given service workers) net told now (l ⟶ n) (a ⟶ c) (f ⟶ h) (j ⟶ k)
      memory
  makes-turn failed polled told a b c f g h j k l m n memory took link none polls cause is = record {
    came = took.came;
    comes = came-still net.received net.waiting took.came l m n took.comes none;
    failed = failed;
    all = λ e. subst (IsAll took.came) (sym none.waits) (took.all e);
    between = b;
    mid = g;
    takes = took.takes;
    mid_link = wire_of net m;
    receives = link;
    polled = polled;
    told_as = is;
    polls = polls;
    cause = cause;
  }

-- what a link tells of its counts and of what it sent
wire-same : {L : Type 0} (net : Link.Ghosts L) (m n : L) → TellsAsBefore net m n
    → wire_of net n ≡ wire_of net m
wire-same net m n t = let s = t.sent in let f = t.faults in let b = t.busies in cc

-- a turn stays one where its link then tells all that it told
pub told-on : {R K L V W : Type 0} (log : R → Log) (net : Link.Ghosts L)
    (given : K → List Done → Type 0) (service : Service.Ghosts V) (workers : Workers.Ghosts W)
    (told : Option Turn) (now : ℕ) (l m n : L) (a b : Running V W) (f g : R) (j k : K)
    (memory : Change ℕ)
    → MakesTurn (bounds log given service workers) net told now (l ⟶ m) (a ⟶ b) (f ⟶ g) (j ⟶ k)
    memory
    → TellsAsBefore net m n
    → MakesTurn (bounds log given service workers) net told now (l ⟶ n) (a ⟶ b) (f ⟶ g) (j ⟶ k)
    memory
told-on log net given service workers told now l m n a b f g j k memory h t = record {
  came = h.came;
  comes = came-still net.received net.waiting h.came l m n h.comes t.lists;
  failed = h.failed;
  all = λ e. subst (λ w. IsAll h.came w) (sym t.lists.waits) (h.all e);
  between = h.between;
  mid = h.mid;
  takes = h.takes;
  mid_link = h.mid_link;
  receives = h.receives;
  polled = h.polled;
  told_as = h.told_as;
  polls = subst (λ w. MakesPoll (bounds log given service workers) h.polled now (h.mid_link ⟶ w)
      (h.between ⟶ b) (h.mid ⟶ g) (j ⟶ k) memory) (sym (wire-same net m n t)) h.polls;
  cause = subst (λ x. FailedAs (is_none h.polled) h.mid_link.troubles.faults x) (sym t.faults)
      h.cause;
}
