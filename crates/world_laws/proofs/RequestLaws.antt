-- The table of requests of each node says what the facts of its present life tell: a Made before them changes no
-- reading.
use Rattle.std.proofs.Common.{◌≡◌, ◌+◌, ℕ, cond, Bool, List, [], ◌∷◌, Option, Some, refl, ap, ◌∙◌, sym}
use Rattle.std.specs.Prelude.{◌||◌, count_by, if◌then◌else◌}
use Rattle.std.specs.List.{list_any}
use Rattle.node_laws.proofs.RequestTableLaws.{requests_tell}
use Rattle.rpc_base.proofs.FirstLemmas.{counted-cons}
use Rattle.node_laws.specs.CallHistory.{latest_first}
use Rattle.node_laws.specs.EndedSessions.{ends_session}
use Rattle.node_laws.specs.OlderRequests.{takes_request}
use Rattle.node_laws.specs.RequestHistory.{takes_newer, gives_request, answer_by, ring_by, first_by}
use Rattle.node_laws.specs.RequestHistory.{ask_by, TellsRequest, TellsRequests}
use Rattle.rpc_base.specs.declared.event.Event.TheVariants.{Made}
use Rattle.rpc_base.specs.declared.fact.Fact.{Fact}
use Rattle.rpc_laws.specs.declared.tables.Arrival.{Arrival}
use Rattle.rpc_laws.specs.declared.tables.Lists.{Lists}
use Rattle.rpc_laws.specs.declared.tables.Served.{Served}
use Rattle.rpc_laws.specs.declared.tables.Timed.{Timed}
use Rattle.rpc_laws.specs.AtMostOnce.{runs_request}
use Rattle.rpc_laws.specs.Endpoints.{facts_by}
use Rattle.rpc_laws.specs.Facts.{plain}
use Rattle.rpc_laws.specs.Service.{plain_serving}
use Rattle.rpc_laws.specs.Queues.{ring_after}
use Rattle.world_laws.specs.NodeFacts.{facts_of, IsRun}
use Rattle.world_laws.proofs.LifeFacts.{end_of, of-end}

-- two lists of facts tell the same of each request
record SameTold (past other : List Fact) : Type 0 where
  took : (t r : ℕ) → list_any (λ f. takes_request t r f.event) past ≡ list_any (λ f. takes_request t r f.event) other
  newer : (t r : ℕ) → list_any (λ f. takes_newer t r f.event) past ≡ list_any (λ f. takes_newer t r f.event) other
  ended : (t : ℕ) → list_any (λ f. ends_session t f.event) past ≡ list_any (λ f. ends_session t f.event) other
  given : (t r : ℕ) → list_any (λ f. gives_request t r f.event) past ≡ list_any (λ f. gives_request t r f.event) other
  ran : (t r : ℕ) → list_any (λ f. runs_request t r f.event) past ≡ list_any (λ f. runs_request t r f.event) other
  taken : (t r : ℕ) → count_by (λ f. takes_request t r f.event) past ≡ count_by (λ f. takes_request t r f.event) other
  ring : ring_by past ≡ ring_by other
  first : (t r : ℕ) → first_by t r past ≡ first_by t r other
  answer : (t r : ℕ) → answer_by t r past ≡ answer_by t r other
  ask : (t r : ℕ) → ask_by t r past ≡ ask_by t r other

pub count-next : (test : Fact → Bool) (f : Fact) (past other : List Fact)
    → count_by test past ≡ count_by test other
    → count_by test (f ∷ past) ≡ count_by test (f ∷ other)
count-next test f past other e =
    counted-cons test f past (test f) refl ∙ (ap (λ (k : ℕ). cond (test f) 1 0 + k) e
    ∙ sym (counted-cons test f other (test f) refl))

told-next : (past other : List Fact) (f : Fact) → SameTold past other → SameTold (f ∷ past) (f ∷ other)
told-next past other f s = record {
  took = λ t r. ap (λ (b : Bool). takes_request t r f.event || b) (s.took t r);
  newer = λ t r. ap (λ (b : Bool). takes_newer t r f.event || b) (s.newer t r);
  ended = λ t. ap (λ (b : Bool). ends_session t f.event || b) (s.ended t);
  given = λ t r. ap (λ (b : Bool). gives_request t r f.event || b) (s.given t r);
  ran = λ t r. ap (λ (b : Bool). runs_request t r f.event || b) (s.ran t r);
  taken = λ t r. count-next (λ e. takes_request t r e.event) f past other (s.taken t r);
  ring = ap (λ (ring : List Arrival). ring_after f.event f.first ring) s.ring;
  first = λ t r. rw (s.ring, s.first t r) refl;
  answer = λ t r. ap (λ (o : Option (List ℕ)). if runs_request t r f.event then Some f.second else o) (s.answer t r);
  ask = λ t r. rw (s.ring, s.ask t r) refl;
}

told-all : (past other g : List Fact) → SameTold past other → SameTold (latest_first past g) (latest_first other g)
told-all past other [] s = s
told-all past other (f ∷ g) s = told-all (f ∷ past) (f ∷ other) g (told-next past other f s)

told-made : (n ring : ℕ) → SameTold [] (plain n (Made ring) ∷ [])
told-made n ring = record {
  took = λ t r. refl;
  newer = λ t r. refl;
  ended = λ t. refl;
  given = λ t r. refl;
  ran = λ t r. refl;
  taken = λ t r. refl;
  ring = refl;
  first = λ t r. refl;
  answer = λ t r. refl;
  ask = λ t r. refl;
}

-- so the table says what either tells
request-other : (past other : List Fact) (t : ℕ) (q : Served) → SameTold past other
    → TellsRequest past t q → TellsRequest other t q
request-other past other t q s h =
    let r = q.number in
    record {
      first = h.first;
      is_first = sym (s.first t r) ∙ h.is_first;
      req_type = h.req_type;
      size = h.size;
      taken = h.taken ∙ s.taken t r;
      working = rw (← s.given t r, ← s.ran t r) h.working;
      answer = h.answer ∙ s.answer t r;
      ask = λ given ran. h.ask (s.given t r ∙ given) (s.ran t r ∙ ran) ∙ s.ask t r;
    }

requests-other : (past other : List Fact) (l : Lists) → SameTold past other → TellsRequests past l
    → TellsRequests other l
requests-other past other l s h = record {
  listed = λ t r. rw (← s.took t r, ← s.newer t r, ← s.ended t) (h.listed t r);
  requests = λ t i v q server served. request-other past other t q s (h.requests t i v q server served);
}

pub requests-tell : (n : ℕ) (h : List Fact) (t : Timed) → IsRun n (facts_of n h) t
    → TellsRequests (latest_first [] (facts_by (end_of n t.lists.life) h)) t.lists
requests-tell n h t r =
    of-end (λ g. TellsRequests (latest_first [] g) t.lists) n t
    (λ life limits g run. requests_tell plain_serving n life limits g t run)
    (λ ring g c. requests-other (latest_first [] g) (latest_first (plain n (Made ring) ∷ []) g) t.lists
    (told-all [] (plain n (Made ring) ∷ []) g (told-made n ring)) c) h r
