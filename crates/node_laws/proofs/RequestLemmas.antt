-- What the facts tell of a request, and that it stays told.
use Rattle.std.proofs.Common.{◌≡◌, ℕ, Bool, true, false, not, ◌&&◌, ◌||◌, cond, Option, Some, None}
use Rattle.std.proofs.Common.{List, [], ◌∷◌, refl, sym, ◌∙◌, arith}
use Rattle.std.specs.Prelude.{◌==◌, count_by, is_none}
use Rattle.std.specs.List.{list_any}
use Rattle.std.proofs.lemmas.Bool.{and_parts, or_parts, or_right}
use Rattle.packet_header.specs.declared.packet.MessageHeader.{MessageHeader}
use Rattle.rpc_base.specs.declared.event.Event.{Event}
use Rattle.rpc_base.specs.declared.event.Event.TheVariants.{Took, Given, Ran}
use Rattle.rpc_base.specs.declared.fact.Fact.{Fact}
use Rattle.rpc_base.specs.declared.owner.Owner.TheVariants.{Reply}
use Rattle.rpc_laws.specs.declared.tables.Served.{Served}
use Rattle.rpc_laws.specs.AtMostOnce.{runs_request}
use Rattle.rpc_laws.specs.Front.{front_header, front_body}
use Rattle.rpc_laws.specs.Requests.{first_packet, next_packet, given, answered}
use Rattle.node_laws.specs.OlderRequests.{takes_request}
use Rattle.node_laws.specs.RequestHistory.{gives_request, answer_by, ring_by, first_by, ask_by}
use Rattle.rpc_base.proofs.FirstLemmas.{none-counted}
use Rattle.node_laws.proofs.TellLemmas.{count-new}
use Rattle.node_laws.specs.Valid.{is_due}

-- whether an event concerns request r of session t
abbrev pub concerns : ℕ → ℕ → Event → Bool
concerns t r (Took (Reply session request) k) = session == t && request == r
concerns t r (Given session request) = session == t && request == r
concerns t r (Ran session request y) = session == t && request == r
concerns t r _ = false

-- one of facts of which no one passes a test
none-of : (p q : Event → Bool) → ((e : Event) → p e ≡ false → q e ≡ false) → (past : List Fact)
    → list_any (λ f. p f.event) past ≡ false → list_any (λ f. q f.event) past ≡ false
none-of p q off [] e = refl
none-of p q off (f ∷ past) e =
    let parts = or_parts (p f.event) (list_any (λ g. p g.event) past) e in
    rw (off f.event parts.0) (none-of p q off past parts.1)

module _ (t r : ℕ) where
  takes-off : (e : Event) → concerns t r e ≡ false → takes_request t r e ≡ false
  takes-off (Took (Reply session request) k) h = h
  takes-off _ h = refl

  pub takes-concerns : (e : Event) → takes_request t r e ≡ true → concerns t r e ≡ true
  takes-concerns (Took (Reply session request) k) h = h
  takes-concerns _ h = cc

  gives-off : (e : Event) → concerns t r e ≡ false → gives_request t r e ≡ false
  gives-off (Given session request) h = h
  gives-off _ h = refl

  runs-off : (e : Event) → concerns t r e ≡ false → runs_request t r e ≡ false
  runs-off (Ran session request y) h = h
  runs-off _ h = refl

  -- the answer is there exactly where the handler ran
  unanswered : (past : List Fact) → list_any (λ f. runs_request t r f.event) past ≡ false → answer_by t r past ≡ None
  unanswered [] e = refl
  unanswered (f ∷ past) e =
      let parts = or_parts (runs_request t r f.event) (list_any (λ g. runs_request t r g.event) past) e in
      rw parts.0 (unanswered past parts.1)

  not-run-by : (b c : Bool) (bytes : List ℕ) (o : Option (List ℕ)) → (o ≡ None → c ≡ false)
      → cond b (Some bytes) o ≡ None → (b || c) ≡ false
  not-run-by true c bytes o ih e = cc
  not-run-by false c bytes o ih e = ih e

  not-run : (past : List Fact) → answer_by t r past ≡ None → list_any (λ f. runs_request t r f.event) past ≡ false
  not-run [] e = refl
  not-run (f ∷ past) e =
      not-run-by (runs_request t r f.event) (list_any (λ g. runs_request t r g.event) past) f.second
      (answer_by t r past) (not-run past) e

  -- no bytes where no packet was taken
  no-bytes : (past : List Fact) → list_any (λ f. takes_request t r f.event) past ≡ false → ask_by t r past ≡ []
  no-bytes [] e = refl
  no-bytes (f ∷ past) e =
      let parts = or_parts (takes_request t r f.event) (list_any (λ g. takes_request t r g.event) past) e in
      rw parts.0 (no-bytes past parts.1)

  -- and no first one
  no-first : (past : List Fact) → list_any (λ f. takes_request t r f.event) past ≡ false → first_by t r past ≡ None
  no-first [] e = refl
  no-first (f ∷ past) e =
      let parts = or_parts (takes_request t r f.event) (list_any (λ g. takes_request t r g.event) past) e in
      rw parts.0 (no-first past parts.1)

  -- the first one is the first one still
  first-by : (b : Bool) (o p : Option MessageHeader) (h : MessageHeader) → o ≡ Some h
      → cond (b && is_none o) p o ≡ Some h
  first-by true o p h e = rw e refl
  first-by false o p h e = e

  first-stays : (past : List Fact) (f : Fact) (h : MessageHeader) → first_by t r past ≡ Some h
      → first_by t r (f ∷ past) ≡ Some h
  first-stays past f h e = first-by (takes_request t r f.event) (first_by t r past) (front_header (ring_by past)) h e

  -- what is told of a request that stands
  pub record ToldRequest (past : List Fact) (q : Served) : Type 0 where
    pub took : list_any (λ f. takes_request t r f.event) past ≡ true
    pub first : MessageHeader
    pub is_first : first_by t r past ≡ Some first
    pub req_type : q.req_type ≡ first.req_type
    pub size : q.size ≡ first.size
    pub taken : q.taken ≡ count_by (λ f. takes_request t r f.event) past
    pub working : q.working ≡ (list_any (λ f. gives_request t r f.event) past
        && not (list_any (λ f. runs_request t r f.event) past))
    pub answer : q.answer ≡ answer_by t r past
    pub ask : list_any (λ f. gives_request t r f.event) past ≡ false
        → list_any (λ f. runs_request t r f.event) past ≡ false → q.ask ≡ ask_by t r past

  -- of one that may stand
  abbrev pub Told : List Fact → Option Served → Type 0
  Told past None = Unit {0}
  Told past (Some q) = ToldRequest past q

  -- a fact that doesn't concern it
  request-stays : (past : List Fact) (f : Fact) (q : Served) → concerns t r f.event ≡ false
      → ToldRequest past q → ToldRequest (f ∷ past) q
  request-stays past f q h told =
      let takes = takes-off f.event h in
      let gives = gives-off f.event h in
      let runs = runs-off f.event h in
      record {
        took = or_right (takes_request t r f.event) (list_any (λ g. takes_request t r g.event) past) told.took;
        first = told.first;
        is_first = first-stays past f told.first told.is_first;
        req_type = told.req_type;
        size = told.size;
        taken =
            let count = count-new (takes_request t r) f past false takes in let was = told.taken in omega arith;
        working = rw (gives, runs) told.working;
        answer = rw runs told.answer;
        ask = λ g n.
            let given_before : list_any (λ e. gives_request t r e.event) past ≡ false = rw gives at g in
            let ran_before : list_any (λ e. runs_request t r e.event) past ≡ false = rw runs at n in
            rw takes (told.ask given_before ran_before);
      }

  pub told-stays : (past : List Fact) (f : Fact) (o : Option Served) → concerns t r f.event ≡ false
      → Told past o → Told (f ∷ past) o
  told-stays past f None h told = tt
  told-stays past f (Some q) h told = request-stays past f q h told

  -- one more packet is taken
  module _ (past : List Fact) (f : Fact) (takes : takes_request t r f.event ≡ true)
      (gives : gives_request t r f.event ≡ false) (runs : runs_request t r f.event ≡ false)
      (body : List ℕ) (front : front_body (ring_by past) ≡ body) where
    pub next-told : (q : Served) → ToldRequest past q → ToldRequest (f ∷ past) (next_packet body q)
    next-told q told = record {
      took = rw takes refl;
      first = told.first;
      is_first = first-stays past f told.first told.is_first;
      req_type = told.req_type;
      size = told.size;
      taken =
          let count = count-new (takes_request t r) f past true takes in let was = told.taken in omega arith;
      working = rw (gives, runs) told.working;
      answer = rw runs told.answer;
      ask = λ g n.
          let given_before : list_any (λ e. gives_request t r e.event) past ≡ false = rw gives at g in
          let ran_before : list_any (λ e. runs_request t r e.event) past ≡ false = rw runs at n in
          rw (takes, front, ← told.ask given_before ran_before) refl;
    }

    -- it is the first one
    pub first-told : (n : ℕ) (h : MessageHeader) → front_header (ring_by past) ≡ Some h
        → list_any (λ e. concerns t r e.event) past ≡ false
        → ToldRequest (f ∷ past) (first_packet n h body)
    first-told n h header none =
        let takes_none = none-of (concerns t r) (takes_request t r) takes-off past none in
        let gives_none = none-of (concerns t r) (gives_request t r) gives-off past none in
        let runs_none = none-of (concerns t r) (runs_request t r) runs-off past none in
        record {
          took = rw takes refl;
          first = h;
          is_first = rw (takes, no-first past takes_none) header;
          req_type = refl;
          size = refl;
          taken =
              let count = count-new (takes_request t r) f past true takes in
              let zero = none-counted (λ e. takes_request t r e.event) past takes_none in
              omega arith;
          working = rw (gives, gives_none) refl;
          answer = rw (runs, unanswered past runs_none) refl;
          ask = λ g k. rw (takes, front, no-bytes past takes_none) refl;
        }

  -- it is given to a worker
  none-answer : (o : Option (List ℕ)) → is_none o ≡ true → o ≡ None
  none-answer None e = refl
  none-answer (Some bytes) e = cc

  pub given-told : (past : List Fact) (f : Fact) → takes_request t r f.event ≡ false
      → gives_request t r f.event ≡ true → runs_request t r f.event ≡ false → (q : Served)
      → is_due q ≡ true → ToldRequest past q → ToldRequest (f ∷ past) (given q)
  given-told past f takes gives runs q due told =
      let parts = and_parts (is_none q.answer) (not q.working) due in
      let none = not-run past (sym told.answer ∙ none-answer q.answer parts.0) in
      record {
        took = or_right (takes_request t r f.event) (list_any (λ g. takes_request t r g.event) past) told.took;
        first = told.first;
        is_first = first-stays past f told.first told.is_first;
        req_type = told.req_type;
        size = told.size;
        taken =
            let count = count-new (takes_request t r) f past false takes in let was = told.taken in omega arith;
        working = rw (gives, runs, none) refl;
        answer = rw runs told.answer;
        ask = λ g n. let never : true ≡ false = rw gives at g in cc;
      }

  -- its handler runs
  no-work : (b : Bool) → false ≡ (b && false)
  no-work true = refl
  no-work false = refl

  pub ran-told : (past : List Fact) (f : Fact) → takes_request t r f.event ≡ false
      → gives_request t r f.event ≡ false → runs_request t r f.event ≡ true → (q : Served)
      → ToldRequest past q → ToldRequest (f ∷ past) (answered f.second q)
  ran-told past f takes gives runs q told = record {
    took = or_right (takes_request t r f.event) (list_any (λ g. takes_request t r g.event) past) told.took;
    first = told.first;
    is_first = first-stays past f told.first told.is_first;
    req_type = told.req_type;
    size = told.size;
    taken =
        let count = count-new (takes_request t r) f past false takes in let was = told.taken in omega arith;
    working = rw (gives, runs) (no-work (list_any (λ g. gives_request t r g.event) past));
    answer = rw runs refl;
    ask = λ g n. let never : true ≡ false = rw runs at n in cc;
  }
