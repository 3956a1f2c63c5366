-- Each fact changes what is told of a call as it changes the table.
use Rattle.std.proofs.Common.{◌≡◌, ℕ, ◌+◌, ◌≤◌, Bool, true, false, ◌&&◌, cond, Option, Some, None}
use Rattle.std.proofs.Common.{List, [], ◌∷◌, ◌++◌, refl, sym, ap, subst, ◌∙◌, inl, inr, arith}
use Rattle.std.specs.Prelude.{◌==◌, ◌⊎◌, count_by, option_map}
use Rattle.std.specs.List.{find, list_any}
use Rattle.std.proofs.lemmas.Bool.{eqb-true, eq-eqb, and_from, or_left}
use Rattle.packet_header.specs.declared.packet.ControlHeader.{ControlHeader}
use Rattle.rpc_base.specs.Tables.{at_first, without_first}
use Rattle.rpc_base.specs.declared.event.Event.{Event}
use Rattle.rpc_base.specs.declared.event.Event.TheVariants.{Begun, Posted, Took, Rolled}
use Rattle.rpc_base.specs.declared.fact.Fact.{Fact}
use Rattle.rpc_base.specs.declared.fact.Who.{Who}
use Rattle.rpc_base.specs.declared.owner.Owner.TheVariants.{Ask}
use Rattle.rpc_laws.specs.declared.tables.Call.{Call}
use Rattle.rpc_laws.specs.declared.tables.Client.{Client}
use Rattle.rpc_laws.specs.declared.tables.Progress.{Progress}
use Rattle.rpc_laws.specs.Calls.{is_call, is_active, moved, sent_packet}
use Rattle.rpc_laws.specs.Front.{front_body, front_header}
use Rattle.rpc_laws.specs.Sessions.{is_client, has_call, client_end, opened_end, requests, clients_told, sends, ends}
use Rattle.node_laws.specs.CallHistory.{takes_of, posted_by, rolls_by, TellsActive}
use Rattle.node_laws.specs.CallHistory.{told_size, told_parts, size_by, parts_by}
use Rattle.node_laws.specs.EndedCalls.{asks_on, begins_as}
use Rattle.node_laws.specs.RequestHistory.{ring_by}
use Rattle.rpc_base.proofs.FindLemmas.{changed-holds, push-kept, push-found, push-other, skip-found}
use Rattle.rpc_base.proofs.FindLemmas.{count-out, none-found}
use Rattle.node_laws.proofs.SoundLemmas.{both-at, sent-request, sent-got, sent-posted}
use Rattle.rpc_base.proofs.FirstLemmas.{found-le}
use Rattle.node_laws.proofs.TellLemmas.{count-new, parts-new, size-new, ToldProgress, ToldCall, Told}
use Rattle.node_laws.proofs.ToldSame.{told-same}
use Rattle.node_laws.specs.Valid.{holders}

-- a fact, by its parts
abbrev pub noted : Who → Event → List ℕ → List ℕ → Fact
noted who e first second = record { who = who; event = e; first = first; second = second }

-- the counts after a fact that concerns the call
own-test : (n r t : ℕ) → r ≡ t → (n == n && r == t) ≡ true
own-test n r t e = and_from (n == n) (r == t) (eq-eqb n n refl) (eq-eqb r t e)

-- what is told, by the request number alone
record TellsAt (past : List Fact) (c n r got posted rolls : ℕ) (answer : Option ℕ)
    (parts : List ℕ) : Type 0 where
  begins : list_any (λ f. begins_as c r f.event) past ≡ true
  gets : got ≡ count_by (λ f. takes_of n r f.event) past
  posts : posted ≡ posted_by c n r past
  rolls_back : rolls ≡ rolls_by c n r past
  sizes : answer ≡ size_by n r past
  joins : parts ≡ parts_by n r past

tells-at : (past : List Fact) (c n r : ℕ) (p : Progress) → p.request ≡ r → TellsActive past c n p
    → TellsAt past c n r p.got p.posted p.rolls p.answer p.parts
tells-at past c n r p e t =
    let here : TellsAt past c n p.request p.got p.posted p.rolls p.answer p.parts =
    record {
      begins = t.begun;
      gets = t.got;
      posts = t.posted;
      rolls_back = t.rolls;
      sizes = t.answer;
      joins = t.parts;
    } in
    subst (λ (i : ℕ). TellsAt past c n i p.got p.posted p.rolls p.answer p.parts) e here

same-active : (past : List Fact) (c n : ℕ) (p q : Progress) → q.request ≡ p.request → q.got ≡ p.got
    → q.posted ≡ p.posted → q.rolls ≡ p.rolls → q.answer ≡ p.answer → q.parts ≡ p.parts
    → TellsActive past c n p → TellsActive past c n q
same-active past c n p q request got posted same answer parts t =
    let at = tells-at past c n q.request p (sym request) t in
    record {
      begun = at.begins;
      got = got ∙ at.gets;
      posted = posted ∙ at.posts;
      rolls = same ∙ at.rolls_back;
      answer = answer ∙ at.sizes;
      parts = parts ∙ at.joins;
    }

-- nothing is told of a request none of whose replies was taken
none-by : (n r : ℕ) (f : Fact) (past : List Fact) (b : Bool) → takes_of n r f.event ≡ b
    → count_by (λ g. takes_of n r g.event) (f ∷ past) ≡ 0
    → (b ≡ false) × (count_by (λ g. takes_of n r g.event) past ≡ 0)
none-by n r f past true e none =
    let count = count-new (takes_of n r) f past true e in absurd (omega arith)
none-by n r f past false e none =
    let count = count-new (takes_of n r) f past false e in (refl, omega arith)

no-size : (n r : ℕ) (past : List Fact) → count_by (λ f. takes_of n r f.event) past ≡ 0
    → size_by n r past ≡ None
no-size n r [] none = refl
no-size n r (f ∷ past) none =
    let parts = none-by n r f past (takes_of n r f.event) refl none in
    size-new n r f past false parts.0 ∙ no-size n r past parts.1

no-parts : (n r : ℕ) (past : List Fact) → count_by (λ f. takes_of n r f.event) past ≡ 0
    → parts_by n r past ≡ []
no-parts n r [] none = refl
no-parts n r (f ∷ past) none =
    let parts = none-by n r f past (takes_of n r f.event) refl none in
    parts-new n r f past false parts.0 ∙ no-parts n r past parts.1

module _ (who : Who) (bytes second : List ℕ) (past : List Fact) (c n : ℕ) where
  pub took-active : (r k : ℕ) (p q : Progress) → r ≡ p.request → q.request ≡ p.request
      → q.got ≡ p.got + 1 → q.posted ≡ p.posted → q.rolls ≡ 0
      → q.answer ≡ told_size (front_header (ring_by past)) p.answer
      → q.parts ≡ told_parts (front_header (ring_by past)) (front_body (ring_by past)) p.parts
      → TellsActive past c n p
      → TellsActive (noted who (Took (Ask n r) k) bytes second ∷ past) c n q
  took-active r k p q own request got posted none size parts t =
      let test : (n == n && r == q.request) ≡ true = own-test n r q.request (own ∙ sym request) in
      let at = tells-at past c n q.request p (sym request) t in
      record {
        begun = at.begins;
        got =
            let count = count-new (takes_of n q.request) (noted who (Took (Ask n r) k) bytes second) past true test in
            let was = at.gets in
            omega arith;
        posted = posted ∙ at.posts;
        rolls = none ∙ sym (ap (λ b. cond b 0 (rolls_by c n q.request past)) test);
        answer =
            size ∙ (ap (told_size (front_header (ring_by past))) at.sizes
            ∙ sym (size-new n q.request (noted who (Took (Ask n r) k) bytes second) past true test));
        parts =
            parts ∙ (ap (told_parts (front_header (ring_by past)) (front_body (ring_by past))) at.joins
            ∙ sym (parts-new n q.request (noted who (Took (Ask n r) k) bytes second) past true test));
      }

  pub posted-active : (r k : ℕ) (p q : Progress) → r ≡ p.request → q.request ≡ p.request
      → q.got ≡ p.got → q.posted ≡ k + 1 → q.rolls ≡ p.rolls → q.answer ≡ p.answer
      → q.parts ≡ p.parts → TellsActive past c n p
      → TellsActive (noted who (Posted (Ask n r) k) bytes second ∷ past) c n q
  posted-active r k p q own request got posted same answer parts t =
      let test : (n == n && r == q.request) ≡ true = own-test n r q.request (own ∙ sym request) in
      let at = tells-at past c n q.request p (sym request) t in
      record {
        begun = at.begins;
        got =
            let count = count-new (takes_of n q.request)
            (noted who (Posted (Ask n r) k) bytes second) past false refl in
            let was = at.gets in
            omega arith;
        posted = posted ∙ sym (ap (λ b. cond b (k + 1) (posted_by c n q.request past)) test);
        rolls = same ∙ at.rolls_back;
        answer =
            answer ∙ (at.sizes
            ∙ sym (size-new n q.request (noted who (Posted (Ask n r) k) bytes second) past false refl));
        parts =
            parts ∙ (at.joins
            ∙ sym (parts-new n q.request (noted who (Posted (Ask n r) k) bytes second) past false refl));
      }

  pub rolled-active : (posted got : ℕ) (p q : Progress) → q.request ≡ p.request → q.got ≡ p.got
      → q.posted ≡ got → q.rolls ≡ p.rolls + 1 → q.answer ≡ p.answer → q.parts ≡ p.parts
      → TellsActive past c n p
      → TellsActive (noted who (Rolled c posted got) bytes second ∷ past) c n q
  rolled-active posted got p q request same back more answer parts t =
      let test : (c == c) ≡ true = eq-eqb c c refl in
      let at = tells-at past c n q.request p (sym request) t in
      record {
        begun = at.begins;
        got =
            let count = count-new (takes_of n q.request)
            (noted who (Rolled c posted got) bytes second) past false refl in
            let was = at.gets in
            omega arith;
        posted = back ∙ sym (ap (λ b. cond b got (posted_by c n q.request past)) test);
        rolls = more ∙ (ap (λ i. i + 1) at.rolls_back
            ∙ sym (ap (λ b. cond b (rolls_by c n q.request past + 1) (rolls_by c n q.request past))
            test));
        answer =
            answer ∙ (at.sizes
            ∙ sym (size-new n q.request (noted who (Rolled c posted got) bytes second) past false refl));
        parts =
            parts ∙ (at.joins
            ∙ sym (parts-new n q.request (noted who (Rolled c posted got) bytes second) past false refl));
      }

  pub begun-active : (r : ℕ) (p : Progress) → p.request ≡ r → p.got ≡ 0 → p.posted ≡ 0 → p.rolls ≡ 0
      → p.answer ≡ None → p.parts ≡ [] → count_by (λ f. takes_of n r f.event) past ≡ 0
      → TellsActive (noted who (Begun c r) bytes second ∷ past) c n p
  begun-active r p request got posted none answer parts zero =
      let test : (c == c) ≡ true = eq-eqb c c refl in
      let own : (c == c && r == p.request) ≡ true = own-test c r p.request (sym request) in
      let first : count_by (λ f. takes_of n p.request f.event) past ≡ 0 = rw request zero in
      record {
        begun = or_left (c == c && r == p.request) _ own;
        got =
            let count = count-new (takes_of n p.request) (noted who (Begun c r) bytes second) past false refl in
            omega arith;
        posted = posted ∙ sym (ap (λ b. cond b 0 (posted_by c n p.request past)) test);
        rolls = none ∙ sym (ap (λ b. cond b 0 (rolls_by c n p.request past)) test);
        answer =
            answer ∙ (sym (no-size n p.request past first)
            ∙ sym (size-new n p.request (noted who (Begun c r) bytes second) past false refl));
        parts =
            parts ∙ (sym (no-parts n p.request past first)
            ∙ sym (parts-new n p.request (noted who (Begun c r) bytes second) past false refl));
      }

pub own-moved : (past now : List Fact) (c n : ℕ) (g : Progress → Progress) (o : Option Progress)
    (p : Progress) → o ≡ Some p → (TellsActive past c n p → TellsActive now c n (g p))
    → ToldProgress past c n o → ToldProgress now c n (option_map g o)
own-moved past now c n g o p e h t =
    let was : TellsActive past c n p = rw e at t in
    rw e (h was)

sent-rolls : (clock k : ℕ) (p : Progress) → (sent_packet clock k p).rolls ≡ p.rolls
sent-rolls clock k p = both-at (λ (q : Progress). q.rolls) (p.got == k) _ _ _ refl refl

sent-answer : (clock k : ℕ) (p : Progress) → (sent_packet clock k p).answer ≡ p.answer
sent-answer clock k p = both-at (λ (q : Progress). q.answer) (p.got == k) _ _ _ refl refl

sent-parts : (clock k : ℕ) (p : Progress) → (sent_packet clock k p).parts ≡ p.parts
sent-parts clock k p = both-at (λ (q : Progress). q.parts) (p.got == k) _ _ _ refl refl

sent-told : (past : List Fact) (c n clock k : ℕ) (o : Option Progress) → ToldProgress past c n o
    → ToldProgress past c n (option_map (sent_packet clock k) o)
sent-told past c n clock k None t = tt
sent-told past c n clock k (Some p) t =
    same-active past c n p (sent_packet clock k p) (sent-request clock k p) (sent-got clock k p)
    (sent-posted clock k p) (sent-rolls clock k p) (sent-answer clock k p) (sent-parts clock k p) t

-- events that concern no call
module _ (now : List Fact) (c n : ℕ) (xs : List Client) where
  pub told-sent : (clock session r k : ℕ) → Told now c n (find (is_client n) xs)
      → Told now c n (find (is_client n) (at_first (is_client session) (sends clock r k) xs))
  told-sent clock session r k t =
      changed-holds (Told now c n) (is_client session) (sends clock r k) (is_client n)
      (λ x. refl) xs (λ x e own told. changed-holds (ToldCall now c n) (is_active r)
      (moved (sent_packet clock k)) (is_call c)
      (λ d. refl) x.calls (λ d g mine call.
      (call.0, sent-told now c n clock k d.progress call.1)) told) t

  -- a session whose calls stay
  pub told-kept : (p : Client → Bool) (f : Client → Client)
      → ((x : Client) → (f x).way.number ≡ x.way.number) → ((x : Client) → (f x).calls ≡ x.calls)
      → Told now c n (find (is_client n) xs) → Told now c n (find (is_client n) (at_first p f xs))
  told-kept p f number calls t =
      changed-holds (Told now c n) p f (is_client n)
      (λ x. rw (number x) refl) xs (λ x e own told. rw (calls x) told) t

  pub told-requests : (clock : ℕ) (o : Option ControlHeader) → Told now c n (find (is_client n) xs)
      → Told now c n (find (is_client n) (clients_told clock o xs))
  told-requests clock None t = t
  told-requests clock (Some h) t =
      told-kept (is_client h.client) (requests clock h)
      (λ x. told-same (λ y. y.way.number) clock h x refl)
      (λ x. told-same (λ y. y.calls) clock h x refl) t

  made-by : (o p : Option Client) (y : Client) → y.calls ≡ []
      → ((x : Client) → o ≡ Some x → p ≡ Some x) → (o ≡ None → (p ≡ Some y) ⊎ (p ≡ None))
      → Told now c n o → Told now c n p
  made-by None p y e h g t = by (g refl)
    where
      by : (p ≡ Some y) ⊎ (p ≡ None) → Told now c n p
      by (inl made) = rw (made, e) tt
      by (inr none) = rw none tt
  made-by (Some x) p y e h g t = rw (h x refl) t

  made-none : (y : Client) (b : Bool) → is_client n y ≡ b → find (is_client n) xs ≡ None
      → (find (is_client n) (xs ++ y ∷ []) ≡ Some y) ⊎ (find (is_client n) (xs ++ y ∷ []) ≡ None)
  made-none y true t e = inl (push-found (is_client n) xs y e t)
  made-none y false t e = inr (push-other (is_client n) xs y t ∙ e)

  pub told-made : (s peer i credits life : ℕ) → Told now c n (find (is_client n) xs)
      → Told now c n (find (is_client n) (xs ++ client_end s peer i credits life ∷ []))
  told-made s peer i credits life t =
      made-by (find (is_client n) xs) (find (is_client n) (xs ++ client_end s peer i credits life ∷ []))
      (client_end s peer i credits life) refl (λ x e. push-kept (is_client n) xs x
      (client_end s peer i credits life) e) (made-none (client_end s peer i credits life)
      (is_client n (client_end s peer i credits life)) refl) t

  pub told-opened : (s peer credits : ℕ) → Told now c n (find (is_client n) xs)
      → Told now c n (find (is_client n) (xs ++ opened_end s peer credits ∷ []))
  told-opened s peer credits t =
      made-by (find (is_client n) xs) (find (is_client n) (xs ++ opened_end s peer credits ∷ []))
      (opened_end s peer credits) refl (λ x e. push-kept (is_client n) xs x
      (opened_end s peer credits) e) (made-none (opened_end s peer credits)
      (is_client n (opened_end s peer credits)) refl) t

  -- a call that ends is in the table no more
  left-by : (i : ℕ) (calls : List Call) (b : Bool) → (i == c) ≡ b → count_by (is_call c) calls ≤ 1
      → ToldCall now c n (find (is_call c) calls)
      → ToldCall now c n (find (is_call c) (without_first (is_call i) calls))
  left-by i calls true e few t =
      let same : i ≡ c = eqb-true i c e in
      let none : find (is_call c) (without_first (is_call c) calls) ≡ None =
      none-found (is_call c) (without_first (is_call c) calls)
      (count-out (is_call c) calls few) in
      rw (same, none) tt
  left-by i calls false e few t =
      rw (skip-found (is_call i) (is_call c) calls (λ d k. other d.what.number k)) t
    where
      other : (j : ℕ) → (j == i) ≡ true → (j == c) ≡ false
      other j k = let same : j ≡ i = eqb-true j i k in rw same e

  pub told-ended : (i : ℕ) → holders c xs ≤ 1 → Told now c n (find (is_client n) xs)
      → Told now c n (find (is_client n) (at_first (has_call i) (ends i) xs))
  told-ended i few t =
      changed-holds (Told now c n) (has_call i) (ends i) (is_client n) (λ x. refl) xs (λ x e own told.
      let part = found-le (has_call i) (λ y. count_by (is_call c) y.calls) xs x e in
      left-by i x.calls (i == c) refl (omega arith) told) t

  -- a call that is asked
  pub asked-by : (i y room : ℕ) (bytes : List ℕ) (calls : List Call) (b : Bool) → (i == c) ≡ b
      → (b ≡ true → list_any (λ f. asks_on c n f.event) now ≡ true)
      → (b ≡ true → find (is_call c) calls ≡ None) → ToldCall now c n (find (is_call c) calls)
      → ToldCall now c n (find (is_call c) (calls
      ++ record {
        what = record { number = i; req_type = y; room = room; ask = bytes };
        progress = None;
      } ∷ []))
  asked-by i y room bytes calls true e asked none t =
      rw (push-found (is_call c) calls (record
      { what = record { number = i; req_type = y; room = room; ask = bytes }; progress = None })
      (none refl) e) (asked refl, tt)
  asked-by i y room bytes calls false e asked none t =
      rw (push-other (is_call c) calls (record
      { what = record { number = i; req_type = y; room = room; ask = bytes }; progress = None })
      e) t
