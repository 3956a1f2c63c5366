-- What is own is told by the facts so far, where numbers are used once.
use Rattle.std.proofs.Common.{◌≡◌, ℕ, zero, suc, ◌==◌, ◌<◌, true, List, [], ◌∷◌, ◌++◌, refl, sym, ap, ap₂, ◌∙◌}
use Rattle.std.proofs.Common.{Some, subst, arith, Contains, length, eq-eqb, slice_get}
use Rattle.std.specs.Prelude.{slice_index_or}
use Rattle.std.specs.Str.{bytes_eq}
use Rattle.std.proofs.lemmas.Bool.{and_from, lt-ltb, or_left, or_right}
use Rattle.std.proofs.lemmas.List.Elements.{Contains-append_right}
use Rattle.std.proofs.lemmas.Slice.Eq.{bytes_eq-Decides}
use Rattle.node_laws.specs.UsedOnce.{UsedOnce}
use Rattle.report_text.specs.Told.{AllTold}
use Rattle.rpc_base.specs.declared.event.Event.{Event}
use Rattle.rpc_base.specs.declared.event.Event.TheVariants.{Asked, Begun, Connected, DoneOk}
use Rattle.rpc_base.specs.declared.event.Event.TheVariants.{DoneTooSmall, Opened, Ran}
use Rattle.rpc_base.specs.declared.fact.Fact.{Fact}
use Rattle.rpc_base.specs.declared.fact.Who.{Who}
use Rattle.rpc_base.specs.declared.fact.Who.TheVariants.{Node, Net}
use Rattle.rpc_laws.specs.AtMostOnce.{Once}
use Rattle.rpc_laws.specs.Endpoints.{EachLife, Endpoint, life_at, life_by, Lived, lived, lived_from, noted}
use Rattle.rpc_laws.specs.Endpoints.{noted_two, noted_with, present, told}
use Rattle.rpc_laws.specs.OwnAnswer.{AtEach, IsAnswerTo, IsCallOf, IsClientEnd, IsServerEnd, OwnAt, OwnBegin}
use Rattle.rpc_laws.specs.OwnAnswer.{OwnEvent}
use Rattle.rpc_laws.specs.Service.{Serving}
use Rattle.world_laws.proofs.OneCallLaws.{began, call-more, calls-same, client-end, client-more, one-asked, one-joined}
use Rattle.world_laws.proofs.OneCallLaws.{one-made, one-run, one-session, server-end, server-more}
use Rattle.world_laws.specs.OneCall.{RanFor}
use Rattle.lawful_history.specs.OwnTold.{AreTold, is_own_at, WhatIsOwnIsTold}
use Rattle.lawful_history.specs.Told.{answer_by, answer_of, Ask, ask_by, ask_of, asks_so, at_end, call_by, call_of}
use Rattle.lawful_history.specs.Told.{connected_by, is_end, is_endpoint, is_joined, is_joining, is_number, is_on, is_own}
use Rattle.lawful_history.specs.Told.{named, NodeCall, opened_by, paired_by, paired_of, run_of, server_by, server_of}
use Rattle.lawful_history.specs.Told.{SessionEnd}
use Rattle.lawful_history.proofs.OwnSound.{all-earlier, answer-told, ask-told, began-told, connected-in, earlier-in}
use Rattle.lawful_history.proofs.OwnSound.{opened-in, paired-told, server-told}
use Rattle.lawful_history.proofs.ToldLemmas.{in-stands, Stands, stands-in, told-some}

-- a claim at each of some facts, about the facts before it; they stand with the newest first
abbrev AtEachPast : (List Lived → Lived → Type 0) → List Lived → Type 0
AtEachPast P [] = Unit {0}
AtEachPast P (f ∷ past) = P past f × AtEachPast P past

same-self : (n : ℕ) → (n == n) ≡ true
same-self n = eq-eqb n n refl

bytes-self : (bytes : List ℕ) → bytes_eq bytes bytes ≡ true
bytes-self bytes = (bytes_eq-Decides bytes bytes).1 refl

-- an element at its place
place-got : (xs : List Lived) (k : ℕ) (f : Lived) → k < length xs → slice_index_or xs k f ≡ f
    → slice_get xs k ≡ Some f
place-got [] k f lt e = absurd (omega arith)
place-got (x ∷ xs) zero f lt e = ap Some e
place-got (x ∷ xs) (suc k) f lt e = place-got xs k f (omega arith) e

-- what a call asks, by its fields
abbrev asking : (session req_type room : ℕ) → List ℕ → Ask
asking session req_type room bytes =
    record { session = session; req_type = req_type; room = room; bytes = bytes }

module _ (h : List Fact) (u : EachLife UsedOnce h) (o : EachLife Once h) where
  abbrev all : List Lived
  all = lived h

  -- some facts of the history, with the newest first
  record Past (past : List Lived) : Type 0 where
    told : AreTold past
    more : (f : Lived) → Contains past f → Contains all f

  server-one : (past : List Lived) (n : Endpoint) (s : ℕ) (m : Endpoint) (t : ℕ) → Past past
      → IsServerEnd past n s m t → server_of m t past ≡ Some (record { at = n; session = s })
  server-one past n s m t p end = by end
    where
      found : (c : SessionEnd) → server_of m t past ≡ Some c
          → server_of m t past ≡ Some (record { at = n; session = s })
      found c e =
          let same = server-end h u o n s c.at c.session m t (server-more past all p.more n s m t end)
          (server-more past all p.more c.at c.session m t (server-told past m t c p.told e)) in
          e ∙ ap₂ (λ (a : Endpoint) (b : ℕ). Some (record { at = a; session = b })) (sym same.0) (sym same.1)

      by : IsServerEnd past n s m t → server_of m t past ≡ Some (record { at = n; session = s })
      by (IsServerEnd.paired credits x) =
          let t = told-some (at_end m (server_by t)) past _ (named n.node n.life s) (in-stands past _ x)
          (rw (same-self m.node, same-self m.life, same-self t) refl) in
          found t.value t.is
      by (IsServerEnd.accepted credits x) =
          let t = told-some (at_end m (server_by t)) past _ (named n.node n.life s) (in-stands past _ x)
          (rw (same-self m.node, same-self m.life, same-self t) refl) in
          found t.value t.is

  end-yes : (m : Endpoint) (t : ℕ) (q : SessionEnd) → m ≡ q.at → t ≡ q.session → is_end m t (Some q) ≡ true
  end-yes m t q e g =
      rw (e, g, same-self q.at.node, same-self q.at.life, same-self q.session) refl

  joined-one : (past : List Lived) (n : Endpoint) (s : ℕ) (m : Endpoint) (t : ℕ) → Past past
      → IsClientEnd past n s m t → is_joined n s m t past ≡ true
  joined-one past n s m t p (IsClientEnd.paired credits x) =
      let told = told-some (at_end n (paired_by s)) past _ (named m.node m.life t) (in-stands past _ x)
      (rw (same-self n.node, same-self n.life, same-self s) refl) in
      let q = told.value in
      let same = client-end h u o n s m t q.at q.session
      (client-more past all p.more n s m t (IsClientEnd.paired credits x))
      (client-more past all p.more n s q.at q.session (paired-told past n s q p.told told.is)) in
      or_left (is_end m t (paired_of n s past)) _ (ap (is_end m t) told.is ∙ end-yes m t q same.0 same.1)
  joined-one past n s m t p (IsClientEnd.connected credits x y) =
      let one = told-some (at_end n (opened_by s)) past _ m.node (in-stands past _ x)
      (rw (same-self n.node, same-self n.life, same-self s) refl) in
      let two = told-some (at_end n (connected_by s)) past _ (record { session = t; life = m.life })
      (in-stands past _ y) (rw (same-self n.node, same-self n.life, same-self s) refl) in
      let opened = opened-in past n s one.value p.told one.is in
      let j = two.value in
      let made = one-made h u o n s (Opened s m.node credits) (Opened s one.value opened.credits) (p.more _ x)
      (p.more _ opened.stands) (same-self s) (same-self s) in
      let joined = one-joined h u o n s (Connected s t m.life) (Connected s j.session j.life) (p.more _ y)
      (p.more _ (connected-in past n s j p.told two.is)) (same-self s) (same-self s) in
      let peer : one.value ≡ m.node = cc in
      let other : j.session ≡ t = cc in
      let life : j.life ≡ m.life = cc in
      or_right (is_end m t (paired_of n s past)) _
      (and_from _ _ (ap (is_number m.node) one.is ∙ eq-eqb one.value m.node peer)
      (ap (is_joining t m.life) two.is ∙ and_from _ _ (eq-eqb j.session t other) (eq-eqb j.life m.life life)))

  ask-one : (past : List Lived) (n : Endpoint) (c s y room : ℕ) (bytes : List ℕ) → Past past
      → Contains past (noted_with n (Asked c s y room) bytes)
      → ask_of n c past ≡ Some (asking s y room bytes)
  ask-one past n c s y room bytes p x =
      let told = told-some (ask_by n c) past _ (asking s y room bytes) (in-stands past _ x)
      (rw (same-self n.node, same-self n.life, same-self c) refl) in
      let a = told.value in
      let same = one-asked h u o n c s a.session y a.req_type room a.room bytes a.bytes (p.more _ x)
      (p.more _ (ask-told past n c a p.told told.is)) in
      told.is ∙ ap Some (sym (fields a (ap (λ (f : Lived). f.fact.event) same) (ap (λ (f : Lived). f.fact.first) same)))
    where
      fields : (a : Ask) → Asked c s y room ≡ Asked c a.session a.req_type a.room → bytes ≡ a.bytes
          → asking s y room bytes ≡ a
      fields a e g =
          let session : s ≡ a.session = cc in
          let req_type : y ≡ a.req_type = cc in
          let places : room ≡ a.room = cc in
          let whole : asking s y room bytes ≡ asking a.session a.req_type a.room a.bytes =
          rw (session, req_type, places, g) refl in
          whole

  -- a fact so far is own, and has the life that its node has then
  record OwnThen (v : ℕ → Serving) (past : List Lived) (f : Lived) : Type 0 where
    own : OwnAt v past f.fact.who f.fact.event f.fact.first f.fact.second
    life : f.life ≡ life_at f.fact.who past

  abbrev OwnSoFar : (ℕ → Serving) → List Lived → Type 0
  OwnSoFar v past = AtEachPast (OwnThen v) past

  own-there : (v : ℕ → Serving) (later earlier : List Lived) (f : Lived) → OwnSoFar v (later ++ f ∷ earlier)
      → OwnThen v earlier f
  own-there v [] earlier f a = a.0
  own-there v (g ∷ later) earlier f a = own-there v later earlier f a.1

  own-earlier : (v : ℕ → Serving) (later earlier : List Lived) (f : Lived) → OwnSoFar v (later ++ f ∷ earlier)
      → OwnSoFar v earlier
  own-earlier v [] earlier f a = a.1
  own-earlier v (g ∷ later) earlier f a = own-earlier v later earlier f a.1

  own-begin : (v : ℕ → Serving) (past : List Lived) (n : Endpoint) (c r : ℕ) → OwnThen v past (noted n (Begun c r))
      → OwnBegin past n c
  own-begin v past n c r a =
      let life : life_by n.node past ≡ n.life = sym a.life in
      let here : present n.node past ≡ n = ap (λ (k : ℕ). record { node = n.node; life = k }) life in
      let own : OwnBegin past (present n.node past) c = a.own in
      subst (λ (z : Endpoint). OwnBegin past z c) here own

  past-earlier : (past : List Lived) (f : Lived) (s : Stands past f) → Past past → Past s.earlier
  past-earlier past f s p = record {
    told = all-earlier s.later s.earlier f (subst (λ (z : List Lived). AreTold z) s.parts p.told);
    more = λ g x. p.more g (earlier-in past f g s x);
  }

  call-one : (v : ℕ → Serving) (past : List Lived) (n : Endpoint) (c s r y room : ℕ) (bytes : List ℕ) → Past past
      → OwnSoFar v past → Contains past (noted_with n (Asked c s y room) bytes)
      → Contains past (noted n (Begun c r)) → call_of n s r past ≡ Some c
  call-one v past n c s r y room bytes p own asked begun =
      let at = in-stands past _ begun in
      let q = past-earlier past _ at p in
      let b : OwnBegin at.earlier n c = own-begin v at.earlier n c r
      (own-there v at.later at.earlier _ (subst (λ (z : List Lived). OwnSoFar v z) at.parts own)) in
      let session : b.session ≡ s =
      one-session h u o n c b.session s b.req_type y b.room room b.ask bytes (q.more _ b.asked) (p.more _ asked) in
      let ask = ask-one at.earlier n c b.session b.req_type b.room b.ask q b.asked in
      let on : is_on s (ask_of n c at.earlier) ≡ true = ap (is_on s) ask ∙ eq-eqb b.session s session in
      let told = told-some (call_by n s r) past _ c at
      (rw (same-self n.node, same-self n.life, same-self r, on) refl) in
      let d = told.value in
      let other = began-told past n s r d p.told told.is in
      let same : c ≡ d =
      calls-same h u o n n c d s s r
      (began h u o n c s r y room bytes (p.more _ asked) (p.more _ begun))
      (began h u o n d s r other.ask.req_type other.ask.room other.ask.bytes (p.more _ other.asked)
      (p.more _ other.begun)) refl refl in
      told.is ∙ ap Some (sym same)

  -- which call a request is, and that it asks this
  record Run (past : List Lived) (n : Endpoint) (c : ℕ) (m : Endpoint) (t r y room : ℕ) (bytes : List ℕ) : Type 0 where
    call : NodeCall
    node : call.at ≡ n
    number : call.call ≡ c
    is : run_of m t r past ≡ Some call
    ask : ask_of n c past ≡ Some (asking call.session y room bytes)

  run-one : (v : ℕ → Serving) (past : List Lived) (n : Endpoint) (c : ℕ) (m : Endpoint) (t r y room : ℕ)
      (bytes : List ℕ) → Past past → OwnSoFar v past → IsCallOf past n c m t r y room bytes → Run past n c m t r y room bytes
  run-one v past n c m t r y room bytes p own a =
      let server = server-one past n a.session m t p a.ends.server in
      let joined = joined-one past n a.session m t p a.ends.client in
      let call = call-one v past n c a.session r y room bytes p own a.asked a.begun in
      record {
        call = record { at = n; session = a.session; call = c };
        node = refl;
        number = refl;
        is = rw (server, joined, call) refl;
        ask = ask-one past n c a.session y room bytes p a.asked;
      }

  asks-one : (past : List Lived) (n : Endpoint) (c : ℕ) (m : Endpoint) (t r y room : ℕ) (bytes : List ℕ)
      → (k : Run past n c m t r y room bytes) → asks_so y bytes past (run_of m t r past) ≡ true
  asks-one past n c m t r y room bytes k =
      let ask : ask_of k.call.at k.call.call past ≡ Some (asking k.call.session y room bytes) =
      rw (k.node, k.number) k.ask in
      rw (k.is, ask, same-self k.call.session, same-self y, bytes-self bytes) refl

  -- one answer to a call
  abbrev ran_fact : Endpoint → (t r y : ℕ) → List ℕ → List ℕ → Lived
  ran_fact m t r y ask answer = noted_two m (Ran t r y) ask answer

  abbrev ran-place : (past : List Lived) (n : Endpoint) (c room : ℕ) (answer : List ℕ) → (a : IsAnswerTo past n c room answer)
      → Stands past (ran_fact a.node a.session a.request a.req_type a.ask answer)
  ran-place past n c room answer a = record { later = a.later; earlier = a.earlier; parts = a.ran }

  asked-room : (n : Endpoint) (c s e y z room space : ℕ) (ask other : List ℕ)
      → Contains all (noted_with n (Asked c s y room) ask)
      → Contains all (noted_with n (Asked c e z space) other)
      → room ≡ space
  asked-room n c s e y z room space ask other x w =
      let event : Asked c s y room ≡ Asked c e z space =
      ap (λ (f : Lived). f.fact.event) (one-asked h u o n c s e y z room space ask other x w) in
      cc

  ran-for : (past : List Lived) (n : Endpoint) (c room : ℕ) (answer : List ℕ) → Past past
      → (a : IsAnswerTo past n c room answer)
      → RanFor all n c (ran_fact a.node a.session a.request a.req_type a.ask answer)
  ran-for past n c room answer p a =
      let q = past-earlier past _ (ran-place past n c room answer a) p in
      record {
        node = a.node;
        session = a.session;
        request = a.request;
        req_type = a.req_type;
        room = room;
        ask = a.ask;
        answer = answer;
        ran = refl;
        own = call-more a.earlier all q.more n c a.node a.session a.request a.req_type room a.ask a.call;
      }

  ran-got : (past : List Lived) (n : Endpoint) (c room : ℕ) (answer : List ℕ) → Past past
      → (a : IsAnswerTo past n c room answer)
      → (k : ℕ) × (slice_get all k ≡ Some (ran_fact a.node a.session a.request a.req_type a.ask answer))
  ran-got past n c room answer p a =
      let there = p.more _ (stands-in past _ (ran-place past n c room answer a)) in
      (there.0, place-got all there.0 _ there.1 there.2)

  same-got : (i j : ℕ) (f g : Lived) → slice_get all i ≡ Some f → slice_get all j ≡ Some g → i ≡ j → f ≡ g
  same-got i j f g e d same =
      let other : slice_get all i ≡ Some g = rw same d in
      let both : Some f ≡ Some g = sym e ∙ other in
      cc

  answers-same : (past : List Lived) (n : Endpoint) (c room space : ℕ) (answer other : List ℕ) → Past past
      → IsAnswerTo past n c room answer → IsAnswerTo past n c space other
      → (room ≡ space) × (answer ≡ other)
  answers-same past n c room space answer other p a b =
      let pa = past-earlier past _ (ran-place past n c room answer a) p in
      let pb = past-earlier past _ (ran-place past n c space other b) p in
      let i = ran-got past n c room answer p a in
      let j = ran-got past n c space other p b in
      let place = one-run h u o n c i.0 j.0 _ _ i.1 j.1 (ran-for past n c room answer p a)
      (ran-for past n c space other p b) in
      let facts = same-got i.0 j.0 _ _ i.1 j.1 place in (
        asked-room n c a.call.session b.call.session a.req_type b.req_type room space a.ask b.ask
            (pa.more _ a.call.asked) (pb.more _ b.call.asked),
        ap (λ (f : Lived). f.fact.second) facts,
      )

  answer-one : (v : ℕ → Serving) (past : List Lived) (n : Endpoint) (c room : ℕ) (answer : List ℕ) → Past past
      → OwnSoFar v past → IsAnswerTo past n c room answer
      → answer_of n c past ≡ Some (record { room = room; bytes = answer })
  answer-one v past n c room answer p own a =
      let at = ran-place past n c room answer a in
      let q = past-earlier past _ at p in
      let before = own-earlier v at.later at.earlier _ (subst (λ (z : List Lived). OwnSoFar v z) at.parts own) in
      let k = run-one v a.earlier n c a.node a.session a.request a.req_type room a.ask q before a.call in
      let told = told-some (answer_by n c) past _ (record { room = room; bytes = answer }) at
      (answers a.earlier a.node a.session a.request a.req_type a.ask k) in
      let w = told.value in
      let same = answers-same past n c room w.room answer w.bytes p a (answer-told past n c w p.told told.is) in
      told.is ∙ ap₂ (λ (i : ℕ) (z : List ℕ). Some (record { room = i; bytes = z })) (sym same.0) (sym same.1)
    where
      answers : (earlier : List Lived) (m : Endpoint) (t r y : ℕ) (ask : List ℕ) → (k : Run earlier n c m t r y room ask)
          → answer_by n c earlier (ran_fact m t r y ask answer) ≡ Some (record { room = room; bytes = answer })
      answers earlier m t r y ask k =
          let asked : ask_of k.call.at k.call.call earlier ≡ Some (asking k.call.session y room ask) =
          rw (k.node, k.number) k.ask in
          let node : is_endpoint k.call.at n ≡ true =
          rw (k.node, same-self n.node, same-self n.life) refl in
          let call : (k.call.call == c) ≡ true = eq-eqb k.call.call c k.number in
          rw (k.is, node, call, asked, same-self k.call.session, same-self y, bytes-self ask) refl

  -- what is own is told
  own-told : (v : ℕ → Serving) (past : List Lived) (n : Endpoint) (e : Event) (first second : List ℕ) → Past past
      → OwnSoFar v past → OwnEvent (v n.node) past n e first second → is_own past n e first ≡ true
  own-told v past n (Begun c r) first second p own b =
      rw (ask-one past n c b.session b.req_type b.room b.ask p b.asked) refl
  own-told v past n (Ran t r y) first second p own b =
      asks-one past b.node b.call n t r y b.room first
      (run-one v past b.node b.call n t r y b.room first p own b.own)
  own-told v past n (DoneOk c) first second p own b =
      rw (answer-one v past n c b.room first p own b.own, bytes-self first) refl
  own-told v past n (DoneTooSmall c size) first second p own b =
      rw (
        answer-one v past n c b.room b.answer p own b.own,
        eq-eqb (length b.answer) size b.sized,
        lt-ltb b.room size b.above,
      ) refl
  own-told v past n _ first second p own b = refl

  own-at : (v : ℕ → Serving) (past : List Lived) (who : Who) (e : Event) (first second : List ℕ) → Past past
      → OwnSoFar v past → OwnAt v past who e first second → is_own_at past who e first ≡ true
  own-at v past (Node n) e first second p own b = own-told v past (present n past) e first second p own b
  own-at v past Net e first second p own b = refl

  next-in : (f : Lived) (past : List Lived) (d : Lived) (k : ℕ) → Contains all f
      → ((g : Lived) → Contains past g → Contains all g) → k < length (f ∷ past)
      → slice_index_or (f ∷ past) k d ≡ d → Contains all d
  next-in f past d zero here before lt e = rw (← e) here
  next-in f past d (suc k) here before lt e = before d (k, omega arith, e)

  each-told : (v : ℕ → Serving) (past : List Lived) (g : List Fact) → Past past → OwnSoFar v past → AllTold g
      → ((f : Lived) → Contains (lived_from past g) f → Contains all f)
      → AtEach (λ past f. OwnAt v past f.who f.event f.first f.second) past g
      → AtEach (λ past f. is_own_at past f.who f.event f.first ≡ true) past g
  each-told v past [] p own whole there each = tt
  each-told v past (f ∷ g) p own whole there each =
      let x = told past f in
      let here : Contains all x = there x (0, omega arith, refl) in
      let next : Past (x ∷ past) = record {
        told = (whole.0, p.told);
        more = λ d y. next-in x past d y.0 here p.more y.1 y.2;
      } in (
        own-at v past f.who f.event f.first f.second p own each.0,
        each-told v (x ∷ past) g next (record { own = each.0; life = refl }, own) whole.1
            (λ d y. there d (Contains-append_right (x ∷ []) (lived_from (x ∷ past) g) d y)) each.1,
      )

pub own-complete : WhatIsOwnIsTold
own-complete services h u o whole own =
    each-told h u o services [] h (record { told = tt; more = λ f x. absurd (nothing f x) }) tt whole (λ f x. x) own
  where
    nothing : (f : Lived) → Contains [] f → ⊥
    nothing f x = let lt = x.1 in omega arith
