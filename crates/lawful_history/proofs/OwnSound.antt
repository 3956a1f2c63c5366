-- What the facts so far tell of a call is so.
use Rattle.std.proofs.Common.{◌≡◌, ℕ, ◌==◌, ◌&&◌, ◌||◌, Bool, true, false, cond, List, [], ◌∷◌, ◌++◌, refl, sym, ap, ◌∙◌}
use Rattle.std.proofs.Common.{Option, Some, None, subst, Contains, length}
use Rattle.std.specs.Prelude.{is_some, nat_lt, option_and_then, option_map}
use Rattle.std.specs.Str.{bytes_eq}
use Rattle.std.proofs.lemmas.Bool.{and_parts, eqb-true, ltb-true}
use Rattle.std.proofs.lemmas.List.Elements.{Contains-append_right}
use Rattle.std.proofs.lemmas.Slice.Eq.{bytes_eq-Decides}
use Rattle.report_text.specs.Told.{IsTold, NoOthers}
use Rattle.report_text.specs.Shape.{tail_of}
use Rattle.rpc_base.specs.declared.event.Event.{Event}
use Rattle.rpc_base.specs.declared.event.Event.TheVariants.{Accepted, Asked, Begun, Connected, DoneOk}
use Rattle.rpc_base.specs.declared.event.Event.TheVariants.{DoneTooSmall, Opened, PairedClient, PairedServer, Ran}
use Rattle.rpc_base.specs.declared.fact.Who.{Who}
use Rattle.rpc_base.specs.declared.fact.Who.TheVariants.{Node, Net}
use Rattle.rpc_laws.specs.AtMostOnce.{is_at}
use Rattle.rpc_laws.specs.Endpoints.{Endpoint, Lived, noted, noted_two, noted_with}
use Rattle.rpc_laws.specs.OwnAnswer.{IsAnswerTo, IsCallOf, IsClientEnd, IsServerEnd, OwnBegin, OwnEnd, OwnRun}
use Rattle.rpc_laws.specs.OwnAnswer.{OwnSize, served_by}
use Rattle.rpc_laws.specs.Service.{Serving}
use Rattle.lawful_history.specs.OwnTold.{AreTold, WhatIsToldIsOwn}
use Rattle.lawful_history.specs.Told.{Answer, answer_by, answer_event, answer_of, answer_on, answer_to, Ask, ask_by}
use Rattle.lawful_history.specs.Told.{ask_event, ask_of, asks_so, asks_this, at_end, call_by, call_event, call_of}
use Rattle.lawful_history.specs.Told.{call_on, connected_by, connected_of, has_bytes, is_call_of, is_end, is_endpoint}
use Rattle.lawful_history.specs.Told.{is_joined, is_joining, is_number, is_of, is_on, is_too_large, Joining, named}
use Rattle.lawful_history.specs.Told.{newest, NodeCall, opened_by, opened_of, paired_by, paired_of, run_of, run_on}
use Rattle.lawful_history.specs.Told.{server_by, server_of, SessionEnd}
use Rattle.lawful_history.proofs.ToldLemmas.{Stands, stands-in, told-in}

-- an endpoint by its test
pub is-endpoint : (a b : Endpoint) → is_endpoint a b ≡ true → a ≡ b
is-endpoint a b t =
    let parts = and_parts (a.node == b.node) (a.life == b.life) t in
    ap (λ (n : ℕ). record { node = n; life = a.life }) (eqb-true a.node b.node parts.0)
    ∙ ap (λ (n : ℕ). record { node = b.node; life = n }) (eqb-true a.life b.life parts.1)

-- a fact of an endpoint
pub record IsOf (n : Endpoint) (f : Lived) : Type 0 where
  pub life : f.life ≡ n.life
  pub who : f.fact.who ≡ Node n.node

-- facts by their parts
abbrev fact_of : ℕ → Who → Event → List ℕ → List ℕ → Lived
fact_of life who event first second =
    record { life = life; fact = record { who = who; event = event; first = first; second = second } }

pub fact-is : (f : Lived) (m : Endpoint) (e : Event) (x y : List ℕ) → IsOf m f → f.fact.event ≡ e
    → f.fact.first ≡ x → f.fact.second ≡ y → f ≡ noted_two m e x y
fact-is f m e x y a b c d =
    let whole : fact_of f.life f.fact.who f.fact.event f.fact.first f.fact.second
    ≡ fact_of m.life (Node m.node) e x y =
    rw (a.life, a.who, b, c, d) refl in whole

pub told-at : (past : List Lived) (f : Lived) → AreTold past → Stands past f → IsTold f.fact
told-at past f a s = by s.later (subst (λ (z : List Lived). AreTold z) s.parts a)
  where
    by : (later : List Lived) → AreTold (later ++ f ∷ s.earlier) → IsTold f.fact
    by [] a = a.0
    by (g ∷ later) a = by later a.1

pub cond-some : {A : Type 0} (b : Bool) (o : Option A) (a : A) → cond b o None ≡ Some a → (b ≡ true) × (o ≡ Some a)
cond-some true o a e = (refl, e)
cond-some false o a e = cc

at-who : (n : ℕ) (who : Who) → is_at n who ≡ true → who ≡ Node n
at-who n (Node m) e = ap Node (eqb-true m n e)
at-who n Net e = cc

pub of-endpoint : (n : Endpoint) (f : Lived) → is_of n f ≡ true → IsOf n f
of-endpoint n f t =
    let parts = and_parts (is_at n.node f.fact.who) (f.life == n.life) t in
    record { life = eqb-true f.life n.life parts.1; who = at-who n.node f.fact.who parts.0 }

-- a plain event
pub plain-of : (f : Lived) (m : Endpoint) (e : Event) → IsOf m f → f.fact.event ≡ e
    → ((first second : List ℕ) → NoOthers (tail_of e) first second → (first ≡ []) × (second ≡ []))
    → IsTold f.fact → f ≡ noted m e
plain-of f m e of event none t =
    let bare = none f.fact.first f.fact.second
    (subst (λ (z : Event). NoOthers (tail_of z) f.fact.first f.fact.second) event t) in
    fact-is f m e [] [] of event bare.0 bare.1

-- which event tells, where one does
pub record FromEnd {A : Type 0} (past : List Lived) (n : Endpoint) (by : Event → Option A) (a : A) : Type 0 where
  pub fact : Lived
  pub at : Stands past fact
  pub of : IsOf n fact
  pub tells : by fact.fact.event ≡ Some a

pub from-end : {A : Type 0} (past : List Lived) (n : Endpoint) (by : Event → Option A) (a : A)
    → newest (at_end n by) past ≡ Some a → FromEnd past n by a
from-end past n by a e =
    let t = told-in (at_end n by) past a e in
    let parts = cond-some (is_of n t.fact) (by t.fact.fact.event) a t.tells in
    record { fact = t.fact; at = t.at; of = of-endpoint n t.fact parts.0; tells = parts.1 }

-- server ends
data ServerEvent (t : ℕ) (e : Event) (c : SessionEnd) : Type 0 where
  pairs : (credits : ℕ) → e ≡ PairedServer t c.at.node c.session credits c.at.life → ServerEvent t e c
  accepts : (credits : ℕ) → e ≡ Accepted t c.at.node c.session credits c.at.life → ServerEvent t e c

record NamedAs (p w c : ℕ) (o : SessionEnd) : Type 0 where
  node : p ≡ o.at.node
  life : w ≡ o.at.life
  session : c ≡ o.session

named-is : (p w c : ℕ) (o : SessionEnd) → ◌≡◌ {A = Option SessionEnd} (Some (named p w c)) (Some o)
    → NamedAs p w c o
named-is p w c o e =
    let same : named p w c ≡ o = cc in
    record {
      node = ap (λ (z : SessionEnd). z.at.node) same;
      life = ap (λ (z : SessionEnd). z.at.life) same;
      session = ap (λ (z : SessionEnd). z.session) same;
    }

server-event : (t : ℕ) (e : Event) (c : SessionEnd) → server_by t e ≡ Some c → ServerEvent t e c
server-event t (PairedServer session peer client credits life) c e =
    let p = cond-some (session == t) (Some (named peer life client)) c e in
    let n = named-is peer life client c p.1 in
    pairs credits (rw (eqb-true session t p.0, n.node, n.session, n.life) refl)
server-event t (Accepted session peer client credits life) c e =
    let p = cond-some (session == t) (Some (named peer life client)) c e in
    let n = named-is peer life client c p.1 in
    accepts credits (rw (eqb-true session t p.0, n.node, n.session, n.life) refl)
server-event t _ c e = cc

pub server-told : (past : List Lived) (m : Endpoint) (t : ℕ) (c : SessionEnd) → AreTold past
    → server_of m t past ≡ Some c → IsServerEnd past c.at c.session m t
server-told past m t c all e =
    let f = from-end past m (server_by t) c e in
    by f.fact f.at f.of (server-event t f.fact.fact.event c f.tells)
  where
    by : (f : Lived) → Stands past f → IsOf m f → ServerEvent t f.fact.event c
        → IsServerEnd past c.at c.session m t
    by f at of (pairs credits is) =
        let same = plain-of f m _ of is (λ x y h. h) (told-at past f all at) in
        IsServerEnd.paired credits (subst (λ (z : Lived). Contains past z) same (stands-in past f at))
    by f at of (accepts credits is) =
        let same = plain-of f m _ of is (λ x y h. h) (told-at past f all at) in
        IsServerEnd.accepted credits (subst (λ (z : Lived). Contains past z) same (stands-in past f at))

-- client ends
record IsPairing (s : ℕ) (e : Event) (p : SessionEnd) : Type 0 where
  credits : ℕ
  is : e ≡ PairedClient s p.at.node p.session credits p.at.life

pairing : (s : ℕ) (e : Event) (p : SessionEnd) → paired_by s e ≡ Some p → IsPairing s e p
pairing s (PairedClient session peer other credits life) p e =
    let parts = cond-some (session == s) (Some (named peer life other)) p e in
    let n = named-is peer life other p parts.1 in
    record { credits = credits; is = rw (eqb-true session s parts.0, n.node, n.session, n.life) refl }
pairing s _ p e = cc

pub paired-told : (past : List Lived) (n : Endpoint) (s : ℕ) (p : SessionEnd) → AreTold past
    → paired_of n s past ≡ Some p → IsClientEnd past n s p.at p.session
paired-told past n s p all e =
    let f = from-end past n (paired_by s) p e in
    let is = pairing s f.fact.fact.event p f.tells in
    let same = plain-of f.fact n _ f.of is.is (λ x y h. h) (told-at past f.fact all f.at) in
    IsClientEnd.paired is.credits (subst (λ (z : Lived). Contains past z) same (stands-in past f.fact f.at))

record IsOpening (s : ℕ) (e : Event) (m : ℕ) : Type 0 where
  credits : ℕ
  is : e ≡ Opened s m credits

opening : (s : ℕ) (e : Event) (m : ℕ) → opened_by s e ≡ Some m → IsOpening s e m
opening s (Opened session peer credits) m e =
    let parts = cond-some (session == s) (Some peer) m e in
    let same : peer ≡ m = cc in
    record { credits = credits; is = rw (eqb-true session s parts.0, same) refl }
opening s _ m e = cc

connecting : (s : ℕ) (e : Event) (j : Joining) → connected_by s e ≡ Some j → e ≡ Connected s j.session j.life
connecting s (Connected session other life) j e =
    let whole : Joining = record { session = other; life = life } in
    let parts = cond-some (session == s) (Some whole) j e in
    let same : whole ≡ j = cc in
    rw (eqb-true session s parts.0, ← same) refl
connecting s _ j e = cc

-- that fact stands there
pub record OpenedIn (past : List Lived) (n : Endpoint) (s m : ℕ) : Type 0 where
  pub credits : ℕ
  pub stands : Contains past (noted n (Opened s m credits))

pub opened-in : (past : List Lived) (n : Endpoint) (s m : ℕ) → AreTold past → opened_of n s past ≡ Some m
    → OpenedIn past n s m
opened-in past n s m all e =
    let a = from-end past n (opened_by s) m e in
    let is = opening s a.fact.fact.event m a.tells in
    let one = plain-of a.fact n _ a.of is.is (λ x y h. h) (told-at past a.fact all a.at) in
    record {
      credits = is.credits;
      stands = subst (λ (z : Lived). Contains past z) one (stands-in past a.fact a.at);
    }

pub connected-in : (past : List Lived) (n : Endpoint) (s : ℕ) (j : Joining) → AreTold past
    → connected_of n s past ≡ Some j → Contains past (noted n (Connected s j.session j.life))
connected-in past n s j all e =
    let b = from-end past n (connected_by s) j e in
    let two = plain-of b.fact n _ b.of (connecting s b.fact.fact.event j b.tells) (λ x y h. h)
    (told-at past b.fact all b.at) in
    subst (λ (z : Lived). Contains past z) two (stands-in past b.fact b.at)

pub opened-told : (past : List Lived) (n : Endpoint) (s : ℕ) (m : Endpoint) (t : ℕ) → AreTold past
    → opened_of n s past ≡ Some m.node → connected_of n s past ≡ Some (record { session = t; life = m.life })
    → IsClientEnd past n s m t
opened-told past n s m t all e g =
    let o = opened-in past n s m.node all e in
    IsClientEnd.connected o.credits o.stands (connected-in past n s (record { session = t; life = m.life }) all g)

number-is : (k : ℕ) (o : Option ℕ) → is_number k o ≡ true → o ≡ Some k
number-is k None e = cc
number-is k (Some n) e = ap Some (eqb-true n k e)

joining-is : (t life : ℕ) (o : Option Joining) → is_joining t life o ≡ true
    → o ≡ Some (record { session = t; life = life })
joining-is t life None e = cc
joining-is t life (Some j) e =
    let parts = and_parts (j.session == t) (j.life == life) e in
    ap (λ (k : ℕ). Some (record { session = k; life = j.life })) (eqb-true j.session t parts.0)
    ∙ ap (λ (k : ℕ). Some (record { session = t; life = k })) (eqb-true j.life life parts.1)

joined-by : (past : List Lived) (n : Endpoint) (s : ℕ) (m : Endpoint) (t : ℕ) (o : Option SessionEnd) (b : Bool)
    → AreTold past → paired_of n s past ≡ o → (b ≡ true → IsClientEnd past n s m t)
    → (is_end m t o || b) ≡ true → IsClientEnd past n s m t
joined-by past n s m t None b all e other h = other h
joined-by past n s m t (Some p) b all e other h = at (is_endpoint p.at m && p.session == t) refl h
  where
    at : (c : Bool) → (is_endpoint p.at m && p.session == t) ≡ c → (c || b) ≡ true → IsClientEnd past n s m t
    at true is h =
        let parts = and_parts (is_endpoint p.at m) (p.session == t) is in
        let end = paired-told past n s p all e in
        rw (← (is-endpoint p.at m parts.0), ← (eqb-true p.session t parts.1)) end
    at false is h = other h

pub joined-told : (past : List Lived) (n : Endpoint) (s : ℕ) (m : Endpoint) (t : ℕ) → AreTold past
    → is_joined n s m t past ≡ true → IsClientEnd past n s m t
joined-told past n s m t all e =
    joined-by past n s m t (paired_of n s past)
    (is_number m.node (opened_of n s past) && is_joining t m.life (connected_of n s past)) all refl
    (λ b. let parts = and_parts (is_number m.node (opened_of n s past))
    (is_joining t m.life (connected_of n s past)) b in
    opened-told past n s m t all (number-is m.node _ parts.0) (joining-is t m.life _ parts.1)) e

-- what a call asks
ask-is : (c : ℕ) (e : Event) (bytes : List ℕ) (a : Ask) → ask_event c e bytes ≡ Some a
    → (e ≡ Asked c a.session a.req_type a.room) × (bytes ≡ a.bytes)
ask-is c (Asked call session req_type room) bytes a e =
    let whole : Ask = record { session = session; req_type = req_type; room = room; bytes = bytes } in
    let parts = cond-some (call == c) (Some whole) a e in
    let same : whole ≡ a = cc in
    (rw (eqb-true call c parts.0, ← same) refl, ap (λ (z : Ask). z.bytes) same)
ask-is c _ bytes a e = cc

pub ask-told : (past : List Lived) (n : Endpoint) (c : ℕ) (a : Ask) → AreTold past → ask_of n c past ≡ Some a
    → Contains past (noted_with n (Asked c a.session a.req_type a.room) a.bytes)
ask-told past n c a all e =
    let t = told-in (ask_by n c) past a e in
    let parts = cond-some (is_of n t.fact) (ask_event c t.fact.fact.event t.fact.fact.first) a t.tells in
    let is = ask-is c t.fact.fact.event t.fact.fact.first a parts.1 in
    let bare : t.fact.fact.second ≡ [] =
    subst (λ (z : Event). NoOthers (tail_of z) t.fact.fact.first t.fact.fact.second) is.0
    (told-at past t.fact all t.at) in
    subst (λ (z : Lived). Contains past z)
    (fact-is t.fact n _ a.bytes [] (of-endpoint n t.fact parts.0) is.0 is.1 bare) (stands-in past t.fact t.at)

-- which call began as a request
pub record BegunAs (n : Endpoint) (s r : ℕ) (past : List Lived) (e : Event) (c : ℕ) : Type 0 where
  pub is : e ≡ Begun c r
  pub on : is_on s (ask_of n c past) ≡ true

begun-is : (n : Endpoint) (s r : ℕ) (past : List Lived) (e : Event) (c : ℕ) → call_event n s r past e ≡ Some c
    → BegunAs n s r past e c
begun-is n s r past (Begun call request) c e =
    let parts = cond-some (request == r && is_on s (ask_of n call past)) (Some call) c e in
    let both = and_parts (request == r) (is_on s (ask_of n call past)) parts.0 in
    let same : call ≡ c = cc in
    record {
      is = rw (eqb-true request r both.0, same) refl;
      on = subst (λ (k : ℕ). is_on s (ask_of n k past) ≡ true) same both.1;
    }
begun-is n s r past _ c e = cc

-- it began, and it was asked on that session before
pub record BeganIn (past : List Lived) (n : Endpoint) (s r c : ℕ) : Type 0 where
  pub begun : Contains past (noted n (Begun c r))
  pub ask : Ask
  pub asked : Contains past (noted_with n (Asked c s ask.req_type ask.room) ask.bytes)

on-ask : (past : List Lived) (n : Endpoint) (c s : ℕ) (o : Option Ask) → ask_of n c past ≡ o → is_on s o ≡ true
    → (a : Ask) × (ask_of n c past ≡ Some a) × (a.session ≡ s)
on-ask past n c s None is e = cc
on-ask past n c s (Some a) is e = (a, is, eqb-true a.session s e)

pub all-earlier : (later earlier : List Lived) (f : Lived) → AreTold (later ++ f ∷ earlier) → AreTold earlier
all-earlier [] earlier f a = a.1
all-earlier (g ∷ later) earlier f a = all-earlier later earlier f a.1

pub earlier-in : (past : List Lived) (f g : Lived) (s : Stands past f) → Contains s.earlier g → Contains past g
earlier-in past f g s h =
    subst (λ (z : List Lived). Contains z g) (sym s.parts)
    (Contains-append_right s.later (f ∷ s.earlier) g (Contains-append_right (f ∷ []) s.earlier g h))

pub began-told : (past : List Lived) (n : Endpoint) (s r c : ℕ) → AreTold past → call_of n s r past ≡ Some c
    → BeganIn past n s r c
began-told past n s r c all e =
    let t = told-in (call_by n s r) past c e in
    let told = all-earlier t.at.later t.at.earlier t.fact (subst (λ (z : List Lived). AreTold z) t.at.parts all) in
    let parts = cond-some (is_of n t.fact) (call_event n s r t.at.earlier t.fact.fact.event) c t.tells in
    let is = begun-is n s r t.at.earlier t.fact.fact.event c parts.1 in
    let same = plain-of t.fact n _ (of-endpoint n t.fact parts.0) is.is (λ x y h. h)
    (told-at past t.fact all t.at) in
    let on = on-ask t.at.earlier n c s (ask_of n c t.at.earlier) refl is.on in
    let asked = ask-told t.at.earlier n c on.0 told on.1 in
    record {
      begun = subst (λ (z : Lived). Contains past z) same (stands-in past t.fact t.at);
      ask = on.0;
      asked = earlier-in past t.fact _ t.at (subst (λ (i : ℕ). Contains t.at.earlier
          (noted_with n (Asked c i on.0.req_type on.0.room) on.0.bytes)) on.2 asked);
    }

pub begun-told : (past : List Lived) (n : Endpoint) (s r c : ℕ) → AreTold past → call_of n s r past ≡ Some c
    → Contains past (noted n (Begun c r))
begun-told past n s r c all e = (began-told past n s r c all e).begun

-- which call a request is
pub record RunTold (past : List Lived) (m : Endpoint) (t r : ℕ) (k : NodeCall) : Type 0 where
  pub server : IsServerEnd past k.at k.session m t
  pub client : IsClientEnd past k.at k.session m t
  pub begun : Contains past (noted k.at (Begun k.call r))

call-on : (c : SessionEnd) (o : Option ℕ) (k : NodeCall) → call_on c o ≡ Some k
    → (k.at ≡ c.at) × (k.session ≡ c.session) × (o ≡ Some k.call)
call-on c None k e = cc
call-on c (Some call) k e =
    let whole : NodeCall = record { at = c.at; session = c.session; call = call } in
    let same : whole ≡ k = cc in (
      ap (λ (z : NodeCall). z.at) (sym same),
      ap (λ (z : NodeCall). z.session) (sym same),
      ap (λ (z : NodeCall). Some z.call) same,
    )

run-by : (past : List Lived) (m : Endpoint) (t r : ℕ) (o : Option SessionEnd) (k : NodeCall) → AreTold past
    → server_of m t past ≡ o → option_and_then (run_on m t r past) o ≡ Some k → RunTold past m t r k
run-by past m t r None k all is e = cc
run-by past m t r (Some c) k all is e =
    let parts = cond-some (is_joined c.at c.session m t past) (call_on c (call_of c.at c.session r past)) k e in
    let on = call-on c (call_of c.at c.session r past) k parts.1 in
    record {
      server = rw (on.0, on.1) (server-told past m t c all is);
      client = rw (on.0, on.1) (joined-told past c.at c.session m t all parts.0);
      begun = rw (on.0) (begun-told past c.at c.session r k.call all on.2);
    }

pub run-told : (past : List Lived) (m : Endpoint) (t r : ℕ) (k : NodeCall) → AreTold past → run_of m t r past ≡ Some k
    → RunTold past m t r k
run-told past m t r k all e = run-by past m t r (server_of m t past) k all refl e

-- a Ran on its call's own type and bytes
record AsksThis (session req_type : ℕ) (bytes : List ℕ) (a : Ask) : Type 0 where
  session_is : a.session ≡ session
  type_is : a.req_type ≡ req_type
  bytes_are : a.bytes ≡ bytes

asks-this : (session req_type : ℕ) (bytes : List ℕ) (a : Ask)
    → asks_this session req_type bytes (Some a) ≡ true → AsksThis session req_type bytes a
asks-this session req_type bytes a e =
    let one = and_parts (a.session == session && a.req_type == req_type) (bytes_eq a.bytes bytes) e in
    let two = and_parts (a.session == session) (a.req_type == req_type) one.0 in
    record {
      session_is = eqb-true a.session session two.0;
      type_is = eqb-true a.req_type req_type two.1;
      bytes_are = (bytes_eq-Decides a.bytes bytes).0 one.1;
    }

-- the call of a Ran, with its room
pub record CallTold (past : List Lived) (m : Endpoint) (t r req_type : ℕ) (bytes : List ℕ) (k : NodeCall) (a : Ask)
    : Type 0 where
  pub is : ask_of k.at k.call past ≡ Some a
  pub own : IsCallOf past k.at k.call m t r req_type a.room bytes

asks-by : (past : List Lived) (m : Endpoint) (t r req_type : ℕ) (bytes : List ℕ) (k : NodeCall) (o : Option Ask)
    → AreTold past → RunTold past m t r k → ask_of k.at k.call past ≡ o
    → asks_this k.session req_type bytes o ≡ true → (a : Ask) × CallTold past m t r req_type bytes k a
asks-by past m t r req_type bytes k None all run is e = cc
asks-by past m t r req_type bytes k (Some a) all run is e =
    let b = asks-this k.session req_type bytes a e in
    let asked = ask-told past k.at k.call a all is in (
      a,
      record {
        is = is;
        own = record {
          session = k.session;
          ends = record { client = run.client; server = run.server };
          asked = rw (← b.session_is, ← b.type_is, ← b.bytes_are) asked;
          begun = run.begun;
        };
      },
    )

pub call-told : (past : List Lived) (m : Endpoint) (t r req_type : ℕ) (bytes : List ℕ) (k : NodeCall) → AreTold past
    → run_of m t r past ≡ Some k → asks_so req_type bytes past (Some k) ≡ true
    → (a : Ask) × CallTold past m t r req_type bytes k a
call-told past m t r req_type bytes k all e asks =
    asks-by past m t r req_type bytes k (ask_of k.at k.call past) all (run-told past m t r k all e) refl asks

-- the answer to a call
record AnswerEvent (past : List Lived) (n : Endpoint) (c life : ℕ) (who : Who) (e : Event) (first second : List ℕ)
    (w : Answer) : Type 0 where
  node : ℕ
  session : ℕ
  request : ℕ
  req_type : ℕ
  who_is : who ≡ Node node
  event_is : e ≡ Ran session request req_type
  on : answer_on n c req_type first second past
      (run_of (record { node = node; life = life }) session request past) ≡ Some w

answer-event : (past : List Lived) (n : Endpoint) (c life : ℕ) (who : Who) (e : Event) (first second : List ℕ)
    (w : Answer) → answer_event n c past life who e first second ≡ Some w
    → AnswerEvent past n c life who e first second w
answer-event past n c life (Node m) (Ran t r y) first second w e = record {
  node = m;
  session = t;
  request = r;
  req_type = y;
  who_is = refl;
  event_is = refl;
  on = e;
}
answer-event past n c life _ _ first second w e = cc

-- of which call it is
record AnswerOn (past : List Lived) (n : Endpoint) (c : ℕ) (m : Endpoint) (t r y : ℕ) (first second : List ℕ)
    (w : Answer) : Type 0 where
  bytes : w.bytes ≡ second
  own : IsCallOf past n c m t r y w.room first

room-is : (second : List ℕ) (a : Ask) (o : Option Ask) (w : Answer) → o ≡ Some a
    → option_map (answer_to second) o ≡ Some w → (a.room ≡ w.room) × (w.bytes ≡ second)
room-is second a None w e g = cc
room-is second a (Some b) w e g =
    let same : b ≡ a = cc in
    let is : answer_to second b ≡ w = cc in
    (ap (λ (z : Ask). z.room) (sym same) ∙ ap (λ (z : Answer). z.room) is, ap (λ (z : Answer). z.bytes) (sym is))

answer-on : (past : List Lived) (n : Endpoint) (c : ℕ) (m : Endpoint) (t r y : ℕ) (first second : List ℕ)
    (w : Answer) (o : Option NodeCall)
    → AreTold past → run_of m t r past ≡ o → answer_on n c y first second past o ≡ Some w
    → AnswerOn past n c m t r y first second w
answer-on past n c m t r y first second w None all run e = cc
answer-on past n c m t r y first second w (Some k) all run e =
    let parts = cond-some (is_call_of n c k && asks_so y first past (Some k))
    (option_map (answer_to second) (ask_of k.at k.call past)) w e in
    let both = and_parts (is_call_of n c k) (asks_so y first past (Some k)) parts.0 in
    let call = and_parts (is_endpoint k.at n) (k.call == c) both.0 in
    let told = call-told past m t r y first k all run both.1 in
    let room = room-is second told.0 (ask_of k.at k.call past) w told.1.is parts.1 in
    record {
      bytes = room.1;
      own = rw (← (is-endpoint k.at n call.0), ← (eqb-true k.call c call.1), ← room.0) told.1.own;
    }

pub answer-told : (past : List Lived) (n : Endpoint) (c : ℕ) (w : Answer) → AreTold past → answer_of n c past ≡ Some w
    → IsAnswerTo past n c w.room w.bytes
answer-told past n c w all e =
    let t = told-in (answer_by n c) past w e in
    let f = t.fact in
    let d = f.fact in
    let earlier = t.at.earlier in
    let told = all-earlier t.at.later earlier f (subst (λ (z : List Lived). AreTold z) t.at.parts all) in
    let a = answer-event earlier n c f.life d.who d.event d.first d.second w t.tells in
    let m : Endpoint = record { node = a.node; life = f.life } in
    let on = answer-on earlier n c m a.session a.request a.req_type d.first d.second w
    (run_of m a.session a.request earlier) told refl a.on in
    let same : f ≡ noted_two m (Ran a.session a.request a.req_type) d.first w.bytes =
    fact-is f m _ d.first w.bytes (record { life = refl; who = a.who_is }) a.event_is refl (sym on.bytes) in
    record {
      node = m;
      session = a.session;
      request = a.request;
      req_type = a.req_type;
      ask = d.first;
      later = t.at.later;
      earlier = earlier;
      ran = t.at.parts ∙ ap (λ (z : Lived). t.at.later ++ z ∷ earlier) same;
      call = on.own;
    }

-- what is told is own
own-begin : (past : List Lived) (n : Endpoint) (c : ℕ) (o : Option Ask) → AreTold past → ask_of n c past ≡ o
    → is_some o ≡ true → OwnBegin past n c
own-begin past n c None all is e = cc
own-begin past n c (Some a) all is e = record {
  session = a.session;
  req_type = a.req_type;
  room = a.room;
  ask = a.bytes;
  asked = ask-told past n c a all is;
}

own-run : (v : Serving) (past : List Lived) (m : Endpoint) (t r y : ℕ) (first second : List ℕ) (o : Option NodeCall)
    → AreTold past → run_of m t r past ≡ o → asks_so y first past o ≡ true
    → second ≡ v.answer (served_by v.mode m.node past) y first → OwnRun v past m t r y first second
own-run v past m t r y first second None all is e right = cc
own-run v past m t r y first second (Some k) all is e right =
    let told = call-told past m t r y first k all is e in
    record { node = k.at; call = k.call; room = told.0.room; own = told.1.own; right = right }

own-end : (past : List Lived) (n : Endpoint) (c : ℕ) (first : List ℕ) (o : Option Answer) → AreTold past
    → answer_of n c past ≡ o → has_bytes first o ≡ true → OwnEnd past n c first
own-end past n c first None all is e = cc
own-end past n c first (Some w) all is e =
    record { room = w.room; own = rw (← ((bytes_eq-Decides w.bytes first).0 e)) (answer-told past n c w all is) }

own-size : (past : List Lived) (n : Endpoint) (c size : ℕ) (o : Option Answer) → AreTold past
    → answer_of n c past ≡ o → is_too_large size o ≡ true → OwnSize past n c size
own-size past n c size None all is e = cc
own-size past n c size (Some w) all is e =
    let parts = and_parts (length w.bytes == size) (nat_lt w.room size) e in
    record {
      room = w.room;
      answer = w.bytes;
      own = answer-told past n c w all is;
      sized = eqb-true (length w.bytes) size parts.0;
      above = ltb-true w.room size parts.1;
    }

pub own-sound : WhatIsToldIsOwn
own-sound v past n (Begun c r) first second all e right = own-begin past n c (ask_of n c past) all refl e
own-sound v past n (Ran t r y) first second all e right =
    own-run v past n t r y first second (run_of n t r past) all refl e right
own-sound v past n (DoneOk c) first second all e right = own-end past n c first (answer_of n c past) all refl e
own-sound v past n (DoneTooSmall c size) first second all e right =
    own-size past n c size (answer_of n c past) all refl e
own-sound v past n _ first second all e right = tt
