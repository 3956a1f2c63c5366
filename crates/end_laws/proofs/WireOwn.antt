-- What is claimed of each call in a joint run is so where facts of its network are left out.
use Rattle.std.proofs.Common.{◌≡◌, ◌<◌, ℕ, zero, suc, cond, List, [], ◌∷◌, ◌++◌, length, refl, sym, ap, ◌∙◌, subst, arith}
use Rattle.std.proofs.Common.{Contains}
use Rattle.std.specs.Prelude.{slice_index_or}
use Rattle.end_laws.proofs.JointOwn.{joint-own}
use Rattle.end_laws.proofs.Known.{contains-here, contains-more}
use Rattle.end_laws.proofs.WireJoins.{Without, joined-run, steps-join}
use Rattle.end_laws.proofs.WireJoins as wires
use Rattle.end_laws.specs.JointRun.{services}
use Rattle.end_laws.specs.WireRun.{WireAnswersOwn}
use Rattle.rpc_base.specs.declared.event.Event.{Event}
use Rattle.rpc_base.specs.declared.event.Event.TheVariants.{Begun, Ran, DoneOk, DoneTooSmall}
use Rattle.rpc_base.specs.declared.fact.Fact.{Fact}
use Rattle.rpc_base.specs.declared.fact.Who.{Who}
use Rattle.rpc_base.specs.declared.fact.Who.TheVariants.{Node, Net}
use Rattle.rpc_outside.specs.declared.service.Mode.{Mode}
use Rattle.rpc_laws.specs.Endpoints.{Endpoint, Lived, life_after, life_at, life_by, noted_two, present, told}
use Rattle.rpc_laws.specs.Facts.{of_net}
use Rattle.rpc_laws.specs.AtMostOnce.{is_at}
use Rattle.rpc_laws.specs.OwnAnswer.{IsClientEnd, IsServerEnd, IsCallOf, IsAnswerTo, OwnEvent}
use Rattle.rpc_laws.specs.OwnAnswer.{OwnAt, AtEach, served_by, served_with}
use Rattle.rpc_laws.specs.Service.{Serving}

-- facts with their lives, without some of the network
data LivedWithout : List Lived → List Lived → Type 0 where
  none_left : LivedWithout [] []
  kept : {h : List Lived} {g : List Lived} (f : Lived) → LivedWithout h g → LivedWithout (f ∷ h) (f ∷ g)
  left_out : {h : List Lived} {g : List Lived} (e : Event) → LivedWithout h g
      → LivedWithout (record { life = 0; fact = of_net e } ∷ h) g

-- a node's fact stays
stays-at : {h : List Lived} {g : List Lived} (n : ℕ) (f : Lived) → f.fact.who ≡ Node n → LivedWithout h g
    → (i : ℕ) → i < length h → slice_index_or h i f ≡ f → Contains g f
stays-at n f who none_left i lt e = absurd (omega arith)
stays-at n f who (kept {g = g} x w) zero lt e = rw e (contains-here f g)
stays-at n f who (kept {g = g} x w) (suc i) lt e =
    contains-more x f g (stays-at n f who w i (omega arith) e)
stays-at n f who (left_out x w) zero lt e =
    let net : f.fact.who ≡ Net = ap (λ (y : Lived). y.fact.who) (sym e) in absurd (cc)
stays-at n f who (left_out x w) (suc i) lt e = stays-at n f who w i (omega arith) e

stays : (h g : List Lived) → LivedWithout h g → (n : ℕ) (f : Lived) → f.fact.who ≡ Node n → Contains h f → Contains g f
stays h g w n f who is = stays-at n f who w is.0 is.1 is.2

-- what a node served by them is the same, and so is its life
served-without : {h : List Lived} {g : List Lived} (mode : ℕ → Mode) (n : ℕ) → LivedWithout h g
    → served_by mode n h ≡ served_by mode n g
served-without mode n none_left = refl
served-without mode n (kept f w) =
    ap (λ s. cond (is_at n f.fact.who) (served_with mode f.fact.event f.fact.first s) s) (served-without mode n w)
served-without mode n (left_out e w) = served-without mode n w

life-without : {h : List Lived} {g : List Lived} (n : ℕ) → LivedWithout h g → life_by n h ≡ life_by n g
life-without n none_left = refl
life-without n (kept f w) = ap (life_after n f.fact) (life-without n w)
life-without n (left_out e w) = life-without n w

told-without : (past left : List Lived) → LivedWithout past left → (f : Fact) → told past f ≡ told left f
told-without past left w f = ap (λ (life : ℕ). record { life = life; fact = f }) (by f.who)
  where
    by : (who : Who) → life_at who past ≡ life_at who left
    by (Node n) = life-without n w
    by Net = refl

-- where a node's fact parts a list, it parts what is left
record PartsAt (f : Lived) (earlier g : List Lived) : Type 0 where
  before : List Lived
  behind : List Lived
  stands : g ≡ before ++ f ∷ behind
  without : LivedWithout earlier behind

parts-at : {h : List Lived} {g : List Lived} (n : ℕ) (f : Lived) (earlier later : List Lived) → f.fact.who ≡ Node n
    → LivedWithout h g → h ≡ later ++ f ∷ earlier → PartsAt f earlier g
parts-at n f earlier [] who none_left e = cc
parts-at n f earlier (y ∷ later) who none_left e = cc
parts-at n f earlier [] who (kept {h = h} {g = g} x w) e =
    let first : x ≡ f = cc in
    let rest : h ≡ earlier = cc in
    record {
      before = [];
      behind = g;
      stands = ap (λ y. y ∷ g) first;
      without = subst (λ (p : List Lived). LivedWithout p g) rest w;
    }
parts-at n f earlier (y ∷ later) who (kept {h = h} x w) e =
    let rest : h ≡ later ++ f ∷ earlier = cc in
    let k = parts-at n f earlier later who w rest in
    record { before = x ∷ k.before; behind = k.behind; stands = ap (λ p. x ∷ p) k.stands; without = k.without }
parts-at n f earlier [] who (left_out x w) e =
    let gone : Lived = record { life = 0; fact = of_net x } in
    let first : gone ≡ f = cc in
    let net : f.fact.who ≡ Net = ap (λ (y : Lived). y.fact.who) (sym first) in
    absurd (cc)
parts-at n f earlier (y ∷ later) who (left_out {h = h} x w) e =
    let rest : h ≡ later ++ f ∷ earlier = cc in
    parts-at n f earlier later who w rest

module _ (past left : List Lived) (w : LivedWithout past left) where
  client-left : (n : Endpoint) (s : ℕ) (m : Endpoint) (t : ℕ) → IsClientEnd past n s m t → IsClientEnd left n s m t
  client-left n s m t (IsClientEnd.paired c x) = IsClientEnd.paired c (stays past left w n.node _ refl x)
  client-left n s m t (IsClientEnd.connected c x y) =
      IsClientEnd.connected c (stays past left w n.node _ refl x) (stays past left w n.node _ refl y)

  server-left : (n : Endpoint) (s : ℕ) (m : Endpoint) (t : ℕ) → IsServerEnd past n s m t → IsServerEnd left n s m t
  server-left n s m t (IsServerEnd.paired c x) = IsServerEnd.paired c (stays past left w m.node _ refl x)
  server-left n s m t (IsServerEnd.accepted c x) = IsServerEnd.accepted c (stays past left w m.node _ refl x)

  call-left : (n : Endpoint) (c : ℕ) (m : Endpoint) (t r y room : ℕ) (ask : List ℕ)
      → IsCallOf past n c m t r y room ask → IsCallOf left n c m t r y room ask
  call-left n c m t r y room ask a = record {
    session = a.session;
    ends = record {
      client = client-left n a.session m t a.ends.client;
      server = server-left n a.session m t a.ends.server;
    };
    asked = stays past left w n.node _ refl a.asked;
    begun = stays past left w n.node _ refl a.begun;
  }

answer-left : (past left : List Lived) → LivedWithout past left → (n : Endpoint) (c room : ℕ) (answer : List ℕ)
    → IsAnswerTo past n c room answer → IsAnswerTo left n c room answer
answer-left past left w n c room answer a =
    let ran : Lived = noted_two a.node (Ran a.session a.request a.req_type) a.ask answer in
    let k = parts-at a.node.node ran a.earlier a.later refl w a.ran in
    record {
      node = a.node;
      session = a.session;
      request = a.request;
      req_type = a.req_type;
      ask = a.ask;
      later = k.before;
      earlier = k.behind;
      ran = k.stands;
      call = call-left a.earlier k.behind k.without n c a.node a.session a.request a.req_type room a.ask a.call;
    }

event-left : (v : Serving) (past left : List Lived) → LivedWithout past left → (n : Endpoint) (e : Event)
    (first second : List ℕ) → OwnEvent v past n e first second → OwnEvent v left n e first second
event-left v past left w n (Begun c r) first second o = record {
  session = o.session;
  req_type = o.req_type;
  room = o.room;
  ask = o.ask;
  asked = stays past left w n.node _ refl o.asked;
}
event-left v past left w n (Ran t r y) first second o = record {
  node = o.node;
  call = o.call;
  room = o.room;
  own = call-left past left w o.node o.call n t r y o.room first o.own;
  right = o.right ∙ ap (λ s. v.answer s y first) (served-without v.mode n.node w);
}
event-left v past left w n (DoneOk c) first second o =
    record { room = o.room; own = answer-left past left w n c o.room first o.own }
event-left v past left w n (DoneTooSmall c size) first second o = record {
  room = o.room;
  answer = o.answer;
  own = answer-left past left w n c o.room o.answer o.own;
  sized = o.sized;
  above = o.above;
}
event-left v past left w n _ first second o = tt

module _ (v : ℕ → Serving) where
  at-left : (past left : List Lived) → LivedWithout past left → (who : Who) (e : Event) (first second : List ℕ)
      → OwnAt v past who e first second → OwnAt v left who e first second
  at-left past left w (Node n) e first second o =
      subst (λ (life : ℕ). OwnEvent (v n) left (record { node = n; life = life }) e first second)
      (life-without n w) (event-left (v n) past left w (present n past) e first second o)
  at-left past left w Net e first second o = tt

  own-left : {h : List Fact} {g : List Fact} (past left : List Lived) → LivedWithout past left → Without h g
      → AtEach (λ past f. OwnAt v past f.who f.event f.first f.second) past h
      → AtEach (λ past f. OwnAt v past f.who f.event f.first f.second) left g
  own-left past left w wires.none_left o = tt
  own-left past left w (wires.kept f k) o =
      let both : LivedWithout (told past f ∷ past) (told left f ∷ left) =
      subst (λ (x : Lived). LivedWithout (told past f ∷ past) (x ∷ left)) (told-without past left w f)
      (kept (told past f) w) in (
        at-left past left w f.who f.event f.first f.second o.0,
        own-left (told past f ∷ past) (told left f ∷ left) both k o.1,
      )
  own-left past left w (wires.left_out e k) o = own-left (told past (of_net e) ∷ past) left (left_out e w) k o.1

pub wire-own : WireAnswersOwn
wire-own parties g t run =
    let j = steps-join parties run.steps in
    own-left (services parties) [] [] none_left j.without
    (joint-own parties j.history t (joined-run parties g t run j))
