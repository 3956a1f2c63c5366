-- The places of a call's facts: a call begins behind its Asked, and its handler runs behind its
-- Begun.
use Rattle.std.proofs.Common.{◌≡◌, ◌<◌, ◌+◌, ℕ, zero, suc, List, [], ◌∷◌, ◌++◌, length, Some, slice_get}
use Rattle.std.proofs.Common.{refl, sym, ap, ◌∙◌, subst, arith, Contains}
use Rattle.std.specs.Prelude.{slice_index_or}
use Rattle.std.proofs.lemmas.List.Elements.{Contains-append_right}
use Rattle.node_laws.specs.UsedOnce.{UsedOnce}
use Rattle.rpc_base.specs.declared.event.Event.{Event}
use Rattle.rpc_base.specs.declared.event.Event.TheVariants.{Asked, Begun, Ran, DoneOk, DoneTooSmall}
use Rattle.rpc_base.specs.declared.fact.Fact.{Fact}
use Rattle.rpc_base.specs.declared.fact.Who.{Who}
use Rattle.rpc_base.specs.declared.fact.Who.TheVariants.{Node, Net}
use Rattle.rpc_laws.specs.AtMostOnce.{Once}
use Rattle.rpc_laws.specs.Endpoints.{EachLife, Endpoint, life_at, life_by, Lived, lived, lived_from, noted}
use Rattle.rpc_laws.specs.Endpoints.{noted_two, noted_with, present, told}
use Rattle.rpc_laws.specs.OwnAnswer.{AtEach, IsAnswerTo, OwnAt, OwnBegin, OwnBy}
use Rattle.rpc_laws.specs.Service.{Serving, plain_serving}
use Rattle.world_laws.proofs.NodeLaws.{happens-once}
use Rattle.world_laws.proofs.OneCallLaws.{client-more, numbers-once, one-asked, own-answers, server-more}
use Rattle.world_laws.specs.CallOrder.{IsInOrder, OrderAt, CallsInOrder}
use Rattle.world_laws.specs.Laws.{CallsAreInOrder}

module _ {A : Type 0} where
  got-in : (xs : List A) (i : ℕ) (x : A) → slice_get xs i ≡ Some x → Contains xs x
  got-in [] i x e = cc
  got-in (y ∷ ys) zero x e = let same : y ≡ x = cc in (0, omega arith, same)
  got-in (y ∷ ys) (suc i) x e = Contains-append_right (y ∷ []) ys x (got-in ys i x e)

module _ (h : List Lived) where
  -- the facts so far, the newest first: each stands in the history behind those before it
  abbrev IsPast : List Lived → Type 0
  IsPast [] = Unit {0}
  IsPast (f ∷ past) = (slice_get h (length past) ≡ Some f) × IsPast past

  abbrev Place : List Lived → Lived → Type 0
  Place past f = (i : ℕ) × (i < length past) × (slice_get h i ≡ Some f)

  place-at : (past : List Lived) (f : Lived) (i : ℕ) → IsPast past → i < length past
      → slice_index_or past i f ≡ f → Place past f
  place-at [] f i p lt e = absurd (omega arith)
  place-at (g ∷ past) f zero p lt e = (length past, omega arith, p.0 ∙ ap Some e)
  place-at (g ∷ past) f (suc i) p lt e =
      let k = place-at past f i p.1 (omega arith) e in (k.0, let less = k.1 in omega arith, k.2)

  place-of : (past : List Lived) (f : Lived) → IsPast past → Contains past f → Place past f
  place-of past f p is = place-at past f is.0 p is.1 is.2

  in-history : (past : List Lived) → IsPast past → (f : Lived) → Contains past f → Contains h f
  in-history past p f is = let k = place-of past f p is in got-in h k.0 f k.2

  drop-later : (later : List Lived) (f : Lived) (earlier : List Lived) → IsPast (later ++ f ∷ earlier)
      → IsPast (f ∷ earlier) × (length earlier < length (later ++ f ∷ earlier))
  drop-later [] f earlier p = (p, omega arith)
  drop-later (g ∷ later) f earlier p =
      let k = drop-later later f earlier p.1 in (k.0, let less = k.1 in omega arith)

  -- what is claimed of each fact is so at a place
  record At (P : List Lived → Fact → Type 0) (f : Lived) (place : ℕ) : Type 0 where
    past : List Lived
    stands : IsPast past
    size : length past ≡ place
    is : told past f.fact ≡ f
    claim : P past f.fact

  at-from : (P : List Lived → Fact → Type 0) (past : List Lived) (g : List Fact) → IsPast past
      → ((j : ℕ) (f : Lived) → slice_get (lived_from past g) j ≡ Some f → slice_get h (length past + j) ≡ Some f)
      → AtEach P past g → (j : ℕ) (f : Lived) → slice_get (lived_from past g) j ≡ Some f
      → At P f (length past + j)
  at-from P past [] p rest each j f is = cc
  at-from P past (x ∷ g) p rest each zero f is =
      let same : told past x ≡ f = cc in
      record {
        past = past;
        stands = p;
        size = omega arith;
        is = subst (λ (d : Lived). told past d.fact ≡ d) same refl;
        claim = subst (λ (d : Lived). P past d.fact) same each.0;
      }
  at-from P past (x ∷ g) p rest each (suc j) f is =
      let none : length past + 0 ≡ length past = omega arith in
      let here : slice_get h (length past) ≡ Some (told past x) =
      subst (λ (n : ℕ). slice_get h n ≡ Some (told past x)) none (rest 0 (told past x) refl) in
      let next = at-from P (told past x ∷ past) g (here, p) (λ i y e. shifted past x g rest i y e) each.1 j f is in
      let size : length next.past ≡ length (told past x ∷ past) + j = next.size in
      record { past = next.past; stands = next.stands; size = omega arith; is = next.is; claim = next.claim }
    where
      shifted : (past : List Lived) (x : Fact) (g : List Fact)
          → ((j : ℕ) (f : Lived) → slice_get (lived_from past (x ∷ g)) j ≡ Some f → slice_get h (length past + j) ≡ Some f)
          → (i : ℕ) (y : Lived) → slice_get (lived_from (told past x ∷ past) g) i ≡ Some y
          → slice_get h (length (told past x ∷ past) + i) ≡ Some y
      shifted past x g rest i y e =
          let more : length past + suc i ≡ length (told past x ∷ past) + i = omega arith in
          subst (λ (n : ℕ). slice_get h n ≡ Some y) more (rest (suc i) y e)

-- of a whole history
at-place : (g : List Fact) (P : List Lived → Fact → Type 0) → AtEach P [] g → (i : ℕ) (f : Lived)
    → slice_get (lived g) i ≡ Some f → At (lived g) P f i
at-place g P each i f is =
    let all = at-from (lived g) P [] g tt shifted each i f is in
    let size : length all.past ≡ 0 + i = all.size in
    record { past = all.past; stands = all.stands; size = omega arith; is = all.is; claim = all.claim }
  where
    shifted : (j : ℕ) (y : Lived) → slice_get (lived g) j ≡ Some y → slice_get (lived g) (0 + j) ≡ Some y
    shifted j y e = let same : j ≡ 0 + j = omega arith in subst (λ (n : ℕ). slice_get (lived g) n ≡ Some y) same e

module _ (v : ℕ → Serving) (h : List Fact) (u : EachLife UsedOnce h) (o : EachLife Once h) (own : OwnBy v h) where
  abbrev all : List Lived
  all = lived h

  abbrev Claim : List Lived → Fact → Type 0
  Claim past f = OwnAt v past f.who f.event f.first f.second

  -- the call that begins, with the endpoint that it has
  begun-own : (past : List Lived) (n : Endpoint) (c r : ℕ) → told past (noted n (Begun c r)).fact ≡ noted n (Begun c r)
      → Claim past (noted n (Begun c r)).fact → OwnBegin past n c
  begun-own past n c r is claim =
      let life : life_by n.node past ≡ n.life = ap (λ (x : Lived). x.life) is in
      let here : present n.node past ≡ n = ap (λ (k : ℕ). record { node = n.node; life = k }) life in
      subst (λ (z : Endpoint). OwnBegin past z c) here claim

  -- a call that ends: its handler ran for a call that was asked before it began
  in-order : (past : List Lived) (n : Endpoint) (c room : ℕ) (answer : List ℕ) → IsPast all past
      → IsAnswerTo past n c room answer → IsInOrder all n c answer (length past)
  in-order past n c room answer p a =
      let ran : Lived = noted_two a.node (Ran a.session a.request a.req_type) a.ask answer in
      let stand : IsPast all (a.later ++ ran ∷ a.earlier) = subst (IsPast all) a.ran p in
      let cut = drop-later all a.later ran a.earlier stand in
      let early = cut.0.1 in
      let before : length a.earlier < length past =
      subst (λ (x : List Lived). length a.earlier < length x) (sym a.ran) cut.1 in
      let call = a.call in
      let asked : Lived = noted_with n (Asked c call.session a.req_type room) a.ask in
      let begun = place-of all a.earlier (noted n (Begun c a.request)) early call.begun in
      let at = at-place h Claim own begun.0 (noted n (Begun c a.request)) begun.2 in
      let began = begun-own at.past n c a.request at.is at.claim in
      let first : Lived = noted_with n (Asked c began.session began.req_type began.room) began.ask in
      let place = place-of all at.past first at.stands began.asked in
      let same : first ≡ asked = one-asked h u o n c began.session call.session began.req_type
      a.req_type began.room room began.ask a.ask (got-in all place.0 first place.2)
      (in-history all a.earlier early asked call.asked) in
      record {
        session = call.session;
        node = a.node;
        other = a.session;
        request = a.request;
        req_type = a.req_type;
        room = room;
        ask = a.ask;
        ends = record {
          client = client-more a.earlier all (in-history all a.earlier early) n call.session a.node
              a.session call.ends.client;
          server = server-more a.earlier all (in-history all a.earlier early) n call.session a.node
              a.session call.ends.server;
        };
        asked = place.0;
        begun = begun.0;
        ran = length a.earlier;
        is_asked = place.2 ∙ ap Some same;
        is_begun = begun.2;
        is_ran = cut.0.0;
        asked_first = let less = place.1 in let size = at.size in omega arith;
        begun_next = begun.1;
        done_last = before;
      }

  order-event : (past : List Lived) (who : Who) (e : Event) (first second : List ℕ) → IsPast all past
      → OwnAt v past who e first second → OrderAt all (length past) (life_at who past) who e first
  order-event past (Node n) (DoneOk c) first second p o =
      in-order past (present n past) c o.room first p o.own
  order-event past (Node n) (DoneTooSmall c size) first second p o =
      record {
        answer = o.answer;
        sized = o.sized;
        order = in-order past (present n past) c o.room o.answer p o.own;
      }
  order-event past (Node n) _ first second p o = tt
  order-event past Net e first second p o = tt

  pub calls-in-order : CallsInOrder h
  calls-in-order done f is =
      let at = at-place h Claim own done f is in
      let here = order-event at.past f.fact.who f.fact.event f.fact.first f.fact.second at.stands at.claim in
      let lives : OrderAt all (length at.past) f.life f.fact.who f.fact.event f.fact.first =
      subst (λ (k : ℕ). OrderAt all (length at.past) k f.fact.who f.fact.event f.fact.first)
      (ap (λ (x : Lived). x.life) at.is) here in
      subst (λ (n : ℕ). OrderAt all n f.life f.fact.who f.fact.event f.fact.first) at.size lives

pub script-in-order : CallsAreInOrder
script-in-order script h two few f =
    calls-in-order (λ n. plain_serving) h (numbers-once script h two few f)
    (happens-once script h two few f)
    (own-answers script h two f)
