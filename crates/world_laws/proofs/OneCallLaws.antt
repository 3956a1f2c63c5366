-- A call is one request and a request is of one call, by the numbers that each endpoint uses once.
use Rattle.std.proofs.Common.{◌≡◌, ℕ, zero, suc, ◌≤◌, ◌<◌, Bool, true, false, not, ◌&&◌, cond, List, []}
use Rattle.std.proofs.Common.{◌∷◌, length, Some, slice_get, refl, sym, ap, ◌∙◌, subst, arith, Contains, eq-eqb}
use Rattle.std.specs.Prelude.{◌==◌, count_by, slice_index_or}
use Rattle.std.specs.List.{list_any}
use Rattle.std.proofs.lemmas.Bool.{eqb-true}
use Rattle.std.proofs.lemmas.List.Elements.{Contains-append_right}
use Rattle.rpc_base.proofs.FirstLemmas.{counted-cons, none-counted}
use Rattle.end_laws.proofs.AnswerLemmas.{answers-each}
use Rattle.end_laws.proofs.GoodStart.{first-good, first-right, first-valid}
use Rattle.end_laws.proofs.Known.{is_same, same-endpoint, same-here}
use Rattle.end_laws.proofs.OwnLaw.{course-own}
use Rattle.end_laws.proofs.PairLeads.{follows-course}
use Rattle.end_laws.specs.Moments.{first_moment}
use Rattle.end_laws.specs.TwoNodes.{PairsTwoNodes}
use Rattle.node_laws.proofs.UsedLaws.{used}
use Rattle.node_laws.specs.CallHistory.{asks_call}
use Rattle.node_laws.specs.EndedCalls.{asks_on, begins_as, BeganAs}
use Rattle.node_laws.specs.UsedOnce.{makes_client, joins_client, makes_server, UsedOnce}
use Rattle.rpc_base.specs.declared.event.Event.{Event}
use Rattle.rpc_base.specs.declared.event.Event.TheVariants.{Made, Asked, Begun, Opened, Ran, Restarted}
use Rattle.rpc_base.specs.declared.event.Event.TheVariants.{PairedClient, PairedServer, Accepted, Connected}
use Rattle.rpc_base.specs.declared.fact.Fact.{Fact}
use Rattle.rpc_base.specs.declared.fact.Who.{Who}
use Rattle.rpc_base.specs.declared.fact.Who.TheVariants.{Node, Net}
use Rattle.rpc_laws.specs.AtMostOnce.{is_at, begins_call, runs_request, times, Once}
use Rattle.rpc_laws.specs.Endpoints.{begins_life, EachLife, Endpoint, facts_by, facts_from, life_after}
use Rattle.rpc_laws.specs.Endpoints.{life_at, life_by, Lived, lived, lived_from, noted, noted_two}
use Rattle.rpc_laws.specs.Endpoints.{noted_with, present, told}
use Rattle.rpc_laws.specs.Facts.{plain, with_two}
use Rattle.rpc_laws.specs.Lives.{first_life}
use Rattle.rpc_laws.specs.OwnAnswer.{IsClientEnd, IsServerEnd, IsCallOf, OwnRun, OwnAt, AtEach, Own, OwnBy}
use Rattle.rpc_laws.specs.Service.{Serving, plain_serving}
use Rattle.rpc_laws.specs.UsualLimits.{with_ring}
use Rattle.script_grammar.specs.declared.line.Line.{Line}
use Rattle.sim_script.specs.FollowsScript.{Follows}
use Rattle.world_laws.proofs.LifeFacts.{of-node}
use Rattle.world_laws.proofs.NodeLaws.{happens-once, script-each}
use Rattle.world_laws.specs.Laws.{NumbersAreUsedOnce, CallsRunOnce}
use Rattle.world_laws.specs.NodeFacts.{EachRuns}
use Rattle.world_laws.specs.OneCall.{IsOneOf, RanFor, RanForSome, OneCall}

-- each node's facts
pub made-used : (n ring : ℕ) (g : List Fact) → UsedOnce g → UsedOnce (plain n (Made ring) ∷ g)
made-used n ring g u = record {
  asked = λ c. let few = u.asked c in omega (arith, counted-cons (λ (f : Fact). asks_call c f.event) (plain n (Made ring)) g false refl);
  made = λ s. let few = u.made s in omega (arith, counted-cons (λ (f : Fact). makes_client s f.event) (plain n (Made ring)) g false refl);
  joined = λ s. let few = u.joined s in omega (arith, counted-cons (λ (f : Fact). joins_client s f.event) (plain n (Made ring)) g false refl);
  served = λ t. let few = u.served t in omega (arith, counted-cons (λ (f : Fact). makes_server t f.event) (plain n (Made ring)) g false refl);
  begun = λ c d s r a b. u.begun c d s r (record { asked = a.asked; begun = a.begun })
      (record { asked = b.asked; begun = b.begun });
}

pub used-nothing : UsedOnce []
used-nothing = record {
  asked = λ c. omega arith;
  made = λ s. omega arith;
  joined = λ s. omega arith;
  served = λ t. omega arith;
  begun = λ c d s r a b. let none = a.asked in cc;
}

pub numbers-each : (h : List Fact) → EachRuns h → EachLife UsedOnce h
numbers-each h each e =
    of-node (λ ring g. UsedOnce g) (λ ring. used-nothing) e.node e.life
    (λ ring g t r. used plain_serving e.node e.life (with_ring ring) g t r)
    (λ ring g u. made-used e.node ring g u) h (each e.node)

pub numbers-once : NumbersAreUsedOnce
numbers-once script h two few f = numbers-each h (script-each script h two few f)

-- what stands in a list
module _ {A : Type 0} (p : A → Bool) where
  some-at : (xs : List A) (k : ℕ) (x : A) → k < length xs → slice_index_or xs k x ≡ x → p x ≡ true
      → 1 ≤ count_by p xs
  some-at [] k x lt e t = absurd (omega arith)
  some-at (y ∷ ys) zero x lt e t = let one = counted-cons p y ys true (ap p e ∙ t) in omega arith
  some-at (y ∷ ys) (suc k) x lt e t =
      let rest = some-at ys k x (omega arith) e t in
      let cons = counted-cons p y ys (p y) refl in
      omega arith

  -- where one passes at most, two that pass are the same
  two-at : (xs : List A) (i j : ℕ) (x y : A) → count_by p xs ≤ 1 → i < length xs
      → slice_index_or xs i x ≡ x → j < length xs → slice_index_or xs j y ≡ y → p x ≡ true
      → p y ≡ true → x ≡ y
  two-at [] i j x y few li ei lj ej tx ty = absurd (omega arith)
  two-at (z ∷ zs) zero zero x y few li ei lj ej tx ty = sym ei ∙ ej
  two-at (z ∷ zs) zero (suc j) x y few li ei lj ej tx ty =
      let one = counted-cons p z zs true (ap p ei ∙ tx) in
      let more = some-at zs j y (omega arith) ej ty in
      absurd (omega arith)
  two-at (z ∷ zs) (suc i) zero x y few li ei lj ej tx ty =
      let one = counted-cons p z zs true (ap p ej ∙ ty) in
      let more = some-at zs i x (omega arith) ei tx in
      absurd (omega arith)
  two-at (z ∷ zs) (suc i) (suc j) x y few li ei lj ej tx ty =
      let cons = counted-cons p z zs (p z) refl in
      two-at zs i j x y (omega arith) (omega arith) ei (omega arith) ej tx ty

  pub one-of : (xs : List A) → count_by p xs ≤ 1 → (x y : A) → Contains xs x → Contains xs y
      → p x ≡ true → p y ≡ true → x ≡ y
  one-of xs few x y h g tx ty = two-at xs h.0 g.0 x y few h.1 h.2 g.1 g.2 tx ty

  got-at : (xs : List A) (j : ℕ) (x : A) → slice_get xs j ≡ Some x → p x ≡ true → 1 ≤ count_by p xs
  got-at [] j x e t = cc
  got-at (y ∷ ys) zero x e t =
      let same : y ≡ x = cc in let one = counted-cons p y ys true (ap p same ∙ t) in omega arith
  got-at (y ∷ ys) (suc j) x e t =
      let rest = got-at ys j x e t in let cons = counted-cons p y ys (p y) refl in omega arith

  -- and they stand at one place
  pub one-place : (xs : List A) (i j : ℕ) (x y : A) → count_by p xs ≤ 1 → slice_get xs i ≡ Some x
      → slice_get xs j ≡ Some y → p x ≡ true → p y ≡ true → i ≡ j
  one-place [] i j x y few ei ej tx ty = cc
  one-place (z ∷ zs) zero zero x y few ei ej tx ty = refl
  one-place (z ∷ zs) zero (suc j) x y few ei ej tx ty =
      let same : z ≡ x = cc in
      let one = counted-cons p z zs true (ap p same ∙ tx) in
      let more = got-at zs j y ej ty in
      absurd (omega arith)
  one-place (z ∷ zs) (suc i) zero x y few ei ej tx ty =
      let same : z ≡ y = cc in
      let one = counted-cons p z zs true (ap p same ∙ ty) in
      let more = got-at zs i x ei tx in
      absurd (omega arith)
  one-place (z ∷ zs) (suc i) (suc j) x y few ei ej tx ty =
      let cons = counted-cons p z zs (p z) refl in
      ap suc (one-place zs i j x y (omega arith) ei ej tx ty)

both-true : (a b : Bool) → a ≡ true → b ≡ true → (a && b) ≡ true
both-true a b e g = rw (e, g) refl

both-same : (a b : ℕ) → (a == a && b == b) ≡ true
both-same a b = both-true (a == a) (b == b) (eq-eqb a a refl) (eq-eqb b b refl)

-- an event that a test passes begins no life
quiet : (test : Event → Bool) → ((life : ℕ) → test (Restarted life) ≡ false) → (e : Event)
    → begins_life e ≡ true → test e ≡ false
quiet test q (Restarted life) t = q life
quiet test q _ t = cc

-- whether a fact is an endpoint's
abbrev is_by : Endpoint → Lived → Bool
is_by n x = is_at n.node x.fact.who && x.life == n.life

no-one : (b : Bool) → (b && false) ≡ false
no-one true = refl
no-one false = refl

life-known : (n : ℕ) (who : Who) (past : List Lived) → is_at n who ≡ true → life_at who past ≡ life_by n past
life-known n (Node m) past t = let same : m ≡ n = eqb-true m n t in ap (λ (k : ℕ). life_by k past) same
life-known n Net past t = cc

module _ (n : Endpoint) (test : Event → Bool) (q : (life : ℕ) → test (Restarted life) ≡ false) where
  abbrev passes : Lived → Bool
  passes x = is_by n x && test x.fact.event

  abbrev own-test : Fact → Bool
  own-test f = test f.event

  step : (past : List Lived) (f : Fact) (h : List Fact) (all : List Lived) (a b c d : Bool)
      → is_at n.node f.who ≡ a → (life_by n.node past == n.life) ≡ b → begins_life f.event ≡ c
      → test f.event ≡ d
      → count_by passes all ≡ count_by own-test (facts_from (life_after n.node f (life_by n.node past)) n h)
      → count_by passes (told past f ∷ all)
      ≡ count_by own-test (cond (a && (b && not c)) (f ∷ facts_from (life_by n.node past) n h)
      (facts_from (life_after n.node f (life_by n.node past)) n h))
  step past f h all true true false d at here quiet_is is rest =
      let life : (life_at f.who past == n.life) ≡ true = rw (life-known n.node f.who past at) here in
      let passed : passes (told past f) ≡ d = rw (at, life, is) refl in
      let one = counted-cons passes (told past f) all d passed in
      let now : life_after n.node f (life_by n.node past) ≡ life_by n.node past = rw (at, quiet_is) refl in
      let same : count_by passes all ≡ count_by own-test (facts_from (life_by n.node past) n h) =
      subst (λ (k : ℕ). count_by passes all ≡ count_by own-test (facts_from k n h)) now rest in
      let two = counted-cons own-test f (facts_from (life_by n.node past) n h) d is in
      omega arith
  step past f h all true true true d at here begins is rest =
      let none : test f.event ≡ false = quiet test q f.event begins in
      let passed : passes (told past f) ≡ false = rw none (no-one (is_by n (told past f))) in
      let one = counted-cons passes (told past f) all false passed in
      omega arith
  step past f h all true false c d at here quiet_is is rest =
      let life : (life_at f.who past == n.life) ≡ false = rw (life-known n.node f.who past at) here in
      let passed : passes (told past f) ≡ false = rw (at, life) refl in
      let one = counted-cons passes (told past f) all false passed in
      omega arith
  step past f h all false b c d at here quiet_is is rest =
      let passed : passes (told past f) ≡ false = rw at refl in
      let one = counted-cons passes (told past f) all false passed in
      omega arith

  -- what is counted of an endpoint is counted over its facts
  counted : (past : List Lived) (h : List Fact) → count_by passes (lived_from past h)
      ≡ count_by own-test (facts_from (life_by n.node past) n h)
  counted past [] = refl
  counted past (f ∷ h) =
      step past f h (lived_from (told past f ∷ past) h) (is_at n.node f.who)
      (life_by n.node past == n.life) (begins_life f.event) (test f.event) refl refl refl refl
      (counted (told past f ∷ past) h)

  pub counted-by : (h : List Fact) → count_by passes (lived h) ≡ count_by own-test (facts_by n h)
  counted-by h = counted [] h

  -- all of an endpoint's facts are its node's
  own-step : (f : Fact) (x y : List Fact) (a b : Bool) → is_at n.node f.who ≡ a
      → count_by own-test x ≡ times n.node test x → count_by own-test y ≡ times n.node test y
      → count_by own-test (cond (a && b) (f ∷ x) y) ≡ times n.node test (cond (a && b) (f ∷ x) y)
  own-step f x y true true at same other =
      let one = counted-cons own-test f x (test f.event) refl in
      let passed : (is_at n.node f.who && test f.event) ≡ test f.event = rw at refl in
      let two = counted-cons (λ (e : Fact). is_at n.node e.who && test e.event) f x (test f.event) passed in
      omega arith
  own-step f x y true false at same other = other
  own-step f x y false b at same other = other

  times-from : (now : ℕ) (h : List Fact) → count_by own-test (facts_from now n h)
      ≡ times n.node test (facts_from now n h)
  times-from now [] = omega arith
  times-from now (f ∷ h) =
      own-step f (facts_from now n h) (facts_from (life_after n.node f now) n h) (is_at n.node f.who)
      (now == n.life && not (begins_life f.event)) refl (times-from now h)
      (times-from (life_after n.node f now) h)

  -- where one passes at most, two facts of the endpoint that pass are the same
  one-noted : (h : List Fact) → count_by own-test (facts_by n h) ≤ 1 → (x y : Lived)
      → Contains (lived h) x → Contains (lived h) y → is_by n x ≡ true → is_by n y ≡ true
      → test x.fact.event ≡ true → test y.fact.event ≡ true → x ≡ y
  one-noted h few x y hx hy ox oy tx ty =
      let all = counted-by h in
      one-of passes (lived h) (omega arith) x y hx hy (both-true (is_by n x) (test x.fact.event) ox tx)
      (both-true (is_by n y) (test y.fact.event) oy ty)

  any-by : (b : Bool) (h : List Fact) → list_any own-test (facts_by n h) ≡ b → 1 ≤ count_by passes (lived h)
      → b ≡ true
  any-by true h e some = refl
  any-by false h e some =
      let none = none-counted own-test (facts_by n h) e in let all = counted-by h in absurd (omega arith)

  any-noted : (h : List Fact) (x : Lived) → Contains (lived h) x → is_by n x ≡ true
      → test x.fact.event ≡ true → list_any own-test (facts_by n h) ≡ true
  any-noted h x is own t =
      any-by (list_any own-test (facts_by n h)) h refl
      (some-at passes (lived h) is.0 x is.1 is.2 (both-true (is_by n x) (test x.fact.event) own t))

module _ (h : List Fact) (u : EachLife UsedOnce h) (o : EachLife Once h) where
  abbrev all : List Lived
  all = lived h

  of-own : (n : Endpoint) → is_same n n ≡ true
  of-own n = same-here n

  -- a server session is made once
  pub one-server : (m : Endpoint) (t : ℕ) (e d : Event) → Contains all (noted m e)
      → Contains all (noted m d) → makes_server t e ≡ true → makes_server t d ≡ true → e ≡ d
  one-server m t e d he hd te td =
      ap (λ (f : Lived). f.fact.event)
      (one-noted m (makes_server t) (λ life. refl) h ((u m).served t) (noted m e) (noted m d) he hd (of-own m)
      (of-own m) te td)

  endpoints : (n k : Endpoint) → n.node ≡ k.node → n.life ≡ k.life → n ≡ k
  endpoints n k node life =
      same-endpoint n k (both-true (n.node == k.node) (n.life == k.life) (eq-eqb n.node k.node node)
      (eq-eqb n.life k.life life))

  pub server-end : (n : Endpoint) (s : ℕ) (k : Endpoint) (d : ℕ) (m : Endpoint) (t : ℕ)
      → IsServerEnd all n s m t → IsServerEnd all k d m t → (n ≡ k) × (s ≡ d)
  server-end n s k d m t (IsServerEnd.paired c x) (IsServerEnd.paired e y) =
      let same = one-server m t (PairedServer t n.node s c n.life) (PairedServer t k.node d e k.life) x y
      (eq-eqb t t refl) (eq-eqb t t refl) in
      let node : n.node ≡ k.node = cc in
      let life : n.life ≡ k.life = cc in
      (endpoints n k node life, cc)
  server-end n s k d m t (IsServerEnd.paired c x) (IsServerEnd.accepted e y) =
      let same = one-server m t (PairedServer t n.node s c n.life) (Accepted t k.node d e k.life) x y
      (eq-eqb t t refl) (eq-eqb t t refl) in cc
  server-end n s k d m t (IsServerEnd.accepted c x) (IsServerEnd.paired e y) =
      let same = one-server m t (Accepted t n.node s c n.life) (PairedServer t k.node d e k.life) x y
      (eq-eqb t t refl) (eq-eqb t t refl) in cc
  server-end n s k d m t (IsServerEnd.accepted c x) (IsServerEnd.accepted e y) =
      let same = one-server m t (Accepted t n.node s c n.life) (Accepted t k.node d e k.life) x y
      (eq-eqb t t refl) (eq-eqb t t refl) in
      let node : n.node ≡ k.node = cc in
      let life : n.life ≡ k.life = cc in
      (endpoints n k node life, cc)

  -- a client session is made once, and gets its other end once
  pub one-made : (n : Endpoint) (s : ℕ) (e d : Event) → Contains all (noted n e) → Contains all (noted n d)
      → makes_client s e ≡ true → makes_client s d ≡ true → e ≡ d
  one-made n s e d he hd te td =
      ap (λ (f : Lived). f.fact.event)
      (one-noted n (makes_client s) (λ life. refl) h ((u n).made s) (noted n e) (noted n d) he hd (of-own n)
      (of-own n) te td)

  pub one-joined : (n : Endpoint) (s : ℕ) (e d : Event) → Contains all (noted n e) → Contains all (noted n d)
      → joins_client s e ≡ true → joins_client s d ≡ true → e ≡ d
  one-joined n s e d he hd te td =
      ap (λ (f : Lived). f.fact.event)
      (one-noted n (joins_client s) (λ life. refl) h ((u n).joined s) (noted n e) (noted n d) he hd (of-own n)
      (of-own n) te td)

  pub client-end : (n : Endpoint) (s : ℕ) (m : Endpoint) (t : ℕ) (l : Endpoint) (q : ℕ)
      → IsClientEnd all n s m t → IsClientEnd all n s l q → (m ≡ l) × (t ≡ q)
  client-end n s m t l q (IsClientEnd.paired c x) (IsClientEnd.paired e y) =
      let same = one-joined n s (PairedClient s m.node t c m.life) (PairedClient s l.node q e l.life) x y
      (eq-eqb s s refl) (eq-eqb s s refl) in
      let node : m.node ≡ l.node = cc in
      let life : m.life ≡ l.life = cc in
      (endpoints m l node life, cc)
  client-end n s m t l q (IsClientEnd.paired c x) (IsClientEnd.connected e y z) =
      let same = one-joined n s (PairedClient s m.node t c m.life) (Connected s q l.life) x z
      (eq-eqb s s refl) (eq-eqb s s refl) in cc
  client-end n s m t l q (IsClientEnd.connected c x w) (IsClientEnd.paired e y) =
      let same = one-joined n s (Connected s t m.life) (PairedClient s l.node q e l.life) w y
      (eq-eqb s s refl) (eq-eqb s s refl) in cc
  client-end n s m t l q (IsClientEnd.connected c x w) (IsClientEnd.connected e y z) =
      let made = one-made n s (Opened s m.node c) (Opened s l.node e) x y
      (eq-eqb s s refl) (eq-eqb s s refl) in
      let joined = one-joined n s (Connected s t m.life) (Connected s q l.life) w z
      (eq-eqb s s refl) (eq-eqb s s refl) in
      let node : m.node ≡ l.node = cc in
      let life : m.life ≡ l.life = cc in
      (endpoints m l node life, cc)

  -- a call is asked once, and begins once
  pub one-asked : (n : Endpoint) (c s e y z room space : ℕ) (ask other : List ℕ)
      → Contains all (noted_with n (Asked c s y room) ask)
      → Contains all (noted_with n (Asked c e z space) other)
      → noted_with n (Asked c s y room) ask ≡ noted_with n (Asked c e z space) other
  one-asked n c s e y z room space ask other x w =
      one-noted n (asks_call c) (λ life. refl) h ((u n).asked c) (noted_with n (Asked c s y room) ask)
      (noted_with n (Asked c e z space) other) x w (of-own n) (of-own n) (eq-eqb c c refl) (eq-eqb c c refl)

  pub one-session : (n : Endpoint) (c s e y z room space : ℕ) (ask other : List ℕ)
      → Contains all (noted_with n (Asked c s y room) ask)
      → Contains all (noted_with n (Asked c e z space) other) → s ≡ e
  one-session n c s e y z room space ask other x w =
      let event : Asked c s y room ≡ Asked c e z space =
      ap (λ (f : Lived). f.fact.event) (one-asked n c s e y z room space ask other x w) in
      cc

  pub one-request : (n : Endpoint) (c r q : ℕ) → Contains all (noted n (Begun c r))
      → Contains all (noted n (Begun c q)) → r ≡ q
  one-request n c r q x y =
      let few = (o n).begun n.node c in
      let own = times-from n (begins_call c) (λ life. refl) first_life h in
      let same = one-noted n (begins_call c) (λ life. refl) h (omega arith) (noted n (Begun c r)) (noted n (Begun c q))
      x y (of-own n) (of-own n) (eq-eqb c c refl) (eq-eqb c c refl) in
      let event : Begun c r ≡ Begun c q = ap (λ (f : Lived). f.fact.event) same in
      cc

  pub began : (n : Endpoint) (c s r y room : ℕ) (ask : List ℕ) → Contains all (noted_with n (Asked c s y room) ask)
      → Contains all (noted n (Begun c r)) → BeganAs (facts_by n h) c s r
  began n c s r y room ask x w = record {
    asked = any-noted n (asks_on c s) (λ life. refl) h (noted_with n (Asked c s y room) ask) x (of-own n) (both-same c s);
    begun = any-noted n (begins_as c r) (λ life. refl) h (noted n (Begun c r)) w (of-own n) (both-same c r);
  }

  pub calls-same : (n k : Endpoint) (c d s e r : ℕ) → BeganAs (facts_by n h) c s r → BeganAs (facts_by k h) d e r
      → n ≡ k → s ≡ e → c ≡ d
  calls-same n k c d s e r b g node session =
      let other : BeganAs (facts_by n h) d s r = rw (node, session) g in (u n).begun c d s r b other

  pub one-call : (m : Endpoint) (t r : ℕ) (n : Endpoint) (c : ℕ) (k : Endpoint) (d : ℕ) → IsOneOf all n c m t r
      → IsOneOf all k d m t r → (n ≡ k) × (c ≡ d)
  one-call m t r n c k d a b =
      let one = a.own in
      let two = b.own in
      let ends = server-end n one.session k two.session m t one.ends.server two.ends.server in (
        ends.0,
        calls-same n k c d one.session two.session r
            (began n c one.session r a.req_type a.room a.ask one.asked one.begun)
            (began k d two.session r b.req_type b.room b.ask two.asked two.begun) ends.0 ends.1,
      )

  pub request-of : (n : Endpoint) (c : ℕ) (m : Endpoint) (t r : ℕ) (l : Endpoint) (v q : ℕ) → IsOneOf all n c m t r
      → IsOneOf all n c l v q → (m ≡ l) × (t ≡ v) × (r ≡ q)
  request-of n c m t r l v q a b =
      let one = a.own in
      let two = b.own in
      let session = one-session n c one.session two.session a.req_type b.req_type a.room b.room a.ask b.ask one.asked
      two.asked in
      let other : IsClientEnd all n one.session l v = rw session two.ends.client in
      let end = client-end n one.session m t l v one.ends.client other in
      (end.0, end.1, one-request n c r q one.begun two.begun)

  pub one-run : (n : Endpoint) (c i j : ℕ) (f g : Lived) → slice_get all i ≡ Some f → slice_get all j ≡ Some g
      → RanFor all n c f → RanFor all n c g → i ≡ j
  one-run n c i j f g ei ej a b =
      let x : IsOneOf all n c a.node a.session a.request =
      record { req_type = a.req_type; room = a.room; ask = a.ask; own = a.own } in
      let y : IsOneOf all n c b.node b.session b.request =
      record { req_type = b.req_type; room = b.room; ask = b.ask; own = b.own } in
      let same = request-of n c a.node a.session a.request b.node b.session b.request x y in
      let few = (o a.node).ran a.node.node a.session a.request in
      let own = times-from a.node (runs_request a.session a.request) (λ life. refl) first_life h in
      let count = counted-by a.node (runs_request a.session a.request) (λ life. refl) h in
      let first : passes a.node (runs_request a.session a.request) (λ life. refl) f ≡ true =
      rw a.ran (both-true (is_same a.node a.node) (a.session == a.session && a.request == a.request)
      (of-own a.node) (both-same a.session a.request)) in
      let second : passes a.node (runs_request a.session a.request) (λ life. refl) g ≡ true =
      rw (b.ran, same.0, same.1, same.2) (both-true (is_same b.node b.node)
      (b.session == b.session && b.request == b.request) (of-own b.node) (both-same b.session b.request)) in
      one-place (passes a.node (runs_request a.session a.request) (λ life. refl)) all i j f g (omega arith) ei ej first
      second

-- what is so of facts is so of more
module _ (past h : List Lived) (more : (f : Lived) → Contains past f → Contains h f) where
  pub client-more : (n : Endpoint) (s : ℕ) (m : Endpoint) (t : ℕ) → IsClientEnd past n s m t → IsClientEnd h n s m t
  client-more n s m t (IsClientEnd.paired c x) = IsClientEnd.paired c (more _ x)
  client-more n s m t (IsClientEnd.connected c x y) = IsClientEnd.connected c (more _ x) (more _ y)

  pub server-more : (n : Endpoint) (s : ℕ) (m : Endpoint) (t : ℕ) → IsServerEnd past n s m t → IsServerEnd h n s m t
  server-more n s m t (IsServerEnd.paired c x) = IsServerEnd.paired c (more _ x)
  server-more n s m t (IsServerEnd.accepted c x) = IsServerEnd.accepted c (more _ x)

  pub call-more : (n : Endpoint) (c : ℕ) (m : Endpoint) (t r y room : ℕ) (ask : List ℕ)
      → IsCallOf past n c m t r y room ask → IsCallOf h n c m t r y room ask
  call-more n c m t r y room ask a = record {
    session = a.session;
    ends = record {
      client = client-more n a.session m t a.ends.client;
      server = server-more n a.session m t a.ends.server;
    };
    asked = more _ a.asked;
    begun = more _ a.begun;
  }

  ran-more : (v : Serving) (m : Endpoint) (t r y : ℕ) (ask answer : List ℕ) → OwnRun v past m t r y ask answer
      → RanForSome h (noted_two m (Ran t r y) ask answer)
  ran-more v m t r y ask answer w = record {
    node = w.node;
    call = w.call;
    own = record {
      node = m;
      session = t;
      request = r;
      req_type = y;
      room = w.room;
      ask = ask;
      answer = answer;
      ran = refl;
      own = call-more w.node w.call m t r y w.room ask w.own;
    };
  }

-- each run of a handler is of a call
module _ (v : ℕ → Serving) (h : List Lived) where
  ran-here : (past : List Lived) (f : Fact) (m : Endpoint) (t r y : ℕ) (ask answer : List ℕ)
      → ((d : Lived) → Contains past d → Contains h d) → OwnAt v past f.who f.event f.first f.second
      → told past f ≡ noted_two m (Ran t r y) ask answer
      → RanForSome h (noted_two m (Ran t r y) ask answer)
  ran-here past f m t r y ask answer before own e =
      let fact : f ≡ with_two m.node (Ran t r y) ask answer = ap (λ (x : Lived). x.fact) e in
      let at : OwnRun (v m.node) past (present m.node past) t r y ask answer =
      subst (λ (d : Fact). OwnAt v past d.who d.event d.first d.second) fact own in
      let life : life_by m.node past ≡ m.life =
      ap (λ (d : Fact). life_at d.who past) (sym fact) ∙ ap (λ (x : Lived). x.life) e in
      let here : present m.node past ≡ m = ap (λ (k : ℕ). record { node = m.node; life = k }) life in
      ran-more past h before (v m.node) m t r y ask answer
      (subst (λ (z : Endpoint). OwnRun (v m.node) past z t r y ask answer) here at)

  ran-at : (past : List Lived) (g : List Fact) → ((f : Lived) → Contains past f → Contains h f)
      → ((f : Lived) → Contains (lived_from past g) f → Contains h f)
      → AtEach (λ past f. OwnAt v past f.who f.event f.first f.second) past g
      → (k : ℕ) (m : Endpoint) (t r y : ℕ) (ask answer : List ℕ) → k < length (lived_from past g)
      → slice_index_or (lived_from past g) k (noted_two m (Ran t r y) ask answer)
      ≡ noted_two m (Ran t r y) ask answer
      → RanForSome h (noted_two m (Ran t r y) ask answer)
  ran-at past [] before after own k m t r y ask answer lt e = absurd (omega arith)
  ran-at past (f ∷ g) before after own zero m t r y ask answer lt e =
      ran-here past f m t r y ask answer before own.0 e
  ran-at past (f ∷ g) before after own (suc k) m t r y ask answer lt e =
      let next : List Lived = told past f ∷ past in
      ran-at next g (λ d is. both d is)
      (λ d is. after d (Contains-append_right (told past f ∷ []) (lived_from next g) d is)) own.1 k m t r y ask
      answer (omega arith) e
    where
      head-or : (d : Lived) (i : ℕ) → i < length (told past f ∷ past)
          → slice_index_or (told past f ∷ past) i d ≡ d → Contains h d
      head-or d zero li ei = rw (← ei) (after (told past f) (0, omega arith, refl))
      head-or d (suc i) li ei = before d (i, omega arith, ei)

      both : (d : Lived) → Contains (told past f ∷ past) d → Contains h d
      both d is = head-or d is.0 is.1 is.2

pub ran-some : (v : ℕ → Serving) (h : List Fact) → OwnBy v h → (m : Endpoint) (t r y : ℕ) (ask answer : List ℕ)
    → Contains (lived h) (noted_two m (Ran t r y) ask answer)
    → RanForSome (lived h) (noted_two m (Ran t r y) ask answer)
ran-some v h own m t r y ask answer is =
    ran-at v (lived h) [] h (λ f none. absurd (nothing f none)) (λ f there. there) own is.0 m t r y ask answer is.1 is.2
  where
    nothing : (f : Lived) → Contains [] f → ⊥
    nothing f none = let lt = none.1 in omega arith

pub own-answers : (script : List Line) (h : List Fact) → PairsTwoNodes script → Follows script h → Own h
own-answers script h two follows =
    let made = follows-course script h two follows in
    course-own (λ n. plain_serving) first_moment h made.end made.course first-right first-valid
    (answers-each (λ n. plain_serving) h follows.1.answers) first-good

-- so of any facts, of which each endpoint's use their numbers once
pub one-call-each : (v : ℕ → Serving) (h : List Fact) → EachLife UsedOnce h → EachLife Once h → OwnBy v h → OneCall h
one-call-each v h u o own = record {
  some = ran-some v h own;
  call = one-call h u o;
  request = request-of h u o;
  ran = one-run h u o;
}

pub calls-once : CallsRunOnce
calls-once script h two few f =
    one-call-each (λ n. plain_serving) h (numbers-once script h two few f)
    (happens-once script h two few f)
    (own-answers script h two f)
