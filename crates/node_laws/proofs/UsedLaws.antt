-- Numbers are used once, of every run.
use Rattle.std.proofs.Common.{◌≡◌, ◌⊎◌, ℕ, ◌+◌, ◌/◌, ◌%◌, ◌≤◌, Bool, true, false, ◌&&◌, ◌||◌, cond, leb, ltb, Some, List, [], ◌∷◌, length, refl, sym, ap, ◌∙◌, inl, inr, arith}
use Rattle.std.specs.Prelude.{◌==◌, count_by, slice_index}
use Rattle.std.specs.List.{find, list_any}
use Rattle.std.proofs.lemmas.Bool.{eqb-true, and_parts, or_left, or_right}
use Rattle.std.proofs.lemmas.Bool.Decides.{nat_tests}
use Rattle.std.proofs.lemmas.List.Sums.{sum_by-cons}
use Rattle.rpc_base.specs.Tables.{at_first}
use Rattle.rpc_base.specs.declared.event.Event.{Event}
use Rattle.rpc_base.specs.declared.event.Event.TheVariants.{Asked, Begun}
use Rattle.rpc_base.specs.declared.fact.Fact.{Fact}
use Rattle.rpc_base.specs.declared.limits.Limits.{Limits}
use Rattle.rpc_base.proofs.BasicLemmas.{at-most-one}
use Rattle.rpc_base.proofs.FirstLemmas.{found-changed, found-holds}
use Rattle.rpc_base.proofs.TakingLemmas.{find-passes}
use Rattle.rpc_laws.specs.declared.tables.Lists.{Lists}
use Rattle.rpc_laws.specs.Front.{front_header, front_body}
use Rattle.rpc_laws.specs.NodeLists.{after, new_lists}
use Rattle.rpc_laws.specs.Sessions.{is_client, has_call, begins}
use Rattle.node_laws.specs.CallHistory.{asks_call, latest_first}
use Rattle.node_laws.specs.EndedCalls.{asks_on, begins_as, BeganAs}
use Rattle.node_laws.specs.Laws.{NumbersAreUsedOnce}
use Rattle.node_laws.specs.UsedOnce.{makes_client, joins_client, makes_server}
use Rattle.node_laws.specs.Valid.{EightTurns, to_come}
use Rattle.node_laws.proofs.Allowed.{Allowed, Leads, MayBegin}
use Rattle.node_laws.proofs.CountLemmas.{asks-after}
use Rattle.node_laws.proofs.ElsewhereLemmas.{session-found}
use Rattle.node_laws.proofs.EndedLaws.{Knows, knows-after, knows-new}
use Rattle.node_laws.proofs.JoinLemmas.{to_join, join-spends, made-spends, served-spends}
use Rattle.node_laws.proofs.NumberLemmas.{by_number}
use Rattle.node_laws.proofs.OpenLemmas.{future, future-own, turn-of}
use Rattle.node_laws.proofs.OriginLemmas.{unlike}
use Rattle.node_laws.proofs.RunLaws.{run_leads}
use Rattle.node_laws.proofs.TakenLemmas.{future-after}
use Rattle.node_laws.proofs.ToldLemmas.{future_for}

-- an event that passes the test takes one, and none gives one back
record Takes (test : Event → Bool) (left : Lists → ℕ) : Type 0 where
  each : (clock : ℕ) (s : Lists) (f : Fact) → Allowed s f.event
      → cond (test f.event) 1 0 + left (after clock s f) ≤ left s

takes-le : (test : Event → Bool) (left : Lists → ℕ) → Takes test left → (s : Lists)
    (g : List Fact) (t : Lists) → Leads s g t → count_by (λ f. test f.event) g ≤ left s
takes-le test left h s [] t l = omega arith
takes-le test left h s (f ∷ g) t l =
    let taken = h.each l.0 s f l.1 in
    let rest = takes-le test left h (after l.0 s f) g t l.2 in
    let cons = sum_by-cons (λ (e : Fact). cond {A = ℕ} (test e.event) 1 0) f g in
    omega arith

asked-takes : (c : ℕ) → Takes (asks_call c) (λ s. to_come s.asked c)
asked-takes c = record { each = λ clock s f a. asks-after c f.event s a }

made-takes : (n : ℕ) → Takes (makes_client n) (λ s. to_come (length s.clients) n)
made-takes n = record {
  each = λ clock s f a. made-spends n clock f.event f.first (front_header s.ring) (front_body s.ring) s a;
}

joined-takes : (n : ℕ) → Takes (joins_client n) (λ s. to_join n s.clients)
joined-takes n = record {
  each = λ clock s f a. join-spends n clock f.event f.first (front_header s.ring) (front_body s.ring) s a;
}

served-takes : (t : ℕ) → Takes (makes_server t) (λ s. to_come s.server_numbers t)
served-takes t = record { each = λ clock s f a. served-spends t f.event s a }

-- a call begins as a request of its session, whose number was to come
record Begins (clock : ℕ) (s : Lists) (f : Fact) (c n r : ℕ) : Type 0 where
  event : f.event ≡ Begun c r
  came : 1 ≤ future_for n r s.clients
  gone : future_for n r (after clock s f).clients ≤ 0

one-to-come : (a b : ℕ) → a ≡ b → ◌≡◌ {A = ℕ} (cond (ltb a b) 0 1) 1
one-to-come a b e = grind (arith, nat_tests)

few-to-come : (a b : ℕ) → ◌≤◌ (cond (ltb a b) 0 1) 1
few-to-come a b = at-most-none (ltb a b)
  where
    at-most-none : (b : Bool) → ◌≤◌ (cond b 0 1) 1
    at-most-none true = omega arith
    at-most-none false = omega arith

module _ (past : List Fact) (s : Lists) (k : Knows past s) (clock c n r : ℕ) (f : Fact) where
  begins-now : (i j : ℕ) → f.event ≡ Begun i j → MayBegin s i j → i ≡ c → j ≡ r
      → list_any (λ e. asks_on c n e.event) past ≡ true → Begins clock s f c n r
  begins-now i j event a call request asked =
      let own = by_number s a.session a.client a.call k.valid a.place in
      let number : a.call.what.number ≡ c = sym a.same ∙ call in
      let session : a.session ≡ n =
      session-found c n s a.session a.client a.call a.place number (k.asked c n asked) in
      let found : find (is_client n) s.clients ≡ Some a.client = rw (← session) a.place.client in
      let has : find (has_call i) s.clients ≡ Some a.client = rw a.same own.client in
      let turn = turn-of j a.slot (slice_index a.client.turns a.slot) a.below a.next in
      let turns : j / 8 ≡ slice_index a.client.turns (j % 8) =
      turn.0 ∙ ap (λ m. slice_index a.client.turns m) turn.1 in
      let mine : r / 8 ≡ slice_index a.client.turns (r % 8) = rw (← request) turns in
      let eight = found-holds (has_call i) EightTurns s.clients a.client k.eight has in
      let given : 1 + future r (begins i j a.client).turns ≤ future r a.client.turns =
      rw request (future-own r a.client.turns eight mine) in
      let one = few-to-come (r / 8) (slice_index a.client.turns (r % 8)) in
      let passes = find-passes (is_client n) s.clients a.client found in
      let next : find (is_client n) (at_first (has_call i) (begins i j) s.clients)
      ≡ Some (begins i j a.client) =
      found-changed (has_call i) (begins i j) (is_client n) a.client s.clients passes has found in
      record {
        event = event ∙ rw (call, request) refl;
        came = rw found (omega arith);
        gone = rw (event, next) (omega arith);
      }

  -- a call began before, or it begins now
  abbrev Now : Type 0
  Now = BeganAs past c n r ⊎ Begins clock s f c n r

  as-before : list_any (λ e. asks_on c n e.event) past ≡ true
      → list_any (λ e. begins_as c r e.event) past ≡ true → Now
  as-before asked begun = inl (record { asked = asked; begun = begun })

  begun-by : (i j : ℕ) → f.event ≡ Begun i j → MayBegin s i j → (b : Bool) → (i == c && j == r) ≡ b
      → list_any (λ e. asks_on c n e.event) past ≡ true
      → (b || list_any (λ e. begins_as c r e.event) past) ≡ true → Now
  begun-by i j event a true e asked begun =
      let parts = and_parts (i == c) (j == r) e in
      inr (begins-now i j event a (eqb-true i c parts.0) (eqb-true j r parts.1) asked)
  begun-by i j event a false e asked begun = as-before asked begun

  to-come-own : (a b : ℕ) → a ≡ b → to_come a b ≤ 0 → ⊥
  to-come-own a b e h = grind (arith, nat_tests)

  -- no call began that is asked now
  asked-by : (i m : ℕ) → i ≡ s.asked → (b : Bool) → (i == c && m == n) ≡ b
      → (b || list_any (λ e. asks_on c n e.event) past) ≡ true
      → list_any (λ e. begins_as c r e.event) past ≡ true → Now
  asked-by i m next true e asked begun =
      let parts = and_parts (i == c) (m == n) e in
      let call : i ≡ c = eqb-true i c parts.0 in
      let out : unlike c r s ≤ 0 = k.begun c r begun in
      absurd (to-come-own s.asked c (sym next ∙ call) (omega arith))
  asked-by i m next false e asked begun = as-before asked begun

  by-event : (e : Event) → f.event ≡ e → Allowed s e
      → (asks_on c n e || list_any (λ g. asks_on c n g.event) past) ≡ true
      → (begins_as c r e || list_any (λ g. begins_as c r g.event) past) ≡ true → Now
  by-event (Begun i j) event a asked begun = begun-by i j event a (i == c && j == r) refl asked begun
  by-event (Asked i m y room) event a asked begun = asked-by i m a.next (i == c && m == n) refl asked begun
  by-event _ event a asked begun = as-before asked begun

  new-or-old : Allowed s f.event → BeganAs (f ∷ past) c n r → Now
  new-or-old a b = by-event f.event refl a b.asked b.begun

-- at a moment: of a request that began the number is gone, and it is of one call
record Started (past : List Fact) (s : Lists) : Type 0 where
  knows : Knows past s
  gone : (c n r : ℕ) → BeganAs past c n r → future_for n r s.clients ≤ 0
  one : (c d n r : ℕ) → BeganAs past c n r → BeganAs past d n r → c ≡ d

gone-by : (clock : ℕ) (past : List Fact) (s : Lists) (f : Fact) → Started past s → (c n r : ℕ)
    → BeganAs past c n r ⊎ Begins clock s f c n r → future_for n r (after clock s f).clients ≤ 0
gone-by clock past s f k c n r (inl old) =
    let was = k.gone c n r old in
    let less = future-after n r clock f.event f.first (front_header s.ring) (front_body s.ring)
    s.clients k.knows.eight in
    omega arith
gone-by clock past s f k c n r (inr new) = new.gone

one-by : (clock : ℕ) (past : List Fact) (s : Lists) (f : Fact) → Started past s → (c d n r : ℕ)
    → BeganAs past c n r ⊎ Begins clock s f c n r → BeganAs past d n r ⊎ Begins clock s f d n r
    → c ≡ d
one-by clock past s f k c d n r (inl old) (inl other) = k.one c d n r old other
one-by clock past s f k c d n r (inl old) (inr new) =
    let was = k.gone c n r old in let came = new.came in absurd (omega arith)
one-by clock past s f k c d n r (inr new) (inl old) =
    let was = k.gone d n r old in let came = new.came in absurd (omega arith)
one-by clock past s f k c d n r (inr new) (inr other) = same (sym new.event ∙ other.event)
  where
    same : Begun c r ≡ Begun d r → c ≡ d
    same e = cc

started-after : (clock : ℕ) (past : List Fact) (s : Lists) (f : Fact) → Started past s
    → Allowed s f.event → Started (f ∷ past) (after clock s f)
started-after clock past s f k a = record {
  knows = knows-after clock past s f k.knows a;
  gone = λ c n r b. gone-by clock past s f k c n r (new-or-old past s k.knows clock c n r f a b);
  one = λ c d n r b e. one-by clock past s f k c d n r
      (new-or-old past s k.knows clock c n r f a b)
      (new-or-old past s k.knows clock d n r f a e);
}

started-new : (me life : ℕ) (limits : Limits) → Started [] (new_lists me life limits)
started-new me life limits = record {
  knows = knows-new me life limits;
  gone = λ c n r b. let none = b.asked in cc;
  one = λ c d n r b e. let none = b.asked in cc;
}

at-end : (past : List Fact) (s : Lists) (g : List Fact) (t : Lists) → Started past s → Leads s g t
    → Started (latest_first past g) t
at-end past s [] t k l = rw l k
at-end past s (f ∷ g) t k l = at-end (f ∷ past) (after l.0 s f) g t (started-after l.0 past s f k l.1) l.2

-- what is among facts is among them with the newest first
module _ (p : Fact → Bool) where
  kept-first : (past g : List Fact) → list_any p past ≡ true → list_any p (latest_first past g) ≡ true
  kept-first past [] e = e
  kept-first past (f ∷ g) e = kept-first (f ∷ past) g (or_right (p f) (list_any p past) e)

  first-by : (past g : List Fact) (f : Fact) (b : Bool) → p f ≡ b → (b || list_any p g) ≡ true
      → (list_any p g ≡ true → list_any p (latest_first (f ∷ past) g) ≡ true)
      → list_any p (latest_first (f ∷ past) g) ≡ true
  first-by past g f true t e ih = kept-first (f ∷ past) g (or_left (p f) (list_any p past) t)
  first-by past g f false t e ih = ih e

  any-first : (past g : List Fact) → list_any p g ≡ true → list_any p (latest_first past g) ≡ true
  any-first past [] e = cc
  any-first past (f ∷ g) e = first-by past g f (p f) refl e (any-first (f ∷ past) g)

began-first : (g : List Fact) (c n r : ℕ) → BeganAs g c n r → BeganAs (latest_first [] g) c n r
began-first g c n r b = record {
  asked = any-first (λ f. asks_on c n f.event) [] g b.asked;
  begun = any-first (λ f. begins_as c r f.event) [] g b.begun;
}

few-at-start : (a b c : ℕ) → a ≤ b → b ≤ 1 → a ≤ 1
few-at-start a b c h k = omega arith

pub used : NumbersAreUsedOnce
used v me life limits g t run =
    let s = new_lists me life limits in
    let l = run_leads run in
    let end = at-end [] s g t.lists (started-new me life limits) l in
    record {
      asked = λ c. few-at-start _ (to_come 0 c) 0 (takes-le (asks_call c) _ (asked-takes c) s g t.lists l)
          (let one = at-most-one (leb 0 c) in omega arith);
      made = λ n. few-at-start _ (to_come 0 n) 0 (takes-le (makes_client n) _ (made-takes n) s g t.lists l)
          (let one = at-most-one (leb 0 n) in omega arith);
      joined = λ n. few-at-start _ (to_join n []) 0 (takes-le (joins_client n) _ (joined-takes n) s g t.lists l)
          (let one = at-most-one (leb 0 n) in omega arith);
      served = λ n. few-at-start _ (to_come 0 n) 0 (takes-le (makes_server n) _ (served-takes n) s g t.lists l)
          (let one = at-most-one (leb 0 n) in omega arith);
      begun = λ c d n r b e. end.one c d n r (began-first g c n r b) (began-first g d n r e);
    }
