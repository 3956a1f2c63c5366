-- What stands as request r of session t, after each fact that changes server sessions.
use Rattle.std.proofs.Common.{◌≡◌, ℕ, ◌%◌, ◌≤◌, Bool, true, false, ◌&&◌, cond, Option, Some, None}
use Rattle.std.proofs.Common.{List, [], ◌∷◌, ◌++◌, refl, sym, ap, subst, ◌∙◌, inl, inr, arith}
use Rattle.std.specs.Prelude.{◌⊎◌, ◌==◌, option_and_then, option_map}
use Rattle.std.specs.List.{find, list_any}
use Rattle.std.proofs.lemmas.Bool.{eqb-true, eq-eqb, ne_eqb}
use Rattle.rpc_base.specs.Tables.{at_first, without_first}
use Rattle.rpc_laws.specs.declared.tables.Lists.{Lists}
use Rattle.rpc_laws.specs.declared.tables.Served.{Served}
use Rattle.rpc_laws.specs.declared.tables.Server.{Server}
use Rattle.rpc_laws.specs.Requests.{is_server, is_request, in_slot_of, server_end, first_packet, request_of}
use Rattle.rpc_laws.specs.Requests.{next_packet, took_packet}
use Rattle.node_laws.proofs.Allowed.{MayServe}
use Rattle.rpc_base.proofs.FindLemmas.{push-found, push-other, skip-found, count-out, none-found}
use Rattle.rpc_base.proofs.FindLemmas.{mapped-found, unchanged-found}
use Rattle.node_laws.proofs.ServerLemmas.{in_place, request-slot}
use Rattle.rpc_base.proofs.FirstLemmas.{count-fewer, found-holds, none-counted, sum-fewer}
use Rattle.node_laws.specs.Valid.{SoundServer, Valid}

-- request r of a session that is found
abbrev pub request_on : ℕ → Option Server → Option Served
request_on r o = option_and_then (λ v. find (is_request r) v.slots) o

-- a session whose request k changes
abbrev pub changes : ℕ → (Served → Served) → Server → Server
changes k f v = record v { slots = at_first (is_request k) f v.slots }

-- numbers that differ
pub off-number : (i n k : ℕ) → (n == k) ≡ false → (i == n) ≡ true → (i == k) ≡ false
off-number i n k e t = let same : i ≡ n = eqb-true i n t in rw same e

module _ (t r : ℕ) where
  -- a session of another number
  pub off-session : (n : ℕ) (change : Server → Server) → ((v : Server) → (change v).way ≡ v.way)
      → (n == t) ≡ false → (servers : List Server)
      → request_of t r (at_first (is_server n) change servers) ≡ request_of t r servers
  off-session n change way e servers =
      ap (λ o. request_on r o) (unchanged-found (is_server n)
      (is_server t) change (λ v. ap (λ w. w.number == t) (way v))
      (λ v h. off-number v.way.number n t e h) servers)

  -- the session itself
  pub on-session : (change : Server → Server) → ((v : Server) → (change v).way ≡ v.way)
      → (servers : List Server)
      → request_of t r (at_first (is_server t) change servers)
      ≡ request_on r (option_map change (find (is_server t) servers))
  on-session change way servers =
      ap (λ o. request_on r o) (mapped-found (is_server t) change (λ v. ap (λ w. w.number == t) (way v)) servers)

  module _ (f : Served → Served) (numbers : (q : Served) → (f q).number ≡ q.number) where
    own-by : (o : Option Server) → request_on r (option_map (changes r f) o) ≡ option_map f (request_on r o)
    own-by None = refl
    own-by (Some v) = mapped-found (is_request r) f (λ q. ap (λ n. n == r) (numbers q)) v.slots

    -- the request changes
    pub look-own : (servers : List Server)
        → request_of t r (at_first (is_server t)
        (λ v. record v { slots = at_first (is_request r) f v.slots }) servers)
        ≡ option_map f (request_of t r servers)
    look-own servers =
        on-session (changes r f) (λ v. refl) servers ∙ own-by (find (is_server t) servers)

    other-by : (k : ℕ) → (k == r) ≡ false → (o : Option Server)
        → request_on r (option_map (changes k f) o) ≡ request_on r o
    other-by k e None = refl
    other-by k e (Some v) =
        unchanged-found (is_request k) (is_request r) f (λ q. ap (λ n. n == r) (numbers q))
        (λ q h. off-number q.number k r e h) v.slots

    other-on : (n k : ℕ) (b : Bool) → (n == t) ≡ b → (b && k == r) ≡ false → (servers : List Server)
        → request_of t r (at_first (is_server n)
        (λ v. record v { slots = at_first (is_request k) f v.slots }) servers)
        ≡ request_of t r servers
    other-on n k true e off servers =
        let same : n ≡ t = eqb-true n t e in
        rw same (on-session (changes k f) (λ v. refl) servers ∙ other-by k off (find (is_server t) servers))
    other-on n k false e off servers = off-session n (changes k f) (λ v. refl) e servers

    -- another request changes
    pub look-other : (n k : ℕ) → (n == t && k == r) ≡ false → (servers : List Server)
        → request_of t r (at_first (is_server n)
        (λ v. record v { slots = at_first (is_request k) f v.slots }) servers)
        ≡ request_of t r servers
    look-other n k off servers = other-on n k (n == t) refl off servers

  -- a session is made
  made-by : (v : Server) (o p : Option Server) (b : Bool) → request_on r p ≡ request_on r o
      → request_on r (cond b (Some v) p) ≡ request_on r (cond b (Some v) o)
  made-by v o p true ih = refl
  made-by v o p false ih = ih

  new-by : (n peer c credits life : ℕ) (b : Bool) → request_on r (cond b (Some
      (server_end n peer c credits life)) None) ≡ None
  new-by n peer c credits life true = refl
  new-by n peer c credits life false = refl

  pub look-made : (n peer c credits life : ℕ) (servers : List Server)
      → request_of t r (servers ++ server_end n peer c credits life ∷ []) ≡ request_of t r servers
  look-made n peer c credits life [] = new-by n peer c credits life (n == t)
  look-made n peer c credits life (v ∷ servers) =
      made-by v (find (is_server t) servers) (find (is_server t)
      (servers ++ server_end n peer c credits life ∷ [])) (is_server t v)
      (look-made n peer c credits life servers)

-- a packet is taken
module _ (s : Lists) (valid : Valid s) (n k : ℕ) (a : MayServe s n k) (body : List ℕ) where
  -- the sessions then
  abbrev pub taken : List Server
  taken = at_first (is_server n) (λ v. record v { slots = took_packet k (Some a.header) body v.slots }) s.servers

  sound : SoundServer a.server
  sound = found-holds (is_server n) SoundServer s.servers a.server valid.served a.found

  on-taken : (r : ℕ) → request_of n r taken ≡ find (is_request r) (took_packet k (Some a.header) body a.server.slots)
  on-taken r =
      on-session n r (λ v. record v { slots = took_packet k (Some a.header) body v.slots })
      (λ v. refl) s.servers ∙ rw a.found refl

  -- the request goes on
  next-by : (b : Bool) → b ≡ true
      → find (is_request k) (cond b (at_first (is_request k) (next_packet body) a.server.slots)
      (without_first (in_slot_of k) a.server.slots ++ first_packet k a.header body ∷ []))
      ≡ option_map (next_packet body) (find (is_request k) a.server.slots)
  next-by true e = mapped-found (is_request k) (next_packet body) (λ q. refl) a.server.slots
  next-by false e = cc

  pub look-next : list_any (is_request k) a.server.slots ≡ true
      → request_of n k taken ≡ option_map (next_packet body) (request_of n k s.servers)
  look-next e =
      let before : request_of n k s.servers ≡ find (is_request k) a.server.slots = ap (λ o. request_on k o) a.found in
      on-taken k ∙ (next-by (list_any (is_request k) a.server.slots) e ∙ rw before refl)

  -- it begins
  first-by : (b : Bool) → b ≡ false → list_any (is_request k) a.server.slots ≡ false
      → find (is_request k) (cond b (at_first (is_request k) (next_packet body) a.server.slots)
      (without_first (in_slot_of k) a.server.slots ++ first_packet k a.header body ∷ []))
      ≡ Some (first_packet k a.header body)
  first-by true e none = cc
  first-by false e none =
      let zero = none-counted (is_request k) a.server.slots none in
      let fewer = sum-fewer (in_slot_of k) (λ (q : Served). cond (is_request k q) 1 0) a.server.slots in
      push-found (is_request k) (without_first (in_slot_of k) a.server.slots)
      (first_packet k a.header body) (none-found (is_request k)
      (without_first (in_slot_of k) a.server.slots) (omega arith)) (eq-eqb k k refl)

  pub look-first : list_any (is_request k) a.server.slots ≡ false
      → request_of n k taken ≡ Some (first_packet k a.header body)
  look-first none = on-taken k ∙ first-by (list_any (is_request k) a.server.slots) none none

  -- another request, whose slot it may take
  pub record Replaces (t r : ℕ) (o : Option Served) : Type 0 where
    pub none : o ≡ None
    pub begins : list_any (is_request k) a.server.slots ≡ false
    pub session : n ≡ t
    pub slot : k % 8 ≡ r % 8

  slot-out : (r : ℕ) → k % 8 ≡ r % 8 → find (is_request r) (without_first (in_slot_of k) a.server.slots) ≡ None
  slot-out r e =
      let few : in_place (k % 8) (without_first (in_slot_of k) a.server.slots) ≤ 0 =
      count-out (in_slot_of k) a.server.slots (sound.apart (k % 8)) in
      let fewer = count-fewer (is_request r) (in_slot_of k) (λ q h. let own = request-slot r q h in rw (← e) at own) (without_first (in_slot_of k) a.server.slots) in
      none-found (is_request r) (without_first (in_slot_of k) a.server.slots) (omega arith)

  beside : (r : ℕ) (b : Bool) → (k % 8 == r % 8) ≡ b → (k == r) ≡ false
      → list_any (is_request k) a.server.slots ≡ false
      → (find (is_request r) (without_first (in_slot_of k) a.server.slots
      ++ first_packet k a.header body ∷ []) ≡ find (is_request r) a.server.slots)
      ⊎ ((k % 8 ≡ r % 8) × (find (is_request r)
      (without_first (in_slot_of k) a.server.slots ++ first_packet k a.header body ∷ []) ≡ None))
  beside r true t e none =
      let slot : k % 8 ≡ r % 8 = eqb-true (k % 8) (r % 8) t in
      inr (
        slot,
        push-other (is_request r) (without_first (in_slot_of k) a.server.slots)
            (first_packet k a.header body) e ∙ slot-out r slot,
      )
  beside r false t e none =
      inl (push-other (is_request r) (without_first (in_slot_of k) a.server.slots)
      (first_packet k a.header body) e ∙ skip-found (in_slot_of k) (is_request r) a.server.slots
      (λ q h. off-slot q.number h))
    where
      off-slot : (i : ℕ) → (i % 8 == k % 8) ≡ true → (i == r) ≡ false
      off-slot i h =
          ne_eqb i r (λ e.
          let same = eq-eqb (k % 8) (r % 8) (sym (eqb-true (i % 8) (k % 8) h) ∙ ap (λ m. m % 8) e) in cc)

  others-by : (r : ℕ) (b : Bool) → list_any (is_request k) a.server.slots ≡ b → (k == r) ≡ false
      → (find (is_request r) (cond b (at_first (is_request k) (next_packet body) a.server.slots)
      (without_first (in_slot_of k) a.server.slots ++ first_packet k a.header body ∷ []))
      ≡ find (is_request r) a.server.slots)
      ⊎ ((k % 8 ≡ r % 8) × (find (is_request r)
      (cond b (at_first (is_request k) (next_packet body) a.server.slots)
      (without_first (in_slot_of k) a.server.slots ++ first_packet k a.header body ∷ [])) ≡ None)
      × (list_any (is_request k) a.server.slots ≡ false))
  others-by r true t e =
      inl (unchanged-found (is_request k) (is_request r) (next_packet body) (λ q. refl)
      (λ q h. off-number q.number k r e h) a.server.slots)
  others-by r false t e = with-none (beside r (k % 8 == r % 8) refl e t)
    where
      with-none : {A B C : Type 0} → A ⊎ (B × C) → A ⊎ (B × C × (list_any (is_request k) a.server.slots ≡ false))
      with-none (inl x) = inl x
      with-none (inr y) = inr (y.0, y.1, t)

  on-own : (r : ℕ) → (k == r) ≡ false → (request_of n r taken ≡ request_of n r s.servers)
      ⊎ Replaces n r (request_of n r taken)
  on-own r e = at (others-by r (list_any (is_request k) a.server.slots) refl e)
    where
      at : (find (is_request r) (took_packet k (Some a.header) body a.server.slots)
          ≡ find (is_request r) a.server.slots)
          ⊎ ((k % 8 ≡ r % 8) × (find (is_request r)
          (took_packet k (Some a.header) body a.server.slots) ≡ None)
          × (list_any (is_request k) a.server.slots ≡ false))
          → (request_of n r taken ≡ request_of n r s.servers) ⊎ Replaces n r (request_of n r taken)
      at (inl h) =
          let before : find (is_request r) a.server.slots ≡ request_of n r s.servers =
          sym (ap (λ o. request_on r o) a.found) in
          inl (on-taken r ∙ (h ∙ before))
      at (inr h) = inr (record { none = on-taken r ∙ h.1; begins = h.2; session = refl; slot = h.0 })

  others-on : (t r : ℕ) (b : Bool) → (n == t) ≡ b → (b && k == r) ≡ false
      → (request_of t r taken ≡ request_of t r s.servers) ⊎ Replaces t r (request_of t r taken)
  others-on t r true e off =
      subst (λ (m : ℕ). (request_of m r taken ≡ request_of m r s.servers)
      ⊎ Replaces m r (request_of m r taken)) (eqb-true n t e) (on-own r off)
  others-on t r false e off =
      inl (off-session t r n (λ v. record v { slots = took_packet k (Some a.header) body v.slots })
      (λ v. refl) e s.servers)

  pub look-others : (t r : ℕ) → (n == t && k == r) ≡ false
      → (request_of t r taken ≡ request_of t r s.servers) ⊎ Replaces t r (request_of t r taken)
  look-others t r off = others-on t r (n == t) refl off
