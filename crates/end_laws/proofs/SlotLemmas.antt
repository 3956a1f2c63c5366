-- The requests of a server session stand in slots of their own.
use Rattle.std.proofs.Common.{◌≡◌, ◌==◌, ◌||◌, ℕ, Bool, true, false, cond, List, [], ◌∷◌, ◌++◌}
use Rattle.std.proofs.Common.{Option, Some, None, refl, sym, ap, ◌∙◌, eqb}
use Rattle.std.specs.Prelude.{◌%◌}
use Rattle.std.specs.List.{find, list_any, AllByRecursion}
use Rattle.std.proofs.lemmas.Bool.{eqb-true, eqb-false}
use Rattle.packet_header.specs.declared.packet.MessageHeader.{MessageHeader}
use Rattle.rpc_base.specs.Tables.{at_first, without_first}
use Rattle.rpc_base.specs.declared.event.Event.{Event}
use Rattle.rpc_base.specs.declared.event.Event.TheVariants.{PairedServer, Accepted, Ended, Took, Given, Ran}
use Rattle.rpc_base.specs.declared.owner.Owner.TheVariants.{Ask, Reply, Control}
use Rattle.rpc_base.specs.declared.fact.Fact.{Fact}
use Rattle.rpc_laws.specs.declared.tables.Lists.{Lists}
use Rattle.rpc_laws.specs.declared.tables.Served.{Served}
use Rattle.rpc_laws.specs.declared.tables.Server.{Server}
use Rattle.rpc_laws.specs.Front.{front_header, front_body}
use Rattle.rpc_laws.specs.NodeLists.{after}
use Rattle.rpc_laws.specs.Requests.{is_server, is_request, in_slot_of, first_packet, next_packet}
use Rattle.rpc_laws.specs.Requests.{took_packet, given, answered, servers_after}
use Rattle.end_laws.proofs.ListLemmas.{all-first, all-add, all-without}
use Rattle.rpc_base.proofs.BasicLemmas.{or-false, false-true}
use Rattle.node_laws.proofs.ServerLemmas.{request-slot}

pub false-or : (a b : Bool) → a ≡ false → b ≡ false → (a || b) ≡ false
false-or a b h k = rw (h, k) refl

module _ {A : Type 0} where
  any-first-cons : (r p : A → Bool) (f : A → A) (z : A) (zs : List A) (b : Bool)
      → ((x : A) → r (f x) ≡ r x) → list_any r (at_first p f zs) ≡ list_any r zs
      → list_any r (cond b (f z ∷ zs) (z ∷ at_first p f zs)) ≡ (r z || list_any r zs)
  any-first-cons r p f z zs true keep ih = rw (keep z) refl
  any-first-cons r p f z zs false keep ih = rw ih refl

  any-first : (r p : A → Bool) (f : A → A) (xs : List A) → ((x : A) → r (f x) ≡ r x)
      → list_any r (at_first p f xs) ≡ list_any r xs
  any-first r p f [] keep = refl
  any-first r p f (z ∷ zs) keep = any-first-cons r p f z zs (p z) keep (any-first r p f zs keep)

  any-without-cons : (r p : A → Bool) (z : A) (zs : List A) (b : Bool) → (r z ≡ false)
      × (list_any r zs ≡ false) → list_any r (without_first p zs) ≡ false
      → list_any r (cond b zs (z ∷ without_first p zs)) ≡ false
  any-without-cons r p z zs true h ih = h.1
  any-without-cons r p z zs false h ih = false-or (r z) (list_any r (without_first p zs)) h.0 ih

  any-without : (r p : A → Bool) (xs : List A) → list_any r xs ≡ false → list_any r (without_first p xs) ≡ false
  any-without r p [] h = refl
  any-without r p (z ∷ zs) h =
      let parts = or-false (r z) (list_any r zs) h in
      any-without-cons r p z zs (p z) parts (any-without r p zs parts.1)

  any-add : (r : A → Bool) (xs : List A) (y : A) → list_any r xs ≡ false → r y ≡ false
      → list_any r (xs ++ y ∷ []) ≡ false
  any-add r [] y h k = false-or (r y) false k refl
  any-add r (x ∷ xs) y h k =
      let parts = or-false (r x) (list_any r xs) h in
      false-or (r x) (list_any r (xs ++ y ∷ [])) parts.0 (any-add r xs y parts.1 k)

  pub find-added : (p : A → Bool) (xs : List A) (y : A) → list_any p xs ≡ false → p y ≡ true
      → find p (xs ++ y ∷ []) ≡ Some y
  find-added p [] y h k = rw k refl
  find-added p (x ∷ xs) y h k =
      let parts = or-false (p x) (list_any p xs) h in
      rw (parts.0) (find-added p xs y parts.1 k)

  find-any-cons : (p : A → Bool) (z : A) (zs : List A) (b : Bool) → (b || list_any p zs) ≡ true
      → (list_any p zs ≡ true → (x : A) × (find p zs ≡ Some x)) → (x : A)
      × (cond b (Some z) (find p zs) ≡ Some x)
  find-any-cons p z zs true h ih = (z, refl)
  find-any-cons p z zs false h ih = ih h

  pub find-any : (p : A → Bool) (xs : List A) → list_any p xs ≡ true → (x : A) × (find p xs ≡ Some x)
  find-any p [] h = false-true h
  find-any p (z ∷ zs) h = find-any-cons p z zs (p z) h (find-any p zs)

  any-find-cons : (p : A → Bool) (z : A) (zs : List A) (x : A) (b : Bool)
      → cond b (Some z) (find p zs) ≡ Some x → (find p zs ≡ Some x → list_any p zs ≡ true)
      → (b || list_any p zs) ≡ true
  any-find-cons p z zs x true h ih = refl
  any-find-cons p z zs x false h ih = ih h

  pub any-find : (p : A → Bool) (xs : List A) (x : A) → find p xs ≡ Some x → list_any p xs ≡ true
  any-find p [] x h = cc
  any-find p (z ∷ zs) x h = any-find-cons p z zs x (p z) h (any-find p zs x)

-- a server session with other requests
abbrev pub with_slots : (List Served → List Served) → Server → Server
with_slots change v = record v { slots = change v.slots }

-- no two requests are of one slot
abbrev pub Apart : List Served → Type 0
Apart [] = Unit {0}
Apart (q ∷ qs) = (list_any (in_slot_of q.number) qs ≡ false) × Apart qs

apart-first-cons : (p : Served → Bool) (f : Served → Served) (q : Served) (qs : List Served)
    (b : Bool) → ((x : Served) → (f x).number ≡ x.number)
    → list_any (in_slot_of q.number) qs ≡ false → Apart qs → Apart (at_first p f qs)
    → Apart (cond b (f q ∷ qs) (q ∷ at_first p f qs))
apart-first-cons p f q qs true keep none rest ih = (rw (keep q) none, rest)
apart-first-cons p f q qs false keep none rest ih =
    (any-first (in_slot_of q.number) p f qs (λ x. ap (λ n. n % 8 == q.number % 8) (keep x)) ∙ none, ih)

pub apart-first : (p : Served → Bool) (f : Served → Served) (qs : List Served)
    → ((x : Served) → (f x).number ≡ x.number) → Apart qs → Apart (at_first p f qs)
apart-first p f [] keep h = tt
apart-first p f (q ∷ qs) keep h = apart-first-cons p f q qs (p q) keep h.0 h.1 (apart-first p f qs keep h.1)

apart-without-cons : (p : Served → Bool) (q : Served) (qs : List Served) (b : Bool)
    → list_any (in_slot_of q.number) qs ≡ false → Apart qs → Apart (without_first p qs)
    → Apart (cond b qs (q ∷ without_first p qs))
apart-without-cons p q qs true none rest ih = rest
apart-without-cons p q qs false none rest ih = (any-without (in_slot_of q.number) p qs none, ih)

pub apart-without : (p : Served → Bool) (qs : List Served) → Apart qs → Apart (without_first p qs)
apart-without p [] h = tt
apart-without p (q ∷ qs) h = apart-without-cons p q qs (p q) h.0 h.1 (apart-without p qs h.1)

eqb-swap : (a b : ℕ) (t : Bool) → eqb b a ≡ t → eqb a b ≡ false → t ≡ false
eqb-swap a b true e h = absurd (eqb-false a b h (sym (eqb-true b a e)))
eqb-swap a b false e h = refl

apart-add : (qs : List Served) (q : Served) → Apart qs → list_any (in_slot_of q.number) qs ≡ false
    → Apart (qs ++ q ∷ [])
apart-add [] q h none = (refl, tt)
apart-add (z ∷ zs) q h none =
    let parts = or-false (in_slot_of q.number z) (list_any (in_slot_of q.number) zs) none in
    let other : in_slot_of z.number q ≡ false =
    eqb-swap (z.number % 8) (q.number % 8) (in_slot_of z.number q) refl parts.0 in
    (any-add (in_slot_of z.number) zs q h.0 other, apart-add zs q h.1 parts.1)

none-without-cons : (r : ℕ) (q : Served) (qs : List Served) (b : Bool) → in_slot_of r q ≡ b
    → list_any (in_slot_of q.number) qs ≡ false
    → list_any (in_slot_of r) (without_first (in_slot_of r) qs) ≡ false
    → list_any (in_slot_of r) (cond b qs (q ∷ without_first (in_slot_of r) qs)) ≡ false
none-without-cons r q qs true t none ih =
    let e : q.number % 8 ≡ r % 8 = eqb-true (q.number % 8) (r % 8) t in
    sym (ap (λ k. list_any (λ z. z.number % 8 == k) qs) e) ∙ none
none-without-cons r q qs false t none ih = false-or (in_slot_of r q) _ t ih

pub none-without : (r : ℕ) (qs : List Served) → Apart qs
    → list_any (in_slot_of r) (without_first (in_slot_of r) qs) ≡ false
none-without r [] h = refl
none-without r (q ∷ qs) h = none-without-cons r q qs (in_slot_of r q) refl h.0 (none-without r qs h.1)

apart-took-by : (r : ℕ) (h : MessageHeader) (body : List ℕ) (slots : List Served) (b : Bool)
    → Apart slots → Apart (cond b (at_first (is_request r) (next_packet body) slots)
    (without_first (in_slot_of r) slots ++ first_packet r h body ∷ []))
apart-took-by r h body slots true a = apart-first (is_request r) (next_packet body) slots (λ x. refl) a
apart-took-by r h body slots false a =
    apart-add (without_first (in_slot_of r) slots) (first_packet r h body)
    (apart-without (in_slot_of r) slots a) (none-without r slots a)

pub apart-took : (r : ℕ) (head : Option MessageHeader) (body : List ℕ) (slots : List Served)
    → Apart slots → Apart (took_packet r head body slots)
apart-took r None body slots a = a
apart-took r (Some h) body slots a = apart-took-by r h body slots (list_any (is_request r) slots) a

pub apart-answered : (r : ℕ) (answer : List ℕ) (slots : List Served) → Apart slots
    → Apart (at_first (is_request r) (answered answer) slots)
apart-answered r answer slots a = apart-first (is_request r) (answered answer) slots (λ x. refl) a

pub apart-given : (r : ℕ) (slots : List Served) → Apart slots → Apart (at_first (is_request r) given slots)
apart-given r slots a = apart-first (is_request r) given slots (λ x. refl) a

-- so are the requests of all sessions of a node
abbrev pub Sound : Lists → Type 0
Sound l = AllByRecursion (λ v. Apart v.slots) l.servers

sound-servers : (e : Event) (answer : List ℕ) (head : Option MessageHeader) (body : List ℕ)
    (xs : List Server) → AllByRecursion (λ v. Apart v.slots) xs
    → AllByRecursion (λ v. Apart v.slots) (servers_after e answer head body xs)
sound-servers (PairedServer t peer s credits life) answer head body xs h = all-add (λ v. Apart v.slots) xs _ h tt
sound-servers (Accepted t peer s credits life) answer head body xs h = all-add (λ v. Apart v.slots) xs _ h tt
sound-servers (Ended t) answer head body xs h = all-without (λ v. Apart v.slots) (is_server t) xs h
sound-servers (Took (Reply t r) k) answer head body xs h =
    all-first (λ v. Apart v.slots) (λ v. Apart v.slots) (is_server t) _ xs (λ v a. a)
    (λ v is a. apart-took r head body v.slots a) h
sound-servers (Took (Ask s r) k) answer head body xs h = h
sound-servers (Took Control k) answer head body xs h = h
sound-servers (Given t r) answer head body xs h =
    all-first (λ v. Apart v.slots) (λ v. Apart v.slots) (is_server t) _ xs (λ v a. a)
    (λ v is a. apart-given r v.slots a) h
sound-servers (Ran t r y) answer head body xs h =
    all-first (λ v. Apart v.slots) (λ v. Apart v.slots) (is_server t) _ xs (λ v a. a)
    (λ v is a. apart-answered r answer v.slots a) h
sound-servers _ answer head body xs h = h

pub sound-stays : (clock : ℕ) (l : Lists) (f : Fact) → Sound l → Sound (after clock l f)
sound-stays clock l f h = sound-servers f.event f.second (front_header l.ring) (front_body l.ring) l.servers h

slot-of-cons : (r : ℕ) (z : Served) (zs : List Served) (q : Served) (a b : Bool)
    → is_request r z ≡ a → in_slot_of r z ≡ b → list_any (in_slot_of z.number) zs ≡ false
    → cond a (Some z) (find (is_request r) zs) ≡ Some q
    → (find (is_request r) zs ≡ Some q → find (in_slot_of r) zs ≡ Some q)
    → cond b (Some z) (find (in_slot_of r) zs) ≡ Some q
slot-of-cons r z zs q true true s t none h ih = h
slot-of-cons r z zs q true false s t none h ih = false-true (sym t ∙ request-slot r z s)
slot-of-cons r z zs q false true s t none h ih =
    let e : z.number % 8 ≡ r % 8 = eqb-true (z.number % 8) (r % 8) t in
    let no : list_any (in_slot_of r) zs ≡ false = sym (ap (λ k. list_any (λ z. z.number % 8 == k) zs) e) ∙ none in
    false-true (sym no ∙ any-find (in_slot_of r) zs q (ih h))
slot-of-cons r z zs q false false s t none h ih = ih h

pub slot-of-request : (r : ℕ) (slots : List Served) (q : Served) → Apart slots
    → find (is_request r) slots ≡ Some q → find (in_slot_of r) slots ≡ Some q
slot-of-request r [] q a h = cc
slot-of-request r (z ∷ zs) q a h =
    slot-of-cons r z zs q (is_request r z) (in_slot_of r z) refl refl a.0 h
    (slot-of-request r zs q a.1)

of-slot-cons : (r : ℕ) (z : Served) (zs : List Served) (q : Served) (a b : Bool)
    → is_request r z ≡ a → in_slot_of r z ≡ b → q.number ≡ r
    → cond b (Some z) (find (in_slot_of r) zs) ≡ Some q
    → (find (in_slot_of r) zs ≡ Some q → find (is_request r) zs ≡ Some q)
    → cond a (Some z) (find (is_request r) zs) ≡ Some q
of-slot-cons r z zs q true true s t n h ih = h
of-slot-cons r z zs q true false s t n h ih = false-true (sym t ∙ request-slot r z s)
of-slot-cons r z zs q false true s t n h ih =
    let same : z ≡ q = cc in
    let e : z.number ≡ r = ap (λ (x : Served). x.number) same ∙ n in
    absurd (eqb-false z.number r s e)
of-slot-cons r z zs q false false s t n h ih = ih h

pub request-of-slot : (r : ℕ) (slots : List Served) (q : Served)
    → find (in_slot_of r) slots ≡ Some q → q.number ≡ r → find (is_request r) slots ≡ Some q
request-of-slot r [] q h n = cc
request-of-slot r (z ∷ zs) q h n =
    of-slot-cons r z zs q (is_request r z) (in_slot_of r z) refl refl n h
    (λ k. request-of-slot r zs q k n)
