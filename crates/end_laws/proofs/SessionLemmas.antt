-- The server sessions of a node by their numbers: each stands alone, and one that ended is over.
use Rattle.std.proofs.Common.{◌≡◌, ◌<◌, ◌≤◌, ◌+◌, ◌==◌, ℕ, Bool, true, false, cond, leb}
use Rattle.std.proofs.Common.{List, [], ◌∷◌, ◌++◌, Option, Some, None, refl, sym, ◌∙◌, arith}
use Rattle.std.specs.Prelude.{count_by}
use Rattle.std.specs.List.{find, list_any}
use Rattle.std.proofs.lemmas.Bool.{eqb-true}
use Rattle.std.proofs.lemmas.Bool.Decides.{nat_tests}
use Rattle.std.proofs.lemmas.List.Sums.{sum_by_push}
use Rattle.packet_header.specs.declared.packet.MessageHeader.{MessageHeader}
use Rattle.rpc_base.specs.Tables.{at_first, without_first}
use Rattle.rpc_base.proofs.BasicLemmas.{false-true}
use Rattle.rpc_base.proofs.FirstLemmas.{counted-none, found-any, some-counted, sum-fewer, sum-grown}
use Rattle.rpc_base.proofs.FirstLemmas.{counted-cons}
use Rattle.rpc_base.proofs.TakingLemmas.{find-passes}
use Rattle.rpc_base.specs.declared.event.Event.{Event}
use Rattle.rpc_base.specs.declared.event.Event.TheVariants.{PairedServer, Accepted, Ended, Took}
use Rattle.rpc_base.specs.declared.event.Event.TheVariants.{Given, Ran}
use Rattle.rpc_base.specs.declared.owner.Owner.TheVariants.{Ask, Reply, Control}
use Rattle.rpc_laws.specs.declared.tables.InFlight.{InFlight}
use Rattle.rpc_laws.specs.declared.tables.Lists.{Lists}
use Rattle.rpc_laws.specs.declared.tables.Server.{Server}
use Rattle.rpc_laws.specs.Requests.{is_server, is_request, server_end, took_packet, given, answered}
use Rattle.rpc_laws.specs.Requests.{servers_after, server_numbers_after}
use Rattle.node_laws.specs.Valid.{to_come}
use Rattle.node_laws.proofs.ServedLemmas.{next-one}
use Rattle.end_laws.proofs.Allowed.{May}

-- what isn't there isn't there after the first of others changes or goes
module _ {A : Type 0} (q : A → Bool) where
  none-first-cons : (p : A → Bool) (f : A → A) (x : A) (xs : List A) (b c : Bool) → q x ≡ c
      → q (f x) ≡ q x → cond c (Some x) (find q xs) ≡ None
      → (find q xs ≡ None → find q (at_first p f xs) ≡ None)
      → find q (cond b (f x ∷ xs) (x ∷ at_first p f xs)) ≡ None
  none-first-cons p f x xs b true t keep h ih = cc
  none-first-cons p f x xs true false t keep h ih =
      let no : q (f x) ≡ false = keep ∙ t in
      rw no h
  none-first-cons p f x xs false false t keep h ih = rw t (ih h)

  pub none-first : (p : A → Bool) (f : A → A) (xs : List A) → ((x : A) → q (f x) ≡ q x)
      → find q xs ≡ None → find q (at_first p f xs) ≡ None
  none-first p f [] keep h = refl
  none-first p f (x ∷ xs) keep h =
      none-first-cons p f x xs (p x) (q x) refl (keep x) h (none-first p f xs keep)

  none-left-cons : (p : A → Bool) (x : A) (xs : List A) (b c : Bool) → q x ≡ c
      → cond c (Some x) (find q xs) ≡ None
      → (find q xs ≡ None → find q (without_first p xs) ≡ None)
      → find q (cond b xs (x ∷ without_first p xs)) ≡ None
  none-left-cons p x xs b true t h ih = cc
  none-left-cons p x xs true false t h ih = h
  none-left-cons p x xs false false t h ih = rw t (ih h)

  pub none-left : (p : A → Bool) (xs : List A) → find q xs ≡ None → find q (without_first p xs)
      ≡ None
  none-left p [] h = refl
  none-left p (x ∷ xs) h = none-left-cons p x xs (p x) (q x) refl h (none-left p xs)

  none-add-cons : (x : A) (xs : List A) (y : A) (c : Bool) → cond c (Some x) (find q xs) ≡ None
      → (find q xs ≡ None → find q (xs ++ y ∷ []) ≡ None)
      → cond c (Some x) (find q (xs ++ y ∷ [])) ≡ None
  none-add-cons x xs y true h ih = cc
  none-add-cons x xs y false h ih = ih h

  pub none-add : (xs : List A) (y : A) → q y ≡ false → find q xs ≡ None → find q (xs ++ y ∷ [])
      ≡ None
  none-add [] y t h = rw t refl
  none-add (x ∷ xs) y t h = none-add-cons x xs y (q x) h (none-add xs y t)

  add-new-cons : (x : A) (xs : List A) (y : A) (c : Bool) → cond c (Some x) (find q xs) ≡ None
      → (find q xs ≡ None → find q (xs ++ y ∷ []) ≡ Some y)
      → cond c (Some x) (find q (xs ++ y ∷ [])) ≡ Some y
  add-new-cons x xs y true h ih = cc
  add-new-cons x xs y false h ih = ih h

  -- where none is there, the one that is added is found
  pub add-new : (xs : List A) (y : A) → q y ≡ true → find q xs ≡ None → find q (xs ++ y ∷ [])
      ≡ Some y
  add-new [] y t h = rw t refl
  add-new (x ∷ xs) y t h = add-new-cons x xs y (q x) h (add-new xs y t)

  none-by : (o : Option A) (xs : List A) → find q xs ≡ o → list_any q xs ≡ false → o ≡ None
  none-by None xs e h = refl
  none-by (Some x) xs e h = false-true (sym h ∙ found-any q xs x e)

  -- none is found where none is counted
  pub none-found : (xs : List A) → count_by q xs ≡ 0 → find q xs ≡ None
  none-found xs h = none-by (find q xs) xs refl (counted-none q xs h)

  gone-cons : (x : A) (xs : List A) (b : Bool) → q x ≡ b → count_by q (x ∷ xs) ≤ 1
      → (count_by q xs ≤ 1 → find q (without_first q xs) ≡ None)
      → find q (cond b xs (x ∷ without_first q xs)) ≡ None
  gone-cons x xs true t few ih =
      none-found xs (let sum = counted-cons q x xs true t in omega arith)
  gone-cons x xs false t few ih =
      rw t (ih (let sum = counted-cons q x xs false t in omega arith))

  -- where one stands alone, it is gone once it is taken out
  pub gone-first : (xs : List A) → count_by q xs ≤ 1 → find q (without_first q xs) ≡ None
  gone-first [] few = refl
  gone-first (x ∷ xs) few = gone-cons x xs (q x) refl few (gone-first xs)

-- no number stands twice, or comes again
abbrev pub Alone : ℕ → List Server → Type 0
Alone used xs = (t : ℕ) → count_by (is_server t) xs + to_come used t ≤ 1

-- session t was there, and ended
pub record Over (xs : List Server) (used t : ℕ) : Type 0 where
  pub low : t < used
  pub gone : find (is_server t) xs ≡ None

module _ (t : ℕ) where
  abbrev one : Server → ℕ
  one v = cond (is_server t v) 1 0

  pub made-alone : (n peer c credits life used : ℕ) (xs : List Server) → n ≡ used
      → count_by (is_server t) xs + to_come used t ≤ 1
      → count_by (is_server t) (xs ++ server_end n peer c credits life ∷ []) + to_come (used + 1) t ≤ 1
  made-alone n peer c credits life used xs e h =
      let push = sum_by_push one xs (server_end n peer c credits life) in
      next-one t used n (count_by (is_server t) xs) _ e h (omega arith)

  kept-alone : (p : Server → Bool) (f : Server → Server) → ((v : Server) → (f v).way ≡ v.way)
      → (xs : List Server) (come : ℕ) → count_by (is_server t) xs + come ≤ 1
      → count_by (is_server t) (at_first p f xs) + come ≤ 1
  kept-alone p f same xs come h =
      let grown = sum-grown p f one 0 xs (λ v. rw (same v) (omega arith)) in omega arith

  pub alone-after : (hand : Option InFlight) (l : Lists) (e : Event) (first second : List ℕ)
      (head : Option MessageHeader) (body : List ℕ) → May hand l e first second
      → count_by (is_server t) l.servers + to_come l.server_numbers t ≤ 1
      → count_by (is_server t) (servers_after e second head body l.servers)
      + to_come (server_numbers_after e l.server_numbers) t ≤ 1
  alone-after hand l (PairedServer n peer c credits life) first second head body m h = absurd m
  alone-after hand l (Accepted n peer c credits life) first second head body m h =
      made-alone n peer c credits life l.server_numbers l.servers m.0 h
  alone-after hand l (Ended n) first second head body m h =
      let fewer = sum-fewer (is_server n) one l.servers in omega arith
  alone-after hand l (Took (Reply n r) k) first second head body m h =
      kept-alone (is_server n) (λ v. record v { slots = took_packet r head body v.slots })
      (λ v. refl) l.servers (to_come l.server_numbers t) h
  alone-after hand l (Took (Ask n r) k) first second head body m h = h
  alone-after hand l (Took Control k) first second head body m h = h
  alone-after hand l (Given n r) first second head body m h =
      kept-alone (is_server n) (λ v. record v { slots = at_first (is_request r) given v.slots })
      (λ v. refl) l.servers (to_come l.server_numbers t) h
  alone-after hand l (Ran n r y) first second head body m h =
      kept-alone (is_server n)
      (λ v. record v { slots = at_first (is_request r) (answered second) v.slots }) (λ v. refl)
      l.servers (to_come l.server_numbers t) h
  alone-after hand l _ first second head body m h = h

  low-by : (used : ℕ) (b : Bool) (c : ℕ) → leb used t ≡ b → 1 ≤ c → c + cond b 1 0 ≤ 1 → t < used
  low-by used true c e some h = absurd (omega arith)
  low-by used false c e some h = grind (arith, nat_tests)

  -- a session that is there was made
  pub low-found : (used : ℕ) (xs : List Server) (v : Server) → Alone used xs
      → find (is_server t) xs ≡ Some v → t < used
  low-found used xs v alone is =
      let some = some-counted (is_server t) (is_server t) xs v is
      (find-passes (is_server t) xs v is) in
      low-by used (leb used t) (count_by (is_server t) xs) refl some (alone t)

  come-by : (used : ℕ) (b : Bool) (c : ℕ) → leb used t ≡ b → used ≤ t → c + cond b 1 0 ≤ 1 → c ≡ 0
  come-by used true c e le h = omega arith
  come-by used false c e le h = absurd (grind (arith, nat_tests))

  -- one that wasn't made isn't there
  pub none-made : (used : ℕ) (xs : List Server) → Alone used xs → used ≤ t → find (is_server t) xs
      ≡ None
  none-made used xs alone le =
      none-found (is_server t) xs (come-by used (leb used t) (count_by (is_server t) xs) refl le
      (alone t))

  other-number : (n : ℕ) (b : Bool) → (n == t) ≡ b → t < n → b ≡ false
  other-number n true e lt = let same = eqb-true n t e in absurd (omega arith)
  other-number n false e lt = refl

  -- what is over stays so where another session is made
  pub over-added : (n peer c credits life used : ℕ) (xs : List Server) → n ≡ used → Over xs used t
      → Over (xs ++ server_end n peer c credits life ∷ []) (used + 1) t
  over-added n peer c credits life used xs e h =
      let low = h.low in
      record {
        low = omega arith;
        gone = none-add (is_server t) xs (server_end n peer c credits life)
            (other-number n (n == t) refl (omega arith)) h.gone;
      }

  -- and by each other fact
  pub over-after : (hand : Option InFlight) (l : Lists) (e : Event) (first second : List ℕ)
      (head : Option MessageHeader) (body : List ℕ) → May hand l e first second
      → Over l.servers l.server_numbers t
      → Over (servers_after e second head body l.servers)
      (server_numbers_after e l.server_numbers) t
  over-after hand l (PairedServer n peer c credits life) first second head body m h = absurd m
  over-after hand l (Accepted n peer c credits life) first second head body m h =
      over-added n peer c credits life l.server_numbers l.servers m.0 h
  over-after hand l (Ended n) first second head body m h =
      record { low = h.low; gone = none-left (is_server t) (is_server n) l.servers h.gone }
  over-after hand l (Took (Reply n r) k) first second head body m h =
      record {
        low = h.low;
        gone = none-first (is_server t) (is_server n)
            (λ v. record v { slots = took_packet r head body v.slots }) l.servers
            (λ v. refl) h.gone;
      }
  over-after hand l (Took (Ask n r) k) first second head body m h = h
  over-after hand l (Took Control k) first second head body m h = h
  over-after hand l (Given n r) first second head body m h =
      record {
        low = h.low;
        gone = none-first (is_server t) (is_server n)
            (λ v. record v { slots = at_first (is_request r) given v.slots }) l.servers
            (λ v. refl) h.gone;
      }
  over-after hand l (Ran n r y) first second head body m h =
      record {
        low = h.low;
        gone = none-first (is_server t) (is_server n)
            (λ v. record v { slots = at_first (is_request r) (answered second) v.slots }) l.servers
            (λ v. refl) h.gone;
      }
  over-after hand l _ first second head body m h = h

  -- a session that ends is over
  pub over-ended : (used : ℕ) (xs : List Server) (v : Server) → Alone used xs
      → find (is_server t) xs ≡ Some v → Over (without_first (is_server t) xs) used t
  over-ended used xs v alone is =
      let few = alone t in
      record {
        low = low-found used xs v alone is;
        gone = gone-first (is_server t) xs (omega arith);
      }
