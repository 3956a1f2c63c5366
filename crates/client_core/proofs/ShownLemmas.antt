-- What is shown of a session, for the definitions over histories: what begins and is posted next there,
-- and what each call of the session is there.
use Rattle.std.proofs.Common.{◌≡◌, ℕ, ◌+◌, ◌-◌, ◌*◌, ◌%◌, ◌<◌, Bool, true, false, not, ◌||◌, cond}
use Rattle.std.proofs.Common.{Option, Some, None, List, [], ◌∷◌, ◌++◌, length, drop, get_or, refl}
use Rattle.std.proofs.Common.{sym, ap, ◌∙◌, inl, inr, arith, eqb, ltb}
use Rattle.std.specs.Prelude.{◌⊎◌, slice_get, is_none, map, option_and_then, option_map, position}
use Rattle.std.specs.List.{AllByRecursion, find, list_any, position_or_len}
use Rattle.std.specs.Option.{option_or}
use Rattle.std.proofs.lemmas.Bool.{eq-eqb}
use Rattle.std.proofs.lemmas.List.{append_assoc, map-append}
use Rattle.std.proofs.lemmas.List.Folds.{find-append, list_any-append}
use Rattle.rpc_base.specs.Tables.{at_first}
use Rattle.rpc_base.specs.declared.event.Event.TheVariants.{Begun}
use Rattle.buffer_pool.specs.Pool.{Pool, buf_at, filled, lowest_empty}
use Rattle.credit_book.specs.Credits.{charged, limit_of}
use Rattle.session_slots.specs.declared.waiting.Waiting.{Waiting}
use Rattle.session_slots.specs.Slots.{Begins, Slots, begun as begun_slots, lowest_free}
use Rattle.rpc_laws.specs.Calls.{begun, is_active, is_call, is_waiting, moved, posted_up_to}
use Rattle.rpc_laws.specs.Posting.{beginning, can_post as may_post, holds_slot, is_taken}
use Rattle.rpc_laws.specs.Posting.{lowest_free as lowest_untaken, next_packet, next_turn, posting}
use Rattle.client_core.specs.declared.call.ActiveCall.{ActiveCall}
use Rattle.client_core.specs.Session.{Session, IsSession, begun_as, can_post, enqueued, is_in_slot}
use Rattle.client_core.specs.KeepsPool.{IsKept, KeepsPool, held_at, released_at}
use Rattle.client_core.specs.Posting.{entry_of, next_entry, one_posted, started}
use Rattle.client_core.specs.Shown.{asked, begun_event, posted_event, shown, shown_active, shown_waiting, stepped}
use Rattle.packet_header.specs.Parts.{packet_count}
use Rattle.packet_header.proofs.PartsLemmas.{packet_count_above}
use Rattle.rpc_laws.specs.Sessions.{has_call}
use Rattle.client_core.proofs.PoolLemmas.{ask-buffer, same-answer, same-ask}
use Rattle.client_core.proofs.SessionLemmas.{request-call}
use Rattle.rpc_base.proofs.BasicLemmas.{or-none}
use Rattle.rpc_base.proofs.ChangedLemmas.{same-first}
use Rattle.message_buffer.specs.Messages.{HasSize}
use Rattle.message_buffer.proofs.MessageLemmas.{message-length}
use Rattle.rpc_base.proofs.BasicLemmas.{or-true}

-- what is found of what is shown
module _ {A B : Type 0} (g : A → B) where
  found-cons : (p : B → Bool) (q : A → Bool) (x : A) (xs : List A) (b : Bool)
      → find p (map g xs) ≡ option_map g (find q xs)
      → cond b (Some (g x)) (find p (map g xs)) ≡ option_map g (cond b (Some x) (find q xs))
  found-cons p q x xs true ih = refl
  found-cons p q x xs false ih = ih

  pub found-shown : (p : B → Bool) (q : A → Bool) (xs : List A)
      → AllByRecursion (λ x. p (g x) ≡ q x) xs → find p (map g xs) ≡ option_map g (find q xs)
  found-shown p q [] same = refl
  found-shown p q (x ∷ xs) same = rw same.0 (found-cons p q x xs (q x) (found-shown p q xs same.1))

  pub none-shown : (p : B → Bool) (xs : List A) → ((x : A) → p (g x) ≡ false) → find p (map g xs) ≡ None
  none-shown p [] fails = refl
  none-shown p (x ∷ xs) fails = rw (fails x) (none-shown p xs fails)

  pub any-shown : (p : B → Bool) (q : A → Bool) (xs : List A) → ((x : A) → p (g x) ≡ q x)
      → list_any p (map g xs) ≡ list_any q xs
  any-shown p q [] same = refl
  any-shown p q (x ∷ xs) same = rw (same x) (ap (λ b. q x || b) (any-shown p q xs same))

  pub any-none : (p : B → Bool) (xs : List A) → ((x : A) → p (g x) ≡ false) → list_any p (map g xs) ≡ false
  any-none p [] fails = refl
  any-none p (x ∷ xs) fails = rw (fails x) (any-none p xs fails)

  unchanged-cons : (p : A → Bool) (f : A → A) (x : A) (xs : List A) (b : Bool) → g (f x) ≡ g x
      → map g (at_first p f xs) ≡ map g xs
      → map g (cond b (f x ∷ xs) (x ∷ at_first p f xs)) ≡ map g (x ∷ xs)
  unchanged-cons p f x xs true same ih = ap (λ y. y ∷ map g xs) same
  unchanged-cons p f x xs false same ih = ap (λ ys. g x ∷ ys) ih

  pub unchanged-shown : (p : A → Bool) (f : A → A) (xs : List A) → ((x : A) → g (f x) ≡ g x)
      → map g (at_first p f xs) ≡ map g xs
  unchanged-shown p f [] same = refl
  unchanged-shown p f (x ∷ xs) same = unchanged-cons p f x xs (p x) (same x) (unchanged-shown p f xs same)

  -- the element that is found changes, and so does what is shown of it
  module _ (p : B → Bool) (q : A → Bool) (f : B → B) (h : A → A) (c : A) (rest : List B) where
    changed-cons : (x : A) (xs : List A) (b : Bool) → f (g c) ≡ g (h c)
        → (find q xs ≡ Some c → at_first p f (map g xs ++ rest) ≡ map g (at_first q h xs) ++ rest)
        → cond b (Some x) (find q xs) ≡ Some c
        → cond b (f (g x) ∷ (map g xs ++ rest)) (g x ∷ at_first p f (map g xs ++ rest))
        ≡ map g (cond b (h x ∷ xs) (x ∷ at_first q h xs)) ++ rest
    changed-cons x xs true same ih e = let is : x ≡ c = cc in rw is (ap (λ y. y ∷ (map g xs ++ rest)) same)
    changed-cons x xs false same ih e = ap (λ ys. g x ∷ ys) (ih e)

    pub changed-shown : (xs : List A) → ((x : A) → p (g x) ≡ q x) → f (g c) ≡ g (h c)
        → find q xs ≡ Some c → at_first p f (map g xs ++ rest) ≡ map g (at_first q h xs) ++ rest
    changed-shown [] tests same e = cc
    changed-shown (x ∷ xs) tests same e = rw (tests x) (changed-cons x xs (q x) same (changed-shown xs tests same) e)

-- bytes don't change where a place is held or released
held-same : (pool : Pool) (place : Option ℕ) (calls : List ActiveCall)
    → map (shown_active (held_at place pool)) calls ≡ map (shown_active pool) calls
held-same pool None calls = refl
held-same pool (Some p) calls = refl

pub released-same : (pool : Pool) (place : Option ℕ) (calls : List ActiveCall)
    → map (shown_active (released_at place pool)) calls ≡ map (shown_active pool) calls
released-same pool None calls = refl
released-same pool (Some p) calls = refl

-- what may be posted
may-post-shown : (pool : Pool) (calls : List ActiveCall) → AllByRecursion (IsKept pool) calls
    → AllByRecursion (λ c. may_post (shown_active pool c) ≡ can_post c) calls
may-post-shown pool [] kept = tt
may-post-shown pool (c ∷ cs) kept =
    (rw (message-length (buf_at pool c.ask) c.len kept.0.size) refl, may-post-shown pool cs kept.1)

posting-cases : (pool : Pool) (number peer : ℕ) (b : Bool) (o : Option ActiveCall)
    → cond b None (option_and_then (λ c. next_packet number c.progress)
    (option_map (shown_active pool) o)) ≡ option_map posted_event
    (option_map (entry_of number peer) (cond b None o))
posting-cases pool number peer true o = refl
posting-cases pool number peer false None = refl
posting-cases pool number peer false (Some c) = refl

pub posting-shown : (pool : Pool) (peer : ℕ) (s : Session) → KeepsPool pool s.active
    → posting (shown pool peer s) ≡ option_map posted_event (next_entry peer s)
posting-shown pool peer s keeps =
    let active = found-shown (shown_active pool) may_post can_post s.active
    (may-post-shown pool s.active keeps.kept) in
    let waiting = none-shown shown_waiting may_post s.slots.waiting (λ w. refl) in
    let found : find may_post (shown pool peer s).calls
    ≡ option_map (shown_active pool) (find can_post s.active) =
    find-append may_post (map (shown_active pool) s.active)
    (map shown_waiting s.slots.waiting)
    ∙ ap (λ o. option_or (find may_post (map (shown_active pool) s.active)) o) waiting
    ∙ or-none _ ∙ active in
    rw found (posting-cases pool s.number peer _ (find can_post s.active))

-- posting is the step Posted
pub posting-step : (clock : ℕ) (pool : Pool) (peer : ℕ) (place : Option ℕ) (s : Session)
    (c : ActiveCall) → IsSession s → find can_post s.active ≡ Some c → can_post c ≡ true
    → limit_of (charged (c.request % 8) s.credits) ≡ limit_of s.credits
    → stepped clock (posted_event (entry_of s.number peer c)) (shown pool peer s)
    ≡ shown (held_at place pool) peer (record s
    { credits = charged (c.request % 8) s.credits; active = at_first can_post one_posted s.active })
    ∷ []
posting-step clock pool peer place s c h e more limit =
    let own = request-call s c h e in
    let firsts = same-first can_post (λ x. eqb x.request c.request) one_posted c s.active more
    (eq-eqb c.request c.request refl) e own in
    let calls = changed-shown (shown_active pool) (is_active c.request)
    (λ x. eqb x.request c.request) (moved (posted_up_to c.posted)) one_posted c
    (map shown_waiting s.slots.waiting) s.active (λ x. refl) refl own in
    rw (
      eq-eqb s.number s.number refl,
      calls,
      limit,
      firsts,
      held-same pool place (at_first (λ x. eqb x.request c.request) one_posted s.active),
    ) refl

-- flushing changes nothing of what is shown
pub flushed-shown : (pool : Pool) (peer : ℕ) (place : Option ℕ) (s : Session)
    → shown (released_at place pool) peer s ≡ shown pool peer s
flushed-shown pool peer place s = rw (released-same pool place s.active) refl

-- waiting is the step Asked
pub enqueue-step : (clock : ℕ) (pool : Pool) (peer : ℕ) (w : Waiting) (s : Session)
    → asked clock w (shown pool peer s) ≡ shown pool peer (enqueued w s) ∷ []
enqueue-step clock pool peer w s =
    let more = map-append shown_waiting s.slots.waiting (w ∷ []) in
    let joined = append_assoc (map (shown_active pool) s.active) (map shown_waiting s.slots.waiting)
    (shown_waiting w ∷ []) in
    rw (eq-eqb s.number s.number refl, more, joined) refl

-- the lowest slot that is free is the same
eight : {A : Type 0} (d : A) (xs : List A) → length xs ≡ 8
    → xs ≡ map (λ i. get_or xs i d) (0 ∷ 1 ∷ 2 ∷ 3 ∷ 4 ∷ 5 ∷ 6 ∷ 7 ∷ [])
eight d [] e = absurd (omega arith)
eight d (x0 ∷ []) e = absurd (omega arith)
eight d (x0 ∷ x1 ∷ []) e = absurd (omega arith)
eight d (x0 ∷ x1 ∷ x2 ∷ []) e = absurd (omega arith)
eight d (x0 ∷ x1 ∷ x2 ∷ x3 ∷ []) e = absurd (omega arith)
eight d (x0 ∷ x1 ∷ x2 ∷ x3 ∷ x4 ∷ []) e = absurd (omega arith)
eight d (x0 ∷ x1 ∷ x2 ∷ x3 ∷ x4 ∷ x5 ∷ []) e = absurd (omega arith)
eight d (x0 ∷ x1 ∷ x2 ∷ x3 ∷ x4 ∷ x5 ∷ x6 ∷ []) e = absurd (omega arith)
eight d (x0 ∷ x1 ∷ x2 ∷ x3 ∷ x4 ∷ x5 ∷ x6 ∷ x7 ∷ []) e = refl
eight d (x0 ∷ x1 ∷ x2 ∷ x3 ∷ x4 ∷ x5 ∷ x6 ∷ x7 ∷ x8 ∷ xs) e = absurd (omega arith)

first-same : {A : Type 0} (p q : A → Bool) (xs : List A) → AllByRecursion (λ x. p x ≡ q x) xs
    → position_or_len p xs ≡ position_or_len q xs
first-same p q [] same = refl
first-same p q (x ∷ xs) same = rw (same.0, first-same p q xs same.1) refl

found-some : {A B : Type 0} (f : A → B) (x : A) (o : Option A) (b c : Bool)
    → is_none (option_map f o) ≡ not c → is_none (option_map f (cond b (Some x) o)) ≡ not (b || c)
found-some f x o true c ih = refl
found-some f x o false c ih = ih

is-found : {A B : Type 0} (f : A → B) (p : A → Bool) (xs : List A)
    → is_none (option_map f (find p xs)) ≡ not (list_any p xs)
is-found f p [] = refl
is-found f p (x ∷ xs) = found-some f x (find p xs) (p x) (list_any p xs) (is-found f p xs)

taken-shown : (pool : Pool) (peer : ℕ) (s : Session) (i : ℕ)
    → is_taken (shown pool peer s).calls i ≡ list_any (is_in_slot i) s.active
taken-shown pool peer s i =
    let active = any-shown (shown_active pool) (λ c. holds_slot i c.progress) (is_in_slot i) s.active (λ c. refl) in
    let waiting = any-none shown_waiting (λ c. holds_slot i c.progress) s.slots.waiting (λ w. refl) in
    list_any-append (λ c. holds_slot i c.progress) (map (shown_active pool) s.active)
    (map shown_waiting s.slots.waiting) ∙ ap
    (λ b. list_any (λ c. holds_slot i c.progress) (map (shown_active pool) s.active) || b)
    waiting ∙ or-false _ ∙ active
  where
    or-false : (b : Bool) → (b || false) ≡ b
    or-false true = refl
    or-false false = refl

slot-shown : (pool : Pool) (peer : ℕ) (s : Session) → IsSession s → (i : ℕ) → i < 8
    → is_none (get_or s.slots.slots i None) ≡ not (is_taken (shown pool peer s).calls i)
slot-shown pool peer s h i below =
    ap is_none (h.slots i below) ∙ is-found begun_as (is_in_slot i) s.active
    ∙ ap not (sym (taken-shown pool peer s i))

lowest-shown : (pool : Pool) (peer : ℕ) (s : Session) → IsSession s
    → lowest_untaken (shown pool peer s).calls ≡ lowest_free s.slots
lowest-shown pool peer s h =
    let each = slot-shown pool peer s h in
    let same = first-same (λ i. is_none (get_or s.slots.slots i None))
    (λ i. not (is_taken (shown pool peer s).calls i)) (0 ∷ 1 ∷ 2 ∷ 3 ∷ 4 ∷ 5 ∷ 6 ∷ 7 ∷ []) (
      each 0 (omega arith),
      (
        each 1 (omega arith),
        (
          each 2 (omega arith),
          (
            each 3 (omega arith),
            (
              each 4 (omega arith),
              (
                each 5 (omega arith),
                (each 6 (omega arith), (each 7 (omega arith), tt)),
              ),
            ),
          ),
        ),
      ),
    ) in
    sym (ap (position is_none) (eight None s.slots.slots h.sound.slots) ∙ ap (λ n. cond (ltb n 8) (Some n) None) same)

-- the call that waits longest
oldest-shown : (ws : List Waiting)
    → find is_waiting (map shown_waiting ws) ≡ option_map shown_waiting (slice_get ws 0)
oldest-shown [] = refl
oldest-shown (w ∷ ws) = refl

beginning-shown : (pool : Pool) (peer : ℕ) (s : Session) → IsSession s
    → beginning (shown pool peer s) ≡ option_and_then
    (λ c. option_map (λ slot. Begun c.what.number (next_turn s.slots.turns slot))
    (lowest_free s.slots)) (option_map shown_waiting (slice_get s.slots.waiting 0))
beginning-shown pool peer s h =
    let active = none-shown (shown_active pool) is_waiting s.active (λ c. refl) in
    let found : find is_waiting (shown pool peer s).calls
    ≡ option_map shown_waiting (slice_get s.slots.waiting 0) =
    find-append is_waiting (map (shown_active pool) s.active)
    (map shown_waiting s.slots.waiting)
    ∙ ap (λ o. option_or o (find is_waiting (map shown_waiting s.slots.waiting))) active
    ∙ oldest-shown s.slots.waiting in
    rw (found, lowest-shown pool peer s h) refl

none-begins : (ws : List Waiting) (lowest : Option ℕ) (turns : List ℕ) → (ws ≡ []) ⊎ (lowest ≡ None)
    → option_and_then (λ c. option_map (λ slot. Begun c.what.number (next_turn turns slot)) lowest)
    (option_map shown_waiting (slice_get ws 0)) ≡ None
none-begins [] lowest turns none = refl
none-begins (w ∷ ws) None turns none = refl
none-begins (w ∷ ws) (Some slot) turns none = elim none [ inl e ↦ cc | inr e ↦ cc ]

-- what begins
pub nothing-begins : (pool : Pool) (peer : ℕ) (s : Session) → IsSession s → (s.slots.waiting ≡ [])
    ⊎ (lowest_free s.slots ≡ None) → beginning (shown pool peer s) ≡ None
nothing-begins pool peer s h none =
    beginning-shown pool peer s h ∙ none-begins s.slots.waiting (lowest_free s.slots) s.slots.turns
    none

pub call-begins : (pool : Pool) (peer : ℕ) (s : Session) (r : ℕ) (w : Waiting) (new : Slots)
    → IsSession s → Begins r w s.slots new → beginning (shown pool peer s) ≡ Some (Begun w.call r)
call-begins pool peer s r w new h begins =
    let number : Some (Begun w.call (next_turn s.slots.turns (r % 8))) ≡ Some (Begun w.call r) =
    ap (λ n. Some (Begun w.call n)) (sym begins.number) in
    beginning-shown pool peer s h ∙ rw (begins.oldest, begins.slot) number

-- a change of the first that passes, behind those that don't
behind-cons : {A : Type 0} (p : A → Bool) (f : A → A) (x : A) (xs ys : List A) (b : Bool)
    → (b || list_any p xs) ≡ false
    → (list_any p xs ≡ false → at_first p f (xs ++ ys) ≡ xs ++ at_first p f ys)
    → cond b (f x ∷ (xs ++ ys)) (x ∷ at_first p f (xs ++ ys)) ≡ x ∷ (xs ++ at_first p f ys)
behind-cons p f x xs ys true none ih = cc
behind-cons p f x xs ys false none ih = ap (λ zs. x ∷ zs) (ih none)

behind : {A : Type 0} (p : A → Bool) (f : A → A) (xs ys : List A) → list_any p xs ≡ false
    → at_first p f (xs ++ ys) ≡ xs ++ at_first p f ys
behind p f [] ys none = refl
behind p f (x ∷ xs) ys none = behind-cons p f x xs ys (p x) none (behind p f xs ys)

-- the calls behind the one that waits longest
pub front-shown : (ws : List Waiting) (w : Waiting) → slice_get ws 0 ≡ Some w
    → map shown_waiting ws ≡ shown_waiting w ∷ map shown_waiting (drop 1 ws)
front-shown [] w e = cc
front-shown (v ∷ vs) w e = let same : v ≡ w = cc in rw same refl

-- two buffers are put in the pool for a call that begins
module _ (pool : Pool) (peer p q : ℕ) (w : Waiting) (first : lowest_empty pool ≡ Some p)
    (second : lowest_empty (filled p w.req pool) ≡ Some q) where
  old-same : (calls : List ActiveCall) → AllByRecursion (IsKept pool) calls
      → map (shown_active (filled q w.resp (filled p w.req pool))) calls
      ≡ map (shown_active pool) calls
  old-same [] kept = refl
  old-same (c ∷ cs) kept =
      rw (
        same-ask pool p q w.req w.resp first second c kept.0,
        same-answer pool p q w.req w.resp first second c kept.0,
        old-same cs kept.1,
      ) refl

  new-shown : (r : ℕ) → HasSize w.req.len (buf_at (filled q w.resp (filled p w.req pool)) p)
      → shown_active (filled q w.resp (filled p w.req pool)) (started w r p q)
      ≡ begun r (shown_waiting w)
  new-shown r has =
      let ask = ask-buffer pool p q w.req w.resp first second w.req.len has in
      let none : 1024 * (0 + 1 - packet_count w.req.len) ≡ 0 = omega (arith, packet_count_above w.req.len) in
      rw (ask, none) refl

  -- beginning is the step Begun
  pub beginning-step : (clock : ℕ) (s : Session) (r : ℕ) (new : Slots) → KeepsPool pool s.active
      → Begins r w s.slots new
      → HasSize w.req.len (buf_at (filled q w.resp (filled p w.req pool)) p)
      → list_any (λ c. eqb c.call w.call) s.active ≡ false
      → stepped clock (begun_event (w.call, r)) (shown pool peer s)
      ≡ shown (filled q w.resp (filled p w.req pool)) peer
      (record s { slots = begun_slots r w.call s.slots; active = s.active ++ started w r p q ∷ [] })
      ∷ []
  beginning-step clock s r new keeps begins has fresh =
      let front = front-shown s.slots.waiting w begins.oldest in
      let unlisted = any-shown (shown_active pool) (is_call w.call)
      (λ c. eqb c.call w.call) s.active (λ c. refl) ∙ fresh in
      let own : is_call w.call (shown_waiting w) ≡ true = eq-eqb w.call w.call refl in
      let listed : has_call w.call (shown pool peer s) ≡ true =
      list_any-append (is_call w.call) (map (shown_active pool) s.active)
      (map shown_waiting s.slots.waiting)
      ∙ ap (λ ys. list_any (is_call w.call) (map (shown_active pool) s.active)
      || list_any (is_call w.call) ys) front
      ∙ ap (λ b. list_any (is_call w.call) (map (shown_active pool) s.active)
      || (b || list_any (is_call w.call) (map shown_waiting (drop 1 s.slots.waiting)))) own
      ∙ or-true _ in
      let calls : at_first (is_call w.call) (begun r) (shown pool peer s).calls
      ≡ map (shown_active pool) s.active ++ begun r (shown_waiting w)
      ∷ map shown_waiting (drop 1 s.slots.waiting) =
      behind (is_call w.call) (begun r) (map (shown_active pool) s.active)
      (map shown_waiting s.slots.waiting) unlisted
      ∙ ap (λ ys. map (shown_active pool) s.active
      ++ at_first (is_call w.call) (begun r) ys) front
      ∙ ap (λ b. map (shown_active pool) s.active
      ++ cond b (begun r (shown_waiting w) ∷ map shown_waiting (drop 1 s.slots.waiting))
      (shown_waiting w ∷ at_first (is_call w.call) (begun r)
      (map shown_waiting (drop 1 s.slots.waiting)))) own in
      let after : map (shown_active (filled q w.resp (filled p w.req pool)))
      (s.active ++ started w r p q ∷ []) ++ map shown_waiting (drop 1 s.slots.waiting)
      ≡ map (shown_active pool) s.active ++ begun r (shown_waiting w)
      ∷ map shown_waiting (drop 1 s.slots.waiting) =
      ap (λ ys. ys ++ map shown_waiting (drop 1 s.slots.waiting))
      (map-append (shown_active (filled q w.resp (filled p w.req pool))) s.active
      (started w r p q ∷ [])) ∙ append_assoc
      (map (shown_active (filled q w.resp (filled p w.req pool))) s.active)
      (shown_active (filled q w.resp (filled p w.req pool)) (started w r p q) ∷ [])
      (map shown_waiting (drop 1 s.slots.waiting))
      ∙ ap (λ ys. ys ++ shown_active (filled q w.resp (filled p w.req pool))
      (started w r p q) ∷ map shown_waiting (drop 1 s.slots.waiting))
      (old-same s.active keeps.kept) ∙ ap
      (λ y. map (shown_active pool) s.active ++ y
      ∷ map shown_waiting (drop 1 s.slots.waiting)) (new-shown r has) in
      rw (listed, calls, after) refl
