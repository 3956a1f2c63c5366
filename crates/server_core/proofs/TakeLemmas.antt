-- A packet more of a request is taken: what is kept and shown of its session, and the reply.
use Rattle.rpc_base.proofs.FirstLemmas.{all-left, found-holds}
use Rattle.server_core.specs.declared.slot.SlotState.TheVariants.{Working}
use Rattle.std.proofs.Common.{◌≡◌, ◌≢◌, ℕ, ◌+◌, ◌*◌, ◌%◌, ◌<◌, ◌≤◌, Bool, true, false, cond, eqb}
use Rattle.std.proofs.Common.{Option, Some, None, List, ◌++◌, length, [], refl, sym, ap, ◌∙◌, subst}
use Rattle.std.proofs.Common.{arith}
use Rattle.std.specs.Prelude.{IfSome, map, option_map}
use Rattle.std.specs.List.{find}
use Rattle.std.proofs.lemmas.Bool.{eq-eqb}
use Rattle.message_buffer.specs.Buffer.{Buffer, bytes_of, capacity_of, written}
use Rattle.buffer_pool.specs.Pool.{Pool, buf_at, changed, emptied, filled, held, lowest_empty, refs_of}
use Rattle.buffer_pool.proofs.PoolLemmas.{changed_own, held_refs}
use Rattle.packet_header.specs.Parts.{packet_count, part_size, IsMessage}
use Rattle.packet_header.proofs.PartsLemmas.{packet_count_above}
use Rattle.rpc_base.specs.Tables.{at_first, without_first}
use Rattle.rpc_laws.specs.declared.tables.Served.{Served}
use Rattle.rpc_laws.specs.declared.tables.Server.{Server}
use Rattle.rpc_laws.specs.Requests.{answered, given, is_request}
use Rattle.rpc_outside.specs.declared.service.Mode.{Mode}
use Rattle.rpc_outside.specs.declared.service.Mode.TheVariants.{Unserved}
use Rattle.server_core.specs.declared.slot.SlotRequest.{SlotRequest}
use Rattle.server_core.specs.declared.slot.Stored.{Stored}
use Rattle.server_core.specs.Homes.{HasOwn}
use Rattle.server_core.specs.KeepsPool.{IsAsked, IsKept, IsStored, KeepsPool}
use Rattle.server_core.specs.Replies.{CanHold, IsHeld, MayHold, held_at, place_of}
use Rattle.server_core.specs.Serving.{gone_on, last_given, next_taken, with_slots, worked}
use Rattle.server_core.specs.Session.{HasCome, IsInTurn, IsSession, Session, answer_of, ask_of, is_in_slot, newest}
use Rattle.server_core.specs.Shown.{answer_in, ask_in, shown, shown_request, way_of}
use Rattle.server_core.specs.Steps.{AreServed, bytes_with, gone_on_as, grown}
use Rattle.server_core.proofs.ChangedLemmas.{found-put, map-back, map-whole, self-first}
use Rattle.server_core.proofs.PartLemmas.{before-same, with-next}
use Rattle.server_core.proofs.PlaceLemmas.{IsBeside, all-back, ask-apart, beside-answered}
use Rattle.server_core.proofs.PlaceLemmas.{beside-as, beside-given, beside-held, beside-written}
use Rattle.server_core.proofs.PlaceLemmas.{both-apart, put-back, taken-out}
use Rattle.server_core.proofs.PoolLemmas.{map-off, names-empty, one-changed, one-emptied, one-filled}
use Rattle.server_core.proofs.SlotLemmas.{by-number}
use Rattle.rpc_base.proofs.ChangedLemmas.{same-first}
use Rattle.buffer_pool.proofs.PlacesLemmas.{lowest-empty, buffer-within}
use Rattle.message_buffer.specs.Messages.{HasSize, message_in}

-- the answer of a request is held for a reply that has a part of it
module _ (pool : Pool) (q : SlotRequest) where
  beside-cases : (rest : List SlotRequest) (o : Option Stored) (b : Bool) → answer_of q.state ≡ o
      → IsBeside pool q rest
      → IsBeside (held_at (cond b None (option_map (λ a. a.place) o)) pool) q rest
  beside-cases rest o true e beside = beside
  beside-cases rest None false e beside = beside
  beside-cases rest (Some a) false e beside = beside-held pool q a rest beside e

  pub beside-held-at : (rest : List SlotRequest) (k : ℕ) → IsBeside pool q rest
      → IsBeside (held_at (place_of q k) pool) q rest
  beside-held-at rest k beside = beside-cases rest (answer_of q.state) _ refl beside

  may-cases : (o : Option Stored) (b : Bool) → IfSome o (IsStored pool)
      → IfSome o (λ a. refs_of pool a.place < 4294967295)
      → MayHold pool (cond b None (option_map (λ a. a.place) o))
  may-cases o true kept few = tt
  may-cases None false kept few = tt
  may-cases (Some a) false kept few = (kept.full, few)

  pub may-hold : (k : ℕ) → IsKept pool q → CanHold pool q → MayHold pool (place_of q k)
  may-hold k kept few = may-cases (answer_of q.state) _ kept.answer few.0

  is-cases : (o : Option Stored) (b : Bool) → IfSome o (IsStored pool)
      → IsHeld (held_at (cond b None (option_map (λ a. a.place) o)) pool)
      (cond b None (option_map (λ a. a.place) o))
  is-cases o true kept = tt
  is-cases None false kept = tt
  is-cases (Some a) false kept = omega (arith, (held_refs pool a.place kept.full).1)

  pub is-held-at : (k : ℕ) → IsKept pool q → IsHeld (held_at (place_of q k) pool) (place_of q k)
  is-held-at k kept = is-cases (answer_of q.state) _ kept.answer

-- holding changes no bytes
pub held-map : (pool : Pool) (place : Option ℕ) (qs : List SlotRequest)
    → map (shown_request (held_at place pool)) qs ≡ map (shown_request pool) qs
held-map pool None qs = refl
held-map pool (Some p) qs = refl

held-one : (pool : Pool) (place : Option ℕ) (q : SlotRequest)
    → shown_request (held_at place pool) q ≡ shown_request pool q
held-one pool None q = refl
held-one pool (Some p) q = refl

held-ask : (pool : Pool) (place : Option ℕ) (taken : ℕ) (o : Option ℕ)
    → ask_in (held_at place pool) taken o ≡ ask_in pool taken o
held-ask pool None taken o = refl
held-ask pool (Some p) taken None = refl
held-ask pool (Some p) taken (Some a) = refl

pub held-shown : (pool : Pool) (place : Option ℕ) (s : Session) → shown (held_at place pool) s ≡ shown pool s
held-shown pool place s =
    let whole : List Served → Server = λ ys. record { way = way_of s; credits = s.credits; slots = ys } in
    ap whole (held-map pool place s.slots)

-- a request of the session, and what becomes of it
module _ (pool : Pool) (s : Session) (q : SlotRequest) (h : IsSession s)
    (found : newest q.number s ≡ Some q) (keeps : KeepsPool pool s.slots) where
  abbrev same_number : SlotRequest → Bool
  same_number x = eqb x.number q.number

  abbrev rest : List SlotRequest
  rest = without_first same_number s.slots

  pub by-own : find same_number s.slots ≡ Some q
  by-own = by-number s q.number q h found refl

  pub own-beside : IsBeside pool q rest
  own-beside = taken-out pool same_number s.slots q by-own keeps

  gone-same : (d : SlotRequest) → d.number ≡ q.number → gone_on d s.slots ≡ at_first same_number (λ x. d) s.slots
  gone-same d number =
      ap (λ n. at_first (is_in_slot (n % 8)) (λ x. d) s.slots) number
      ∙ same-first (is_in_slot (q.number % 8)) same_number (λ x. d) q s.slots
      (eq-eqb (q.number % 8) (q.number % 8) refl) (eq-eqb q.number q.number refl) found by-own

  pub gone-keeps : (after : Pool) (d : SlotRequest) → d.number ≡ q.number → IsBeside after d rest
      → KeepsPool after (gone_on d s.slots)
  gone-keeps after d number beside = rw (gone-same d number) (put-back same_number q d after s.slots by-own beside)

  pub gone-shows : (after : Pool) (d : SlotRequest) (change : Served → Served) → d.number ≡ q.number
      → map (shown_request after) rest ≡ map (shown_request pool) rest
      → shown_request after d ≡ change (shown_request pool q)
      → shown after (with_slots (gone_on d s.slots) s) ≡ gone_on_as q.number change (shown pool s)
  gone-shows after d change number same new =
      let whole : List Served → Server = λ ys. record { way = way_of s; credits = s.credits; slots = ys } in
      ap whole (ap (λ qs. map (shown_request after) qs) (gone-same d number)
      ∙ map-back (shown_request pool) same_number (is_request q.number) (λ x. refl)
      (shown_request after) q d change new s.slots by-own same)

  pub gone-newest : (d : SlotRequest) → d.number ≡ q.number
      → newest d.number (with_slots (gone_on d s.slots) s) ≡ Some d
  gone-newest d number =
      found-put (is_in_slot (d.number % 8)) d (eq-eqb (d.number % 8) (d.number % 8) refl) q s.slots (rw number found)

  pub gone-served : (mode_of : ℕ → Mode) (d : SlotRequest) → d.number ≡ q.number
      → d.req_type ≡ q.req_type → AreServed mode_of s.slots → AreServed mode_of (gone_on d s.slots)
  gone-served mode_of d number same all =
      rw (gone-same d number) (all-back same_number q d (λ x. mode_of x.req_type ≢ Unserved) s.slots
      (rw same (found-holds same_number (λ x. mode_of x.req_type ≢ Unserved) s.slots q all
      by-own)) by-own (all-left same_number (λ x. mode_of x.req_type ≢ Unserved) s.slots all))

  -- a packet that was taken is answered once more
  pub again-keeps : (k : ℕ) → KeepsPool (held_at (place_of q k) pool) s.slots
  again-keeps k = rw (self-first same_number q s.slots by-own)
      at (put-back same_number q q (held_at (place_of q k) pool) s.slots by-own
      (beside-held-at pool q rest k own-beside))

  -- one packet more
  pub next-keeps : KeepsPool (held_at (place_of q q.taken) pool) (gone_on (next_taken q) s.slots)
  next-keeps = gone-keeps (held_at (place_of q q.taken) pool)
      (next_taken q) refl (beside-as (held_at (place_of q q.taken) pool) q (next_taken q) rest refl
      refl refl (beside-held-at pool q rest q.taken own-beside))

  pub next-shows : shown (held_at (place_of q q.taken) pool)
      (with_slots (gone_on (next_taken q) s.slots) s)
      ≡ gone_on_as q.number (grown (bytes_with pool q)) (shown pool s)
  next-shows = gone-shows (held_at (place_of q q.taken) pool) (next_taken q)
      (grown (bytes_with pool q)) refl (held-map pool (place_of q q.taken) rest)
      (held-one pool (place_of q q.taken) (next_taken q))

  -- its answer is there
  module _ (d : SlotRequest) (number : d.number ≡ q.number)
      (asked : ask_of d.state ≡ (ask_of q.state)) (sized : d.size ≡ q.size) (p : ℕ) (b : Buffer)
      (a : Stored) (none : answer_of q.state ≡ None) (is : answer_of d.state ≡ Some a)
      (lowest : lowest_empty pool ≡ Some p) (there : buf_at (filled p b pool) p ≡ Some b)
      (place : a.place ≡ p) (size : a.size ≡ b.len) (fits : b.len ≤ capacity_of b)
      (mine : a.own ≡ true → HasOwn true (Some b)) where
    last-beside : IsBeside (filled p b pool) d rest
    last-beside = beside-answered pool p b q d a rest own-beside none lowest there asked sized is
        place (sym size, omega (arith, size, fits)) mine

    pub last-keeps : KeepsPool (held a.place (filled p b pool)) (gone_on d s.slots)
    last-keeps = gone-keeps (held a.place (filled p b pool)) d number
        (beside-held (filled p b pool) d a rest last-beside is)

    last-stored : IsStored (filled p b pool) a
    last-stored = rw is at last-beside.own.answer

    pub last-held : 0 < refs_of (held a.place (filled p b pool)) a.place
    last-held = omega (arith, (held_refs (filled p b pool) a.place last-stored.full).1)

    pub last-answer : buf_at (filled p b pool) a.place ≡ Some b
    last-answer = rw place there

    last-others : map (shown_request (held a.place (filled p b pool))) rest ≡ map (shown_request pool) rest
    last-others = map-off p pool (filled p b pool)
        (one-filled p b pool) rest (names-empty pool p rest (lowest-empty pool p lowest)
        own-beside.others.kept)

    pub last-gone : (change : Served → Served)
        → shown_request (held a.place (filled p b pool)) d ≡ change (shown_request pool q)
        → shown (held a.place (filled p b pool)) (with_slots (gone_on d s.slots) s)
        ≡ gone_on_as q.number change (shown pool s)
    last-gone change new = gone-shows (held a.place (filled p b pool)) d change number last-others new

  -- from a worker
  module _ (p : ℕ) (b : Buffer) (a : Stored) (none : answer_of q.state ≡ None)
      (lowest : lowest_empty pool ≡ Some p) (there : buf_at (filled p b pool) p ≡ Some b)
      (place : a.place ≡ p) (size : a.size ≡ b.len) (fits : b.len ≤ capacity_of b)
      (mine : a.own ≡ true → HasOwn true (Some b)) where
    pub worked-shows : ask_of q.state ≡ None
        → shown (held a.place (filled p b pool)) (with_slots (gone_on (worked a q) s.slots) s)
        ≡ gone_on_as q.number (answered (bytes_of b)) (shown pool s)
    worked-shows gone =
        let bytes = last-answer (worked a q) refl (sym gone) refl p b a none refl lowest there place size fits mine in
        last-gone (worked a q) refl (sym gone) refl p b a none refl lowest there place size fits mine
        (answered (bytes_of b)) (rw bytes refl)

  -- it goes to a worker, and its bytes leave the pool
  module _ (p : ℕ) (is : ask_of q.state ≡ Some p) (none : answer_of q.state ≡ None) where
    pub given-keeps : KeepsPool (emptied p pool) (gone_on (last_given q) s.slots)
    given-keeps = gone-keeps (emptied p pool)
        (last_given q) refl (beside-given pool q (last_given q) p rest own-beside is none refl refl)

    pub given-shows : shown (emptied p pool) (with_slots (gone_on (last_given q) s.slots) s)
        ≡ gone_on_as q.number (λ x. given (grown [] x)) (shown pool s)
    given-shows =
        let same = map-off p pool (emptied p pool)
        (one-emptied p pool) rest (ask-apart pool q p rest own-beside is) in
        gone-shows (emptied p pool) (last_given q) (λ x. given (grown [] x)) refl same (rw none refl)

  -- a part is written
  module _ (body : List ℕ) (p : ℕ) (b : Buffer) (is : ask_of q.state ≡ Some p)
      (there : buf_at pool p ≡ Some b) (within : q.taken < packet_count q.size)
      (long : length body ≡ part_size q.size q.taken) where
    own-asked : IsAsked pool q.size p
    own-asked = rw is at own-beside.own.ask

    own-size : HasSize q.size (Some b)
    own-size = rw there at own-asked.size_is

    pub part-fits : 1024 * q.taken + length body ≤ b.len
    part-fits = omega (arith, long, within, own-size.0)

    abbrev after_part : Pool
    after_part = changed p (written (1024 * q.taken) body b) pool

    own-written : buf_at after_part p ≡ Some (written (1024 * q.taken) body b)
    own-written = changed_own pool.bufs p (Some (written (1024 * q.taken) body b)) None
        (buffer-within pool.bufs p b there)

    pub part-keeps : KeepsPool after_part s.slots
    part-keeps = rw (self-first same_number q s.slots by-own)
        at (put-back same_number q q after_part s.slots by-own
        (beside-written pool (1024 * q.taken) body b q p rest own-beside is there part-fits))

    pub part-bytes : bytes_with after_part q ≡ ask_in pool q.taken (ask_of q.state) ++ body
    part-bytes = rw (is, own-written, there) (with-next q.taken q.size body b own-size.0 own-size.1 within long)

    same-answer : (o : Option Stored) → ((a : Stored) → o ≡ Some a → p ≢ a.place)
        → option_map (answer_in after_part) o ≡ option_map (answer_in pool) o
    same-answer None other = refl
    same-answer (Some a) other =
        ap (λ x. Some (message_in x)) ((one-changed p (written (1024 * q.taken) body b)
        pool).other_bufs a.place (λ e. other a refl (sym e)))

    same-ask : ask_in after_part q.taken (ask_of q.state) ≡ ask_in pool q.taken (ask_of q.state)
    same-ask =
        let before = before-same (1024 * q.taken) body b part-fits (omega (arith, own-size.0, own-size.1)) in
        rw (is, own-written, there) before

    same-own : shown_request after_part q ≡ shown_request pool q
    same-own = rw (same-ask, same-answer (answer_of q.state) (λ a e. both-apart pool q p a rest own-beside is e)) refl

    pub part-shows : shown after_part s ≡ shown pool s
    part-shows =
        let whole : List Served → Server = λ ys. record { way = way_of s; credits = s.credits; slots = ys } in
        ap whole (map-whole (shown_request pool)
        (shown_request after_part) same_number q same-own s.slots by-own
        (map-off p pool after_part (one-changed p (written (1024 * q.taken) body b) pool) rest
        (ask-apart pool q p rest own-beside is)))

-- the counts of the request then
pub given-turn : (q : SlotRequest) → IsMessage q.size → q.taken + 1 ≡ packet_count q.size
    → q.queued < 4294967295 → IsInTurn (last_given q)
given-turn q size last few = record { size = size; some = omega arith; come = last; few = λ none. few }

-- a request that a worker has
pub worked-whole : (q : SlotRequest) → IsInTurn q → q.state ≡ Working → q.taken ≡ packet_count q.size
worked-whole q turn is = subst (HasCome q.size q.taken) is turn.come

pub worked-turn : (q : SlotRequest) (a : Stored) → IsInTurn q → q.state ≡ Working → IsMessage a.size
    → IsInTurn (worked a q)
worked-turn q a turn is answer =
    let whole = worked-whole q turn is in
    record {
      size = turn.size;
      some = turn.some;
      come = record {
        answer = answer;
        whole = omega (arith, whole);
        known = omega (arith, whole, packet_count_above a.size);
      };
      few = λ none. cc;
    }
