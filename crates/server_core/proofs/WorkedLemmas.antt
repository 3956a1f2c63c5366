-- The answer to a request is put into the pool: what is kept and shown of its session, and the reply
-- to its last packet.
use Rattle.std.proofs.Common.{◌≡◌, ◌+◌, ◌-◌, ◌≤◌, ◌++◌, ◌∷◌, [], ℕ, Option, None, Some, true, ap}
use Rattle.std.proofs.Common.{refl, subst, sym, ◌∙◌, arith}
use Rattle.message_buffer.specs.Buffer.{Buffer, bytes_of, capacity_of}
use Rattle.buffer_pool.specs.Pool.{Pool, IsFull, buf_at, changed, filled, held, lowest_empty}
use Rattle.buffer_pool.specs.Pool.{use_at}
use Rattle.buffer_pool.specs.Uses.{is_full, refs_in}
use Rattle.buffer_pool.specs.declared.usage.Use.TheVariants.{Empty, Full}
use Rattle.buffer_pool.proofs.CountLemmas.{lowest_at, refs_filled}
use Rattle.buffer_pool.proofs.PoolLemmas.{changed_own}
use Rattle.packet_header.specs.Parts.{IsMessage, packet_count}
use Rattle.packet_rings.specs.Mentions.{mentions}
use Rattle.packet_rings.specs.Values.{EntryValue}
use Rattle.rpc_base.specs.declared.owner.Owner.TheVariants.{Reply}
use Rattle.rpc_laws.specs.Requests.{answered}
use Rattle.server_core.specs.Finishing.{GivesAnswer}
use Rattle.server_core.specs.Handling.{IsAnsweredWith}
use Rattle.server_core.specs.Homes.{HasOwn}
use Rattle.server_core.specs.Keeping.{GivesReply, KeepsPlaces}
use Rattle.server_core.specs.Replies.{IsReplyIn, entry_at, placed_entry}
use Rattle.server_core.specs.Reusing.{HasRoom, IsPut, OnceHeld, PutsRoom}
use Rattle.server_core.specs.Serving.{gone_on, with_slots, worked}
use Rattle.server_core.specs.Session.{IsSession, Session, answer_of, ask_of, newest}
use Rattle.server_core.specs.Shown.{shown}
use Rattle.server_core.specs.Steps.{HasNoBytes, IsReply, gone_on_as}
use Rattle.server_core.specs.Wanting.{IsAwaited}
use Rattle.server_core.specs.declared.slot.SlotRequest.{SlotRequest}
use Rattle.server_core.specs.declared.slot.Stored.{Stored}
use Rattle.server_core.proofs.BeginLemmas.{answer-held, idle-reply, is-reply}
use Rattle.server_core.proofs.HoldStepLemmas.{answer-holds, late-placed, worked-more}
use Rattle.server_core.proofs.OtherLemmas.{last-others}
use Rattle.server_core.proofs.PoolLemmas.{filled-changed, filled-there}
use Rattle.server_core.proofs.QueuedLemmas.{gone-counted}
use Rattle.server_core.proofs.SlotLemmas.{gone-session}
use Rattle.server_core.proofs.SpareLemmas.{last-spare}
use Rattle.server_core.proofs.StaysLemmas.{placed-behind}
use Rattle.server_core.proofs.TakeLemmas.{gone-newest, gone-served, last-held, last-keeps}
use Rattle.server_core.proofs.TakeLemmas.{worked-shows, worked-turn, worked-whole}

module _ (pool : Pool) (s : Session) (q : SlotRequest) (a : Stored) (b : Buffer) (h : IsSession s)
    (awaited : IsAwaited q s pool) (lowest : lowest_empty pool ≡ Some a.place)
    (there : buf_at (filled a.place b pool) a.place ≡ Some b) (size : a.size ≡ b.len)
    (fits : b.len ≤ capacity_of b) (mine : a.own ≡ true → HasOwn true (Some b)) where
  abbrev d : SlotRequest
  d = worked a q

  abbrev after : Pool
  after = held a.place (filled a.place b pool)

  abbrev w : Session
  w = with_slots (gone_on d s.slots) s

  pub put-session : IsMessage b.len → IsSession w
  put-session message =
      gone-session s q d h (worked-turn q a awaited.turn awaited.working (rw size message)) refl awaited.own.found

  pub put-shows : shown after w ≡ gone_on_as q.number (answered (bytes_of b)) (shown pool s)
  put-shows =
      worked-shows pool s q h awaited.own.found awaited.own.keeps_pool a.place b a
      (ap answer_of awaited.working) lowest there refl size fits mine (ap ask_of awaited.working)

  pub put-no_bytes : HasNoBytes (newest q.number w)
  put-no_bytes =
      let own : newest q.number w ≡ Some d = gone-newest pool s q h awaited.own.found awaited.own.keeps_pool d refl in
      rw own refl

  -- the reply to its last packet
  module _ (message : IsMessage b.len) (e : EntryValue) (k : ℕ) (last : k + 1 ≡ packet_count q.size)
      (entry : e ≡ entry_at s.number s.peer k d) where
    whole_is : q.taken ≡ packet_count q.size
    whole_is = worked-whole q awaited.turn awaited.working

    none : answer_of q.state ≡ None
    none = ap answer_of awaited.working

    gone : ask_of q.state ≡ None
    gone = ap ask_of awaited.working

    reply : IsReply q.number k w after e
    reply =
        let some = last-held pool s q h awaited.own.found awaited.own.keeps_pool d refl (sym gone)
        refl a.place b a none refl lowest there refl size fits mine in
        rw entry (is-reply after w d k (put-session message) (gone-newest pool s q h awaited.own.found
        awaited.own.keeps_pool d refl) (omega (arith, whole_is, last)) (idle-reply d k refl)
        (answer-held after d a k refl some))

    in_request : IsReplyIn d e
    in_request = rw entry (record {
      taken = omega (arith, whole_is, last);
      there = idle-reply d k refl;
      place_is = refl;
    })

    place : e.place ≡ Some a.place
    place = ap (λ x. x.place) entry ∙ late-placed d a k refl (omega (arith, last))

    full : IsFull (filled a.place b pool) a.place
    full = ap is_full (changed_own pool.uses a.place (Full 0) Empty (lowest_at pool a.place lowest).0)

    places : KeepsPlaces s w pool after
    places = record {
      spare = last-spare pool s q q.number awaited.own.keeps_pool awaited.own.found d refl refl
          (sym gone) none a.place b a refl lowest refl;
      others = last-others pool s q q.number awaited.own.found d refl refl (sym gone) a.place b a
          refl lowest refl;
      keeps_pool = last-keeps pool s q h awaited.own.found awaited.own.keeps_pool d refl (sym gone)
          refl a.place b a none refl lowest there refl size fits mine;
    }

    pub put-replies : GivesReply q.number k e s w pool after
    put-replies = record {
      reply = reply;
      stays = record {
        places = places;
        replies = λ es. record {
          holds = λ all. answer-holds pool s q h awaited.own.found awaited.own.keeps_pool es all d
              a.place b a k e refl (sym gone) none refl lowest refl
              (λ x r. worked-more q a x whole_is awaited.working r) reply place in_request;
          queued = λ all counted. gone-counted s q h awaited.own.found d refl es e refl
              (ap (λ x. x.owner) entry) counted;
          counts = λ p. placed-behind (filled a.place b pool) e es p a.place place full
              ∙ ap (λ n. n + mentions p (es ++ e ∷ [])) (refs_filled pool a.place p b lowest);
        };
        served = λ mode_of all. gone-served pool s q h awaited.own.found awaited.own.keeps_pool
            mode_of d refl refl all;
      };
    }

  -- once a worker has finished it
  pub gives-answer : IsMessage b.len → (e : EntryValue)
      → e ≡ entry_at s.number s.peer (q.taken - 1) d → GivesAnswer q (bytes_of b) e s w pool after
  gives-answer message e entry =
      let number : e.number ≡ q.taken - 1 = ap (λ x. x.number) entry in
      let whole = worked-whole q awaited.turn awaited.working in
      let last : (q.taken - 1) + 1 ≡ packet_count q.size =
      omega (arith, whole, awaited.turn.some) in
      record {
        shown_is = put-shows;
        last = rw number last;
        no_bytes = put-no_bytes;
        replies = subst (λ (k : ℕ). GivesReply q.number k e s w pool after) (sym number)
            (put-replies message e (q.taken - 1) last entry);
        queued = λ es counted. gone-counted s q h awaited.own.found d refl es e refl
            (ap (λ x. x.owner) entry) counted;
      }

-- the room for its answer is put into the pool
module _ (pool new : Pool) (s : Session) (q : SlotRequest) (a : Stored) (h : IsSession s)
    (awaited : IsAwaited q s pool) (put : IsPut a pool new) (message : IsMessage a.size) where
  abbrev then_session : Session
  then_session = with_slots (gone_on (worked a q) s.slots) s

  there_first : buf_at (filled a.place put.buf pool) a.place ≡ Some put.buf
  there_first = rw put.after_is at put.there

  use_is : use_at new a.place ≡ Full 0
  use_is =
      rw put.after_is (changed_own pool.uses a.place (Full 0) Empty
      (lowest_at pool a.place put.lowest).0)

  pub room-session : IsSession then_session
  room-session =
      put-session pool s q a put.buf h awaited put.lowest there_first (sym put.size_is.0)
      (omega (arith, put.size_is.0, put.size_is.1)) put.own (rw put.size_is.0 message)

  has-room : HasRoom a new
  has-room = record {
    stored = record {
      full = ap is_full use_is;
      size = rw put.there put.size_is;
      own = λ e. rw put.there (put.own e);
    };
    unheld = ap refs_in use_is;
  }

  answered-entry : (k : ℕ) → k + 1 ≡ packet_count q.size
      → placed_entry then_session q.number k a ≡ entry_at s.number s.peer k (worked a q)
  answered-entry k last =
      let entry : Option ℕ → EntryValue =
      λ place. record {
        owner = Reply s.number q.number;
        number = k;
        place = place;
        peer = s.peer;
      } in
      ap entry (sym (late-placed (worked a q) a k refl (omega (arith, last))))

  -- whatever the answer, once it is written there and held
  room-once : OnceHeld a (IsAnsweredWith q a s then_session pool) new
  room-once = λ b fits own.
      let there = filled-there a.place put.buf b pool there_first in
      let within : b.len ≤ capacity_of b = omega (arith, fits.0, fits.1) in
      let is : filled a.place b pool ≡ changed a.place b new =
      sym (ap (changed a.place b) put.after_is ∙ filled-changed a.place put.buf b pool) in
      subst (λ x. IsAnsweredWith q a s then_session pool (bytes_of b) (held a.place x)) is (record {
        shown_is = put-shows pool s q a b h awaited put.lowest there (sym fits.0) within own;
        no_bytes = put-no_bytes pool s q a b h awaited put.lowest there (sym fits.0) within own;
        replies = λ k last. put-replies pool s q a b h awaited put.lowest there (sym fits.0) within
            own (rw fits.0 message) (placed_entry then_session q.number k a) k last
            (answered-entry k last);
      })

  pub puts-room : (size : ℕ) → a.size ≡ size
      → PutsRoom a size (IsAnsweredWith q a s then_session pool) s then_session new
  puts-room size is = record { room = has-room; size_is = is; number = refl; once = room-once }
