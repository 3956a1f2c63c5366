-- A request begins whose answer is written over the older one of its slot, at the same place.
use Rattle.std.proofs.Common.{◌≡◌, ◌≢◌, ℕ, ◌+◌, ◌%◌, ◌<◌, ◌≤◌, true, cond, eqb, List}
use Rattle.std.proofs.Common.{Option, Some, None}
use Rattle.std.proofs.Common.{[], ◌∷◌, ◌++◌, refl, sym, ap, ◌∙◌, subst, arith}
use Rattle.message_buffer.specs.Buffer.{Buffer, bytes_of, capacity_of, with_len}
use Rattle.message_buffer.specs.Messages.{HasSize}
use Rattle.buffer_pool.specs.Pool.{Pool, IsFull, buf_at, changed, held, refs_of}
use Rattle.buffer_pool.specs.declared.usage.Use.TheVariants.{Empty}
use Rattle.buffer_pool.proofs.PlacesLemmas.{unnamed-one}
use Rattle.buffer_pool.proofs.PoolLemmas.{changed_other, held_refs}
use Rattle.packet_header.specs.Parts.{packet_count, IsMessage}
use Rattle.packet_header.specs.declared.packet.MessageHeader.{MessageHeader}
use Rattle.packet_header.proofs.PartsLemmas.{packet_count_above}
use Rattle.packet_rings.specs.Mentions.{mentions}
use Rattle.packet_rings.specs.Values.{EntryValue}
use Rattle.rpc_base.specs.declared.limits.TheConstants.{PART_BYTES}
use Rattle.rpc_base.specs.declared.owner.Owner.TheVariants.{Reply}
use Rattle.rpc_base.specs.Tables.{without_first}
use Rattle.rpc_base.proofs.ChangedLemmas.{sum-without}
use Rattle.rpc_laws.specs.Requests.{answered}
use Rattle.server_core.specs.Flushing.{HoldsAll, without_newest}
use Rattle.server_core.specs.Handling.{IsBegunWith}
use Rattle.server_core.specs.Homes.{HasOwn}
use Rattle.server_core.specs.KeepsPool.{KeepsPool, KeepsSpare, LeavesOthers, answer_names}
use Rattle.server_core.specs.KeepsPool.{answer_places, ask_places, names, own_places}
use Rattle.server_core.specs.Replies.{IsReplyIn, entry_at, placed_entry}
use Rattle.server_core.specs.Reusing.{HasRoom, IsReusable, PutsRoom}
use Rattle.server_core.specs.Serving.{IsUnheld, begun, first_answered, with_slots}
use Rattle.server_core.specs.Session.{IsInTurn, IsSession, Session, answer_of, ask_of, is_in_slot}
use Rattle.server_core.specs.Session.{newest}
use Rattle.server_core.specs.Shown.{shown}
use Rattle.server_core.specs.Steps.{IsReply, begun_with, first_shown}
use Rattle.server_core.specs.declared.slot.SlotRequest.{SlotRequest}
use Rattle.server_core.specs.declared.slot.SlotState.{SlotState}
use Rattle.server_core.specs.declared.slot.SlotState.TheVariants.{Taking, Working, Answered}
use Rattle.server_core.specs.declared.slot.Stored.{Stored}
use Rattle.server_core.specs.Wanting.{MayBeginWhole}
use Rattle.server_core.proofs.BeginLemmas.{answer-held, begun-newest, begun-served, idle-reply}
use Rattle.server_core.proofs.BeginLemmas.{is-reply, shown-behind}
use Rattle.server_core.proofs.HoldBeginLemmas.{first-answered-holds, listed, only, only-newest}
use Rattle.server_core.proofs.HoldStepLemmas.{late-placed}
use Rattle.server_core.proofs.OtherLemmas.{answer-away, begun-names, found-names, same-one}
use Rattle.server_core.proofs.PlaceLemmas.{IsBeside, answer-apart, put-behind, taken-out}
use Rattle.server_core.proofs.PoolLemmas.{ChangesOne, changed-there, changed-twice, keeps-off}
use Rattle.server_core.proofs.PoolLemmas.{map-off}
use Rattle.server_core.proofs.QueuedLemmas.{first-counted}
use Rattle.server_core.proofs.ReplyLemmas.{kept-answer}
use Rattle.server_core.proofs.SlotLemmas.{begun-session}
use Rattle.server_core.proofs.StaysLemmas.{placed-behind}
use Rattle.server_core.proofs.SpareLemmas.{begun-places, spare-held}
use Rattle.server_core.proofs.StepLemmas.{answered-begun, none-shown}

-- it is in turn
pub answered-turn : (h : MessageHeader) (a : Stored) → IsMessage h.size → packet_count h.size ≡ 1
    → IsMessage a.size → IsInTurn (first_answered h a)
answered-turn h a size one answer = record {
  size = size;
  some = omega arith;
  come = record {
    answer = answer;
    whole = omega (arith, one);
    known = omega (arith, one, packet_count_above a.size);
  };
  few = λ none. cc;
}

-- a request that has its answer has no bytes any more
answered-ask : (at : SlotState) (a : Stored) → answer_of at ≡ Some a → ask_of at ≡ None
answered-ask (Taking p) a is = cc
answered-ask Working a is = cc
answered-ask (Answered b) a is = refl

-- the request, and the pool with its answer, which is held
abbrev pub again_request : MessageHeader → (size p : ℕ) → SlotRequest
again_request h size p = first_answered h (record { place = p; size = size; own = true })

abbrev pub again_in : ℕ → Buffer → Pool → Pool
again_in p b pool = held p (changed p b pool)

pub one-again : (p : ℕ) (b : Buffer) (pool : Pool) → ChangesOne p pool (again_in p b pool)
one-again p b pool = record {
  other_uses = λ q n. changed_other pool.uses p q _ Empty n;
  other_bufs = λ q n. changed_other pool.bufs p q _ None n;
}

module _ (pool : Pool) (s : Session) (head : MessageHeader) (size p : ℕ)
    (reuse : IsReusable p (newest head.request s)) where
  pub again-others : (b : Buffer)
      → LeavesOthers s.slots (begun (again_request head size p) s.slots) pool (again_in p b pool)
  again-others b = λ q none used.
      let own = found-names q (is_in_slot (head.request % 8)) s.slots reuse.older reuse.newest_is none in
      let away : q ≢ p = λ e. answer-away q reuse.older reuse.answer own reuse.answer_is (e ∙ sym reuse.place_is) in
      let same = same-one q p pool (again_in p b pool) (one-again p b pool) away in
      let off = unnamed-one p q (λ e. away (sym e)) in
      (begun-names q s.slots (again_request head size p) none (omega (arith, off)), same.use_is, same.buf_is)

module _ (pool : Pool) (s : Session) (head : MessageHeader) (size p : ℕ)
    (reuse : IsReusable p (newest head.request s)) where
  abbrev d : SlotRequest
  d = again_request head size p

  abbrev rest : List SlotRequest
  rest = without_first (is_in_slot (head.request % 8)) s.slots

  -- the places of all but the older request are left, by it alone
  again-leaves : (b : Buffer) → LeavesOthers (listed (newest head.request s))
      (begun d (listed (newest head.request s))) pool (again_in p b pool)
  again-leaves b =
      again-others pool (only head.request s) head size p
      (subst (IsReusable p) (sym (only-newest head.request s)) reuse) b

  module _ (keeps : KeepsPool pool s.slots) where
    beside : IsBeside pool reuse.older rest
    beside = taken-out pool (is_in_slot (head.request % 8)) s.slots reuse.older reuse.newest_is keeps

    pub again-full : IsFull pool p
    again-full = rw (← reuse.place_is) (kept-answer pool reuse.older reuse.answer beside.own reuse.answer_is).full

    -- in the slot's own buffer
    pub again-own : HasOwn true (buf_at pool p)
    again-own = rw (← reuse.place_is) ((kept-answer pool reuse.older reuse.answer beside.own reuse.answer_is).own reuse.own)

    again-free : names p rest ≡ 0
    again-free = rw (← reuse.place_is) (answer-apart pool reuse.older reuse.answer rest beside reuse.answer_is).0

    pub again-unheld : IsUnheld pool reuse.older → refs_of pool p ≡ 0
    again-unheld unheld = rw (← reuse.place_is) (rw reuse.answer_is at unheld)

    module _ (b : Buffer) where
      abbrev after : Pool
      after = again_in p b pool

      pub again-held : 0 < refs_of after p
      again-held = omega (arith, (held_refs (changed p b pool) p again-full).1)

      pub again-spare : KeepsSpare s.slots (begun d s.slots) pool after
      again-spare =
          omega (
            arith,
            spare-held (changed p b pool) p again-full,
            begun-places s.slots d,
            sum-without (is_in_slot (head.request % 8)) reuse.older own_places s.slots
                reuse.newest_is,
            ap answer_places reuse.answer_is,
            ap ask_places (answered-ask reuse.older.state reuse.answer reuse.answer_is),
          )

      pub again-counts : (es : List EntryValue) (e : EntryValue) (q : ℕ) → e.place ≡ Some p
          → refs_of after q + mentions q es ≡ refs_of pool q + mentions q (es ++ e ∷ [])
      again-counts es e q place = placed-behind (changed p b pool) e es q p place again-full

      -- the answer is the buffer's message
      module _ (there : buf_at after p ≡ Some b) (fits : HasSize size (Some b))
          (mine : HasOwn true (Some b)) where
        again-beside : IsBeside after d rest
        again-beside = record {
          own = record {
            ask = tt;
            answer = record {
              full = (held_refs (changed p b pool) p again-full).0;
              size = rw there fits;
              own = λ e. rw there mine;
            };
          };
          others = keeps-off p pool after (one-again p b pool) rest again-free beside.others;
          apart = λ q.
              let own = ap (answer_names q) reuse.answer_is
              ∙ ap (λ n. cond {A = ℕ} (eqb n q) 1 0) reuse.place_is in
              omega (arith, beside.apart q, own);
        }

        pub again-keeps : KeepsPool after (begun d s.slots)
        again-keeps = put-behind after d rest again-beside

        pub again-shows : shown after (with_slots (begun d s.slots) s)
            ≡ begun_with (answered (bytes_of b) (first_shown head [] None)) (shown pool s)
        again-shows = shown-behind pool s head keeps after d
            (answered (bytes_of b) (first_shown head [] None)) refl
            (map-off p pool after (one-again p b pool) rest again-free) (rw there refl)

      -- the reply
      module _ (h : IsSession s) (turn : IsInTurn d) (one : packet_count head.size ≤ 1) where
        pub again-reply : IsReply head.request 0 (with_slots (begun d s.slots) s) after
            (entry_at s.number s.peer 0 d)
        again-reply =
            is-reply after (with_slots (begun d s.slots) s) d 0 (begun-session s d h turn)
            (begun-newest s d h) (omega arith) (idle-reply d 0 refl)
            (answer-held after d (record { place = p; size = size; own = true }) 0 refl again-held)

        pub again-holds : (es : List EntryValue) → HoldsAll (without_newest head.request s) pool es
            → refs_of pool p ≡ 0
            → HoldsAll (with_slots (begun d s.slots) s) after (es ++ entry_at s.number s.peer 0 d ∷ [])
        again-holds es holds unheld =
            let mine : IsReplyIn d (entry_at s.number s.peer 0 d) =
            record { taken = omega arith; there = idle-reply d 0 refl; place_is = refl } in
            first-answered-holds pool s head.request h keeps d refl after
            (begun d (listed (newest head.request s)))
            (again-leaves b) es holds 0
            (entry_at s.number s.peer 0 d) (record { place = p; size = size; own = true }) refl
            (omega (arith, unheld, (held_refs (changed p b pool) p again-full).1))
            (late-placed d (record { place = p; size = size; own = true }) 0 refl one) again-reply mine

-- a request begins whose answer is to be written there
module _ (pool : Pool) (s : Session) (head : MessageHeader) (size p : ℕ) (first : Buffer)
    (reuse : IsReusable p (newest head.request s)) (begins : MayBeginWhole head s pool)
    (short : size ≤ PART_BYTES) (there : buf_at pool p ≡ Some first) where
  abbrev a : Stored
  a = record { place = p; size = size; own = true }

  abbrev x : SlotRequest
  x = first_answered head a

  abbrev w : Session
  w = with_slots (begun x s.slots) s

  abbrev now : Pool
  now = changed p (with_len size first) pool

  keeps : KeepsPool pool s.slots
  keeps = begins.whole.begins.keeps_pool

  turn : IsInTurn x
  turn = answered-turn head a begins.whole.begins.size begins.whole.one (omega (arith, short))

  pub again-session : IsSession w
  again-session = begun-session s x begins.session turn

  pub again-idle : refs_of pool p ≡ 0
  again-idle =
      again-unheld pool s head size p reuse keeps
      (rw reuse.newest_is at begins.whole.begins.unheld)

  pub again-fits : size ≤ capacity_of first
  again-fits =
      let own : HasOwn true (Some first) = rw there at (again-own pool s head size p reuse keeps) in
      omega (arith, own, short)

  again-room : HasRoom a now
  again-room =
      let own : HasOwn true (Some first) = rw there at (again-own pool s head size p reuse keeps) in
      let then_there = changed-there p first (with_len size first) pool there in
      record {
        stored = record {
          full = again-full pool s head size p reuse keeps;
          size = rw then_there (refl, again-fits);
          own = λ e. rw then_there own;
        };
        unheld = again-idle;
      }

  again-entry : entry_at s.number s.peer 0 x ≡ placed_entry w head.request 0 a
  again-entry =
      let entry : Option ℕ → EntryValue =
      λ place. record {
        owner = Reply s.number head.request;
        number = 0;
        place = place;
        peer = s.peer;
      } in
      ap entry (late-placed x a 0 refl (omega (arith, begins.whole.one)))

  -- whatever the answer, once it is written there and held
  again-begun : (b : Buffer) → HasSize size (Some b) → HasOwn true (Some b)
      → IsBegunWith head a s w pool (bytes_of b) (again_in p b pool)
  again-begun b fits own =
      let then_there = changed-there p first b pool there in
      let one : packet_count head.size ≤ 1 = omega (arith, begins.whole.one) in
      let newest_is : newest head.request w ≡ Some x = begun-newest s x begins.session in
      record {
        shown_is = again-shows pool s head size p reuse keeps b then_there fits own
            ∙ answered-begun (shown pool s) head (bytes_of b)
            (none-shown pool s head.request begins.session begins.newer);
        no_bytes = rw newest_is refl;
        replies = record {
          reply = subst (IsReply head.request 0 w (again_in p b pool)) again-entry
              (again-reply pool s head size p reuse keeps b begins.session turn one);
          begins = record {
            places = record {
              spare = again-spare pool s head size p reuse keeps b;
              others = again-others pool s head size p reuse b;
              keeps_pool = again-keeps pool s head size p reuse keeps b then_there fits own;
            };
            replies = λ es. record {
              holds = λ all. subst (λ e. HoldsAll w (again_in p b pool) (es ++ e ∷ [])) again-entry
                  (again-holds pool s head size p reuse keeps b begins.session turn one es all
                  again-idle);
              queued = λ all counted. first-counted pool s head.request begins.session keeps x refl
                  pool es all counted (placed_entry w head.request 0 a) refl refl;
              counts = λ q. again-counts pool s head size p reuse keeps b es
                  (placed_entry w head.request 0 a) q refl;
            };
            served = λ mode_of new all. begun-served mode_of s.slots x new all;
          };
        };
      }

  pub again-puts : PutsRoom a size (IsBegunWith head a s w pool) s w now
  again-puts = record {
    room = again-room;
    size_is = refl;
    number = refl;
    once = λ b fits own. subst (λ new. IsBegunWith head a s w pool (bytes_of b) (held p new))
        (sym (changed-twice p (with_len size first) b pool)) (again-begun b fits (own refl));
  }
