-- What a reply does is what the definitions over histories say of what is shown: its row, the facts that
-- follow, and the session afterwards.
use Rattle.std.proofs.Common.{◌≡◌, ◌≢◌, ℕ, ◌+◌, ◌-◌, ◌*◌, ◌<◌, Bool, true, false, cond, eqb, Option}
use Rattle.std.proofs.Common.{Some, None, List, [], ◌∷◌, ◌++◌, length, take, refl, sym, ap, ◌∙◌}
use Rattle.std.proofs.Common.{arith}
use Rattle.std.specs.Prelude.{is_none, map, option_map}
use Rattle.std.specs.List.{AllByRecursion, find, list_any}
use Rattle.std.specs.Option.{option_or}
use Rattle.std.proofs.lemmas.Bool.{eq-eqb, eqb-true}
use Rattle.std.proofs.lemmas.List.Folds.{find-append}
use Rattle.packet_header.specs.Parts.{packet_count}
use Rattle.packet_header.specs.declared.packet.MessageHeader.{MessageHeader}
use Rattle.message_buffer.specs.Buffer.{Buffer, bytes_of}
use Rattle.buffer_pool.specs.Pool.{Pool, buf_at}
use Rattle.buffer_pool.proofs.PoolLemmas.{changed_own}
use Rattle.packet_header.proofs.PartsLemmas.{packet_count_above}
use Rattle.rpc_base.specs.declared.owner.Owner.TheVariants.{Ask}
use Rattle.rpc_laws.specs.declared.rows.ClientRow.TheVariants.{Takes}
use Rattle.rpc_laws.specs.declared.rows.EndRow.{EndRow}
use Rattle.rpc_laws.specs.declared.rows.EndRow.TheVariants.{GoesOn, EndsOk, EndsTooSmall}
use Rattle.rpc_laws.specs.declared.tables.Progress.{Progress}
use Rattle.rpc_laws.specs.declared.tables.Queued.{Queued}
use Rattle.rpc_laws.specs.Calls.{is_active, is_response, known_packets}
use Rattle.rpc_laws.specs.ClientTable.{call_row as listed_row, client_ending, client_row, end_facts, end_row}
use Rattle.rpc_laws.specs.Queues.{is_queued}
use Rattle.client_core.specs.declared.call.ActiveCall.{ActiveCall}
use Rattle.client_core.specs.declared.outcome.Done.{Done}
use Rattle.client_core.specs.declared.outcome.Outcome.TheVariants.{Ok}
use Rattle.client_core.specs.declared.outcome.Reply.{Reply}
use Rattle.client_core.specs.declared.outcome.Reply.TheVariants.{Took, Ended, Dropped}
use Rattle.client_core.specs.KeepsPool.{IsKept, KeepsPool}
use Rattle.client_core.specs.Replies.{EndsBy, IsPart, IsTaken, Replies, answered, call_as, end_of}
use Rattle.client_core.specs.Replies.{is_request, reply_row, returned, rewritten_at, row_told}
use Rattle.client_core.specs.Replies.{with_part}
use Rattle.client_core.specs.Session.{IsInTurn, IsSession, Session}
use Rattle.client_core.specs.Shown.{done_fact, ending_facts, parts_of, shown, shown_active, shown_waiting}
use Rattle.client_core.proofs.AnswerLemmas.{none-kept, room-some}
use Rattle.client_core.proofs.CallLemmas.{credit-below, is-answer, is-taken, ok-not-small, part-of}
use Rattle.client_core.proofs.OneCallLemmas.{own-turn}
use Rattle.client_core.proofs.PartLemmas.{whole-answer}
use Rattle.client_core.proofs.PlacesLemmas.{two-places}
use Rattle.client_core.proofs.ShownLemmas.{found-shown, none-shown}
use Rattle.client_core.proofs.TakenLemmas.{part-shown}
use Rattle.rpc_base.proofs.FirstLemmas.{found-holds}
use Rattle.rpc_base.proofs.BasicLemmas.{or-none}
use Rattle.buffer_pool.proofs.PlacesLemmas.{buffer-within}
use Rattle.message_buffer.proofs.MessageLemmas.{message-length}

all-same : (pool : Pool) (r : ℕ) (xs : List ActiveCall)
    → AllByRecursion (λ x. is_active r (shown_active pool x) ≡ is_request r x) xs
all-same pool r [] = tt
all-same pool r (x ∷ xs) = (refl, all-same pool r xs)

pub active-found : (pool : Pool) (r : ℕ) (s : Session)
    → find (is_active r) (map (shown_active pool) s.active ++ map shown_waiting s.slots.waiting)
    ≡ option_map (shown_active pool) (call_as r s)
active-found pool r s =
    let waiting = none-shown shown_waiting (is_active r) s.slots.waiting (λ w. refl) in
    find-append (is_active r) (map (shown_active pool) s.active) (map shown_waiting s.slots.waiting)
    ∙ ap (λ o. option_or (find (is_active r) (map (shown_active pool) s.active)) o) waiting
    ∙ or-none _ ∙ found-shown (shown_active pool) (is_active r)
    (is_request r) s.active (all-same pool r s.active)

-- its row
module _ (pool : Pool) (queue : List Queued) (w : Bool) (h : MessageHeader) (n : ℕ) (s : Session)
    (keeps : KeepsPool pool s.active) (queued : list_any
    (is_queued (Ask h.session h.request) h.number) queue ≡ w) where
  row-cases : (o : Option ActiveCall) → call_as h.request s ≡ o
      → listed_row queue (option_map (shown_active pool) o) h n ≡ reply_row w h n o
  row-cases None e = refl
  row-cases (Some c) e =
      let kept = found-holds (is_request h.request) (IsKept pool) s.active c keeps.kept e in
      rw (message-length (buf_at pool c.ask) c.len kept.size, queued) refl

  pub row-shown : (peer : ℕ)
      → client_row queue (Some (shown pool peer s)) peer h n ≡ reply_row w h n (call_as h.request s)
  row-shown peer = rw (eq-eqb peer peer refl, active-found pool h.request s) (row-cases (call_as h.request s) refl)

-- the facts that follow a Took
abbrev progress_of : Pool → ActiveCall → Progress
progress_of pool c =
    record {
      request = c.request;
      got = c.got;
      posted = c.posted;
      rolls = c.rolls;
      mark = c.mark;
      answer = c.size;
      parts = parts_of pool c;
    }

module _ (me : ℕ) (pool : Pool) (h : MessageHeader) (body : List ℕ) (c : ActiveCall) where
  ending-cases : (k first : Bool) (asked : ℕ) (p : Progress)
      → end_facts me c.call (cond k (record p
      { got = p.got + 1; answer = Some h.size; parts = p.parts ++ body })
      (record p { got = p.got + 1 })).parts (end_row first asked c.room
      (cond k (record p { got = p.got + 1; answer = Some h.size; parts = p.parts ++ body })
      (record p { got = p.got + 1 })).got (cond k
      (record p { got = p.got + 1; answer = Some h.size; parts = p.parts ++ body })
      (record p { got = p.got + 1 })).answer)
      ≡ end_facts me c.call (cond k (p.parts ++ body) p.parts)
      (end_row first asked c.room (p.got + 1) (cond k (Some h.size) p.answer))
  ending-cases true first asked p = refl
  ending-cases false first asked p = refl

  pub ending-found : (peer : ℕ) (s : Session) → KeepsPool pool s.active
      → call_as h.request s ≡ Some c
      → client_ending me h body (Some (shown pool peer s))
      ≡ end_facts me c.call (cond (is_response h.kind) (parts_of pool c ++ body) (parts_of pool c))
      (end_of h c)
  ending-found peer s keeps e =
      let kept = found-holds (is_request h.request) (IsKept pool) s.active c keeps.kept e in
      rw (active-found pool h.request s, e, message-length (buf_at pool c.ask) c.len kept.size)
      (ending-cases (is_response h.kind) (is_none c.size) (packet_count c.len)
      (progress_of pool c))

-- a call that ends well has its whole answer
ok-known : (a : Bool) (x y s : ℕ) (b : Bool) → eqb x y ≡ b
    → cond a (EndsTooSmall s) (cond b EndsOk GoesOn) ≡ EndsOk → x ≡ y
ok-known true x y s b t e = cc
ok-known false x y s true t e = eqb-true x y t
ok-known false x y s false t e = cc

ok-response : (size : Option ℕ) (asked room got s : ℕ)
    → end_row (is_none size) asked room got (Some s) ≡ EndsOk → got ≡ known_packets asked (Some s)
ok-response None asked room got s e = ok-known _ got (known_packets asked (Some s)) s _ refl e
ok-response (Some t) asked room got s e = ok-known false got (known_packets asked (Some s)) s _ refl e

ok-credit : (size : Option ℕ) (asked room got : ℕ) → got < asked
    → end_row (is_none size) asked room got size ≡ EndsOk → ⊥
ok-credit None asked room got below e = cc
ok-credit (Some t) asked room got below e =
    let known = ok-known false got (known_packets asked (Some t)) t _ refl e in
    absurd (omega (arith, known, below, packet_count_above t))

module _ (pool : Pool) (now : ℕ) (c : ActiveCall) (h : MessageHeader) (body : List ℕ)
    (resp : Buffer) (kept : IsKept pool c) (apart : c.ask ≢ c.answer) (turn : IsInTurn c)
    (taken : IsTaken c h (length body)) where
  written-whole : (b : Buffer) → buf_at pool c.answer ≡ Some b → IsPart c h (length body)
      → is_response h.kind ≡ true → c.got + 1 ≡ known_packets (packet_count c.len) (Some h.size)
      → parts_of pool c ++ body ≡ bytes_of (with_part c h body b)
  written-whole b is part response last =
      let whole = whole-answer c h body b (room-some pool c h body kept apart b is) part
      (omega (arith, last, taken.next)) in
      let two : 1024 * (c.got + 1 + 1 - packet_count c.len)
      ≡ 1024 * (h.number + 2 - packet_count c.len) = omega (arith, taken.next) in
      rw is (sym (part-shown pool now c h body kept apart turn taken b is part
      (is-answer c h (length body) taken response).long)
      ∙ ap (λ n. take n (bytes_of (with_part c h body b))) two ∙ whole)

  some-same : (x y : Buffer) → Some x ≡ Some y → x ≡ y
  some-same x y e = cc

  answer-cases : (k : Bool) (o : Option Buffer) → is_response h.kind ≡ k → buf_at pool c.answer ≡ o
      → (k ≡ true → IsPart c h (length body))
      → end_row (is_none c.size) (packet_count c.len) c.room (c.got + 1)
      (cond k (Some h.size) c.size) ≡ EndsOk
      → option_map (returned Ok) (buf_at (cond k (rewritten_at c.answer (with_part c h body) o pool)
      pool) c.answer) ≡ Some resp
      → cond k (parts_of pool c ++ body) (parts_of pool c) ≡ bytes_of resp
  answer-cases true None e is part ok there = absurd (none-kept pool c h body kept apart is)
  answer-cases true (Some b) e is part ok there =
      let own = changed_own pool.bufs c.answer (Some (with_part c h body b)) None
      (buffer-within pool.bufs c.answer b is) in
      let same = some-same (with_part c h body b) resp (rw own at there) in
      rw (← same) (written-whole b is (part refl) e
      (ok-response c.size (packet_count c.len) c.room (c.got + 1) h.size ok))
  answer-cases false o e is part ok there =
      absurd (ok-credit c.size (packet_count c.len) c.room (c.got + 1) (credit-below c h (length body) taken e) ok)

  pub whole-returned : (is_response h.kind ≡ true → IsPart c h (length body)) → end_of h c ≡ EndsOk
      → option_map (returned Ok) (buf_at (answered c h body pool) c.answer) ≡ Some resp
      → cond (is_response h.kind) (parts_of pool c ++ body) (parts_of pool c) ≡ bytes_of resp
  whole-returned part ok there = answer-cases (is_response h.kind) (buf_at pool c.answer) refl refl part ok there

-- the facts, by how the call stands
module _ (me : ℕ) (pool : Pool) (h : MessageHeader) (body : List ℕ) (c : ActiveCall) (d : Done)
    (session : ℕ) (kept : IsKept pool c) (apart : c.ask ≢ c.answer) (turn : IsInTurn c)
    (taken : IsTaken c h (length body)) where
  ended-cases : (r : EndRow) → end_of h c ≡ r → EndsBy r session h body c pool d
      → end_facts me c.call (cond (is_response h.kind) (parts_of pool c ++ body) (parts_of pool c))
      r ≡ done_fact me d ∷ []
  ended-cases GoesOn e ends = absurd ends
  ended-cases EndsOk e ends =
      let part = part-of pool c h (length body) kept turn taken (ok-not-small (end_of h c) h.size e) in
      rw (ends.call, ends.ended_as, whole-returned pool 0 c h body d.resp kept apart turn taken part e ends.resp) refl
  ended-cases (EndsTooSmall size) e ends = rw (ends.call, ends.ended_as) refl

  pub ended-facts : EndsBy (end_of h c) session h body c pool d
      → end_facts me c.call (cond (is_response h.kind) (parts_of pool c ++ body) (parts_of pool c))
      (end_of h c) ≡ done_fact me d ∷ []
  ended-facts ends = ended-cases (end_of h c) refl ends

-- what a reply's outcome tells of the call that it is for
pub takes-call : (w : Bool) (h : MessageHeader) (n : ℕ) (o : Option ActiveCall) (c : ActiveCall)
    → o ≡ Some c → Takes ≡ reply_row w h n o → IsTaken c h n
takes-call w h n o c e row = is-taken w h n c (sym (rw e at row))

module _ (w : Bool) (now me peer : ℕ) (pool after : Pool) (h : MessageHeader) (body : List ℕ)
    (s new : Session) (sound : IsSession s) (keeps : KeepsPool pool s.active) where
  pub kept-of : (c : ActiveCall) → call_as h.request s ≡ Some c → IsKept pool c
  kept-of c e = found-holds (is_request h.request) (IsKept pool) s.active c keeps.kept e

  apart-of : (c : ActiveCall) → call_as h.request s ≡ Some c → c.ask ≢ c.answer
  apart-of c e = two-places (is_request h.request) c s.active e (keeps.apart c.ask)

  pub turn-of : (c : ActiveCall) → call_as h.request s ≡ Some c → IsInTurn c
  turn-of c e = own-turn s (is_request h.request) c sound e

  pub facts-shown : (r : Reply) → row_told r ≡ reply_row w h (length body) (call_as h.request s)
      → Replies r now h body s new pool after → row_told r ≡ Takes
      → client_ending me h body (Some (shown pool peer s)) ≡ ending_facts me r
  facts-shown Took row (c, went) takes =
      rw went.stands at (ending-found me pool h body c peer s keeps went.found)
  facts-shown (Ended d) row (c, went) takes =
      let taken = takes-call w h (length body) (call_as h.request s) c went.found row in
      ending-found me pool h body c peer s keeps went.found
      ∙ ended-facts me pool h body c d s.number (kept-of c went.found) (apart-of c went.found)
      (turn-of c went.found) taken went.ends
  facts-shown (Dropped why) row same takes = cc
