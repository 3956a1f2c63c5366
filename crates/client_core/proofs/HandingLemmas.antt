-- What was handed in with the calls of a session stays as it is until a call is over, and is given
-- back then.
use Rattle.std.proofs.Common.{◌≡◌, ◌≢◌, ℕ, Bool, true, false, cond, Option, Some, None, List}
use Rattle.std.proofs.Common.{[], ◌∷◌, ◌++◌, length, drop, refl, sym, ap, ◌∙◌}
use Rattle.std.specs.Prelude.{map, option_map, slice_get}
use Rattle.std.specs.List.{AllByRecursion, find, list_any}
use Rattle.std.proofs.lemmas.List.{append_assoc, map-append}
use Rattle.rpc_base.specs.Tables.{at_first, without_first}
use Rattle.rpc_base.proofs.FirstLemmas.{found-holds}
use Rattle.rpc_base.proofs.TakingLemmas.{first-taken}
use Rattle.packet_header.specs.declared.packet.MessageHeader.{MessageHeader}
use Rattle.message_buffer.specs.Buffer.{Buffer, capacity_of}
use Rattle.message_buffer.specs.Messages.{HasSize}
use Rattle.buffer_pool.specs.Pool.{Pool, buf_at, emptied, filled, lowest_empty}
use Rattle.buffer_pool.proofs.PoolLemmas.{changed_other}
use Rattle.rpc_laws.specs.declared.rows.EndRow.{EndRow}
use Rattle.rpc_laws.specs.declared.rows.EndRow.TheVariants.{GoesOn, EndsOk, EndsTooSmall}
use Rattle.rpc_laws.specs.Calls.{is_response}
use Rattle.session_slots.specs.declared.waiting.Waiting.{Waiting}
use Rattle.session_slots.specs.Slots.{Begins, Slots, begun as begun_slots}
use Rattle.client_core.specs.declared.call.ActiveCall.{ActiveCall}
use Rattle.client_core.specs.declared.outcome.Done.{Done}
use Rattle.client_core.specs.declared.outcome.Outcome.{Outcome}
use Rattle.client_core.specs.declared.outcome.Outcome.TheVariants.{Ok, TooSmall, PeerLost}
use Rattle.client_core.specs.declared.outcome.Reply.{Reply}
use Rattle.client_core.specs.declared.outcome.Reply.TheVariants.{Took, Ended, Dropped}
use Rattle.client_core.specs.Handing.{GivesBack, Handed, HandsBack, HandsBackBy, IsEmptyUnlessOk}
use Rattle.client_core.specs.Handing.{handed_active, handed_of, handed_waiting}
use Rattle.client_core.specs.KeepsPool.{HasRoom, IsKept, KeepsPool, held_at, released_at}
use Rattle.client_core.specs.Losing.{GivesUp, Loses, next_lost}
use Rattle.client_core.specs.Posting.{marked, one_left, started}
use Rattle.client_core.specs.Replies.{EndsBy, IsDone, IsTaken, Replies, answered, call_as, end_of}
use Rattle.client_core.specs.Replies.{is_request, replied, reply_row, returned, row_told}
use Rattle.client_core.specs.Replies.{without_buffers, without_call}
use Rattle.client_core.specs.Session.{IsSession, Session, enqueued}
use Rattle.client_core.specs.Watching.{call_number, is_after}
use Rattle.client_core.proofs.AnswerLemmas.{keeps-written, self-first}
use Rattle.client_core.proofs.CallLemmas.{ok-not-small, part-of}
use Rattle.client_core.proofs.OneCallLemmas.{by-request, least-found, least-none-of, own-turn}
use Rattle.client_core.proofs.OthersLemmas.{written-cases}
use Rattle.client_core.proofs.OutcomeLemmas.{takes-call}
use Rattle.client_core.proofs.PlacesLemmas.{names-answer, names-ask, names-without, others-all}
use Rattle.client_core.proofs.PlacesLemmas.{two-places, unnamed-map}
use Rattle.client_core.proofs.PoolLemmas.{ask-buffer, same-ask}
use Rattle.client_core.proofs.ShownLemmas.{unchanged-shown}

-- the call that waits longest stands in front
front-map : {B : Type 0} (f : Waiting → B) (ws : List Waiting) (w : Waiting)
    → slice_get ws 0 ≡ Some w → map f ws ≡ f w ∷ map f (drop 1 ws)
front-map f [] w e = cc
front-map f (v ∷ vs) w e = let same : v ≡ w = cc in rw same refl

-- a call waits
pub handed-waits : (pool : Pool) (w : Waiting) (s : Session)
    → handed_of pool (enqueued w s) ≡ handed_of pool s ++ handed_waiting w ∷ []
handed-waits pool w s =
    ap (λ xs. map (handed_active pool) s.active ++ xs)
    (map-append handed_waiting s.slots.waiting (w ∷ []))
    ∙ sym (append_assoc (map (handed_active pool) s.active)
    (map handed_waiting s.slots.waiting) (handed_waiting w ∷ []))

-- it begins
module _ (pool : Pool) (p q : ℕ) (w : Waiting) (first : lowest_empty pool ≡ Some p)
    (second : lowest_empty (filled p w.req pool) ≡ Some q) where
  abbrev later : Pool
  later = filled q w.resp (filled p w.req pool)

  old-handed : (calls : List ActiveCall) → AllByRecursion (IsKept pool) calls
      → map (handed_active later) calls ≡ map (handed_active pool) calls
  old-handed [] kept = refl
  old-handed (c ∷ cs) kept =
      rw (same-ask pool p q w.req w.resp first second c kept.0, old-handed cs kept.1) refl

  pub handed-begun : (s : Session) (r : ℕ) (new : Slots) → KeepsPool pool s.active
      → Begins r w s.slots new → HasSize w.req.len (buf_at later p)
      → handed_of later
      (record s { slots = begun_slots r w.call s.slots; active = s.active ++ started w r p q ∷ [] })
      ≡ handed_of pool s
  handed-begun s r new keeps begins has =
      let ask = ask-buffer pool p q w.req w.resp first second w.req.len has in
      let own : handed_active later (started w r p q) ≡ handed_waiting w = rw ask refl in
      let rest = map handed_waiting (drop 1 s.slots.waiting) in
      ap (λ xs. xs ++ rest) (map-append (handed_active later) s.active (started w r p q ∷ []))
      ∙ append_assoc (map (handed_active later) s.active)
      (handed_active later (started w r p q) ∷ []) rest
      ∙ ap (λ xs. xs ++ handed_active later (started w r p q) ∷ rest) (old-handed s.active keeps.kept)
      ∙ ap (λ h. map (handed_active pool) s.active ++ h ∷ rest) own
      ∙ ap (λ xs. map (handed_active pool) s.active ++ xs)
      (sym (front-map handed_waiting s.slots.waiting w begins.oldest))

-- a packet is posted, sent or flushed, and a call is rolled back
held-handed : (pool : Pool) (place : Option ℕ) (calls : List ActiveCall)
    → map (handed_active (held_at place pool)) calls ≡ map (handed_active pool) calls
held-handed pool None calls = refl
held-handed pool (Some p) calls = refl

released-handed : (pool : Pool) (place : Option ℕ) (calls : List ActiveCall)
    → map (handed_active (released_at place pool)) calls ≡ map (handed_active pool) calls
released-handed pool None calls = refl
released-handed pool (Some p) calls = refl

module _ (pool : Pool) (test : ActiveCall → Bool) (f : ActiveCall → ActiveCall)
    (same : (c : ActiveCall) → handed_active pool (f c) ≡ handed_active pool c)
    (calls : List ActiveCall) (ws : List Waiting) where
  pub handed-changed : map (handed_active pool) (at_first test f calls) ++ map handed_waiting ws
      ≡ map (handed_active pool) calls ++ map handed_waiting ws
  handed-changed =
      ap (λ xs. xs ++ map handed_waiting ws)
      (unchanged-shown (handed_active pool) test f calls same)

  pub handed-held : (place : Option ℕ)
      → map (handed_active (held_at place pool)) (at_first test f calls) ++ map handed_waiting ws
      ≡ map (handed_active pool) calls ++ map handed_waiting ws
  handed-held place =
      ap (λ xs. xs ++ map handed_waiting ws) (held-handed pool place (at_first test f calls))
      ∙ handed-changed

  pub handed-released : (place : Option ℕ)
      → map (handed_active (released_at place pool)) (at_first test f calls)
      ++ map handed_waiting ws ≡ map (handed_active pool) calls ++ map handed_waiting ws
  handed-released place =
      ap (λ xs. xs ++ map handed_waiting ws) (released-handed pool place (at_first test f calls))
      ∙ handed-changed

pub marked-handed : (pool : Pool) (number now : ℕ) (c : ActiveCall)
    → handed_active pool (marked number now c) ≡ handed_active pool c
marked-handed pool number now c = by _
  where
    by : (b : Bool) → handed_active pool (cond b (record (one_left c) { mark = now }) (one_left c))
        ≡ handed_active pool c
    by true = refl
    by false = refl

-- no call's request lies where another has its answer
module _ (pool : Pool) (c : ActiveCall) (h : MessageHeader) (body : List ℕ)
    (calls : List ActiveCall) (test : ActiveCall → Bool) (found : find test calls ≡ Some c)
    (keeps : KeepsPool pool calls) where
  all-unit : (xs : List ActiveCall) → AllByRecursion (λ x. Unit {0}) xs
  all-unit [] = tt
  all-unit (x ∷ xs) = (tt, all-unit xs)

  asks-apart : AllByRecursion (λ x. x.ask ≢ c.answer) calls
  asks-apart =
      let own : c.ask ≢ c.answer = two-places test c calls found (keeps.apart c.ask) in
      rw (self-first test c calls found) at
      (others-all c.answer (λ x. Unit {0}) (λ x. x.ask ≢ c.answer) (λ x a b k. a) test (λ x. c) c
      (names-answer c) own calls (keeps.apart c.answer) (all-unit calls) found)

  written-handed : (xs : List ActiveCall) → AllByRecursion (λ x. x.ask ≢ c.answer) xs
      → map (handed_active (answered c h body pool)) xs ≡ map (handed_active pool) xs
  written-handed [] apart = refl
  written-handed (x ∷ xs) apart =
      rw (
        written-cases c h body pool x.ask (is_response h.kind) (buf_at pool c.answer) apart.0,
        written-handed xs apart.1,
      ) refl

  -- a reply was taken, and the call goes on
  pub handed-answered : (now : ℕ) (p : ActiveCall → Bool) (ws : List Waiting)
      → map (handed_active (answered c h body pool)) (at_first p (replied now h) calls)
      ++ map handed_waiting ws ≡ map (handed_active pool) calls ++ map handed_waiting ws
  handed-answered now p ws =
      handed-changed (answered c h body pool) p (replied now h) (λ x. refl) calls ws
      ∙ ap (λ xs. xs ++ map handed_waiting ws) (written-handed calls asks-apart)

-- the buffers of a call that is over
returned-cases : (o : Outcome) (b : Buffer) → (capacity_of (returned o b) ≡ capacity_of b)
    × IsEmptyUnlessOk o (returned o b)
returned-cases Ok b = (refl, tt)
returned-cases (TooSmall size) b = (refl, refl)
returned-cases PeerLost b = (refl, refl)

buffer-cases : (o : Outcome) (room : ℕ) (size : Option ℕ) (found : Option Buffer) (resp : Buffer)
    → HasRoom room size found → option_map (returned o) found ≡ Some resp
    → (capacity_of resp ≡ room) × IsEmptyUnlessOk o resp
buffer-cases o room size None resp has e = absurd has
buffer-cases o room size (Some b) resp has e =
    let is : returned o b ≡ resp = cc in
    let own = returned-cases o b in
    rw (← is) (own.0 ∙ has.0, own.1)

done-gives : (before pool : Pool) (session : ℕ) (o : Outcome) (c : ActiveCall) (d : Done)
    → buf_at pool c.ask ≡ buf_at before c.ask → IsKept pool c → IsDone session o c pool d
    → GivesBack (handed_active before c) d
done-gives before pool session o c d same kept is =
    let own = buffer-cases o c.room c.size (buf_at pool c.answer) d.resp kept.room is.resp in
    record {
      call = is.call;
      tag = is.tag;
      req = sym same ∙ is.req;
      room = own.0;
      length = rw is.ended_as own.1;
    }

-- one of the active calls is taken out
module _ (pool : Pool) (s : Session) (c : ActiveCall) (keeps : KeepsPool pool s.active)
    (found : call_as c.request s ≡ Some c) where
  abbrev test : ActiveCall → Bool
  test = is_request c.request

  gone : (q : Pool) (p : ℕ) (x : ActiveCall) → x.ask ≢ p → x.answer ≢ p
      → handed_active (emptied p q) x ≡ handed_active q x
  gone q p x ask answer = rw (changed_other q.bufs p x.ask None None ask) refl

  left-handed : map (handed_active (without_buffers c pool)) (without_first test s.active)
      ≡ map (handed_active pool) (without_first test s.active)
  left-handed =
      let ask = names-without c.ask test c s.active found (names-ask c) (keeps.apart c.ask) in
      let answer = names-without c.answer test c s.active found (names-answer c)
      (keeps.apart c.answer) in
      unnamed-map c.answer (handed_active (emptied c.ask pool))
      (handed_active (without_buffers c pool))
      (λ x a b. gone (emptied c.ask pool) c.answer x a b) (without_first test s.active) answer
      ∙ unnamed-map c.ask (handed_active pool) (handed_active (emptied c.ask pool))
      (λ x a b. gone pool c.ask x a b) (without_first test s.active) ask

  pub handed-out : (session : ℕ) (d : Done) → GivesBack (handed_active pool c) d
      → d.session ≡ session → HandsBack session d (handed_of pool s)
      (handed_of (without_buffers c pool) (without_call c s))
  handed-out session d gives own =
      let out = first-taken test s.active c found in
      let g = handed_active pool in
      let ws = map handed_waiting s.slots.waiting in
      record {
        handed = g c;
        taken = record {
          before = map g out.before;
          after = map g out.after ++ ws;
          was = ap (λ xs. map g xs ++ ws) out.was
              ∙ ap (λ xs. xs ++ ws) (map-append g out.before (c ∷ out.after))
              ∙ append_assoc (map g out.before) (g c ∷ map g out.after) ws;
          left = ap (λ xs. xs ++ ws) left-handed
              ∙ ap (λ xs. map g xs ++ ws) out.left
              ∙ ap (λ xs. xs ++ ws) (map-append g out.before out.after)
              ∙ append_assoc (map g out.before) (map g out.after) ws;
          first = none-any (map g out.before);
        };
        gives = gives;
        of_session = own;
      }
    where
      none-any : (xs : List Handed) → list_any (λ x. false) xs ≡ false
      none-any [] = refl
      none-any (x ∷ xs) = none-any xs

-- by what a reply did
module _ (w : Bool) (now : ℕ) (pool after : Pool) (h : MessageHeader) (body : List ℕ)
    (s new : Session) (sound : IsSession s) (keeps : KeepsPool pool s.active) where
  ended-handed : (r : EndRow) (c : ActiveCall) (d : Done) → call_as h.request s ≡ Some c
      → call_as c.request s ≡ Some c → IsTaken c h (length body) → end_of h c ≡ r
      → EndsBy r s.number h body c pool d → GivesBack (handed_active pool c) d × (d.session ≡ s.number)
  ended-handed GoesOn c d at found taken is by = absurd by
  ended-handed EndsOk c d at found taken is by =
      let kept = found-holds (is_request h.request) (IsKept pool) s.active c keeps.kept at in
      let part = part-of pool c h (length body) kept
      (own-turn s (is_request h.request) c sound at) taken (ok-not-small (end_of h c) h.size is) in
      let written = keeps-written pool c h body s.active found keeps part in
      let own = found-holds (is_request c.request) (IsKept (answered c h body pool)) s.active c
      written.kept found in
      let apart = two-places (is_request c.request) c s.active found (keeps.apart c.ask) in (
        done-gives pool (answered c h body pool) s.number Ok c d
            (written-cases c h body pool c.ask (is_response h.kind) (buf_at pool c.answer) apart)
            own by,
        by.of_session,
      )
  ended-handed (EndsTooSmall size) c d at found taken is by =
      let kept = found-holds (is_request h.request) (IsKept pool) s.active c keeps.kept at in (
        done-gives pool pool s.number (TooSmall size) c d refl kept by,
        by.of_session,
      )

  pub reply-handed : (r : Reply) → row_told r ≡ reply_row w h (length body) (call_as h.request s)
      → Replies r now h body s new pool after
      → HandsBackBy r s.number (handed_of pool s) (handed_of after new)
  reply-handed Took row (c, went) =
      rw (went.session, went.pool) (handed-answered pool c h body s.active
      (is_request h.request) went.found keeps now (is_request c.request) s.slots.waiting)
  reply-handed (Ended d) row (c, went) =
      let taken = takes-call w h (length body) (call_as h.request s) c went.found row in
      let found = by-request s (is_request h.request) c sound went.found in
      let own = ended-handed (end_of h c) c d went.found found taken refl went.ends in
      rw (went.session, went.pool) (handed-out pool s c keeps found s.number d own.0 own.1)
  reply-handed (Dropped why) row same = rw (same.0, same.1) refl

-- the calls of a session that lost its peer
given-up : (pool : Pool) (s new : Session) (d : Done) → s.active ≡ [] → GivesUp d s new
    → HandsBack s.number d (handed_of pool s) (handed_of pool new)
given-up pool s new d none g =
    let front = front-map handed_waiting s.slots.waiting g.waiting g.oldest in
    record {
      handed = handed_waiting g.waiting;
      taken = record {
        before = [];
        after = map handed_waiting (drop 1 s.slots.waiting);
        was = ap (λ xs. map (handed_active pool) xs ++ map handed_waiting s.slots.waiting) none ∙ front;
        left = ap (λ (x : Session). handed_of pool x) g.session
            ∙ ap (λ xs. map (handed_active pool) xs ++ map handed_waiting (drop 1 s.slots.waiting)) none;
        first = refl;
      };
      gives = record {
        call = g.done.call;
        tag = g.done.tag;
        req = ap Some (sym g.done.req);
        room = ap capacity_of g.done.resp;
        length = rw (g.done.ended_as, g.done.resp) refl;
      };
      of_session = g.done.of_session;
    }

lose-cases : (pool after : Pool) (d : Done) (s new : Session) → IsSession s
    → KeepsPool pool s.active → (o : Option ActiveCall) → next_lost s ≡ o
    → Loses o d s new pool after
    → HandsBack s.number d (handed_of pool s) (handed_of after new)
lose-cases pool after d s new sound keeps (Some c) e lost =
    let (test, found) = least-found (is_after None) call_number s.active c e in
    let asked = by-request s test c sound found in
    let kept = found-holds (is_request c.request) (IsKept pool) s.active c keeps.kept asked in
    rw (lost.session, lost.pool) (handed-out pool s c keeps asked s.number d
    (done-gives pool pool s.number PeerLost c d refl kept lost.done) lost.done.of_session)
lose-cases pool after d s new sound keeps None e lost =
    let none = least-none-of call_number s.active e in
    rw lost.1 (given-up pool s new d none lost.0)

pub lose-handed : (pool after : Pool) (d : Done) (s new : Session) → IsSession s
    → KeepsPool pool s.active → Loses (next_lost s) d s new pool after
    → HandsBack s.number d (handed_of pool s) (handed_of after new)
lose-handed pool after d s new sound keeps lost =
    lose-cases pool after d s new sound keeps (next_lost s) refl lost
