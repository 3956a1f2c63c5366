use Rattle.std.proofs.Common.{◌≡◌, ◌≢◌, ℕ, ◌∷◌, [], List, false, Some, None, refl, subst, sym, ap, ◌∙◌}
use Rattle.message_buffer.specs.Buffer.{bytes_of}
use Rattle.buffer_pool.specs.Pool.{Pool}
use Rattle.server_core.specs.Finishing.{Finishes, IsFinished, is_waiting}
use Rattle.server_core.specs.KeepsPool.{KeepsPool}
use Rattle.server_core.specs.Session.{IsInTurn, IsSession, Session, is_in_slot, newest}
use Rattle.server_core.specs.Shown.{shown}
use Rattle.server_core.specs.contracts.session.ServerSession.{the_view}
use Rattle.server_core.proofs.AskedLemmas.{waiting-none, waiting-own}
use Rattle.server_core.proofs.StaysLemmas.{counts-behind, same-places}
use Rattle.server_core.proofs.StepLemmas.{at-work}
use Rattle.server_core.proofs.session.ServerSession.on_finished.Goals as goal
use Rattle.server_core.proofs.session.ServerSession.on_finished.Goals.{then-get-via-then-get}
use Rattle.server_core.proofs.session.ServerSession.on_finished.Goals.{then-get-via-else-get+then-not-is_working}
use Rattle.rpc_base.proofs.FirstLemmas.{found-holds}

-- where no request waits, nothing changes
not-finished : (r : ℕ) (bytes : List ℕ) (s : Session) (pool : Pool) → IsSession s
    → KeepsPool pool s.slots → is_waiting r (shown pool s) ≡ false
    → Finishes r bytes None s s pool pool
not-finished r bytes s pool sound keeps waited = record {
  finished = tt;
  no_bytes = tt;
  left = record { waited = waited; session = refl; pool = refl };
  sound = sound;
  then_sound = sound;
  all_served = λ mode_of all. all;
  places = same-places s pool keeps;
  holds = λ es all. tt;
  still_holds = λ es all. all;
  queued = λ es all. tt;
  counts = λ es all. tt;
}

pub returns-in_default : goal.returns-in_default
returns-in_default c =
    let s = the_view c.self.inside in
    let keeps = rw (← c.self.view_is) at c.requires.keeps_pool in
    let none : newest c.args.parcel.request s ≡ None =
    rw c.slot.ensures at (sym c.in_default.ensures) in
    rw (← c.self.view_is) (not-finished c.args.parcel.request (bytes_of c.args.parcel.out) s
    c.args.pool.now c.self.invariant keeps (waiting-none c.args.pool.now s c.args.parcel.request
    c.self.invariant (rw none tt)))

pub put_answer-reply-requires-clause-awaited : goal.put_answer-reply-requires-clause-awaited
put_answer-reply-requires-clause-awaited c =
    let s = the_view c.self.inside in
    let q = c.in-Some.request in
    let found : newest c.args.parcel.request s ≡ Some q =
    rw c.slot.ensures at (sym c.in-Some.ensures) in
    let same : q.number ≡ c.args.parcel.request =
    sym c.get.ensures.value ∙ c.if-get.false ∙ c.get-2.ensures.value in
    record {
      own = record {
        keeps_pool = c.requires.keeps_pool;
        found = rw (← c.self.view_is) (ap (λ r. newest r s) same ∙ found);
      };
      turn = found-holds (is_in_slot c.slot.result) IsInTurn c.self.inside.slots q
          c.self.invariant.in_turn (sym c.in-Some.ensures);
      working = at-work q.state (sym c.is_working.ensures ∙ c.if-not-is_working.false);
      spare = c.requires.spare;
    }

pub returns-then-get : goal.returns-then-get
returns-then-get c =
    let s = the_view c.self.inside in
    let keeps = rw (← c.self.view_is) at c.requires.keeps_pool in
    let found : newest c.args.parcel.request s ≡ Some c.in-Some.request =
    rw c.slot.ensures at (sym c.in-Some.ensures) in
    let waited : is_waiting c.args.parcel.request (shown c.args.pool.now s) ≡ false =
    elim c.then-get.branch [
      | then-get-via-then-get w ↦ (
          let away : c.in-Some.request.number ≢ c.args.parcel.request =
          λ same. w.if-get.true (c.get.ensures.value ∙ same ∙ sym c.get-2.ensures.value) in
          waiting-none c.args.pool.now s c.args.parcel.request c.self.invariant (rw found away))
      | then-get-via-else-get+then-not-is_working w ↦ (
          let same : c.in-Some.request.number ≡ c.args.parcel.request =
          sym c.get.ensures.value ∙ w.if-get.false ∙ c.get-2.ensures.value in
          waiting-own c.args.pool.now s c.args.parcel.request c.in-Some.request c.self.invariant
          found same ∙ sym w.is_working.ensures ∙ w.if-not-is_working.true)
    ] in
    rw (← c.self.view_is) (not-finished c.args.parcel.request (bytes_of c.args.parcel.out) s
    c.args.pool.now c.self.invariant keeps waited)

pub returns : goal.returns
returns c =
    let s = the_view c.self.inside in
    let found : newest c.args.parcel.request s ≡ Some c.in-Some.request =
    rw c.slot.ensures at (sym c.in-Some.ensures) in
    let same : c.in-Some.request.number ≡ c.args.parcel.request =
    sym c.get.ensures.value ∙ c.if-get.false ∙ c.get-2.ensures.value in
    let slot : newest c.in-Some.request.number s ≡ Some c.in-Some.request =
    ap (λ r. newest r s) same ∙ found in
    let own : newest c.in-Some.request.number c.args.self.now ≡ Some c.in-Some.request = rw (← c.self.view_is) slot in
    let put = c.put_answer-reply.ensures in
    let stays = put.replies.stays in
    record {
      finished = subst (λ r. IsFinished r (bytes_of c.args.parcel.out) c.args.self.now
          c.put_answer-reply.new.self c.args.pool.now c.put_answer-reply.new.pool
          c.put_answer-reply.result) same (record {
            waited = rw (← c.self.view_is) (waiting-own c.args.pool.now s c.in-Some.request.number
                c.in-Some.request c.self.invariant slot refl
                ∙ sym c.is_working.ensures ∙ c.if-not-is_working.false);
            shown_is = put.shown_is;
            last = rw own put.last;
            reply = put.replies.reply;
          });
      no_bytes = rw same at put.no_bytes;
      left = tt;
      sound = rw (← c.self.view_is) c.self.invariant;
      then_sound = c.sound.ensures;
      all_served = stays.served;
      places = stays.places;
      holds = λ es all. (stays.replies es).holds all;
      still_holds = λ es all. tt;
      queued = put.queued;
      counts = λ es counts. counts-behind c.args.pool.now c.put_answer-reply.new.pool es
          (c.put_answer-reply.result ∷ []) (stays.replies es).counts counts;
    }
