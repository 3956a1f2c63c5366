-- What a packet that is dropped leaves, what each row's packet leaves by the server rule, and what is
-- noted in the end.
use Rattle.std.proofs.Common.{◌≡◌, ℕ, true, List, [], length, refl, sym}
use Rattle.std.proofs.Common.{subst, append_assoc}
use Rattle.buffer_pool.specs.Pool.{Pool}
use Rattle.message_buffer.specs.Buffer.{bytes_of}
use Rattle.packet_header.specs.declared.packet.MessageHeader.{MessageHeader}
use Rattle.packet_rings.specs.Rings.{Ring}
use Rattle.packet_rings.specs.Values.{EntryValue}
use Rattle.rpc_base.specs.declared.fact.Fact.{Fact}
use Rattle.rpc_base.specs.declared.fact.Who.{Who}
use Rattle.rpc_base.specs.declared.state.DropReason.{DropReason}
use Rattle.rpc_base.specs.declared.state.DropReason.TheVariants.{NoMemory}
use Rattle.rpc_laws.specs.ServerTable.{is_last}
use Rattle.rpc_laws.specs.declared.rows.ServerRow.{ServerRow}
use Rattle.rpc_laws.specs.declared.rows.ServerRow.TheVariants.{Begins, Takes}
use Rattle.rpc_laws.specs.declared.tables.Server.{Server}
use Rattle.rpc_outside.specs.Recording.{Grew, Log}
use Rattle.rpc_outside.specs.declared.service.Mode.{Mode}
use Rattle.rpc_outside.specs.declared.service.Service as Service
use Rattle.server_core.specs.Flushing.{flushes}
use Rattle.server_core.specs.Handling.{DoesRow, Handles, Leaves, RunsInline, row_for}
use Rattle.server_core.specs.Keeping.{KeepsPlaces, StaysSound}
use Rattle.server_core.specs.KeepsPool.{KeepsPool}
use Rattle.server_core.specs.Noting.{early_facts, first_facts, last_facts, packet_facts}
use Rattle.server_core.specs.Reusing.{PutsRoom}
use Rattle.server_core.specs.Scene.{Desk, Incoming, Scene, at_desk, pooled}
use Rattle.server_core.specs.Session.{IsSession, Session, newest}
use Rattle.server_core.specs.Shown.{shown}
use Rattle.server_core.specs.Steps.{AreServed, IsAsking, LeavesPool, NeedsNoMemory}
use Rattle.server_core.specs.Steps.{asked_with, whole_with}
use Rattle.server_core.specs.declared.slot.Stored.{Stored}
use Rattle.server_core.specs.declared.step.Step.{Step}
use Rattle.server_core.specs.declared.step.Step.TheVariants.{Dropped}
use Rattle.server_core.proofs.FlushLemmas.{grew-none, grew-then}
use Rattle.server_core.proofs.LackLemmas.{lacks-row}
use Rattle.server_core.proofs.NoteLemmas.{by-rule, number-of}
use Rattle.server_core.proofs.RowLemmas.{row-shown}
use Rattle.server_core.proofs.StaysLemmas.{replies-still, same-places, same-replies}

-- a packet that is dropped leaves all but the bytes behind those that were taken
pub dropped-leaves : {V R : Type 0} (v : Service.Ghosts V) (log : R → Log)
    (noted : List ℕ → List Fact) (h : MessageHeader) (body : List ℕ) (why : DropReason) (s : Session)
    (before after : Pool) (serving : V) (rec : R) → noted [] ≡ []
    → shown after s ≡ shown before s → AreServed v.mode_of s.slots → KeepsPlaces s s before after
    → LeavesPool (Dropped why) before after
    → Leaves v log noted h body (Dropped why) (pooled s before serving rec)
    (pooled s after serving rec)
dropped-leaves v log noted h body why s before after serving rec none same served places pool = record {
  handled = record {
    answer = [];
    steps = same;
    by_service = tt;
    grew = subst (λ fs. Grew (log rec) (log rec) fs) (sym none) (grew-none log rec);
  };
  reply = tt;
  give = tt;
  no_bytes = tt;
  service = refl;
  session = refl;
  pool = pool;
  all_served = served;
  places = places;
}

-- where memory is wanting for a request that begins, all is left as it was
pub begins-none : {V R : Type 0} {v : Service.Ghosts V} {log : R → Log} {who : Who} {mode : Mode}
    {h : MessageHeader} {body : List ℕ} {s : Session} {pool : Pool} {tx : Ring EntryValue}
    {serving : V} {rec : R} → AreServed v.mode_of s.slots → KeepsPool pool s.slots
    → NeedsNoMemory mode v.answer (v.stands serving) h (whole_with h body (shown pool s))
    (Dropped NoMemory)
    → DoesRow v log who mode Begins h body (Dropped NoMemory) (at_desk s pool tx serving rec)
    (at_desk s pool tx serving rec)
begins-none {v = v} {log} {who} {h = h} {body} {s} {pool} {tx} {serving} {rec} served keeps short =
    record {
      taken = (refl, refl);
      ring_is = refl;
      leaves = dropped-leaves v log (λ answer. early_facts who s tx.items Begins h
          (asked_with h body (shown pool s)) answer (Dropped NoMemory)) h body NoMemory s pool pool
          serving rec refl refl served (same-places s pool keeps) (refl, λ other. refl);
      replies = replies-still (same-replies s pool tx.items);
      short = short;
    }

-- and where it is for the answer to one that was taken, all but the bytes of its last packet
pub takes-none : {V R : Type 0} {v : Service.Ghosts V} {log : R → Log} {who : Who} {mode : Mode}
    {h : MessageHeader} {body : List ℕ} {s : Session} {before after : Pool} {tx : Ring EntryValue}
    {serving : V} {rec : R} → is_last h ≡ true → shown after s ≡ shown before s
    → after.uses ≡ before.uses → StaysSound [] s s before after → AreServed v.mode_of s.slots
    → NeedsNoMemory mode v.answer (v.stands serving) h (whole_with h body (shown before s))
    (Dropped NoMemory)
    → DoesRow v log who mode Takes h body (Dropped NoMemory) (at_desk s before tx serving rec)
    (at_desk s after tx serving rec)
takes-none {v = v} {log} {who} {h = h} {body} {s} {before} {after} {tx} {serving} {rec} last same
    uses stays served short =
    let noted : List ℕ → List Fact =
    λ answer. early_facts who s tx.items Takes h (asked_with h body (shown before s)) answer
    (Dropped NoMemory) in
    record {
      taken = (refl, last);
      ring_is = refl;
      leaves = dropped-leaves v log noted h body NoMemory s before after serving rec refl same
          served stays.places (uses, λ other. absurd (other refl));
      replies = stays.replies tx.items;
      short = short;
    }

-- a handler ran, and its answer is in the room that was put for it
pub ran-once : {V R : Type 0} {v : Service.Ghosts V} {log : R → Log} {who : Who} {session : ℕ}
    {h : MessageHeader} {ask : List ℕ} {a : Stored} {before after : Scene Pool V R} {size : ℕ}
    {claim : List ℕ → Pool → Type 0} {s w : Session} → PutsRoom a size claim s w before.state
    → (ran : RunsInline v log who session h ask a before after)
    → claim (bytes_of ran.buf) after.state
ran-once {claim = claim} put ran =
    subst (claim (bytes_of ran.buf)) (sym ran.pool_is) (put.once ran.buf ran.size_is ran.own)

module _ {V R : Type 0} (v : Service.Ghosts V) (log : R → Log) (who : Who) (packet : Incoming)
    (step : Step) (before after : Scene Desk V R) where
  abbrev s : Session
  s = before.state.session

  abbrev entries : List EntryValue
  entries = before.state.ring.items

  abbrev v_shown : Server
  v_shown = shown before.state.pool before.state.session

  abbrev mode : Mode
  mode = v.mode_of packet.head.req_type

  abbrev ask : List ℕ
  ask = asked_with packet.head packet.body v_shown

  -- what a packet of a row leaves is what the server rule says
  pub handles-by : IsAsking packet.head (length packet.body) → IsSession s
      → KeepsPool before.state.pool s.slots → (row : ServerRow) → row_for v packet s ≡ row
      → DoesRow v log who mode row packet.head packet.body step before after
      → Handles v log early_facts who packet step before after
  handles-by asking sound keeps row is does =
      let rule = row-shown before.state.pool mode packet.jobs_full packet.head s keeps in
      let did = subst (λ r. DoesRow v log who mode r packet.head packet.body step before after)
      (sym is) does in
      record {
        row = did.taken;
        rule = rule;
        lacks = lacks-row mode packet.jobs_full v_shown s.peer packet.head (row_for v packet s) step
            rule did.taken;
        ring_is = did.ring_is;
        leaves = did.leaves;
        facts = λ own. by-rule s before.state.pool entries packet.head packet.body own mode
            packet.jobs_full sound asking step did.taken;
        replies = did.replies;
        short = did.short;
      }

  -- the last facts are noted
  pub handles-noted : Handles v log early_facts who packet step before after → (last_rec : R)
      → Grew (log after.recorder) (log last_rec)
      (last_facts who after.state.session.number packet.head step)
      → Handles v log packet_facts who packet step before
      (record { state = after.state; service = after.service; recorder = last_rec })
  handles-noted did last_rec grew =
      let done = did.leaves.handled in
      let row = row_for v packet s in
      let last = last_facts who s.number packet.head step in
      let number = number-of packet.head packet.body v_shown
      (shown after.state.pool after.state.session) step done.answer done.steps in
      let noted : Grew (log after.recorder) (log last_rec) last =
      subst (λ n. Grew (log after.recorder) (log last_rec)
      (last_facts who n packet.head step)) number grew in
      let early = early_facts who s entries row packet.head ask done.answer step in
      let all = subst (λ fs. Grew (log before.recorder) (log last_rec) fs)
      (append_assoc (flushes row step who s.number (newest packet.head.request s) entries)
      (first_facts who s.number packet.head ask done.answer step) last)
      (grew-then log before.recorder after.recorder last_rec early last done.grew noted) in
      record {
        row = did.row;
        rule = did.rule;
        lacks = did.lacks;
        ring_is = did.ring_is;
        leaves = record {
          handled = record {
            answer = done.answer;
            steps = done.steps;
            by_service = done.by_service;
            grew = all;
          };
          reply = did.leaves.reply;
          give = did.leaves.give;
          no_bytes = did.leaves.no_bytes;
          service = did.leaves.service;
          session = did.leaves.session;
          pool = did.leaves.pool;
          all_served = did.leaves.all_served;
          places = did.leaves.places;
        };
        facts = did.facts;
        replies = did.replies;
        short = did.short;
      }
