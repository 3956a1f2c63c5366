-- Calls are asked, one after another.
use Rattle.std.proofs.Common.{◌≡◌, ◌⊎◌, inl, inr, ℕ, suc, ◌+◌, ◌<◌, ◌≤◌, false, Option, Some, None}
use Rattle.std.proofs.Common.{List, [], ◌++◌, ltb, le-ltb, refl, sym, subst, ◌∙◌, arith}
use Rattle.std.specs.Prelude.{Err}
use Rattle.rpc_outside.specs.Recording.{Log}
use Rattle.node_steps.specs.Asks.{IsAskedAs, refusal_of}
use Rattle.node_steps.specs.Lacks.{lacks_for}
use Rattle.node_steps.specs.declared.refusals.AskError.{AskError}
use Rattle.node_steps.specs.declared.refusals.AskError.TheVariants.{NoMemory}
use Rattle.node_steps.specs.declared.refusals.Refused.{Refused}
use Rattle.node_steps.specs.Notes.{Makes}
use Rattle.node_steps.specs.Seen.{asking}
use Rattle.node_steps.proofs.NoteEnds.{makes-as, makes-join}
use Rattle.load_plan.specs.Calls.{Calls, asked_bytes, room_of}
use Rattle.load_run.specs.Loading.{AsksCalls, AsksNext, Keeps, LoadsSoFar, Passes, pending_in}
use Rattle.load_run.proofs.PassLemmas.{passes-none, passes-then}
use Rattle.memory_count.proofs.Risen.{risen-one}
use Rattle.memory_count.specs.Faults.{HasRisen, HasRisenBy}
use Rattle.message_buffer.specs.Buffer.{Buffer}
use Rattle.rpc_base.specs.declared.fact.Fact.{Fact}
use Rattle.rpc_base.specs.declared.state.SessionState.{SessionState}
use Rattle.rpc_base.specs.declared.state.SessionState.TheVariants.{Connected}
use Rattle.rpc_laws.specs.declared.tables.Timed.{Timed}
use Rattle.rpc_laws.specs.Groups.{Asks}
use Rattle.rpc_laws.specs.Steps.{Rel, Visits}
use Rattle.server_core.proofs.FlushLemmas.{grew-none}

-- calls were asked so far
pub record AsksSome {R : Type 0} (log : R → Log)
    (old new : LoadsSoFar) (before now : R) : Type 0 where
  pub many : ℕ
  pub asked : new.asked ≡ old.asked + many
  pub asks : Makes log (AsksCalls old.session old.ledger.plan old.asked many)
      old.endpoint.timed new.endpoint.timed before now
  pub keeps : Keeps old new
  pub passes : Passes log old.endpoint new.endpoint before now old.ledger.plan old.session
      old.asked new.asked

module _ {R : Type 0} (log : R → Log) where
  pub asks-none : (a : LoadsSoFar) (f : R) → AsksSome log a a f f
  asks-none a f = record {
    many = 0;
    asked = omega arith;
    asks = record {
      noted = [];
      grew = grew-none log f;
      step = λ asks. (refl, refl);
    };
    keeps = record { rest = refl; session = refl; ledger = refl; turns = refl; made = refl };
    passes = passes-none log a.endpoint a.endpoint f f a.ledger.plan a.session a.asked refl
        refl;
  }

  joins : (P : ℕ → Rel) (n : ℕ) (s m t : Timed) (x y : List Fact) → Visits P n s x m → P n m y t
      → Visits P (suc n) s (x ++ y) t
  joins P n s m t x y p q = record {
    between = m;
    front = x;
    back = y;
    joined = refl;
    first = p;
    second = q;
  }

  -- call number `first + n` is asked of a plan that stays
  abbrev One : (c : Calls) → (session first n : ℕ) → Rel
  One c session first n = AsksNext session c (first + n)

  pub asks-more : (a b c : LoadsSoFar) (f g h : R) → AsksSome log a b f g
      → Makes log (Asks b.session b.ledger.plan.req_type (asked_bytes b.ledger.plan b.asked)
      (room_of b.ledger.plan)) b.endpoint.timed c.endpoint.timed g h
      → pending_in b < 64 → Keeps b c → c.asked ≡ b.asked + 1 → Passes log b.endpoint
      c.endpoint g h b.ledger.plan b.session b.asked c.asked
      → AsksSome log a c f h
  asks-more a b c f g h some one few keeps counted passes =
      let next : Makes log (AsksNext b.session b.ledger.plan b.asked) b.endpoint.timed
      c.endpoint.timed g h =
      makes-as log (Asks b.session b.ledger.plan.req_type
      (asked_bytes b.ledger.plan b.asked) (room_of b.ledger.plan))
      (AsksNext b.session b.ledger.plan b.asked) b.endpoint.timed c.endpoint.timed g h
      (λ asks x p. record { few = few; asks = p }) one in
      let same : Makes log (One a.ledger.plan a.session a.asked some.many) b.endpoint.timed
      c.endpoint.timed g h =
      rw (← some.asked, ← some.keeps.session, ← some.keeps.ledger) next in
      record {
        many = suc some.many;
        asked = let so = some.asked in omega arith;
        asks = makes-join log (AsksCalls a.session a.ledger.plan a.asked some.many)
            (One a.ledger.plan a.session a.asked some.many)
            (AsksCalls a.session a.ledger.plan a.asked (suc some.many)) a.endpoint.timed
            b.endpoint.timed c.endpoint.timed f g h
            (λ asks x y p q. joins (One a.ledger.plan a.session a.asked) some.many
            (asking asks a.endpoint.timed) (asking asks b.endpoint.timed)
            (asking asks c.endpoint.timed) x y p q) some.asks same;
        keeps = record {
          rest = keeps.rest ∙ some.keeps.rest;
          session = keeps.session ∙ some.keeps.session;
          ledger = keeps.ledger ∙ some.keeps.ledger;
          turns = keeps.turns ∙ some.keeps.turns;
          made = keeps.made ∙ some.keeps.made;
        };
        passes = passes-then log a.endpoint b.endpoint c.endpoint f g h a.ledger.plan
            a.session a.asked b.asked c.asked some.passes
            (rw (← some.keeps.session, ← some.keeps.ledger) passes);
      }

-- a call that isn't too large is refused by a session that is Connected for want of memory alone
pub wants-memory : (len next : ℕ) (req resp : Buffer) (state : SessionState) (r : Refused)
    → IsAskedAs (refusal_of len state) next req resp (Err r) → len ≤ 1048576 → state ≡ Connected
    → r.why ≡ NoMemory
wants-memory len next req resp state r h few on =
    let fits : ltb 1048576 len ≡ false = le-ltb 1048576 len few in
    let free : refusal_of len state ≡ None = rw (fits, on) refl in
    by (refusal_of len state) free h.2
  where
    by : (o : Option AskError) → o ≡ None → (o ≡ Some r.why) ⊎ ((r.why ≡ NoMemory) × (o ≡ None))
        → r.why ≡ NoMemory
    by o free (inl e) = let never : None ≡ Some r.why = sym free ∙ e in cc
    by o free (inr h) = h.0

-- and then memory was refused
pub lacked : (why : AskError) (m n : ℕ) → why ≡ NoMemory → HasRisenBy (lacks_for why) m n
    → HasRisen m n
lacked why m n is risen =
    risen-one m n (subst (λ (w : AskError). HasRisenBy (lacks_for w) m n) is risen)
