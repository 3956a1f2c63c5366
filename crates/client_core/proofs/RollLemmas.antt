-- What a rollback leaves of the pool.
use Rattle.std.proofs.Common.{◌≡◌, ◌+◌, Bool, cond, eqb, Option, Some, None, List, refl}
use Rattle.std.specs.Prelude.{IfSome, IsSome}
use Rattle.rpc_base.specs.Tables.{at_first}
use Rattle.buffer_pool.specs.Pool.{Pool}
use Rattle.client_core.specs.declared.call.ActiveCall.{ActiveCall}
use Rattle.client_core.specs.KeepsPool.{IsKept, KeepsPool}
use Rattle.client_core.specs.Replies.{is_request}
use Rattle.client_core.specs.Session.{Session}
use Rattle.client_core.specs.Timeouts.{after_roll, rolled_call}
use Rattle.client_core.proofs.CallsLemmas.{sum-at_first}
use Rattle.rpc_base.proofs.FirstLemmas.{all-kept}

-- a rollback leaves the buffers of all calls where they are
pub keeps-rolled : (pool : Pool) (test : ActiveCall → Bool) (calls : List ActiveCall)
    → KeepsPool pool calls → KeepsPool pool (at_first test rolled_call calls)
keeps-rolled pool test calls keeps = record {
  kept = all-kept test rolled_call (IsKept pool) calls
      (λ c kept passes. record {
        ask = kept.ask;
        answer = kept.answer;
        size = kept.size;
        room = kept.room;
        unnamed = kept.unnamed;
      }) keeps.kept;
  apart = λ p. rw (sum-at_first test rolled_call
      (λ c. cond (eqb c.ask p) 1 0 + cond (eqb c.answer p) 1 0) calls (λ c. refl)) (keeps.apart p);
}

-- that of a call that was found
pub keeps-roll : (pool : Pool) (s new : Session) (o : Option ActiveCall) → KeepsPool pool s.active
    → IsSome o → IfSome o (λ c. new ≡ after_roll c s) → KeepsPool pool new.active
keeps-roll pool s new None keeps some session = cc
keeps-roll pool s new (Some c) keeps some session =
    rw session (keeps-rolled pool (is_request c.request) s.active keeps)
