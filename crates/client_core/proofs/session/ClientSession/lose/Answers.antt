use Rattle.std.proofs.Common.{◌≡◌, ℕ, None, [], ◌∷◌, refl, sym, rules}
use Rattle.client_core.specs.Losing.{GivesUp, Loses, next_lost}
use Rattle.client_core.specs.Replies.{IsUnheld}
use Rattle.client_core.specs.Shown.{IsAlone, done_event, shown_broken, stepped}
use Rattle.client_core.specs.contracts.session.ClientSession.{the_view}
use Rattle.client_core.specs.Watching.{call_number, is_after}
use Rattle.client_core.proofs.LostLemmas.{lose-step}
use Rattle.client_core.proofs.OneCallLemmas.{by-request, least-found, least-none-of}
use Rattle.client_core.proofs.OthersLemmas.{end-leaves, end-others}
use Rattle.client_core.specs.Replies.{is_request}
use Rattle.rpc_base.specs.declared.owner.Owner.TheVariants.{Ask}
use Rattle.packet_rings.specs.Entries.{is_of}
use Rattle.std.specs.Prelude.{count_by}
use Rattle.client_core.specs.Handing.{HandsBack, handed_of}
use Rattle.client_core.proofs.HandingLemmas.{lose-handed}
use Rattle.client_core.proofs.session.ClientSession.lose.Goals as goal
use Rattle.rpc_base.proofs.FirstLemmas.{found-holds, all-left}
use Rattle.rpc_base.proofs.BasicLemmas.{if-map}

pub end-requires-clause-call : goal.end-requires-clause-call
end-requires-clause-call c =
    let (test, found) = least-found (is_after None) call_number c.self.inside.calls c.in-Some.call
    (sym c.in-Some.ensures) in
    record { keeps_pool = c.requires.keeps_pool; active = rw (← c.self.view_is) (by-request _ test c.in-Some.call c.self.invariant.1 found) }

pub end-requires-clause-unheld : goal.end-requires-clause-unheld
end-requires-clause-unheld c =
    let (test, found) = least-found (is_after None) call_number c.self.inside.calls c.in-Some.call
    (sym c.in-Some.ensures) in
    found-holds test (IsUnheld c.args.pool.now) c.self.inside.calls c.in-Some.call
    (rw (← c.self.view_is) at c.requires.unheld) found

pub returns-in-Some : goal.returns-in-Some
returns-in-Some c =
    let session = the_view c.self.inside in
    let pool = c.args.pool.now in
    let call = c.in-Some.call in
    let keeps = rw (← c.self.view_is) at c.requires.keeps_pool in
    let (test, found) = least-found (is_after None) call_number c.self.inside.calls call
    (sym c.in-Some.ensures) in
    let lost : Loses (next_lost session) c.end.result session c.end.new.self pool c.end.new.pool =
    rw (← c.in-Some.ensures) (record {
      done = rw (← c.self.view_is) at c.end.ensures.done;
      session = rw (← c.self.view_is) at c.end.ensures.session;
      pool = c.end.ensures.pool;
    }) in
    record {
      sound = rw (← c.self.view_is) c.self.invariant.1;
      none = search rules;
      unchanged = tt;
      step = λ alone clock peer. rw (← c.self.view_is) (lose-step pool c.end.new.pool clock peer
          c.end.result session c.end.new.self c.self.invariant.1 keeps
          (rw (← c.self.view_is) at alone) lost);
      loses = rw (← c.self.view_is) lost;
      handed = rw (← c.self.view_is) (lose-handed pool c.end.new.pool c.end.result session
          c.end.new.self c.self.invariant.1 keeps lost);
      entries = rw (c.end.ensures.session, ← c.self.view_is, ← c.in-Some.ensures)
          (end-others call session);
      still = record {
        others = rw (c.end.ensures.session, c.end.ensures.pool, ← c.self.view_is)
            (end-leaves pool (is_request call.request) test call c.self.inside.calls found);
        counts = c.end.ensures.still.counts;
        queued = λ entries all.
            let before = rw (← c.self.view_is) at all in
            rw (c.end.ensures.session, ← c.self.view_is)
            (all-left (is_request call.request)
            (λ x. x.queued ≡ count_by (is_of (Ask c.self.inside.number x.request)) entries)
            c.self.inside.calls before);
        keeps_pool = c.end.ensures.still.keeps_pool;
      };
    }

pub returns : goal.returns
returns c =
    let session = the_view c.self.inside in
    let pool = c.args.pool.now in
    let new = c.give_up.new.self in
    let keeps = rw (← c.self.view_is) at c.requires.keeps_pool in
    let given = rw (← c.self.view_is) at c.give_up.ensures.given_up in
    let none = least-none-of call_number c.self.inside.calls (sym c.in_default.ensures) in
    record {
      sound = rw (← c.self.view_is) c.self.invariant.1;
      none = (
        λ e. (rw (← c.self.view_is) none, c.give_up.ensures.none.0 e),
        λ both. c.give_up.ensures.none.1 both.1,
      );
      unchanged = search rules;
      step = rw (← c.self.view_is) (if-map (λ d. GivesUp d session new)
          (λ d. IsAlone d.call session → (clock peer : ℕ)
          → stepped clock (done_event d) (shown_broken pool peer session)
          ≡ shown_broken pool peer new ∷ []) c.give_up.result
          (λ d gives alone clock peer.
          let lost : Loses (next_lost session) d session new pool pool =
          rw (← c.in_default.ensures) (gives, refl) in
          lose-step pool pool clock peer d session new c.self.invariant.1 keeps alone lost) given);
      loses = search rules;
      handed = rw (← c.self.view_is) (if-map (λ d. GivesUp d session new)
          (λ d. HandsBack c.self.inside.number d (handed_of pool session) (handed_of pool new))
          c.give_up.result
          (λ d gives.
          let lost : Loses (next_lost session) d session new pool pool =
          rw (← c.in_default.ensures) (gives, refl) in
          lose-handed pool pool d session new c.self.invariant.1 keeps lost) given);
      entries = search rules;
      still = record {
        others = search rules;
        counts = search rules;
        queued = search rules;
        keeps_pool = search rules;
      };
    }
