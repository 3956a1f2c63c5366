-- A client session is connected, fails or is closed, from the store to what the node notes.
use Rattle.std.proofs.Common.{◌≡◌, ℕ, ◌+◌, ◌<◌, Some, List, [], ◌∷◌}
use Rattle.std.proofs.Common.{length}
use Rattle.std.proofs.Common.{refl, sym, ap, subst, ◌∙◌, arith}
use Rattle.std.specs.Prelude.{IfSome, slice_get, slice_set}
use Rattle.std.specs.List.{find}
use Rattle.std.proofs.lemmas.List.{length-set}
use Rattle.rpc_base.specs.Tables.{at_first}
use Rattle.rpc_base.specs.declared.event.Event.TheVariants.{ClosedHeard, FailedNoRoom}
use Rattle.rpc_base.specs.declared.event.Event.TheVariants.{Connected as IsConnected}
use Rattle.rpc_base.specs.declared.fact.Fact.{Fact}
use Rattle.rpc_base.specs.declared.limits.Limits.{Limits}
use Rattle.rpc_base.specs.declared.limits.TheConstants.{SESSION_NUMBERS}
use Rattle.rpc_base.specs.declared.state.SessionState.{SessionState}
use Rattle.rpc_base.specs.declared.state.SessionState.TheVariants.{Closed, Closing, Connecting}
use Rattle.rpc_base.specs.declared.state.SessionState.TheVariants.{Failed}
use Rattle.rpc_base.proofs.PlaceLemmas.{all-at}
use Rattle.packet_header.specs.Ranges.{Within, lives}
use Rattle.packet_rings.specs.Rings.{Ring}
use Rattle.packet_rings.specs.Values.{DatagramValue}
use Rattle.rpc_laws.specs.declared.tables.Client.{Client}
use Rattle.rpc_laws.specs.declared.tables.Jobs.{Jobs}
use Rattle.rpc_laws.specs.declared.tables.Pace.{Pace}
use Rattle.rpc_laws.specs.declared.tables.Timed.{Timed}
use Rattle.rpc_laws.specs.Facts.{plain}
use Rattle.rpc_laws.specs.NodeLists.{after}
use Rattle.rpc_laws.specs.Sessions.{comes_to, connects, is_client, is_connected}
use Rattle.rpc_laws.specs.Steps.{NotesNext}
use Rattle.node_laws.proofs.Allowed.{Allowed}
use Rattle.node_laws.proofs.KeptLemmas.{kept-after}
use Rattle.rpc_outside.specs.Recording.{Grew, Log}
use Rattle.session_store.specs.Changes.{ChangesAt, IsInState}
use Rattle.session_store.specs.Ends.{Ascends}
use Rattle.session_store.specs.Sides.{Shown}
use Rattle.session_ends.proofs.ListLemmas.{all-set}
use Rattle.node_steps.specs.Fits.{CallsAscend, Fits, IsSettled}
use Rattle.node_steps.specs.Notes.{Makes}
use Rattle.node_steps.specs.Seen.{Tallies, asking_jobs, seen_node}
use Rattle.node_steps.proofs.CallSteps.{client-by}
use Rattle.node_steps.proofs.PostSteps.{first-at}

module _ (me : ℕ) (limits : Limits) (tallies : Tallies) (paces : List Pace) (jobs : Jobs)
    (clock : ℕ) (rx : Ring DatagramValue) (s t : Shown) where
  abbrev pub seen : Shown → Timed
  seen u = seen_node me limits tallies paces jobs clock rx u

  -- with other jobs
  abbrev pub seen_with : Jobs → Shown → Timed
  seen_with js u = seen_node me limits tallies paces js clock rx u

  module _ (fits : Fits (seen s) s.size s.places) (i : ℕ) (f : Client → Client)
      (at : ChangesAt i f s.clients t.clients) (servers : t.servers ≡ s.servers)
      (queued : t.queued ≡ s.queued) where
    pub changed : t.clients ≡ at_first (is_client i) f s.clients
    changed =
        let same : 0 + i ≡ i = omega arith in
        at.changed ∙ sym (subst (λ k. at_first (is_client k) f s.clients
        ≡ slice_set s.clients i (f at.client)) same
        (first-at f 0 i s.clients at.client fits.kept.valid.numbered at.place))

    pub its : find (is_client i) s.clients ≡ Some at.client
    its = sym (client-by s.clients i i fits.kept.valid.numbered refl) ∙ at.place

    pub settled : IsSettled at.client
    settled = all-at IsSettled s.clients i at.client fits.settled at.place

    pub in-state : (state : SessionState) → IsInState state (slice_get s.clients i)
        → at.client.state ≡ state
    in-state state h = subst (λ o. IfSome o (λ (x : Client). x.state ≡ state)) at.place h

    pub fits-client : (fact : Fact)
        → seen t ≡ record { lists = after clock (seen s).lists fact; clock = clock }
        → Allowed (seen s).lists fact.event → (f at.client).calls ≡ at.client.calls
        → IsSettled (f at.client) → t.size ≡ s.size → t.places ≡ s.places
        → Fits (seen t) t.size t.places
    fits-client fact goes allowed calls then-settled size places = record {
      kept = rw (ap (λ (u : Timed). u.lists) goes)
          (kept-after clock (seen s).lists fact fits.kept allowed);
      ascends = rw at.changed (all-set CallsAscend s.clients i (f at.client)
          (subst Ascends (sym calls) (all-at CallsAscend s.clients i at.client fits.ascends at.place))
          (λ j z e other. all-at CallsAscend s.clients j z fits.ascends e));
      paces = fits.paces;
      numbers = omega (
        arith,
        ap (λ (zs : List Client). length zs) at.changed,
        length-set s.clients i (f at.client),
        fits.numbers,
      );
      each = omega (
        arith,
        ap (λ (zs : List Client). length zs) at.changed,
        length-set s.clients i (f at.client),
        fits.each,
      );
      settled = rw at.changed (all-set IsSettled s.clients i (f at.client) then-settled
          (λ j z e other. all-at IsSettled s.clients j z fits.settled e));
      credits = rw servers fits.credits;
      sendable = rw queued fits.sendable;
      replies = rw queued fits.replies;
      most = fits.most;
      packets = size ∙ fits.packets;
      jobs = fits.jobs;
      alive = fits.alive;
      server_numbers = fits.server_numbers;
      buffers = places ∙ fits.buffers;
    }

  module _ {R : Type 0} (log : R → Log) (before now : R)
      (fits : Fits (seen s) s.size s.places) (i : ℕ) (servers : t.servers ≡ s.servers)
      (queued : t.queued ≡ s.queued) where
    -- it is connected
    module _ (n life : ℕ) (at : ChangesAt i (connects n life) s.clients t.clients)
        (connecting : IsInState Connecting (slice_get s.clients i)) where
      goes-connected : (js : Jobs) → seen_with js t
          ≡ record {
            lists = after clock (seen_with js s).lists (plain me (IsConnected i n life));
            clock = clock;
          }
      goes-connected js =
          rw (changed fits i (connects n life) at servers queued, servers, queued) refl

      pub fits-connected : n < SESSION_NUMBERS → Within lives life → t.size ≡ s.size
          → t.places ≡ s.places → Fits (seen t) t.size t.places
      fits-connected below theirs size places =
          fits-client fits i (connects n life) at servers queued (plain me (IsConnected i n life))
          (goes-connected jobs)
          (record {
            client = at.client;
            found = its fits i (connects n life) at servers queued;
            stands = in-state fits i (connects n life) at servers queued Connecting connecting;
          }) refl
          (let old = settled fits i (connects n life) at servers queued in
          record {
            some = old.some;
            most = old.most;
            life = λ has. theirs;
            joined = λ has. below;
            few = omega arith;
            none_left = λ other. cc;
          }) size places

      pub node-connected : Grew (log before) (log now) (plain me (IsConnected i n life) ∷ [])
          → Makes log (NotesNext (λ l. Some (IsConnected i n life))) (seen s) (seen t) before now
      node-connected grew = record {
        noted = plain me (IsConnected i n life) ∷ [];
        grew = grew;
        step = λ asks. record {
          event = IsConnected i n life;
          is_next = refl;
          facts = refl;
          goes = goes-connected (asking_jobs asks jobs);
        };
      }

    -- it failed
    module _ (at : ChangesAt i (comes_to Failed) s.clients t.clients)
        (connecting : IsInState Connecting (slice_get s.clients i)) where
      goes-failed : (js : Jobs) → seen_with js t
          ≡ record {
            lists = after clock (seen_with js s).lists (plain me (FailedNoRoom i));
            clock = clock;
          }
      goes-failed js = rw (changed fits i (comes_to Failed) at servers queued, servers, queued) refl

      was-connecting : at.client.state ≡ Connecting
      was-connecting = in-state fits i (comes_to Failed) at servers queued Connecting connecting

      pub fits-failed : t.size ≡ s.size → t.places ≡ s.places → Fits (seen t) t.size t.places
      fits-failed size places =
          let old = settled fits i (comes_to Failed) at servers queued in
          fits-client fits i (comes_to Failed) at servers queued (plain me (FailedNoRoom i))
          (goes-failed jobs)
          (record {
            client = at.client;
            found = its fits i (comes_to Failed) at servers queued;
            stands = was-connecting;
          }) refl
          (record {
            some = old.some;
            most = old.most;
            life = λ has. cc;
            joined = λ has. cc;
            few = omega arith;
            none_left = λ other. old.none_left (ap is_connected was-connecting);
          }) size places

      pub node-failed : Grew (log before) (log now) (plain me (FailedNoRoom i) ∷ [])
          → Makes log (NotesNext (λ l. Some (FailedNoRoom i))) (seen s) (seen t) before now
      node-failed grew = record {
        noted = plain me (FailedNoRoom i) ∷ [];
        grew = grew;
        step = λ asks. record {
          event = FailedNoRoom i;
          is_next = refl;
          facts = refl;
          goes = goes-failed (asking_jobs asks jobs);
        };
      }

    -- it is closed
    module _ (at : ChangesAt i (comes_to Closed) s.clients t.clients)
        (closing : IsInState Closing (slice_get s.clients i)) where
      goes-closed : (js : Jobs) → seen_with js t
          ≡ record {
            lists = after clock (seen_with js s).lists (plain me (ClosedHeard i));
            clock = clock;
          }
      goes-closed js = rw (changed fits i (comes_to Closed) at servers queued, servers, queued) refl

      was-closing : at.client.state ≡ Closing
      was-closing = in-state fits i (comes_to Closed) at servers queued Closing closing

      pub fits-closed : t.size ≡ s.size → t.places ≡ s.places → Fits (seen t) t.size t.places
      fits-closed size places =
          let old = settled fits i (comes_to Closed) at servers queued in
          fits-client fits i (comes_to Closed) at servers queued (plain me (ClosedHeard i))
          (goes-closed jobs)
          (record {
            client = at.client;
            found = its fits i (comes_to Closed) at servers queued;
            stands = was-closing;
          }) refl
          (record {
            some = old.some;
            most = old.most;
            life = λ has. cc;
            joined = λ has. cc;
            few = omega arith;
            none_left = λ other. old.none_left (ap is_connected was-closing);
          }) size places

      pub node-closed : Grew (log before) (log now) (plain me (ClosedHeard i) ∷ [])
          → Makes log (NotesNext (λ l. Some (ClosedHeard i))) (seen s) (seen t) before now
      node-closed grew = record {
        noted = plain me (ClosedHeard i) ∷ [];
        grew = grew;
        step = λ asks. record {
          event = ClosedHeard i;
          is_next = refl;
          facts = refl;
          goes = goes-closed (asking_jobs asks jobs);
        };
      }
