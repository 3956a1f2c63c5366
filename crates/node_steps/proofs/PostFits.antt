-- What a step of the store is for the node, once its fact is noted.
use Rattle.std.proofs.Common.{◌≡◌, ℕ, ◌≤◌, Option, Some, List, [], ◌∷◌, length}
use Rattle.std.proofs.Common.{refl, sym, ap, ◌∙◌, arith}
use Rattle.std.specs.Prelude.{option_and_then, option_map, slice_set}
use Rattle.std.proofs.lemmas.List.{length-set}
use Rattle.rpc_base.specs.Tables.{at_first}
use Rattle.rpc_base.specs.declared.event.Event.{Event}
use Rattle.rpc_base.specs.declared.event.Event.TheVariants.{Begun, Posted}
use Rattle.rpc_base.specs.declared.limits.Limits.{Limits}
use Rattle.rpc_base.specs.declared.owner.Owner.{Owner}
use Rattle.rpc_base.specs.declared.owner.Owner.TheVariants.{Ask}
use Rattle.rpc_base.proofs.PlaceLemmas.{all-at}
use Rattle.packet_rings.specs.Rings.{Ring}
use Rattle.packet_rings.specs.Values.{DatagramValue, EntryValue}
use Rattle.rpc_outside.specs.Recording.{Grew, Log}
use Rattle.rpc_laws.specs.declared.tables.Client.{Client}
use Rattle.rpc_laws.specs.declared.tables.Jobs.{Jobs}
use Rattle.rpc_laws.specs.declared.tables.Pace.{Pace}
use Rattle.rpc_laws.specs.declared.tables.Queued.{Queued}
use Rattle.rpc_laws.specs.declared.tables.Timed.{Timed}
use Rattle.rpc_laws.specs.Facts.{plain}
use Rattle.rpc_laws.specs.NodeLists.{after}
use Rattle.rpc_laws.specs.Posting.{beginning, if_connected, next_begun, next_posted, posting}
use Rattle.rpc_laws.specs.Sessions.{begins, is_client, posts}
use Rattle.rpc_laws.specs.Steps.{NotesNext}
use Rattle.node_laws.specs.Valid.{holders}
use Rattle.node_laws.proofs.KeptLemmas.{kept-after}
use Rattle.node_laws.proofs.PostLemmas.{begun-allowed, posted-allowed}
use Rattle.session_store.specs.Changes.{BeginsAt, PostsAt}
use Rattle.session_store.specs.Effects.{packet_of_entry, request_in}
use Rattle.session_ends.specs.Joined.{queued_at}
use Rattle.session_store.specs.Sides.{Shown}
use Rattle.session_ends.proofs.ListLemmas.{all-set}
use Rattle.node_steps.specs.Fits.{Fits, IsSendable, IsSettled, pace_no}
use Rattle.client_core.proofs.CallsLemmas.{length-at_first}
use Rattle.node_laws.proofs.NumberLemmas.{numbered-kept}
use Rattle.rpc_laws.specs.Pacing.{delayed, due_at, is_paced, packet_size}
use Rattle.rpc_laws.specs.Queues.{put_queued}
use Rattle.std.specs.List.{find}
use Rattle.node_steps.specs.Notes.{Makes}
use Rattle.node_steps.specs.Seen.{Tallies, asking_jobs, seen_node}
use Rattle.node_steps.proofs.NodeFits.{next-connected, settled-connected}
use Rattle.node_steps.proofs.QueueEntries.{put-all, replies-ask}
use Rattle.session_store.specs.Ends.{begun_event, posted_event}
use Rattle.node_steps.proofs.PostSteps.{ascends-begun, ascends-posted, begins-told, posts-told}

module _ {R : Type 0} (log : R → Log) (i me : ℕ)
    (limits : Limits) (tallies : Tallies) (paces : List Pace) (jobs : Jobs) (clock : ℕ)
    (rx : Ring DatagramValue) (s t : Shown) (before now : R) where
  abbrev seen : Shown → Timed
  seen u = seen_node me limits tallies paces jobs clock rx u

  -- with other jobs
  abbrev seen_with : Jobs → Shown → Timed
  seen_with js u = seen_node me limits tallies paces js clock rx u

  module _ (fits : Fits (seen s) s.size s.places) (servers : t.servers ≡ s.servers)
      (size : t.size ≡ s.size) (places : t.places ≡ s.places) where
    same-length : (xs ys : List Client) (x : Client) → ys ≡ slice_set xs i x → length ys ≡ length xs
    same-length xs ys x e = ap (λ (zs : List Client). length zs) e ∙ length-set xs i x

    module _ (e : EntryValue) (due : Option ℕ) (later : List Pace)
        (at : PostsAt i (Some (packet_of_entry e)) s.clients t.clients)
        (queued : t.queued ≡ put_queued (queued_at due e) s.queued)
        (owner : e.owner ≡ Ask i (request_in e.owner))
        (due_is : due ≡ option_map (due_at clock) (find (is_paced i) paces))
        (later_is : later ≡ at_first (is_paced i) (delayed clock
        (packet_size (request_in e.owner) e.number (find (is_client i) s.clients))) paces) where
      abbrev r : ℕ
      r = request_in e.owner

      abbrev event : Event
      event = Posted (Ask i r) e.number

      abbrev entry : Queued
      entry = record { owner = Ask i r; number = e.number; due = due }

      -- with what the packet makes of the paces
      abbrev seen_later : Jobs → Timed
      seen_later js = seen_node me limits tallies later js clock rx t

      told : (t.clients ≡ at_first (is_client i) (posts r e.number) s.clients) × (at.client.way.number ≡ i)
      told = posts-told i (packet_of_entry e) s.clients t.clients fits.kept.valid.numbered at

      is-next : next_posted i (seen s).lists ≡ Some event
      is-next =
          ap (λ (o : Option Client). option_and_then (if_connected posting) o) at.place ∙ at.next
          ∙ ap (λ m. Some (Posted (Ask m r) e.number)) told.1

      queue : t.queued ≡ put_queued entry s.queued
      queue = queued ∙ ap (λ (o : Owner). put_queued (record {
        owner = o;
        number = e.number;
        due = due;
      }) s.queued) owner

      goes : (js : Jobs) → seen_later js
          ≡ record { lists = after clock (seen_with js s).lists (plain me event); clock = clock }
      goes js = rw (told.0, queue, servers, due_is, later_is) refl

      pub node-posted : (o : Owner) (k : ℕ) → o ≡ e.owner → k ≡ e.number
          → Grew (log before) (log now) (plain me (Posted o k) ∷ [])
          → Makes log (NotesNext (next_posted i)) (seen s) (seen_later jobs) before now
      node-posted o k is number grew = record {
        noted = plain me event ∷ [];
        grew = rw (← owner, ← is, ← number) grew;
        step = λ asks. record { event = event; is_next = is-next; facts = refl; goes = goes (asking_jobs asks jobs) };
      }

      pub fits-posted : Fits (seen_later jobs) t.size t.places
      fits-posted = record {
        kept = rw (ap (λ (u : Timed). u.lists) (goes jobs))
            (kept-after clock (seen s).lists (plain me event) fits.kept
            (posted-allowed i (seen s).lists event fits.kept.valid is-next));
        ascends = ascends-posted i (packet_of_entry e) s.clients t.clients at fits.ascends;
        paces = rw later_is (numbered-kept pace_no (is_paced i) _ (λ p. refl) 0 paces fits.paces);
        numbers = omega (arith, same-length s.clients t.clients _ at.changed, fits.numbers);
        each = omega (
          arith,
          ap (λ (ps : List Pace). length ps) later_is,
          length-at_first (is_paced i) (delayed clock
              (packet_size r e.number (find (is_client i) s.clients))) paces,
          same-length s.clients t.clients _ at.changed,
          fits.each,
        );
        settled = rw at.changed (all-set IsSettled s.clients i (posts r e.number at.client)
            (settled-connected at.client (posts r e.number at.client)
            (all-at IsSettled s.clients i at.client fits.settled at.place)
            (next-connected posting at.client
            (posted_event at.client.way.number (packet_of_entry e)) at.next)
            refl refl refl refl) (λ j x e other. all-at IsSettled s.clients j x fits.settled e));
        credits = rw servers fits.credits;
        sendable = rw queue (put-all entry IsSendable (refl, λ reply. cc) s.queued fits.sendable);
        replies = rw queue (omega (arith, replies-ask entry s.queued refl, fits.replies));
        most = fits.most;
        packets = size ∙ fits.packets;
        jobs = fits.jobs;
        alive = fits.alive;
        server_numbers = fits.server_numbers;
        buffers = places ∙ fits.buffers;
      }

    module _ (p : ℕ × ℕ) (at : BeginsAt i (Some p) s.clients t.clients)
        (queued : t.queued ≡ s.queued) where
      abbrev began : Event
      began = Begun p.0 p.1

      goes-begun : (js : Jobs) → seen_with js t
          ≡ record { lists = after clock (seen_with js s).lists (plain me began); clock = clock }
      goes-begun js =
          rw (begins-told i p s.clients t.clients (few p.0) at, queued, servers) refl
        where
          few : (c : ℕ) → holders c s.clients ≤ 1
          few c = omega (arith, fits.kept.valid.once c)

      pub node-begun : Grew (log before) (log now) (plain me began ∷ [])
          → Makes log (NotesNext (next_begun i)) (seen s) (seen t) before now
      node-begun grew = record {
        noted = plain me began ∷ [];
        grew = grew;
        step = λ asks. record {
          event = began;
          is_next = at.0;
          facts = refl;
          goes = goes-begun (asking_jobs asks jobs);
        };
      }

      pub fits-begun : Fits (seen t) t.size t.places
      fits-begun =
          let change = at.1 in
          record {
            kept = rw (ap (λ (u : Timed). u.lists) (goes-begun jobs))
                (kept-after clock (seen s).lists (plain me began) fits.kept
                (begun-allowed i (seen s).lists began fits.kept.valid at.0));
            ascends = ascends-begun i p s.clients t.clients at fits.ascends;
            paces = fits.paces;
            numbers = omega (arith, same-length s.clients t.clients _ change.changed, fits.numbers);
            each = omega (arith, same-length s.clients t.clients _ change.changed, fits.each);
            settled = rw change.changed (all-set IsSettled s.clients i (begins p.0 p.1 change.client)
                (settled-connected change.client (begins p.0 p.1 change.client)
                (all-at IsSettled s.clients i change.client fits.settled change.place)
                (next-connected beginning change.client (begun_event p)
                (ap (λ (o : Option Client). option_and_then (if_connected beginning) o)
                (sym change.place) ∙ at.0)) refl refl refl refl)
                (λ j x e other. all-at IsSettled s.clients j x fits.settled e));
            credits = rw servers fits.credits;
            sendable = rw queued fits.sendable;
            replies = rw queued fits.replies;
            most = fits.most;
            packets = size ∙ fits.packets;
            jobs = fits.jobs;
            alive = fits.alive;
            server_numbers = fits.server_numbers;
            buffers = places ∙ fits.buffers;
          }
