-- What always holds of a node, after it made one end of a session.
use Rattle.std.proofs.Common.{◌≡◌, ℕ, ◌+◌, ◌≤◌, ◌<◌, Bool, true, false, None, List, []}
use Rattle.std.proofs.Common.{◌∷◌, ◌++◌, cond, length, refl, ◌∙◌, arith, eq-eqb, leb-false}
use Rattle.std.specs.Prelude.{count_by, nat_le}
use Rattle.std.specs.List.{AllByRecursion}
use Rattle.std.proofs.lemmas.List.{length-append}
use Rattle.rpc_base.specs.declared.event.Event.{Event}
use Rattle.rpc_base.specs.declared.event.Event.TheVariants.{PairedClient, PairedServer}
use Rattle.rpc_base.specs.declared.limits.Limits.{Limits}
use Rattle.rpc_base.specs.declared.limits.TheConstants.{MOST_CREDITS, SESSION_NUMBERS}
use Rattle.rpc_base.proofs.FirstLemmas.{all-push, counted-cons}
use Rattle.packet_header.specs.Ranges.{Within, lives}
use Rattle.packet_rings.specs.Rings.{Ring}
use Rattle.packet_rings.specs.Values.{DatagramValue}
use Rattle.rpc_laws.specs.declared.tables.Jobs.{Jobs}
use Rattle.rpc_laws.specs.declared.tables.Lists.{Lists}
use Rattle.rpc_laws.specs.declared.tables.Pace.{Pace}
use Rattle.rpc_laws.specs.declared.tables.Server.{Server}
use Rattle.rpc_laws.specs.declared.tables.Timed.{Timed}
use Rattle.rpc_laws.specs.Facts.{plain}
use Rattle.rpc_laws.specs.Groups.{client_refusal, clients_spent, refusal_by, server_refusal, servers_spent}
use Rattle.rpc_laws.specs.Requests.{is_server, server_end}
use Rattle.rpc_laws.specs.Sessions.{client_end}
use Rattle.rpc_outside.specs.declared.service.Mode.{Mode}
use Rattle.node_laws.specs.Valid.{to_come}
use Rattle.node_laws.proofs.KeptLemmas.{kept-after}
use Rattle.node_laws.proofs.RunLaws.{pair-fits}
use Rattle.session_store.specs.Sides.{Shown}
use Rattle.node_laws.proofs.NumberLemmas.{numbered-push}
use Rattle.node_steps.specs.Fits.{CallsAscend, Fits, HasCredit, IsSettled, pace_no}
use Rattle.node_steps.specs.Seen.{Tallies, seen_node}
use Rattle.node_steps.specs.Requests.{AllServed, SlotsServed}
use Rattle.node_steps.proofs.LivesSteps.{kept-known}

-- what nothing refuses has a number that wasn't used
pub few-paired : (spent : Bool) (s : Lists) (credits : ℕ) → clients_spent s ≡ spent
    → refusal_by spent credits s ≡ None → length s.clients < SESSION_NUMBERS
few-paired true s credits e taken = cc
few-paired false s credits e taken = leb-false SESSION_NUMBERS (length s.clients) e

pub few-servers : (spent : Bool) (s : Lists) (credits : ℕ) → servers_spent s ≡ spent
    → refusal_by spent credits s ≡ None → s.server_numbers < SESSION_NUMBERS
few-servers true s credits e taken = cc
few-servers false s credits e taken = leb-false SESSION_NUMBERS s.server_numbers e

module _ (me : ℕ) (limits : Limits) (tallies : Tallies) (paces : List Pace) (jobs : Jobs)
    (clock : ℕ) (rx : Ring DatagramValue) (s t : Shown) where
  abbrev old : Timed
  old = seen_node me limits tallies paces jobs clock rx s

  module _ (fits : Fits old s.size s.places) (credits peer other life : ℕ) (some : 1 ≤ credits)
      (known : List ℕ)
      (queued : t.queued ≡ s.queued) (size : t.size ≡ s.size) (places : t.places ≡ s.places) where
    pub fits-paired-client : (now : List Pace)
        → now ≡ paces ++ record { session = length s.clients; rate = 0; next = 0 } ∷ []
        → client_refusal credits old.lists ≡ None
        → t.clients ≡ s.clients ++ client_end (length s.clients) peer other credits life ∷ []
        → t.servers ≡ s.servers → credits ≤ MOST_CREDITS → other < SESSION_NUMBERS
        → Within lives life
        → Fits (seen_node me limits (record tallies { known = known }) now jobs clock rx t) t.size
        t.places
    fits-paired-client now paced taken clients servers most below theirs =
        let made : Event = PairedClient (length s.clients) peer other credits life in
        record {
          kept = rw (paced, clients, servers, queued) (kept-known _ known
              (kept-after clock old.lists (plain me made) fits.kept (record {
                numbered = refl;
                room = pair-fits (clients_spent old.lists) credits old.lists taken;
              })));
          ascends = rw clients (all-push CallsAscend s.clients
              (client_end (length s.clients) peer other credits life) fits.ascends tt);
          paces = rw paced (numbered-push pace_no 0 paces
              (record { session = length s.clients; rate = 0; next = 0 }) fits.paces
              (omega (arith, fits.each)));
          each = rw (paced, clients) (omega (
            arith,
            length-append paces (record { session = length s.clients; rate = 0; next = 0 } ∷ []),
            length-append s.clients (client_end (length s.clients) peer other credits life ∷ []),
            fits.each,
          ));
          settled = rw clients (all-push IsSettled s.clients
              (client_end (length s.clients) peer other credits life) fits.settled
              (record {
                some = some;
                most = most;
                life = λ has. theirs;
                joined = λ has. below;
                few = omega arith;
                none_left = λ closed. refl;
              }));
          numbers = rw clients (omega (
            arith,
            length-append s.clients (client_end (length s.clients) peer other credits life ∷ []),
            few-paired (clients_spent old.lists) old.lists credits refl taken,
          ));
          credits = rw servers fits.credits;
          sendable = rw queued fits.sendable;
          replies = rw queued fits.replies;
          most = fits.most;
          packets = size ∙ fits.packets;
          jobs = fits.jobs;
          alive = fits.alive;
          server_numbers = fits.server_numbers;
          buffers = places ∙ fits.buffers;
        }

    pub fits-paired-server : (next : ℕ) → next ≡ tallies.server_numbers + 1
        → credits ≤ MOST_CREDITS → server_refusal credits old.lists ≡ None → t.clients ≡ s.clients
        → t.servers ≡ s.servers ++ server_end tallies.server_numbers peer other credits life ∷ []
        → Fits (seen_node me limits (record tallies { server_numbers = next; known = known }) paces jobs
        clock rx t) t.size t.places
    fits-paired-server next after-is most taken clients servers =
        let made : Event = PairedServer tallies.server_numbers peer other credits life in
        record {
          kept = rw (after-is, clients, servers, queued) (kept-known _ known
              (kept-after clock old.lists (plain me made) fits.kept (record {
                numbered = refl;
                room = pair-fits (servers_spent old.lists) credits old.lists taken;
              })));
          ascends = rw clients fits.ascends;
          paces = fits.paces;
          settled = rw clients fits.settled;
          numbers = rw clients fits.numbers;
          each = rw clients fits.each;
          credits = rw servers (all-push HasCredit s.servers
              (server_end tallies.server_numbers peer other credits life) fits.credits (some, most));
          sendable = rw queued fits.sendable;
          replies = rw queued fits.replies;
          most = fits.most;
          packets = size ∙ fits.packets;
          jobs = fits.jobs;
          alive = fits.alive;
          server_numbers = omega (
            arith,
            after-is,
            few-servers (servers_spent old.lists) old.lists credits refl taken,
          );
          buffers = places ∙ fits.buffers;
        }

-- the numbers of server sessions lie below those that weren't used
pub below-used : (n used count : ℕ) (b : Bool) → nat_le used n ≡ b → 1 ≤ count
    → count + cond b 1 0 ≤ 1 → n < used
below-used n used count true t one all = absurd (omega (arith, one, all))
below-used n used count false t one all = leb-false used n t

pub numbers-below : (used : ℕ) (vs : List Server)
    → ((t : ℕ) → count_by (is_server t) vs + to_come used t ≤ 1)
    → AllByRecursion (λ v. v.way.number < used) vs
numbers-below used [] alone = tt
numbers-below used (v ∷ vs) alone = (
  below-used v.way.number used (count_by (is_server v.way.number) (v ∷ vs))
      (nat_le used v.way.number) refl
      (omega (
        arith,
        counted-cons (is_server v.way.number) v vs true
            (eq-eqb v.way.number v.way.number refl),
      )) (alone v.way.number),
  numbers-below used vs (λ t. omega (
    arith,
    alone t,
    counted-cons (is_server t) v vs (is_server t v) refl,
  )),
)

-- a new session has no requests
pub served-more : (mode : ℕ → Mode) (servers vs : List Server) (number peer other credits life : ℕ)
    → vs ≡ servers ++ server_end number peer other credits life ∷ [] → AllServed mode servers
    → AllServed mode vs
served-more mode servers vs number peer other credits life is served =
    rw is (all-push (SlotsServed mode) servers (server_end number peer other credits life) served tt)
