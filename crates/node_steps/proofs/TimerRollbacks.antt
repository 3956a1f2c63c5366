-- A call is rolled back, from its session to what the node notes.
use Rattle.std.proofs.Common.{◌≡◌, ℕ, ◌≤◌, ◌<◌, Bool, true, false, Option, Some, None, List}
use Rattle.std.proofs.Common.{[], ◌∷◌, ◌++◌, length, refl, sym, ap, subst, ◌∙◌, arith}
use Rattle.std.specs.Prelude.{option_and_then, slice_get, slice_set, IfSome}
use Rattle.std.specs.List.{find, list_any}
use Rattle.std.proofs.lemmas.Bool.{eqb-true}
use Rattle.std.proofs.lemmas.List.{length-set}
use Rattle.rpc_base.specs.Tables.{at_first}
use Rattle.rpc_base.specs.declared.event.Event.TheVariants.{Rolled}
use Rattle.rpc_base.specs.declared.fact.Fact.{Fact}
use Rattle.rpc_base.specs.declared.limits.Limits.{Limits}
use Rattle.rpc_base.specs.declared.owner.Owner.TheVariants.{Ask}
use Rattle.rpc_base.proofs.FirstLemmas.{found-any}
use Rattle.rpc_base.proofs.TakingLemmas.{find-passes}
use Rattle.rpc_base.proofs.PlaceLemmas.{all-at}
use Rattle.packet_rings.specs.Rings.{Ring}
use Rattle.packet_rings.specs.Values.{DatagramValue}
use Rattle.client_core.specs.declared.active.Active.{Active}
use Rattle.rpc_outside.specs.Recording.{Grew, Log}
use Rattle.rpc_laws.specs.declared.tables.Call.{Call}
use Rattle.rpc_laws.specs.declared.tables.Client.{Client}
use Rattle.rpc_laws.specs.declared.tables.Jobs.{Jobs}
use Rattle.rpc_laws.specs.declared.tables.Pace.{Pace}
use Rattle.rpc_laws.specs.declared.tables.Progress.{Progress}
use Rattle.rpc_laws.specs.declared.tables.Timed.{Timed}
use Rattle.rpc_laws.specs.Calls.{is_call, moved, rolled_back}
use Rattle.rpc_laws.specs.Facts.{plain}
use Rattle.rpc_laws.specs.NodeLists.{after}
use Rattle.rpc_laws.specs.Sessions.{has_call, is_client, is_connected, rolls}
use Rattle.node_laws.specs.Valid.{client_no, holders}
use Rattle.node_laws.proofs.Allowed.{MayRoll as MayRollIn}
use Rattle.node_laws.proofs.KeptLemmas.{kept-after}
use Rattle.node_laws.proofs.NumberLemmas.{numbered-get}
use Rattle.session_store.specs.Changes.{ActiveAt, MayRoll, RollsAt}
use Rattle.session_store.specs.Ends.{progress_of}
use Rattle.session_ends.specs.Joined.{is_owned}
use Rattle.session_store.specs.Sides.{Shown}
use Rattle.session_store.proofs.AscendsLemmas.{ascends-changed}
use Rattle.session_ends.proofs.ListLemmas.{all-set}
use Rattle.node_steps.specs.Fits.{CallsAscend, Fits, IsSettled}
use Rattle.node_steps.specs.Notes.{Makes}
use Rattle.node_steps.specs.Seen.{Tallies, asking, asking_jobs, seen_node}
use Rattle.node_steps.specs.Timers.{HasFewRolls, Notes, flushing, rolling, rolling_back}
use Rattle.node_steps.proofs.NodeFits.{settled-connected}
use Rattle.node_steps.proofs.NoteEnds.{makes-notes}
use Rattle.node_steps.proofs.PostSteps.{only-at}

pub some-same : {A : Type 0} (x y : A) → Some x ≡ Some y → x ≡ y
some-same x y h = cc

-- a call that is active
pub record Found (n : ℕ) (p : Progress) (cs : List Call) : Type 0 where
  pub call : Call
  pub found : find (is_call n) cs ≡ Some call
  pub active : call.progress ≡ Some p

pub found-of : (n : ℕ) (p : Progress) (cs : List Call)
    → option_and_then (λ c. c.progress) (find (is_call n) cs) ≡ Some p → Found n p cs
found-of n p cs e = by (find (is_call n) cs) refl e
  where
    by : (o : Option Call) → find (is_call n) cs ≡ o
        → option_and_then (λ c. c.progress) o ≡ Some p → Found n p cs
    by None f h = cc
    by (Some c) f h = record { call = c; found = f; active = h }

-- its session is connected
pub connected-busy : (n : ℕ) (p : Progress) (x : Client) → IsSettled x → progress_of n x ≡ Some p
    → is_connected x.state ≡ true
connected-busy n p x settled e = by (is_connected x.state) refl
  where
    none-in : (cs : List Call) → cs ≡ []
        → option_and_then (λ c. c.progress) (find (is_call n) cs) ≡ Some p → false ≡ true
    none-in [] none h = cc
    none-in (c ∷ cs) none h = cc

    by : (b : Bool) → is_connected x.state ≡ b → b ≡ true
    by true t = refl
    by false t = none-in x.calls (settled.none_left t) e

pub few-of : (number : ℕ) (p : Progress) (o : Option Client) (x : Client) → o ≡ Some x
    → progress_of number x ≡ Some p
    → IfSome o (λ y. IfSome (progress_of number y) (λ q. q.rolls < 8)) → p.rolls < 8
few-of number p None x e f h = cc
few-of number p (Some y) x e f h =
    by (progress_of number y) (ap (progress_of number) (some-same y x e) ∙ f) h
  where
    by : (o : Option Progress) → o ≡ Some p → IfSome o (λ q. q.rolls < 8) → p.rolls < 8
    by None t few = cc
    by (Some q) t few = rw (← (some-same q p t)) few

module _ (me : ℕ) (limits : Limits) (tallies : Tallies) (paces : List Pace) (jobs : Jobs)
    (clock : ℕ) (rx : Ring DatagramValue) (s : Shown) where
  abbrev seen : Shown → Timed
  seen u = seen_node me limits tallies paces jobs clock rx u

  -- with other jobs
  abbrev seen_with : Jobs → Shown → Timed
  seen_with js u = seen_node me limits tallies paces js clock rx u

  module _ (fits : Fits (seen s) s.size s.places) (i : ℕ) (a : Active)
      (active : ActiveAt i a s.clients)
      (idle : list_any (is_owned (Ask i a.request)) s.queued ≡ false) where
    abbrev x : Client
    x = active.client

    abbrev p : Progress
    p = active.progress

    settled : IsSettled x
    settled = all-at IsSettled s.clients i x fits.settled active.place

    connected : is_connected x.state ≡ true
    connected = connected-busy a.call p x settled active.active

    none-queued : list_any (is_owned (Ask i p.request)) s.queued ≡ false
    none-queued =
        subst (λ (b : Active). list_any (is_owned (Ask i b.request)) s.queued ≡ false) active.told
        idle

    pub may-roll : HasFewRolls i a.call s.clients → MayRoll i a.call s
    may-roll few = record {
      client = x;
      place = active.place;
      connected = connected;
      progress = p;
      active = active.active;
      few = few-of a.call p (slice_get s.clients i) x active.place active.active few;
      idle = none-queued;
    }

    module _ (t : Shown) (rolled : RollsAt i a.call s.clients t.clients)
        (servers : t.servers ≡ s.servers) (queued : t.queued ≡ s.queued) where
      abbrev y : Client
      y = rolls a.call p.posted p.got x

      same : rolled.client ≡ x
      same = some-same rolled.client x (sym rolled.place ∙ active.place)

      same-progress : rolled.progress ≡ p
      same-progress = some-same rolled.progress p
          (sym rolled.active ∙ ap (progress_of a.call) same ∙ active.active)

      changed : t.clients ≡ slice_set s.clients i y
      changed = rolled.changed
          ∙ ap (λ (q : Progress). slice_set s.clients i (rolls a.call q.posted q.got rolled.client))
          same-progress
          ∙ ap (λ (z : Client). slice_set s.clients i (rolls a.call p.posted p.got z)) same

      abbrev fact : Fact
      fact = plain me (Rolled a.call p.posted p.got)

      found : Found a.call p x.calls
      found = found-of a.call p x.calls active.active

      few : holders a.call s.clients ≤ 1
      few = omega (arith, fits.kept.valid.once a.call)

      told : t.clients ≡ at_first (has_call a.call) (rolls a.call p.posted p.got) s.clients
      told =
          changed ∙ sym (only-at (rolls a.call p.posted p.got) a.call s.clients i x few active.place
          (found-any (is_call a.call) x.calls found.call found.found))

      goes : (js : Jobs) → seen_with js t
          ≡ record { lists = after clock (seen_with js s).lists fact; clock = clock }
      goes js = rw (told, servers, queued) refl

      number : found.call.what.number ≡ a.call
      number = eqb-true found.call.what.number a.call
          (find-passes (is_call a.call) x.calls found.call found.found)

      there : find (is_client i) s.clients ≡ Some x
      there = sym (numbered-get client_no 0 i i s.clients fits.kept.valid.numbered (omega arith))
          ∙ active.place

      may : MayRollIn (seen s).lists a.call p.posted p.got
      may = record {
        session = i;
        client = x;
        call = found.call;
        progress = p;
        active =
            record {
              place = record { test = is_call a.call; client = there; call = found.found };
              active = found.active;
            };
        same = sym number;
        from = refl;
        back = refl;
        unqueued = none-queued;
      }

      pub fits-rolled : t.size ≡ s.size → t.places ≡ s.places → Fits (seen t) t.size t.places
      fits-rolled size places = record {
        kept =
            rw (ap (λ (u : Timed). u.lists) (goes jobs))
            (kept-after clock (seen s).lists fact fits.kept may);
        ascends = rw changed (all-set CallsAscend s.clients i y
            (ascends-changed (is_call a.call) (moved (rolled_back p.got)) (λ d. refl) x.calls
            (all-at CallsAscend s.clients i x fits.ascends active.place))
            (λ j z e other. all-at CallsAscend s.clients j z fits.ascends e));
        paces = fits.paces;
        numbers = omega (
          arith,
          ap (λ (zs : List Client). length zs) changed,
          length-set s.clients i y,
          fits.numbers,
        );
        each = omega (
          arith,
          ap (λ (zs : List Client). length zs) changed,
          length-set s.clients i y,
          fits.each,
        );
        settled =
            rw changed (all-set IsSettled s.clients i y
            (settled-connected x y settled connected refl refl refl refl)
            (λ j z e other. all-at IsSettled s.clients j z fits.settled e));
        credits = rw servers fits.credits;
        sendable = rw queued fits.sendable;
        replies = rw queued fits.replies;
        most = fits.most;
        packets = size ∙ fits.packets;
        jobs = fits.jobs;
        alive = fits.alive;
        server_numbers = fits.server_numbers;
        buffers = places ∙ fits.buffers;
      }

      pub node-rolled : {R : Type 0} (log : R → Log)
          (before now : R) (n posted got : ℕ) → n ≡ a.call → posted ≡ a.posted → got ≡ a.got
          → Grew (log before) (log now) (plain me (Rolled n posted got) ∷ [])
          → Makes log (Notes (rolling a)) (seen s) (seen t) before now
      node-rolled log before now n posted got n-is posted-is got-is grew = record {
        noted = plain me (Rolled a.call a.posted a.got) ∷ [];
        grew = rw (← n-is, ← posted-is, ← got-is) grew;
        step = λ asks. record {
          facts = refl;
          goes = goes (asking_jobs asks jobs)
              ∙ ap (λ (b : Active). record {
                lists =
                    after clock (seen_with (asking_jobs asks jobs) s).lists
                    (plain me (Rolled a.call b.posted b.got));
                clock = clock;
              }) (sym active.told);
        };
      }

-- a rollback, whole
pub rolled-whole : {R : Type 0} (log : R → Log) (i : ℕ)
    (active : Active) (a b c : Timed) (f g h : R) → b.lists.me ≡ a.lists.me
    → Makes log (Notes (flushing (Ask i active.request))) a b f g
    → Makes log (Notes (rolling active)) b c g h
    → Makes log (Notes (rolling_back i active)) a c f h
rolled-whole log i active a b c f g h me p q =
    makes-notes log (flushing (Ask i active.request)) (rolling active)
    (rolling_back i active) a b c f g h
    (λ asks. ap (λ m. flushing (Ask i active.request) (asking asks a)
    ++ plain m (Rolled active.call active.posted active.got) ∷ []) me) p q
