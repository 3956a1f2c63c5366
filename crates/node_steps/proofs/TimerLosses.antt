-- The calls of a session that lost its peer end, one after another.
use Rattle.std.proofs.Common.{◌≡◌, ℕ, ◌<◌, Option, Some, None, List, [], ◌∷◌}
use Rattle.std.proofs.Common.{◌++◌, length, refl, sym, ap, subst, ◌∙◌, append_assoc, arith}
use Rattle.std.specs.Prelude.{map, slice_get, slice_set}
use Rattle.std.proofs.lemmas.Bool.{eq-eqb}
use Rattle.std.proofs.lemmas.List.{map-append}
use Rattle.rpc_base.specs.Tables.{without_first}
use Rattle.rpc_base.specs.declared.event.Event.TheVariants.{Broken, DonePeerLost}
use Rattle.rpc_base.proofs.PlaceLemmas.{set-here}
use Rattle.client_core.specs.Shown.{done_fact, end_bytes, end_event}
use Rattle.client_core.specs.declared.outcome.Done.{Done}
use Rattle.client_core.specs.declared.outcome.Outcome.{Outcome}
use Rattle.client_core.specs.declared.outcome.Outcome.TheVariants.{PeerLost}
use Rattle.rpc_laws.specs.declared.tables.Call.{Call}
use Rattle.rpc_laws.specs.declared.tables.Client.{Client}
use Rattle.rpc_laws.specs.Calls.{is_call}
use Rattle.rpc_laws.specs.Facts.{plain, with_bytes}
use Rattle.rpc_laws.specs.Sessions.{breaks}
use Rattle.rpc_outside.specs.Recording.{Grew, Log}
use Rattle.server_core.proofs.FlushLemmas.{grew-then}
use Rattle.session_store.specs.Changes.{ChangesAt, IsLost, LosesAt, calls_in, first_number}
use Rattle.node_steps.specs.Given.{Gave}
use Rattle.node_steps.proofs.HandedGiven.{gave-none, gave-then}
use Rattle.node_steps.specs.Timers.{EndsOne, HasLost, broken_with, lost}
use Rattle.node_steps.proofs.PacketReplies.{set-twice}
use Rattle.node_steps.specs.Changes.{◌⟶◌}
use Rattle.node_steps.proofs.TimerRollbacks.{some-same}

-- the first of some calls
pub none-first : (cs : List Call) → first_number cs ≡ None → cs ≡ []
none-first [] e = refl
none-first (c ∷ cs) e = cc

pub record Firsts (n : ℕ) (cs : List Call) : Type 0 where
  pub first : Call
  pub others : List Call
  pub calls : cs ≡ first ∷ others
  pub number : first.what.number ≡ n
  pub left : without_first (is_call n) cs ≡ others

some-first : (n : ℕ) (cs : List Call) → first_number cs ≡ Some n → Firsts n cs
some-first n [] e = cc
some-first n (c ∷ cs) e =
    let same : c.what.number ≡ n = cc in
    record {
      first = c;
      others = cs;
      calls = refl;
      number = same;
      left = rw (eq-eqb c.what.number n same) refl;
    }

ended-fact : (me : ℕ) (d : Done) → d.outcome ≡ PeerLost
    → plain me (DonePeerLost d.call) ≡ done_fact me d
ended-fact me d is =
    ap (λ (o : Outcome). with_bytes me (end_event d.call o) (end_bytes o d.resp)) (sym is)

module _ {R K : Type 0} (log : R → Log)
    (given : K → List Done → Type 0) (me i : ℕ) where
  pub none-lost : (o : Option ℕ) (old new : List Client) → o ≡ None → LosesAt i o old new
      → (calls_in (slice_get old i) ≡ []) × (new ≡ old)
  none-lost o old new e h =
      let q : LosesAt i None old new =
      rw e at h in (none-first (calls_in (slice_get old i)) q.0, q.1)

  pub one-lost : (d : Done) (old new : List Client) (before now : R) (from to : K)
      → LosesAt i (Some d.call) old new → d.outcome ≡ PeerLost
      → Grew (log before) (log now) (plain me (DonePeerLost d.call) ∷ [])
      → Gave given from to (d ∷ [])
      → EndsOne log given me i (old ⟶ new) (before ⟶ now) (from ⟶ to)
  one-lost d old new before now from to h is grew gave =
      let x = h.1.client in
      let place : calls_in (slice_get old i) ≡ x.calls = ap calls_in h.1.place in
      let firsts = some-first d.call x.calls (ap first_number (sym place) ∙ h.0) in
      let same : lost me firsts.first ≡ plain me (DonePeerLost d.call) =
      ap (λ n. plain me (DonePeerLost n)) firsts.number in
      record {
        client = x;
        place = h.1.place;
        first = firsts.first;
        left = firsts.others;
        calls = firsts.calls;
        changed = h.1.changed
            ∙ ap (λ cs. slice_set old i (record x { calls = cs })) firsts.left;
        grew = rw same grew;
        done = d;
        end = same ∙ ended-fact me d is;
        gave = gave;
      }

  pub lost-start : (old new : List Client) (before now : R) (k : K) → ChangesAt i breaks old new
      → Grew (log before) (log now) (plain me (Broken i) ∷ [])
      → (left : List Call) × HasLost log given me i left (old ⟶ new) (before ⟶ now) (k ⟶ k)
  lost-start old new before now k h grew = (
    h.client.calls,
    record {
      client = h.client;
      place = h.place;
      over = [];
      calls = refl;
      changed = h.changed;
      grew = grew;
      dones = [];
      ends = refl;
      gave = gave-none given k;
    },
  )

  module _ (left : List Call) (old mid : List Client) (before between : R) (from via : K)
      (h : HasLost log given me i left (old ⟶ mid) (before ⟶ between) (from ⟶ via)) where
    here : slice_get mid i ≡ Some (broken_with h.client left)
    here = ap (λ (xs : List Client). slice_get xs i) h.changed
        ∙ set-here old i h.client (broken_with h.client left) h.place

    pub is-lost : IsLost (slice_get mid i)
    is-lost = rw here refl

    pub lost-over : calls_in (slice_get mid i) ≡ []
        → HasLost log given me i [] (old ⟶ mid) (before ⟶ between) (from ⟶ via)
    lost-over none =
        let over : left ≡ [] = sym (ap calls_in here) ∙ none in
        subst (λ (cs : List Call). HasLost log given me i cs (old ⟶ mid) (before ⟶ between)
        (from ⟶ via)) over h

    module _ (new : List Client) (now : R) (to : K)
        (e : EndsOne log given me i (mid ⟶ new) (between ⟶ now) (via ⟶ to)) where
      same : e.client ≡ broken_with h.client left
      same = some-same e.client (broken_with h.client left) (sym e.place ∙ here)

      next : left ≡ e.first ∷ e.left
      next = sym (ap (λ (x : Client). x.calls) same) ∙ e.calls

      changed : new ≡ slice_set old i (broken_with h.client e.left)
      changed = e.changed
          ∙ ap (λ (x : Client). slice_set mid i (record x { calls = e.left })) same
          ∙ ap (λ (xs : List Client). slice_set xs i (broken_with h.client e.left)) h.changed
          ∙ set-twice old i (broken_with h.client left) (broken_with h.client e.left)

      pub lost-more : (left : List Call)
          × HasLost log given me i left (old ⟶ new) (before ⟶ now) (from ⟶ to)
      lost-more = (
        e.left,
        record {
          client = h.client;
          place = h.place;
          over = h.over ++ e.first ∷ [];
          calls = h.calls ∙ ap (λ cs. h.over ++ cs) next
              ∙ sym (append_assoc h.over (e.first ∷ []) e.left);
          changed = changed;
          grew = rw (map-append (lost me) h.over (e.first ∷ []))
              (grew-then log before between now
              (plain me (Broken i) ∷ map (lost me) h.over) (lost me e.first ∷ []) h.grew e.grew);
          dones = h.dones ++ e.done ∷ [];
          ends = map-append (lost me) h.over (e.first ∷ [])
              ∙ ap (λ fs. fs ++ lost me e.first ∷ []) h.ends
              ∙ ap (λ f. map (done_fact me) h.dones ++ f ∷ []) e.end
              ∙ sym (map-append (done_fact me) h.dones (e.done ∷ []));
          gave = gave-then given from via to h.dones (e.done ∷ []) h.gave e.gave;
        },
      )

      pub fewer-left : length (calls_in (slice_get new i)) < length (calls_in (slice_get mid i))
      fewer-left =
          let after : calls_in (slice_get new i) ≡ e.left =
          ap (λ (xs : List Client). calls_in (slice_get xs i)) e.changed
          ∙ ap calls_in (set-here mid i e.client (record e.client { calls = e.left }) e.place) in
          let before : calls_in (slice_get mid i) ≡ e.first ∷ e.left =
          ap calls_in e.place ∙ e.calls in
          rw (after, before) (omega arith)

  pub lost-same : (old mid new : List Client) (before between now : R) (from via to : K) → new ≡ mid
      → now ≡ between → to ≡ via
      → HasLost log given me i [] (old ⟶ mid) (before ⟶ between) (from ⟶ via)
      → HasLost log given me i [] (old ⟶ new) (before ⟶ now) (from ⟶ to)
  lost-same old mid new before between now from via to clients recorder kept h =
      rw (clients, recorder, kept) h
