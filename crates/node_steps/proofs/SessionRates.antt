-- A session gets a rate.
use Rattle.std.proofs.Common.{◌≡◌, ℕ, zero, suc, ◌+◌, ◌<◌, true, false, List, [], ◌∷◌, length}
use Rattle.std.proofs.Common.{Option, None, Some, refl, sym, ap, ◌∙◌, eqb, arith}
use Rattle.std.specs.Prelude.{slice_get, slice_set}
use Rattle.std.specs.List.{find}
use Rattle.std.proofs.lemmas.Bool.{eq-eqb, ne_eqb}
use Rattle.std.proofs.lemmas.Option.{slice_get_within}
use Rattle.rpc_base.specs.Tables.{at_first}
use Rattle.rpc_base.specs.declared.event.Event.TheVariants.{Nrate, Rated}
use Rattle.rpc_base.specs.declared.limits.Limits.{Limits}
use Rattle.rpc_base.specs.declared.state.SessionState.{SessionState}
use Rattle.packet_rings.specs.Rings.{Ring}
use Rattle.packet_rings.specs.Values.{DatagramValue}
use Rattle.client_core.proofs.CallsLemmas.{length-at_first}
use Rattle.rpc_laws.specs.declared.tables.Client.{Client}
use Rattle.rpc_laws.specs.declared.tables.Jobs.{Jobs}
use Rattle.rpc_laws.specs.declared.tables.Pace.{Pace}
use Rattle.rpc_laws.specs.declared.tables.Timed.{Timed}
use Rattle.rpc_laws.specs.Facts.{plain}
use Rattle.rpc_laws.specs.Groups.{SetsRate, state_of}
use Rattle.rpc_laws.specs.NodeLists.{after}
use Rattle.rpc_laws.specs.Pacing.{is_pace_of}
use Rattle.rpc_laws.specs.Sessions.{is_client, is_live}
use Rattle.rpc_outside.specs.Recording.{Grew, Log}
use Rattle.node_laws.proofs.KeptLemmas.{kept-after}
use Rattle.node_laws.proofs.NumberLemmas.{numbered-get, numbered-kept}
use Rattle.node_laws.specs.Valid.{NumberedFrom, client_no}
use Rattle.session_store.specs.Sides.{Shown}
use Rattle.node_steps.specs.Fits.{Fits, pace_no}
use Rattle.node_steps.specs.Notes.{Makes}
use Rattle.node_steps.specs.Seen.{Tallies, asking_jobs, seen_node}

-- the pace of a session is the one in its place
set-by : (n k m : ℕ) (f : Pace → Pace) (ps : List Pace) (p : Pace) → NumberedFrom pace_no n ps
    → m ≡ n + k → slice_get ps k ≡ Some p
    → at_first (is_pace_of m) f ps ≡ slice_set ps k (f p)
set-by n k m f [] p h e at = cc
set-by n zero m f (q ∷ ps) p h e at =
    let same : q ≡ p = cc in
    let own : eqb q.session m ≡ true = eq-eqb q.session m (omega (arith, h.0, e)) in
    rw own (ap (λ x. f x ∷ ps) same)
set-by n (suc k) m f (q ∷ ps) p h e at =
    let other : eqb q.session m ≡ false = ne_eqb q.session m (λ same. omega (arith, h.0, e, same)) in
    rw other (ap (λ qs. q ∷ qs) (set-by (suc n) k m f ps p h.1 (omega (arith, e)) at))

pub set-at : (i : ℕ) (f : Pace → Pace) (ps : List Pace) (p : Pace) → NumberedFrom pace_no 0 ps
    → slice_get ps i ≡ Some p → slice_set ps i (f p) ≡ at_first (is_pace_of i) f ps
set-at i f ps p h at = sym (set-by 0 i i f ps p h (omega arith) at)

-- the node whose session has it
module _ (me : ℕ) (limits : Limits) (tallies : Tallies) (paces : List Pace) (jobs : Jobs)
    (clock : ℕ) (rx : Ring DatagramValue) (s : Shown) (session rate : ℕ) (state : SessionState)
    (is : state ≡ state_of (find (is_client session) s.clients)) where
  abbrev seen : Jobs → List Pace → Timed
  seen js ps = seen_node me limits tallies ps js clock rx s

  pub node-refused : is_live state ≡ false → {R : Type 0} (log : R → Log) (before now : R)
      → Grew (log before) (log now) (plain me (Nrate session state) ∷ [])
      → Makes log (SetsRate session rate) (seen jobs paces) (seen jobs paces) before now
  node-refused dead log before now grew = record {
    noted = plain me (Nrate session state) ∷ [];
    grew = grew;
    step = λ asks. record { facts = rw (← is, dead) refl; goes = refl };
  }

  module _ (live : is_live state ≡ true) (now : List Pace)
      (set : now ≡ at_first (is_pace_of session) (λ p. record p { rate = rate }) paces) where
    goes : (js : Jobs) → seen js now
        ≡ record { lists = after clock (seen js paces).lists (plain me (Rated session rate)); clock = clock }
    goes js = rw set refl

    pub node-rated : {R : Type 0} (log : R → Log) (before later : R)
        → Grew (log before) (log later) (plain me (Rated session rate) ∷ [])
        → Makes log (SetsRate session rate) (seen jobs paces) (seen jobs now) before later
    node-rated log before later grew = record {
      noted = plain me (Rated session rate) ∷ [];
      grew = grew;
      step = λ asks. record { facts = rw (← is, live) refl; goes = goes (asking_jobs asks jobs) };
    }

    pub fits-rated : Fits (seen jobs paces) s.size s.places → Fits (seen jobs now) s.size s.places
    fits-rated fits = record {
      kept = rw (ap (λ (u : Timed). u.lists) (goes jobs))
          (kept-after clock (seen jobs paces).lists (plain me (Rated session rate)) fits.kept tt);
      ascends = fits.ascends;
      paces = rw set (numbered-kept pace_no (is_pace_of session) _ (λ p. refl) 0 paces fits.paces);
      each = omega (
        arith,
        ap (λ (ps : List Pace). length ps) set,
        length-at_first (is_pace_of session) (λ p. record p { rate = rate }) paces,
        fits.each,
      );
      numbers = fits.numbers;
      settled = fits.settled;
      credits = fits.credits;
      sendable = fits.sendable;
      replies = fits.replies;
      most = fits.most;
      packets = fits.packets;
      jobs = fits.jobs;
      alive = fits.alive;
      server_numbers = fits.server_numbers;
      buffers = fits.buffers;
    }

-- a session that lives is there
pub live-there : (session : ℕ) (xs : List Client) → NumberedFrom client_no 0 xs
    → is_live (state_of (find (is_client session) xs)) ≡ true → session < length xs
live-there session xs numbered live = by (slice_get xs session) refl
  where
    same : slice_get xs session ≡ find (is_client session) xs
    same = numbered-get client_no 0 session session xs numbered (omega arith)

    by : (o : Option Client) → slice_get xs session ≡ o → session < length xs
    by None e =
        let gone : find (is_client session) xs ≡ None = sym same ∙ e in
        let dead : is_live (state_of (find (is_client session) xs)) ≡ false = rw gone refl in
        cc
    by (Some x) e = slice_get_within xs session x e
