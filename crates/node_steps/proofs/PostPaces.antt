-- The pace of a session stands in the place of its number.
use Rattle.std.proofs.Common.{◌≡◌, ◌≢◌, ℕ, zero, suc, ◌+◌, ◌<◌, Bool, true, false, cond, eqb}
use Rattle.std.proofs.Common.{ltb, Option, Some, None, List, [], ◌∷◌, refl, sym, ap, ◌∙◌, arith}
use Rattle.std.specs.Prelude.{IfSome, option_map, slice_get, slice_set}
use Rattle.std.specs.List.{find}
use Rattle.std.proofs.lemmas.Bool.{eq-eqb, ltb-false, ne_eqb}
use Rattle.rpc_base.specs.Tables.{at_first}
use Rattle.rpc_base.proofs.FindLemmas.{mapped-found}
use Rattle.rpc_base.proofs.PlaceLemmas.{set-here}
use Rattle.rpc_laws.specs.declared.tables.Call.{Call}
use Rattle.rpc_laws.specs.declared.tables.Client.{Client}
use Rattle.rpc_laws.specs.declared.tables.Pace.{Pace}
use Rattle.rpc_laws.specs.declared.tables.Progress.{Progress}
use Rattle.rpc_laws.specs.Calls.{has_request, is_active, moved, posted_up_to}
use Rattle.rpc_laws.specs.Pacing.{call_size, is_paced, packet_size}
use Rattle.rpc_laws.specs.Sessions.{is_client, posts}
use Rattle.node_laws.specs.Valid.{NumberedFrom, client_no}
use Rattle.node_laws.proofs.NumberLemmas.{numbered-get}
use Rattle.session_store.specs.Changes.{PostsNext}
use Rattle.node_steps.specs.Fits.{pace_no}

-- a later session's pace is another's
none-later : (m n : ℕ) (ps : List Pace) → m < n → NumberedFrom pace_no n ps
    → find (is_paced m) ps ≡ None
none-later m n [] less h = refl
none-later m n (p ∷ ps) less h =
    let other : eqb p.session m ≡ false = ne_eqb p.session m (λ same. omega (arith, less, h.0, same)) in
    rw other (none-later m (suc n) ps (omega (arith, less)) h.1)

same-later : (m n : ℕ) (f : Pace → Pace) (ps : List Pace) → m < n → NumberedFrom pace_no n ps
    → at_first (is_paced m) f ps ≡ ps
same-later m n f [] less h = refl
same-later m n f (p ∷ ps) less h =
    let other : eqb p.session m ≡ false = ne_eqb p.session m (λ same. omega (arith, less, h.0, same)) in
    rw other (ap (λ qs. p ∷ qs) (same-later m (suc n) f ps (omega (arith, less)) h.1))

-- one without a rate isn't found, and one with a rate is
found-by : (n k m : ℕ) (ps : List Pace) (p : Pace) (b : Bool) → NumberedFrom pace_no n ps
    → m ≡ n + k → slice_get ps k ≡ Some p → ltb 0 p.rate ≡ b
    → find (is_paced m) ps ≡ cond b (Some p) None
found-by n k m [] p b h e at t = cc
found-by n zero m (q ∷ ps) p b h e at t =
    let same : q ≡ p = cc in
    let own : eqb q.session m ≡ true = eq-eqb q.session m (omega (arith, h.0, e)) in
    let rate : ltb 0 q.rate ≡ b = ap (λ (x : Pace). ltb 0 x.rate) same ∙ t in
    rw (own, rate) (by b same (none-later m (suc n) ps (omega (arith, e)) h.1))
  where
    by : (c : Bool) → q ≡ p → find (is_paced m) ps ≡ None
        → cond c (Some q) (find (is_paced m) ps) ≡ cond c (Some p) None
    by true is none = ap Some is
    by false is none = none
found-by n (suc k) m (q ∷ ps) p b h e at t =
    let other : eqb q.session m ≡ false = ne_eqb q.session m (λ same. omega (arith, h.0, e, same)) in
    rw other (found-by (suc n) k m ps p b h.1 (omega (arith, e)) at t)

changed-by : (n k m : ℕ) (f : Pace → Pace) (ps : List Pace) (p : Pace) (b : Bool)
    → NumberedFrom pace_no n ps → m ≡ n + k → slice_get ps k ≡ Some p → ltb 0 p.rate ≡ b
    → at_first (is_paced m) f ps ≡ cond b (slice_set ps k (f p)) ps
changed-by n k m f [] p b h e at t = cc
changed-by n zero m f (q ∷ ps) p b h e at t =
    let same : q ≡ p = cc in
    let own : eqb q.session m ≡ true = eq-eqb q.session m (omega (arith, h.0, e)) in
    let rate : ltb 0 q.rate ≡ b = ap (λ (x : Pace). ltb 0 x.rate) same ∙ t in
    rw (own, rate) (by b same (same-later m (suc n) f ps (omega (arith, e)) h.1))
  where
    by : (c : Bool) → q ≡ p → at_first (is_paced m) f ps ≡ ps
        → cond c (f q ∷ ps) (q ∷ at_first (is_paced m) f ps) ≡ cond c (f p ∷ ps) (q ∷ ps)
    by true is rest = ap (λ x. f x ∷ ps) is
    by false is rest = ap (λ qs. q ∷ qs) rest
changed-by n (suc k) m f (q ∷ ps) p b h e at t =
    let other : eqb q.session m ≡ false = ne_eqb q.session m (λ same. omega (arith, h.0, e, same)) in
    let rest = changed-by (suc n) k m f ps p b h.1 (omega (arith, e)) at t in
    rw other (by b rest)
  where
    by : (c : Bool) → at_first (is_paced m) f ps ≡ cond c (slice_set ps k (f p)) ps
        → q ∷ at_first (is_paced m) f ps ≡ cond c (q ∷ slice_set ps k (f p)) (q ∷ ps)
    by true is = ap (λ qs. q ∷ qs) is
    by false is = ap (λ qs. q ∷ qs) is

module _ (i : ℕ) (ps : List Pace) (p : Pace) (h : NumberedFrom pace_no 0 ps)
    (at : slice_get ps i ≡ Some p) where
  pub found-paced : (b : Bool) → ltb 0 p.rate ≡ b → find (is_paced i) ps ≡ cond b (Some p) None
  found-paced b t = found-by 0 i i ps p b h (omega arith) at t

  pub changed-paced : (f : Pace → Pace) (b : Bool) → ltb 0 p.rate ≡ b
      → at_first (is_paced i) f ps ≡ cond b (slice_set ps i (f p)) ps
  changed-paced f b t = changed-by 0 i i f ps p b h (omega arith) at t

pub no-rate : (p : Pace) → p.rate ≡ 0 → ltb 0 p.rate ≡ false
no-rate p none = rw none refl

-- a packet is as long after its posting as before
size-moved : (k n : ℕ) (o : Option Call)
    → call_size k (option_map (moved (posted_up_to n)) o) ≡ call_size k o
size-moved k n None = refl
size-moved k n (Some c) = refl

pub size-posted : (r k n : ℕ) (x : Client)
    → packet_size r k (Some (posts r n x)) ≡ packet_size r k (Some x)
size-posted r k n x =
    ap (call_size k) (mapped-found (is_active r) (moved (posted_up_to n)) still-active x.calls)
    ∙ size-moved k n (find (is_active r) x.calls)
  where
    by : (o : Option Progress)
        → has_request r (option_map (posted_up_to n) o) ≡ has_request r o
    by None = refl
    by (Some p) = refl

    still-active : (c : Call) → is_active r (moved (posted_up_to n) c) ≡ is_active r c
    still-active c = by c.progress

pub some-rate : (p : Pace) → p.rate ≢ 0 → ltb 0 p.rate ≡ true
some-rate p some = by (ltb 0 p.rate) refl
  where
    by : (b : Bool) → ltb 0 p.rate ≡ b → b ≡ true
    by true t = refl
    by false t = absurd (some (omega (arith, ltb-false 0 p.rate t)))

-- and it is that of the session that posted it
pub size-told : (i r k n : ℕ) (xs ys : List Client) (p : PostsNext i (r, k) xs ys)
    → NumberedFrom client_no 0 xs
    → IfSome (slice_get ys i) (λ x. n ≡ packet_size r k (Some x))
    → n ≡ packet_size r k (find (is_client i) xs)
size-told i r k n xs ys p numbered told =
    let there : slice_get ys i ≡ Some (posts r k p.client) =
    ap (λ zs. slice_get zs i) p.changed ∙ set-here xs i p.client (posts r k p.client) p.place in
    let now : n ≡ packet_size r k (Some (posts r k p.client)) = rw there at told in
    now ∙ size-posted r k k p.client
    ∙ ap (packet_size r k) (sym p.place ∙ numbered-get client_no 0 i i xs numbered (omega arith))
