-- The queued packets of all calls of a session are taken out, call by call.
use Rattle.std.proofs.Common.{◌≡◌, ◌≢◌, ℕ, ◌%◌, ◌<◌, ◌≤◌, Bool, true, false, ◌&&◌, cond, eqb, ltb}
use Rattle.std.proofs.Common.{Option, Some, None, List, [], ◌∷◌, ◌++◌, refl, sym, ap, subst, ◌∙◌}
use Rattle.std.proofs.Common.{arith}
use Rattle.std.proofs.Common.{append_assoc, append-nil}
use Rattle.std.specs.Prelude.{filter, is_some}
use Rattle.std.specs.List.{AllByRecursion, find, flat_map}
use Rattle.std.proofs.lemmas.Bool.{and_parts, eq-eqb, eqb-false, ne_eqb}
use Rattle.std.proofs.lemmas.Bool.Decides.{nat_tests}
use Rattle.rpc_outside.specs.Recording.{Log}
use Rattle.rpc_base.specs.Owners.{same_owner}
use Rattle.rpc_base.specs.Tables.{without_first}
use Rattle.rpc_base.specs.declared.fact.Fact.{Fact}
use Rattle.rpc_base.specs.declared.owner.Owner.{Owner}
use Rattle.rpc_base.specs.declared.owner.Owner.TheVariants.{Ask}
use Rattle.rpc_base.proofs.FirstLemmas.{counted-cons, found-holds}
use Rattle.client_core.specs.declared.active.Active.{Active}
use Rattle.rpc_laws.specs.declared.tables.Call.{Call}
use Rattle.rpc_laws.specs.declared.tables.Lists.{Lists}
use Rattle.rpc_laws.specs.declared.tables.Progress.{Progress}
use Rattle.rpc_laws.specs.declared.tables.Queued.{Queued}
use Rattle.rpc_laws.specs.declared.tables.Timed.{Timed}
use Rattle.rpc_laws.specs.GoBackN.{flushes_of}
use Rattle.rpc_laws.specs.NodeLists.{after_all}
use Rattle.rpc_laws.specs.Posting.{holds_slot}
use Rattle.rpc_laws.specs.Queues.{flush_facts, is_queued, numbers_of}
use Rattle.rpc_laws.specs.Steps.{Goes}
use Rattle.node_laws.specs.Valid.{in_slot}
use Rattle.node_laws.proofs.FlushLemmas.{flush-after}
use Rattle.node_laws.proofs.QueueLemmas.{taken_out}
use Rattle.session_store.specs.Ends.{Ascends, is_above}
use Rattle.server_core.proofs.FlushLemmas.{grew-none}
use Rattle.node_steps.specs.Notes.{Makes}
use Rattle.node_steps.specs.Seen.{asking}
use Rattle.node_steps.specs.Timers.{Notes, calls_at, flushing, flushing_all}
use Rattle.session_store.proofs.StandLemmas.{owner-is}
use Rattle.node_steps.proofs.TimerNext.{Told, is_next}
use Rattle.node_steps.proofs.NoteEnds.{goes-then, makes-as, makes-join, me-goes}

-- what calls give that are above a number
module _ (F : Call → List Fact) where
  abbrev pub from : Option ℕ → List Call → List Fact
  from after cs = flat_map F (filter (is_above after) cs)

  pub from-all : (cs : List Call) → from None cs ≡ flat_map F cs
  from-all [] = refl
  from-all (c ∷ cs) = ap (λ fs. F c ++ fs) (from-all cs)

lower : (n e : ℕ) → e ≤ n → ltb n e ≡ false
lower n e low = grind (arith, nat_tests)

higher : (n e : ℕ) → n < e → ltb n e ≡ true
higher n e low = grind (arith, nat_tests)

module _ (F : Call → List Fact) (idle : (c : Call) → is_some c.progress ≡ false → F c ≡ []) where
  over-cons : (after : Option ℕ) (c : Call) (cs : List Call) (d u : Bool) → is_some c.progress ≡ d
      → (find (is_next after) cs ≡ None → from F after cs ≡ [])
      → cond (d && u) (Some c) (find (is_next after) cs) ≡ None
      → flat_map F (cond u (c ∷ filter (is_above after) cs) (filter (is_above after) cs)) ≡ []
  over-cons after c cs true true t ih e = cc
  over-cons after c cs true false t ih e = ih e
  over-cons after c cs false true t ih e = rw (idle c t) (ih e)
  over-cons after c cs false false t ih e = ih e

  pub from-over : (after : Option ℕ) (cs : List Call) → find (is_next after) cs ≡ None
      → from F after cs ≡ []
  from-over after [] e = refl
  from-over after (c ∷ cs) e =
      over-cons after c cs (is_some c.progress) (is_above after c) refl (from-over after cs) e

  above-more : (after : Option ℕ) (c d : Call) → is_above after c ≡ true
      → c.what.number < d.what.number → is_above after d ≡ true
  above-more None c d up more = refl
  above-more (Some n) c d up more = grind (arith, nat_tests)

  all-pass : (q : Call → Bool) (k : ℕ) (cs : List Call)
      → ((d : Call) → k < d.what.number → q d ≡ true) → AllByRecursion (λ d. k < d.what.number) cs
      → filter q cs ≡ cs
  all-pass q k [] h all = refl
  all-pass q k (c ∷ cs) h all =
      rw (h c all.0) (ap (λ (ds : List Call). c ∷ ds) (all-pass q k cs h all.1))

  next-cons : (after : Option ℕ) (c d : Call) (cs : List Call) (b u : Bool) → is_some c.progress ≡ b
      → is_above after c ≡ u → Ascends (c ∷ cs)
      → (find (is_next after) cs ≡ Some d
      → from F after cs ≡ F d ++ from F (Some d.what.number) cs)
      → cond (b && u) (Some c) (find (is_next after) cs) ≡ Some d
      → flat_map F (cond u (c ∷ filter (is_above after) cs) (filter (is_above after) cs))
      ≡ F d ++ from F (Some d.what.number) (c ∷ cs)
  next-cons after c d cs true true t up order ih e =
      let same : c ≡ d = cc in
      let all =
      all-pass (is_above after) c.what.number cs (λ x more. above-more after c x up more) order.0 in
      let own = all-pass (is_above (Some c.what.number)) c.what.number cs
      (λ x more. higher c.what.number x.what.number more) order.0 in
      subst (λ (x : Call). F c ++ from F after cs ≡ F x ++ from F (Some x.what.number) (c ∷ cs))
      same
      (rw (lower c.what.number c.what.number (omega arith), all, own) refl)
  next-cons after c d cs true false t up order ih e =
      let low = found-holds (is_next after) (λ x. c.what.number < x.what.number) cs d order.0 e in
      rw (lower d.what.number c.what.number (omega (arith, low))) (ih e)
  next-cons after c d cs false true t up order ih e =
      let low = found-holds (is_next after) (λ x. c.what.number < x.what.number) cs d order.0 e in
      rw (lower d.what.number c.what.number (omega (arith, low)), idle c t) (ih e)
  next-cons after c d cs false false t up order ih e =
      let low = found-holds (is_next after) (λ x. c.what.number < x.what.number) cs d order.0 e in
      rw (lower d.what.number c.what.number (omega (arith, low))) (ih e)

  pub from-next : (after : Option ℕ) (cs : List Call) (d : Call) → Ascends cs
      → find (is_next after) cs ≡ Some d
      → from F after cs ≡ F d ++ from F (Some d.what.number) cs
  from-next after [] d order e = cc
  from-next after (c ∷ cs) d order e =
      next-cons after c d cs (is_some c.progress) (is_above after c) refl refl order
      (λ h. from-next after cs d order.1 h) e

-- calls above one that has a slot don't have it
module _ (F G : Call → List Fact) (slot : ℕ)
    (same : (c : Call) → holds_slot slot c.progress ≡ false → G c ≡ F c) where
  free-by : (q : Call → Bool) (c : Call) (cs : List Call) (b u : Bool)
      → holds_slot slot c.progress ≡ b → in_slot slot (c ∷ cs) ≡ 0
      → (in_slot slot cs ≡ 0 → flat_map G (filter q cs) ≡ flat_map F (filter q cs))
      → flat_map G (cond u (c ∷ filter q cs) (filter q cs))
      ≡ flat_map F (cond u (c ∷ filter q cs) (filter q cs))
  free-by q c cs true u t none ih =
      absurd (omega (arith, none, counted-cons (λ d. holds_slot slot d.progress) c cs true t))
  free-by q c cs false true t none ih =
      rw (
        same c t,
        ih (omega (
          arith,
          none,
          counted-cons (λ d. holds_slot slot d.progress) c cs
              false t,
        )),
      ) refl
  free-by q c cs false false t none ih =
      ih (omega (arith, none, counted-cons (λ d. holds_slot slot d.progress) c cs false t))

  free-same : (q : Call → Bool) (cs : List Call) → in_slot slot cs ≡ 0
      → flat_map G (filter q cs) ≡ flat_map F (filter q cs)
  free-same q [] none = refl
  free-same q (c ∷ cs) none =
      free-by q c cs (holds_slot slot c.progress) (q c) refl none (free-same q cs)

  later-cons : (after : Option ℕ) (c d : Call) (cs : List Call) (b : Bool) → Ascends (c ∷ cs)
      → in_slot slot (c ∷ cs) ≤ 1 → holds_slot slot d.progress ≡ true
      → (find (is_next after) cs ≡ Some d → in_slot slot cs ≤ 1
      → from G (Some d.what.number) cs ≡ from F (Some d.what.number) cs)
      → cond b (Some c) (find (is_next after) cs) ≡ Some d
      → from G (Some d.what.number) (c ∷ cs) ≡ from F (Some d.what.number) (c ∷ cs)
  later-cons after c d cs true order few holds ih e =
      let own : c ≡ d = cc in
      let holds_own : holds_slot slot c.progress ≡ true =
      ap (λ (x : Call). holds_slot slot x.progress) own ∙ holds in
      let none : in_slot slot cs ≡ 0 =
      omega (arith, few, counted-cons (λ x. holds_slot slot x.progress) c cs true holds_own) in
      subst (λ (x : Call). from G (Some x.what.number) (c ∷ cs) ≡ from F (Some x.what.number)
      (c ∷ cs))
      own
      (rw (lower c.what.number c.what.number (omega arith))
      (free-same (is_above (Some c.what.number)) cs none))
  later-cons after c d cs false order few holds ih e =
      let low = found-holds (is_next after) (λ x. c.what.number < x.what.number) cs d order.0 e in
      let rest : in_slot slot cs ≤ 1 =
      omega (
        arith,
        few,
        counted-cons (λ x. holds_slot slot x.progress) c cs
            (holds_slot slot c.progress) refl,
      ) in
      rw (lower d.what.number c.what.number (omega (arith, low))) (ih e rest)

  pub later-same : (after : Option ℕ) (cs : List Call) (d : Call) → Ascends cs → in_slot slot cs ≤ 1
      → find (is_next after) cs ≡ Some d → holds_slot slot d.progress ≡ true
      → from G (Some d.what.number) cs ≡ from F (Some d.what.number) cs
  later-same after [] d order few e holds = cc
  later-same after (c ∷ cs) d order few e holds =
      later-cons after c d cs (is_next after c) order few holds
      (λ f rest. later-same after cs d order.1 rest f holds) e

-- the packets of another request stay queued
module _ (i r q : ℕ) (other : q ≢ r) where
  not-owned : (o : Owner) → same_owner o (Ask i r) ≡ true → same_owner o (Ask i q) ≡ false
  not-owned o own =
      let is = owner-is o i r own in
      let apart : eqb r q ≡ false = ne_eqb r q (λ e. other (sym e)) in
      rw (is, eq-eqb i i refl, apart) refl

  kept-by : (k : ℕ) (p : Queued) (ps : List Queued) (b : Bool) → is_queued (Ask i r) k p ≡ b
      → numbers_of (Ask i q) (without_first (is_queued (Ask i r) k) ps) ≡ numbers_of (Ask i q) ps
      → numbers_of (Ask i q) (cond b ps (p ∷ without_first (is_queued (Ask i r) k) ps))
      ≡ numbers_of (Ask i q) (p ∷ ps)
  kept-by k p ps true t ih =
      rw (not-owned p.owner (and_parts (same_owner p.owner (Ask i r)) (eqb p.number k) t).0) refl
  kept-by k p ps false t ih = rw ih refl

  kept-one : (k : ℕ) (ps : List Queued)
      → numbers_of (Ask i q) (without_first (is_queued (Ask i r) k) ps) ≡ numbers_of (Ask i q) ps
  kept-one k [] = refl
  kept-one k (p ∷ ps) = kept-by k p ps (is_queued (Ask i r) k p) refl (kept-one k ps)

  pub numbers-kept : (ks : List ℕ) (ps : List Queued)
      → numbers_of (Ask i q) (taken_out (Ask i r) ks ps) ≡ numbers_of (Ask i q) ps
  numbers-kept [] ps = refl
  numbers-kept (k ∷ ks) ps =
      numbers-kept ks (without_first (is_queued (Ask i r) k) ps) ∙ kept-one k ps

-- the packets of a call
abbrev pub flushes : (me i : ℕ) → List Queued → Call → List Fact
flushes me i queued c = flushes_of me i queued c.progress

idle-flushes : (me i : ℕ) (queued : List Queued) (c : Call) → is_some c.progress ≡ false
    → flushes me i queued c ≡ []
idle-flushes me i queued c e = by c.progress e
  where
    by : (o : Option Progress) → is_some o ≡ false → flushes_of me i queued o ≡ []
    by None t = refl
    by (Some p) t = cc

others-flushes : (me i r : ℕ) (ks : List ℕ) (queued : List Queued) (c : Call)
    → holds_slot (r % 8) c.progress ≡ false
    → flushes me i (taken_out (Ask i r) ks queued) c ≡ flushes me i queued c
others-flushes me i r ks queued c e = by c.progress e
  where
    by : (o : Option Progress) → holds_slot (r % 8) o ≡ false
        → flushes_of me i (taken_out (Ask i r) ks queued) o ≡ flushes_of me i queued o
    by None t = refl
    by (Some p) t =
        let apart : p.request ≢ r =
        λ same. eqb-false (p.request % 8) (r % 8) t (ap (λ (n : ℕ). n % 8) same) in
        rw (numbers-kept i r p.request apart ks queued) refl

-- the packets of the calls up to one are taken out, and those above it are still queued
pub record FlushesFrom (i : ℕ) (after : Option ℕ) (s : Timed) (x : List Fact) (t : Timed) : Type 0
  where
    pub facts : x ++ from (flushes s.lists.me i t.lists.queued) after (calls_at i s) ≡ flushing_all
        i s
    pub goes : Goes s x t

more-facts : (i : ℕ) (after : Option ℕ) (active : Active) (me : ℕ) (cs : List Call)
    (now later : List Queued) (x y total : List Fact) → Ascends cs
    → ((slot : ℕ) → in_slot slot cs ≤ 1) → Told after cs active
    → x ++ from (flushes me i now) after cs ≡ total
    → y ≡ flush_facts me now (Ask i active.request)
    → later ≡ taken_out (Ask i active.request) (numbers_of (Ask i active.request) now) now
    → (x ++ y) ++ from (flushes me i later) (Some active.call) cs ≡ total
more-facts i after active me cs now later x y total order few told sum facts left =
    let d = told.call in
    let r = active.request in
    let F = flushes me i now in
    let number : active.call ≡ d.what.number = ap (λ (b : Active). b.call) told.told in
    let own : F d ≡ y =
    ap (flushes_of me i now) told.is_active
    ∙ ap (λ (b : Active). flush_facts me now (Ask i b.request)) (sym told.told)
    ∙ sym facts in
    let holds : holds_slot (r % 8) d.progress ≡ true =
    ap (holds_slot (r % 8)) told.is_active
    ∙ eq-eqb (told.progress.request % 8) (r % 8)
    (ap (λ (b : Active). b.request % 8) (sym told.told)) in
    let others : from (flushes me i later) (Some d.what.number) cs ≡ from F (Some d.what.number) cs
    =
    later-same F (flushes me i later) (r % 8)
    (λ c e. ap (λ qs. flushes me i qs c) left
    ∙ others-flushes me i r (numbers_of (Ask i r) now) now c e) after cs d order (few (r % 8))
    told.found holds in
    let next = from-next F (λ c e. idle-flushes me i now c e) after cs d order told.found in
    ap (λ n. (x ++ y) ++ from (flushes me i later) (Some n) cs) number
    ∙ ap (λ fs. (x ++ y) ++ fs) others
    ∙ append_assoc x y (from F (Some d.what.number) cs)
    ∙ ap (λ fs. x ++ (fs ++ from F (Some d.what.number) cs)) (sym own)
    ∙ ap (λ fs. x ++ fs) (sym next) ∙ sum

module _ {R : Type 0} (log : R → Log) (i : ℕ) where
  pub gather-start : (a : Timed) (f : R) → Makes log (FlushesFrom i None) a a f f
  gather-start a f = record {
    noted = [];
    grew = grew-none log f;
    step =
        λ asks. record {
          facts = from-all (flushes a.lists.me i a.lists.queued) (calls_at i a);
          goes
              = refl;
        };
  }

  pub gather-over : (after : Option ℕ) (a b : Timed) (f g : R)
      → find (is_next after) (calls_at i a) ≡ None
      → Makes log (FlushesFrom i after) a b f g
      → Makes log (Notes (flushing_all i)) a b f g
  gather-over after a b f g none p =
      makes-as log (FlushesFrom i after) (Notes (flushing_all i)) a b f g
      (λ asks x s. record {
        facts = sym (append-nil x)
            ∙ ap (λ fs. x ++ fs)
            (sym (from-over (flushes a.lists.me i b.lists.queued)
            (λ c e. idle-flushes a.lists.me i b.lists.queued c e) after (calls_at i a) none))
            ∙ s.facts;
        goes = s.goes;
      }) p

  queue-left : (r : ℕ) (b c : Timed) (y : List Fact) → Notes (flushing (Ask i r)) b y c
      → c.lists.queued ≡ taken_out (Ask i r) (numbers_of (Ask i r) b.lists.queued) b.lists.queued
  queue-left r b c y h =
      ap (λ (z : Timed). z.lists.queued) h.goes
      ∙ ap (λ (z : List Fact). (after_all b.clock b.lists z).queued) h.facts
      ∙ ap (λ (l : Lists). l.queued) (flush-after b.clock b.lists b.lists.me (Ask i r)
      (numbers_of (Ask i r) b.lists.queued))

  pub gather-more : (after : Option ℕ) (active : Active) (a b c : Timed) (f g h : R)
      → Ascends (calls_at i a) → ((slot : ℕ) → in_slot slot (calls_at i a) ≤ 1)
      → Told after (calls_at i a) active → Makes log (FlushesFrom i after) a b f g
      → Makes log (Notes (flushing (Ask i active.request))) b c g h
      → Makes log (FlushesFrom i (Some active.call)) a c f h
  gather-more after active a b c f g h order few told p q =
      makes-join log (FlushesFrom i after) (Notes (flushing (Ask i active.request)))
      (FlushesFrom i (Some active.call)) a b c f g h
      (λ asks x y s t. record {
        facts =
            more-facts i after active a.lists.me (calls_at i a) b.lists.queued c.lists.queued x y
            (flushing_all i a) order few told s.facts
            (t.facts ∙ ap (λ m. flush_facts m b.lists.queued (Ask i active.request))
            (me-goes (asking asks a) (asking asks b) x s.goes))
            (queue-left active.request (asking asks b) (asking asks c) y t);
        goes = goes-then (asking asks a) (asking asks b) (asking asks c) x y s.goes t.goes;
      }) p q
