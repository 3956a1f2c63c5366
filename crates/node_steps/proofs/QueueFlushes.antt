-- Queued packets of an owner are taken out one by one, in ascending number.
use Rattle.std.proofs.Common.{◌≡◌, ℕ, ◌≤◌, ◌<◌, Bool, true, false, cond, eqb, leb}
use Rattle.std.proofs.Common.{Option, Some, None, List, [], ◌∷◌, ◌++◌, length, refl, sym, ap, subst}
use Rattle.std.proofs.Common.{◌∙◌, append_assoc, append-nil, arith}
use Rattle.std.specs.Prelude.{map, option_map}
use Rattle.std.specs.List.{find, list_any}
use Rattle.std.proofs.lemmas.Bool.{and_parts, eq-eqb, eqb-true}
use Rattle.rpc_base.specs.Least.{bearer, least, least_number, smaller, without_bearer}
use Rattle.rpc_base.specs.Least.{without_least}
use Rattle.rpc_laws.specs.Queues.{is_reply}
use Rattle.rpc_base.specs.Tables.{without_first}
use Rattle.rpc_base.specs.declared.event.Event.TheVariants.{Flushed}
use Rattle.rpc_base.specs.declared.fact.Fact.{Fact}
use Rattle.rpc_base.specs.declared.limits.Limits.{Limits}
use Rattle.rpc_base.specs.declared.owner.Owner.{Owner}
use Rattle.rpc_base.proofs.FirstLemmas.{all-left, sum-fewer}
use Rattle.rpc_base.proofs.LeastLemmas.{least-none, least-same, none-passes}
use Rattle.rpc_base.proofs.TakingLemmas.{find-passes}
use Rattle.packet_rings.specs.Rings.{Ring}
use Rattle.packet_rings.specs.Values.{DatagramValue}
use Rattle.rpc_outside.specs.Recording.{Grew, Log}
use Rattle.rpc_laws.specs.declared.tables.Jobs.{Jobs}
use Rattle.rpc_laws.specs.declared.tables.Pace.{Pace}
use Rattle.rpc_laws.specs.declared.tables.Queued.{Queued}
use Rattle.rpc_laws.specs.declared.tables.Timed.{Timed}
use Rattle.rpc_laws.specs.Facts.{plain}
use Rattle.rpc_laws.specs.NodeLists.{after}
use Rattle.rpc_laws.specs.Queues.{flush_facts, is_queued, numbers_of, put, replies}
use Rattle.node_laws.proofs.KeptLemmas.{kept-after}
use Rattle.server_core.proofs.FlushLemmas.{none-cons, not-equal, put-first, put-later, some-is}
use Rattle.session_ends.specs.Joined.{is_owned, queued_number, queued_of}
use Rattle.session_store.specs.Sides.{Shown}
use Rattle.packet_rings.specs.Values.{EntryValue}
use Rattle.session_store.specs.Joined.{without_due}
use Rattle.node_steps.specs.Fits.{Fits, IsSendable}
use Rattle.node_steps.specs.Notes.{Makes}
use Rattle.node_steps.specs.Seen.{Tallies, asking, asking_jobs, seen_node}
use Rattle.node_steps.specs.Timers.{FlushesSome, Notes, flushing}
use Rattle.node_steps.proofs.NoteEnds.{goes-then, makes-as, makes-join, me-goes}

-- the numbers of an owner's packets, one taken out after another
module _ (owner : Owner) where
  abbrev numbers : List Queued → List ℕ
  numbers qs = numbers_of owner qs

  pub numbers-none : (qs : List Queued) → list_any (is_owned owner) qs ≡ false → numbers qs ≡ []
  numbers-none [] none = refl
  numbers-none (q ∷ qs) none =
      none-cons (is_owned owner q) (list_any (is_owned owner) qs) q.number (numbers qs) none
      (numbers-none qs)

  module _ (x : Queued) (qs : List Queued) (own : is_owned owner x ≡ true) where
    mine : numbers (x ∷ qs) ≡ put x.number (numbers qs)
    mine = rw own refl

    left-out : (k : ℕ) → x.number ≡ k
        → numbers (without_first (is_queued owner k) (x ∷ qs)) ≡ numbers qs
    left-out k same = rw (own, eq-eqb x.number k same) refl

    left-in : (k : ℕ) → eqb x.number k ≡ false
        → numbers (without_first (is_queued owner k) (x ∷ qs))
        ≡ put x.number (numbers (without_first (is_queued owner k) qs))
    left-in k other = rw (own, other, own) refl

    taken-by : (k m : ℕ) (b : Bool) → leb x.number m ≡ b → cond b x.number m ≡ k
        → numbers qs ≡ m ∷ numbers (without_first (is_queued owner m) qs)
        → numbers (x ∷ qs) ≡ k ∷ numbers (without_first (is_queued owner k) (x ∷ qs))
    taken-by k m true below same ih =
        let first : put x.number (numbers qs) ≡ k ∷ numbers qs =
        rw ih (put-first x.number m k _ below same) in
        mine ∙ first ∙ ap (λ ks. k ∷ ks) (sym (left-out k same))
    taken-by k m false above same ih =
        let later : put x.number (numbers qs)
        ≡ m ∷ put x.number (numbers (without_first (is_queued owner m) qs)) =
        rw ih (put-later x.number m _ above) in
        subst (λ j. numbers (x ∷ qs) ≡ j ∷ numbers (without_first (is_queued owner j) (x ∷ qs)))
        same
        (mine ∙ later ∙ ap (λ ks. m ∷ ks) (sym (left-in m (not-equal x.number m above))))

    taken-cons : (k : ℕ) (r : Option ℕ) → least_number (is_owned owner) queued_number qs ≡ r
        → smaller x.number r ≡ k
        → ((m : ℕ) → r ≡ Some m
        → numbers qs ≡ m ∷ numbers (without_first (is_queued owner m) qs))
        → numbers (x ∷ qs) ≡ k ∷ numbers (without_first (is_queued owner k) (x ∷ qs))
    taken-cons k None least_is same ih =
        let none = numbers-none qs (none-passes (is_owned owner) queued_number qs least_is) in
        mine ∙ rw none (ap (λ n. n ∷ []) same) ∙ ap (λ ks. k ∷ ks) (sym (left-out k same ∙ none))
    taken-cons k (Some m) least_is same ih = taken-by k m (leb x.number m) refl same (ih m refl)

  not-mine : (x : Queued) (qs : List Queued) (k : ℕ) → is_owned owner x ≡ false
      → numbers qs ≡ k ∷ numbers (without_first (is_queued owner k) qs)
      → numbers (x ∷ qs) ≡ k ∷ numbers (without_first (is_queued owner k) (x ∷ qs))
  not-mine x qs k other ih = rw (other, other) ih

  cases : (x : Queued) (qs : List Queued) (k : ℕ) (b : Bool) → is_owned owner x ≡ b
      → cond b (Some (smaller x.number (least_number (is_owned owner) queued_number qs)))
      (least_number (is_owned owner) queued_number qs) ≡ Some k
      → ((m : ℕ) → least_number (is_owned owner) queued_number qs ≡ Some m
      → numbers qs ≡ m ∷ numbers (without_first (is_queued owner m) qs))
      → numbers (x ∷ qs) ≡ k ∷ numbers (without_first (is_queued owner k) (x ∷ qs))
  cases x qs k true own e ih = taken-cons x qs own k _ refl (some-is _ k e) ih
  cases x qs k false other e ih = not-mine x qs k other (ih k e)

  numbers-taken : (k : ℕ) (qs : List Queued)
      → least_number (is_owned owner) queued_number qs ≡ Some k
      → numbers qs ≡ k ∷ numbers (without_first (is_queued owner k) qs)
  numbers-taken k [] e = cc
  numbers-taken k (x ∷ qs) e = cases x qs k (is_owned owner x) refl e (λ m h. numbers-taken m qs h)

  -- the packet of least number is taken out
  pub record Taken (q : Queued) (qs rs : List Queued) : Type 0 where
    pub own : is_owned owner q ≡ true
    pub left : rs ≡ without_first (is_queued owner q.number) qs
    pub numbers : numbers_of owner qs ≡ q.number ∷ numbers_of owner rs
    pub fewer : length rs < length qs

  found-fewer : {A : Type 0} (p : A → Bool) (xs : List A) (x : A) → find p xs ≡ Some x
      → length (without_first p xs) < length xs
  found-fewer p [] x e = cc
  found-fewer p (y ∷ ys) x e = by (p y) e (found-fewer p ys x)
    where
      by : (b : Bool) → cond b (Some y) (find p ys) ≡ Some x
          → (find p ys ≡ Some x → length (without_first p ys) < length ys)
          → length (cond b ys (y ∷ without_first p ys)) < length (y ∷ ys)
      by true h ih = omega arith
      by false h ih = omega (arith, ih h)

  taken-as : (qs : List Queued) (q : Queued) (r : Option ℕ)
      → least_number (is_owned owner) queued_number qs ≡ r
      → bearer (is_owned owner) queued_number qs r ≡ Some q
      → Taken q qs (without_bearer (is_owned owner) queued_number qs r)
  taken-as qs q None least_is h = cc
  taken-as qs q (Some k) least_is h =
      let passes = and_parts (is_owned owner q) (eqb q.number k)
      (find-passes (is_queued owner k) qs q h) in
      let same : q.number ≡ k = eqb-true q.number k passes.1 in
      record {
        own = passes.0;
        left = ap (λ n. without_first (is_queued owner n) qs) (sym same);
        numbers = rw same (numbers-taken k qs least_is);
        fewer = found-fewer (is_queued owner k) qs q h;
      }

  pub taken-out : (qs rs : List Queued) (q : Queued)
      → Some q ≡ least (is_owned owner) queued_number qs
      → rs ≡ without_least (is_owned owner) queued_number qs → Taken q qs rs
  taken-out qs rs q h e =
      rw e (taken-as qs q (least_number (is_owned owner) queued_number qs) refl (sym h))

-- what is known of it by the entry that was taken
pub record Least (owner : Owner) (qs rs : List Queued) (e : EntryValue) : Type 0 where
  pub entry : Queued
  pub number : entry.number ≡ e.number
  pub own : is_owned owner (queued_of e) ≡ true
  pub taken : Taken owner entry qs rs

pub taken-least : (owner : Owner) (qs rs : List Queued) (e : EntryValue)
    → Some (queued_of e) ≡ option_map without_due (least (is_owned owner) queued_number qs)
    → rs ≡ without_least (is_owned owner) queued_number qs → Least owner qs rs e
taken-least owner qs rs e is left = by (least (is_owned owner) queued_number qs) refl is
  where
    some-same : (x y : Queued) → Some x ≡ Some y → x ≡ y
    some-same x y h = cc

    by : (o : Option Queued) → least (is_owned owner) queued_number qs ≡ o
        → Some (queued_of e) ≡ option_map without_due o → Least owner qs rs e
    by None found h = cc
    by (Some q) found h =
        let same = some-same (queued_of e) (without_due q) h in
        let taken = taken-out owner qs rs q (sym found) left in
        record {
          entry = q;
          number = ap (λ (p : Queued). p.number) (sym same);
          own = ap (is_owned owner) same ∙ taken.own;
          taken = taken;
        }

pub least-none-by : (owner : Owner) (qs : List Queued)
    → None ≡ option_map without_due (least (is_owned owner) queued_number qs)
    → None ≡ least (is_owned owner) queued_number qs
least-none-by owner qs is = by (least (is_owned owner) queued_number qs) is
  where
    by : (o : Option Queued) → None ≡ option_map without_due o → None ≡ o
    by None h = refl
    by (Some q) h = cc

-- where none is, the queue stays
module _ (owner : Owner) (qs : List Queued) where
  pub none-owned : None ≡ least (is_owned owner) queued_number qs
      → list_any (is_owned owner) qs ≡ false
  none-owned e = (least-none (is_owned owner) queued_number qs).0 (rw (← e) refl)

  pub none-taken : (rs : List Queued) → None ≡ least (is_owned owner) queued_number qs
      → rs ≡ without_least (is_owned owner) queued_number qs → rs ≡ qs
  none-taken rs e is = is ∙ least-same (is_owned owner) queued_number qs None e

-- the node of which one was taken out
module _ (me : ℕ) (limits : Limits) (tallies : Tallies) (paces : List Pace) (jobs : Jobs)
    (clock : ℕ) (rx : Ring DatagramValue) (s t : Shown) where
  abbrev seen : Shown → Timed
  seen u = seen_node me limits tallies paces jobs clock rx u

  -- with other jobs
  abbrev seen_with : Jobs → Shown → Timed
  seen_with js u = seen_node me limits tallies paces js clock rx u

  module _ (fits : Fits (seen s) s.size s.places) (owner : Owner) (q : Queued)
      (taken : Taken owner q s.queued t.queued) (clients : t.clients ≡ s.clients)
      (servers : t.servers ≡ s.servers) where
    abbrev flushed : Fact
    flushed = plain me (Flushed owner q.number)

    goes : (js : Jobs) → seen_with js t
        ≡ record { lists = after clock (seen_with js s).lists flushed; clock = clock }
    goes js = rw (clients, servers, taken.left) refl

    few-left : replies t.queued ≤ replies s.queued
    few-left =
        rw taken.left (sum-fewer (is_queued owner q.number)
        (λ (p : Queued). cond {A = ℕ} (is_reply p.owner) 1 0) s.queued)

    pub fits-flushed : t.size ≡ s.size → t.places ≡ s.places → Fits (seen t) t.size t.places
    fits-flushed size places = record {
      kept = rw (ap (λ (u : Timed). u.lists) (goes jobs))
          (kept-after clock (seen s).lists flushed fits.kept tt);
      ascends = rw clients fits.ascends;
      paces = fits.paces;
      numbers = rw clients fits.numbers;
      each = rw clients fits.each;
      settled = rw clients fits.settled;
      credits = rw servers fits.credits;
      sendable = rw taken.left (all-left (is_queued owner q.number) IsSendable s.queued fits.sendable);
      replies = omega (arith, few-left, fits.replies);
      most = fits.most;
      packets = size ∙ fits.packets;
      jobs = fits.jobs;
      alive = fits.alive;
      server_numbers = fits.server_numbers;
      buffers = places ∙ fits.buffers;
    }

    pub node-flushed : {R : Type 0} (log : R → Log)
        (before now : R) (o : Owner) (k : ℕ) → o ≡ owner → k ≡ q.number
        → Grew (log before) (log now) (plain me (Flushed o k) ∷ [])
        → Makes log (FlushesSome owner) (seen s) (seen t) before now
    node-flushed log before now o k same number grew = record {
      noted = flushed ∷ [];
      grew = rw (← same, ← number) grew;
      step = λ asks. record {
        facts =
            ap (λ (ks : List ℕ). map (λ k. plain me (Flushed owner k)) ks) (sym taken.numbers);
        goes = goes (asking_jobs asks jobs);
      };
    }

-- one packet after another
module _ {R : Type 0} (log : R → Log) (owner : Owner) where
  pub flushed-more : (a b c : Timed) (f g h : R) → Makes log (FlushesSome owner) a b f g
      → Makes log (FlushesSome owner) b c g h → Makes log (FlushesSome owner) a c f
      h
  flushed-more a b c f g h p q =
      makes-join log (FlushesSome owner) (FlushesSome owner) (FlushesSome owner) a b c f g h
      (λ asks x y s t. record {
        facts = append_assoc x y _
            ∙ ap (λ m. x ++ (y ++ flush_facts m c.lists.queued owner))
            (sym (me-goes (asking asks a) (asking asks b) x s.goes))
            ∙ ap (λ z. x ++ z) t.facts
            ∙ ap (λ m. x ++ flush_facts m b.lists.queued owner)
            (me-goes (asking asks a) (asking asks b) x s.goes) ∙ s.facts;
        goes = goes-then (asking asks a) (asking asks b) (asking asks c) x y s.goes t.goes;
      }) p q

  pub flushed-all : (a b : Timed) (f g : R) → list_any (is_owned owner) b.lists.queued ≡ false
      → Makes log (FlushesSome owner) a b f g
      → Makes log (Notes (flushing owner)) a b f g
  flushed-all a b f g none p =
      makes-as log (FlushesSome owner) (Notes (flushing owner)) a b f g
      (λ asks x s. record {
        facts = sym (append-nil x)
            ∙ ap (λ ks. x ++ map (λ k. plain a.lists.me (Flushed owner k)) ks)
            (sym (numbers-none owner b.lists.queued none)) ∙ s.facts;
        goes = s.goes;
      }) p
