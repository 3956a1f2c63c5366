-- Steps that note what can be told of the node as it was, one after another; and those in which
-- calls end.
use Rattle.std.proofs.Common.{◌≡◌, ℕ, suc, Bool, List, [], ◌∷◌, ◌++◌, refl}
use Rattle.std.proofs.Common.{sym, ap, ◌∙◌, cond, true, false}
use Rattle.std.specs.Prelude.{map}
use Rattle.std.specs.List.{filter}
use Rattle.std.proofs.lemmas.List.{map-append}
use Rattle.rpc_outside.specs.Recording.{Log}
use Rattle.client_core.specs.Shown.{done_fact}
use Rattle.client_core.specs.declared.outcome.Done.{Done}
use Rattle.rpc_base.specs.declared.fact.Fact.{Fact}
use Rattle.rpc_laws.specs.declared.tables.Lists.{Lists}
use Rattle.rpc_laws.specs.declared.tables.Timed.{Timed}
use Rattle.rpc_laws.specs.Steps.{Rel, Goes, Visits}
use Rattle.rpc_laws.proofs.RunLemmas.{after_all-append, me-after_all}
use Rattle.server_core.proofs.FlushLemmas.{grew-none, grew-then}
use Rattle.node_steps.proofs.HandedGiven.{gave-none, gave-then}
use Rattle.node_steps.specs.Notes.{Makes, MakesEnds, is_end}
use Rattle.node_steps.specs.Seen.{Asks, asking}
use Rattle.node_steps.specs.Timers.{Notes}

pub goes-then : (s t u : Timed) (x y : List Fact) → Goes s x t → Goes t y u → Goes s (x ++ y) u
goes-then s t u x y p q =
    q ∙ rw p (ap (λ (l : Lists). record { lists = l; clock = s.clock })
    (sym (after_all-append s.clock s.lists x y)))

pub me-goes : (s t : Timed) (x : List Fact) → Goes s x t → t.lists.me ≡ s.lists.me
me-goes s t x p = ap (λ (z : Timed). z.lists.me) p ∙ me-after_all s.clock s.lists x

-- what no job asks
abbrev pub no_asks : Asks
no_asks = λ _ _. []

module _ {R : Type 0} (log : R → Log) where
  unfoldable pub makes-join : (P Q S : Rel) (a b c : Timed) (f g h : R)
      → ((asks : Asks) (x y : List Fact) → P (asking asks a) x (asking asks b)
      → Q (asking asks b) y (asking asks c) → S (asking asks a) (x ++ y) (asking asks c))
      → Makes log P a b f g → Makes log Q b c g h → Makes log S a c f h
  makes-join P Q S a b c f g h join p q = record {
    noted = p.noted ++ q.noted;
    grew = grew-then log f g h p.noted q.noted p.grew q.grew;
    step = λ asks. join asks p.noted q.noted (p.step asks) (q.step asks);
  }

  pub makes-as : (P Q : Rel) (a b : Timed) (f g : R)
      → ((asks : Asks) (x : List Fact) → P (asking asks a) x (asking asks b)
      → Q (asking asks a) x (asking asks b))
      → Makes log P a b f g → Makes log Q a b f g
  makes-as P Q a b f g same p = record {
    noted = p.noted;
    grew = p.grew;
    step = λ asks. same asks p.noted (p.step asks);
  }

  pub makes-notes : (F G H : Timed → List Fact) (a b c : Timed) (f g h : R)
      → ((asks : Asks) → F (asking asks a) ++ G (asking asks b) ≡ H (asking asks a))
      → Makes log (Notes F) a b f g → Makes log (Notes G) b c g h
      → Makes log (Notes H) a c f h
  makes-notes F G H a b c f g h all p q =
      makes-join (Notes F) (Notes G) (Notes H) a b c f g h
      (λ asks x y s t. record {
        facts = rw (s.facts, t.facts) (all asks);
        goes = goes-then (asking asks a) (asking asks b) (asking asks c) x y s.goes t.goes;
      }) p q

-- the ends among facts
pub ends-append : (x y : List Fact) → filter is_end (x ++ y) ≡ filter is_end x ++ filter is_end y
ends-append [] y = refl
ends-append (f ∷ fs) y = by (is_end f) (ends-append fs y)
  where
    by : (b : Bool) → filter is_end (fs ++ y) ≡ filter is_end fs ++ filter is_end y
        → cond b (f ∷ filter is_end (fs ++ y)) (filter is_end (fs ++ y))
        ≡ cond b (f ∷ filter is_end fs) (filter is_end fs) ++ filter is_end y
    by true ih = ap (λ fs. f ∷ fs) ih
    by false ih = ih

module _ {R K : Type 0} (log : R → Log)
    (given : K → List Done → Type 0) where
  unfoldable pub ends-join : (P Q S : Rel) (a b c : Timed) (f g h : R) (j k l : K)
      → b.lists.me ≡ a.lists.me
      → ((asks : Asks) (x y : List Fact) → P (asking asks a) x (asking asks b)
      → Q (asking asks b) y (asking asks c) → S (asking asks a) (x ++ y) (asking asks c))
      → MakesEnds log given P a b f g j k → MakesEnds log given Q b c g h k l
      → MakesEnds log given S a c f h j l
  unfolding makes-join
  ends-join P Q S a b c f g h j k l me join p q = record {
    makes = makes-join log P Q S a b c f g h join p.makes q.makes;
    dones = p.dones ++ q.dones;
    ends = ends-append p.makes.noted q.makes.noted
        ∙ ap (λ x. x ++ filter is_end q.makes.noted) p.ends
        ∙ ap (λ y. map (done_fact a.lists.me) p.dones ++ y) q.ends
        ∙ ap (λ m. map (done_fact a.lists.me) p.dones ++ map (done_fact m) q.dones) me
        ∙ sym (map-append (done_fact a.lists.me) p.dones q.dones);
    gave = gave-then given j k l p.dones q.dones p.gave q.gave;
  }

  pub ends-as : (P Q : Rel) (a b : Timed) (f g : R) (k l : K)
      → ((asks : Asks) (x : List Fact) → P (asking asks a) x (asking asks b)
      → Q (asking asks a) x (asking asks b))
      → MakesEnds log given P a b f g k l → MakesEnds log given Q a b f g k l
  unfolding makes-as
  ends-as P Q a b f g k l same p = record {
    makes = makes-as log P Q a b f g same p.makes;
    dones = p.dones;
    ends = p.ends;
    gave = p.gave;
  }

  pub ends-visit : (P : ℕ → Rel) (n m : ℕ) (a b c : Timed) (f g h : R) (j k l : K) → m ≡ suc n
      → b.lists.me ≡ a.lists.me → MakesEnds log given (Visits P n) a b f g j k
      → MakesEnds log given (P n) b c g h k l
      → MakesEnds log given (Visits P m) a c f h j l
  ends-visit P n m a b c f g h j k l is me p q =
      rw is (ends-join (Visits P n) (P n) (Visits P (suc n)) a b c f g h j k l me
      (λ asks x y s t. record {
        between = asking asks b;
        front = x;
        back = y;
        joined = refl;
        first = s;
        second = t;
      }) p q)

  -- nothing is noted, and no call ends
  unfoldable pub ends-none : (P : Rel) (a : Timed) (f : R) (k : K)
      → ((asks : Asks) → P (asking asks a) [] (asking asks a))
      → MakesEnds log given P a a f f k k
  ends-none P a f k step = record {
    makes = record { noted = []; grew = grew-none log f; step = step };
    dones = [];
    ends = refl;
    gave = gave-none given k;
  }

  -- no call ends
  pub ends-silent : (F : Timed → List Fact) (a b : Timed) (f g : R) (k : K)
      → filter is_end (F (asking no_asks a)) ≡ [] → Makes log (Notes F) a b f g
      → MakesEnds log given (Notes F) a b f g k k
  ends-silent F a b f g k none p = record {
    makes = p;
    dones = [];
    ends = ap (λ (x : List Fact). filter is_end x) (p.step no_asks).facts ∙ none;
    gave = gave-none given k;
  }
