-- What steps note, one after another.
use Rattle.std.proofs.Common.{◌≡◌, ℕ, suc, ◌+◌, Bool, true, false, Option, Some, None, List, []}
use Rattle.std.proofs.Common.{◌∷◌, ◌++◌, refl, sym, ap, subst, ◌∙◌, append_assoc, append-nil, arith}
use Rattle.std.specs.Prelude.{option_map}
use Rattle.rpc_base.specs.declared.event.Event.{Event}
use Rattle.rpc_base.specs.declared.fact.Fact.{Fact}
use Rattle.rpc_laws.specs.declared.tables.Lists.{Lists}
use Rattle.rpc_laws.specs.declared.tables.Timed.{Timed}
use Rattle.rpc_laws.specs.Steps.{Rel, NotesNext, Then, Chain, Until, Visits, none, more}
use Rattle.rpc_outside.specs.Recording.{Grew, Log}
use Rattle.rpc_outside.specs.Linking.{Carried, NoneComes}
use Rattle.server_core.proofs.FlushLemmas.{grew-none, grew-then}
use Rattle.node_steps.specs.Seen.{Asks, asking}
use Rattle.node_steps.specs.Notes.{Makes, MakesSent, NotesOne, SendsNone, sent_by, sent_of}

module _ {R : Type 0} (log : R → Log) where
  pub makes-none : (P : Rel) (a : Timed) (r : R) → Makes log (Chain P) a a r r
  makes-none P a r = record { noted = []; grew = grew-none log r; step = λ asks. none }

  pub makes-more : (P : Rel) (a b c : Timed) (f g h : R) → Makes log (Chain P) a b f g
      → Makes log P b c g h → Makes log (Chain P) a c f h
  makes-more P a b c f g h p q = record {
    noted = p.noted ++ q.noted;
    grew = grew-then log f g h p.noted q.noted p.grew q.grew;
    step = λ asks. more (p.step asks) q.noted (asking asks c) (q.step asks);
  }

  -- a step after which nothing changed
  pub as-same : (P : Rel) (a b c : Timed) (f g h : R) → c ≡ b → h ≡ g → Makes log P a b f g
      → Makes log P a c f h
  as-same P a b c f g h node recorder p =
      subst (λ (z : R). Makes log P a c f z) (sym recorder)
      (subst (λ (z : Timed). Makes log P a z f g) (sym node) p)

  pub makes-until : (P : Rel) (Over : Timed → Type 0) (a b : Timed) (f g : R)
      → Makes log (Chain P) a b f g → ((asks : Asks) → Over (asking asks b))
      → Makes log (Until P Over) a b f g
  makes-until P Over a b f g p over = record {
    noted = p.noted;
    grew = p.grew;
    step = λ asks. record { steps = p.step asks; over = over asks };
  }

  pub makes-then : (P Q : Rel) (a b c : Timed) (f g h : R) → Makes log P a b f g
      → Makes log Q b c g h → Makes log (Then P Q) a c f h
  makes-then P Q a b c f g h p q = record {
    noted = p.noted ++ q.noted;
    grew = grew-then log f g h p.noted q.noted p.grew q.grew;
    step = λ asks. record {
      between = asking asks b;
      front = p.noted;
      back = q.noted;
      joined = refl;
      first = p.step asks;
      second = q.step asks;
    };
  }

  pub makes-visit : (P : ℕ → Rel) (n : ℕ) (a b c : Timed) (f g h : R)
      → Makes log (Visits P n) a b f g → Makes log (P n) b c g h
      → Makes log (Visits P (n + 1)) a c f h
  makes-visit P n a b c f g h p q =
      let e : n + 1 ≡ suc n = omega arith in
      rw e (makes-then (Visits P n) (P n) a b c f g h p q)

  pub notes-one : (next : Lists → Option Event) (went : Bool) (a b : Timed) (f g : R) → went ≡ true
      → NotesOne log next went a b f g → Makes log (NotesNext next) a b f g
  notes-one next true a b f g e p = p
  notes-one next false a b f g e p = cc

-- sending, one packet after another
pub sent-append : (x y : List Fact) → sent_of (x ++ y) ≡ sent_of x ++ sent_of y
sent-append [] y = refl
sent-append (f ∷ fs) y =
    ap (λ ds. sent_by f.event f.first f.second ++ ds) (sent-append fs y)
    ∙ sym (append_assoc (sent_by f.event f.first f.second) (sent_of fs) (sent_of y))

pub took-none : (o : Option (List Carried)) → o ≡ option_map (λ ds. ds ++ []) o
took-none None = refl
took-none (Some ds) = ap Some (sym (append-nil ds))

pub took-then : (o : Option (List Carried)) (x y : List Carried) → option_map (λ ds. ds ++ y)
    (option_map (λ ds. ds ++ x) o) ≡ option_map (λ ds. ds ++ (x ++ y)) o
took-then None x y = refl
took-then (Some ds) x y = ap Some (append_assoc ds x y)

module _ {R L : Type 0} (log : R → Log)
    (sent : L → Option (List Carried)) where
  pub sent-none : (P : Rel) (a : Timed) (r : R) (l : L)
      → MakesSent log sent (Chain P) a a r r l l
  sent-none P a r l = record {
    makes = record { noted = []; grew = grew-none log r; step = λ asks. none };
    took = took-none (sent l);
  }

  pub sent-more : (P : Rel) (a b c : Timed) (f g h : R) (k l m : L)
      → MakesSent log sent (Chain P) a b f g k l → MakesSent log sent P b c g h l m
      → MakesSent log sent (Chain P) a c f h k m
  sent-more P a b c f g h k l m p q = record {
    makes = record {
      noted = p.makes.noted ++ q.makes.noted;
      grew = grew-then log f g h p.makes.noted q.makes.noted p.makes.grew q.makes.grew;
      step = λ asks. more (p.makes.step asks) q.makes.noted (asking asks c) (q.makes.step asks);
    };
    took = q.took ∙ ap (option_map (λ ds. ds ++ sent_of q.makes.noted)) p.took
        ∙ took-then (sent k) (sent_of p.makes.noted) (sent_of q.makes.noted)
        ∙ ap (λ xs. option_map (λ ds. ds ++ xs) (sent k))
        (sym (sent-append p.makes.noted q.makes.noted));
  }

  pub sent-still : (P : Rel) (a b c : Timed) (f g h : R) (k l m : L)
      → MakesSent log sent P a b f g k l → SendsNone sent b c g h l m
      → MakesSent log sent P a c f h k m
  sent-still P a b c f g h k l m p q = record {
    makes = record {
      noted = p.makes.noted;
      grew = subst (λ (z : R). Grew (log f) (log z) p.makes.noted) (sym q.recorder) p.makes.grew;
      step = λ asks. subst (λ (z : Timed). P (asking asks a) p.makes.noted (asking asks z))
          (sym q.node) (p.makes.step asks);
    };
    took = q.link ∙ p.took;
  }

-- nothing came meanwhile
pub none-comes : {L : Type 0} (waiting received : L → Option (List Carried)) (k l m : L)
    → NoneComes waiting received k l → NoneComes waiting received l m
    → NoneComes waiting received k m
none-comes waiting received k l m p q =
    record { waits = q.waits ∙ p.waits; stays = q.stays ∙ p.stays }
