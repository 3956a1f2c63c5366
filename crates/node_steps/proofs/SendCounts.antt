-- What several steps hand to the link, one after another.
use Rattle.std.proofs.Common.{◌≡◌, ℕ, ◌+◌, ◌||◌, Bool, true, false, List, []}
use Rattle.std.proofs.Common.{◌∷◌, ◌++◌, refl, sym, ap, subst, ◌∙◌, arith}
use Rattle.std.specs.Prelude.{count_by, option_map}
use Rattle.rpc_base.specs.declared.fact.Fact.{Fact}
use Rattle.rpc_laws.specs.declared.tables.Queued.{Queued}
use Rattle.memory_count.specs.Faults.{HasRisen}
use Rattle.rpc_outside.specs.declared.link.Link as Link
use Rattle.node_steps.specs.Counts.{is_sent}
use Rattle.node_steps.specs.Notes.{sent_of}
use Rattle.node_steps.specs.Links.{left_one}
use Rattle.node_steps.specs.Links.{CountsUnsent, FailedAs, HeldBack, is_unsent, LinkTook}
use Rattle.node_steps.specs.Links.{RisenBy, Troubles, unsent_in, troubles_of}
use Rattle.node_steps.specs.declared.told.Asking.{Asking}
use Rattle.node_steps.proofs.NoteSteps.{sent-append, took-none, took-then}
use Rattle.node_steps.proofs.NoteStill.{AllStill}
use Rattle.node_steps.proofs.NoteCounts.{many-append, many-none, sent-none}

-- a count that rose twice
risen-sum : (n m a b c : ℕ) → RisenBy n a b → RisenBy m b c → RisenBy (n + m) a c
risen-sum n m a b c p q = record {
  no_less = omega (arith, p.no_less, q.no_less);
  rose = omega (arith, p.rose, q.rose, q.no_less);
}

pub risen-none : (a : ℕ) → RisenBy 0 a a
risen-none a = record { no_less = omega arith; rose = omega arith }

pub risen-once : (a b : ℕ) → HasRisen a b → RisenBy 1 a b
risen-once a b h = record { no_less = h.no_less; rose = h.rose }

pub held-none : (a : Troubles) → HeldBack 0 a a
held-none a = record {
  failed = 0;
  busy = 0;
  parts = refl;
  faults = risen-none a.faults;
  busies = risen-none a.busies;
}

-- a fault of the link, or a busy answer, after which packets are left or not
risen-left : (xs : List Queued) (a b : ℕ) → HasRisen a b → RisenBy (left_one xs) a b
risen-left [] a b h = record { no_less = h.no_less; rose = omega (arith, h.no_less) }
risen-left (q ∷ qs) a b h = risen-once a b h

pub held-fault : (xs : List Queued) (fo fm fn bo bm bn : ℕ) → fm ≡ fo → bm ≡ bo → HasRisen fm fn
    → bn ≡ bm → HeldBack (left_one xs) (record { faults = fo; busies = bo })
    (record { faults = fn; busies = bn })
held-fault xs fo fm fn bo bm bn f b risen same = record {
  failed = left_one xs;
  busy = 0;
  parts = omega arith;
  faults = risen-left xs fo fn (subst (λ (n : ℕ). HasRisen n fn) f risen);
  busies = subst (λ (n : ℕ). RisenBy 0 bo n) (sym (same ∙ b)) (risen-none bo);
}

pub held-busy : (xs : List Queued) (fo fm fn bo bm bn : ℕ) → fm ≡ fo → bm ≡ bo → fn ≡ fm
    → HasRisen bm bn → HeldBack (left_one xs) (record { faults = fo; busies = bo })
    (record { faults = fn; busies = bn })
held-busy xs fo fm fn bo bm bn f b same risen = record {
  failed = 0;
  busy = left_one xs;
  parts = omega arith;
  faults = subst (λ (n : ℕ). RisenBy 0 fo n) (sym (same ∙ f)) (risen-none fo);
  busies = risen-left xs bo bn (subst (λ (n : ℕ). HasRisen n bn) b risen);
}

-- the link took a packet, or it didn't, since it was busy or failed
pub held-still : (a b : Troubles) → b.faults ≡ a.faults → b.busies ≡ a.busies → HeldBack 0 a b
held-still a b f same = record {
  failed = 0;
  busy = 0;
  parts = refl;
  faults = subst (λ (n : ℕ). RisenBy 0 a.faults n) (sym f) (risen-none a.faults);
  busies = subst (λ (n : ℕ). RisenBy 0 a.busies n) (sym same) (risen-none a.busies);
}

pub held-when-busy : (a b : Troubles) → b.faults ≡ a.faults → HasRisen a.busies b.busies
    → HeldBack 1 a b
held-when-busy a b f risen = record {
  failed = 0;
  busy = 1;
  parts = refl;
  faults = subst (λ (n : ℕ). RisenBy 0 a.faults n) (sym f) (risen-none a.faults);
  busies = risen-once a.busies b.busies risen;
}

pub held-when-failed : (a b : Troubles) → HasRisen a.faults b.faults → b.busies ≡ a.busies
    → HeldBack 1 a b
held-when-failed a b risen same = record {
  failed = 1;
  busy = 0;
  parts = refl;
  faults = risen-once a.faults b.faults risen;
  busies = subst (λ (n : ℕ). RisenBy 0 a.busies n) (sym same) (risen-none a.busies);
}

pub held-more : (n m : ℕ) (a b c : Troubles) → HeldBack n a b → HeldBack m b c
    → HeldBack (n + m) a c
held-more n m a b c p q = record {
  failed = p.failed + q.failed;
  busy = p.busy + q.busy;
  parts = omega (arith, p.parts, q.parts);
  faults = risen-sum p.failed q.failed a.faults b.faults c.faults p.faults q.faults;
  busies = risen-sum p.busy q.busy a.busies b.busies c.busies p.busies q.busies;
}

-- what is counted over steps, one after another
failed-then : (b c : Bool) (n m o : ℕ) → FailedAs b n m → FailedAs c m o → FailedAs (b || c) n o
failed-then true true n m o p q =
    record {
      no_less = omega (arith, p.no_less, q.no_less);
      rose = omega (arith, p.rose, q.no_less);
    }
failed-then true false n m o p q =
    record { no_less = omega (arith, p.no_less, q); rose = omega (arith, p.rose, q) }
failed-then false true n m o p q =
    record { no_less = omega (arith, q.no_less, p); rose = omega (arith, q.rose, p) }
failed-then false false n m o p q = q ∙ p

pub counts-then : (x y : List Fact) (b c : Bool) (k l m : Troubles) → CountsUnsent x b k l
    → CountsUnsent y c l m → CountsUnsent (x ++ y) (b || c) k m
counts-then x y b c k l m p q = record {
  held = subst (λ (n : ℕ). HeldBack n k m) (sym (many-append is_unsent x y))
      (held-more (unsent_in x) (unsent_in y) k l m p.held q.held);
  cause = failed-then b c k.faults l.faults m.faults p.cause q.cause;
}

-- what two steps tell together
abbrev pub both : Asking → Asking → Asking
both p q = record { sent = p.sent + q.sent; failed = p.failed || q.failed }

abbrev pub nothing : Asking
nothing = record { sent = 0; failed = false }

module _ {L : Type 0} (net : Link.Ghosts L) where
  -- facts of which none is of a datagram that was handed to the link
  pub link-still : (x : List Fact) (l : L) → AllStill is_sent x → AllStill is_unsent x
      → LinkTook net nothing x l l
  link-still x l none still = record {
    took = took-none (net.sent l) ∙ ap (λ ds. option_map (λ es. es ++ ds) (net.sent l))
        (sym (sent-none x none));
    went = sym (many-none is_sent x none);
    counts = record {
      held = subst (λ (n : ℕ). HeldBack n (troubles_of net l) (troubles_of net l))
          (sym (many-none is_unsent x still)) (held-none (troubles_of net l));
      cause = refl;
    };
  }

  pub link-both : (p q t : Asking) (x y : List Fact) (k l m : L) → t.sent ≡ p.sent + q.sent
      → t.failed ≡ (p.failed || q.failed) → LinkTook net p x k l
      → LinkTook net q y l m → LinkTook net t (x ++ y) k m
  link-both p q t x y k l m went failed a b = record {
    took = b.took ∙ ap (option_map (λ ds. ds ++ sent_of y)) a.took
        ∙ took-then (net.sent k) (sent_of x) (sent_of y)
        ∙ ap (λ xs. option_map (λ ds. ds ++ xs) (net.sent k)) (sym (sent-append x y));
    went = omega (arith, went, a.went, b.went, many-append is_sent x y);
    counts = rw failed (counts-then x y p.failed q.failed (troubles_of net k) (troubles_of net l) (troubles_of net m)
        a.counts b.counts);
  }

  -- facts of which one alone is of a control packet that was handed to the link
  pub link-sent : (x : List Fact) (from to : L)
      → net.sent to ≡ option_map (λ ds. ds ++ sent_of x) (net.sent from)
      → 1 ≡ count_by (λ (f : Fact). is_sent f.event) x → unsent_in x ≡ 0
      → (troubles_of net to).faults ≡ (troubles_of net from).faults
      → (troubles_of net to).busies ≡ (troubles_of net from).busies
      → LinkTook net (record { sent = 1; failed = false }) x from to
  link-sent x from to took one none calm quiet = record {
    took = took;
    went = one;
    counts = record {
      held = subst (λ (n : ℕ). HeldBack n (troubles_of net from) (troubles_of net to)) (sym none)
          (held-still (troubles_of net from) (troubles_of net to) calm quiet);
      cause = calm;
    };
  }

pub or-false : (b : Bool) → b ≡ (b || false)
or-false true = refl
or-false false = refl
