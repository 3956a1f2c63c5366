-- Older replies are flushed, and a reply is put behind the queue.
use Rattle.std.proofs.Common.{◌≡◌, ℕ, ◌≤◌, ◌||◌, Bool, true, false, cond, not, Option, Some}
use Rattle.std.proofs.Common.{None}
use Rattle.std.proofs.Common.{List, [], ◌∷◌, ◌++◌, refl, sym, ap, ◌∙◌, ◌&&◌, arith}
use Rattle.std.specs.Prelude.{map}
use Rattle.std.specs.List.{AllByRecursion, filter, list_any}
use Rattle.rpc_base.specs.Owners.{same_owner}
use Rattle.rpc_base.specs.Tables.{without_first}
use Rattle.rpc_base.specs.declared.event.Event.TheVariants.{Flushed}
use Rattle.rpc_base.specs.declared.fact.Fact.{Fact}
use Rattle.rpc_base.specs.declared.owner.Owner.{Owner}
use Rattle.rpc_base.specs.declared.owner.Owner.TheVariants.{Reply}
use Rattle.rpc_base.proofs.FirstLemmas.{counted-cons}
use Rattle.rpc_base.proofs.TakingLemmas.{filter-without_first}
use Rattle.rpc_laws.specs.declared.tables.Lists.{Lists}
use Rattle.rpc_laws.specs.declared.tables.Queued.{Queued}
use Rattle.rpc_laws.specs.declared.tables.Served.{Served as ServedRequest}
use Rattle.rpc_laws.specs.Facts.{plain}
use Rattle.rpc_laws.specs.NodeLists.{after_all}
use Rattle.rpc_laws.specs.Queues.{is_queued, is_reply, numbers_of, replies}
use Rattle.rpc_laws.specs.ServerTable.{flushes}
use Rattle.rpc_laws.specs.Service.{Answers, Serving, served_after_all}
use Rattle.rpc_outside.specs.Served.{Served}
use Rattle.node_laws.proofs.FlushLemmas.{flush-after, no-more-same}
use Rattle.node_laws.proofs.QueueLemmas.{flushed-none, taken_out}
use Rattle.session_ends.specs.Joined.{is_owned}
use Rattle.session_store.specs.Serving.{without_owned}
use Rattle.node_steps.specs.Fits.{IsSendable}

-- the packets of an owner, taken out by their numbers, are those that a filter leaves out
module _ (owner : Owner) where
  abbrev left : Queued → Bool
  left q = not (is_owned owner q)

  owned-by : (b c : Bool) → (b && c) ≡ true → not b ≡ false
  owned-by true c e = refl
  owned-by false c e = cc

  left-taken : (ks : List ℕ) (qs : List Queued)
      → filter left (taken_out owner ks qs) ≡ filter left qs
  left-taken [] qs = refl
  left-taken (k ∷ ks) qs =
      left-taken ks (without_first (is_queued owner k) qs)
      ∙ filter-without_first (is_queued owner k) left qs
      (λ q t. owned-by (same_owner q.owner owner) _ t)

  none-cons : (q : Queued) (qs : List Queued) (b : Bool)
      → (b || list_any (λ x. same_owner x.owner owner) qs) ≡ false
      → (list_any (λ x. same_owner x.owner owner) qs ≡ false → filter left qs ≡ qs)
      → cond (not b) (q ∷ filter left qs) (filter left qs) ≡ q ∷ qs
  none-cons q qs true none ih = cc
  none-cons q qs false none ih = ap (λ xs. q ∷ xs) (ih none)

  none-left : (qs : List Queued) → list_any (λ x. same_owner x.owner owner) qs ≡ false
      → filter left qs ≡ qs
  none-left [] none = refl
  none-left (q ∷ qs) none = none-cons q qs (same_owner q.owner owner) none (none-left qs)

  pub taken-left : (qs : List Queued) → taken_out owner (numbers_of owner qs) qs ≡ filter left qs
  taken-left qs =
      sym (none-left (taken_out owner (numbers_of owner qs) qs)
      (flushed-none owner qs qs (no-more-same qs)))
      ∙ left-taken (numbers_of owner qs) qs

  -- flushing serves nothing
  quiet : (me : ℕ) (v : Serving) (served : Served) (ks : List ℕ) (fs : List Fact)
      → Answers v served fs → Answers v served (map (λ k. plain me (Flushed owner k)) ks ++ fs)
  quiet me v served [] fs a = a
  quiet me v served (k ∷ ks) fs a = (tt, quiet me v served ks fs a)

  quiet-after : (me : ℕ) (v : Serving) (served : Served) (ks : List ℕ) (fs : List Fact)
      → served_after_all v.mode served (map (λ k. plain me (Flushed owner k)) ks ++ fs)
      ≡ served_after_all v.mode served fs
  quiet-after me v served [] fs = refl
  quiet-after me v served (k ∷ ks) fs = quiet-after me v served ks fs

-- a filter keeps what holds of all, and leaves no more replies
module _ (p : Queued → Bool) where
  ready-cons : (q : Queued) (qs : List Queued) (b : Bool) → IsSendable q
      → AllByRecursion IsSendable (filter p qs)
      → AllByRecursion IsSendable (cond b (q ∷ filter p qs) (filter p qs))
  ready-cons q qs true one all = (one, all)
  ready-cons q qs false one all = all

  ready-filter : (qs : List Queued) → AllByRecursion IsSendable qs
      → AllByRecursion IsSendable (filter p qs)
  ready-filter [] all = tt
  ready-filter (q ∷ qs) all = ready-cons q qs (p q) all.0 (ready-filter qs all.1)

  fewer-cons : (q : Queued) (qs : List Queued) (b : Bool) → replies (filter p qs) ≤ replies qs
      → replies (cond b (q ∷ filter p qs) (filter p qs)) ≤ replies (q ∷ qs)
  fewer-cons q qs true few =
      omega (
        arith,
        few,
        counted-cons (λ (x : Queued). is_reply x.owner) q qs (is_reply q.owner) refl,
        counted-cons (λ (x : Queued). is_reply x.owner) q (filter p qs) (is_reply q.owner) refl,
      )
  fewer-cons q qs false few =
      omega (
        arith,
        few,
        counted-cons (λ (x : Queued). is_reply x.owner) q qs (is_reply q.owner)
            refl,
      )

  fewer-filter : (qs : List Queued) → replies (filter p qs) ≤ replies qs
  fewer-filter [] = omega arith
  fewer-filter (q ∷ qs) = fewer-cons q qs (p q) (fewer-filter qs)

-- the replies to the older request of a slot are flushed, if there is one
module _ (n : ℕ) where
  pub flushed-after : (clock me : ℕ) (s : Lists) (o : Option ServedRequest) (qs : List Queued)
      → s.queued ≡ qs → after_all clock s (flushes me qs n o)
      ≡ record s { queued = without_owned n o qs }
  flushed-after clock me s None qs e = ap (λ xs. record s { queued = xs }) e
  flushed-after clock me s (Some q) qs e =
      flush-after clock s me (Reply n q.number) (numbers_of (Reply n q.number) qs)
      ∙ ap (λ xs. record s {
        queued = taken_out (Reply n q.number) (numbers_of (Reply n q.number)
            qs) xs;
      }) e
      ∙ ap (λ xs. record s { queued = xs }) (taken-left (Reply n q.number) qs)

  pub ready-left : (o : Option ServedRequest) (qs : List Queued) → AllByRecursion IsSendable qs
      → AllByRecursion IsSendable (without_owned n o qs)
  ready-left None qs all = all
  ready-left (Some q) qs all = ready-filter (left (Reply n q.number)) qs all

  pub fewer-left : (o : Option ServedRequest) (qs : List Queued)
      → replies (without_owned n o qs) ≤ replies qs
  fewer-left None qs = omega arith
  fewer-left (Some q) qs = fewer-filter (left (Reply n q.number)) qs

  pub flushes-quiet : (me : ℕ) (v : Serving) (served : Served) (o : Option ServedRequest)
      (qs : List Queued) (fs : List Fact) → Answers v served fs
      → Answers v served (flushes me qs n o ++ fs)
  flushes-quiet me v served None qs fs a = a
  flushes-quiet me v served (Some q) qs fs a = quiet (Reply n q.number) me v served
      (numbers_of (Reply n q.number) qs) fs a

  pub flushes-serve : (me : ℕ) (v : Serving) (served : Served) (o : Option ServedRequest)
      (qs : List Queued) (fs : List Fact)
      → served_after_all v.mode served (flushes me qs n o ++ fs) ≡ served_after_all v.mode served fs
  flushes-serve me v served None qs fs = refl
  flushes-serve me v served (Some q) qs fs =
      quiet-after (Reply n q.number) me v served (numbers_of (Reply n q.number) qs) fs
