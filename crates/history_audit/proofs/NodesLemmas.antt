-- What is kept of each node's facts, a fact later.
use Rattle.std.proofs.Common.{◌≡◌, ℕ, ◌+◌, ◌<◌, List, [], ◌∷◌, ◌++◌, Some, refl, sym, ap, ◌∙◌, subst, arith}
use Rattle.std.proofs.Common.{length, length-append}
use Rattle.std.specs.Prelude.{slice_get, slice_set}
use Rattle.end_laws.proofs.ListLemmas.{add-placed, Placed, set-placed}
use Rattle.history_audit.specs.declared.numbers.TheConstants.{NODES}
use Rattle.history_audit.specs.Nodes.{KeepsEach}
use Rattle.node_audit.specs.declared.node.NodeAudit.{NodeAudit}
use Rattle.node_audit.specs.Kept.{Keeps}
use Rattle.rpc_base.specs.declared.fact.Fact.{Fact}
use Rattle.rpc_base.specs.declared.fact.Who.TheVariants.{Node, Net}
use Rattle.world_laws.proofs.FactLemmas.{facts-grow, facts-other, facts-stay}
use Rattle.world_laws.specs.NodeFacts.{facts_of}

-- a fact of the network is no node's
pub net-none : (n : ℕ) (f : Fact) → f.who ≡ Net → facts_of n (f ∷ []) ≡ []
net-none n f who = rw who refl

pub stays-net : (n : ℕ) (h : List Fact) (f : Fact) → f.who ≡ Net → facts_of n (h ++ f ∷ []) ≡ facts_of n h
stays-net n h f who = facts-stay n h (f ∷ []) (net-none n f who)

pub stays-other : (n m : ℕ) (h : List Fact) (f : Fact) → f.who ≡ Node m → (m ≡ n → ⊥)
    → facts_of n (h ++ f ∷ []) ≡ facts_of n h
stays-other n m h f who ne = facts-stay n h (f ∷ []) (facts-other m n (f ∷ []) ne (who, tt))

pub grows : (n : ℕ) (h : List Fact) (f : Fact) → f.who ≡ Node n
    → facts_of n (h ++ f ∷ []) ≡ facts_of n h ++ f ∷ []
grows n h f who = facts-grow n h (f ∷ []) (who, tt)

-- before any fact
pub keeps-none : (nodes : List NodeAudit) → Placed (λ n a. Keeps a n []) nodes → KeepsEach nodes []
keeps-none nodes k = record { each = k; others = λ n le. refl }

-- one more node
pub placed-more : (nodes new : List NodeAudit) (a : NodeAudit) (k : ℕ) → length nodes ≡ k
    → Placed (λ n x. Keeps x n []) nodes → Keeps a k [] → new ≡ nodes ++ a ∷ []
    → (length new ≡ k + 1) × Placed (λ n x. Keeps x n []) new
placed-more nodes new a k long each here is = (
  ap length is ∙ length-append nodes (a ∷ []) ∙ ap (λ (n : ℕ). n + 1) long,
  subst (λ (xs : List NodeAudit). Placed (λ n x. Keeps x n []) xs) (sym is)
      (add-placed (λ n x. Keeps x n []) nodes a (subst (λ (n : ℕ). Keeps a n []) (sym long) here) each),
)

-- the node of the fact keeps it
pub keeps-node : (nodes : List NodeAudit) (h : List Fact) (f : Fact) (i : ℕ) (a b : NodeAudit)
    → f.who ≡ Node i → i < NODES → slice_get nodes i ≡ Some a
    → ((n : ℕ) (g : List Fact) → Keeps a n g → Keeps b n (g ++ f ∷ []))
    → KeepsEach nodes h → KeepsEach (slice_set nodes i b) (h ++ f ∷ [])
keeps-node nodes h f i a b who lt at next k = record {
  each = set-placed (λ n x. Keeps x n (facts_of n (h ++ f ∷ []))) nodes i a b at here other;
  others = λ n le.
      let ne : i ≡ n → ⊥ = λ e. omega (arith, e) in
      stays-other n i h f who ne ∙ k.others n le;
}
  where
    here : Keeps b i (facts_of i (h ++ f ∷ []))
    here = subst (λ (g : List Fact). Keeps b i g) (sym (grows i h f who)) (next i (facts_of i h) (k.each i a at))

    other : (j : ℕ) (z : NodeAudit) → (j ≡ i → ⊥) → slice_get nodes j ≡ Some z
        → Keeps z j (facts_of j (h ++ f ∷ []))
    other j z ne is =
        subst (λ (g : List Fact). Keeps z j g) (sym (stays-other j i h f who (λ e. ne (sym e)))) (k.each j z is)

-- none keeps one of the network
pub keeps-net : (nodes : List NodeAudit) (h : List Fact) (f : Fact) → f.who ≡ Net → KeepsEach nodes h
    → KeepsEach nodes (h ++ f ∷ [])
keeps-net nodes h f who k = record {
  each = λ n a is. subst (λ (g : List Fact). Keeps a n g) (sym (stays-net n h f who)) (k.each n a is);
  others = λ n le. stays-net n h f who ∙ k.others n le;
}
