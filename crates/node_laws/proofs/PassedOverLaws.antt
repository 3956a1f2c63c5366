-- Each of these facts is known by its event, and `after` computes.
use Rattle.std.proofs.Common.{◌≡◌, ℕ, drop, refl, subst, sym}
use Rattle.rpc_base.specs.declared.event.Event.{Event}
use Rattle.rpc_base.specs.declared.fact.Fact.{Fact}
use Rattle.rpc_laws.specs.declared.tables.Lists.{Lists}
use Rattle.rpc_laws.specs.NodeLists.{after, one_more}
use Rattle.node_laws.specs.Laws.{DatagramsArePassedOver}

-- what a fact leaves by its event is what it leaves
by-event : (clock : ℕ) (s t : Lists) (f : Fact) (e : Event) → f.event ≡ e
    → after clock s (record f { event = e }) ≡ t → after clock s f ≡ t
by-event clock s t f e is = subst (λ (x : Event). after clock s (record f { event = x }) ≡ t) (sym is)

pub passed-over : DatagramsArePassedOver
passed-over clock s f = record {
  bad = λ peer is. by-event clock s _ f _ is refl;
  overflowed = λ peer is. by-event clock s _ f _ is refl;
  dropped = λ why is. by-event clock s _ f _ is refl;
  heard = λ is. by-event clock s _ f _ is refl;
}
