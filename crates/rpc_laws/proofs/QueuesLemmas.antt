-- Queues in which an owner has no packet.
use Rattle.std.proofs.Common.{◌≡◌, Bool, true, false, ◌||◌, cond, eq-eqb, List, [], ◌∷◌, refl}
use Rattle.std.specs.List.{list_any}
use Rattle.rpc_base.specs.declared.owner.Owner.{Owner}
use Rattle.rpc_base.specs.declared.owner.Owner.TheVariants.{Ask, Reply, Control}
use Rattle.rpc_laws.specs.declared.tables.Queued.{Queued}
use Rattle.rpc_base.specs.Owners.{same_owner}
use Rattle.rpc_laws.specs.Queues.{put, numbers_of}

none-cons : (o : Owner) (q : Queued) (qs : List Queued) (b : Bool)
    → (list_any (λ q. same_owner q.owner o) qs ≡ false → numbers_of o qs ≡ [])
    → (b || list_any (λ q. same_owner q.owner o) qs) ≡ false
    → cond b (put q.number (numbers_of o qs)) (numbers_of o qs) ≡ []
none-cons o q qs true ih h = cc
none-cons o q qs false ih h = ih h

pub numbers_of-none : (o : Owner) (qs : List Queued)
    → list_any (λ q. same_owner q.owner o) qs ≡ false → numbers_of o qs ≡ []
numbers_of-none o [] h = refl
numbers_of-none o (q ∷ qs) h = none-cons o q qs (same_owner q.owner o) (numbers_of-none o qs) h

pub same-owner : (o : Owner) → same_owner o o ≡ true
same-owner (Ask s r) = rw (eq-eqb s s refl, eq-eqb r r refl) refl
same-owner (Reply t r) = rw (eq-eqb t t refl, eq-eqb r r refl) refl
same-owner Control = refl
