-- A request counts its queued replies anew: all else of its session is as it was.
use Rattle.std.proofs.Common.{◌≡◌, ℕ, ◌+◌, ◌-◌, ◌<◌, Bool, true, false, ◌||◌, cond, Some}
use Rattle.std.proofs.Common.{List, [], ◌∷◌, refl, ap, ◌∙◌, arith}
use Rattle.std.specs.Prelude.{map, sum_by}
use Rattle.std.specs.List.{AllByRecursion, find, list_any}
use Rattle.std.proofs.lemmas.List.Sums.{sum_by-cons}
use Rattle.buffer_pool.specs.Pool.{Pool}
use Rattle.packet_rings.specs.Values.{EntryValue}
use Rattle.rpc_base.specs.Tables.{at_first}
use Rattle.rpc_laws.specs.declared.tables.Served.{Served}
use Rattle.rpc_laws.specs.declared.tables.Server.{Server}
use Rattle.rpc_outside.specs.declared.service.Mode.{Mode}
use Rattle.rpc_outside.specs.declared.service.Mode.TheVariants.{Unserved}
use Rattle.std.specs.Prelude.{◌≢◌}
use Rattle.server_core.specs.declared.slot.SlotRequest.{SlotRequest}
use Rattle.server_core.specs.Flushing.{HoldsAll, HoldsReplies}
use Rattle.server_core.specs.KeepsPool.{IsKept, KeepsPool, KeepsSpare, LeavesOthers, own_names, own_places}
use Rattle.server_core.specs.Replies.{is_owner}
use Rattle.server_core.specs.Serving.{with_slots}
use Rattle.server_core.specs.Session.{IsInTurn, IsSession, Session, is_in_slot}
use Rattle.server_core.specs.Shown.{shown, shown_request, way_of}
use Rattle.server_core.specs.Steps.{AreServed}
use Rattle.server_core.proofs.HoldLemmas.{each-as, own-as}

module _ (g : ℕ → ℕ) (test : SlotRequest → Bool) where
  abbrev pub recounted : SlotRequest → SlotRequest
  recounted q = record q { queued = g q.queued }

  sum-cons : (w : SlotRequest → ℕ) (x : SlotRequest) (xs : List SlotRequest) (b : Bool)
      → w (recounted x) ≡ w x → sum_by w (at_first test recounted xs) ≡ sum_by w xs
      → sum_by w (cond b (recounted x ∷ xs) (x ∷ at_first test recounted xs)) ≡ sum_by w (x ∷ xs)
  sum-cons w x xs true same ih = omega (arith, sum_by-cons w (recounted x) xs, sum_by-cons w x xs, same)
  sum-cons w x xs false same ih = omega (arith, sum_by-cons w x (at_first test recounted xs), sum_by-cons w x xs, ih)

  pub sum-as : (w : SlotRequest → ℕ) → ((q : SlotRequest) → w (recounted q) ≡ w q)
      → (xs : List SlotRequest) → sum_by w (at_first test recounted xs) ≡ sum_by w xs
  sum-as w same [] = refl
  sum-as w same (x ∷ xs) = sum-cons w x xs (test x) (same x) (sum-as w same xs)

  map-cons : {B : Type 0} (h : SlotRequest → B) (x : SlotRequest) (xs : List SlotRequest) (b : Bool)
      → h (recounted x) ≡ h x → map h (at_first test recounted xs) ≡ map h xs
      → map h (cond b (recounted x ∷ xs) (x ∷ at_first test recounted xs)) ≡ h x ∷ map h xs
  map-cons h x xs true same ih = ap (λ y. y ∷ map h xs) same
  map-cons h x xs false same ih = ap (λ ys. h x ∷ ys) ih

  pub map-as : {B : Type 0} (h : SlotRequest → B) → ((q : SlotRequest) → h (recounted q) ≡ h q)
      → (xs : List SlotRequest) → map h (at_first test recounted xs) ≡ map h xs
  map-as h same [] = refl
  map-as h same (x ∷ xs) = map-cons h x xs (test x) (same x) (map-as h same xs)

  any-cons : (t : SlotRequest → Bool) (x : SlotRequest) (xs : List SlotRequest) (b : Bool)
      → t (recounted x) ≡ t x → list_any t (at_first test recounted xs) ≡ list_any t xs
      → list_any t (cond b (recounted x ∷ xs) (x ∷ at_first test recounted xs))
      ≡ (t x || list_any t xs)
  any-cons t x xs true same ih = ap (λ c. c || list_any t xs) same
  any-cons t x xs false same ih = ap (λ c. t x || c) ih

  pub any-as : (t : SlotRequest → Bool) → ((q : SlotRequest) → t (recounted q) ≡ t q)
      → (xs : List SlotRequest) → list_any t (at_first test recounted xs) ≡ list_any t xs
  any-as t same [] = refl
  any-as t same (x ∷ xs) = any-cons t x xs (test x) (same x) (any-as t same xs)

  all-cons : (P : SlotRequest → Type 0) (x : SlotRequest) (xs : List SlotRequest) (b : Bool)
      → ((q : SlotRequest) → cond b (Some x) (find test xs) ≡ Some q → P q → P (recounted q)) → P x
      → AllByRecursion P xs
      → (((q : SlotRequest) → find test xs ≡ Some q → P q → P (recounted q))
      → AllByRecursion P (at_first test recounted xs))
      → AllByRecursion P (cond b (recounted x ∷ xs) (x ∷ at_first test recounted xs))
  all-cons P x xs true change here all ih = (change x refl here, all)
  all-cons P x xs false change here all ih = (here, ih change)

  pub all-as : (P : SlotRequest → Type 0) (xs : List SlotRequest)
      → ((q : SlotRequest) → find test xs ≡ Some q → P q → P (recounted q)) → AllByRecursion P xs
      → AllByRecursion P (at_first test recounted xs)
  all-as P [] change all = tt
  all-as P (x ∷ xs) change all = all-cons P x xs (test x) change all.0 all.1 (λ c. all-as P xs c all.1)

  module _ (s : Session) where
    abbrev pub after : Session
    after = with_slots (at_first test recounted s.slots) s

    pub recount-session : IsSession s
        → ((q : SlotRequest) → find test s.slots ≡ Some q → IsInTurn q → IsInTurn (recounted q))
        → IsSession after
    recount-session h turn = record {
      number = h.number;
      client = h.client;
      life = h.life;
      few = h.few;
      apart = λ i. omega (arith, sum-as (λ x. cond (is_in_slot i x) 1 0) (λ q. refl) s.slots, h.apart i);
      in_turn = all-as IsInTurn s.slots turn h.in_turn;
    }

    pub recount-shown : (pool : Pool) → shown pool after ≡ shown pool s
    recount-shown pool =
        let whole : List Served → Server = λ ys. record { way = way_of s; credits = s.credits; slots = ys } in
        ap whole (map-as (shown_request pool) (λ q. refl) s.slots)

    pub recount-keeps : (pool : Pool) → KeepsPool pool s.slots → KeepsPool pool after.slots
    recount-keeps pool keeps = record {
      kept = all-as (IsKept pool) s.slots (λ q found kept.
          record { ask = kept.ask; answer = kept.answer }) keeps.kept;
      apart = λ p. omega (arith, sum-as (own_names p) (λ q. refl) s.slots, keeps.apart p);
    }

    pub recount-holds : (pool : Pool) (es : List EntryValue) → HoldsAll s pool es → HoldsAll after pool es
    recount-holds pool es holds = record {
      own = own-as s.number s.slots after.slots
          (λ o some. any-as (is_owner s.number o) (λ q. refl) s.slots ∙ some) es holds.own;
      each = all-as (HoldsReplies s.number pool es) s.slots (λ q found mine. record {
        each = each-as s.number q (recounted q) refl
            (λ e r. record { taken = r.taken; there = r.there; place_is = r.place_is }) es
            mine.each;
        all = mine.all;
      }) holds.each;
    }

    pub recount-spare : (a b : Pool) → KeepsSpare s.slots s.slots a b → KeepsSpare s.slots after.slots a b
    recount-spare a b keeps = omega (arith, sum-as own_places (λ q. refl) s.slots, keeps)

    pub recount-others : (a b : Pool) → LeavesOthers s.slots s.slots a b → LeavesOthers s.slots after.slots a b
    recount-others a b leaves = λ p none used.
        let same = leaves p none used in
        (sum-as (own_names p) (λ q. refl) s.slots ∙ none, same.1, same.2)

    pub recount-served : (mode_of : ℕ → Mode) → AreServed mode_of s.slots → AreServed mode_of after.slots
    recount-served mode_of all = all-as (λ q. mode_of q.req_type ≢ Unserved) s.slots (λ q found served. served) all

-- one less is counted in turn, and one more where that can be held
pub less-turn : (q : SlotRequest) → IsInTurn q → IsInTurn (record q { queued = q.queued - 1 })
less-turn q turn = record {
  size = turn.size;
  some = turn.some;
  come = turn.come;
  few = λ none. omega (arith, turn.few none);
}

pub more-queued : (q : SlotRequest) → q.queued + 1 < 4294967295 → IsInTurn q
    → IsInTurn (record q { queued = q.queued + 1 })
more-queued q room turn = record { size = turn.size; some = turn.some; come = turn.come; few = λ none. room }
