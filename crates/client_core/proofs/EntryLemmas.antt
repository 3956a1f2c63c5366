-- The entries of posted packets: the calls and the places that they name.
use Rattle.std.proofs.Common.{◌≡◌, ℕ, ◌%◌, ◌<◌, Bool, Option, Some, None, refl, sym, ◌∙◌, arith}
use Rattle.std.specs.List.{find}
use Rattle.rpc_base.specs.declared.owner.Owner.TheVariants.{Ask}
use Rattle.buffer_pool.specs.Pool.{IsFull, Pool}
use Rattle.packet_rings.specs.Values.{EntryValue}
use Rattle.client_core.specs.declared.call.ActiveCall.{ActiveCall}
use Rattle.client_core.specs.KeepsPool.{IsKept, KeepsPool}
use Rattle.client_core.specs.Posting.{IsPacketOf, call_of, entry_at, is_owner}
use Rattle.client_core.specs.Session.{IsSession, Session, is_in_slot}
use Rattle.client_core.proofs.PacketLemmas.{placed-part}
use Rattle.client_core.proofs.SessionLemmas.{own-owner, owner-slot}
use Rattle.rpc_base.proofs.FirstLemmas.{found-holds, found-own, count-fewer}

-- a call that some test finds is found by the owner of its packets
pub by-owner : (s : Session) (p : ActiveCall → Bool) (c : ActiveCall) → IsSession s
    → find p s.active ≡ Some c → find (is_owner s.number (Ask s.number c.request)) s.active ≡ Some c
by-owner s p c h e =
    let fewer = count-fewer (is_owner s.number (Ask s.number c.request))
    (is_in_slot (c.request % 8)) (owner-slot s.number c.request) s.active in
    found-own p (is_owner s.number (Ask s.number c.request)) s.active c
    (omega (arith, fewer, h.apart (c.request % 8))) e (own-owner s.number c)

-- the entry of a posted packet stands for it
pub entry-stands-at : (s : Session) (p : ActiveCall → Bool) (c : ActiveCall) (peer k : ℕ)
    → IsSession s → find p s.active ≡ Some c → k < c.posted
    → IsPacketOf (call_of s (entry_at s.number peer k c)) (entry_at s.number peer k c)
entry-stands-at s p c peer k h e posted = rw (by-owner s p c h e) (posted, refl)

-- a place that such an entry names is full
placed-cases : (pool : Pool) (s : Session) (e : EntryValue) (p : ℕ) (o : Option ActiveCall)
    → KeepsPool pool s.active → call_of s e ≡ o → IsPacketOf o e → e.place ≡ Some p → IsFull pool p
placed-cases pool s e p None keeps is posted place = absurd posted
placed-cases pool s e p (Some c) keeps is posted place =
    let kept = found-holds (is_owner s.number e.owner) (IsKept pool) s.active c keeps.kept is in
    rw (placed-part c e.number p (sym place ∙ posted.1)).0 kept.ask

pub placed-full : (pool : Pool) (s : Session) (e : EntryValue) (p : ℕ) → KeepsPool pool s.active
    → IsPacketOf (call_of s e) e → e.place ≡ Some p → IsFull pool p
placed-full pool s e p keeps posted place = placed-cases pool s e p (call_of s e) keeps refl posted place
