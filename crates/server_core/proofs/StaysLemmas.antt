-- What two calls of a session keep, one after the other, and what one keeps that changes nothing.
use Rattle.std.proofs.Common.{◌≡◌, ℕ, ◌+◌, Option, Some, List, [], ◌∷◌, ◌++◌, refl, subst, arith}
use Rattle.std.proofs.Common.{append_assoc, append-nil}
use Rattle.buffer_pool.specs.Counting.{Counts}
use Rattle.buffer_pool.specs.Places.{MayHold, held_at}
use Rattle.buffer_pool.specs.Pool.{Pool, IsFull, held, refs_of}
use Rattle.buffer_pool.proofs.CountingLemmas.{held-counted, may-full}
use Rattle.packet_header.specs.declared.packet.MessageHeader.{MessageHeader}
use Rattle.packet_rings.specs.Mentions.{mentions}
use Rattle.packet_rings.specs.Values.{EntryValue}
use Rattle.packet_rings.proofs.MentionsLemmas.{mentions-append}
use Rattle.server_core.specs.Keeping.{BeginsSound, KeepsPlaces, KeepsReplies, StaysSound}
use Rattle.server_core.specs.KeepsPool.{KeepsPool}
use Rattle.server_core.specs.Session.{Session}
use Rattle.server_core.proofs.OtherLemmas.{others-then}

-- one after the other
pub places-then : {s t w : Session} {a b c : Pool} → KeepsPlaces s t a b → KeepsPlaces t w b c
    → KeepsPlaces s w a c
places-then {s} {t} {w} {a} {b} {c} first second = record {
  spare = omega (arith, first.spare, second.spare);
  others = others-then s.slots t.slots w.slots a b c first.others second.others;
  keeps_pool = second.keeps_pool;
}

pub replies-then : {xs ys zs : List EntryValue} {s t w : Session} {a b c : Pool}
    → KeepsReplies xs ys s t a b → KeepsReplies ys zs t w b c → KeepsReplies xs zs s w a c
replies-then first second = record {
  holds = λ all. second.holds (first.holds all);
  queued = λ all counted. second.queued (first.holds all) (first.queued all counted);
  counts = λ p. omega (arith, first.counts p, second.counts p);
}

pub stays-then : {xs ys : List EntryValue} {s t w : Session} {a b c : Pool}
    → StaysSound xs s t a b → StaysSound ys t w b c → StaysSound (xs ++ ys) s w a c
stays-then {xs} {ys} {s} {w = w} {a} {c = c} first second = record {
  places = places-then first.places second.places;
  replies = λ es. subst (λ all. KeepsReplies es all s w a c) (append_assoc es xs ys)
      (replies-then (first.replies es) (second.replies (es ++ xs)));
  served = λ mode_of all. second.served mode_of (first.served mode_of all);
}

pub begins-then : {h : MessageHeader} {xs ys : List EntryValue} {s t w : Session} {a b c : Pool}
    → BeginsSound h xs s t a b → StaysSound ys t w b c → BeginsSound h (xs ++ ys) s w a c
begins-then {h} {xs} {ys} {s} {w = w} {a} {c = c} first second = record {
  places = places-then first.places second.places;
  replies = λ es. rw (← append_assoc es xs ys)
      (replies-then (first.replies es) (second.replies (es ++ xs)));
  served = λ mode_of new all. second.served mode_of (first.served mode_of new all);
}

-- one that puts no reply behind the entries
pub replies-still : {es : List EntryValue} {s w : Session} {a b : Pool}
    → KeepsReplies es es s w a b → KeepsReplies es (es ++ []) s w a b
replies-still {es} keeps = rw (append-nil es) keeps

-- and one that changes nothing
pub same-replies : (s : Session) (pool : Pool) (es : List EntryValue) → KeepsReplies es es s s pool pool
same-replies s pool es = record { holds = λ all. all; queued = λ all counted. counted; counts = λ p. refl }

pub same-places : (s : Session) (pool : Pool) → KeepsPool pool s.slots → KeepsPlaces s s pool pool
same-places s pool keeps = record {
  spare = refl;
  others = λ p none used. (none, refl, refl);
  keeps_pool = keeps;
}

-- a reply is held behind the entries
module _ (pool : Pool) (e : EntryValue) (es : List EntryValue) (p : ℕ) where
  pub held-behind : (place : Option ℕ) → e.place ≡ place → MayHold pool place
      → refs_of (held_at place pool) p + mentions p es ≡ refs_of pool p + mentions p (es ++ e ∷ [])
  held-behind place is may =
      omega (
        arith,
        held-counted pool p place e is (may-full pool place may),
        mentions-append p es (e ∷ []),
      )

  pub placed-behind : (k : ℕ) → e.place ≡ Some k → IsFull pool k
      → refs_of (held k pool) p + mentions p es ≡ refs_of pool p + mentions p (es ++ e ∷ [])
  placed-behind k is full =
      omega (arith, held-counted pool p (Some k) e is full, mentions-append p es (e ∷ []))

-- entries that name as many places more as these have references more count them
pub counts-behind : (before after : Pool) (es more : List EntryValue)
    → ((p : ℕ) → refs_of after p + mentions p es ≡ refs_of before p + mentions p (es ++ more))
    → Counts before es → Counts after (es ++ more)
counts-behind before after es more same counts = λ p. omega (arith, same p, counts p)
