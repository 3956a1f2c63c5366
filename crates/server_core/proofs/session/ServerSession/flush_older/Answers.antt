use Rattle.std.proofs.Common.{◌+◌, arith}
use Rattle.server_core.proofs.QueuedLemmas.{count-out, none-older, older-counted, weight-own}
use Rattle.std.proofs.Common.{◌≡◌, ◌%◌, false, List, ◌∷◌, [], ◌++◌, Some, None, true, filter, map}
use Rattle.std.proofs.Common.{refl, subst, sym, ap, ◌∙◌, append-nil, append_assoc}
use Rattle.std.specs.List.{list_any}
use Rattle.packet_rings.specs.Entries.{is_not_of, is_of, number_of}
use Rattle.packet_rings.specs.Values.{EntryValue}
use Rattle.rpc_base.specs.declared.fact.Fact.{Fact}
use Rattle.rpc_base.specs.Least.{least, without_least}
use Rattle.rpc_base.specs.declared.event.Event.TheVariants.{Flushed}
use Rattle.rpc_laws.specs.Queues.{numbers_of}
use Rattle.rpc_outside.specs.Recording.{Grew}
use Rattle.server_core.specs.Flushing.{bare, flushed_facts, queued_of}
use Rattle.server_core.specs.KeepsPool.{IsKept, places}
use Rattle.server_core.specs.Replies.{released_at}
use Rattle.server_core.specs.Session.{IsSession, is_in_slot, newest, owner_of}
use Rattle.server_core.proofs.FlushLemmas.{bufs-released, filter-none, flush-held, flush-holds, flush-others}
use Rattle.server_core.proofs.FlushLemmas.{flush-spare, flush-unheld, grew-then}
use Rattle.server_core.proofs.FlushLemmas.{numbers-flushed, numbers-none}
use Rattle.server_core.proofs.FlushLemmas.{shown-released}
use Rattle.server_core.proofs.HoldBeginLemmas.{none-gone, older-gone, reply-is, sent-of}
use Rattle.server_core.proofs.PoolLemmas.{keeps-released}
use Rattle.server_core.proofs.session.ServerSession.flush_older.Goals as goal
use Rattle.rpc_base.proofs.FirstLemmas.{counted-none, found-holds, none-counted}
use Rattle.buffer_pool.proofs.CountingLemmas.{released-counted}
use Rattle.packet_rings.proofs.MentionsLemmas.{mentions-taken}
use Rattle.server_core.proofs.StaysLemmas.{places-then, same-places}

pub release_at-requires : goal.release_at-requires
release_at-requires g c =
    let found : newest c.args.request c.args.self.now ≡ Some c.in-Some.older =
    ap (newest c.args.request) (sym c.self.view_is)
    ∙ rw c.slot.ensures at (sym c.in-Some.ensures) in
    let owner_is : c.owner.result ≡ owner_of c.args.self.now.number c.in-Some.older =
    c.owner.ensures ∙ ap (λ s. owner_of s.number c.in-Some.older) c.self.view_is in
    let kept = found-holds (is_in_slot _) (IsKept c.loop-left.pool) c.args.self.now.slots
    c.in-Some.older c.loop-left.invariant.places.keeps_pool.kept found in
    let own : is_of (owner_of c.args.self.now.number c.in-Some.older) c.in-Some-flush.entry ≡ true =
    rw owner_is at c.in-Some-flush.ensures.listed.1 in
    rw (ap (λ e. e.place) c.entry.view_is) (flush-held c.args.self.now.number c.in-Some.older
    c.loop-left.pool c.loop-left.tx.items c.flush.new.self.items _ c.in-Some-flush.entry
    c.loop-left.invariant.holds c.in-Some-flush.ensures.nearest own kept)

pub loop-left-preserved : goal.loop-left-preserved
loop-left-preserved g c =
    let n = c.args.self.now.number in
    let q = c.in-Some.older in
    let e = c.in-Some-flush.entry in
    let pool = c.loop-left.pool in
    let old = c.loop-left.tx.items in
    let new = c.flush.new.self.items in
    let inv = c.loop-left.invariant in
    let found : newest c.args.request c.args.self.now ≡ Some q =
    ap (newest c.args.request) (sym c.self.view_is)
    ∙ rw c.slot.ensures at (sym c.in-Some.ensures) in
    let owner_is : c.owner.result ≡ owner_of n q = c.owner.ensures ∙ ap (λ s. owner_of s.number q) c.self.view_is in
    let again_is : c.owner-in-loop-left.result ≡ owner_of n q =
    c.owner-in-loop-left.ensures ∙ ap (λ s. owner_of s.number q) c.self.view_is in
    let kept = found-holds (is_in_slot (c.args.request % 8))
    (IsKept pool) c.args.self.now.slots q inv.places.keeps_pool.kept found in
    let own : is_of (owner_of n q) e ≡ true = rw owner_is at c.in-Some-flush.ensures.listed.1 in
    let out = c.in-Some-flush.ensures.nearest in
    let place_is = ap (λ e. e.place) c.entry.view_is in
    let after : c.release_at.new.self ≡ released_at e.place pool =
    c.release_at.ensures ∙ ap (λ p. released_at p pool) place_is in
    let left : new ≡ without_least (is_of (owner_of n q)) number_of old =
    ap (λ r. r.items) c.in-Some-flush.ensures.left
    ∙ ap (λ o. without_least (is_of o) number_of old) owner_is in
    let least_is : Some e ≡ least (is_of (owner_of n q)) number_of old =
    c.in-Some-flush.ensures.taken ∙ ap (λ o. least (is_of o) number_of old) owner_is in
    let numbers = numbers-flushed (owner_of n q) old e least_is
    ∙ ap (λ es. e.number ∷ numbers_of (owner_of n q) (queued_of es)) (sym left) in
    let (x, grew, whole) = inv.noted in
    let fact = bare c.args.who.now (Flushed (owner_of n q) e.number) in
    let noted : Grew (g.R.Recorder.log c.loop-left.rec) (g.R.Recorder.log c.note.new.self)
    (fact ∷ []) = rw (again_is, ap (λ e. e.number) c.entry.view_is) at c.note.ensures in
    let grown = grew-then g.R.Recorder.log c.args.rec.now c.loop-left.rec
    c.note.new.self x (fact ∷ []) grew noted in
    let sound : IsSession c.args.self.now = subst IsSession c.self.view_is c.self.invariant in
    let facts : List EntryValue → List Fact = λ es. flushed_facts c.args.who.now n (Some q) es in
    let more : facts old ≡ fact ∷ facts new =
    ap (map (λ k. bare c.args.who.now (Flushed (owner_of n q) k))) numbers in
    let order : (x ++ fact ∷ []) ++ facts new ≡ facts c.args.tx.now.items =
    append_assoc x (fact ∷ []) (facts new) ∙ ap (λ fs. x ++ fs) (sym more) ∙ whole in
    rw after (record {
      left = omega (arith, inv.left, count-out (owner_of n q) _ e old new out, weight-own (owner_of n q) e own);
      holds = flush-holds n q pool old new _ e inv.holds out own kept;
      kept = ap (λ o. filter (is_not_of o) new) (sym owner_is) ∙ c.in-Some-flush.ensures.others
          ∙ ap (λ o. filter (is_not_of o) old) owner_is ∙ inv.kept;
      size = ap (λ r. r.size) c.in-Some-flush.ensures.left ∙ inv.size;
      noted = (x ++ fact ∷ [], grown, order);
      shown = shown-released pool e.place c.args.self.now ∙ inv.shown;
      bufs = bufs-released pool e.place ∙ inv.bufs;
      places = places-then inv.places (record {
        spare = ap (λ n. n + places c.args.self.now.slots)
            (flush-spare n q pool old new _ e inv.holds out own kept);
        others = flush-others n q pool old new _ e inv.holds out own kept
            (is_in_slot (c.args.request % 8)) c.args.self.now.slots found;
        keeps_pool = keeps-released pool e.place c.args.self.now.slots
            (flush-held n q pool old new _ e inv.holds out own kept) inv.places.keeps_pool;
      });
      all = λ before. sent-of pool c.args.self.now sound inv.places.keeps_pool _ e old new out (inv.all before)
          c.args.request q found (reply-is n q.number e.owner own);
      counts = λ p. omega (
        arith,
        inv.counts p,
        released-counted pool p e.place e refl
            (flush-held n q pool old new _ e inv.holds out own kept),
        mentions-taken p _ e old new out,
      );
    })

pub returns-clause-ring : goal.returns-clause-ring
returns-clause-ring g c =
    let n = c.args.self.now.number in
    let q = c.in-Some.older in
    let old = c.loop-left.tx.items in
    let inv = c.loop-left.invariant in
    let found : newest c.args.request c.args.self.now ≡ Some q =
    ap (newest c.args.request) (sym c.self.view_is)
    ∙ rw c.slot.ensures at (sym c.in-Some.ensures) in
    let none : list_any (is_of (owner_of n q)) old ≡ false =
    counted-none (is_of (owner_of n q)) old
    (omega (arith, c.loop-left.invariant.left, c.loop-left-test.false)) in
    let left = sym (filter-none (owner_of n q) old none) ∙ inv.kept in
    rw found (rw (← left, ← inv.size) refl)

pub returns-clause-noted : goal.returns-clause-noted
returns-clause-noted g c =
    let n = c.args.self.now.number in
    let q = c.in-Some.older in
    let old = c.loop-left.tx.items in
    let (x, grew, whole) = c.loop-left.invariant.noted in
    let found : newest c.args.request c.args.self.now ≡ Some q =
    ap (newest c.args.request) (sym c.self.view_is)
    ∙ rw c.slot.ensures at (sym c.in-Some.ensures) in
    let none : list_any (is_of (owner_of n q)) old ≡ false =
    counted-none (is_of (owner_of n q)) old
    (omega (arith, c.loop-left.invariant.left, c.loop-left-test.false)) in
    let all : x ≡ flushed_facts c.args.who.now n (Some q) c.args.tx.now.items =
    sym (append-nil x) ∙ rw (numbers-none (owner_of n q) old none) at whole in
    rw (found, ← all) grew

pub returns-clause-unheld : goal.returns-clause-unheld
returns-clause-unheld g c =
    let n = c.args.self.now.number in
    let q = c.in-Some.older in
    let old = c.loop-left.tx.items in
    let inv = c.loop-left.invariant in
    let found : newest c.args.request c.args.self.now ≡ Some q =
    ap (newest c.args.request) (sym c.self.view_is)
    ∙ rw c.slot.ensures at (sym c.in-Some.ensures) in
    let none : list_any (is_of (owner_of n q)) old ≡ false =
    counted-none (is_of (owner_of n q)) old
    (omega (arith, c.loop-left.invariant.left, c.loop-left-test.false)) in
    rw found (flush-unheld n q c.loop-left.pool old inv.holds none)

pub unreachable-requires : goal.unreachable-requires
unreachable-requires g c =
    let n = c.args.self.now.number in
    let q = c.in-Some.older in
    let old = c.loop-left.tx.items in
    let owner_is : c.owner.result ≡ owner_of n q = c.owner.ensures ∙ ap (λ s. owner_of s.number q) c.self.view_is in
    let none : list_any (is_of (owner_of n q)) old ≡ false =
    rw owner_is at (c.in_default-flush.ensures.none.0 refl) in
    absurd (omega (
      arith,
      c.loop-left.invariant.left,
      c.loop-left-test.true,
      none-counted (is_of (owner_of n q)) old none,
    ))

pub returns-clause-replies : goal.returns-clause-replies
returns-clause-replies g c =
    let s = c.args.self.now in
    let q = c.in-Some.older in
    let old = c.loop-left.tx.items in
    let inv = c.loop-left.invariant in
    let found : newest c.args.request s ≡ Some q =
    ap (newest c.args.request) (sym c.self.view_is)
    ∙ rw c.slot.ensures at (sym c.in-Some.ensures) in
    let sound : IsSession s = subst IsSession c.self.view_is c.self.invariant in
    let none : list_any (is_of (owner_of s.number q)) old ≡ false =
    counted-none (is_of (owner_of s.number q)) old
    (omega (arith, inv.left, c.loop-left-test.false)) in
    let kept = sym (filter-none (owner_of s.number q) old none) ∙ inv.kept in
    record {
      holds = λ all. older-gone c.loop-left.pool s c.args.request q found old none (inv.all all);
      queued = λ all counted. rw kept (older-counted c.args.pool.now s c.args.request q sound
          c.requires.keeps_pool found c.args.tx.now.items counted);
      counts = inv.counts;
    }

pub returns-in_default-clause-places : goal.returns-in_default-clause-places
returns-in_default-clause-places g c =
    same-places c.args.self.now c.args.pool.now c.requires.keeps_pool

pub returns-in_default-clause-replies : goal.returns-in_default-clause-replies
returns-in_default-clause-replies g c =
    let none : newest c.args.request c.args.self.now ≡ None =
    ap (newest c.args.request) (sym c.self.view_is)
    ∙ rw c.slot.ensures at (sym c.in_default.ensures) in
    record {
      holds = λ all. none-gone c.args.pool.now c.args.self.now c.args.request none
          c.args.tx.now.items all;
      queued = λ all counted. none-older c.args.self.now c.args.request none c.args.tx.now.items
          counted;
      counts = λ p. refl;
    }
