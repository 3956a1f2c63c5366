-- Beginning and posting note only what is allowed.
use Rattle.std.proofs.Common.{◌≡◌, ℕ, zero, suc, ◌+◌, ◌<◌, Bool, true, false, not, cond}
use Rattle.std.proofs.Common.{Option, Some, None, List, [], length, refl, subst, arith}
use Rattle.std.specs.Prelude.{◌==◌, slice_get, option_map, option_and_then, is_none}
use Rattle.std.specs.List.{find, position_or_len}
use Rattle.std.proofs.lemmas.Bool.{eqb-false, ltb-true, not-true}
use Rattle.rpc_base.specs.declared.event.Event.{Event}
use Rattle.rpc_base.specs.declared.event.Event.TheVariants.{Begun, Posted}
use Rattle.rpc_base.specs.declared.owner.Owner.TheVariants.{Ask}
use Rattle.rpc_laws.specs.declared.tables.Call.{Call}
use Rattle.rpc_laws.specs.declared.tables.Client.{Client}
use Rattle.rpc_laws.specs.declared.tables.Lists.{Lists}
use Rattle.rpc_laws.specs.declared.tables.Progress.{Progress}
use Rattle.rpc_laws.specs.Calls.{is_waiting, asked_packets, known_packets}
use Rattle.rpc_laws.specs.PollOrder.{Serves, PostsAll}
use Rattle.rpc_laws.specs.Posting.{is_taken, lowest_free, next_turn, beginning, has_postable}
use Rattle.rpc_laws.specs.Posting.{can_post, next_packet, posting, next_begun, next_posted}
use Rattle.rpc_laws.specs.Posting.{if_connected}
use Rattle.rpc_laws.specs.Sessions.{is_client, is_connected}
use Rattle.rpc_laws.specs.Steps.{NotesAll}
use Rattle.node_laws.proofs.Allowed.{Allowed, AllowedBy, allowed-of, MayBegin, MayPost}
use Rattle.node_laws.proofs.LeadsLemmas.{Lawful, lawful-then, lawful-notes, lawful-visits}
use Rattle.node_laws.proofs.NumberLemmas.{numbered-found}
use Rattle.node_laws.proofs.SpanLemmas.{span}
use Rattle.node_laws.proofs.Places.{Place}
use Rattle.node_laws.specs.Valid.{client_no, Valid}
use Rattle.rpc_base.proofs.BasicLemmas.{found-below}
use Rattle.rpc_base.proofs.TakingLemmas.{find-passes}
use Rattle.rpc_base.proofs.BasicLemmas.{some-of}

-- the number at a place of numbers that follow one another
module _ (p : ℕ → Bool) where
  number-cons : (n m k : ℕ) (b : Bool) → p n ≡ b
      → k ≡ cond (not b) (1 + position_or_len p (span (suc n) m)) 0 → k < suc m
      → ((j : ℕ) → j ≡ position_or_len p (span (suc n) m) → j < m → p (suc n + j) ≡ true)
      → p (n + k) ≡ true
  number-cons n m k true t e h ih = let same : n + k ≡ n = omega arith in rw same t
  number-cons n m k false t e h ih =
      let same : suc n + position_or_len p (span (suc n) m) ≡ n + k = omega arith in
      subst (λ (i : ℕ). p i ≡ true) same (ih (position_or_len p (span (suc n) m)) refl (omega arith))

  number-at : (n m k : ℕ) → k ≡ position_or_len p (span n m) → k < m → p (n + k) ≡ true
  number-at n zero k e h = absurd (omega arith)
  number-at n (suc m) k e h = number-cons n m k (p n) refl e h (λ j. number-at (suc n) m j)

free-slot : (calls : List Call) (slot : ℕ) → lowest_free calls ≡ Some slot → (slot < 8)
    × (is_taken calls slot ≡ false)
free-slot calls slot e =
    let test = λ (n : ℕ). not (is_taken calls n) in
    let found = found-below (position_or_len test (span 0 8)) 8 slot _ refl e in
    let passes : not (is_taken calls (0 + slot)) ≡ true = number-at test 0 8 slot found.0 found.1 in
    let same : 0 + slot ≡ slot = omega arith in
    let own : not (is_taken calls slot) ≡ true = subst (λ (n : ℕ). not (is_taken calls n) ≡ true) same passes in
    (found.1, not-true (is_taken calls slot) own)

waits-none : (o : Option Progress) → is_none o ≡ true → o ≡ None
waits-none None h = refl
waits-none (Some p) h = cc

module _ (s : Lists) (e : Event) where
  become : (d : Event) → Some d ≡ Some e → AllowedBy s d [] [] → AllowedBy s e [] []
  become d h a = let same : d ≡ e = cc in subst (λ (f : Event). AllowedBy s f [] []) same a

  begins-slot : (x : Client) (c : Call) → find (is_client x.way.number) s.clients ≡ Some x
      → find is_waiting x.calls ≡ Some c → (l : Option ℕ) → lowest_free x.calls ≡ l
      → option_map (λ slot. Begun c.what.number (next_turn x.turns slot)) l ≡ Some e → AllowedBy s e [] []
  begins-slot x c found call None free h = cc
  begins-slot x c found call (Some slot) free h =
      let place : Place s.clients x.way.number x c = record { test = is_waiting; client = found; call = call } in
      let parts = free-slot x.calls slot free in
      let may : MayBegin s c.what.number (next_turn x.turns slot) = record {
        session = x.way.number;
        client = x;
        call = c;
        slot = slot;
        place = place;
        same = refl;
        waits = waits-none c.progress (find-passes is_waiting x.calls c call);
        below = parts.0;
        is_free = parts.1;
        next = refl;
      } in
      become (Begun c.what.number (next_turn x.turns slot)) h may

  begins-call : (x : Client) → find (is_client x.way.number) s.clients ≡ Some x → (o : Option Call)
      → find is_waiting x.calls ≡ o
      → option_and_then (λ c. option_map (λ slot. Begun c.what.number (next_turn x.turns slot))
      (lowest_free x.calls)) o ≡ Some e → AllowedBy s e [] []
  begins-call x found None call h = cc
  begins-call x found (Some c) call h = begins-slot x c found call (lowest_free x.calls) refl h

  begins-client : (i : ℕ) → Valid s → (o : Option Client) → slice_get s.clients i ≡ o
      → option_and_then beginning o ≡ Some e → AllowedBy s e [] []
  begins-client i v None at h = cc
  begins-client i v (Some x) at h =
      begins-call x (numbered-found client_no 0 i s.clients x v.numbered at) (find is_waiting x.calls) refl h

  posts-call : (x : Client) (c : Call) → find (is_client x.way.number) s.clients ≡ Some x
      → find can_post x.calls ≡ Some c → is_connected x.state ≡ true → 0 < x.free
      → (o : Option Progress) → c.progress ≡ o → has_postable c.what o ≡ true
      → next_packet x.way.number o ≡ Some e → AllowedBy s e [] []
  posts-call x c found call on credit None active able h = cc
  posts-call x c found call on credit (Some p) active able h =
      let place : Place s.clients x.way.number x c = record { test = can_post; client = found; call = call } in
      let more = ltb-true p.posted (known_packets (asked_packets c.what) p.answer) able in
      let may : MayPost s x.way.number p.request p.posted = record {
        client = x;
        call = c;
        progress = p;
        active = record { place = place; active = active };
        same = refl;
        turn = refl;
        more = more;
        connected = on;
        credit = credit;
      } in
      become (Posted (Ask x.way.number p.request) p.posted) h may

  posts-next : (x : Client) → find (is_client x.way.number) s.clients ≡ Some x
      → is_connected x.state ≡ true → 0 < x.free → (o : Option Call) → find can_post x.calls ≡ o
      → option_and_then (λ c. next_packet x.way.number c.progress) o ≡ Some e → AllowedBy s e [] []
  posts-next x found on credit None call h = cc
  posts-next x found on credit (Some c) call h =
      posts-call x c found call on credit c.progress refl (find-passes can_post x.calls c call) h

  posts-free : (x : Client) → find (is_client x.way.number) s.clients ≡ Some x
      → is_connected x.state ≡ true → (b : Bool) → (x.free == 0) ≡ b
      → cond b None (option_and_then (λ c. next_packet x.way.number c.progress)
      (find can_post x.calls)) ≡ Some e → AllowedBy s e [] []
  posts-free x found on true t h = cc
  posts-free x found on false t h =
      let other = eqb-false x.free 0 t in
      let credit : 0 < x.free = above x.free other in
      posts-next x found on credit (find can_post x.calls) refl h
    where
      above : (n : ℕ) → (n ≡ 0 → ⊥) → 0 < n
      above zero k = absurd (k refl)
      above (suc n) k = omega arith

  posts-client : (i : ℕ) → Valid s → (o : Option Client) → slice_get s.clients i ≡ o
      → option_and_then (if_connected posting) o ≡ Some e → AllowedBy s e [] []
  posts-client i v None at h = cc
  posts-client i v (Some x) at h =
      let next = next-on (is_connected x.state) (posting x) e h in
      posts-free x (numbered-found client_no 0 i s.clients x v.numbered at) next.0 (x.free == 0) refl next.1
    where
      next-on : (b : Bool) (o : Option Event) (e : Event) → cond b o None ≡ Some e → (b ≡ true) × (o ≡ Some e)
      next-on true o e h = (refl, h)
      next-on false o e h = cc

-- what is next of a Connected session is what is next of it
connected-next : (next : Client → Option Event) (o : Option Client) (e : Event)
    → option_and_then (if_connected next) o ≡ Some e → option_and_then next o ≡ Some e
connected-next next None e h = h
connected-next next (Some x) e h = some-of (is_connected x.state) (next x) e h

pub begun-by : (i : ℕ) (s : Lists) (e : Event) → Valid s → next_begun i s ≡ Some e → AllowedBy s e [] []
begun-by i s e v h =
    begins-client s e i v (slice_get s.clients i) refl
    (connected-next beginning (slice_get s.clients i) e h)

pub posted-by : (i : ℕ) (s : Lists) (e : Event) → Valid s → next_posted i s ≡ Some e → AllowedBy s e [] []
posted-by i s e v h = posts-client s e i v (slice_get s.clients i) refl h

pub begun-allowed : (i : ℕ) (s : Lists) (e : Event) → Valid s → next_begun i s ≡ Some e → Allowed s e
begun-allowed i s e v h = allowed-of s e [] [] (begun-by i s e v h)

pub posted-allowed : (i : ℕ) (s : Lists) (e : Event) → Valid s → next_posted i s ≡ Some e → Allowed s e
posted-allowed i s e v h = allowed-of s e [] [] (posted-by i s e v h)

serves-lawful : (i : ℕ) → Lawful (Serves i)
serves-lawful i =
    lawful-then (NotesAll (next_begun i)) (NotesAll (next_posted i))
    (lawful-notes (next_begun i) (begun-by i))
    (lawful-notes (next_posted i) (posted-by i))

pub posts-lawful : Lawful PostsAll
posts-lawful s x t v h = lawful-visits Serves serves-lawful (length s.lists.clients) s x t v h
