-- What the server rule says of a request that a packet begins or goes on with.
use Rattle.std.proofs.Common.{◌≡◌, ◌≢◌, ℕ, ◌%◌, ◌<◌, ◌≤◌, Bool, true, false, not, ◌&&◌, ◌||◌}
use Rattle.std.proofs.Common.{cond, ltb, Option, Some, None, List, [], ◌∷◌, ◌++◌, refl, sym, ap}
use Rattle.std.proofs.Common.{subst}
use Rattle.std.proofs.Common.{◌∙◌, arith}
use Rattle.std.specs.Prelude.{◌==◌}
use Rattle.std.specs.List.{AllByRecursion, find, list_any}
use Rattle.std.proofs.lemmas.Bool.{and_parts, eqb-true, eq-eqb, ltb-true, ltb-false}
use Rattle.std.proofs.lemmas.Bool.Decides.{nat_tests}
use Rattle.packet_header.specs.Parts.{packet_count}
use Rattle.packet_header.specs.declared.packet.MessageHeader.{MessageHeader}
use Rattle.rpc_base.specs.Tables.{at_first, without_first}
use Rattle.rpc_base.specs.declared.state.DropReason.TheVariants.{Old, NotFirst}
use Rattle.rpc_base.specs.declared.state.DropReason.TheVariants.{Working, Unserved as UnservedDrop}
use Rattle.rpc_base.specs.declared.state.DropReason.TheVariants.{JobsFull, Mismatch}
use Rattle.rpc_base.specs.declared.state.DropReason.TheVariants.{Ahead, Beyond}
use Rattle.rpc_base.proofs.BasicLemmas.{not-false}
use Rattle.rpc_base.proofs.FindLemmas.{missing-none, none-found, push-found}
use Rattle.rpc_base.proofs.FirstLemmas.{found-any, found-changed, found-holds, found-own}
use Rattle.rpc_base.proofs.FirstLemmas.{none-counted, sum-fewer}
use Rattle.rpc_base.proofs.TakingLemmas.{find-passes}
use Rattle.rpc_laws.specs.declared.rows.ServerRow.TheVariants.{Drops, Begins, Takes}
use Rattle.rpc_laws.specs.declared.tables.Served.{Served}
use Rattle.rpc_laws.specs.declared.tables.Server.{Server}
use Rattle.rpc_laws.specs.Requests.{first_packet, in_slot_of, is_request, next_packet, took_packet}
use Rattle.rpc_laws.specs.ServerTable.{is_last, is_mismatch, is_past_end, is_rfr, is_worked_on}
use Rattle.rpc_laws.specs.ServerTable.{makes_job, new_row, newest_of, own_row, slot_row, whole_ask}
use Rattle.rpc_laws.specs.Service.{is_handled, is_mode_background, is_mode_inline}
use Rattle.rpc_outside.specs.declared.service.Mode.{Mode}
use Rattle.rpc_outside.specs.declared.service.Mode.TheVariants.{Background, Inline, Unserved}
use Rattle.node_laws.proofs.Allowed.{Newer}
use Rattle.node_laws.proofs.RowLemmas.{Next, before-takes, continues-slot, drops-begins}
use Rattle.node_laws.proofs.RowLemmas.{drops-takes, last-parts, not-begins, not-takes, starts-slot}
use Rattle.node_laws.proofs.ServerLemmas.{few-requests, request-slot}
use Rattle.node_laws.specs.Valid.{RunWhole, SoundServer, is_due, left_in, left_of}
use Rattle.server_core.proofs.TableLemmas.{handled-cases}
use Rattle.session_store.specs.Serving.{row_at}

-- the modes
pub inline-of : (mode : Mode) → mode ≢ Unserved → is_mode_background mode ≡ false
    → is_mode_inline mode ≡ true
inline-of Inline served back = refl
inline-of Background served back = cc
inline-of Unserved served back = absurd (served refl)

pub background-of : (mode : Mode) → is_mode_background mode ≡ true → mode ≡ Background
background-of Inline back = cc
background-of Background back = refl
background-of Unserved back = cc

-- a row that begins
new-parts : (mode : Mode) (working full : Bool) (h : MessageHeader)
    → new_row mode working full false h ≡ Begins
    → (is_handled mode ≡ true) × ((makes_job mode h && full) ≡ false)
new-parts mode working full h e =
    let one = not-begins (is_rfr h.kind || not (h.number == 0)) (Drops NotFirst) _
    (drops-begins NotFirst) e in
    let two = not-begins working (Drops Working) _ (drops-begins Working) one.1 in
    let three = not-begins (not (is_handled mode)) (Drops UnservedDrop) _
    (drops-begins UnservedDrop) two.1 in
    let four = not-begins (makes_job mode h && full) (Drops JobsFull) _ (drops-begins JobsFull)
    three.1 in
    (not-false (is_handled mode) three.0, four.0)

-- a row that takes
own-parts : (mode : Mode) (full : Bool) (l : Served) (h : MessageHeader)
    → own_row mode full false (newest_of l) h ≡ Takes
    → (is_mismatch (newest_of l) h ≡ false) × ((makes_job mode h && full) ≡ false)
own-parts mode full l h e =
    let one = not-takes (is_mismatch (newest_of l) h) (Drops Mismatch) _ (drops-takes Mismatch) e in
    let two = not-takes (ltb l.taken h.number) (Drops Ahead) _ (drops-takes Ahead) one.1 in
    let three = not-takes (ltb h.number l.taken) _ _
    (before-takes (is_worked_on (newest_of l) h.number)) two.1 in
    let four = not-takes (is_rfr h.kind && is_past_end l.size (newest_of l).answer
    h.number) (Drops Beyond) _ (drops-takes Beyond) three.1 in
    let five = not-takes (makes_job mode h && full) (Drops JobsFull) _ (drops-takes JobsFull)
    four.1 in
    (one.0, five.0)

typed-by : (rfr low typed same : Bool) → cond rfr low (not (typed && same)) ≡ false → rfr ≡ false
    → typed ≡ true
typed-by true low typed same e f = cc
typed-by false low typed same e f = (and_parts typed same (not-false (typed && same) e)).0

-- where a job is made, the jobs aren't full
pub unfilled : (job full : Bool) → (job && full) ≡ false → job ≡ true → full ≡ false
unfilled true full e t = e
unfilled false full e t = cc

-- a packet that begins a request, or goes on with one
pub record Begun (mode : Mode) (full : Bool) (v : Server) (h : MessageHeader) : Type 0 where
  pub newer : Newer h.request (find (in_slot_of h.request) v.slots)
  pub served : mode ≢ Unserved
  pub free : (makes_job mode h && full) ≡ false

pub record GoneOn (mode : Mode) (full : Bool) (v : Server) (h : MessageHeader) : Type 0 where
  pub request : Served
  pub stands : find (in_slot_of h.request) v.slots ≡ Some request
  pub own : request.number ≡ h.request
  pub next : Next request h
  pub typed : is_rfr h.kind ≡ false → h.req_type ≡ request.req_type
  pub free : (makes_job mode h && full) ≡ false

by-peer : (mode : Mode) (full : Bool) (v : Server) (h : MessageHeader)
    → row_at mode full false h v
    ≡ slot_row mode full false (find (in_slot_of h.request) v.slots) h
by-peer mode full v h = rw (eq-eqb v.way.peer v.way.peer refl) refl

begun-slot : (mode : Mode) (full : Bool) (h : MessageHeader) (o : Option Served)
    → Newer h.request o → slot_row mode full false o h ≡ Begins
    → (is_handled mode ≡ true) × ((makes_job mode h && full) ≡ false)
begun-slot mode full h None newer e = new-parts mode false full h e
begun-slot mode full h (Some l) newer e =
    let one = not-begins (ltb h.request l.number) (Drops Old) _ (drops-begins Old) e in
    by (ltb l.number h.request) refl one.1
  where
    by : (b : Bool) → ltb l.number h.request ≡ b
        → cond b (new_row mode l.working full false h) (own_row mode full false (newest_of l) h)
        ≡ Begins → (is_handled mode ≡ true) × ((makes_job mode h && full) ≡ false)
    by true t k = new-parts mode l.working full h k
    by false t k = let low = ltb-false l.number h.request t in absurd (omega (arith, low, newer))

pub has-begun : (mode : Mode) (full : Bool) (v : Server) (h : MessageHeader)
    → row_at mode full false h v ≡ Begins → Begun mode full v h
has-begun mode full v h e =
    let slot = sym (by-peer mode full v h) ∙ e in
    let starts = starts-slot mode full false (find (in_slot_of h.request) v.slots) h slot in
    let parts = begun-slot mode full h (find (in_slot_of h.request) v.slots) starts.newer slot in
    record { newer = starts.newer; served = handled-cases mode parts.0; free = parts.1 }

gone-slot : (mode : Mode) (full : Bool) (h : MessageHeader) (o : Option Served) (l : Served)
    → o ≡ Some l → l.number ≡ h.request → slot_row mode full false o h ≡ Takes
    → (is_mismatch (newest_of l) h ≡ false) × ((makes_job mode h && full) ≡ false)
gone-slot mode full h None l is own e = cc
gone-slot mode full h (Some k) l is own e =
    let same : k ≡ l = cc in
    let one = not-takes (ltb h.request k.number) (Drops Old) _ (drops-takes Old) e in
    subst (λ (z : Served). (is_mismatch (newest_of z) h ≡ false)
    × ((makes_job mode h && full) ≡ false)) same
    (by (ltb k.number h.request) refl (ap (λ (z : Served). z.number) same ∙ own) one.1)
  where
    by : (b : Bool) → ltb k.number h.request ≡ b → k.number ≡ h.request
        → cond b (new_row mode k.working full false h) (own_row mode full false (newest_of k) h)
        ≡ Takes
        → (is_mismatch (newest_of k) h ≡ false) × ((makes_job mode h && full) ≡ false)
    by true t same on = let low = ltb-true k.number h.request t in absurd (omega (arith, low, same))
    by false t same on = own-parts mode full k h on

pub has-gone-on : (mode : Mode) (full : Bool) (v : Server) (h : MessageHeader)
    → row_at mode full false h v ≡ Takes → GoneOn mode full v h
has-gone-on mode full v h e =
    let slot = sym (by-peer mode full v h) ∙ e in
    let on = continues-slot mode full false (find (in_slot_of h.request) v.slots) h slot in
    let parts = gone-slot mode full h (find (in_slot_of h.request) v.slots) on.served on.is_served
    on.own slot in
    record {
      request = on.served;
      stands = on.is_served;
      own = on.own;
      next = on.next;
      typed = λ f. eqb-true h.req_type on.served.req_type
          (typed-by (is_rfr h.kind) _ _ _ parts.0 f);
      free = parts.1;
    }

-- the request that the packet leaves in its slot, where it is no RFR: it has all bytes that were
-- taken
pub record HasTaken (v : Server) (h : MessageHeader) (body : List ℕ) : Type 0 where
  pub request : Served
  pub stands : find (is_request h.request) (took_packet h.request (Some h) body v.slots)
      ≡ Some request
  pub number : request.number ≡ h.request
  pub req_type : is_rfr h.kind ≡ false → request.req_type ≡ h.req_type
  pub ask : request.ask ≡ whole_ask (Some v) h.request body

module _ (mode : Mode) (full : Bool) (v : Server) (sound : SoundServer v) (h : MessageHeader)
    (body : List ℕ) where
  missing-by : (o : Option Served) → find (is_request h.request) v.slots ≡ o
      → Newer h.request (find (in_slot_of h.request) v.slots) → o ≡ None
  missing-by None e newer = refl
  missing-by (Some q) e newer =
      let own = find-passes (is_request h.request) v.slots q e in
      let number : q.number ≡ h.request = eqb-true q.number h.request own in
      let slot : find (in_slot_of h.request) v.slots ≡ Some q =
      found-own (is_request h.request)
      (in_slot_of h.request) v.slots q (sound.apart (h.request % 8)) e
      (request-slot h.request q own) in
      let less : q.number < h.request = rw slot at newer in
      absurd (omega arith)

  pub missing : Newer h.request (find (in_slot_of h.request) v.slots)
      → find (is_request h.request) v.slots ≡ None
  missing newer = missing-by (find (is_request h.request) v.slots) refl newer

  pub whole-first : Newer h.request (find (in_slot_of h.request) v.slots)
      → whole_ask (Some v) h.request body ≡ body
  whole-first newer = rw (missing newer) refl

  first-found : (b : Bool) → b ≡ false → list_any (is_request h.request) v.slots ≡ false
      → find (is_request h.request) (cond b (at_first (is_request h.request)
      (next_packet body) v.slots)
      (without_first (in_slot_of h.request) v.slots ++ first_packet h.request h body ∷ []))
      ≡ Some (first_packet h.request h body)
  first-found true t none = cc
  first-found false t none =
      let zero = none-counted (is_request h.request) v.slots none in
      let fewer = sum-fewer (in_slot_of h.request)
      (λ (q : Served). cond (is_request h.request q) 1 0) v.slots in
      push-found (is_request h.request) (without_first (in_slot_of h.request) v.slots)
      (first_packet h.request h body)
      (none-found (is_request h.request) (without_first (in_slot_of h.request) v.slots)
      (omega arith)) (eq-eqb h.request h.request refl)

  pub taken-first : Begun mode full v h → HasTaken v h body
  taken-first begun =
      let none = missing-none (is_request h.request) v.slots (missing begun.newer) in
      record {
        request = first_packet h.request h body;
        stands = first-found (list_any (is_request h.request) v.slots) none none;
        number = refl;
        req_type = λ f. refl;
        ask = sym (whole-first begun.newer);
      }

  own-found : (l : Served) → find (in_slot_of h.request) v.slots ≡ Some l → l.number ≡ h.request
      → find (is_request h.request) v.slots ≡ Some l
  own-found l e same =
      found-own (in_slot_of h.request) (is_request h.request) v.slots l
      (few-requests h.request v.slots (sound.apart (h.request % 8))) e
      (eq-eqb l.number h.request same)

  next-found : (l : Served) (b : Bool) → b ≡ true → find (is_request h.request) v.slots ≡ Some l
      → find (is_request h.request) (cond b (at_first (is_request h.request)
      (next_packet body) v.slots)
      (without_first (in_slot_of h.request) v.slots ++ first_packet h.request h body ∷ []))
      ≡ Some (next_packet body l)
  next-found l true t e =
      found-changed (is_request h.request) (next_packet body)
      (is_request h.request) l v.slots (find-passes (is_request h.request) v.slots l e) e e
  next-found l false t e = cc

  pub taken-next : GoneOn mode full v h → HasTaken v h body
  taken-next on =
      let l = on.request in
      let e = own-found l on.stands on.own in
      record {
        request = next_packet body l;
        stands = next-found l (list_any (is_request h.request) v.slots)
            (found-any (is_request h.request) v.slots l e) e;
        number = on.own;
        req_type = λ f. sym (on.typed f);
        ask = rw e refl;
      }

  -- the last packet of a request: it may still run
  left-newer : (r n : ℕ) (b : Bool) → n < r → 1 ≤ cond (ltb r n) 0 (cond (ltb n r) 1 (cond b 1 0))
  left-newer r n b less = grind (arith, nat_tests)

  left-own : (r n : ℕ) (b : Bool) → n ≡ r → b ≡ true
      → 1 ≤ cond (ltb r n) 0 (cond (ltb n r) 1 (cond b 1 0))
  left-own r n true same t = grind (arith, nat_tests)
  left-own r n false same t = cc

  left-first : (o : Option Served) → Newer h.request o → 1 ≤ left_of is_due h.request o
  left-first None newer = omega arith
  left-first (Some l) newer = left-newer h.request l.number (is_due l) newer

  pub left-begun : Begun mode full v h → 1 ≤ left_in is_due h.request v.slots
  left-begun begun = left-first (find (in_slot_of h.request) v.slots) begun.newer

  none-yet : (l : Served) (b : Bool) → is_due l ≡ b → RunWhole l → l.taken < packet_count l.size
      → b ≡ true
  none-yet l true e whole more = refl
  none-yet l false e whole more = let all = whole e in absurd (omega arith)

  pub left-next : GoneOn mode full v h → is_last h ≡ true → 1 ≤ left_in is_due h.request v.slots
  left-next on last =
      let l = on.request in
      let e = own-found l on.stands on.own in
      let parts = last-parts h last in
      let count = parts.1 in
      let size : h.size ≡ l.size = on.next.sized parts.0 in
      let counted : packet_count h.size ≡ packet_count l.size = ap packet_count size in
      let turn = on.next.turn in
      let whole = found-holds (is_request h.request) RunWhole v.slots l sound.whole e in
      let due = none-yet l (is_due l) refl whole (omega arith) in
      rw on.stands (left-own h.request l.number (is_due l) on.own due)

  -- its type is served
  pub served-next : (mode_of : ℕ → Mode)
      → AllByRecursion (λ (q : Served). mode_of q.req_type ≢ Unserved) v.slots
      → GoneOn mode full v h → is_rfr h.kind ≡ false → mode_of h.req_type ≢ Unserved
  served-next mode_of all on f =
      let l = on.request in
      let served = found-holds (in_slot_of h.request)
      (λ (q : Served). mode_of q.req_type ≢ Unserved) v.slots l all on.stands in
      subst (λ (y : ℕ). mode_of y ≢ Unserved) (sym (on.typed f)) served
