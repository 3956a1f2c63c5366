-- What the rows of the server table say of a packet.
use Rattle.std.proofs.Common.{◌≡◌, ◌≢◌, ℕ, ◌<◌, Bool, true, false, not, ◌&&◌, ◌||◌, cond, ltb, eqb}
use Rattle.std.proofs.Common.{ltb-true, Option, Some, None, refl, arith}
use Rattle.std.specs.Prelude.{IfSome, option_map}
use Rattle.std.proofs.lemmas.Bool.{eqb-true}
use Rattle.packet_header.specs.Kinds.{is_asking}
use Rattle.packet_header.specs.Parts.{packet_count, part_size, IsMessage}
use Rattle.packet_header.specs.declared.packet.Kind.{Kind}
use Rattle.packet_header.specs.declared.packet.Kind.TheVariants.{Request, Rfr, Cr, Response}
use Rattle.packet_header.specs.declared.packet.MessageHeader.{MessageHeader}
use Rattle.packet_header.proofs.PartsLemmas.{packet_count_above}
use Rattle.rpc_base.specs.declared.state.DropReason.TheVariants.{Old, NotFirst, Working}
use Rattle.rpc_base.specs.declared.state.DropReason.TheVariants.{Unserved as UnservedReason}
use Rattle.rpc_base.specs.declared.state.DropReason.TheVariants.{JobsFull, Mismatch, Ahead, Beyond}
use Rattle.rpc_laws.specs.declared.rows.ServerRow.TheVariants.{Drops, Begins, Takes, Repeats}
use Rattle.rpc_laws.specs.Service.{is_handled}
use Rattle.rpc_laws.specs.ServerTable.{is_mismatch, is_past_end, is_rfr, is_worked_on, makes_job}
use Rattle.rpc_laws.specs.ServerTable.{new_row, newest_row, own_row}
use Rattle.server_core.specs.declared.slot.SlotRequest.{SlotRequest}
use Rattle.rpc_outside.specs.declared.service.Mode.{Mode}
use Rattle.rpc_outside.specs.declared.service.Mode.TheVariants.{Inline, Background, Unserved}
use Rattle.server_core.specs.Rows.{as_newest, row_of}
use Rattle.server_core.specs.Session.{Session, is_at_work, newest}
use Rattle.server_core.specs.Steps.{IsAsking, IsBeginning}

-- a Request or RFR has the fields and the body of one
only-request : (k : Kind) → is_asking k ≡ true → is_rfr k ≡ false → k ≡ Request
only-request Request a r = refl
only-request Rfr a r = cc
only-request Cr a r = cc
only-request Response a r = cc

pub as-request : (h : MessageHeader) (n : ℕ) → IsAsking h n → is_rfr h.kind ≡ false
    → IsMessage h.size × (h.number < packet_count h.size) × (n ≡ part_size h.size h.number)
as-request h n asking not_rfr =
    let kind = only-request h.kind asking.kind not_rfr in
    let size = rw kind at asking.in_range.size in
    let number = rw kind at asking.in_range.number in
    let body = rw kind at asking.body in
    (size.1, omega (arith, number.1, packet_count_above h.size), omega (arith, body))

-- a new number
new-cases : (rfr first working served full : Bool)
    → cond (rfr || not first) (Drops NotFirst)
    (cond working (Drops Working) (cond (not served) (Drops UnservedReason)
    (cond full (Drops JobsFull) Begins))) ≡ Begins → (rfr ≡ false) × (first ≡ true)
    × (served ≡ true)
new-cases true first working served full e = cc
new-cases false false working served full e = cc
new-cases false true true served full e = cc
new-cases false true false false full e = cc
new-cases false true false true full e = (refl, refl, refl)

new-begins : (working : Bool) (mode : Mode) (full : Bool) (h : MessageHeader)
    → new_row mode working full false h ≡ Begins → (is_rfr h.kind ≡ false) × (h.number ≡ 0)
    × (is_handled mode ≡ true)
new-begins working mode full h e =
    let parts = new-cases (is_rfr h.kind) (eqb h.number 0) working (is_handled mode) (makes_job mode h && full) e in
    (parts.0, eqb-true h.number 0 parts.1, parts.2)

-- the number that stands in its slot
pub own-not-begins : (mismatch ahead behind worked beyond full : Bool)
    → cond mismatch (Drops Mismatch) (cond ahead (Drops Ahead)
    (cond behind (cond worked (Drops Working) Repeats)
    (cond beyond (Drops Beyond) (cond full (Drops JobsFull) Takes)))) ≡ Begins → ⊥
own-not-begins true ahead behind worked beyond full e = cc
own-not-begins false true behind worked beyond full e = cc
own-not-begins false false true true beyond full e = cc
own-not-begins false false true false beyond full e = cc
own-not-begins false false false worked true full e = cc
own-not-begins false false false worked false true e = cc
own-not-begins false false false worked false false e = cc

-- a request begins
begins-cases : (mode : Mode) (full : Bool) (h : MessageHeader) (q : SlotRequest)
    (older newer : Bool) → ltb q.number h.request ≡ newer
    → cond older (Drops Old) (cond newer (new_row mode (is_at_work q.state) full false h)
    (own_row mode full false (as_newest q) h)) ≡ Begins → (q.number < h.request)
    × (new_row mode (is_at_work q.state) full false h ≡ Begins)
begins-cases mode full h q true newer t e = cc
begins-cases mode full h q false true t e = (ltb-true q.number h.request t, e)
begins-cases mode full h q false false t e =
    absurd (own-not-begins (is_mismatch (as_newest q) h) (ltb q.taken h.number)
    (ltb h.number q.taken) (is_worked_on (as_newest q) h.number)
    (is_rfr h.kind && is_past_end q.size (as_newest q).answer h.number)
    (makes_job mode h && full) e)

slot-begins : (mode : Mode) (full : Bool) (h : MessageHeader) (o : Option SlotRequest)
    → newest_row mode full false (option_map as_newest o) h ≡ Begins
    → IfSome o (λ q. q.number < h.request) × (is_rfr h.kind ≡ false) × (h.number ≡ 0)
    × (is_handled mode ≡ true)
slot-begins mode full h None e = let new = new-begins false mode full h e in (tt, new.0, new.1, new.2)
slot-begins mode full h (Some q) e =
    let (newer, is) = begins-cases mode full h q (ltb h.request q.number) (ltb q.number h.request) refl e in
    let new = new-begins (is_at_work q.state) mode full h is in
    (newer, new.0, new.1, new.2)

pub handled-cases : (mode : Mode) → is_handled mode ≡ true → mode ≢ Unserved
handled-cases Inline e = λ is. cc
handled-cases Background e = λ is. cc
handled-cases Unserved e = cc

pub row-begins : (mode : Mode) (full : Bool) (h : MessageHeader) (n : ℕ) (s : Session)
    → IsAsking h n → row_of mode full h s ≡ Begins → IsBeginning h n s × (mode ≢ Unserved)
row-begins mode full h n s asking e =
    let (newer, not_rfr, first, is) = slot-begins mode full h (newest h.request s) e in
    let (size, within, long) = as-request h n asking not_rfr in (
      record { kind = not_rfr; first = first; size = size; long = rw first at long; newer = newer },
      handled-cases mode is,
    )
