-- Where memory is wanting, the drop is that of the server rule, and a refusal was counted.
use Rattle.std.proofs.Common.{◌≡◌, ◌≢◌, ℕ, Bool, true, false, not, ◌&&◌, ◌||◌, cond, ltb, Option, Some, None, refl}
use Rattle.std.specs.Prelude.{◌==◌, option_map}
use Rattle.std.specs.List.{find}
use Rattle.memory_count.specs.Faults.{HasRisenBy}
use Rattle.memory_count.proofs.Risen.{none-risen}
use Rattle.packet_header.specs.declared.packet.MessageHeader.{MessageHeader}
use Rattle.rpc_base.specs.declared.state.DropReason.{DropReason}
use Rattle.rpc_base.specs.declared.state.DropReason.TheVariants.{Ahead, Beyond, JobsFull, Mismatch}
use Rattle.rpc_base.specs.declared.state.DropReason.TheVariants.{NoMemory, NotFirst, Old, Unserved}
use Rattle.rpc_base.specs.declared.state.DropReason.TheVariants.{Working, WrongPeer}
use Rattle.rpc_laws.specs.declared.rows.ServerRow.{ServerRow}
use Rattle.rpc_laws.specs.declared.rows.ServerRow.TheVariants.{Drops, Begins, Takes, Repeats}
use Rattle.rpc_laws.specs.declared.tables.Server.{Server}
use Rattle.rpc_laws.specs.Requests.{in_slot_of}
use Rattle.rpc_laws.specs.ServerTable.{Newest, is_last, is_mismatch, is_past_end, is_rfr}
use Rattle.rpc_laws.specs.ServerTable.{is_worked_on, makes_job, new_row, newest_of, newest_row}
use Rattle.rpc_laws.specs.ServerTable.{own_row, server_row, slot_row}
use Rattle.rpc_laws.specs.Service.{is_handled}
use Rattle.rpc_outside.specs.declared.service.Mode.{Mode}
use Rattle.server_core.specs.Lacks.{lacks_for}
use Rattle.server_core.specs.declared.step.Step.{Step}
use Rattle.server_core.specs.declared.step.Step.TheVariants.{Took, Again, Ran, Give, Dropped}
use Rattle.server_core.specs.Steps.{IsStepOf}

-- the rows in which memory for a buffer may be wanting
abbrev Lacking : MessageHeader → ServerRow → Type 0
Lacking h (Drops why) = why ≡ NoMemory
Lacking h Begins = Unit {0}
Lacking h Takes = is_last h ≡ true
Lacking h Repeats = ⊥

step-lacks : (mode : Mode) (h : MessageHeader) (row : ServerRow) (step : Step)
    → IsStepOf mode h row step → step ≡ Dropped NoMemory → Lacking h row
step-lacks mode h (Drops why) step at is = cc
step-lacks mode h Begins step at is = tt
step-lacks mode h Takes (Took reply) at is = cc
step-lacks mode h Takes (Again reply) at is = cc
step-lacks mode h Takes (Ran reply) at is = cc
step-lacks mode h Takes (Give parcel) at is = cc
step-lacks mode h Takes (Dropped why) at is = at.1
step-lacks mode h Repeats (Took reply) at is = absurd at
step-lacks mode h Repeats (Again reply) at is = cc
step-lacks mode h Repeats (Ran reply) at is = absurd at
step-lacks mode h Repeats (Give parcel) at is = absurd at
step-lacks mode h Repeats (Dropped why) at is = absurd at

new-lacks : (a b c d : Bool) (h : MessageHeader)
    → Lacking h (cond a (Drops NotFirst) (cond b (Drops Working)
    (cond c (Drops Unserved) (cond d (Drops JobsFull) Begins))))
    → cond a (Drops NotFirst) (cond b (Drops Working)
    (cond c (Drops Unserved) (cond d (Drops JobsFull) (Drops NoMemory)))) ≡ Drops NoMemory
new-lacks true b c d h k = cc
new-lacks false true c d h k = cc
new-lacks false false true d h k = cc
new-lacks false false false true h k = cc
new-lacks false false false false h k = refl

own-lacks : (a b c w e f : Bool) (h : MessageHeader)
    → Lacking h (cond a (Drops Mismatch) (cond b (Drops Ahead)
    (cond c (cond w (Drops Working) Repeats) (cond e (Drops Beyond)
    (cond f (Drops JobsFull) Takes)))))
    → cond a (Drops Mismatch) (cond b (Drops Ahead)
    (cond c (cond w (Drops Working) Repeats) (cond e (Drops Beyond)
    (cond f (Drops JobsFull) (cond (is_last h) (Drops NoMemory) Takes))))) ≡ Drops NoMemory
own-lacks true b c w e f h k = cc
own-lacks false true c w e f h k = cc
own-lacks false false true true e f h k = cc
own-lacks false false true false e f h k = absurd k
own-lacks false false false w true f h k = cc
own-lacks false false false w false true h k = cc
own-lacks false false false w false false h k = rw k refl

slot-cases : (mode : Mode) (full : Bool) (n : Newest) (h : MessageHeader) (a b : Bool)
    → Lacking h (cond a (Drops Old) (cond b (new_row mode n.working full false h)
    (own_row mode full false n h)))
    → cond a (Drops Old) (cond b (new_row mode n.working full true h) (own_row mode full true n h))
    ≡ Drops NoMemory
slot-cases mode full n h true b k = cc
slot-cases mode full n h false true k =
    new-lacks (is_rfr h.kind || not (h.number == 0)) n.working (not (is_handled mode))
    (makes_job mode h && full) h k
slot-cases mode full n h false false k =
    own-lacks (is_mismatch n h) (ltb n.taken h.number) (ltb h.number n.taken)
    (is_worked_on n h.number) (is_rfr h.kind && is_past_end n.size n.answer h.number)
    (makes_job mode h && full) h k

slot-lacks : (mode : Mode) (full : Bool) (o : Option Newest) (h : MessageHeader)
    → Lacking h (newest_row mode full false o h) → newest_row mode full true o h ≡ Drops NoMemory
slot-lacks mode full None h k =
    new-lacks (is_rfr h.kind || not (h.number == 0)) false (not (is_handled mode)) (makes_job mode h && full) h k
slot-lacks mode full (Some n) h k = slot-cases mode full n h (ltb h.request n.number) (ltb n.number h.request) k

peer-lacks : (mode : Mode) (full : Bool) (v : Server) (h : MessageHeader) (b : Bool)
    → Lacking h (cond (not b) (Drops WrongPeer)
    (slot_row mode full false (find (in_slot_of h.request) v.slots) h))
    → cond (not b) (Drops WrongPeer) (slot_row mode full true (find (in_slot_of h.request) v.slots)
    h) ≡ Drops NoMemory
peer-lacks mode full v h true k =
    slot-lacks mode full (option_map newest_of (find (in_slot_of h.request) v.slots)) h k
peer-lacks mode full v h false k = cc

pub lacks-row : (mode : Mode) (full : Bool) (v : Server) (peer : ℕ) (h : MessageHeader)
    (row : ServerRow) (step : Step) → server_row mode full false (Some v) peer h ≡ row
    → IsStepOf mode h row step → step ≡ Dropped NoMemory
    → server_row mode full true (Some v) peer h ≡ Drops NoMemory
lacks-row mode full v peer h row step rule at is =
    let lacking : Lacking h (server_row mode full false (Some v) peer h) =
    rw rule (step-lacks mode h row step at is) in
    peer-lacks mode full v h (v.way.peer == peer) lacking

-- where no memory is wanting, no row is a drop for want of it
new-has : (a b c d : Bool)
    → cond a (Drops NotFirst) (cond b (Drops Working)
    (cond c (Drops Unserved) (cond d (Drops JobsFull) Begins))) ≢ Drops NoMemory
new-has true b c d = λ e. cc
new-has false true c d = λ e. cc
new-has false false true d = λ e. cc
new-has false false false true = λ e. cc
new-has false false false false = λ e. cc

own-has : (a b c w e f : Bool)
    → cond a (Drops Mismatch) (cond b (Drops Ahead)
    (cond c (cond w (Drops Working) Repeats) (cond e (Drops Beyond)
    (cond f (Drops JobsFull) Takes)))) ≢ Drops NoMemory
own-has true b c w e f = λ k. cc
own-has false true c w e f = λ k. cc
own-has false false true true e f = λ k. cc
own-has false false true false e f = λ k. cc
own-has false false false w true f = λ k. cc
own-has false false false w false true = λ k. cc
own-has false false false w false false = λ k. cc

has-cases : (mode : Mode) (full : Bool) (n : Newest) (h : MessageHeader) (a b : Bool)
    → cond a (Drops Old) (cond b (new_row mode n.working full false h)
    (own_row mode full false n h)) ≢ Drops NoMemory
has-cases mode full n h true b = λ e. cc
has-cases mode full n h false true =
    new-has (is_rfr h.kind || not (h.number == 0)) n.working (not (is_handled mode))
    (makes_job mode h && full)
has-cases mode full n h false false =
    own-has (is_mismatch n h) (ltb n.taken h.number) (ltb h.number n.taken)
    (is_worked_on n h.number) (is_rfr h.kind && is_past_end n.size n.answer h.number)
    (makes_job mode h && full)

pub row-has : (mode : Mode) (full : Bool) (o : Option Newest) (h : MessageHeader)
    → newest_row mode full false o h ≢ Drops NoMemory
row-has mode full None h =
    new-has (is_rfr h.kind || not (h.number == 0)) false (not (is_handled mode)) (makes_job mode h && full)
row-has mode full (Some n) h = has-cases mode full n h (ltb h.request n.number) (ltb n.number h.request)

-- a drop for another reason tells no refusal
no-lack : (why : DropReason) → why ≢ NoMemory → lacks_for why ≡ 0
no-lack NoMemory other = absurd (other refl)
no-lack why other = refl

pub drop-risen : (why : DropReason) (n : ℕ) → why ≢ NoMemory → HasRisenBy (lacks_for why) n n
drop-risen why n other = rw (no-lack why other) (none-risen n)
