-- What the rows of the server rule tell: which packet begins a request, and which goes on with it.
use Rattle.std.proofs.Common.{◌≡◌, ◌+◌, ◌≤◌, ◌<◌, Bool, true, false, not, ◌&&◌, ◌||◌, cond, ltb, length}
use Rattle.std.proofs.Common.{Option, Some, None, refl, arith}
use Rattle.std.specs.Prelude.{◌==◌, option_map}
use Rattle.std.proofs.lemmas.Bool.{eqb-true, ltb-true, ltb-false, and_parts, or_parts, not-false, not-true}
use Rattle.packet_header.specs.Parts.{packet_count}
use Rattle.packet_header.specs.declared.packet.MessageHeader.{MessageHeader}
use Rattle.rpc_base.specs.declared.state.DropReason.{DropReason}
use Rattle.rpc_base.specs.declared.state.DropReason.TheVariants.{Old, NotFirst, Working, Unserved}
use Rattle.rpc_base.specs.declared.state.DropReason.TheVariants.{JobsFull, NoMemory, Mismatch}
use Rattle.rpc_base.specs.declared.state.DropReason.TheVariants.{Ahead, Beyond}
use Rattle.rpc_laws.specs.declared.rows.ServerRow.{ServerRow}
use Rattle.rpc_laws.specs.declared.rows.ServerRow.TheVariants.{Drops, Begins, Takes, Repeats}
use Rattle.rpc_laws.specs.declared.tables.Served.{Served}
use Rattle.rpc_laws.specs.ServerTable.{is_rfr, is_last, makes_job, new_row, is_past_end}
use Rattle.rpc_laws.specs.ServerTable.{is_worked_on, newest_of, own_row, repeated_row, slot_row}
use Rattle.rpc_outside.specs.declared.service.Mode.{Mode}
use Rattle.rpc_laws.specs.Service.{is_handled}
use Rattle.node_laws.proofs.Allowed.{Newer}

-- rows that aren't a beginning, and rows that aren't a taking
pub not-begins : (b : Bool) (x r : ServerRow) → (x ≡ Begins → ⊥) → cond b x r ≡ Begins → (b ≡ false) × (r ≡ Begins)
not-begins true x r h e = absurd (h e)
not-begins false x r h e = (refl, e)

pub not-takes : (b : Bool) (x r : ServerRow) → (x ≡ Takes → ⊥) → cond b x r ≡ Takes → (b ≡ false) × (r ≡ Takes)
not-takes true x r h e = absurd (h e)
not-takes false x r h e = (refl, e)

pub drops-begins : (why : DropReason) → Drops why ≡ Begins → ⊥
drops-begins why e = cc

pub drops-takes : (why : DropReason) → Drops why ≡ Takes → ⊥
drops-takes why e = cc

takes-begins : Takes ≡ Begins → ⊥
takes-begins e = cc

begins-takes : Begins ≡ Takes → ⊥
begins-takes e = cc

-- a packet that was taken before, of a request that a worker may have
before-begins : (b : Bool) → cond b (Drops Working) Repeats ≡ Begins → ⊥
before-begins true e = cc
before-begins false e = cc

pub before-takes : (b : Bool) → cond b (Drops Working) Repeats ≡ Takes → ⊥
before-takes true e = cc
before-takes false e = cc

-- a new number begins with its first packet
new-first : (mode : Mode) (working full lacks : Bool) (h : MessageHeader)
    → new_row mode working full lacks h ≡ Begins → h.number ≡ 0
new-first mode working full lacks h e =
    let one = not-begins (is_rfr h.kind || not (h.number == 0)) (Drops NotFirst) _ (drops-begins NotFirst) e in
    let other = (or_parts (is_rfr h.kind) (not (h.number == 0)) one.0).1 in
    eqb-true h.number 0 (not-false (h.number == 0) other)

new-takes : (mode : Mode) (working full lacks : Bool) (h : MessageHeader)
    → new_row mode working full lacks h ≡ Takes → ⊥
new-takes mode working full lacks h e =
    let one = not-takes (is_rfr h.kind || not (h.number == 0)) (Drops NotFirst) _ (drops-takes NotFirst) e in
    let two = not-takes working (Drops Working) _ (drops-takes Working) one.1 in
    let three = not-takes (not (is_handled mode)) (Drops Unserved) _ (drops-takes Unserved) two.1 in
    let four = not-takes (makes_job mode h && full) (Drops JobsFull) _ (drops-takes JobsFull) three.1 in
    let five = not-takes lacks (Drops NoMemory) Begins (drops-takes NoMemory) four.1 in
    begins-takes five.1

own-begins : (mode : Mode) (full lacks : Bool) (l : Served) (h : MessageHeader)
    → own_row mode full lacks (newest_of l) h ≡ Begins → ⊥
own-begins mode full lacks l h e =
    let one = not-begins _ (Drops Mismatch) _ (drops-begins Mismatch) e in
    let two = not-begins (ltb l.taken h.number) (Drops Ahead) _ (drops-begins Ahead) one.1 in
    let three = not-begins (ltb h.number l.taken) _ _ (before-begins (is_worked_on (newest_of l) h.number)) two.1 in
    let four = not-begins (is_rfr h.kind && is_past_end l.size (option_map length l.answer)
    h.number) (Drops Beyond) _ (drops-begins Beyond) three.1 in
    let five = not-begins (makes_job mode h && full) (Drops JobsFull) _ (drops-begins JobsFull) four.1 in
    let six = not-begins (lacks && is_last h) (Drops NoMemory) Takes (drops-begins NoMemory) five.1 in
    takes-begins six.1

-- the next packet of a request: of its turn; a Request has the size told, and an RFR wants a part
-- that the answer has
pub record Next (l : Served) (h : MessageHeader) : Type 0 where
  pub turn : h.number ≡ l.taken
  pub sized : is_rfr h.kind ≡ false → h.size ≡ l.size
  pub wants : is_rfr h.kind ≡ true → is_past_end l.size (option_map length l.answer) h.number ≡ false

wants-by : (rfr past : Bool) → (rfr && past) ≡ false → rfr ≡ true → past ≡ false
wants-by true past e f = e
wants-by false past e f = cc

sized-by : (rfr low typed same : Bool) → cond rfr low (not (typed && same)) ≡ false → rfr ≡ false → same ≡ true
sized-by true low typed same e f = cc
sized-by false low typed same e f = (and_parts typed same (not-false (typed && same) e)).1

own-next : (mode : Mode) (full lacks : Bool) (l : Served) (h : MessageHeader)
    → own_row mode full lacks (newest_of l) h ≡ Takes → Next l h
own-next mode full lacks l h e =
    let one = not-takes _ (Drops Mismatch) _ (drops-takes Mismatch) e in
    let two = not-takes (ltb l.taken h.number) (Drops Ahead) _ (drops-takes Ahead) one.1 in
    let three = not-takes (ltb h.number l.taken) _ _ (before-takes (is_worked_on (newest_of l) h.number)) two.1 in
    let past = is_past_end l.size (option_map length l.answer) h.number in
    let four = not-takes (is_rfr h.kind && past) (Drops Beyond) _ (drops-takes Beyond) three.1 in
    let low = ltb-false l.taken h.number two.0 in
    let high = ltb-false h.number l.taken three.0 in
    record {
      turn = omega arith;
      wants = wants-by (is_rfr h.kind) past four.0;
      sized = λ f. eqb-true h.size l.size (sized-by (is_rfr h.kind)
          (ltb h.number (packet_count l.size)) (h.req_type == l.req_type)
          (h.size == l.size) one.0 f);
    }

-- a row that begins or takes, by the newest request of the slot
pub record Starts (o : Option Served) (h : MessageHeader) : Type 0 where
  pub first : h.number ≡ 0
  pub newer : Newer h.request o

pub starts-slot : (mode : Mode) (full lacks : Bool) (o : Option Served) (h : MessageHeader)
    → slot_row mode full lacks o h ≡ Begins → Starts o h
starts-slot mode full lacks None h e = record { first = new-first mode false full lacks h e; newer = tt }
starts-slot mode full lacks (Some l) h e =
    let one = not-begins (ltb h.request l.number) (Drops Old) _ (drops-begins Old) e in
    by (ltb l.number h.request) refl one.1
  where
    by : (b : Bool) → ltb l.number h.request ≡ b
        → cond b (new_row mode l.working full lacks h) (own_row mode full lacks (newest_of l) h)
        ≡ Begins → Starts (Some l) h
    by true t k = record { first = new-first mode l.working full lacks h k; newer = ltb-true l.number h.request t }
    by false t k = absurd (own-begins mode full lacks l h k)

-- a packet that goes on with the request that stands in its slot
pub record Continues (o : Option Served) (h : MessageHeader) : Type 0 where
  pub served : Served
  pub is_served : o ≡ Some served
  pub own : served.number ≡ h.request
  pub next : Next served h

pub continues-slot : (mode : Mode) (full lacks : Bool) (o : Option Served) (h : MessageHeader)
    → slot_row mode full lacks o h ≡ Takes → Continues o h
continues-slot mode full lacks None h e = absurd (new-takes mode false full lacks h e)
continues-slot mode full lacks (Some l) h e =
    let one = not-takes (ltb h.request l.number) (Drops Old) _ (drops-takes Old) e in
    let low = ltb-false h.request l.number one.0 in
    by (ltb l.number h.request) refl low one.1
  where
    by : (b : Bool) → ltb l.number h.request ≡ b → l.number ≤ h.request
        → cond b (new_row mode l.working full lacks h) (own_row mode full lacks (newest_of l) h)
        ≡ Takes → Continues (Some l) h
    by true t low k = absurd (new-takes mode l.working full lacks h k)
    by false t low k =
        let high = ltb-false l.number h.request t in
        record { served = l; is_served = refl; own = omega arith; next = own-next mode full lacks l h k }

-- a packet that was taken before is of the request that stands in its slot
pub not-repeats : (b : Bool) (x r : ServerRow) → (x ≡ Repeats → ⊥) → cond b x r ≡ Repeats
    → (b ≡ false) × (r ≡ Repeats)
not-repeats true x r h e = absurd (h e)
not-repeats false x r h e = (refl, e)

pub drops-repeats : (why : DropReason) → Drops why ≡ Repeats → ⊥
drops-repeats why e = cc

begins-repeats : Begins ≡ Repeats → ⊥
begins-repeats e = cc

new-repeats : (mode : Mode) (working full lacks : Bool) (h : MessageHeader)
    → new_row mode working full lacks h ≡ Repeats → ⊥
new-repeats mode working full lacks h e =
    let one = not-repeats (is_rfr h.kind || not (h.number == 0)) (Drops NotFirst) _ (drops-repeats NotFirst) e in
    let two = not-repeats working (Drops Working) _ (drops-repeats Working) one.1 in
    let three = not-repeats (not (is_handled mode)) (Drops Unserved) _ (drops-repeats Unserved) two.1 in
    let four = not-repeats (makes_job mode h && full) (Drops JobsFull) _ (drops-repeats JobsFull) three.1 in
    let five = not-repeats lacks (Drops NoMemory) Begins (drops-repeats NoMemory) four.1 in
    begins-repeats five.1

takes-repeats : Takes ≡ Repeats → ⊥
takes-repeats e = cc

-- a packet that was taken before is of a number below those that are taken next
own-repeats : (mode : Mode) (full lacks : Bool) (l : Served) (h : MessageHeader)
    → own_row mode full lacks (newest_of l) h ≡ Repeats → h.number < l.taken
own-repeats mode full lacks l h e =
    let one = not-repeats _ (Drops Mismatch) _ (drops-repeats Mismatch) e in
    let two = not-repeats (ltb l.taken h.number) (Drops Ahead) _ (drops-repeats Ahead) one.1 in
    by (ltb h.number l.taken) refl two.1
  where
    by : (b : Bool) → ltb h.number l.taken ≡ b
        → cond b (repeated_row (newest_of l) h.number)
        (cond (is_rfr h.kind && is_past_end l.size (option_map length l.answer) h.number)
        (Drops Beyond) (cond (makes_job mode h && full) (Drops JobsFull)
        (cond (lacks && is_last h) (Drops NoMemory) Takes))) ≡ Repeats → h.number < l.taken
    by true t k = ltb-true h.number l.taken t
    by false t k =
        let four = not-repeats _ (Drops Beyond) _ (drops-repeats Beyond) k in
        let five = not-repeats _ (Drops JobsFull) _ (drops-repeats JobsFull) four.1 in
        let six = not-repeats _ (Drops NoMemory) Takes (drops-repeats NoMemory) five.1 in
        absurd (takes-repeats six.1)

pub record Repeated (o : Option Served) (h : MessageHeader) : Type 0 where
  pub served : Served
  pub is_served : o ≡ Some served
  pub own : served.number ≡ h.request
  pub before : h.number < served.taken

pub repeats-slot : (mode : Mode) (full lacks : Bool) (o : Option Served) (h : MessageHeader)
    → slot_row mode full lacks o h ≡ Repeats → Repeated o h
repeats-slot mode full lacks None h e = absurd (new-repeats mode false full lacks h e)
repeats-slot mode full lacks (Some l) h e =
    let one = not-repeats (ltb h.request l.number) (Drops Old) _ (drops-repeats Old) e in
    let low = ltb-false h.request l.number one.0 in
    by (ltb l.number h.request) refl low one.1
  where
    by : (b : Bool) → ltb l.number h.request ≡ b → l.number ≤ h.request
        → cond b (new_row mode l.working full lacks h) (own_row mode full lacks (newest_of l) h)
        ≡ Repeats → Repeated (Some l) h
    by true t low k = absurd (new-repeats mode l.working full lacks h k)
    by false t low k =
        let high = ltb-false l.number h.request t in
        record {
          served = l;
          is_served = refl;
          own = omega arith;
          before = own-repeats mode full lacks l h k;
        }

pub last-parts : (h : MessageHeader) → is_last h ≡ true → (is_rfr h.kind ≡ false)
    × (h.number + 1 ≡ packet_count h.size)
last-parts h e =
    let parts = and_parts (not (is_rfr h.kind)) (h.number + 1 == packet_count h.size) e in
    (not-true (is_rfr h.kind) parts.0, eqb-true (h.number + 1) (packet_count h.size) parts.1)
