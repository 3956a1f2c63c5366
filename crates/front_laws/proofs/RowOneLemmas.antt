-- Of the fronts of some facts at most one is what the inbox gives, and what the ring gives, whatever memory
-- wants and handlers answer.
use Rattle.std.proofs.Common.{◌≡◌, ℕ, Bool, true, false, cond, ◌||◌, List, [], ◌∷◌, ◌++◌}
use Rattle.std.proofs.Common.{Option, Some, None, refl, sym, ap, ◌∙◌, subst, append_assoc, slice_get, true≢false}
use Rattle.std.specs.List.{find}
use Rattle.packet_header.specs.declared.packet.ControlHeader.{ControlHeader}
use Rattle.packet_header.specs.declared.packet.ControlKind.{ControlKind}
use Rattle.packet_header.specs.declared.packet.ControlKind.TheVariants.{ConnectRequest}
use Rattle.packet_header.specs.declared.packet.ControlKind.TheVariants.{ConnectReply}
use Rattle.packet_header.specs.declared.packet.ControlKind.TheVariants.{DisconnectRequest}
use Rattle.packet_header.specs.declared.packet.ControlKind.TheVariants.{DisconnectReply}
use Rattle.rpc_base.specs.declared.event.Event.{Event}
use Rattle.rpc_base.specs.declared.event.Event.TheVariants.{Starved}
use Rattle.rpc_base.specs.declared.fact.Fact.{Fact}
use Rattle.rpc_laws.specs.declared.rows.ControlRow.{ControlRow}
use Rattle.rpc_laws.specs.declared.rows.ControlRow.TheVariants.{Declines, Ignores, Starves, Accepts}
use Rattle.rpc_laws.specs.declared.tables.Arrival.{Arrival}
use Rattle.rpc_laws.specs.declared.tables.Lists.{Lists}
use Rattle.rpc_laws.specs.declared.tables.Server.{Server}
use Rattle.rpc_laws.specs.ControlSteps.{AnswersControl, EndsAllOutdated, EndsOutdated, Hears, HearsAll}
use Rattle.rpc_laws.specs.ControlSteps.{SpeaksIf, TakesControl}
use Rattle.rpc_laws.specs.ControlTable.{confirm_row, control_facts, control_reply, control_row, control_row_of}
use Rattle.rpc_laws.specs.ControlTable.{is_end_of, is_stale, outdated, session_end}
use Rattle.rpc_laws.specs.Front.{control_of}
use Rattle.rpc_laws.specs.Groups.{has_no_room, servers_spent}
use Rattle.rpc_laws.specs.declared.tables.Timed.{Timed}
use Rattle.rpc_laws.specs.Steps.{Then}
use Rattle.front_laws.proofs.OneWayLemmas.{back-same, goes-one, OneWay, then-one, until-one}
use Rattle.front_laws.proofs.PhaseLemmas.{said-one}

-- two rows of one control packet: the same, or memory was wanting in one of them
data Differ (a b : ControlRow) : Type 0 where
  same : a ≡ b → Differ a b
  wants : (n : ℕ) → a ≡ Starves → b ≡ Accepts n → Differ a b
  wanted : (n : ℕ) → a ≡ Accepts n → b ≡ Starves → Differ a b

new-differs : (b j l : Bool) (n : ℕ)
    → Differ (cond b Declines (cond j Starves (Accepts n))) (cond b Declines (cond l Starves (Accepts n)))
new-differs true j l n = same refl
new-differs false true true n = same refl
new-differs false true false n = wants n refl refl
new-differs false false true n = wanted n refl refl
new-differs false false false n = same refl

confirm-differs : (j l : Bool) (h : ControlHeader) (s : Lists) (o : Option Server)
    → Differ (confirm_row j h s o) (confirm_row l h s o)
confirm-differs j l h s None = new-differs (has_no_room h.credits s || servers_spent s) j l s.server_numbers
confirm-differs j l h s (Some v) = same refl

stale-differs : (b j l : Bool) (h : ControlHeader) (s : Lists) (o : Option Server)
    → Differ (cond b Ignores (confirm_row j h s o)) (cond b Ignores (confirm_row l h s o))
stale-differs true j l h s o = same refl
stale-differs false j l h s o = confirm-differs j l h s o

kind-differs : (kind : ControlKind) (j l : Bool) (peer : ℕ) (h : ControlHeader) (s : Lists)
    → Differ (control_row_of kind j peer h s) (control_row_of kind l peer h s)
kind-differs ConnectRequest j l peer h s =
    stale-differs (is_stale peer h s) j l h s (find (is_end_of peer h.client h.from_life) s.servers)
kind-differs ConnectReply j l peer h s = same refl
kind-differs DisconnectRequest j l peer h s = same refl
kind-differs DisconnectReply j l peer h s = same refl

abbrev answered : Lists → ℕ → ControlHeader → ControlRow → List Fact → List Fact
answered s peer h row said = control_facts s peer h row ++ said

said-same : (s : Lists) (peer : ℕ) (h : ControlHeader) (row : ControlRow) (a b r q : List Fact)
    → SpeaksIf s.me peer (control_reply s.life h row) a → SpeaksIf s.me peer (control_reply s.life h row) b
    → answered s peer h row a ++ r ≡ answered s peer h row b ++ q
    → answered s peer h row a ≡ answered s peer h row b
said-same s peer h row a b r q x y e =
    let front = control_facts s peer h row in
    let rest : a ++ r ≡ b ++ q = back-same front front (a ++ r) (b ++ q) refl
    (sym (append_assoc front a r) ∙ (e ∙ append_assoc front b q)) in
    ap (λ (z : List Fact). front ++ z) (said-one s.me peer (control_reply s.life h row) a b r q x y rest)

is_starved : Event → Bool
is_starved (Starved peer c n) = true
is_starved _ = false

-- whether the first fact says that memory was wanting
first_starves : List Fact → Bool
first_starves [] = false
first_starves (f ∷ x) = is_starved f.event

starved-first : (s : Lists) (peer : ℕ) (h : ControlHeader) (a r : List Fact)
    → first_starves (answered s peer h Starves a ++ r) ≡ true
unfolding first_starves is_starved
starved-first s peer h a r = refl

accepted-first : (s : Lists) (peer : ℕ) (h : ControlHeader) (n : ℕ) (a r : List Fact)
    → first_starves (answered s peer h (Accepts n) a ++ r) ≡ false
unfolding first_starves is_starved
accepted-first s peer h n a r = refl

rows-one : (s : Lists) (peer : ℕ) (h : ControlHeader) (c d : ControlRow) (a b r q : List Fact) → Differ c d
    → SpeaksIf s.me peer (control_reply s.life h c) a → SpeaksIf s.me peer (control_reply s.life h d) b
    → answered s peer h c a ++ r ≡ answered s peer h d b ++ q
    → answered s peer h c a ≡ answered s peer h d b
rows-one s peer h c d a b r q (same e) x y f =
    let z = subst (λ (k : ControlRow). SpeaksIf s.me peer (control_reply s.life h k) b) (sym e) y in
    let g = subst (λ (k : ControlRow). answered s peer h c a ++ r ≡ answered s peer h k b ++ q) (sym e) f in
    said-same s peer h c a b r q x z g ∙ ap (λ (k : ControlRow). answered s peer h k b) e
rows-one s peer h c d a b r q (wants n e g) x y f =
    let one = subst (λ (k : ControlRow). answered s peer h k a ++ r ≡ answered s peer h d b ++ q) e f in
    let two = subst (λ (k : ControlRow). answered s peer h Starves a ++ r ≡ answered s peer h k b ++ q) g one in
    absurd (starved-accepted two)
  where
    starved-accepted : answered s peer h Starves a ++ r ≡ answered s peer h (Accepts n) b ++ q → ⊥
    starved-accepted k =
        true≢false (sym (starved-first s peer h a r) ∙ (ap first_starves k ∙ accepted-first s peer h n b q))
rows-one s peer h c d a b r q (wanted n e g) x y f =
    let one = subst (λ (k : ControlRow). answered s peer h k a ++ r ≡ answered s peer h d b ++ q) e f in
    let two = subst (λ (k : ControlRow). answered s peer h (Accepts n) a ++ r ≡ answered s peer h k b ++ q) g one in
    absurd (accepted-starved two)
  where
    accepted-starved : answered s peer h (Accepts n) a ++ r ≡ answered s peer h Starves b ++ q → ⊥
    accepted-starved k =
        true≢false (sym (starved-first s peer h b q) ∙ (ap first_starves (sym k) ∙ accepted-first s peer h n a r))

pub some-same : {A : Type 0} (o : Option A) (x y : A) → o ≡ Some x → o ≡ Some y → x ≡ y
some-same o x y e f = cc

-- the answer to a control packet
answers-as : (s : Lists) (peer : ℕ) (h : ControlHeader) (j l : Bool) (a b x y r q : List Fact)
    → SpeaksIf s.me peer (control_reply s.life h (control_row j peer h s)) a
    → SpeaksIf s.me peer (control_reply s.life h (control_row l peer h s)) b
    → x ≡ answered s peer h (control_row j peer h s) a → y ≡ answered s peer h (control_row l peer h s) b
    → x ++ r ≡ y ++ q → x ≡ y
answers-as s peer h j l a b x y r q speaks other one two e =
    let both = subst (λ (z : List Fact). z ++ r ≡ answered s peer h (control_row l peer h s) b ++ q) one
    (subst (λ (z : List Fact). x ++ r ≡ z ++ q) two e) in
    one ∙ (rows-one s peer h _ _ a b r q (kind-differs h.kind j l peer h s) speaks other both ∙ sym two)

pub answers-one : (peer : ℕ) (h : ControlHeader) → OneWay (AnswersControl peer h)
answers-one peer h s x y r q t u a b e =
    goes-one s x y t u a.goes b.goes
    (answers-as s.lists peer h a.lacks b.lacks a.said b.said x y r q a.speaks b.speaks a.facts b.facts e)

-- what it outdates ends before
pub ends-one : (peer : ℕ) (h : ControlHeader) → OneWay (EndsOutdated peer h)
ends-one peer h s x y r q t u a b e =
    let server : a.server ≡ b.server =
    some-same (outdated peer h s.lists) a.server b.server a.is_outdated b.is_outdated in
    goes-one s x y t u a.goes b.goes
    (a.facts ∙ (ap (λ (v : Server). session_end s.lists.me s.lists.queued (Some v)) server ∙ sym b.facts))

pub ends-all-one : (peer : ℕ) (h : ControlHeader) → OneWay (EndsAllOutdated peer h)
ends-all-one peer h =
    until-one (EndsOutdated peer h) (λ t. outdated peer h t.lists ≡ None) (ends-one peer h)
    (λ s x t over a. let no : Some a.server ≡ None = sym a.is_outdated ∙ over in cc)

pub takes-one : OneWay TakesControl
takes-one s x y r q t u a b e = goes-one s x y t u a.goes b.goes (a.facts ∙ sym b.facts)

steps-one : (peer : ℕ) (h : ControlHeader)
    → OneWay (Then TakesControl (Then (EndsAllOutdated peer h) (AnswersControl peer h)))
steps-one peer h =
    then-one TakesControl (Then (EndsAllOutdated peer h) (AnswersControl peer h)) takes-one
    (then-one (EndsAllOutdated peer h) (AnswersControl peer h) (ends-all-one peer h) (answers-one peer h))

-- the steps of one control packet, said of a given one
abbrev HearsAs : Timed → Arrival → ControlHeader → List Fact → Timed → Type 0
HearsAs s front h x t =
    Then TakesControl (Then (EndsAllOutdated front.peer h) (AnswersControl front.peer h)) s x t

pub hears-one : OneWay Hears
hears-one s x y r q t u h k e =
    let front : k.front ≡ h.front = some-same (slice_get s.lists.inbox 0) k.front h.front k.is_front h.is_front in
    let reads : control_of h.front.bytes ≡ Some k.header =
    subst (λ (a : Arrival). control_of a.bytes ≡ Some k.header) front k.reads in
    let header : k.header ≡ h.header = some-same (control_of h.front.bytes) k.header h.header reads h.reads in
    let moved : HearsAs s h.front k.header y u =
    subst (λ (a : Arrival). HearsAs s a k.header y u) front k.steps in
    let other : HearsAs s h.front h.header y u =
    subst (λ (c : ControlHeader). HearsAs s h.front c y u) header moved in
    steps-one h.front.peer h.header s x y r q t u h.steps other e

pub inbox-front : (inbox : List Arrival) (a : Arrival) → slice_get inbox 0 ≡ Some a → inbox ≡ [] → ⊥
inbox-front [] a h e = cc
inbox-front (b ∷ inbox) a h e = cc

pub hears-all-one : OneWay HearsAll
hears-all-one =
    until-one Hears (λ t. t.lists.inbox ≡ []) hears-one
    (λ s x t over h. inbox-front s.lists.inbox h.front h.is_front over)
